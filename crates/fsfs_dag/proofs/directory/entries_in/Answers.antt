use Rattle.std.proofs.Common.{ℕ, List, subst}
use Rattle.std.proofs.lemmas.Result.{err_from_is_err_and}
use Rattle.std.specs.Borrow.{Bor}
use Rattle.std.specs.declared.vec.Vec.{Vec}
use Rattle.std.specs.declared.alloc.Global.{Global}
use Rattle.fsfs_layout.specs.Hash.Reading.{views}
use Rattle.fsfs_revision.specs.Damage.Readings.{Answers}
use Rattle.fsfs_revision.specs.Shows.Reading.{PairsIn, EntriesIn}
use Rattle.fsfs_revision.proofs.Answering.{stops, goes_on}
use Rattle.fsfs_dag.proofs.PairLemmas.{entries_seen}
use Rattle.fsfs_dag.proofs.directory.entries_in.Goals as goal

abbrev Two : Type 0
Two = Bor (List ℕ) × Bor (List ℕ)

pub returns-in_err-pairs-clause-told : goal.returns-in_err-pairs-clause-told
returns-in_err-pairs-clause-told c =
    let p = err_from_is_err_and c.from_residual.result c.from_residual.ensures.1 in
    rw (p.1, p.2) (stops (λ (v : Vec Two Global). views v.items) entries_seen c.in_err-pairs.field-0.0 (PairsIn c.args.rep.now c.args.bytes.now) (EntriesIn c.args.home.now c.args.rep.now) c.in_err-pairs.ensures.told)

pub returns-clause-told : goal.returns-clause-told
returns-clause-told c =
    let found = subst (λ (ps : List Two). Answers entries_seen (EntriesIn c.args.home.now c.args.rep.now (views ps)) c.entries_of.result) c.deref.ensures.value c.entries_of.ensures.told in
    goes_on entries_seen c.entries_of.result (PairsIn c.args.rep.now c.args.bytes.now) (EntriesIn c.args.home.now c.args.rep.now) (views c.in_ok-pairs.pairs.items) c.in_ok-pairs.ensures.told found
