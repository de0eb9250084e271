use Rattle.std.proofs.Common.{[], ℕ, List, Err, ap, subst}
use Rattle.std.proofs.lemmas.Result.{err_from_is_err_and}
use Rattle.std.specs.declared.vec.Vec.{Vec}
use Rattle.std.specs.declared.alloc.Global.{Global}
use Rattle.fsfs_revision.specs.declared.damage.RevOffset.{RevOffset}
use Rattle.fsfs_revision.specs.Damage.Readings.{AndThen, Answers}
use Rattle.fsfs_revision.specs.Shows.Reading.{RepAt, PairsIn, PairsAt, EntriesIn, EntriesAt}
use Rattle.fsfs_dag.specs.declared.directory.DirEntry.{DirEntry}
use Rattle.fsfs_dag.specs.Views.{home_of, entry_values}
use Rattle.fsfs_revision.proofs.Answering.{stops}
use Rattle.fsfs_dag.proofs.PairLemmas.{Pair, entries_seen, goes_on_through}
use Rattle.fsfs_dag.proofs.Reps.{rep_le, contents_some, contents_none}
use Rattle.fsfs_dag.proofs.directory.entries.Goals as goal

abbrev Pairs : Type 0
Pairs = List Pair

pub returns-in-None-clause-told : goal.returns-in-None-clause-told
returns-in-None-clause-told g c = λ look knows. contents_none [] _ (EntriesAt look (home_of c.args.dir.now.node)) c.args.dir.now.node.text c.in-None.ensures.value (ap (λ (t : List DirEntry). entry_values t) c.new.ensures.items)

pub returns-in_err-bytes-in-Some-clause-told : goal.returns-in_err-bytes-in-Some-clause-told
returns-in_err-bytes-in-Some-clause-told g c = λ look knows.
    let p = err_from_is_err_and c.from_residual.result c.from_residual.ensures.1 in
    let v = c.args.dir.now.node in
    let rep = c.in-Some.rep.now in
    let e = c.in_err-bytes-in-Some.field-0.0 in
    let told = knows _ (rep_le _ rep.rev rep.offset c.in-Some.ensures.before) in
    rw (p.1, p.2) (contents_some entries_seen (Err e) [] (EntriesAt look (home_of v)) v.text rep c.in-Some.ensures.value
    (stops (λ (pairs : Pairs). pairs) entries_seen e (PairsAt look rep) (EntriesIn (home_of v) rep)
    (stops (λ (b : Vec ℕ Global). b.items) (λ (pairs : Pairs). pairs) e (RepAt look rep) (PairsIn rep) (c.in_err-bytes-in-Some.ensures.told look told))))

pub returns-in_ok-bytes-in-Some-clause-told : goal.returns-in_ok-bytes-in-Some-clause-told
returns-in_ok-bytes-in-Some-clause-told g c = λ look knows.
    let v = c.args.dir.now.node in
    let rep = c.in-Some.rep.now in
    let told = knows _ (rep_le _ rep.rev rep.offset c.in-Some.ensures.before) in
    let bytes = c.in_ok-bytes-in-Some.bytes.items in
    let at = subst (λ (a : RevOffset). Answers entries_seen (AndThen (PairsIn rep c.deref.result.now) (EntriesIn a rep)) c.entries_in.result) c.place.ensures c.entries_in.ensures.told in
    let found = subst (λ (b : List ℕ). Answers entries_seen (AndThen (PairsIn rep b) (EntriesIn (home_of v) rep)) c.entries_in.result) c.deref.ensures.value at in
    contents_some entries_seen c.entries_in.result [] (EntriesAt look (home_of v)) v.text rep c.in-Some.ensures.value
    (goes_on_through entries_seen c.entries_in.result (RepAt look rep) (PairsIn rep) (EntriesIn (home_of v) rep) bytes (c.in_ok-bytes-in-Some.ensures.told look told) found)
