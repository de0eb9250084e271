use Rattle.std.proofs.Common.{ℕ, List, length, take, refl}
use Rattle.std.proofs.lemmas.Result.{err_from_is_err_and}
use Rattle.fsfs_revision.specs.Told.{part_read}
use Rattle.fsfs_fetch.specs.ViewLemmas.{later_more}
use Rattle.fsfs_fetch.proofs.DirectLemmas.{finds_later, finds_more, gives_at}
use Rattle.fsfs_fetch.proofs.TellingLemmas.{keeps, revs_above, revs_there, above_gives}
use Rattle.fsfs_fetch.proofs.direct.DirectBook.read_rev.Goals as goal

pub returns-in_err-check_rev-clause-told : goal.returns-in_err-check_rev-clause-told
returns-in_err-check_rev-clause-told g c = λ read told.
    let v = g.R.Reads.view c.args.self.now.reads in
    let w = g.R.Reads.view c.check_rev.new.reads in
    let r = err_from_is_err_and c.from_residual.result c.from_residual.ensures.1 in
    let a = c.in_err-check_rev.ensures.above in
    let none = revs_above v w c.args.self.now.floor c.args.self.now.kept c.args.rev a.0 read c.in_err-check_rev.ensures.later a.1 a.2 told in
    rw (r.1, r.2) (above_gives {X = ℕ} {Y = List ℕ} (λ n. take n c.args.buffer.now) (part_read c.args.rev c.args.offset (length c.args.buffer.now)) c.args.rev a.0 read c.in_err-check_rev.field-0.0 (λ why. refl) a.3 none)

pub returns-in_err-check_rev-clause-kept : goal.returns-in_err-check_rev-clause-kept
returns-in_err-check_rev-clause-kept g c = keeps _ _ _ _ _ _ c.in_err-check_rev.ensures.later (finds_later _ _ _ _ c.in_err-check_rev.ensures.later)

pub returns-clause-told : goal.returns-clause-told
returns-clause-told g c = λ read told.
    let v = g.R.Reads.view c.args.self.now.reads in
    let w = g.R.Reads.view c.check_rev.new.reads in
    let k = revs_there v w c.args.self.now.floor c.args.self.now.kept c.args.rev read c.in_ok-check_rev.ensures.later c.in_ok-check_rev.ensures.there told in
    gives_at {X = ℕ} {Y = List ℕ} (λ n. take n c.part_of.new.buffer) c.part_of.result (part_read c.args.rev c.args.offset (length c.args.buffer.now)) _ _ k.2 (c.part_of.ensures.told k.0 k.1)

pub returns-clause-kept : goal.returns-clause-kept
returns-clause-kept g c =
    keeps _ _ _ _ _ _ (later_more _ _ _ c.in_ok-check_rev.ensures.later c.part_of.ensures.later)
    (finds_more _ _ _ _ _ _ _ _ _ (finds_later _ _ _ _ c.in_ok-check_rev.ensures.later) c.part_of.ensures.finds)
