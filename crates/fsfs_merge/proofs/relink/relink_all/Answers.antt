use Rattle.std.proofs.Common.{◌≡◌, ◌∙◌, ◌++◌, ◌∷◌, [], List, sym, subst, refl, append_assoc, append-nil, rules}
use Rattle.std.proofs.lemmas.List.{nil_from_length}
use Rattle.std.proofs.lemmas.Result.{err_from_is_err_and}
use Rattle.fsfs_merge.specs.declared.clash.merged.MergedDir.{MergedDir}
use Rattle.fsfs_merge.specs.Relinked.{AreRelinked}
use Rattle.fsfs_merge.proofs.Writing.{none_written, one_written, never_here}
use Rattle.fsfs_merge.proofs.Answering.{want_as}
use Rattle.fsfs_merge.proofs.relink.relink_all.Goals as goal

pub loop-dir-init : goal.loop-dir-init
loop-dir-init g c = record {
  settled = refl;
  name = refl;
  quiet = refl;
  done = [];
  all = sym (append-nil c.args.dirs.items);
  written = none_written (g.N.Own.folder c.args.own.now);
}

pub loop-dir-preserved : goal.loop-dir-preserved
loop-dir-preserved g c =
    let so = c.loop-dir.invariant in
    record {
      settled = c.in_ok-relink_one.ensures.settled ∙ so.settled;
      name = c.in_ok-relink_one.ensures.name ∙ so.name;
      quiet = c.in_ok-relink_one.ensures.bench.kept ∙ so.quiet;
      done = c.in-Some.dir ∷ so.done;
      all = subst (λ (l : List MergedDir). c.args.dirs.items ≡ l ++ so.done) c.in-Some.ensures.items so.all ∙ append_assoc c.pop.new.self.items (c.in-Some.dir ∷ []) so.done;
      written = one_written (g.N.Own.folder c.args.own.now) (g.N.Own.folder c.loop-dir.own) (g.N.Own.folder c.relink_one.new.own) so.done c.in-Some.dir so.written c.in_ok-relink_one.ensures.done;
    }

pub returns-in_err-relink_one-clause-cause : goal.returns-in_err-relink_one-clause-cause
returns-in_err-relink_one-clause-cause g c =
    let so = c.loop-dir.invariant in
    let r = err_from_is_err_and c.from_residual.result c.from_residual.ensures.1 in
    let all = subst (λ (l : List MergedDir). c.args.dirs.items ≡ l ++ so.done) c.in-Some.ensures.items so.all ∙ append_assoc c.pop.new.self.items (c.in-Some.dir ∷ []) so.done in
    rw (r.1, r.2) (want_as c.in_err-relink_one.field-0.0 _ _ (λ none. never_here (g.N.Own.folder c.args.own.now) (g.N.Own.folder c.loop-dir.own) c.args.dirs.items c.pop.new.self.items so.done c.in-Some.dir all so.written none) c.in_err-relink_one.ensures.cause)

pub returns-clause-done : goal.returns-clause-done
returns-clause-done g c =
    let so = c.loop-dir.invariant in
    let none : c.loop-dir.left.items ≡ [] = nil_from_length c.loop-dir.left.items (search rules) in
    let all : c.args.dirs.items ≡ so.done = subst (λ (l : List MergedDir). c.args.dirs.items ≡ l ++ so.done) none so.all in
    subst (λ (l : List MergedDir). AreRelinked (g.N.Own.folder c.args.own.now) (g.N.Own.folder c.loop-dir.own) l) (sym all) so.written
