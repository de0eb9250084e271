use Rattle.std.proofs.Common.{◌≡◌, ◌++◌, ◌∷◌, [], List, ℕ, ◌+◌, true, take, refl, sym, ap, subst, ◌∙◌, arith}
use Rattle.std.proofs.lemmas.List.{take_all, take_more}
use Rattle.fsfs_folders.specs.System.Paths.{has_path}
use Rattle.fsfs_folders.specs.System.CallRecord.{names_after}
use Rattle.fsfs_memcalls.specs.Told.{beginning_of, calls_of}
use Rattle.fsfs_memcalls.proofs.EmptyLemmas.{clear_none, clear_more}
use Rattle.fsfs_memcalls.proofs.emptiness.are_clear.Goals as goal

pub loop-path-init : goal.loop-path-init
loop-path-init c = clear_none (names_after (beginning_of c.args.first.now) (calls_of c.args.calls.now)) c.args.above.now

pub loop-path-preserved : goal.loop-path-preserved
loop-path-preserved c =
    let paths = c.args.paths.now in
    let i = c.loop-path.path-index in
    let path = c.path-item.result in
    clear_more (names_after (beginning_of c.args.first.now) (calls_of c.args.calls.now)) c.args.above.now path (take i paths) (take (i + 1) paths) (c.if-not-is_clear_below.ensures refl) c.loop-path.invariant
    (take_more paths i path (omega arith) ∙ ap (λ (f : List ℕ). take i paths ++ f ∷ []) (sym c.path-item.is))

pub returns : goal.returns
returns c = λ e q has. c.loop-path.invariant q (subst (λ (ps : List (List ℕ)). has_path ps q ≡ true) (sym (take_all c.loop-path.path-index c.args.paths.now (omega arith))) has)
