use Rattle.std.proofs.Common.{◌≡◌, ◌+◌, ◌∙◌, [], ◌∷◌, ◌++◌, take, sym, subst, get_or, ℕ, List}
use Rattle.std.specs.Borrow.{Bor}
use Rattle.std.specs.declared.cmp.Ordering.TheVariants.{Less}
use Rattle.std.specs.Ordering.{nat_cmp}
use Rattle.std.specs.Cmp.Lexicographic.{slice_cmp}
use Rattle.std.proofs.lemmas.List.{map_more, take_all}
use Rattle.fsfs_layout.specs.Hash.Dump.{Ascending}
use Rattle.fsfs_layout.specs.Hash.Reading.{views}
use Rattle.fsfs_layout.proofs.Rising.{Rise, rises_none, rises_more}
use Rattle.fsfs_layout.proofs.hash.in_place.rises.Goals as goal

abbrev Two : Type 0
Two = Bor (List ℕ) × Bor (List ℕ)

pub loop-e-init : goal.loop-e-init
loop-e-init c = rises_none _

pub loop-e-preserved : goal.loop-e-preserved
loop-e-preserved c =
    let d : Two = (record { ref_ptr = (0, 0); now = [] }, record { ref_ptr = (0, 0); now = [] }) in
    let x = get_or c.args.found.now c.loop-e.e-index d in
    let less : slice_cmp nat_cmp c.loop-e.last.now x.0.now ≡ Less = sym c.cmp.ensures ∙ c.in-Less.is in
    let more : views (take (c.loop-e.e-index + 1) c.args.found.now) ≡ views (take c.loop-e.e-index c.args.found.now) ++ (x.0.now, x.1.now) ∷ [] = map_more (λ (e : Two). (e.0.now, e.1.now)) c.args.found.now c.loop-e.e-index d c.loop-e-test.true in
    subst (λ (ps : List (List ℕ × List ℕ)). Rise x.0.now ps) (sym more) (rises_more c.loop-e.last.now (views (take c.loop-e.e-index c.args.found.now)) (x.0.now, x.1.now) c.loop-e.invariant less)

pub returns : goal.returns
returns c = λ yes. subst (λ (ps : List Two). Ascending (views ps)) (take_all c.loop-e.e-index c.args.found.now c.loop-e-test.false) c.loop-e.invariant.order
