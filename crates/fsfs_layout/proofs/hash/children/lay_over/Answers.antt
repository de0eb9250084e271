use Rattle.std.proofs.Common.{◌≡◌, ◌+◌, ◌++◌, ◌∷◌, [], ℕ, List, Option, None, take, get_or, sym, ap, ◌∙◌}
use Rattle.std.specs.Borrow.{Bor}
use Rattle.std.specs.Prelude.{option_map}
use Rattle.std.proofs.lemmas.List.{map_more}
use Rattle.fsfs_layout.specs.Hash.Reading.{change_views}
use Rattle.fsfs_layout.specs.Hash.Dump.{put}
use Rattle.fsfs_layout.specs.Hash.Children.{change, change_all}
use Rattle.fsfs_layout.proofs.ManyLoops.{change_all-push}
use Rattle.fsfs_layout.proofs.hash.children.lay_over.Goals as goal
use Rattle.fsfs_layout.proofs.hash.children.lay_over.Goals.{in-None, in-Some+in_ok-key-in-Some+in_ok-value-in-Some+in_ok-set-in-Some}

abbrev Slice : Type 0
Slice = Bor (List ℕ)

abbrev nowhere : Slice × Option Slice
nowhere = (record { ref_ptr = (0, 0); now = [] }, None)

pub loop-key-preserved : goal.loop-key-preserved
loop-key-preserved c =
    let x = get_or c.args.changes.now c.loop-key.key-index nowhere in
    let more : change_views (take (c.loop-key.key-index + 1) c.args.changes.now) ≡ change_views (take c.loop-key.key-index c.args.changes.now) ++ (x.0.now, option_map (λ v. v.now) x.1) ∷ [] =
    map_more (λ (c : Slice × Option Slice). (c.0.now, option_map (λ v. v.now) c.1)) c.args.changes.now c.loop-key.key-index nowhere c.loop-key-test.true in
    let one : c.match-value.pairs ≡ change c.loop-key.pairs (x.0.now, option_map (λ v. v.now) x.1) = elim c.match-value.branch [
      | in-None w ↦ rw w.in-None.is (w.pairs-is ∙ w.remove.ensures)
      | in-Some+in_ok-key-in-Some+in_ok-value-in-Some+in_ok-set-in-Some w ↦ rw w.in-Some.is (w.pairs-is ∙ w.in_ok-set-in-Some.ensures.ok ∙ (λ i. put c.loop-key.pairs (w.in_ok-key-in-Some.ensures.items i, w.in_ok-value-in-Some.ensures.items i)))
    ] in
    one ∙ ap (λ p. change p (x.0.now, option_map (λ v. v.now) x.1)) c.loop-key.invariant ∙ sym (change_all-push c.args.pairs.now (change_views (take c.loop-key.key-index c.args.changes.now)) (x.0.now, option_map (λ v. v.now) x.1)) ∙ ap (change_all c.args.pairs.now) (sym more)
