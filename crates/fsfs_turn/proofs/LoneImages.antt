-- Each image of a store whose pass is alone stands for what the pass has seen, but for a revision in doubt.
use Rattle.std.proofs.Common.{◌≡◌, ◌<◌, ◌≤◌, ◌+◌, ◌++◌, ℕ, List, length, ⊎_elim, sym, ap, subst, ◌∙◌, arith, drop}
use Rattle.std.specs.Prelude.{Option, Some, None, IfSome}
use Rattle.fsfs_base.specs.Files.{Files}
use Rattle.fsfs_layout.specs.declared.layout.Layout.{Layout}
use Rattle.fsfs_disk.specs.Trace.{Trace, IsImage, ImageSince}
use Rattle.fsfs_stands.specs.Files.{StandsFor}
use Rattle.fsfs_base.specs.declared.places.place.DiskPlace.{DiskPlace}
use Rattle.fsfs_machine.specs.declared.machine.Recorded.{Recorded}
use Rattle.fsfs_machine.specs.declared.machine.Coming.{Coming}
use Rattle.fsfs_machine.specs.Machine.{revisions}
use Rattle.fsfs_machine.specs.Kept.{Follows}
use Rattle.fsfs_turn.specs.Past.{doubt, IsPart}
use Rattle.fsfs_turn.specs.Views.{View}
use Rattle.fsfs_turn.specs.Whole.{HasHistory}
use Rattle.fsfs_turn.specs.Alone.{KnowsAlone, LoneImages, LoneImagesStand, NothingInDoubt, NoneLeftStands}
use Rattle.fsfs_turn.proofs.Stepping.{take_drop}
use Rattle.fsfs_turn.proofs.Locking.{free, doubt_left}
use Rattle.fsfs_turn.proofs.Wholeness.{has_history, part_shown, if_doubtful}
use Rattle.fsfs_turn.proofs.OwnFiles.{own_now}
use Rattle.fsfs_turn.proofs.Standings.{files_stand, part_stands}
use Rattle.fsfs_turn.proofs.Alone.{same_by_length}

some_is_none : {A : Type 0} (x : A) → None ≡ Some x → ⊥
some_is_none x e = cc

-- a part that has all of it, where there is no doubt
all_of_it : (h g : List Recorded) (d : Option Coming) → d ≡ None → IsPart h d g → length h ≤ length g → g ≡ h
all_of_it h g d is part le = ⊎_elim (λ b. sym (same_by_length g h b le)) (λ y. absurd (some_is_none y.0 (sym is ∙ y.1))) part

module _ (layout : Layout) (low young : ℕ) (stuck : Option DiskPlace) (t : Trace) (v : View) (known : KnowsAlone layout low young stuck (Some t) v) where
  long : length known.0.0.history ≡ length v.seen
  long = let up : known.0.0.young + 1 ≡ length known.0.0.history = known.0.1.kept.young known.0.2.up in omega (arith, up, known.0.1.young_is, known.1.all)

  -- it has seen the history
  pub all_seen : known.0.0.history ≡ v.seen
  all_seen = same_by_length v.seen known.0.0.history (drop v.pass.seen known.0.0.history, take_drop v.pass.seen known.0.0.history ∙ ap (λ l. l ++ drop v.pass.seen known.0.0.history) (sym known.0.2.seen)) (omega (arith, long))

  -- the revision in doubt follows it
  follows : IfSome (doubt known.0.0.lock) (Follows v.seen)
  follows = subst (λ h. IfSome (doubt known.0.0.lock) (Follows h)) all_seen (if_doubtful (Follows known.0.0.history) known.0.0.lock known.0.1.kept.next)

  quiet : v.section ≡ None → stuck ≡ None → doubt known.0.0.lock ≡ None
  quiet outside unstuck = ap (λ l. doubt l) (free layout low young stuck t known.0.0 v known.0.1 known.0.2 known.0.3 known.0.4 known.0.5 known.0.6 known.0.7 outside unstuck)

  -- the same of each moment since the opening, in the middle of a call too
  moment_stands : (m : Files) → ImageSince v.since.operations t.first t.operations m → (g : List Recorded) × IsPart v.seen (doubt known.0.0.lock) g × (v.opened ≤ length g) × HasHistory layout m g × StandsFor m (revisions g)
  moment_stands m image =
      let w = known.0.0 in
      let store = known.0.1 in
      let left = known.0.5 m image in
      let stood = left.2 in
      let p = stood.3 in
      let names = p.1.1 in
      let some : 0 < length p.0 = omega (arith, names.2) in
      let has = has_history layout stood.0 m left.0 p.0 stood.1 stood.2 left.1 p.1 (part_shown w.history w.lock p.0 store.shown store.coming some p.3) in (
        p.0,
        subst (λ h. IsPart h (doubt w.lock) p.0) all_seen p.3,
        p.2,
        has,
        files_stand layout stood.0 m left.0 p.0 stood.1 left.1 stood.2 stood.4 p.4 has (known.2 m image).0,
      )

  image_stands : (m : Files) → IsImage t.first t.operations m → (g : List Recorded) × IsPart v.seen (doubt known.0.0.lock) g × (length v.seen ≤ length g) × HasHistory layout m g × StandsFor m (revisions g)
  image_stands m image =
      let p = part_stands layout low young stuck t v known.0 ((own_now layout v.since t known.2).0) m image in (p.0, subst (λ h. IsPart h (doubt known.0.0.lock) p.0) all_seen p.1, omega (arith, p.2, long), p.3, p.4)

  pub lone_images : LoneImages layout stuck t v
  lone_images = record { doubt = doubt known.0.0.lock; follows = follows; moments = moment_stands; now = image_stands; certain = quiet; left = doubt_left layout low young stuck t known.0.0 v known.0.1 known.0.2 known.0.3 known.0.4 known.0.5 known.0.6 known.0.7 }

pub lone_images_stand : LoneImagesStand
lone_images_stand layout low young stuck t v known = lone_images layout low young stuck t v known

pub nothing_in_doubt : NothingInDoubt
nothing_in_doubt layout low young stuck t v known outside harmless =
    let unstuck : stuck ≡ None = known.1.free harmless in (
      unstuck,
      λ m image.
          let l = lone_images layout low young stuck t v known in
          let s = l.now m image in
          let same : s.0 ≡ v.seen = all_of_it v.seen s.0 l.doubt (l.certain outside unstuck) s.1 s.2 in
          (subst (λ g. HasHistory layout m g) same s.3, subst (λ g. StandsFor m (revisions g)) same s.4),
    )

pub none_left_stands : NoneLeftStands
none_left_stands layout low young stuck t v known outside none m image =
    let l = lone_images layout low young stuck t v known in
    let s = l.now m image in
    let same : s.0 ≡ v.seen = all_of_it v.seen s.0 l.doubt (l.left outside ∙ none) s.1 s.2 in
    (subst (λ g. HasHistory layout m g) same s.3, subst (λ g. StandsFor m (revisions g)) same s.4)
