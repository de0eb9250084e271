-- What a pass that is alone and added nothing leaves of the history that it saw.
use Rattle.std.proofs.Common.{◌≡◌, ◌≤◌, ◌<◌, ℕ, List, length, ⊎_elim, sym, subst, ◌∙◌, arith}
use Rattle.std.proofs.lemmas.List.{length-map}
use Rattle.std.specs.Prelude.{Option, Some, None, IfSome}
use Rattle.fsfs_base.specs.Files.{Files}
use Rattle.fsfs_layout.specs.Opening.{SaysFormat, small_texts}
use Rattle.fsfs_layout.specs.declared.layout.Layout.{Layout}
use Rattle.fsfs_layout.specs.declared.small_files.format_file.FormatFile.TheVariants.{Known}
use Rattle.fsfs_revision.specs.RevBytes.{rev_bytes}
use Rattle.fsfs_disk.specs.Trace.{Trace, ImageSince, files_now}
use Rattle.fsfs_disk.proofs.CrashLemmas.{files_are_image, image_now}
use Rattle.fsfs_stands.specs.Files.{StandsFor}
use Rattle.fsfs_machine.specs.declared.machine.Coming.{Coming}
use Rattle.fsfs_machine.specs.declared.machine.Recorded.{Recorded}
use Rattle.fsfs_machine.specs.Machine.{revisions}
use Rattle.fsfs_turn.specs.Past.{IsPart}
use Rattle.fsfs_turn.specs.Views.{View}
use Rattle.fsfs_turn.specs.Whole.{HasHistory}
use Rattle.fsfs_turn.proofs.Alone.{same_by_length}
use Rattle.fsfs_turn.proofs.OwnFiles.{were_own}
use Rattle.fsfs_turn.proofs.Standings.{there_below}
use Rattle.fsfs_repo.specs.Known.{HoldBytes}
use Rattle.fsfs_repo.specs.Owned.Crashes.{CrashesLeave}
use Rattle.fsfs_pack_run.specs.Runs.{KeepsHistory}

pub some_is_none : {A : Type 0} (x : A) → None ≡ Some x → ⊥
some_is_none x e = cc

-- a part that has all of it, where nothing is in doubt
all_of_it : (h g : List Recorded) (d : Option Coming) → d ≡ None → IsPart h d g → length h ≤ length g → g ≡ h
all_of_it h g d none part long = ⊎_elim (λ b. sym (same_by_length g h b long)) (λ y. absurd (some_is_none y.0 (sym none ∙ y.1))) part

-- two files that have the bytes beside a revision have the same
same_bytes : (layout : Layout) (before m : Files) (h : List Recorded) → SaysFormat (small_texts before) (Known layout) → HoldBytes before h → HasHistory layout m h → (r : ℕ) → r < length h → rev_bytes layout m r ≡ rev_bytes layout before r
same_bytes layout before m h says had has r less =
    let x = there_below h r less in
    (has.each r x.0 x.1).bytes ∙ sym (had layout says r x.0 x.1)

module _ (layout : Layout) (t : Trace) (u : View) (outside : u.section ≡ None) (clear : u.left ≡ None) (opened : u.opened ≡ length u.seen) (had : HoldBytes u.since.files u.seen) (leaves : CrashesLeave layout (Some t) u) where
  now_too : ImageSince u.since.operations t.first t.operations (files_now t)
  now_too = image_now u.since.operations t.first t.operations (files_now t) (files_are_image t.first t.operations)

  says : SaysFormat (small_texts u.since.files) (Known layout)
  says = (were_own layout u.since (files_now t) (leaves.own (files_now t) now_too)).format

  -- each moment's image has the whole history
  moment : (m : Files) → ImageSince u.since.operations t.first t.operations m → HasHistory layout m u.seen × StandsFor m (revisions u.seen)
  moment m image =
      let g = leaves.moments m image in
      let same : g.0 ≡ u.seen = all_of_it u.seen g.0 leaves.doubt (leaves.left outside ∙ clear) g.1 (omega (arith, opened, g.2)) in
      (subst (λ h. HasHistory layout m h) same g.3, subst (λ h. StandsFor m (revisions h)) same g.4)

  pub keeps_in : KeepsHistory u.since t (revisions u.seen)
  keeps_in = record {
    layout = layout;
    laid = says;
    lasting = λ m image. (leaves.own m image).1;
    bytes = λ m image r less. same_bytes layout u.since.files m u.seen says had (moment m image).0 r (omega (arith, less, length-map u.seen (λ (x : Recorded). x.revision)));
    stands = λ m image. (moment m image).1;
    now = (moment (files_now t) now_too).1;
  }

pub keeps : (layout : Layout) (told : Option Trace) (u : View) → u.section ≡ None → u.left ≡ None → u.opened ≡ length u.seen → HoldBytes u.since.files u.seen → CrashesLeave layout told u → IfSome told (λ t. KeepsHistory u.since t (revisions u.seen))
keeps layout None u outside clear opened had leaves = tt
keeps layout (Some t) u outside clear opened had leaves = keeps_in layout t u outside clear opened had leaves
