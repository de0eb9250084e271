-- Each part of a dump may be stopped before its first byte.
use Rattle.std.proofs.Common.{ℕ, zero, suc, List, [], ◌∷◌, refl, inl}
use Rattle.std.specs.Prelude.{Result}
use Rattle.fsfs_revision.specs.declared.wrong.Wrong.{Wrong}
use Rattle.fsfs_revision.specs.Told.{RevisionBytes}
use Rattle.fsfs_revision.specs.RevProps.{MayRead}
use Rattle.fsfs_noderev.specs.declared.changes.item.ChangeItem.{ChangeItem}
use Rattle.fsfs_look.specs.Revprops.Texts.{ReadText}
use Rattle.fsfs_stands.specs.Texts.{End, Stopped}
use Rattle.fsfs_dump.specs.Readings.{ItemRecords}
use Rattle.fsfs_dump.specs.Texts.{Reads, ItemsText, RevisionText, RevisionsText}
use Rattle.fsfs_dump.proofs.WalkLemmas.{then_stops}

pub read_stops : (R : Result (List ℕ) Wrong → Type 0) → ReadText R [] Stopped
read_stops R = inl (refl, refl)

pub reads_stop : {A : Type 0} (R : Result A Wrong → Type 0) (T : A → List ℕ → End → Type 0) → Reads R T [] Stopped
reads_stop R T = inl (refl, refl)

pub items_stop : (look : RevisionBytes) (rev : ℕ) (last : End) (items : List ChangeItem) → ItemsText look rev last items [] Stopped
items_stop look rev last [] = inl (refl, refl)
items_stop look rev last (item ∷ items) = then_stops (ReadText (ItemRecords look rev item)) (ItemsText look rev last items) (items_stop look rev last items) (read_stops (ItemRecords look rev item))

pub revisions_stop : (look : RevisionBytes) (may : MayRead) (first count : ℕ) → RevisionsText look may first count [] Stopped
revisions_stop look may first zero = inl (refl, refl)
revisions_stop look may first (suc count) = then_stops (RevisionText look may first) (RevisionsText look may (suc first) count) (revisions_stop look may (suc first) count) (inl (refl, refl))
