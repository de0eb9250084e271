-- The text of a dump, as it is read: whole, or up to what is wrong.
use Rattle.std.specs.Prelude.{◌⊎◌, ℕ, zero, suc, List, [], ◌∷◌, Option, Result, Ok, Err}
use Rattle.fsfs_revision.specs.declared.wrong.Wrong.{Wrong}
use Rattle.fsfs_revision.specs.Told.{RevisionBytes}
use Rattle.fsfs_revision.specs.RevProps.{MayRead}
use Rattle.fsfs_noderev.specs.declared.changes.item.ChangeItem.{ChangeItem}
use Rattle.fsfs_look.specs.Revprops.Files.{RevPropsOf}
use Rattle.fsfs_look.specs.Revprops.Texts.{ReadText}
use Rattle.fsfs_look.specs.Walks.{Then}
use Rattle.fsfs_stands.specs.declared.look_fault.LookFault.TheVariants as faults
use Rattle.fsfs_stands.specs.Texts.{End, Whole, Refused, Stopped, Nothing}
use Rattle.fsfs_stands.specs.FileTexts.{IsWholeText}
use Rattle.fsfs_stands.specs.Items.{ItemsOf}
use Rattle.fsfs_stands.specs.ChangedTexts.{by_text, in_order, end_of}
use Rattle.fsfs_dump.specs.Records.{Pairs, dump_head, revision_record}
use Rattle.fsfs_dump.specs.Readings.{ItemRecords}

-- a reading, and then the text of what it gave
abbrev pub Reads : {A : Type 0} → (Result A Wrong → Type 0) → (A → List ℕ → End → Type 0) → List ℕ → End → Type 0
Reads {A = A} R T text end =
    Nothing Stopped text end
    ⊎ (((w : Wrong) × R (Err w) × Nothing (Refused (faults.Wrong w)) text end)
    ⊎ ((a : A) × R (Ok a) × T a text end))

-- nothing more, for this reason, or since a failure stopped it before
abbrev pub EndsAs : End → List ℕ → End → Type 0
EndsAs why text end = Nothing Stopped text end ⊎ Nothing why text end

-- the records of items; behind them the text ends so
abbrev pub ItemsText : RevisionBytes → ℕ → End → List ChangeItem → List ℕ → End → Type 0
ItemsText look rev last [] = EndsAs last
ItemsText look rev last (item ∷ items) = Then (ReadText (ItemRecords look rev item)) (ItemsText look rev last items)

-- of the items that were read, in the order of the bytes of their paths, and what is wrong behind them
abbrev pub TakenText : RevisionBytes → ℕ → List ChangeItem × Option Wrong → List ℕ → End → Type 0
TakenText look rev read = ItemsText look rev (end_of read.1) (in_order (by_text read.0))

-- the changed paths of a revision
abbrev pub ChangesText : RevisionBytes → ℕ → List ℕ → End → Type 0
ChangesText look rev = Reads (ItemsOf look rev) (TakenText look rev)

-- behind the record of its properties
abbrev pub PropsText : RevisionBytes → ℕ → Pairs → List ℕ → End → Type 0
PropsText look rev pairs = Then (IsWholeText (revision_record rev pairs)) (ChangesText look rev)

abbrev pub RevisionText : RevisionBytes → MayRead → ℕ → List ℕ → End → Type 0
RevisionText look may rev = Reads (RevPropsOf may rev) (PropsText look rev)

-- so many revisions from one on
abbrev pub RevisionsText : RevisionBytes → MayRead → ℕ → (count : ℕ) → List ℕ → End → Type 0
RevisionsText look may first zero = EndsAs Whole
RevisionsText look may first (suc count) = Then (RevisionText look may first) (RevisionsText look may (suc first) count)

-- all revisions up to the youngest, of a repository of this identifier
abbrev pub DumpText : RevisionBytes → MayRead → List ℕ → ℕ → List ℕ → End → Type 0
DumpText look may uuid youngest = Then (IsWholeText (dump_head uuid)) (RevisionsText look may 0 (suc youngest))
