-- The text of a file: its bytes alone, and none of them where anything is wrong with them.
use Rattle.std.specs.Prelude.{◌≡◌, ◌⊎◌, ℕ, List, Ok, Err}
use Rattle.fsfs_base.specs.Paths.{Path}
use Rattle.fsfs_base.specs.declared.kind.Kind.{Kind}
use Rattle.fsfs_base.specs.declared.kind.Kind.TheVariants.{File, Dir}
use Rattle.fsfs_revision.specs.Told.{RevisionBytes}
use Rattle.fsfs_noderev.specs.declared.node_rev.NodeRev.{NodeRev}
use Rattle.fsfs_revision.specs.declared.wrong.Wrong.{Wrong}
use Rattle.fsfs_revision.specs.Shows.Reading.{TextOf, Met, Stands, Lacking, Blocked}
use Rattle.fsfs_stands.specs.declared.look_fault.LookFault.TheVariants as faults
use Rattle.fsfs_stands.specs.Texts.{End, Whole, Refused, Stopped, Nothing, AtPath}

abbrev pub KindText : RevisionBytes → NodeRev → Kind → List ℕ → End → Type 0
KindText look v Dir text end = Nothing (Refused faults.NotFile) text end
KindText look v File text end =
    Nothing Stopped text end
    ⊎ ((TextOf look v (Ok text) × (end ≡ Whole)) ⊎ ((w : Wrong) × TextOf look v (Err w) × Nothing (Refused (faults.Wrong w)) text end))

abbrev pub MetFileText : RevisionBytes → Met → List ℕ → End → Type 0
MetFileText look (Stands v) text end = KindText look v v.kind text end
MetFileText look (Lacking names) text end = Nothing (Refused (faults.NotFound names)) text end
MetFileText look (Blocked names) text end = Nothing (Refused (faults.NotDir names)) text end

-- the file at a path of a revision
abbrev pub FileText : RevisionBytes → ℕ → Path → List ℕ → End → Type 0
FileText look rev path = AtPath look rev path (MetFileText look)

-- the bytes of this text, and all of them
abbrev pub IsWholeText : List ℕ → List ℕ → End → Type 0
IsWholeText whole text end = (text ≡ whole) × (end ≡ Whole)
