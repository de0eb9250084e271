-- The text of a tree: a line for each node, parents first, the names of a directory in the order of their bytes. (It is the text of
-- Subversion's own `svnlook tree`, also with its `--show-ids`.)
use Rattle.std.specs.Prelude.{◌≡◌, ◌≢◌, ℕ, suc, Bool, true, false, List, [], ◌∷◌, ◌++◌, replicate, Ok, Err, codes}
use Rattle.fsfs_base.specs.Paths.{PathName, Path}
use Rattle.fsfs_base.specs.declared.kind.Kind.TheVariants.{File, Dir}
use Rattle.fsfs_revision.specs.Told.{RevisionBytes}
use Rattle.fsfs_tree.specs.Answers.{last_name, kind_mark}
use Rattle.fsfs_noderev.specs.Fields.{IsIdText}
use Rattle.fsfs_noderev.specs.declared.node_id.NodeId.{NodeId}
use Rattle.fsfs_noderev.specs.declared.node_rev.NodeRev.{NodeRev}
use Rattle.fsfs_revision.specs.declared.wrong.Wrong.{Wrong}
use Rattle.fsfs_revision.specs.Shows.Reading.{DirEntry, EntriesOf, OfEntry, Met, Stands, Lacking, Blocked}
use Rattle.fsfs_stands.specs.declared.look_fault.LookFault.TheVariants as faults
use Rattle.fsfs_stands.specs.Texts.{End, Whole, Refused, Stopped, Nothing, AtPath}

-- the id in angle brackets behind a space, where ids are shown
abbrev pub IsShownId : Bool → NodeId → List ℕ → Type 0
IsShownId false id text = text ≡ []
IsShownId true id text = (id_text : List ℕ) × IsIdText id_text id × (text ≡ codes " <" ++ id_text ++ codes ">")

-- the line of a node so many levels below the path: a space for each level, the name, `/` for a directory, the id
pub record IsLine (ids : Bool) (level : ℕ) (name : PathName) (v : NodeRev) (line : List ℕ) : Type 0 where
  pub shown_id : List ℕ
  pub id_is : IsShownId ids v.id shown_id
  pub line_is : line ≡ replicate level 32 ++ name ++ kind_mark v.kind ++ shown_id ++ codes "\n"

mutual
  -- a node: its line, and behind that of a directory what stands in it
  pub data NodeText (look : RevisionBytes) (ids : Bool) : ℕ → PathName → NodeRev → List ℕ → End → Type 0 where
    OfFile : (level : ℕ) (name : PathName) (v : NodeRev) (line : List ℕ) → IsLine ids level name v line → v.kind ≡ File → NodeText look ids level name v line Whole
    OfDir : (level : ℕ) (name : PathName) (v : NodeRev) (line : List ℕ) (entries : List DirEntry) (text : List ℕ) (end : End) → IsLine ids level name v line → v.kind ≡ Dir
        → EntriesOf look v (Ok entries) → EntriesText look ids (suc level) entries text end → NodeText look ids level name v (line ++ text) end
    OfWrongDir : (level : ℕ) (name : PathName) (v : NodeRev) (line : List ℕ) (w : Wrong) → IsLine ids level name v line → v.kind ≡ Dir → EntriesOf look v (Err w)
        → NodeText look ids level name v line (Refused (faults.Wrong w))

  -- an entry: the node that it names
  pub data EntryText (look : RevisionBytes) (ids : Bool) : ℕ → DirEntry → List ℕ → End → Type 0 where
    OfNode : (level : ℕ) (entry : DirEntry) (v : NodeRev) (text : List ℕ) (end : End) → OfEntry look entry (Ok v) → NodeText look ids level entry.name v text end → EntryText look ids level entry text end
    OfWrong : (level : ℕ) (entry : DirEntry) (w : Wrong) → OfEntry look entry (Err w) → EntryText look ids level entry [] (Refused (faults.Wrong w))
    Stops : (level : ℕ) (entry : DirEntry) → EntryText look ids level entry [] Stopped

  -- the entries, one behind another, up to the first that isn't whole
  pub data EntriesText (look : RevisionBytes) (ids : Bool) : ℕ → List DirEntry → List ℕ → End → Type 0 where
    OfNone : (level : ℕ) → EntriesText look ids level [] [] Whole
    OfLast : (level : ℕ) (entry : DirEntry) (entries : List DirEntry) (text : List ℕ) (end : End) → EntryText look ids level entry text end → end ≢ Whole → EntriesText look ids level (entry ∷ entries) text end
    OfNext : (level : ℕ) (entry : DirEntry) (entries : List DirEntry) (text rest : List ℕ) (end : End) → EntryText look ids level entry text Whole → EntriesText look ids level entries rest end
        → EntriesText look ids level (entry ∷ entries) (text ++ rest) end

-- what is met at a path
abbrev pub MetText : RevisionBytes → Bool → Path → Met → List ℕ → End → Type 0
MetText look ids path (Stands v) text end = NodeText look ids 0 (last_name path) v text end
MetText look ids path (Lacking names) text end = Nothing (Refused (faults.NotFound names)) text end
MetText look ids path (Blocked names) text end = Nothing (Refused (faults.NotDir names)) text end

-- the tree at a path of a revision
abbrev pub TreeText : RevisionBytes → ℕ → Path → Bool → List ℕ → End → Type 0
TreeText look rev path ids = AtPath look rev path (MetText look ids path)
