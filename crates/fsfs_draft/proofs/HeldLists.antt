-- Entries that a directory has in its own `children` file.
use Rattle.std.proofs.Common.{◌≡◌, ◌∙◌, List, Option, Some, sym, ap, subst}
use Rattle.std.specs.Prelude.{IfSome}
use Rattle.fsfs_noderev.specs.declared.node_id.NodeId.{NodeId}
use Rattle.fsfs_revision.specs.Shows.Reading.{DirEntry}
use Rattle.fsfs_draft.specs.Drafts.{Kept, Folder}
use Rattle.fsfs_draft.specs.Steps.{Files, kept_at}
use Rattle.fsfs_draft.specs.Entries.{AreOwnEntries}

-- a folder of the same node-revisions
pub own_same : (f h : Folder) (dir : NodeId) (listed : List DirEntry) → h.nodes ≡ f.nodes → AreOwnEntries f dir listed → AreOwnEntries h dir listed
own_same f h dir listed same own = λ k entries at is. own k entries (sym (ap (λ (files : Files). kept_at files dir) same) ∙ at) is

-- as they were read of what was found there
pub own_listed : (f : Folder) (dir : NodeId) (found : Kept) (listed : List DirEntry) → Some found ≡ kept_at f.nodes dir → IfSome found.entries (λ entries. listed ≡ entries) → AreOwnEntries f dir listed
own_listed f dir found listed here told = λ k entries at is.
    let one : found ≡ k = (let both : Some found ≡ Some k = here ∙ at in cc) in
    let all : found.entries ≡ Some entries = ap (λ (x : Kept). x.entries) one ∙ is in
    subst (λ (o : Option (List DirEntry)). IfSome o (λ es. listed ≡ es)) all told
