-- What a walk down a draft sees, by the tree that the draft shows.
use Rattle.std.proofs.Common.{◌≡◌, ℕ, true, false, List, sym, ap, subst}
use Rattle.std.specs.Prelude.{Option, Some, None, is_some, Result, Ok, Err}
use Rattle.fsfs_base.specs.Paths.{PathName, Path}
use Rattle.fsfs_base.specs.declared.kind.Kind.{Kind}
use Rattle.fsfs_tree.specs.Nodes.{Node, TreeFunction}
use Rattle.fsfs_model.specs.declared.flat.mark.Mark.{Mark}
use Rattle.fsfs_base.specs.declared.fields.txn_name.TxnName.{TxnName}
use Rattle.fsfs_revision.specs.Told.{Told, RevisionBytes}
use Rattle.fsfs_draft.specs.Own.{Own, draft_tree}
use Rattle.fsfs_draft.specs.Drafts.{Folder, bare}
use Rattle.fsfs_draft.specs.Edits.{IsDraftAfter}
use Rattle.fsfs_draft.specs.Walks.{HasKind, IsChild}
use Rattle.fsfs_draft.specs.declared.error.EditError.{EditError}
use Rattle.fsfs_draft.specs.declared.walk.Child.{Child}
use Rattle.fsfs_edit.proofs.Bare.{bare_none, bare_some, bare_kind, lacks_over, blocked_over}
use Rattle.fsfs_edit.proofs.MakingAt.{kind_some}
use Rattle.fsfs_txn.specs.declared.seeing.Seen.{Seen}
use Rattle.fsfs_txn.specs.declared.seeing.Seen.TheVariants as seens
use Rattle.fsfs_txn.specs.declared.edits.above.Above.{Above}
use Rattle.fsfs_txn.specs.Seeing.{IsSeen, Sees, IsTaken, AboveFrom}

module _ (look : RevisionBytes) (trees : ℕ → TreeFunction) (top base : ℕ) (txn : TxnName) (f : Folder) (tree : TreeFunction) (marks : List Mark) (d : IsDraftAfter look trees top base txn f tree marks) where
  abbrev First : Own
  First = d.0.shows.own

  abbrev Drafted : TreeFunction
  Drafted = draft_tree trees First (trees base)

  each : (q : Path) → bare (Drafted q) ≡ bare (tree q)
  each q = sym (d.0.shows.each q)

  pub seen_by_tree : (p : Path) (result : Result Seen EditError) → IsSeen look trees base First Drafted p result → IsSeen look trees base First tree p result
  seen_by_tree p (Ok (seens.Node child counted)) h = (h.0, bare_kind (Drafted p) (tree p) child.kind (each p) h.1, h.2)
  seen_by_tree p (Ok (seens.Absent depth)) h = lacks_over Drafted tree each p depth h
  seen_by_tree p (Ok (seens.File depth)) h = blocked_over Drafted tree each p depth h
  seen_by_tree p (Err e) h = h

  -- the draft has a node of the kind there, too
  pub drafted : (p : Path) (kind : Kind) → HasKind (tree p) kind → HasKind (Drafted p) kind
  drafted p kind has = bare_kind (tree p) (Drafted p) kind (d.0.shows.each p) has

  pub child_none : (p : Path) → IsChild look trees base First p (Ok None) → IsTaken tree p (Ok false)
  child_none p none = ap (λ (o : Option Node). is_some o) (bare_none (Drafted p) (tree p) (each p) none)

  pub child_some : (p : Path) (child : Child) → IsChild look trees base First p (Ok (Some child)) → IsTaken tree p (Ok true)
  child_some p child h = bare_some (Drafted p) (tree p) (each p) (kind_some (Drafted p) child.kind h.1)

pub same_sees : (told : Told) (t u : TxnName) (f h : Folder) (p : Path) (r : Result Seen EditError) → t ≡ u → f ≡ h → Sees told t f p r → Sees told u h p r
same_sees told t u f h p r txn folder sees = subst (λ (x : Folder). Sees told u x p r) folder (subst (λ (x : TxnName). Sees told x f p r) txn sees)

pub same_from : (told : Told) (t u : TxnName) (f h : Folder) (dir : Path) (name : PathName) (seen : Seen) (r : Result Above EditError) → t ≡ u → f ≡ h → AboveFrom told t f dir name seen r → AboveFrom told u h dir name seen r
same_from told t u f h dir name seen r txn folder from = subst (λ (x : Folder). AboveFrom told u x dir name seen r) folder (subst (λ (x : TxnName). AboveFrom told x f dir name seen r) txn from)
