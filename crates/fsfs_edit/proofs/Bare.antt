-- A tree, and a draft that shows it but for the numbers of its nodes.
use Rattle.std.proofs.Common.{◌≡◌, ℕ, true, [], ◌∷◌, ◌++◌, take, refl, sym, ap, ◌∙◌, inl, inr}
use Rattle.std.specs.Prelude.{Option, Some, None, is_some, Result, Ok, Err}
use Rattle.std.proofs.lemmas.Option.{same_Some}
use Rattle.fsfs_base.specs.Paths.{PathName, Path}
use Rattle.fsfs_base.specs.declared.kind.Kind.{Kind}
use Rattle.fsfs_base.specs.declared.kind.Kind.TheVariants.{File, Dir}
use Rattle.fsfs_tree.specs.Nodes.{Node, TreeFunction}
use Rattle.fsfs_model.specs.Flat.Edits.{is_dir_node}
use Rattle.fsfs_revision.specs.Told.{RevisionBytes}
use Rattle.fsfs_revision.specs.Shows.ByTree.{LacksAt, IsBlockedAt}
use Rattle.fsfs_draft.specs.Own.{Own, draft_tree}
use Rattle.fsfs_draft.specs.Drafts.{bare}
use Rattle.fsfs_edit.specs.DagEdits.Mutable.{LeadsTo}
use Rattle.fsfs_draft.specs.Walks.{HasKind, IsFound}
use Rattle.fsfs_edit.specs.Ways.{IsNoDirectory, IsTarget, IsFoundIn}
use Rattle.fsfs_draft.specs.declared.error.EditError.{EditError}
use Rattle.fsfs_draft.specs.declared.walk.Found.{Found}
use Rattle.fsfs_draft.specs.declared.walk.Found.TheVariants as founds
use Rattle.fsfs_edit.specs.declared.way.Target.{Target}
use Rattle.fsfs_edit.specs.declared.way.Target.TheVariants as targets
use Rattle.fsfs_draft.proofs.OwnEntries.{has_kind}
use Rattle.fsfs_draft.proofs.Walking.{HasNode, kind_node, dir_node}

pub bare_none : (a b : Option Node) → bare a ≡ bare b → a ≡ None → b ≡ None
bare_none None None e is = refl
bare_none None (Some n) e is = absurd cc
bare_none (Some m) b e is = absurd cc

pub bare_some : (a b : Option Node) → bare a ≡ bare b → is_some a ≡ true → is_some b ≡ true
bare_some None b e is = absurd cc
bare_some (Some m) None e is = absurd cc
bare_some (Some m) (Some n) e is = refl

pub bare_kind : (a b : Option Node) (kind : Kind) → bare a ≡ bare b → HasKind a kind → HasKind b kind
bare_kind None b kind e has = absurd has
bare_kind (Some m) None kind e has = absurd cc
bare_kind (Some m) (Some n) kind e has =
    sym (ap (λ (z : Node). z.kind) (same_Some (record m { added = 0; props_changed = 0; last_changed = 0 }) (record n { added = 0; props_changed = 0; last_changed = 0 }) e)) ∙ has

pub dir_kind : (o : Option Node) → is_dir_node o ≡ true → HasKind o Dir
dir_kind None is = absurd cc
dir_kind (Some n) is = by n.kind is
  where
    by : (k : Kind) → is_dir_node (Some (record n { kind = k })) ≡ true → k ≡ Dir
    by File h = absurd cc
    by Dir h = refl

module _ (a b : TreeFunction) (each : (q : Path) → bare (a q) ≡ bare (b q)) where
  pub lacks_over : (p : Path) (depth : ℕ) → LacksAt a p depth → LacksAt b p depth
  lacks_over p depth h = record { above = h.above; depth_is = h.depth_is; within = h.within; nothing = bare_none (a (take depth p)) (b (take depth p)) (each (take depth p)) h.nothing; dir = node.n; dir_is = node.is; kind = node.kind_is }
    where
      node : HasNode (b (take h.above p)) Dir
      node = kind_node (b (take h.above p)) Dir (bare_kind (a (take h.above p)) (b (take h.above p)) Dir (each (take h.above p)) (has_kind (a (take h.above p)) h.dir Dir h.dir_is h.kind))

  pub blocked_over : (p : Path) (depth : ℕ) → IsBlockedAt a p depth → IsBlockedAt b p depth
  blocked_over p depth h = record { within = h.within; file = node.n; file_is = node.is; kind = node.kind_is }
    where
      node : HasNode (b (take depth p)) File
      node = kind_node (b (take depth p)) File (bare_kind (a (take depth p)) (b (take depth p)) File (each (take depth p)) (has_kind (a (take depth p)) h.file File h.file_is h.kind))

  no_directory_over : (p : Path) (depth : ℕ) → IsNoDirectory a p depth → IsNoDirectory b p depth
  no_directory_over p depth (inl h) = inl (blocked_over p depth h)
  no_directory_over p depth (inr h) = inr (h.0, bare_kind (a p) (b p) File (each p) h.1)

  pub target_over : (look : RevisionBytes) (trees : ℕ → TreeFunction) (base : ℕ) (own : Own) (p : Path) (name : PathName) (result : Result Target EditError) → IsTarget look trees base own a p name result → IsTarget look trees base own b p name result
  target_over look trees base own p name (Ok (targets.NotFound depth)) h = lacks_over p depth h
  target_over look trees base own p name (Ok (targets.NotDir depth)) h = no_directory_over p depth h
  target_over look trees base own p name (Ok targets.Free) h = (bare_kind (a p) (b p) Dir (each p) h.0, bare_none (a (p ++ name ∷ [])) (b (p ++ name ∷ [])) (each (p ++ name ∷ [])) h.1)
  target_over look trees base own p name (Ok (targets.Taken c)) h = (bare_kind (a p) (b p) Dir (each p) h.0, bare_kind (a (p ++ name ∷ [])) (b (p ++ name ∷ [])) c.kind (each (p ++ name ∷ [])) h.1, h.2)
  target_over look trees base own p name (Err e) h = h

  pub leads_over : (p : Path) → LeadsTo a p → LeadsTo b p
  leads_over p leads = λ front x rest parts. (
    dir_node (b front) (bare_kind (a front) (b front) Dir (each front) (dir_kind (a front) (leads front x rest parts).0)),
    bare_some (a (front ++ x ∷ [])) (b (front ++ x ∷ [])) (each (front ++ x ∷ [])) (leads front x rest parts).1,
  )

pub found_over : (look : RevisionBytes) (trees : ℕ → TreeFunction) (base : ℕ) (own : Own) (tree : TreeFunction) → ((q : Path) → bare (draft_tree trees own (trees base) q) ≡ bare (tree q)) → (p : Path) (result : Result Found EditError) → IsFound look trees base own p result → IsFoundIn tree p result
found_over look trees base own tree each p (Ok (founds.Node c)) h = bare_kind (draft_tree trees own (trees base) p) (tree p) c.kind (each p) h.1
found_over look trees base own tree each p (Ok (founds.Absent depth)) h = lacks_over (draft_tree trees own (trees base)) tree each p depth h
found_over look trees base own tree each p (Ok (founds.File depth)) h = blocked_over (draft_tree trees own (trees base)) tree each p depth h
found_over look trees base own tree each p (Err e) h = h
