-- Whether the directory that an edit opened has room for one more entry.
use Rattle.std.proofs.Common.{◌≡◌, ◌≤◌, ◌<◌, ℕ, Bool, true, false, List, [], ◌∷◌, ◌++◌, refl, sym, ap, ◌∙◌, arith}
use Rattle.std.specs.Prelude.{Option, Some, None, is_some, nat_lt, Ok, Err}
use Rattle.fsfs_base.specs.Paths.{PathName, Path}
use Rattle.fsfs_base.specs.declared.kind.Kind.TheVariants.{Dir}
use Rattle.fsfs_tree.specs.Nodes.{Node, TreeFunction}
use Rattle.fsfs_model.specs.declared.flat.mark.Mark.{Mark}
use Rattle.fsfs_base.specs.declared.fields.txn_name.TxnName.{TxnName}
use Rattle.fsfs_revision.specs.Told.{RevisionBytes}
use Rattle.fsfs_noderev.specs.declared.node_id.NodeId.{NodeId}
use Rattle.fsfs_revision.specs.declared.wrong.Wrong.{Wrong}
use Rattle.fsfs_revision.specs.Shows.Reading.{DirEntry, named}
use Rattle.fsfs_draft.specs.Own.{Own, draft_tree}
use Rattle.fsfs_draft.specs.Drafts.{Kept, Folder, kept_of, bare, ShowTrees}
use Rattle.fsfs_draft.specs.Steps.{kept_at, EntriesHere}
use Rattle.fsfs_draft.specs.Entries.{OfKept, IsWithin}
use Rattle.fsfs_draft.specs.Errors.{IsFailure}
use Rattle.fsfs_draft.specs.Names.{HasNames, HasEntries, IsFull, HasSpace, IsRoomOf}
use Rattle.fsfs_draft.specs.declared.error.EditError.{EditError}
use Rattle.fsfs_draft.specs.declared.error.EditError.TheVariants as errors
use Rattle.fsfs_draft.proofs.OwnEntries.{pred_within, entries_here, entries_never, lacks_node, none_named}
use Rattle.fsfs_draft.proofs.Counting.{held_alike}
use Rattle.fsfs_edit.specs.Ways.{IsOpenedAt}

bare_is : (a b : Option Node) → bare a ≡ bare b → is_some a ≡ is_some b
bare_is None None e = refl
bare_is None (Some n) e = absurd cc
bare_is (Some m) None e = absurd cc
bare_is (Some m) (Some n) e = refl

not_below : (n : ℕ) → nat_lt n 1048576 ≡ false → 1048576 ≤ n
not_below n h = grind (arith, h)

is_below : (n : ℕ) → nat_lt n 1048576 ≡ true → n < 1048576
is_below n h = grind (arith, h)

room_failure : (look : RevisionBytes) (k : Kept) → ((w : Wrong) → OfKept look k (Err w) → ⊥) → (e : EditError) → IsRoomOf look k (Err e) → IsFailure e
room_failure look k never errors.BenchFault h = tt
room_failure look k never errors.OutOfMemory h = tt
room_failure look k never errors.DiskFault h = tt
room_failure look k never (errors.Wrong w) h = never w h
room_failure look k never errors.Lacking h = h

module _ (look : RevisionBytes) (trees : ℕ → TreeFunction) (top base : ℕ) (shown : ShowTrees look top trees) (le : base ≤ top) (txn : TxnName) (tree : TreeFunction) (marks : List Mark) (first : Own) (p : Path) (mid : Folder) (id : NodeId)
    (o : IsOpenedAt look trees top base txn marks tree first p Dir mid id) where
  pub dir_kept : kept_at mid.nodes id ≡ Some (kept_of o.v)
  dir_kept = ap (λ (i : NodeId). kept_at mid.nodes i) (sym o.id_is) ∙ o.opened.draft.kept p o.v o.here

  pub dir_within : IsWithin top (kept_of o.v).node.predecessor
  dir_within = pred_within look top base trees shown le txn mid o.now o.opened.draft p o.v o.here o.kind_is

  pub room_fails_here : (e : EditError) → IsRoomOf look (kept_of o.v) (Err e) → IsFailure e
  room_fails_here e h = room_failure look (kept_of o.v) (entries_never look top base trees shown le txn mid o.now o.opened.draft p o.v o.here o.kind_is) e h

  module _ (entries : List DirEntry) (of : OfKept look (kept_of o.v) (Ok entries)) where
    listed : EntriesHere look (kept_of o.v) entries
    listed = entries_here look top base trees shown le txn mid o.now o.opened.draft p o.v o.here o.kind_is entries of

    named_there : (x : PathName) (n : Option DirEntry) (t : Option Node) → named x entries ≡ n → draft_tree trees o.now (trees base) (p ++ x ∷ []) ≡ t → is_some n ≡ is_some t
    named_there x None t is at = ap (λ (s : Option Node). is_some s) (sym (lacks_node look top base trees shown le txn mid o.now o.opened.draft p o.v o.here o.kind_is x entries listed is) ∙ at)
    named_there x (Some e) None is at = (let none = sym is ∙ none_named look top base trees shown le txn mid o.now o.opened.draft p o.v o.here o.kind_is x entries listed at in absurd cc)
    named_there x (Some e) (Some t) is at = refl

    alike : (x : PathName) → is_some (named x entries) ≡ is_some (tree (p ++ x ∷ []))
    alike x = named_there x (named x entries) (draft_tree trees o.now (trees base) (p ++ x ∷ [])) refl refl ∙ sym (bare_is (tree (p ++ x ∷ [])) (draft_tree trees o.now (trees base) (p ++ x ∷ [])) (o.opened.each (p ++ x ∷ [])))

    counted : (n : ℕ) → HasNames entries n → HasEntries tree p n
    counted n names = held_alike (λ (x : PathName). is_some (named x entries)) (λ (x : PathName). is_some (tree (p ++ x ∷ []))) n alike names

  pub full_here : (room : Bool) → room ≡ false → IsRoomOf look (kept_of o.v) (Ok room) → IsFull tree p
  full_here room lacks h = (h.2.0, counted h.0 h.1 h.2.0 h.2.1, not_below h.2.0 (sym h.2.2 ∙ lacks))

  pub space_here : (room : Bool) → room ≡ true → IsRoomOf look (kept_of o.v) (Ok room) → HasSpace tree p
  space_here room has h = (h.2.0, counted h.0 h.1 h.2.0 h.2.1, is_below h.2.0 (sym h.2.2 ∙ has))
