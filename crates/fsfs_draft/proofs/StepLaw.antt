-- A step is the flat edit, and keeps what the transaction keeps.
use Rattle.std.proofs.Common.{◌≡◌, ℕ, true, false, cond, [], ◌∷◌, refl, sym, ap, ◌∙◌}
use Rattle.std.specs.Prelude.{Bool, Option, Some, None}
use Rattle.fsfs_base.proofs.PathLemmas.{covers-longer}
use Rattle.fsfs_tree.specs.Nodes.{Node, TreeFunction}
use Rattle.fsfs_base.specs.declared.fields.txn_name.TxnName.{TxnName}
use Rattle.fsfs_revision.specs.Told.{RevisionBytes}
use Rattle.fsfs_draft.specs.Own.{has_entry, draft_tree, shared_under, shared_at, under}
use Rattle.fsfs_draft.specs.Rules.{head_at}
use Rattle.fsfs_draft.specs.Laying.{Step, place_in, tree_before, StepsAreEdits, StepsKeepSides}
use Rattle.fsfs_draft.proofs.Edited.{behind_own, old_tree, old_at}
use Rattle.fsfs_draft.proofs.Here.{under_is, live_here, old_here, inner_shared}
use Rattle.fsfs_draft.proofs.Laying.{laid_draft, others_show, made_shows, copied_shows, gone_shows, went_on_shows}
use Rattle.fsfs_draft.proofs.LayingKeeps.{files_kept, once_kept, sources_kept}

module _ (look : RevisionBytes) (trees : ℕ → TreeFunction) (top base : ℕ) (txn : TxnName) (s : Step look trees top base txn) where
  -- nothing of the transaction's stands at the place
  module _ (none : s.own (place_in s) ≡ None) where
    pub no_head : head_at (under s.path s.own (s.name ∷ [])) ≡ None
    no_head = ap head_at (under_is s.path s.own (s.name ∷ []) ∙ none)

    -- what is shown there is shared, behind an entry that the directory has
    pub shown_there : tree_before s (place_in s) ≡ cond (has_entry s.directory.entries s.name) (shared_under trees (Some s.directory) (shared_at trees s.path s.own (trees base)) (s.name ∷ [])) None
    shown_there =
        old_tree trees s.path s.own (trees base) (live_here look top base trees s.shown s.within txn s.before s.own s.draft s.path s.directory s.is_directory.here) (place_in s)
        ∙ (λ i. cond (covers-longer s.path (s.name ∷ []) i) (draft_tree trees (under s.path s.own) (shared_at trees s.path s.own (trees base)) (behind_own s.path (s.name ∷ []) i)) (tree_before s (place_in s)))
        ∙ old_at trees s.directory s.name s.entries (under s.path s.own) (shared_at trees s.path s.own (trees base)) (old_here look top base trees s.shown s.within txn s.before s.own s.draft s.path s.directory s.is_directory.here) s.name []
        ∙ ap (λ (o : Option Node). cond (has_entry s.directory.entries s.name) o None) (inner_shared look top base trees s.shown s.within txn s.before s.own s.draft s.path s.directory s.is_directory.here s.name no_head [])

    pub was_shared : (n : Node) → tree_before s (place_in s) ≡ Some n → (has_entry s.directory.entries s.name ≡ true) × (shared_under trees (Some s.directory) (shared_at trees s.path s.own (trees base)) (s.name ∷ []) ≡ Some n)
    was_shared n is = by (has_entry s.directory.entries s.name) refl (sym shown_there ∙ is)
      where
        Shared : Option Node
        Shared = shared_under trees (Some s.directory) (shared_at trees s.path s.own (trees base)) (s.name ∷ [])

        by : (b : Bool) → has_entry s.directory.entries s.name ≡ b → cond b Shared None ≡ Some n → (has_entry s.directory.entries s.name ≡ true) × (Shared ≡ Some n)
        by true e g = (e, g)
        by false e g = absurd cc

pub steps_are_edits : StepsAreEdits
steps_are_edits = record {
  draft = λ look trees top base txn s. laid_draft look top base trees s.shown s.within txn s.before s.own s.draft s.path s.directory s.is_directory.here s.is_directory.kind s.name s.entries s.is_directory.listed s.laid s.new s.after s.laying;
  others = λ look trees top base txn s q off. others_show look top base trees s.shown s.within txn s.before s.own s.draft s.path s.directory s.is_directory.here s.is_directory.kind s.name s.entries s.is_directory.listed s.laid s.new s.after s.laying q off;
  made = λ look trees top base txn s v is no_copy no_pred none q.
      made_shows look top base trees s.shown s.within txn s.before s.own s.draft s.path s.directory s.is_directory.here s.is_directory.kind s.name s.entries s.is_directory.listed s.laid s.new s.after s.laying v is no_copy no_pred none q;
  copied = λ look trees top base txn s v from is copy source q.
      copied_shows look top base trees s.shown s.within txn s.before s.own s.draft s.path s.directory s.is_directory.here s.is_directory.kind s.name s.entries s.is_directory.listed s.laid s.new s.after s.laying v from is copy source q;
  gone = λ look trees top base txn s is lacks q.
      gone_shows look top base trees s.shown s.within txn s.before s.own s.draft s.path s.directory s.is_directory.here s.is_directory.kind s.name s.entries s.is_directory.listed s.laid s.new s.after s.laying is lacks q;
  changed = λ look trees top base txn s v id is no_copy goes_on none there q. (let w = was_shared look trees top base txn s none v.shown there in
      went_on_shows look top base trees s.shown s.within txn s.before s.own s.draft s.path s.directory s.is_directory.here s.is_directory.kind s.name s.entries s.is_directory.listed s.laid s.new s.after s.laying v id is no_copy goes_on
      (no_head look trees top base txn s none) w.0 w.1 q);
}

pub steps_keep_sides : StepsKeepSides
steps_keep_sides = record {
  files = λ look trees top base txn s files each.
      files_kept look top base trees s.shown s.within txn s.before s.own s.draft s.path s.directory s.is_directory.here s.is_directory.kind s.name s.entries s.is_directory.listed s.laid s.new s.after s.laying files each;
  once = λ look trees top base txn s once each.
      once_kept look top base trees s.shown s.within txn s.before s.own s.draft s.path s.directory s.is_directory.here s.is_directory.kind s.name s.entries s.is_directory.listed s.laid s.new s.after s.laying once each;
  sources = λ look trees top base txn s sources each.
      sources_kept look top base trees s.shown s.within txn s.before s.own s.draft s.path s.directory s.is_directory.here s.is_directory.kind s.name s.entries s.is_directory.listed s.laid s.new s.after s.laying sources each;
}
