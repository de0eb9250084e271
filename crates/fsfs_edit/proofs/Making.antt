-- What stands in an own directory of a draft becomes the transaction's own.
use Rattle.std.proofs.Common.{◌≡◌, ◌≤◌, ◌<◌, ◌+◌, ℕ, true, cond, List, [], ◌∷◌, refl, sym, ap, subst, ◌∙◌, inl, inr, arith}
use Rattle.std.specs.Prelude.{Option, Some, None, Result, Ok, Err, IfOk, IfErr, is_some}
use Rattle.fsfs_base.specs.Paths.{PathName, Path}
use Rattle.fsfs_base.proofs.PathLemmas.{same_name-refl}
use Rattle.fsfs_tree.specs.Nodes.{TreeFunction}
use Rattle.fsfs_base.specs.declared.kind.Kind.TheVariants.{Dir}
use Rattle.fsfs_base.specs.declared.fields.txn_name.TxnName.{TxnName}
use Rattle.fsfs_revision.specs.Told.{RevisionBytes}
use Rattle.fsfs_noderev.specs.Ids as ids
use Rattle.fsfs_noderev.specs.Ids.{PartValue, part_value}
use Rattle.fsfs_noderev.specs.declared.node_id.Part.{Part}
use Rattle.fsfs_noderev.specs.declared.node_id.Part.TheVariants as parts
use Rattle.fsfs_noderev.specs.declared.node_id.NodeId.{NodeId}
use Rattle.fsfs_noderev.specs.declared.node_rev.CopySource.{CopySource}
use Rattle.fsfs_noderev.specs.declared.node_rev.NodeRev.{NodeRev}
use Rattle.fsfs_revision.specs.Nodes.{is_revision_id, is_lasting_part}
use Rattle.fsfs_revision.specs.Shows.Reading.{DirEntry, named, OfId}
use Rattle.fsfs_draft.specs.Own.{OwnNode, Own, under, alone, with_child, opened}
use Rattle.fsfs_draft.specs.Rules.{Above, above_of, IsNew, ComesBy, Change, Copied, Made, CopyPartOf, Directory as OfDirectory, Same as OfSame, Drawn as OfDrawn}
use Rattle.fsfs_draft.specs.Drafts.{Kept, Folder, kept_of, IsBelow, IsDraft, ShowTrees}
use Rattle.fsfs_draft.specs.Steps.{with_kept, kept_at, IsSuccessor, EntriesHere}
use Rattle.fsfs_draft.proofs.Here.{rule_here}
use Rattle.fsfs_draft.proofs.LayingKeeps.{graft_here}
use Rattle.fsfs_draft.proofs.Changing.{of_id_lasting, changed_own, changed_draft, changed_shows, successor, step, opening}
use Rattle.fsfs_draft.proofs.EditLaw.{edits_keep_drafts}
use Rattle.fsfs_draft.proofs.OwnEntries.{lasting_id, AreLasting, lasting_parts, there_kept}
use Rattle.fsfs_edit.specs.DagEdits.Mutable.{IsAmiss, IsPartOf, Directory, Same, Drawn, IsChildChanged, LeavesMutable}
use Rattle.fsfs_draft.specs.declared.error.EditError.{EditError}
use Rattle.fsfs_draft.specs.declared.error.EditError.TheVariants as errors
use Rattle.fsfs_draft.specs.Errors.{IsWant}
use Rattle.fsfs_draft.specs.Views.{new_kept, opened_kept}

-- ---- parts of ids

pub part_below : (n : ℕ) (p : Part) → is_lasting_part p ≡ true → IsBelow n (part_value p)
part_below n (parts.New k) h = absurd cc
part_below n (parts.Old k) h = tt
part_below n (parts.Made k rev) h = tt

pub child_here : (dir : OwnNode) (x : PathName) (child old : Own) → with_child dir x child old (x ∷ []) ≡ child []
child_here dir x child old = ap (λ b. cond b (child []) (old (x ∷ []))) (same_name-refl x)

pub lasting_not_new : (part : Part) (n : ℕ) → is_lasting_part part ≡ true → part_value part ≡ ids.New n → ⊥
lasting_not_new (parts.New k) n h e = cc
lasting_not_new (parts.Old k) n h e = cc
lasting_not_new (parts.Made k rev) n h e = cc

pub not_drawn : (n : ℕ) (v : PartValue) → v ≡ ids.New n → IsBelow n v → ⊥
not_drawn n (ids.New k) e h = let same : k ≡ n = cc in omega (arith, h, same)
not_drawn n (ids.Old k) e h = cc
not_drawn n (ids.Made k rev) e h = cc

-- the copy part of a copy of the transaction was drawn
copy_new : (look : RevisionBytes) (top base : ℕ) (trees : ℕ → TreeFunction) → ShowTrees look top trees → base ≤ top → (txn : TxnName) (f : Folder) (own : Own) → IsDraft look top base txn f own
    → (q : Path) (c : OwnNode) (from : CopySource) → own q ≡ Some c → c.node.copy_from ≡ Some from → IsNew (part_value c.node.id.copy)
copy_new look top base trees shown le txn f own draft q c from at copy = by (rule_here look top base trees shown le txn f own draft q c at).0
  where
    by : {S : Path → NodeRev → Type 0} {upper : Above} → ComesBy look top S upper c → IsNew (part_value c.node.id.copy)
    by (Change u stands no_copy on keeps root part) = let e = sym no_copy ∙ copy in absurd cc
    by (Copied u other is low stands on keeps root new) = new
    by (Made no_copy no_pred count root same part) = let e = sym no_copy ∙ copy in absurd cc

module _ (look : RevisionBytes) (top base : ℕ) (trees : ℕ → TreeFunction) (shown : ShowTrees look top trees) (le : base ≤ top) (txn : TxnName) (f : Folder) (own : Own) (draft : IsDraft look top base txn f own)
    (p : Path) (d : OwnNode) (here : own p ≡ Some d) (dir : d.node.kind ≡ Dir) where
  none_drawn : (o : Option Kept) (a : PartValue) → f.nodes a (ids.New f.next_copy) ≡ o → is_some o ≡ true → ⊥
  none_drawn None a is some = cc
  none_drawn (Some k) a is some = let h = (draft.drawn a (ids.New f.next_copy) k is).1 in omega (arith, h)

  pub not_amiss : (u : NodeRev) → IsAmiss f d.node.id u.id → ⊥
  not_amiss u (inl none) = there_kept look top base trees shown le txn f own draft p d here dir none
  not_amiss u (inr some) = none_drawn (f.nodes (part_value u.id.node) (ids.New f.next_copy)) (part_value u.id.node) refl some

  module _ (name : PathName) (entries : List DirEntry) (listed : EntriesHere look (kept_of d) entries) (e : DirEntry) (found : named name entries ≡ Some e) where
    module _ (lasts : is_revision_id e.id ≡ true) (u : NodeRev) (read : OfId look e.id (Ok u)) (after : Folder) (id : NodeId) (changed : IsChildChanged f after txn d.node.id entries name e.kind u id) where
      u_lasting : AreLasting u.id
      u_lasting = lasting_parts u.id (lasting_id u (of_id_lasting look e.id u read))

      k_is : changed.k ≡ kept_of d
      k_is = let both : Some changed.k ≡ Some (kept_of d) = sym changed.here ∙ draft.kept p d here in cc

      record PartFacts (between : Folder) (copy : Part) : Type 0 where
        part : CopyPartOf look (above_of d.node) u (part_value copy)
        nodes : between.nodes ≡ f.nodes
        proto : between.proto ≡ f.proto
        items : between.items ≡ f.items
        more : (f.next_node ≤ between.next_node) × (f.next_copy ≤ between.next_copy)
        is_below : IsBelow between.next_copy (part_value copy)

      facts : (between : Folder) (copy : Part) → IsPartOf f between d.node.id.copy u.id.copy copy → PartFacts between copy
      facts between copy (Directory is same) = record {
        part = OfDirectory (ap part_value is);
        nodes = ap (λ (g : Folder). g.nodes) same;
        proto = ap (λ (g : Folder). g.proto) same;
        items = ap (λ (g : Folder). g.items) same;
        more = subst (λ (g : Folder). (f.next_node ≤ g.next_node) × (f.next_copy ≤ g.next_copy)) (sym same) (omega arith, omega arith);
        is_below = subst (λ (g : Folder). IsBelow g.next_copy (part_value copy)) (sym same) (subst (λ (c : Part). IsBelow f.next_copy (part_value c)) (sym is) (draft.drawn _ _ (kept_of d) (draft.kept p d here)).1);
      }
      facts between copy (Same is same) = record {
        part = OfSame (ap part_value is);
        nodes = ap (λ (g : Folder). g.nodes) same;
        proto = ap (λ (g : Folder). g.proto) same;
        items = ap (λ (g : Folder). g.items) same;
        more = subst (λ (g : Folder). (f.next_node ≤ g.next_node) × (f.next_copy ≤ g.next_copy)) (sym same) (omega arith, omega arith);
        is_below = part_below between.next_copy copy (subst (λ (c : Part). is_lasting_part c ≡ true) (sym is) u_lasting.copy);
      }
      facts between copy (Drawn is same) = record {
        part = OfDrawn (f.next_copy, is);
        nodes = ap (λ (g : Folder). g.nodes) same;
        proto = ap (λ (g : Folder). g.proto) same;
        items = ap (λ (g : Folder). g.items) same;
        more = subst (λ (g : Folder). (f.next_node ≤ g.next_node) × (f.next_copy ≤ g.next_copy)) (sym same) (omega arith, omega arith);
        is_below = subst (λ (g : Folder). IsBelow g.next_copy (part_value copy)) (sym same) (subst (λ (v : PartValue). IsBelow (f.next_copy + 1) v) (sym is) (let h : f.next_copy < f.next_copy + 1 = omega arith in h));
      }

      part_facts : PartFacts changed.between changed.child.id.copy
      part_facts = facts changed.between changed.child.id.copy changed.part.of

      abbrev W : NodeRev
      W = changed.child

      succ : IsSuccessor txn d.node u W name
      succ = subst (λ (k : Kept). IsSuccessor txn k.node u W name) k_is changed.next

      after_is : after ≡ record changed.between { nodes = with_kept d.node.id (kept_of (opened d changed.new)) (with_kept W.id (record { node = W; entries = None; props = None }) f.nodes) }
      after_is = changed.after_is ∙ (λ i. record changed.between { nodes = with_kept d.node.id (opened_kept (k_is i) changed.new) (with_kept W.id (new_kept W) (part_facts.nodes i)) })

      fresh : kept_at f.nodes W.id ≡ None
      fresh = (λ i. (sym part_facts.nodes i) (part_value (succ.node i)) (part_value W.id.copy)) ∙ changed.part.free

      proto : after.proto ≡ f.proto
      proto = ap (λ (g : Folder). g.proto) after_is ∙ part_facts.proto

      more : (f.next_node ≤ after.next_node) × (f.next_copy ≤ after.next_copy)
      more = subst (λ (g : Folder). (f.next_node ≤ g.next_node) × (f.next_copy ≤ g.next_copy)) (sym after_is) part_facts.more

      w_drawn : IsBelow after.next_node (part_value W.id.node) × IsBelow after.next_copy (part_value W.id.copy)
      w_drawn = (part_below after.next_node W.id.node (subst (λ (c : Part). is_lasting_part c ≡ true) (sym succ.node) u_lasting.node), subst (λ (g : Folder). IsBelow g.next_copy (part_value W.id.copy)) (sym after_is) part_facts.is_below)

      files : (node copy : PartValue) → after.nodes node copy ≡ with_kept d.node.id (kept_of (opened d changed.new)) (with_kept W.id (record { node = W; entries = None; props = None }) f.nodes) node copy
      files node copy = ap (λ (g : Folder). g.nodes node copy) after_is

      items : after.items ≡ f.items
      items = ap (λ (g : Folder). g.items) after_is ∙ part_facts.items

      -- a copy of the transaction that has the same copy part has it of this directory
      apart : (q : Path) (c : OwnNode) (from : CopySource) → own q ≡ Some c → c.node.copy_from ≡ Some from → c.node.id.copy ≡ W.id.copy → W.id.copy ≡ d.node.id.copy
      apart q c from at copy same = by changed.part.of
        where
          by : IsPartOf f changed.between d.node.id.copy u.id.copy W.id.copy → W.id.copy ≡ d.node.id.copy
          by (Directory is between) = is
          by (Same is between) =
              let new = copy_new look top base trees shown le txn f own draft q c from at copy in
              absurd (lasting_not_new u.id.copy new.0 u_lasting.copy (ap part_value (sym is) ∙ ap part_value (sym same) ∙ new.1))
          by (Drawn is between) = absurd (not_drawn f.next_copy (part_value c.node.id.copy) (ap part_value same ∙ is) (draft.drawn (part_value c.node.id.node) (part_value c.node.id.copy) (kept_of c) (draft.kept q c at)).1)

      pub step_leaves : LeavesMutable look trees top base txn f own p name after (Ok id)
      step_leaves = (
        changed_own look top base trees shown le txn f own draft p d here dir name entries listed e found lasts u W read succ part_facts.part fresh changed.new changed.replaced after files proto more w_drawn,
        changed_draft look top base trees shown le txn f own draft p d here dir name entries listed e found lasts u W read succ part_facts.part fresh changed.new changed.replaced after files proto more w_drawn,
        changed_shows look top base trees shown le txn f own draft p d here dir name entries listed e found lasts u W read succ part_facts.part fresh changed.new changed.replaced after files proto more w_drawn,
        successor look top base trees shown le txn f own draft p d here dir name entries listed e found lasts u W read succ part_facts.part fresh changed.new changed.replaced after files proto more w_drawn,
        graft_here p (with_child (opened d changed.new) name (alone (successor look top base trees shown le txn f own draft p d here dir name entries listed e found lasts u W read succ part_facts.part fresh changed.new changed.replaced after files proto more w_drawn)) (under p own)) own (name ∷ [])
            ∙ child_here (opened d changed.new) name (alone (successor look top base trees shown le txn f own draft p d here dir name entries listed e found lasts u W read succ part_facts.part fresh changed.new changed.replaced after files proto more w_drawn)) (under p own),
        changed.id_is,
        λ tree marks first o. edits_keep_drafts.opens look trees top base txn (step look top base trees shown le txn f own draft p d here dir name entries listed e found lasts u W read succ part_facts.part fresh changed.new changed.replaced after files proto more w_drawn) tree marks first (successor look top base trees shown le txn f own draft p d here dir name entries listed e found lasts u W read succ part_facts.part fresh changed.new changed.replaced after files proto more w_drawn) u.id o (opening look top base trees shown le txn f own draft p d here dir name entries listed e found lasts u W read succ part_facts.part fresh changed.new changed.replaced after files proto more w_drawn items apart),
      )

    -- what is left where the entry names a node-revision of a revision
    pub lasting_leaves : is_revision_id e.id ≡ true → (u : NodeRev) → OfId look e.id (Ok u) → (after : Folder) (result : Result NodeId EditError)
        → IfOk result (IsChildChanged f after txn d.node.id entries name e.kind u) → IfErr result (λ x. IsWant x (IsAmiss f d.node.id u.id)) → LeavesMutable look trees top base txn f own p name after result
    lasting_leaves lasts u read after (Ok id) changed cause = step_leaves lasts u read after id changed
    lasting_leaves lasts u read after (Err errors.BenchFault) changed cause = absurd cause
    lasting_leaves lasts u read after (Err errors.OutOfMemory) changed cause = tt
    lasting_leaves lasts u read after (Err errors.DiskFault) changed cause = absurd cause
    lasting_leaves lasts u read after (Err (errors.Wrong w)) changed cause = absurd cause
    lasting_leaves lasts u read after (Err errors.Lacking) changed cause = not_amiss u cause
