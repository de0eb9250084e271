-- Where what is met in a draft is what marks say of its base, the marks say what the draft holds.
use Rattle.std.proofs.Common.{◌≡◌, ◌≤◌, ℕ, not, Bool, true, false, ◌&&◌, List, [], ◌∷◌, ◌++◌, refl, sym, ap, subst, ◌∙◌, inl, inr, append-nil, append_assoc}
use Rattle.std.specs.Prelude.{Option, Some, None, is_some, if◌then◌else◌}
use mathlib.Core.Bool.{false≢true}
use Rattle.fsfs_base.specs.Paths.{PathName, Path, covers, is_above}
use Rattle.fsfs_tree.specs.Nodes.{Node, TreeFunction}
use Rattle.fsfs_model.specs.declared.flat.mark.Mark.{Mark}
use Rattle.fsfs_model.specs.Flat.Marks.{effects}
use Rattle.fsfs_base.proofs.PathLemmas.{covers-refl, covers_front}
use Rattle.fsfs_base.specs.declared.fields.txn_name.TxnName.{TxnName}
use Rattle.fsfs_revision.specs.Told.{RevisionBytes}
use Rattle.fsfs_noderev.specs.declared.node_id.NodeId.{NodeId}
use Rattle.fsfs_noderev.specs.declared.rep.Contents.TheVariants as contents
use Rattle.fsfs_noderev.specs.declared.node_rev.CopySource.{CopySource}
use Rattle.fsfs_noderev.specs.declared.node_rev.NodeRev.{NodeRev}
use Rattle.fsfs_revision.specs.Shows.Reading.{StandsAt}
use Rattle.fsfs_revision.proofs.OneWalk.{stands_same}
use Rattle.fsfs_revision.proofs.TreeLaw.{sound}
use Rattle.fsfs_model.proofs.MergeWalk.{gone_down}
use Rattle.fsfs_draft.specs.Own.{OwnNode, Own, below, has_entry, under}
use Rattle.fsfs_draft.specs.Rules.{Keeps, head_at, at_top}
use Rattle.fsfs_draft.specs.Drafts.{Folder, IsDraft, ShowTrees}
use Rattle.fsfs_draft.specs.OwnSides.{NodesAt, in_txn, is_own_copy, IsOwnSide}
use Rattle.fsfs_draft.specs.NodeDrafts.{IsOwn}
use Rattle.fsfs_draft.specs.Met.{draft_nodes, AreNodes}
use Rattle.fsfs_draft.specs.Sides.{OwnFiles, goes_on_here, has_here, held, AreMarksOf}
use Rattle.fsfs_draft.specs.Handed.{SidesAreMarks}
use Rattle.fsfs_draft.proofs.Bases.{met_there}
use Rattle.fsfs_draft.proofs.Here.{under_is, entry_has, head_some}
use Rattle.fsfs_draft.proofs.Lasting.{lasting}
use Rattle.fsfs_draft.proofs.Placing.{got}
use Rattle.fsfs_draft.proofs.Placing as placing
use Rattle.fsfs_draft.proofs.HangLaw.{some_same, both_ends}
use Rattle.fsfs_draft.proofs.HangLaw as hanging
use Rattle.fsfs_draft.proofs.SideLaw.{HeldAt, held_at, held_under, of_revision}
use Rattle.std.proofs.lemmas.Bool.{and_from, and_parts, cases_Bool}

above_front : (q p : Path) (name : PathName) → is_above q (p ++ name ∷ []) ≡ true → covers q p ≡ true
above_front q p name a = elim (covers_front q p name (and_parts _ _ a).0) [
  | inl c ↦ c
  | inr e ↦ absurd (false≢true (own q (subst (λ (r : Path). not (covers r q) ≡ true) (sym e) (and_parts (covers q (p ++ name ∷ [])) _ a).1)))
]
  where
    own : (q : Path) → not (covers q q) ≡ true → false ≡ true
    own q h = ap not (sym (covers-refl q)) ∙ h

-- what is held, is held above
pub held_front : (p q : Path) (own : Own) → held own (p ++ q) ≡ true → held own p ≡ true
held_front [] [] own h = h
held_front [] (y ∷ q) own h = (and_parts _ _ h).0
held_front (x ∷ p) q own h = and_from _ _ (and_parts _ _ h).0 (and_from _ _ (and_parts _ _ (and_parts _ _ h).1).0 (held_front p q (below x own) (and_parts _ _ (and_parts _ _ h).1).1))

module _ (look : RevisionBytes) (top base : ℕ) (trees : ℕ → TreeFunction) (nodes : ℕ → NodesAt) (shown : ShowTrees look top trees) (are : AreNodes look top nodes) (le : base ≤ top)
    (txn : TxnName) (f : Folder) (own : Own) (marks : List Mark) (draft : IsDraft look top base txn f own) (files : OwnFiles own) (side : IsOwnSide (nodes base) marks (draft_nodes nodes own (nodes base))) where
  abbrev met : NodesAt
  met = draft_nodes nodes own (nodes base)

  base_there : (p : Path) → is_some (trees base p) ≡ true → (x : NodeRev) × (nodes base p ≡ Some x) × StandsAt look base p x
  base_there p some = let w = met_there look base (trees base) (shown base le) p (trees base p) refl some in (w.0, ((are base le).each p w.0).1 w.1, w.1)

  met_own : (p : Path) (d : OwnNode) → own p ≡ Some d → met p ≡ Some d.node
  met_own p d here = hanging.met_own look top base trees nodes shown are le txn f own draft p d here

  is_mine : (p : Path) (d : OwnNode) → own p ≡ Some d → IsOwn d.node
  is_mine p d here = hanging.is_mine look top base trees nodes shown are le txn f own draft p d here

  way : (p : Path) → held own p ≡ true → HeldAt look top nodes own (StandsAt look base) (nodes base) p
  way p h = held_at look top nodes p own at_top (StandsAt look base) (nodes base) draft.rules h refl

  -- what is held there is no other
  not_another : (p : Path) (x : NodeRev) → nodes base p ≡ Some x → StandsAt look base p x → held own p ≡ true → (effects marks p).deleted ≡ true → ((q : Path) → is_above q p ≡ true → (effects marks q).deleted ≡ false) → ⊥
  not_another p x e at h del up = by (own p) refl
    where
      by : (o : Option OwnNode) → own p ≡ o → ⊥
      by None none = both_ends (in_txn x.id.place) true (side.another p x x e del up ((way p h).shared none ∙ e)).own (lasting look base p x at).place
      by (Some v) is =
          let m = (way p h).mine v is in
          let same : m.0.u ≡ x = stands_same look base p m.0.u x m.0.stands at in
          elim (side.another p x v.node e del up (met_own p v is)).other [
            | inl differs ↦ differs (m.0.on.node ∙ ap (λ (z : NodeRev). z.id.node) same)
            | inr copied ↦ both_ends (is_own_copy v.node) true copied (of_revision (in_txn v.node.id.place) v.node.created_path v.node.copy_root m.1)
          ]

  -- what is met there goes on from the base's
  goes : (p : Path) (x : NodeRev) → nodes base p ≡ Some x → StandsAt look base p x → (effects marks p).deleted ≡ false → goes_on_here (own p) ≡ true
  goes p x e at stay = by (own p) refl
    where
      by : (o : Option OwnNode) → own p ≡ o → goes_on_here (own p) ≡ true
      by None none = ap goes_on_here none
      by (Some v) is = elim (cases_Bool (effects marks p).touched) [
        | inr un ↦ (let same = some_same (met p) v.node x (met_own p v is) (side.untouched p x e stay un) in
            absurd (both_ends (in_txn x.id.place) true (subst IsOwn same (is_mine p v is)) (lasting look base p x at).place))
        | inl t ↦ (let w = side.touched p x e stay t in
            let same = some_same (met p) w.0 v.node w.1 (met_own p v is) in
            ap goes_on_here is ∙ and_from _ _ (ap (λ (c : Option CopySource). not (is_some c)) (ap (λ (z : NodeRev). z.copy_from) (sym same) ∙ w.2.no_copy)) (ap (λ (o : Option NodeId). is_some o) (ap (λ (z : NodeRev). z.predecessor) (sym same) ∙ w.2.predecessor)))
      ]

  met_some : (p : Path) (x : NodeRev) → nodes base p ≡ Some x → (effects marks p).deleted ≡ false → (v : NodeRev) × (met p ≡ Some v)
  met_some p x e stay = elim (cases_Bool (effects marks p).touched) [
    | inr un ↦ (x, side.untouched p x e stay un)
    | inl t ↦ (let w = side.touched p x e stay t in (w.0, w.1))
  ]

  has_name : (p : Path) (name : PathName) (v : NodeRev) → met (p ++ name ∷ []) ≡ Some v → has_here (own p) name ≡ true
  has_name p name v e = by (own p) refl
    where
      by : (o : Option OwnNode) → own p ≡ o → has_here (own p) name ≡ true
      by None none = ap (λ (o : Option OwnNode). has_here o name) none
      by (Some d) here = ap (λ (o : Option OwnNode). has_here o name) here ∙ child (own (p ++ name ∷ [])) refl
        where
          child : (o : Option OwnNode) → own (p ++ name ∷ []) ≡ o → has_entry d.entries name ≡ true
          child (Some w) is = entry_has (λ name u. placing.Stands look top base trees nodes shown are le txn f own draft p d (name ∷ []) u) d.entries (λ name. head_at (own (p ++ name ∷ []))) name
              (placing.entries look top base trees nodes shown are le txn f own draft p d here) (head_some (own (p ++ name ∷ [])) (ap (λ (o : Option OwnNode). is_some o) is))
          child None none = (got (has_entry d.entries name) (placing.nodes_below look top base trees nodes shown are le txn f own draft p d (name ∷ [])) v (sym (placing.met_shared look top base trees nodes shown are le txn f own draft p d here name [] none) ∙ e)).0

  abbrev Says : Path → Type 0
  Says p = is_some (trees base p) ≡ true → (effects marks p).deleted ≡ not (held own p)

  above_some : (p : Path) (name : PathName) → is_some (trees base (p ++ name ∷ [])) ≡ true → is_some (trees base p) ≡ true
  above_some p name some = let n = (sound look base (trees base) (shown base le)).is_tree.above p (p ++ name ∷ []) (longer p) some in ap (λ (o : Option Node). is_some o) n.1
    where
      longer : (p : Path) → is_above p (p ++ name ∷ []) ≡ true
      longer [] = refl
      longer (y ∷ p) = subst (λ (b : Bool). (b && covers p (p ++ name ∷ [])) && not (b && covers (p ++ name ∷ []) p) ≡ true) (sym (Rattle.fsfs_base.proofs.PathLemmas.same_name-refl y)) (longer p)

  says_root : Says []
  says_root some =
      let x = base_there [] some in
      elim (cases_Bool (effects marks []).deleted) [
        | inr stay ↦ stay ∙ ap not (sym (goes [] x.0 x.1 x.2 stay))
        | inl del ↦ elim (cases_Bool (held own [])) [
          | inl h ↦ absurd (not_another [] x.0 x.1 x.2 h del (λ q a. absurd (nothing q a)))
          | inr off ↦ del ∙ ap not (sym off)
        ]
      ]
    where
      nothing : (q : Path) → is_above q [] ≡ true → ⊥
      nothing [] a = false≢true a
      nothing (y ∷ q) a = false≢true a

  says_step : (p : Path) (name : PathName) → Says p → Says (p ++ name ∷ [])
  says_step p name say some =
      let x = base_there (p ++ name ∷ []) some in
      let up = say (above_some p name some) in
      elim (cases_Bool (held own p)) [
        | inr off ↦ (let gone = up ∙ ap not off in
            gone_down marks p (p ++ name ∷ []) (front p) gone ∙ ap not (sym (not_held off)))
        | inl h ↦ (let stays = up ∙ ap not h in elim (cases_Bool (effects marks (p ++ name ∷ [])).deleted) [
          | inl del ↦ elim (cases_Bool (held own (p ++ name ∷ []))) [
            | inr off ↦ del ∙ ap not (sym off)
            | inl all ↦ absurd (not_another (p ++ name ∷ []) x.0 x.1 x.2 all del (λ q a. elim (cases_Bool (effects marks q).deleted) [
              | inr stay ↦ stay
              | inl gone ↦ absurd (both_ends (effects marks p).deleted true (gone_down marks q p (above_front q p name a) gone) stays)
            ]))
          ]
          | inr stay ↦ stay ∙ ap not (sym (here x.0 x.1 x.2 h stay))
        ])
      ]
    where
      front : (p : Path) → covers p (p ++ name ∷ []) ≡ true
      front [] = refl
      front (y ∷ p) = and_from _ _ (Rattle.fsfs_base.proofs.PathLemmas.same_name-refl y) (front p)

      not_held : held own p ≡ false → held own (p ++ name ∷ []) ≡ false
      not_held off = elim (cases_Bool (held own (p ++ name ∷ []))) [
        | inr w ↦ w
        | inl h ↦ absurd (false≢true (sym off ∙ held_front p (name ∷ []) own h))
      ]

      here : (x : NodeRev) → nodes base (p ++ name ∷ []) ≡ Some x → StandsAt look base (p ++ name ∷ []) x → held own p ≡ true → (effects marks (p ++ name ∷ [])).deleted ≡ false → held own (p ++ name ∷ []) ≡ true
      here x e at h stay =
          let v = met_some (p ++ name ∷ []) x e stay in
          let old : under p own [] ≡ own p = under_is p own [] ∙ ap own (append-nil p) in
          let going : goes_on_here (under p own []) ≡ true = sym (held_under look top p own [] h) ∙ ap (held own) (append-nil p) ∙ h in
          held_under look top p own (name ∷ []) h
          ∙ and_from _ _ going (and_from _ _ (ap (λ (o : Option OwnNode). has_here o name) old ∙ has_name p name v.0 v.1) (ap goes_on_here (under_is p own (name ∷ [])) ∙ goes (p ++ name ∷ []) x e at stay))

  says_from : (rest front : Path) → Says front → Says (front ++ rest)
  says_from [] front s = subst Says (sym (append-nil front)) s
  says_from (name ∷ rest) front s = subst Says (append_assoc front (name ∷ []) rest) (says_from rest (front ++ name ∷ []) (says_step front name s))

  says : (p : Path) → Says p
  says p = says_from p [] says_root

  kept : (p : Path) → is_some (trees base p) ≡ true → held own p ≡ true → (effects marks p).deleted ≡ false
  kept p some h = says p some ∙ ap not h

  touched : (p : Path) → is_some (trees base p) ≡ true → held own p ≡ true → (effects marks p).touched ≡ is_some (own p)
  touched p some h =
      let x = base_there p some in
      elim (cases_Bool (effects marks p).touched) [
        | inr un ↦ un ∙ sym (none (own p) refl x.0 x.2 (side.untouched p x.0 x.1 (kept p some h) un))
        | inl t ↦ (let w = side.touched p x.0 x.1 (kept p some h) t in
            let d = hanging.mine_at look top base trees nodes shown are le txn f own draft p w.0 w.1 w.2.own in
            t ∙ sym (ap (λ (o : Option OwnNode). is_some o) d.1))
      ]
    where
      none : (o : Option OwnNode) → own p ≡ o → (x : NodeRev) → StandsAt look base p x → met p ≡ Some x → is_some (own p) ≡ false
      none None e x at m = ap (λ (o : Option OwnNode). is_some o) e
      none (Some v) e x at m = absurd (both_ends (in_txn x.id.place) true (subst IsOwn (some_same (met p) v.node x (met_own p v e) m) (is_mine p v e)) (lasting look base p x at).place)

  props : (p : Path) (v : OwnNode) → is_some (trees base p) ≡ true → held own p ≡ true → own p ≡ Some v → (effects marks p).props_changed ≡ is_some v.props
  props p v some h is =
      let x = base_there p some in
      let w = side.touched p x.0 x.1 (kept p some h) (touched p some h ∙ ap (λ (o : Option OwnNode). is_some o) is) in
      let same = some_same (met p) w.0 v.node w.1 (met_own p v is) in
      let m = (way p h).mine v is in
      let one : m.0.u ≡ x.0 = stands_same look base p m.0.u x.0 m.0.stands x.2 in
      by x.0 x.2 (ap (λ (z : NodeRev). z.props) (sym same) ∙ w.2.props) (subst (Keeps v) one m.0.keeps) (effects marks p).props_changed refl v.props refl
    where
      by : (x : NodeRev) → StandsAt look base p x → v.node.props ≡ (if (effects marks p).props_changed then Some contents.Own else x.props) → Keeps v x → (c : Bool) → (effects marks p).props_changed ≡ c → (o : Option (List (List ℕ × List ℕ))) → v.props ≡ o → (effects marks p).props_changed ≡ is_some v.props
      by x at e keeps true c None n = absurd ((lasting look base p x at).props (sym (keeps.props n) ∙ e ∙ ap (λ (b : Bool). if b then Some contents.Own else x.props) c))
      by x at e keeps true c (Some pairs) n = c ∙ sym (ap (λ (o : Option (List (List ℕ × List ℕ))). is_some o) n)
      by x at e keeps false c None n = c ∙ sym (ap (λ (o : Option (List (List ℕ × List ℕ))). is_some o) n)
      by x at e keeps false c (Some pairs) n = absurd ((lasting look base p x at).props (sym (ap (λ (b : Bool). if b then Some contents.Own else x.props) c) ∙ sym e ∙ (files p v is).set pairs n))

  pub marks_of : AreMarksOf (trees base) marks own
  marks_of = record { deleted = says; touched = touched; props = props }

pub sides_are_marks : SidesAreMarks
sides_are_marks look top base trees nodes shown are le txn f own marks draft files side = marks_of look top base trees nodes shown are le txn f own marks draft files side
