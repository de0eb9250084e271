-- What the marks of a draft say of its base is what is met in it.
use Rattle.std.proofs.Common.{◌≡◌, ◌≤◌, ℕ, not, Bool, true, false, ◌&&◌, cond, List, [], ◌∷◌, ◌++◌, refl, sym, ap, subst, ◌∙◌, inl, inr, append-nil}
use Rattle.std.specs.Prelude.{Option, Some, None, is_some, if◌then◌else◌}
use mathlib.Core.Bool.{false≢true}
use Rattle.fsfs_base.specs.Paths.{PathName, Path, covers, is_above}
use Rattle.fsfs_tree.specs.Nodes.{Node, TreeFunction}
use Rattle.fsfs_model.specs.declared.flat.mark.Mark.{Mark}
use Rattle.fsfs_model.specs.Flat.Marks.{effects}
use Rattle.fsfs_base.proofs.PathLemmas.{same_name-refl}
use Rattle.fsfs_base.specs.declared.fields.txn_name.TxnName.{TxnName}
use Rattle.fsfs_revision.specs.Told.{RevisionBytes}
use Rattle.fsfs_noderev.specs.Ids.{part_value}
use Rattle.fsfs_noderev.specs.declared.node_id.Part.{Part}
use Rattle.fsfs_noderev.specs.declared.node_id.Part.TheVariants as parts
use Rattle.fsfs_noderev.specs.declared.node_id.NodeId.{NodeId}
use Rattle.fsfs_noderev.specs.declared.rep.Contents.TheVariants as contents
use Rattle.fsfs_noderev.specs.declared.node_rev.CopyRoot.{CopyRoot}
use Rattle.fsfs_noderev.specs.declared.node_rev.CopySource.{CopySource}
use Rattle.fsfs_noderev.specs.declared.node_rev.NodeRev.{NodeRev}
use Rattle.fsfs_revision.specs.Nodes.{is_lasting_part}
use Rattle.fsfs_revision.specs.Shows.Reading.{StandsAt}
use Rattle.fsfs_revision.proofs.OneWalk.{stands_same}
use Rattle.fsfs_revision.proofs.TreeLaw.{sound}
use Rattle.fsfs_draft.specs.Own.{OwnNode, Own, below, has_entry, under, lives_in, lives}
use Rattle.fsfs_draft.specs.Rules.{GoesOn, root_or_path, draft_root, lasting_root, is_after, Above, at_top, IsNew, Keeps, ComesBy, Change, Copied, Made, NodeRule, Rules, head_at, stands_from, stands_under, stands_at, above_under, above_at}
use Rattle.fsfs_draft.specs.Drafts.{Folder, IsDraft, ShowTrees}
use Rattle.fsfs_draft.specs.OwnSides.{NodesAt, in_txn, has_own_root, IsSuccessor, IsAnother, IsOwnSide}
use Rattle.fsfs_draft.specs.Met.{nodes_from, nodes_under, met_here, met_in, draft_nodes, AreNodes}
use Rattle.fsfs_draft.specs.Sides.{HasFiles, OwnFiles, goes_on_here, has_here, held, AreMarksOf}
use Rattle.fsfs_draft.specs.Handed.{DraftsKeepSides}
use Rattle.fsfs_draft.proofs.Bases.{revision_agrees}
use Rattle.fsfs_draft.proofs.Here.{under_is, none_own, lives_there}
use Rattle.fsfs_draft.proofs.Lasting.{lasting}
use Rattle.fsfs_draft.proofs.Placing.{Place, Mine, Shared, got}
use Rattle.fsfs_draft.proofs.Placing as placing
use Rattle.fsfs_draft.proofs.HangLaw.{some_same}
use Rattle.fsfs_draft.proofs.HangLaw as hanging
use Rattle.std.proofs.lemmas.Bool.{and_from, and_parts}

-- ---- what goes on

pub record Goes (look : RevisionBytes) (S : NodeRev → Type 0) (d : OwnNode) : Type 0 where
  pub u : NodeRev
  pub stands : S u
  pub no_copy : d.node.copy_from ≡ None
  pub on : GoesOn d.node u
  pub keeps : Keeps d u

goes_not : (c : Option CopySource) (o : Option NodeId) → is_some c ≡ true → not (is_some c) && is_some o ≡ true → ⊥
goes_not None o e h = absurd cc
goes_not (Some from) o e h = absurd cc

goes_pred : (c : Option CopySource) (o : Option NodeId) → o ≡ None → not (is_some c) && is_some o ≡ true → ⊥
goes_pred None None e h = absurd cc
goes_pred None (Some id) e h = absurd cc
goes_pred (Some from) o e h = absurd cc

module _ (look : RevisionBytes) (top : ℕ) where
  pub it_goes : (S : Path → NodeRev → Type 0) (above : Above) (d : OwnNode) → ComesBy look top S above d → goes_on_here (Some d) ≡ true → Goes look (S []) d
  it_goes S above d (Change u at no_copy on keeps root part) h = record { u = u; stands = at; no_copy = no_copy; on = on; keeps = keeps }
  it_goes S above d (Copied u from is low at on keeps root part) h = absurd (goes_not d.node.copy_from d.node.predecessor (ap (λ (c : Option CopySource). is_some c) is) h)
  it_goes S above d (Made no_copy no_pred count root part new) h = absurd (goes_pred d.node.copy_from d.node.predecessor no_pred h)

  -- the copy root is of a revision, where that of the directory is
  root_some : (S : Path → NodeRev → Type 0) (above : Above) (d : OwnNode) → ComesBy look top S above d → goes_on_here (Some d) ≡ true → is_some above.root.0 ≡ true → is_some (draft_root d.node).0 ≡ true
  root_some S above d (Change u at no_copy on keeps root part) h some = ap (λ (r : Option ℕ × Path). is_some r.0) root ∙ by (is_after above.root.0 _)
    where
      by : (b : Bool) → is_some (if b then above.root else lasting_root u).0 ≡ true
      by true = some
      by false = refl
  root_some S above d (Copied u from is low at on keeps root part) h some = absurd (goes_not d.node.copy_from d.node.predecessor (ap (λ (c : Option CopySource). is_some c) is) h)
  root_some S above d (Made no_copy no_pred count root part new) h some = absurd (goes_pred d.node.copy_from d.node.predecessor no_pred h)

  module _ (nodes : ℕ → NodesAt) where
    -- what is met where the draft has what is shared, or what goes on from it
    pub record HeldAt (own : Own) (S : Path → NodeRev → Type 0) (N : NodesAt) (p : Path) : Type 0 where
      pub shared : own p ≡ None → draft_nodes nodes own N p ≡ N p
      pub mine : (v : OwnNode) → own p ≡ Some v → Goes look (S p) v × (is_some (draft_root v.node).0 ≡ true)

    same_stands : (S : Path → NodeRev → Type 0) (c : Option CopySource) (o : Option NodeId) → not (is_some c) && is_some o ≡ true → (q : Path) (u : NodeRev) → stands_from look c o S q u → S q u
    same_stands S None (Some id) h q u at = at
    same_stands S None None h q u at = absurd at
    same_stands S (Some from) o h q u at = absurd cc

    same_nodes : (N : NodesAt) (c : Option CopySource) (o : Option NodeId) → not (is_some c) && is_some o ≡ true → (q : Path) → nodes_from nodes c o N q ≡ N q
    same_nodes N None (Some id) h q = refl
    same_nodes N None None h q = absurd cc
    same_nodes N (Some from) o h q = absurd cc

    pub held_at : (p : Path) (own : Own) (above : Above) (S : Path → NodeRev → Type 0) (N : NodesAt) → Rules look top own above S → held own p ≡ true → is_some above.root.0 ≡ true → HeldAt own S N p
    held_at [] own above S N rules h some = record {
      shared = λ none. ap (λ (o : Option OwnNode). met_here o (N [])) none;
      mine = λ v is. (let rule = subst (λ (o : Option OwnNode). NodeRule look top o (λ name. head_at (own (name ∷ []))) above S) is (rules []) in
          let g : goes_on_here (Some v) ≡ true = subst (λ (o : Option OwnNode). goes_on_here o ≡ true) is h in
          (it_goes S above v rule.0 g, root_some S above v rule.0 g some));
    }
    held_at (x ∷ p) own above S N rules h some = by (own []) refl (held_at p (below x own) (above_under (own []) above) (λ q u. stands_under look (own []) S (x ∷ q) u) (below x (nodes_under nodes (own []) N)) (λ q. rules (x ∷ q)) (and_parts _ _ (and_parts _ _ h).1).1)
      where
        by : (o : Option OwnNode) → own [] ≡ o → (is_some (above_under (own []) above).root.0 ≡ true → HeldAt (below x own) (λ q u. stands_under look (own []) S (x ∷ q) u) (below x (nodes_under nodes (own []) N)) p) → HeldAt own S N (x ∷ p)
        by None none further = record {
          shared = λ e. ap (λ (o : Option OwnNode). met_in o x (N (x ∷ p)) (draft_nodes nodes (below x own) (below x (nodes_under nodes o N)) p)) none;
          mine = λ v is. (let e = sym (none_own look top (x ∷ p) own above S rules none) ∙ is in absurd cc);
        }
        by (Some d) is further =
            let rule = subst (λ (o : Option OwnNode). NodeRule look top o (λ name. head_at (own (name ∷ []))) above S) is (rules []) in
            let g : goes_on_here (Some d) ≡ true = subst (λ (o : Option OwnNode). goes_on_here o ≡ true) is (and_parts _ _ h).0 in
            let has : has_entry d.entries x ≡ true = subst (λ (o : Option OwnNode). has_here o x ≡ true) is (and_parts _ _ (and_parts _ _ h).1).0 in
            let inner = further (subst (λ (o : Option OwnNode). is_some (above_under o above).root.0 ≡ true) (sym is) (root_some S above d rule.0 g some)) in
            record {
              shared = λ none.
                  ap (λ (o : Option OwnNode). met_in o x (N (x ∷ p)) (draft_nodes nodes (below x own) (below x (nodes_under nodes (own []) N)) p)) is
                  ∙ ap (λ (b : Bool). cond b (draft_nodes nodes (below x own) (below x (nodes_under nodes (own []) N)) p) None) has
                  ∙ inner.shared none
                  ∙ ap (λ (o : Option OwnNode). nodes_under nodes o N (x ∷ p)) is
                  ∙ same_nodes N d.node.copy_from d.node.predecessor g (x ∷ p);
              mine = λ v at. (let m = inner.mine v at in
                  (record { u = m.0.u; stands = same_stands S d.node.copy_from d.node.predecessor g (x ∷ p) m.0.u (subst (λ (o : Option OwnNode). stands_under look o S (x ∷ p) m.0.u) is m.0.stands); no_copy = m.0.no_copy; on = m.0.on; keeps = m.0.keeps }, m.1));
            }

  -- ---- held, path by path

  pub held_under : (a : Path) (own : Own) (q : Path) → held own a ≡ true → held own (a ++ q) ≡ held (under a own) q
  held_under [] own q h = refl
  held_under (x ∷ a) own q h =
      ap (λ (b : Bool). b && (has_here (own []) x && held (below x own) (a ++ q))) (and_parts _ _ h).0
      ∙ ap (λ (b : Bool). b && held (below x own) (a ++ q)) (and_parts _ _ (and_parts _ _ h).1).0
      ∙ held_under a (below x own) q (and_parts _ _ (and_parts _ _ h).1).1

  pub none_held : (o : Own) → ((q : Path) → o q ≡ None) → (q : Path) → held o q ≡ true
  none_held o none [] = ap goes_on_here (none [])
  none_held o none (y ∷ q) =
      ap (λ (v : Option OwnNode). goes_on_here v && (has_here v y && held (below y o) q)) (none []) ∙ none_held (below y o) (λ r. none (y ∷ r)) q

  -- what stands in a directory that is held is held where it goes on
  pub held_last : (p : Path) (own : Own) (above : Above) (S : Path → NodeRev → Type 0) → Rules look top own above S → (d : OwnNode) → own p ≡ Some d → ((q : Path) → is_above q p ≡ true → held own q ≡ true) → goes_on_here (Some d) ≡ true → held own p ≡ true
  held_last [] own above S rules d here up g = ap goes_on_here here ∙ g
  held_last (x ∷ p) own above S rules d here up g =
      and_from _ _ (up [] refl)
      (and_from _ _ (has (own []) (lives_there look top (x ∷ p) own above S rules d here))
      (held_last p (below x own) (above_under (own []) above) (λ q u. stands_under look (own []) S (x ∷ q) u) (λ q. rules (x ∷ q)) d here
      (λ q c. (and_parts _ _ (and_parts _ _ (up (x ∷ q) (above_same q p c))).1).1) g))
    where
      has : (o : Option OwnNode) → lives_in o x (lives p (below x own)) ≡ true → has_here o x ≡ true
      has None h = absurd cc
      has (Some v) h = (and_parts _ _ h).0

      above_same : (q r : Path) → is_above q r ≡ true → is_above (x ∷ q) (x ∷ r) ≡ true
      above_same q r c = subst (λ (b : Bool). (b && covers q r) && not (b && covers r q) ≡ true) (sym (same_name-refl x)) c

-- ---- copy roots

pub of_revision : (mine : Bool) (path : Path) (o : Option CopyRoot) → is_some (root_or_path path o).0 ≡ true → has_own_root mine o ≡ false
of_revision mine path None h = absurd cc
of_revision mine path (Some root) h = ap (λ (b : Bool). if b then false else true) h

of_none : (mine : Bool) (path at : Path) (o : Option CopyRoot) → mine ≡ true → root_or_path path o ≡ (None, at) → has_own_root mine o ≡ true
of_none mine path at None m e = m
of_none mine path at (Some root) m e = ap (λ (r : Option ℕ × Path). if is_some r.0 then false else true) e

new_lasts : (a b : Part) → IsNew (part_value a) → is_lasting_part b ≡ true → a ≡ b → ⊥
new_lasts (parts.New n) b new h e = let g = ap is_lasting_part e ∙ h in absurd cc
new_lasts (parts.Old n) b new h e = let g = new.1 in absurd cc
new_lasts (parts.Made n r) b new h e = let g = new.1 in absurd cc

pub not_not : (a b : Bool) → a ≡ not b → a ≡ false → b ≡ true
not_not a true e f = refl
not_not a false e f = absurd (false≢true (sym f ∙ e))

not_held : (a b : Bool) → a ≡ not b → a ≡ true → b ≡ false
not_held a false e f = refl
not_held a true e f = absurd (false≢true (sym e ∙ f))

pub is_none : (o : Option OwnNode) → is_some o ≡ false → o ≡ None
is_none None h = refl
is_none (Some v) h = absurd cc

pub is_there : (o : Option OwnNode) → is_some o ≡ true → (v : OwnNode) × (o ≡ Some v)
is_there None h = absurd cc
is_there (Some v) h = (v, refl)

is_longer : (a : Path) (x : PathName) (rest : Path) → is_above a (a ++ x ∷ rest) ≡ true
is_longer [] x rest = refl
is_longer (y ∷ a) x rest = subst (λ (b : Bool). (b && covers a (a ++ x ∷ rest)) && not (b && covers (a ++ x ∷ rest) a) ≡ true) (sym (same_name-refl y)) (is_longer a x rest)

module _ (look : RevisionBytes) (top base : ℕ) (trees : ℕ → TreeFunction) (nodes : ℕ → NodesAt) (shown : ShowTrees look top trees) (are : AreNodes look top nodes) (le : base ≤ top)
    (txn : TxnName) (f : Folder) (own : Own) (marks : List Mark) (draft : IsDraft look top base txn f own) (files : OwnFiles own) (say : AreMarksOf (trees base) marks own) where
  abbrev pub met : NodesAt
  met = draft_nodes nodes own (nodes base)

  base_at : (p : Path) (x : NodeRev) → nodes base p ≡ Some x → StandsAt look base p x
  base_at p x e = ((are base le).each p x).0 e

  pub base_some : (p : Path) (x : NodeRev) → nodes base p ≡ Some x → is_some (trees base p) ≡ true
  base_some p x e = let n = (revision_agrees look base (trees base) (shown base le) top le).shown p x (base_at p x e) in ap (λ (o : Option Node). is_some o) n.1

  way : (p : Path) → held own p ≡ true → HeldAt look top nodes own (StandsAt look base) (nodes base) p
  way p h = held_at look top nodes p own at_top (StandsAt look base) (nodes base) draft.rules h refl

  untouched : (p : Path) (x : NodeRev) → nodes base p ≡ Some x → (effects marks p).deleted ≡ false → (effects marks p).touched ≡ false → met p ≡ Some x
  untouched p x e del un =
      let some = base_some p x e in
      let h = not_not (effects marks p).deleted (held own p) (say.deleted p some) del in
      (way p h).shared (is_none (own p) (sym (say.touched p some h) ∙ un)) ∙ e

  touched : (p : Path) (x : NodeRev) → nodes base p ≡ Some x → (effects marks p).deleted ≡ false → (effects marks p).touched ≡ true → (v : NodeRev) × (met p ≡ Some v) × IsSuccessor x v (effects marks p).props_changed
  touched p x e del t =
      let some = base_some p x e in
      let h = not_not (effects marks p).deleted (held own p) (say.deleted p some) del in
      let v = is_there (own p) (sym (say.touched p some h) ∙ t) in
      let m = (way p h).mine v.0 v.1 in
      let same : m.0.u ≡ x = stands_same look base p m.0.u x m.0.stands (base_at p x e) in (
        v.0.node,
        hanging.met_own look top base trees nodes shown are le txn f own draft p v.0 v.1,
        subst (λ (z : NodeRev). IsSuccessor z v.0.node (effects marks p).props_changed) same (record {
          own = hanging.is_mine look top base trees nodes shown are le txn f own draft p v.0 v.1;
          node = m.0.on.node;
          kind = m.0.on.kind;
          predecessor = m.0.on.predecessor;
          no_copy = m.0.no_copy;
          root = of_revision (in_txn v.0.node.id.place) v.0.node.created_path v.0.node.copy_root m.1;
          props = props v.0 m.0.u (files p v.0 v.1) m.0.keeps v.0.props refl ∙ ap (λ (b : Bool). if b then Some contents.Own else m.0.u.props) (sym (say.props p v.0 some h v.1));
        }),
      )
    where
      props : (d : OwnNode) (u : NodeRev) → HasFiles d → Keeps d u → (o : Option (List (List ℕ × List ℕ))) → d.props ≡ o → d.node.props ≡ (if is_some d.props then Some contents.Own else u.props)
      props d u has keeps None e = keeps.props e ∙ ap (λ (b : Bool). if b then Some contents.Own else u.props) (sym (ap (λ (o : Option (List (List ℕ × List ℕ))). is_some o) e))
      props d u has keeps (Some pairs) e = has.set pairs e ∙ ap (λ (b : Bool). if b then Some contents.Own else u.props) (sym (ap (λ (o : Option (List (List ℕ × List ℕ))). is_some o) e))

  above_some : (q p : Path) → is_above q p ≡ true → is_some (trees base p) ≡ true → is_some (trees base q) ≡ true
  above_some q p up some = let n = (sound look base (trees base) (shown base le)).is_tree.above q p up some in ap (λ (o : Option Node). is_some o) n.1

  held_above : (q p : Path) → is_above q p ≡ true → is_some (trees base p) ≡ true → (effects marks q).deleted ≡ false → held own q ≡ true
  held_above q p up some del = not_not (effects marks q).deleted (held own q) (say.deleted q (above_some q p up some)) del

  another : (p : Path) (x v : NodeRev) → nodes base p ≡ Some x → (effects marks p).deleted ≡ true → ((q : Path) → is_above q p ≡ true → (effects marks q).deleted ≡ false) → met p ≡ Some v → IsAnother x v
  another p x v e del up m = by (hanging.placed look top base trees nodes shown are le txn f own draft p)
    where
      some : is_some (trees base p) ≡ true
      some = base_some p x e

      off : held own p ≡ false
      off = not_held (effects marks p).deleted (held own p) (say.deleted p some) del

      which : (d : OwnNode) → own p ≡ Some d → ComesBy look top (λ r w. stands_at look p own (StandsAt look base) r w) (above_at p own at_top) d → IsAnother x d.node
      which d here (Change u at no_copy on keeps root part) =
          let g : goes_on_here (Some d) ≡ true = and_from _ _ (ap (λ (c : Option CopySource). not (is_some c)) no_copy) (ap (λ (o : Option NodeId). is_some o) on.predecessor) in
          absurd (false≢true (sym off ∙ held_last look top p own at_top (StandsAt look base) draft.rules d here (λ q c. held_above q p c some (up q c)) g))
      which d here (Copied u from is low at on keeps root part) =
          record { own = hanging.is_mine look top base trees nodes shown are le txn f own draft p d here; other = inr (of_none (in_txn d.node.id.place) d.node.created_path d.node.created_path d.node.copy_root (hanging.is_mine look top base trees nodes shown are le txn f own draft p d here) root) }
      which d here (Made no_copy no_pred count root part new) =
          record { own = hanging.is_mine look top base trees nodes shown are le txn f own draft p d here; other = inl (λ same. new_lasts d.node.id.node x.id.node new (lasting look base p x (base_at p x e)).part same) }

      by : Place own p → IsAnother x v
      by (Mine d here) = subst (IsAnother x) (some_same (met p) d.node v (hanging.met_own look top base trees nodes shown are le txn f own draft p d here) m) (which d here (hanging.comes look top base trees nodes shown are le txn f own draft p d here))
      by (Shared a y rest d at here none) =
          let g = got (has_entry d.entries y) (placing.nodes_below look top base trees nodes shown are le txn f own draft a d (y ∷ rest)) v (sym (placing.met_shared look top base trees nodes shown are le txn f own draft a d here y rest none) ∙ ap met (sym at) ∙ m) in
          let c : is_above a p ≡ true = subst (λ (r : Path). is_above a r ≡ true) (sym at) (is_longer a y rest) in
          let ha = held_above a p c some (up a c) in
          let old : under a own [] ≡ Some d = under_is a own [] ∙ ap own (append-nil a) ∙ here in
          let going : goes_on_here (Some d) ≡ true = ap goes_on_here (sym old) ∙ sym (held_under look top a own [] ha) ∙ ap (held own) (append-nil a) ∙ ha in
          let free = none_held look top (below y (under a own)) (λ r. under_is a own (y ∷ r) ∙ placing.own_shared look top base trees nodes shown are le txn f own draft a d here y r none) rest in
          let all : held (under a own) (y ∷ rest) ≡ true = ap (λ (o : Option OwnNode). goes_on_here o && (has_here o y && held (below y (under a own)) rest)) old ∙ and_from _ _ going (and_from _ _ g.0 free) in
          absurd (false≢true (sym off ∙ ap (held own) at ∙ held_under look top a own (y ∷ rest) ha ∙ all))

  pub side : IsOwnSide (nodes base) marks met
  side = record { untouched = untouched; touched = touched; another = another }

pub drafts_keep_sides : DraftsKeepSides
drafts_keep_sides look top base trees nodes shown are le txn f own marks draft files say = side look top base trees nodes shown are le txn f own marks draft files say
