-- What an own directory of a draft has, by its entries as they are read.
use Rattle.std.proofs.Common.{◌≡◌, ◌≤◌, ℕ, true, false, ◌&&◌, cond, List, [], ◌∷◌, ◌++◌, refl, sym, ap, subst, ◌∙◌, inl, inr, append_assoc}
use Rattle.std.specs.Prelude.{Option, Some, None, Ok, Err, is_some}
use Rattle.std.proofs.lemmas.Bool.{and_parts}
use Rattle.fsfs_base.specs.Paths.{PathName, Path}
use Rattle.fsfs_model.specs.Flat.Edits.{is_dir, is_dir_node}
use Rattle.fsfs_base.proofs.PathLemmas.{covers-longer}
use Rattle.fsfs_tree.specs.Nodes.{Node, TreeFunction}
use Rattle.fsfs_base.specs.declared.kind.Kind.{Kind}
use Rattle.fsfs_base.specs.declared.kind.Kind.TheVariants.{File, Dir}
use Rattle.fsfs_base.specs.declared.fields.txn_name.TxnName.{TxnName}
use Rattle.fsfs_revision.specs.Told.{RevisionBytes}
use Rattle.fsfs_noderev.specs.declared.node_id.NodeId.{NodeId}
use Rattle.fsfs_noderev.specs.declared.node_rev.NodeRev.{NodeRev}
use Rattle.fsfs_revision.specs.Nodes.{is_revision_id, is_revision_place, is_lasting_part, is_of_revision, has_revision_pred, has_revision_rep, has_revision_root}
use Rattle.fsfs_revision.specs.declared.wrong.Wrong.{Wrong}
use Rattle.fsfs_revision.specs.Shows.Reading.{DirEntry, named, EntriesOf, OfId, OfEntry, kind_checks, StandsAt, offset_of}
use Rattle.fsfs_revision.proofs.OneAnswer.{ok_same, pass_or_fail}
use Rattle.fsfs_revision.proofs.OneWalk.{of_id_one}
use Rattle.fsfs_revision.proofs.DamageLemmas.{no_both}
use Rattle.fsfs_draft.specs.Own.{OwnNode, Own, below, shared_under, node_here, in_own, draft_tree, under, shared_at}
use Rattle.fsfs_draft.specs.Rules.{Above, head_at, IsEntryOf, stands_under, above_at, stands_at, at_top}
use Rattle.fsfs_draft.specs.Drafts.{Kept, Folder, kept_of, IsDraft, ShowTrees}
use Rattle.fsfs_draft.specs.Agreeing.{Agrees}
use Rattle.fsfs_draft.specs.Steps.{kept_at, EntriesHere, Listed, Read, Empty}
use Rattle.fsfs_draft.proofs.Edited.{behind_own, old_tree}
use Rattle.fsfs_draft.proofs.OwnShown.{own_shown}
use Rattle.fsfs_draft.proofs.Here.{under_is, goes_from, live_here, old_here, rule_here, agrees_below, AreHere, are_here, Inner, inner_shared}
use Rattle.fsfs_draft.proofs.Changing.{of_id_lasting, no_txn_place}
use Rattle.fsfs_draft.specs.Entries.{OfKind, OfListed, OfKept, IsWithin}
use Rattle.fsfs_draft.specs.Errors.{IsFailure, of_read}
use Rattle.fsfs_dag.proofs.PairLemmas.{entries_seen}
use Rattle.fsfs_revision.specs.declared.wrong.ReadError.{ReadError}
use Rattle.fsfs_revision.specs.declared.wrong.ReadError.TheVariants as reads
use Rattle.fsfs_revision.specs.Damage.Readings.{Answers}
use Rattle.fsfs_draft.specs.Walks.{IsLastingAt, HasKind, IsChild}
use Rattle.fsfs_draft.specs.declared.walk.Step.TheVariants as steps

pub lasting_id : (u : NodeRev) → is_of_revision u ≡ true → is_revision_id u.id ≡ true
lasting_id u h =
    let a = and_parts (is_revision_id u.id && has_revision_pred u.predecessor && has_revision_rep u.text && has_revision_rep u.props && has_revision_root u.copy_root) _ h in
    let b = and_parts (is_revision_id u.id && has_revision_pred u.predecessor && has_revision_rep u.text && has_revision_rep u.props) (has_revision_root u.copy_root) a.0 in
    let c = and_parts (is_revision_id u.id && has_revision_pred u.predecessor && has_revision_rep u.text) (has_revision_rep u.props) b.0 in
    let d = and_parts (is_revision_id u.id && has_revision_pred u.predecessor) (has_revision_rep u.text) c.0 in
    (and_parts (is_revision_id u.id) (has_revision_pred u.predecessor) d.0).0

pub record AreLasting (id : NodeId) : Type 0 where
  pub node : is_lasting_part id.node ≡ true
  pub copy : is_lasting_part id.copy ≡ true
  pub place : is_revision_place id.place ≡ true

pub lasting_parts : (id : NodeId) → is_revision_id id ≡ true → AreLasting id
lasting_parts id h =
    let a = and_parts (is_lasting_part id.node && is_lasting_part id.copy) (is_revision_place id.place) h in
    let b = and_parts (is_lasting_part id.node) (is_lasting_part id.copy) a.0 in
    record { node = b.0; copy = b.1; place = a.1 }

-- ---- in an own directory

pub is_dir_kind : (k : Kind) → is_dir k ≡ true → k ≡ Dir
is_dir_kind File h = absurd cc
is_dir_kind Dir h = refl

pub has_kind : (o : Option Node) (n : Node) (kind : Kind) → o ≡ Some n → n.kind ≡ kind → HasKind o kind
has_kind o n kind is k = subst (λ (x : Option Node). HasKind x kind) (sym is) k

-- the own node-revision at a path where the tree has a directory is a directory
pub own_dir : (look : RevisionBytes) (top base : ℕ) (trees : ℕ → TreeFunction) → ShowTrees look top trees → base ≤ top → (txn : TxnName) (f : Folder) (own : Own) → IsDraft look top base txn f own
    → (p : Path) (d : OwnNode) → own p ≡ Some d → is_dir_node (draft_tree trees own (trees base) p) ≡ true → d.node.kind ≡ Dir
own_dir look top base trees shown le txn f own draft p d here is = sym (draft.contents p d here).kind ∙ is_dir_kind d.shown.kind (sym (ap (λ (o : Option Node). is_dir_node o) at) ∙ is)
  where
    at : draft_tree trees own (trees base) p ≡ Some d.shown
    at = own_shown look top base trees shown le txn f own draft p d here

module _ (look : RevisionBytes) (top base : ℕ) (trees : ℕ → TreeFunction) (shown : ShowTrees look top trees) (le : base ≤ top) (txn : TxnName) (f : Folder) (own : Own) (draft : IsDraft look top base txn f own)
    (p : Path) (d : OwnNode) (here : own p ≡ Some d) (dir : d.node.kind ≡ Dir) where
  abbrev Old : Own
  Old = under p own

  abbrev Upper : Above
  Upper = above_at p own at_top

  abbrev StandsHere : Path → NodeRev → Type 0
  StandsHere q v = stands_at look p own (StandsAt look base) q v

  abbrev StandsBelow : Path → NodeRev → Type 0
  StandsBelow q v = stands_under look (Some d) StandsHere q v

  abbrev SharedBelow : TreeFunction
  SharedBelow = shared_under trees (Some d) (shared_at trees p own (trees base))

  agrees : Agrees look top StandsBelow SharedBelow
  agrees = agrees_below look top base trees shown le txn f own draft p d here

  from_id : (id : NodeId) → d.node.predecessor ≡ Some id → (u : NodeRev) × StandsBelow [] u × (u.id ≡ id) × (d.node.kind ≡ u.kind)
  from_id id is = goes_from look top d Upper StandsHere id (rule_here look top base trees shown le txn f own draft p d here).0 is

  -- what it goes on from is of a revision that is told
  pub pred_within : IsWithin top d.node.predecessor
  pred_within = by d.node.predecessor refl
    where
      by : (o : Option NodeId) → d.node.predecessor ≡ o → IsWithin top o
      by None is = tt
      by (Some id) is = let u = from_id id is in subst (λ (i : NodeId). (offset_of i.place).rev ≤ top) u.2 (agrees.within [] u.0 u.1)

  pred_read : (id : NodeId) → d.node.predecessor ≡ Some id → (u : NodeRev) × StandsBelow [] u × OfId look id (Ok u) × (u.kind ≡ Dir)
  pred_read id is = let u = from_id id is in (u.0, u.1, subst (λ (i : NodeId). OfId look i (Ok u.0)) u.2 (agrees.read [] u.0 u.1), sym u.3 ∙ dir)

  -- its entries as they are read are its entries
  pub entries_here : (entries : List DirEntry) → OfKept look (kept_of d) (Ok entries) → EntriesHere look (kept_of d) entries
  entries_here entries of = by d.entries d.node.predecessor refl refl of
    where
      by : (o : Option (List DirEntry)) (b : Option NodeId) → d.entries ≡ o → d.node.predecessor ≡ b → OfListed look o b (Ok entries) → EntriesHere look (kept_of d) entries
      by (Some es) b is pred of = Listed (is ∙ ap (λ (t : List DirEntry). Some t) (sym (ok_same entries es of)))
      by None None is pred of = Empty is pred (ok_same entries [] of)
      by None (Some id) is pred of =
          let u = pred_read id pred in
          let same : of.0 ≡ u.0 = ok_same of.0 u.0 (of_id_one look id (Ok of.0) (Ok u.0) of.1 u.2) in
          let is_dir : of.0.kind ≡ Dir = (λ i. (same i).kind) ∙ u.3 in
          Read id of.0 is pred of.1 (subst (λ (k : Kind). OfKind look k of.0 (Ok entries)) is_dir of.2)

  -- and nothing is wrong with them
  pub entries_never : (w : Wrong) → OfKept look (kept_of d) (Err w) → ⊥
  entries_never w of = by d.entries d.node.predecessor refl refl of
    where
      by : (o : Option (List DirEntry)) (b : Option NodeId) → d.entries ≡ o → d.node.predecessor ≡ b → OfListed look o b (Err w) → ⊥
      by (Some es) b is pred of = cc
      by None None is pred of = cc
      by None (Some id) is pred (inl of) = let u = pred_read id pred in let e = of_id_one look id (Ok u.0) (Err w) u.2 of in cc
      by None (Some id) is pred (inr of) =
          let u = pred_read id pred in
          let same : of.0 ≡ u.0 = ok_same of.0 u.0 (of_id_one look id (Ok of.0) (Ok u.0) of.1 u.2) in
          let is_dir : of.0.kind ≡ Dir = (λ i. (same i).kind) ∙ u.3 in
          agrees.never [] u.0 w u.1 u.3 (subst (λ (x : NodeRev). EntriesOf look x (Err w)) same (subst (λ (k : Kind). OfKind look k of.0 (Err w)) is_dir of.2))

  pub there_kept : kept_at f.nodes d.node.id ≡ None → ⊥
  there_kept none = let e = sym none ∙ draft.kept p d here in cc

  pub kept_same : (id : NodeId) (k : Kept) → d.node.id ≡ id → kept_at f.nodes id ≡ Some k → k ≡ kept_of d
  kept_same id k same is = let both : Some k ≡ Some (kept_of d) = sym is ∙ ap (λ (i : NodeId). kept_at f.nodes i) (sym same) ∙ draft.kept p d here in cc

  -- a failure to read the entries
  pub entries_fail : (e : ReadError) → Answers entries_seen (OfKept look (kept_of d)) (Err e) → IsFailure (of_read e)
  entries_fail reads.OutOfMemory h = tt
  entries_fail reads.DiskFault h = tt
  entries_fail (reads.Wrong w) h = entries_never w h

  module _ (name : PathName) (entries : List DirEntry) (listed : EntriesHere look (kept_of d) entries) where
    all_here : AreHere look top base trees shown le txn f own draft p d here entries
    all_here = are_here look top base trees shown le txn f own draft p d here entries dir listed

    -- where no entry has the name, nothing stands there
    pub lacks_node : named name entries ≡ None → draft_tree trees own (trees base) (p ++ name ∷ []) ≡ None
    lacks_node none =
        old_tree trees p own (trees base) (live_here look top base trees shown le txn f own draft p d here) (p ++ name ∷ [])
        ∙ (λ i. cond (covers-longer p (name ∷ []) i) (draft_tree trees Old (shared_at trees p own (trees base)) (behind_own p (name ∷ []) i)) (draft_tree trees own (trees base) (p ++ name ∷ [])))
        ∙ at_name
      where
        at_name : draft_tree trees Old (shared_at trees p own (trees base)) (name ∷ []) ≡ None
        at_name =
            ap (λ (o : Option OwnNode). in_own o name (shared_at trees p own (trees base) (name ∷ [])) (draft_tree trees (below name Old) (below name (shared_under trees o (shared_at trees p own (trees base)))) []))
            (old_here look top base trees shown le txn f own draft p d here)
            ∙ sym (all_here.tree name []) ∙ ap (λ (o : Option DirEntry). cond (is_some o) (Inner look top base trees shown le txn f own draft p d here name []) None) none

    pub has_named : is_some (draft_tree trees own (trees base) (p ++ name ∷ [])) ≡ true → named name entries ≡ None → ⊥
    has_named some none = let e = ap (λ (o : Option Node). is_some o) (lacks_node none) in let g = sym some ∙ e in cc

    at_path : draft_tree trees own (trees base) (p ++ name ∷ []) ≡ cond (is_some (named name entries)) (Inner look top base trees shown le txn f own draft p d here name []) None
    at_path =
        old_tree trees p own (trees base) (live_here look top base trees shown le txn f own draft p d here) (p ++ name ∷ [])
        ∙ (λ i. cond (covers-longer p (name ∷ []) i) (draft_tree trees Old (shared_at trees p own (trees base)) (behind_own p (name ∷ []) i)) (draft_tree trees own (trees base) (p ++ name ∷ [])))
        ∙ ap (λ (o : Option OwnNode). in_own o name (shared_at trees p own (trees base) (name ∷ [])) (draft_tree trees (below name Old) (below name (shared_under trees o (shared_at trees p own (trees base)))) []))
        (old_here look top base trees shown le txn f own draft p d here)
        ∙ sym (all_here.tree name [])

    -- where nothing stands, no entry has the name
    pub none_named : draft_tree trees own (trees base) (p ++ name ∷ []) ≡ None → named name entries ≡ None
    none_named none = by (named name entries) refl (all_here.are name)
      where
        shown_some : (o : Option OwnNode) → Old (name ∷ []) ≡ o → IsEntryOf (λ v. StandsBelow (name ∷ []) v) (named name entries) (head_at o) → is_some (named name entries) ≡ true → is_some (Inner look top base trees shown le txn f own draft p d here name []) ≡ true
        shown_some None is h some = by_shared (named name entries) h some
          where
            by_shared : (o : Option DirEntry) → IsEntryOf (λ v. StandsBelow (name ∷ []) v) o None → is_some o ≡ true → is_some (Inner look top base trees shown le txn f own draft p d here name []) ≡ true
            by_shared None h some = absurd cc
            by_shared (Some e) h some =
                let n = agrees.shown (name ∷ []) h.0 h.1 in
                ap (λ (o : Option Node). is_some o) (inner_shared look top base trees shown le txn f own draft p d here name (ap (λ (o : Option OwnNode). head_at o) is) [] ∙ n.1)
        shown_some (Some v) is h some = ap (λ (o : Option OwnNode). is_some (node_here o (SharedBelow (name ∷ [])))) is

        by : (o : Option DirEntry) → named name entries ≡ o → IsEntryOf (λ v. StandsBelow (name ∷ []) v) (named name entries) (head_at (Old (name ∷ []))) → named name entries ≡ None
        by None is h = is
        by (Some e) is h =
            let some = ap (λ (o : Option DirEntry). is_some o) is in
            let there = shown_some (Old (name ∷ [])) refl h some in
            let g : is_some (draft_tree trees own (trees base) (p ++ name ∷ [])) ≡ true = ap (λ (o : Option Node). is_some o) (at_path ∙ ap (λ b. cond b (Inner look top base trees shown le txn f own draft p d here name []) None) some) ∙ there in
            let z = sym g ∙ ap (λ (o : Option Node). is_some o) none in
            absurd cc

    at_path_on : (r : Path) → draft_tree trees own (trees base) (p ++ name ∷ r) ≡ cond (is_some (named name entries)) (Inner look top base trees shown le txn f own draft p d here name r) None
    at_path_on r =
        old_tree trees p own (trees base) (live_here look top base trees shown le txn f own draft p d here) (p ++ name ∷ r)
        ∙ (λ i. cond (covers-longer p (name ∷ r) i) (draft_tree trees Old (shared_at trees p own (trees base)) (behind_own p (name ∷ r) i)) (draft_tree trees own (trees base) (p ++ name ∷ r)))
        ∙ ap (λ (o : Option OwnNode). in_own o name (shared_at trees p own (trees base) (name ∷ r)) (draft_tree trees (below name Old) (below name (shared_under trees o (shared_at trees p own (trees base)))) r))
        (old_here look top base trees shown le txn f own draft p d here)
        ∙ sym (all_here.tree name r)

    module _ (e : DirEntry) (found : named name entries ≡ Some e) where
      entry_of : IsEntryOf (λ v. StandsBelow (name ∷ []) v) (Some e) (head_at (Old (name ∷ [])))
      entry_of = subst (λ (o : Option DirEntry). IsEntryOf (λ v. StandsBelow (name ∷ []) v) o (head_at (Old (name ∷ [])))) found (all_here.are name)

      stands_lasting : (v : NodeRev) → StandsBelow (name ∷ []) v → is_revision_id v.id ≡ true
      stands_lasting v at = lasting_id v (of_id_lasting look v.id v (agrees.read (name ∷ []) v at))

      lasting_wrong : is_revision_id e.id ≡ true → (w : Wrong) → OfId look e.id (Err w) → ⊥
      lasting_wrong lasts w of = by (Old (name ∷ [])) refl entry_of
        where
          by : (o : Option OwnNode) → Old (name ∷ []) ≡ o → IsEntryOf (λ v. StandsBelow (name ∷ []) v) (Some e) (head_at o) → ⊥
          by None is h = let g = of_id_one look e.id (Ok h.0) (Err w) (subst (λ (i : NodeId). OfId look i (Ok h.0)) (sym h.2) (agrees.read (name ∷ []) h.0 h.1)) of in cc
          by (Some v) is h =
              let place = draft.places (p ++ name ∷ []) v (sym (under_is p own (name ∷ [])) ∙ is) in
              no_txn_place e.id.place txn ((λ i. (h.0 i).place) ∙ place) (lasting_parts e.id lasts).place

      -- an entry whose id is a transaction's names what is the transaction's own
      pub own_entry : is_revision_id e.id ≡ false → (v : OwnNode) × (own (p ++ name ∷ []) ≡ Some v) × (v.node.id ≡ e.id)
      own_entry is_own = by (Old (name ∷ [])) refl entry_of
        where
          by : (o : Option OwnNode) → Old (name ∷ []) ≡ o → IsEntryOf (λ v. StandsBelow (name ∷ []) v) (Some e) (head_at o) → (v : OwnNode) × (own (p ++ name ∷ []) ≡ Some v) × (v.node.id ≡ e.id)
          by None is h = no_both (is_revision_id e.id) (subst (λ (i : NodeId). is_revision_id i ≡ true) (sym h.2) (stands_lasting h.0 h.1)) is_own
          by (Some v) is h = (v, sym (under_is p own (name ∷ [])) ∙ is, sym h.0)

      -- and stands there
      pub own_child : is_revision_id e.id ≡ false → IsChild look trees base own (p ++ name ∷ []) (Ok (Some (record { step = steps.Own e.id; kind = e.kind })))
      own_child is_own = by (Old (name ∷ [])) refl entry_of
        where
          by : (o : Option OwnNode) → Old (name ∷ []) ≡ o → IsEntryOf (λ v. StandsBelow (name ∷ []) v) (Some e) (head_at o) → IsChild look trees base own (p ++ name ∷ []) (Ok (Some (record { step = steps.Own e.id; kind = e.kind })))
          by None is h = no_both (is_revision_id e.id) (subst (λ (i : NodeId). is_revision_id i ≡ true) (sym h.2) (stands_lasting h.0 h.1)) is_own
          by (Some v) is h =
              let there : own (p ++ name ∷ []) ≡ Some v = sym (under_is p own (name ∷ [])) ∙ is in
              ((v, there, sym h.0), has_kind _ v.shown e.kind (own_shown look top base trees shown le txn f own draft (p ++ name ∷ []) v there) ((draft.contents (p ++ name ∷ []) v there).kind ∙ sym h.1))

      -- a node-revision of a revision that has the id and the kind of the entry stands there
      pub lasting_child : is_revision_id e.id ≡ true → (u : NodeRev) → OfId look e.id (Ok u) → IsLastingAt look trees base own (p ++ name ∷ []) u × HasKind (draft_tree trees own (trees base) (p ++ name ∷ [])) e.kind × (u.kind ≡ e.kind)
      lasting_child lasts u read = by (Old (name ∷ [])) refl entry_of
        where
          by : (o : Option OwnNode) → Old (name ∷ []) ≡ o → IsEntryOf (λ v. StandsBelow (name ∷ []) v) (Some e) (head_at o) → IsLastingAt look trees base own (p ++ name ∷ []) u × HasKind (draft_tree trees own (trees base) (p ++ name ∷ [])) e.kind × (u.kind ≡ e.kind)
          by (Some v) is h =
              let place = draft.places (p ++ name ∷ []) v (sym (under_is p own (name ∷ [])) ∙ is) in
              absurd (no_txn_place e.id.place txn ((λ i. (h.0 i).place) ∙ place) (lasting_parts e.id lasts).place)
          by None is h =
              let same : h.0 ≡ u = ok_same h.0 u (of_id_one look e.id (Ok h.0) (Ok u) (subst (λ (i : NodeId). OfId look i (Ok h.0)) (sym h.2) (agrees.read (name ∷ []) h.0 h.1)) read) in
              let stands : StandsBelow (name ∷ []) u = subst (λ (v : NodeRev). StandsBelow (name ∷ []) v) same h.1 in
              let kind : e.kind ≡ u.kind = h.3 ∙ (λ i. (same i).kind) in
              let tree : (r : Path) → draft_tree trees own (trees base) (p ++ name ∷ r) ≡ SharedBelow (name ∷ r) = λ r.
              at_path_on r ∙ ap (λ (o : Option DirEntry). cond (is_some o) (Inner look top base trees shown le txn f own draft p d here name r) None) found
              ∙ inner_shared look top base trees shown le txn f own draft p d here name (ap (λ (o : Option OwnNode). head_at o) is) r in
              let n = agrees.shown (name ∷ []) u stands in (
                record { p = p; d = d; here = here; q = name ∷ []; path_is = refl; stands = stands; tree = λ r. ap (λ (t : Path). draft_tree trees own (trees base) t) (append_assoc p (name ∷ []) r) ∙ tree r },
                has_kind _ n.0 e.kind (tree [] ∙ n.1) (n.2.kind ∙ sym kind),
                sym kind,
              )

      pub of_entry_read : (u : NodeRev) → OfEntry look e (Ok u) → OfId look e.id (Ok u)
      of_entry_read u of = subst (λ (v : NodeRev). OfId look e.id (Ok v)) (sym of.2.0) of.1

      of_entry_never : is_revision_id e.id ≡ true → (w : Wrong) → OfEntry look e (Err w) → ⊥
      of_entry_never lasts w (inl of) = lasting_wrong lasts w of
      of_entry_never lasts w (inr of) = pass_or_fail (kind_checks e of.0) w ((lasting_child lasts of.0 of.1).2, tt) of.2

      -- a failure to read what an entry names
      pub of_entry_fails : {A : Type 0} (view : A → NodeRev) → is_revision_id e.id ≡ true → (x : ReadError) → Answers view (OfEntry look e) (Err x) → IsFailure (of_read x)
      of_entry_fails view lasts reads.OutOfMemory h = tt
      of_entry_fails view lasts reads.DiskFault h = tt
      of_entry_fails view lasts (reads.Wrong w) h = of_entry_never lasts w h

      -- any other names a node-revision of a revision, which is told and not wrong
      pub lasting_entry : is_revision_id e.id ≡ true → (u : NodeRev) × OfId look e.id (Ok u) × ((offset_of e.id.place).rev ≤ top)
      lasting_entry lasts = by (Old (name ∷ [])) refl entry_of
        where
          by : (o : Option OwnNode) → Old (name ∷ []) ≡ o → IsEntryOf (λ v. StandsBelow (name ∷ []) v) (Some e) (head_at o) → (u : NodeRev) × OfId look e.id (Ok u) × ((offset_of e.id.place).rev ≤ top)
          by None is h = (h.0, subst (λ (i : NodeId). OfId look i (Ok h.0)) (sym h.2) (agrees.read (name ∷ []) h.0 h.1), subst (λ (i : NodeId). (offset_of i.place).rev ≤ top) (sym h.2) (agrees.within (name ∷ []) h.0 h.1))
          by (Some v) is h =
              let place = draft.places (p ++ name ∷ []) v (sym (under_is p own (name ∷ [])) ∙ is) in
              absurd (no_txn_place e.id.place txn ((λ i. (h.0 i).place) ∙ place) (lasting_parts e.id lasts).place)

      pub lasting_never : is_revision_id e.id ≡ true → (w : Wrong) → OfId look e.id (Err w) → ⊥
      lasting_never lasts w of = let u = lasting_entry lasts in let g = of_id_one look e.id (Ok u.0) (Err w) u.1 of in cc

      -- a failure to read it
      pub entry_fails : {A : Type 0} (view : A → NodeRev) → is_revision_id e.id ≡ true → (x : ReadError) → Answers view (OfId look e.id) (Err x) → IsFailure (of_read x)
      entry_fails view lasts reads.OutOfMemory h = tt
      entry_fails view lasts reads.DiskFault h = tt
      entry_fails view lasts (reads.Wrong w) h = lasting_never lasts w h
