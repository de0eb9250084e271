-- A node of the tree becomes the transaction's own: it is laid behind its name, and the tree stays.
use Rattle.std.proofs.Common.{◌≡◌, ◌≤◌, ℕ, Bool, true, false, ◌&&◌, cond, List, [], ◌∷◌, ◌++◌, refl, sym, ap, subst, ◌∙◌, arith}
use Rattle.std.specs.Prelude.{Option, Some, None, Ok, Err, is_some}
use Rattle.std.proofs.lemmas.Bool.{and_parts}
use Rattle.fsfs_base.specs.Paths.{PathName, Path, same_name}
use Rattle.fsfs_tree.specs.Nodes.{Node, TreeFunction, Content, Bytes, Closed}
use Rattle.fsfs_base.specs.declared.kind.Kind.{Kind}
use Rattle.fsfs_base.specs.declared.kind.Kind.TheVariants.{File, Dir}
use Rattle.fsfs_base.proofs.PathLemmas.{same_name-refl}
use Rattle.fsfs_base.specs.declared.fields.txn_name.TxnName.{TxnName}
use Rattle.fsfs_revision.specs.Told.{RevisionBytes}
use Rattle.fsfs_noderev.specs.Ids as ids
use Rattle.fsfs_noderev.specs.Ids.{PartValue, part_value}
use Rattle.fsfs_noderev.specs.declared.node_id.Place.{Place}
use Rattle.fsfs_noderev.specs.declared.node_id.Place.TheVariants as places
use Rattle.fsfs_noderev.specs.declared.node_id.NodeId.{NodeId}
use Rattle.fsfs_noderev.specs.declared.rep.Contents.{Contents}
use Rattle.fsfs_noderev.specs.declared.rep.Contents.TheVariants as contents
use Rattle.fsfs_noderev.specs.declared.node_rev.CopySource.{CopySource}
use Rattle.fsfs_noderev.specs.declared.node_rev.NodeRev.{NodeRev}
use Rattle.fsfs_revision.specs.Nodes.{is_revision_id, is_revision_place, is_lasting_part, is_of_revision, has_revision_pred, has_revision_rep, has_revision_root}
use Rattle.fsfs_revision.specs.Shows.Reading.{DirEntry, named, OfId, RepAt, PairsAt, OfContents, StandsAt}
use Rattle.fsfs_revision.specs.Damage.Damages.{place_of}
use Rattle.fsfs_revision.specs.declared.wrong.Wrong.TheVariants as wrongs
use Rattle.fsfs_revision.specs.Shows.Shown.{IsTextOf}
use Rattle.fsfs_revision.proofs.OneAnswer.{ok_same}
use Rattle.fsfs_revision.proofs.OneWalk.{of_id_one}
use Rattle.fsfs_draft.specs.Own.{OwnNode, Own, shared_under, has_entry, draft_tree, under, shared_at, opened}
use Rattle.fsfs_draft.specs.Rules.{CopyPartOf, ComesBy, Change, Head, head_at, IsEntryOf, above_of, stands_under, stands_at}
use Rattle.fsfs_draft.specs.Drafts.{Kept, Folder, kept_of, IsLasting, Lasting, IsDraftText, HasContent, IsBelow, IsDraft, ShowTrees}
use Rattle.fsfs_draft.specs.Agreeing.{IsContentOf, Agrees}
use Rattle.fsfs_draft.specs.Steps.{same_value, same_key, with_kept, kept_at, EntriesHere, Listed, Read, Empty, IsSuccessor}
use Rattle.fsfs_draft.specs.Laying.{laid_in, stands_in, IsLaid, IsLaying, Step}
use Rattle.fsfs_draft.specs.Edits.{IsOpening}
use Rattle.fsfs_draft.proofs.Files.{same_value-is, same_files, put_files, other_files}
use Rattle.fsfs_draft.proofs.Here.{under_is, head_none, old_here, agrees_below, AreHere, are_here}
use Rattle.fsfs_draft.proofs.Laying.{laid_draft, went_on_shows}
use Rattle.fsfs_draft.proofs.StepLaw.{shown_there}
use Rattle.fsfs_dag.specs.Entries.{HasPut}

-- ---- a node-revision that a revision may have

pub of_id_lasting : (look : RevisionBytes) (id : NodeId) (u : NodeRev) → OfId look id (Ok u) → is_of_revision u ≡ true
of_id_lasting look id u w = subst (λ (x : NodeRev). is_of_revision x ≡ true) (sym w.2.0) w.1.2.0.1

pub lasting_text : (u : NodeRev) → is_of_revision u ≡ true → has_revision_rep u.text ≡ true
lasting_text u h =
    let a = and_parts (is_revision_id u.id && has_revision_pred u.predecessor && has_revision_rep u.text && has_revision_rep u.props && has_revision_root u.copy_root) _ h in
    let b = and_parts (is_revision_id u.id && has_revision_pred u.predecessor && has_revision_rep u.text && has_revision_rep u.props) (has_revision_root u.copy_root) a.0 in
    let c = and_parts (is_revision_id u.id && has_revision_pred u.predecessor && has_revision_rep u.text) (has_revision_rep u.props) b.0 in
    (and_parts (is_revision_id u.id && has_revision_pred u.predecessor) (has_revision_rep u.text) c.0).1

pub is_lasting : (o : Option Contents) → has_revision_rep o ≡ true → IsLasting o
is_lasting None h = tt
is_lasting (Some contents.Own) h = absurd cc
is_lasting (Some (contents.At rep)) h = by rep.rev h
  where
    by : (o : Option ℕ) → has_revision_rep (Some (contents.At (record rep { rev = o }))) ≡ true → (rev : ℕ) × (o ≡ Some rev)
    by None g = absurd cc
    by (Some rev) g = (rev, refl)

pub no_txn_place : (p : Place) (txn : TxnName) → p ≡ places.In txn → is_revision_place p ≡ true → ⊥
no_txn_place (places.At rev offset) txn is h = cc
no_txn_place (places.In other) txn is h = cc

no_txn_id : (id : NodeId) (txn : TxnName) → id.place ≡ places.In txn → is_revision_id id ≡ true → ⊥
no_txn_id id txn is h = no_txn_place id.place txn is (and_parts (is_lasting_part id.node && is_lasting_part id.copy) (is_revision_place id.place) h).1

-- the text of what has the same representation
pub same_text : (look : RevisionBytes) (v u : NodeRev) (text : Content) → v.text ≡ u.text → IsTextOf look File u text → IsTextOf look File v text
same_text look v u (Bytes bytes) e h = subst (λ (o : Option Contents). OfContents [] (RepAt look) o (Ok bytes)) (sym e) h
same_text look v u (Closed rev offset) e h = subst (λ (o : Option Contents). OfContents [] (RepAt look) o (Err (wrongs.Delta (place_of rev offset)))) (sym e) h

had_entry : (look : RevisionBytes) (k : Kept) (entries : List DirEntry) (x : PathName) (e : DirEntry) → EntriesHere look k entries → named x entries ≡ Some e → has_entry k.entries x ≡ true
had_entry look k entries x e (Listed is) found = ap (λ (o : Option (List DirEntry)). has_entry o x) is ∙ ap (λ (o : Option DirEntry). is_some o) found
had_entry look k entries x e (Read id u none pred read of) found = ap (λ (o : Option (List DirEntry)). has_entry o x) none
had_entry look k entries x e (Empty none pred is) found = ap (λ (o : Option (List DirEntry)). has_entry o x) none

pub below_more : (m n : ℕ) (v : PartValue) → m ≤ n → IsBelow m v → IsBelow n v
below_more m n (ids.New k) le h = omega arith
below_more m n (ids.Old k) le h = tt
below_more m n (ids.Made k rev) le h = tt

-- ---- the step

module _ (look : RevisionBytes) (top base : ℕ) (trees : ℕ → TreeFunction) (shown : ShowTrees look top trees) (le : base ≤ top) (txn : TxnName) (f : Folder) (own : Own) (draft : IsDraft look top base txn f own)
    (p : Path) (d : OwnNode) (here : own p ≡ Some d) (dir : d.node.kind ≡ Dir) (x : PathName) (entries : List DirEntry) (listed : EntriesHere look (kept_of d) entries)
    (e : DirEntry) (found : named x entries ≡ Some e) (lasting : is_revision_id e.id ≡ true) (u w : NodeRev) (read : OfId look e.id (Ok u)) (succ : IsSuccessor txn d.node u w x) (part : CopyPartOf look (above_of d.node) u (part_value w.id.copy))
    (fresh : kept_at f.nodes w.id ≡ None) (new : List DirEntry) (replaced : HasPut entries x e.kind w.id new) (after : Folder)
    (files : (node copy : PartValue) → after.nodes node copy ≡ with_kept d.node.id (kept_of (opened d new)) (with_kept w.id (record { node = w; entries = None; props = None }) f.nodes) node copy)
    (proto : after.proto ≡ f.proto) (more : (f.next_node ≤ after.next_node) × (f.next_copy ≤ after.next_copy)) (w_drawn : IsBelow after.next_node (part_value w.id.node) × IsBelow after.next_copy (part_value w.id.copy)) where
  abbrev Old : Own
  Old = under p own

  abbrev StandsHere : Path → NodeRev → Type 0
  StandsHere q v = stands_at look p own (StandsAt look base) q v

  abbrev StandsBelow : Path → NodeRev → Type 0
  StandsBelow q v = stands_under look (Some d) StandsHere q v

  abbrev SharedHere : TreeFunction
  SharedHere = shared_at trees p own (trees base)

  abbrev SharedBelow : TreeFunction
  SharedBelow = shared_under trees (Some d) SharedHere

  all_here : AreHere look top base trees shown le txn f own draft p d here entries
  all_here = are_here look top base trees shown le txn f own draft p d here entries dir listed

  is_old : Old [] ≡ Some d
  is_old = old_here look top base trees shown le txn f own draft p d here

  pub agrees : Agrees look top StandsBelow SharedBelow
  agrees = agrees_below look top base trees shown le txn f own draft p d here

  -- nothing of the transaction's stands there
  no_head : head_at (Old (x ∷ [])) ≡ None
  no_head = by (Old (x ∷ [])) refl (subst (λ (o : Option DirEntry). IsEntryOf (λ v. StandsBelow (x ∷ []) v) o (head_at (Old (x ∷ [])))) found (all_here.are x))
    where
      by : (o : Option OwnNode) → Old (x ∷ []) ≡ o → IsEntryOf (λ v. StandsBelow (x ∷ []) v) (Some e) (head_at o) → head_at o ≡ None
      by None is h = refl
      by (Some v) is h =
          let place = draft.places (p ++ x ∷ []) v (sym (under_is p own (x ∷ [])) ∙ is) in
          absurd (no_txn_id v.node.id txn place (subst (λ (i : NodeId). is_revision_id i ≡ true) h.0 lasting))

  pub stands : StandsBelow (x ∷ []) u × (e.id ≡ u.id) × (e.kind ≡ u.kind)
  stands =
      let c = subst (λ (h : Option Head). IsEntryOf (λ v. StandsBelow (x ∷ []) v) (Some e) h) no_head (subst (λ (o : Option DirEntry). IsEntryOf (λ v. StandsBelow (x ∷ []) v) o (head_at (Old (x ∷ [])))) found (all_here.are x)) in
      let same : c.0 ≡ u = ok_same c.0 u (of_id_one look e.id (Ok c.0) (Ok u) (subst (λ (i : NodeId). OfId look i (Ok c.0)) (sym c.2) (agrees.read (x ∷ []) c.0 c.1)) read) in
      subst (λ (v : NodeRev). StandsBelow (x ∷ []) v × (e.id ≡ v.id) × (e.kind ≡ v.kind)) same (c.1, c.2, c.3)

  abbrev pub node : (n : Node) × (SharedBelow (x ∷ []) ≡ Some n) × IsContentOf look u n
  node = agrees.shown (x ∷ []) u stands.0

  abbrev pub successor : OwnNode
  successor = record { node = w; entries = None; props = None; shown = node.0 }

  abbrev pub changed_own : Own
  changed_own = laid_in p d x new (Some successor) own

  -- ---- the tree

  named_other : (y : PathName) → same_name x y ≡ false → named y new ≡ named y entries
  named_other y differs = replaced y ∙ ap (λ b. cond b (Some (record { name = x; kind = e.kind; id = w.id })) (named y entries)) differs

  named_this : named x new ≡ Some (record { name = x; kind = e.kind; id = w.id })
  named_this = replaced x ∙ ap (λ b. cond b (Some (record { name = x; kind = e.kind; id = w.id })) (named x entries)) (same_name-refl x)

  -- ---- it is laid behind the name

  comes : ComesBy look top (λ r v. StandsBelow (x ∷ r) v) (above_of d.node) successor
  comes = Change u stands.0 succ.no_copy (record { predecessor = succ.predecessor; node = succ.node; kind = succ.kind; count = succ.count })
      (record { entries = λ none is. succ.text; props = λ none. succ.props }) succ.root part

  abbrev Kw : Kept
  Kw = record { node = w; entries = None; props = None }

  kept_by : (id : NodeId) → kept_at after.nodes id ≡ kept_at (with_kept d.node.id (kept_of (opened d new)) (with_kept w.id Kw f.nodes)) id
  kept_by id = files (part_value id.node) (part_value id.copy)

  d_kept : kept_at f.nodes d.node.id ≡ Some (kept_of d)
  d_kept = draft.kept p d here

  not_fresh : (id : NodeId) (k : Kept) → kept_at f.nodes id ≡ Some k → same_key w.id id ≡ true → ⊥
  not_fresh id k is same = let g = sym fresh ∙ same_files f.nodes w.id id same ∙ is in absurd cc

  successor_text : (k : Kind) → u.kind ≡ k → IsTextOf look k u node.0.text → IsDraftText look after.proto k successor node.0.text
  successor_text File is h = (refl, Lasting (subst (λ (o : Option Contents). IsLasting o) (sym succ.text) (is_lasting u.text (lasting_text u (of_id_lasting look e.id u read)))) (same_text look w u node.0.text succ.text h))
  successor_text Dir is h = h

  successor_content : HasContent look after.proto successor
  successor_content = record {
    kind = node.2.kind ∙ sym succ.kind;
    text = subst (λ (k : Kind). IsDraftText look after.proto k successor node.0.text) (sym succ.kind) (successor_text u.kind refl node.2.text);
    properties = subst (λ (o : Option Contents). OfContents [] (PairsAt look) o (Ok node.0.properties)) (sym succ.props) node.2.properties;
  }

  changed_drawn : (a b : PartValue) (k : Kept) → after.nodes a b ≡ Some k → IsBelow after.next_node a × IsBelow after.next_copy b
  changed_drawn a b k is = first (same_value (part_value d.node.id.node) a && same_value (part_value d.node.id.copy) b) refl
    where
      moved : (id : NodeId) → (same_value (part_value id.node) a && same_value (part_value id.copy) b) ≡ true → IsBelow after.next_node (part_value id.node) × IsBelow after.next_copy (part_value id.copy) → IsBelow after.next_node a × IsBelow after.next_copy b
      moved id same h =
          let both = and_parts (same_value (part_value id.node) a) (same_value (part_value id.copy) b) same in
          (subst (λ (v : PartValue). IsBelow after.next_node v) (same_value-is _ _ both.0) h.0, subst (λ (v : PartValue). IsBelow after.next_copy v) (same_value-is _ _ both.1) h.1)

      raised : (m n : PartValue) → IsBelow f.next_node m × IsBelow f.next_copy n → IsBelow after.next_node m × IsBelow after.next_copy n
      raised m n h = (below_more f.next_node after.next_node m more.0 h.0, below_more f.next_copy after.next_copy n more.1 h.1)

      third : (same_value (part_value d.node.id.node) a && same_value (part_value d.node.id.copy) b) ≡ false → (same_value (part_value w.id.node) a && same_value (part_value w.id.copy) b) ≡ false → f.nodes a b ≡ Some k
      third first_no second_no = sym (files a b ∙ (λ i. cond (first_no i) (Some (kept_of (opened d new))) (cond (second_no i) (Some Kw) (f.nodes a b)))) ∙ is

      second : (c : Bool) → (same_value (part_value w.id.node) a && same_value (part_value w.id.copy) b) ≡ c → (same_value (part_value d.node.id.node) a && same_value (part_value d.node.id.copy) b) ≡ false → IsBelow after.next_node a × IsBelow after.next_copy b
      second true same first_no = moved w.id same w_drawn
      second false second_no first_no = raised a b (draft.drawn a b k (third first_no second_no))

      first : (c : Bool) → (same_value (part_value d.node.id.node) a && same_value (part_value d.node.id.copy) b) ≡ c → IsBelow after.next_node a × IsBelow after.next_copy b
      first true same = moved d.node.id same (raised _ _ (draft.drawn (part_value d.node.id.node) (part_value d.node.id.copy) (kept_of d) d_kept))
      first false first_no = second (same_value (part_value w.id.node) a && same_value (part_value w.id.copy) b) refl first_no

  successor_laid : IsLaid look top txn (stands_in look base own p d) d x after successor
  successor_laid = record {
    comes = comes;
    no_entries = refl;
    path = succ.path;
    place = succ.place;
    content = successor_content;
    kept = kept_by w.id ∙ other_files d.node.id w.id (kept_of (opened d new)) (with_kept w.id Kw f.nodes) (λ s. (let g = sym (same_files f.nodes d.node.id w.id s ∙ fresh) ∙ d_kept in absurd cc)) ∙ put_files w.id Kw f.nodes;
  }

  pub laying : IsLaying look top base txn f own p d x entries new (Some successor) after
  laying = record {
    others = named_other;
    entry = subst (λ (o : Option DirEntry). IsEntryOf (λ v. StandsBelow (x ∷ []) v) o (Some (w.id, w.kind))) (sym named_this) (refl, stands.2 ∙ sym succ.kind);
    each = λ v is. (let same : successor ≡ v = cc in subst (λ (a : OwnNode). IsLaid look top txn (stands_in look base own p d) d x after a) same successor_laid);
    directory = kept_by d.node.id ∙ put_files d.node.id (kept_of (opened d new)) (with_kept w.id Kw f.nodes);
    stay = λ id k is other. kept_by id ∙ other_files d.node.id id (kept_of (opened d new)) (with_kept w.id Kw f.nodes) other ∙ other_files w.id id Kw f.nodes (not_fresh id k is) ∙ is;
    drawn = changed_drawn;
    contents = λ v h. subst (λ (t : List ℕ). HasContent look t v) (sym proto) h;
  }

  pub changed_draft : IsDraft look top base txn after changed_own
  changed_draft = laid_draft look top base trees shown le txn f own draft p d here dir x entries listed (Some successor) new after laying

  pub changed_shows : (q : Path) → draft_tree trees changed_own (trees base) q ≡ draft_tree trees own (trees base) q
  changed_shows = went_on_shows look top base trees shown le txn f own draft p d here dir x entries listed (Some successor) new after laying successor u.id refl succ.no_copy succ.predecessor no_head
      (had_entry look (kept_of d) entries x e listed found) node.1

  -- ---- as a step of an edit

  free : own (p ++ x ∷ []) ≡ None
  free = sym (under_is p own (x ∷ [])) ∙ head_none (Old (x ∷ [])) no_head

  abbrev pub step : Step look trees top base txn
  step = record {
    before = f;
    own = own;
    path = p;
    directory = d;
    name = x;
    entries = entries;
    new = new;
    laid = Some successor;
    after = after;
    shown = shown;
    within = le;
    draft = draft;
    is_directory = record { here = here; kind = dir; listed = listed };
    laying = laying;
  }

  no_predecessor : {A : Type 0} → w.predecessor ≡ None → A
  no_predecessor none = let e = sym succ.predecessor ∙ none in absurd cc

  -- it opens what stands behind the name, where no copy of the transaction has its copy part, but one whose directory has it
  pub opening : after.items ≡ f.items → ((q : Path) (c : OwnNode) (from : CopySource) → own q ≡ Some c → c.node.copy_from ≡ Some from → c.node.id.copy ≡ w.id.copy → w.id.copy ≡ d.node.id.copy) → IsOpening step successor u.id
  opening items apart = record {
    laid = refl;
    no_copy = succ.no_copy;
    goes_on = succ.predecessor;
    no_props = refl;
    free = free;
    was = shown_there look trees top base txn step free ∙ ap (λ (b : Bool). cond b (SharedBelow (x ∷ [])) None) (had_entry look (kept_of d) entries x e listed found) ∙ node.1;
    files = record { list = λ es is. absurd cc; set = λ pairs is. absurd cc; no_list = λ kind none without. no_predecessor none; no_set = λ none without. no_predecessor none };
    drawn = record { made = λ none q c at same. no_predecessor none; copied = λ from is q c at same. (let g = sym succ.no_copy ∙ is in absurd cc); other = λ plain q c from at copy same. apart q c from at copy same };
    items = items;
  }
