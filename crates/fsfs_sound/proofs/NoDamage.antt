-- Where the revisions show a history, nothing is wrong with any of them.
use Rattle.std.proofs.Common.{◌≡◌, ◌≤◌, ◌<◌, ℕ, true, false, List, [], ◌∷◌, refl, sym, ap, subst, ◌∙◌, inl, inr, arith}
use Rattle.std.specs.Prelude.{Result, Ok, Err, Option, Some, None, Contains, slice_get, drop}
use Rattle.std.specs.FinMap.{get}
use Rattle.fsfs_base.specs.Paths.{PathName, Path}
use Rattle.fsfs_base.specs.declared.kind.Kind.{Kind}
use Rattle.fsfs_base.specs.declared.kind.Kind.TheVariants.{File, Dir}
use Rattle.fsfs_base.proofs.PathLemmas.{same_name-refl}
use Rattle.fsfs_base.proofs.ResultLemmas.{not_none}
use Rattle.fsfs_tree.specs.Nodes.{Node, Content, Bytes, Closed}
use Rattle.fsfs_tree.specs.Revisions.{Revision, node_in, tree_of}
use Rattle.fsfs_tree.specs.Dated.{IsDated}
use Rattle.fsfs_layout.specs.Hash.Dump.{IsDump}
use Rattle.fsfs_revision.specs.Told.{RevisionBytes}
use Rattle.fsfs_revision.specs.RevProps.{only}
use Rattle.fsfs_revision.specs.declared.wrong.Wrong.{Wrong}
use Rattle.fsfs_revision.specs.declared.wrong.Refusal.{Refusal}
use Rattle.fsfs_revision.specs.Nodes.{is_revision_id}
use Rattle.fsfs_noderev.specs.declared.node_rev.NodeRev.{NodeRev}
use Rattle.fsfs_noderev.specs.declared.changes.item.ChangeItem.{ChangeItem}
use Rattle.fsfs_revision.specs.Shows.Reading.{DirEntry, EntriesOf, TextOf, PropsOf, OfId, named, MetAt, StandsAt}
use Rattle.fsfs_revision.specs.Shows.Chains.{Chain, IsPred}
use Rattle.fsfs_revision.specs.Shows.IdRules.{IsOf, IsChild, CopyPartFrom, Directory, Before, Drawn, IdRule}
use Rattle.fsfs_revision.specs.Shows.ByTree.{IsReadByTree, IsTextByTree, IsEntryByTree}
use Rattle.fsfs_revision.specs.Shows.Shown.{IsShown}
use Rattle.fsfs_revision.specs.Ancestry.Trees.{ShowTrees}
use Rattle.fsfs_revision.proofs.Behind.{shown_there}
use Rattle.fsfs_revision.proofs.ByTree.{by_tree}
use Rattle.fsfs_revision.proofs.Earlier.{earlier}
use Rattle.fsfs_revision.proofs.OneAnswer.{ok_same}
use Rattle.fsfs_revision.proofs.OneRep.{dump_one}
use Rattle.fsfs_revision.proofs.OneTree.{chain_one}
use Rattle.fsfs_revision.proofs.OneWalk.{of_id_one}
use Rattle.fsfs_revision.proofs.TreeLaw.{root_home, shown_at}
use Rattle.fsfs_stands.proofs.Histories.{trees}
use Rattle.fsfs_stands.proofs.OneItems.{items_of_one}
use Rattle.fsfs_stands.specs.Changes.{IsKindOf, Said, Named, There, NotThere}
use Rattle.fsfs_stands.specs.History.{ShowsRevision}
use Rattle.fsfs_stands.specs.Items.{ItemsOf}
use Rattle.fsfs_look.specs.Revprops.Files.{Pairs, RevPropsIn, RevPropsOf}
use Rattle.std.proofs.lemmas.Option.{slice_get_cases}
use Rattle.fsfs_sound.specs.Written.{rev_of_id}
use Rattle.fsfs_sound.specs.Damaged.{BreaksOff, BreaksRule, RootId, RootCopy, RootNext, RootRoot, First, Alone, BeginsOnce, BeginsIn, CopyPlace, CopyRoot, CopyPart, CopyOwn, CopySourceOf, RootOfNew, RootOfNext, PartOf, PartTaken, Older, GoesOn, Props}
use Rattle.fsfs_sound.specs.Damaged.{BeginsAt, IsDamaged, AtPath, Behind, ListBehind, AtText, AtProps, Off, Rule, Data, Item, KindOf, Later, Unfit, PropFile, Date}
use Rattle.fsfs_sound.specs.OpenTexts.{IsOpenText}
use Rattle.fsfs_sound.specs.Laws.{ShowsOpenHistory, HistoriesHaveNoDamage}

ok_err : {X A : Type 0} (x : X) (w : Wrong) → (let r : Result X Wrong = Ok x in r) ≡ Err w → A
ok_err x w e = absurd cc

-- a text that is read has no fault
no_text : (w : Wrong) (text : Content) → IsOpenText text → IsTextByTree (Err w) text → ⊥
no_text w (Bytes bytes) is of = of
no_text w (Closed rev offset) is of = is

module _ (look props : RevisionBytes) (top : ℕ) (o : ShowsOpenHistory look props top) (r : ℕ) (le : r ≤ top) where
  shown : ShowTrees look top (tree_of o.history)
  shown = trees look props o.history top o.count o.shown

  ids : IdRule look top
  ids = shown.ids

  abbrev up : (v : NodeRev) → IsOf look r v → IsOf look top v
  up v of = (of.0, of.1, (let a = of.2 in omega (arith, a, le)), of.3)

  child_up : (s : ℕ) (p : Path) (name : PathName) (dir v : NodeRev) → IsChild look r s p name dir v → IsChild look top s p name dir v
  child_up s p name dir v c = record { up_to = (let a = c.up_to in omega (arith, a, le)); above = c.above; there = c.there }

  read : (s : ℕ) → s ≤ top → IsReadByTree look s (tree_of o.history s)
  read s most = by_tree look s (tree_of o.history s) (shown.each s most)

  -- ---- readings

  no_path : (s : ℕ) (p : Path) (w : Wrong) → s ≤ r → MetAt look s p (Err w) → ⊥
  no_path s p w less met = (read s (omega (arith, less, le))).paths p (Err w) met

  no_break : (v : NodeRev) (w : Wrong) → IsOf look r v → Chain look v (Err w) → ⊥
  no_break v w of chain =
      let most : of.0 ≤ top = (up v of).2 in
      let n = shown_there look of.0 (tree_of o.history of.0) (shown.each of.0 most) of.1 v of.3 in
      let s : IsShown look of.0 of.1 v n.0 = n.2 in
      ok_err s.first w (chain_one s.chain chain)

  no_list : (v u : NodeRev) (w : Wrong) → IsOf look r v → v.kind ≡ Dir → IsPred look v u → EntriesOf look u (Err w) → ⊥
  no_list v u w of dir pred wrong =
      let most : of.0 ≤ top = (up v of).2 in
      let e = earlier look top (tree_of o.history) shown of.0 of.1 v most of.3 u pred in
      let kind : u.kind ≡ Dir = sym (ids.kind v u (up v of) pred) ∙ dir in
      let before = e.before in
      (read e.rev (omega (arith, before, most))).entries e.path u (Err w) e.stands kind wrong

  abbrev revision_at : (s : ℕ) → s ≤ top → (revision : Revision) × (slice_get o.history s ≡ Some revision)
  revision_at s most = elim ((slice_get_cases o.history s).1) [
    | inl x ↦ (x.0, x.2)
    | inr past ↦ (let over = past.0 in let count = o.count in absurd (omega (arith, over, most, count)))
  ]

  open_at : (s : ℕ) (p : Path) (n : Node) → s ≤ top → tree_of o.history s p ≡ Some n → IsOpenText n.text
  open_at s p n most is =
      let x = revision_at s most in
      let same : tree_of o.history s p ≡ get x.0.tree p = ap (λ (q : Option Revision). node_in q p) x.1 in
      o.open_texts s x.0 p n x.1 (sym same ∙ is)

  no_fault_of_text : (v : NodeRev) (w : Wrong) → IsOf look r v → v.kind ≡ File → TextOf look v (Err w) → ⊥
  no_fault_of_text v w of file text =
      let most : of.0 ≤ top = (up v of).2 in
      let n = shown_there look of.0 (tree_of o.history of.0) (shown.each of.0 most) of.1 v of.3 in
      no_text w n.0.text (open_at of.0 of.1 n.0 most n.1) ((read of.0 most).texts of.1 v n.0 (Err w) of.3 n.1 file text)

  no_fault_of_props : (v : NodeRev) (w : Wrong) → IsOf look r v → PropsOf look v (Err w) → ⊥
  no_fault_of_props v w of wrong =
      let most : of.0 ≤ top = (up v of).2 in
      let n = shown_there look of.0 (tree_of o.history of.0) (shown.each of.0 most) of.1 v of.3 in
      let e = (read of.0 most).props of.1 v n.0 (Err w) of.3 n.1 wrong in
      ok_err n.0.properties w (sym e)

  -- ---- the rules of ids

  goes_on : (v : NodeRev) → IsOf look r v → BreaksOff look v → ⊥
  goes_on v of b =
      let all = up v of in
      b.2 (record { node = ids.node v b.0 all b.1; kind = ids.kind v b.0 all b.1; count = ids.count v b.0 all b.1 })

  part_down : (dir v : NodeRev) → CopyPartFrom look top dir v → CopyPartFrom look r dir v
  part_down dir v (Directory e) = Directory e
  part_down dir v (Before u b e) = Before u b e
  part_down dir v (Drawn d) = Drawn (record { not_first = d.not_first; suffix = d.suffix; no_copy = λ u from of is. d.no_copy u from (up u of) is })

  -- the root of revision 0 has no entry
  no_entry : (v : NodeRev) (entry : DirEntry) (entries : List DirEntry) → StandsAt look 0 [] v → EntriesOf look v (Ok (entry ∷ entries)) → ⊥
  no_entry v entry entries at list =
      let zero : 0 ≤ top = omega arith in
      let kind : v.kind ≡ Dir = (let same : v ≡ at.0 = (let e = at.2 in cc) in ap (λ (x : NodeRev). x.kind) same ∙ (root_home look 0 at.0 at.1).2) in
      let is : IsEntryByTree (named entry.name (entry ∷ entries)) (tree_of o.history 0 (entry.name ∷ [])) = (read 0 zero).entries [] v (Ok (entry ∷ entries)) at kind list entry.name in
      let here : IsEntryByTree (Some entry) (tree_of o.history 0 (entry.name ∷ [])) = rw same_name-refl at is in
      some_there (tree_of o.history 0 (entry.name ∷ [])) refl here
    where
      some_there : (q : Option Node) → tree_of o.history 0 (entry.name ∷ []) ≡ q → IsEntryByTree (Some entry) q → ⊥
      some_there None is of = of
      some_there (Some n) is of =
          let s = shown_at look 0 (tree_of o.history 0) (shown.each 0 (omega arith)) (entry.name ∷ []) n is in
          ids.alone entry.name [] s.0 s.1

  no_break_of_rule : (v : NodeRev) → BreaksRule look r v → ⊥
  no_break_of_rule v (RootId s most at f) = f (ids.root_id s v (omega (arith, most, le)) at)
  no_break_of_rule v (RootCopy s most at f) = f (ids.root_copy s v (omega (arith, most, le)) at)
  no_break_of_rule v (RootNext s u most at last f) = f (ids.root_next s v u (omega (arith, most, le)) at last)
  no_break_of_rule v (RootRoot s u most at last f) = f (ids.root_root s v u (omega (arith, most, le)) at last)
  no_break_of_rule v (First at f) = f (ids.first v at)
  no_break_of_rule v (Alone entry entries at list) = no_entry v entry entries at list
  no_break_of_rule v (BeginsOnce u of other none nil same f) = f (ids.begins_once v u (up v of) (up u other) none nil same)
  no_break_of_rule v (BeginsIn of none f) = f (ids.begins_in v (up v of) none)
  no_break_of_rule v (CopyPlace from p of is at f) = f (ids.copy_once v from p (up v of) is at)
  no_break_of_rule v (CopyRoot from of is f) = f (ids.copy_root v from (up v of) is)
  no_break_of_rule v (CopyPart from of is f) = f (ids.copy_part v from (up v of) is)
  no_break_of_rule v (CopyOwn u from other of also is was same f) = f (ids.copy_own v u from other (up v of) (up u also) is was same)
  no_break_of_rule v (CopySourceOf from of is f) = f (ids.copy_source v from (up v of) is)
  no_break_of_rule v (RootOfNew s p name dir c own no_copy none f) = f (ids.root_of_new s p name dir v (child_up s p name dir v c) own no_copy none)
  no_break_of_rule v (RootOfNext s p name dir u c own no_copy pred f) = f (ids.root_of_next s p name dir v u (child_up s p name dir v c) own no_copy pred)
  no_break_of_rule v (PartOf s p name dir c own no_copy f) = f (part_down dir v (ids.copy_part_of s p name dir v (child_up s p name dir v c) own no_copy))
  no_break_of_rule v (PartTaken from s p name dir u of is c own no_copy same f) = f (part_down dir u (ids.copy_part_of s p name dir u (child_up s p name dir u c) own no_copy))
  no_break_of_rule v (Older s p name dir c less f) = f (ids.older s p name dir v (child_up s p name dir v c) less)
  no_break_of_rule v (GoesOn s p name dir w c own no_copy pred f) = f (ids.goes_on s p name dir v w (child_up s p name dir v c) own no_copy pred)
  no_break_of_rule v (Props u of pred older f) = f (ids.props v u (up v of) pred older)

  -- ---- the changed paths and the property file

  abbrev mine : Revision
  mine = (revision_at r le).0

  this : ShowsRevision look props r mine
  this = o.shown.each r mine (revision_at r le).1

  items : ItemsOf look r (Ok (this.changes.items, None))
  items =
      let has = this.changes.items_are in
      ((has.trailer.changes, drop has.trailer.changes has.ends.front), (this.bytes, this.bytes_are, record { trailer = has.trailer; ends = has.ends; begins = refl; data_is = refl }), has.items_are)

  same_items : (list : List ChangeItem) (wrong : Option Wrong) → ItemsOf look r (Ok (list, wrong)) → (list ≡ this.changes.items) × (wrong ≡ None)
  same_items list wrong of =
      let e = items_of_one look r (Ok (list, wrong)) (Ok (this.changes.items, None)) of items in
      let p : (let t : List ChangeItem × Option Wrong = (list, wrong) in t) ≡ (this.changes.items, None) = ok_same (list, wrong) (this.changes.items, None) e in
      (ap (λ (t : List ChangeItem × Option Wrong). t.0) p, ap (λ (t : List ChangeItem × Option Wrong). t.1) p)

  is_item : (item : ChangeItem) (at : ℕ) → BeginsAt look r item at → Contains this.changes.items item
  is_item item at b = subst (λ (xs : List ChangeItem). Contains xs item) (same_items b.items b.wrong b.read).0 b.among

  no_items : (w : Wrong) → ItemsOf look r (Err w) → ⊥
  no_items w wrong = ok_err (this.changes.items, None) w (items_of_one look r (Ok (this.changes.items, None)) (Err w) items wrong)

  no_item : (list : List ChangeItem) (w : Wrong) → ItemsOf look r (Ok (list, Some w)) → ⊥
  no_item list w of = let e = (same_items list (Some w) of).1 in absurd cc

  -- the kind of what an item is about
  no_kind : (item : ChangeItem) (kind : Kind) (w : Wrong) → IsKindOf look r item kind → item.kind ≡ None → is_revision_id item.id ≡ true → OfId look item.id (Err w) → ⊥
  no_kind item kind w (Said k e) none lasting wrong = not_none item.kind k e none
  no_kind item kind w (Named u e h l of) none lasting wrong = ok_err u w (of_id_one look item.id (Ok u) (Err w) of wrong)
  no_kind item kind w (There v e h at) none lasting wrong = let g : true ≡ false = sym lasting ∙ h in absurd cc
  no_kind item kind w (NotThere e h f) none lasting wrong = let g : true ≡ false = sym lasting ∙ h in absurd cc

  not_later : (item : ChangeItem) (kind : Kind) → IsKindOf look r item kind → item.kind ≡ None → is_revision_id item.id ≡ true → r < rev_of_id item.id → ⊥
  not_later item kind (Said k e) none lasting later = not_none item.kind k e none
  not_later item kind (Named u e h l of) none lasting later = omega (arith, l, later)
  not_later item kind (There v e h at) none lasting later = let g : true ≡ false = sym lasting ∙ h in absurd cc
  not_later item kind (NotThere e h f) none lasting later = let g : true ≡ false = sym lasting ∙ h in absurd cc

  no_file : (w : Wrong) → RevPropsOf (only props) r (Err w) → ⊥
  no_file w (inl of) = let e : (let x : Result (List ℕ) Refusal = Ok this.file in x) ≡ Err of.0 = sym this.file_is ∙ of.1 in absurd cc
  no_file w (inr of) = bad of.0 (let e : (let x : Result (List ℕ) Refusal = Ok of.0 in x) ≡ Ok this.file = sym of.1 ∙ this.file_is in let same : of.0 ≡ this.file = cc in same) of.2
    where
      bad : (file : List ℕ) → file ≡ this.file → RevPropsIn r file (Err w) → ⊥
      bad file same (inl f) = f.0 (mine.properties, subst (λ (x : List ℕ). IsDump x mine.properties) (sym same) this.properties)
      bad file same (inr f) = f.1

  dated : (pairs : Pairs) → RevPropsOf (only props) r (Ok pairs) → IsDated pairs
  dated pairs of =
      let e : (let x : Result (List ℕ) Refusal = Ok of.0 in x) ≡ Ok this.file = sym of.1 ∙ this.file_is in
      let same : of.0 ≡ this.file = cc in
      let dump : IsDump this.file pairs = subst (λ (x : List ℕ). IsDump x pairs) same of.2 in
      subst (λ (x : Pairs). IsDated x) (dump_one this.file mine.properties pairs this.properties dump) this.dated

  sound : (w : Wrong) → IsDamaged look props r w → ⊥
  sound w (AtPath s p v less met) = no_path s p v less met
  sound w (Behind v e of chain) = no_break v e of chain
  sound w (ListBehind v u e of dir pred wrong) = no_list v u e of dir pred wrong
  sound w (AtText v e of file text) = no_fault_of_text v e of file text
  sound w (AtProps v e of wrong) = no_fault_of_props v e of wrong
  sound w (Off v of b) = goes_on v of b
  sound w (Rule v b) = no_break_of_rule v b
  sound w (Data e wrong) = no_items e wrong
  sound w (Item list e of) = no_item list e of
  sound w (KindOf item at e b none lasting most wrong) = let c = this.changes.each item (is_item item at b) in no_kind item c.0.kind e c.1.kind none lasting wrong
  sound w (Later item at b none lasting later) = let c = this.changes.each item (is_item item at b) in not_later item c.0.kind c.1.kind none lasting later
  sound w (Unfit item at b f) = f (this.changes.fits item (is_item item at b))
  sound w (PropFile e of) = no_file e of
  sound w (Date pairs of f) = f (dated pairs of)

pub no_damage : HistoriesHaveNoDamage
no_damage look props top r w o le damage = sound look props top o r le w damage
