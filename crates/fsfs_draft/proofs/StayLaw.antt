-- A draft stays one while others commit.
use Rattle.std.proofs.Common.{◌≡◌, ◌≤◌, ℕ, List, [], ◌∷◌, ◌++◌, refl, sym, ap, subst, ◌∙◌, arith, inl, inr}
use Rattle.std.proofs.lemmas.Bool.{cases_lt}
use Rattle.std.specs.Prelude.{Ok, Err, Option, Some, None}
use Rattle.fsfs_base.specs.Paths.{PathName, Path}
use Rattle.fsfs_base.specs.declared.kind.Kind.{Kind}
use Rattle.fsfs_base.specs.declared.kind.Kind.TheVariants.{File, Dir}
use Rattle.fsfs_tree.specs.Nodes.{TreeFunction, Content, Bytes, Closed}
use Rattle.fsfs_base.specs.declared.fields.txn_name.TxnName.{TxnName}
use Rattle.fsfs_revision.specs.Damage.Damages.{place_of}
use Rattle.fsfs_revision.specs.declared.wrong.Wrong.TheVariants as wrongs
use Rattle.fsfs_revision.specs.Told.{RevisionBytes}
use Rattle.fsfs_noderev.specs.Ids.{PartValue}
use Rattle.fsfs_noderev.specs.declared.node_id.NodeId.{NodeId}
use Rattle.fsfs_noderev.specs.declared.rep.Rep.{Rep}
use Rattle.fsfs_noderev.specs.declared.rep.Contents.{Contents}
use Rattle.fsfs_noderev.specs.declared.rep.Contents.TheVariants as contents
use Rattle.fsfs_noderev.specs.declared.node_rev.CopySource.{CopySource}
use Rattle.fsfs_noderev.specs.declared.node_rev.NodeRev.{NodeRev}
use Rattle.fsfs_revision.specs.Rep.Frames.{rev_of}
use Rattle.fsfs_revision.specs.Shows.Reading.{DirEntry, named, RepAt, PairsAt, OfContents, StandsAt}
use Rattle.fsfs_revision.specs.Ancestry.Bounded.{AreSameUpTo}
use Rattle.fsfs_revision.proofs.BoundedIds.{InTime, in_time, behind_to, stands_to}
use Rattle.fsfs_draft.specs.Own.{OwnNode, Own, below, shared_from, shared_under, node_here, in_own, draft_tree, shared_at}
use Rattle.fsfs_draft.specs.Rules.{Above, at_top, CopyPartOf, Directory, Same, Before, Drawn, ComesBy, Change, Copied, Made, stands_from, stands_under, above_under, Head, head_at, IsEntryOf, AreEntriesOf, NodeRule, RuleAt, Rules}
use Rattle.fsfs_draft.specs.Drafts.{Folder, IsFileText, Lasting, Put, IsDraftText, AreDraftProps, HasContent, IsDraft, bare}
use Rattle.fsfs_draft.specs.Sides.{AreMarksOf, source_here}
use Rattle.fsfs_draft.specs.Staying.{IsYoungest, DraftsStay}

-- ---- copies are of revisions up to the youngest

abbrev pub AreCopiesWithin : ℕ → Own → Type 0
AreCopiesWithin top own = (p : Path) (v : OwnNode) (from : CopySource) → own p ≡ Some v → v.node.copy_from ≡ Some from → from.rev ≤ top

copy_within : (look : RevisionBytes) (top : ℕ) (S : Path → NodeRev → Type 0) (above : Above) (v : OwnNode) (from : CopySource) → ComesBy look top S above v → v.node.copy_from ≡ Some from → from.rev ≤ top
copy_within look top S above v from (Change u at no_copy on keeps root part) is = let e = sym no_copy ∙ is in absurd cc
copy_within look top S above v from (Copied u other copy le at on keeps root part) is = let same : other ≡ from = (let e = sym copy ∙ is in cc) in subst (λ (c : CopySource). c.rev ≤ top) same le
copy_within look top S above v from (Made no_copy no_pred count root copy part) is = let e = sym no_copy ∙ is in absurd cc

pub copies_within : (look : RevisionBytes) (top : ℕ) (p : Path) (own : Own) (above : Above) (S : Path → NodeRev → Type 0) → Rules look top own above S → (v : OwnNode) (from : CopySource) → own p ≡ Some v → v.node.copy_from ≡ Some from → from.rev ≤ top
copies_within look top [] own above S rules v from here is = copy_within look top S above v from (subst (λ (o : Option OwnNode). NodeRule look top o (λ name. head_at (own (name ∷ []))) above S) here (rules [])).0 is
copies_within look top (x ∷ p) own above S rules v from here is = copies_within look top p (below x own) (above_under (own []) above) (λ q u. stands_under look (own []) S (x ∷ q) u) (λ q. rules (x ∷ q)) v from here is

-- ---- the tree

module _ (top : ℕ) (trees more : ℕ → TreeFunction) (same : (r : ℕ) → r ≤ top → trees r ≡ more r) where
  under_same : (o : Option OwnNode) (S T : TreeFunction) → ((v : OwnNode) (from : CopySource) → o ≡ Some v → v.node.copy_from ≡ Some from → from.rev ≤ top) → ((q : Path) → S q ≡ T q) → (q : Path) → shared_under trees o S q ≡ shared_under more o T q
  under_same None S T within as_before q = as_before q
  under_same (Some v) S T within as_before q = by v.node.copy_from v.node.predecessor refl
    where
      by : (c : Option CopySource) (id : Option NodeId) → v.node.copy_from ≡ c → shared_from trees c id S q ≡ shared_from more c id T q
      by None None e = refl
      by None (Some id) e = as_before q
      by (Some from) id e = ap (λ (t : TreeFunction). shared_from (λ r. t) (Some from) id S q) (same from.rev (within v from refl e))

  draft_same : (p : Path) (own : Own) (S T : TreeFunction) → AreCopiesWithin top own → ((q : Path) → S q ≡ T q) → draft_tree trees own S p ≡ draft_tree more own T p
  draft_same [] own S T within as_before = ap (node_here (own [])) (as_before [])
  draft_same (x ∷ p) own S T within as_before =
      let inner = draft_same p (below x own) (below x (shared_under trees (own []) S)) (below x (shared_under more (own []) T)) (λ q v from. within (x ∷ q) v from)
      (λ q. under_same (own []) S T (λ v from. within [] v from) as_before (x ∷ q)) in
      λ i. in_own (own []) x (as_before (x ∷ p) i) (inner i)

  pub shared_at_same : (p : Path) (own : Own) (S T : TreeFunction) → AreCopiesWithin top own → ((q : Path) → S q ≡ T q) → (q : Path) → shared_at trees p own S q ≡ shared_at more p own T q
  shared_at_same [] own S T within as_before q = as_before q
  shared_at_same (x ∷ p) own S T within as_before q =
      shared_at_same p (below x own) (below x (shared_under trees (own []) S)) (below x (shared_under more (own []) T)) (λ r v from. within (x ∷ r) v from)
      (λ r. under_same (own []) S T (λ v from. within [] v from) as_before (x ∷ r)) q

-- ---- the rules

module _ (look other : RevisionBytes) (top later : ℕ) (up : top ≤ later) (same : AreSameUpTo top look other) where
  -- what stands by the earlier bytes stands by the later, and is of the time before
  abbrev Stay : (Path → NodeRev → Type 0) → (Path → NodeRev → Type 0) → Type 0
  Stay S T = (q : Path) (u : NodeRev) → S q u → T q u × InTime top u

  revision_stays : (r : ℕ) → r ≤ top → Stay (StandsAt look r) (StandsAt other r)
  revision_stays r le q u at = (stands_to top look other same r le q u at, in_time top look other same u (r, q, le, at))

  under_stays : (o : Option OwnNode) (S T : Path → NodeRev → Type 0) → ((v : OwnNode) (from : CopySource) → o ≡ Some v → v.node.copy_from ≡ Some from → from.rev ≤ top) → Stay S T → Stay (stands_under look o S) (stands_under other o T)
  under_stays None S T within stay q u at = stay q u at
  under_stays (Some v) S T within stay q u at = by v.node.copy_from v.node.predecessor refl at
    where
      by : (c : Option CopySource) (id : Option NodeId) → v.node.copy_from ≡ c → stands_from look c id S q u → stands_from other c id T q u × InTime top u
      by None None e h = absurd h
      by None (Some id) e h = stay q u h
      by (Some from) id e h = revision_stays from.rev (within v from refl e) (from.path ++ q) u h

  part_stays : (above : Above) (u : NodeRev) (copy : PartValue) → InTime top u → CopyPartOf look above u copy → CopyPartOf other above u copy
  part_stays above u copy time (Directory is) = Directory is
  part_stays above u copy time (Same is) = Same is
  part_stays above u copy time (Before w behind is) = Before w (behind_to top look other same u w time behind) is
  part_stays above u copy time (Drawn new) = Drawn new

  comes_stays : (S T : Path → NodeRev → Type 0) (above : Above) (v : OwnNode) → Stay S T → ComesBy look top S above v → ComesBy other later T above v
  comes_stays S T above v stay (Change u at no_copy on keeps root part) = let h = stay [] u at in Change u h.0 no_copy on keeps root (part_stays above u _ h.1 part)
  comes_stays S T above v stay (Copied u from copy le at on keeps root part) = Copied u from copy (omega (arith, le, up)) (stands_to top look other same from.rev le from.path u at) on keeps root part
  comes_stays S T above v stay (Made no_copy no_pred count root copy part) = Made no_copy no_pred count root copy part

  entry_stays : (P Q : NodeRev → Type 0) (o : Option DirEntry) (h : Option Head) → ((u : NodeRev) → P u → Q u) → IsEntryOf P o h → IsEntryOf Q o h
  entry_stays P Q None None stay is = is
  entry_stays P Q None (Some head) stay is = is
  entry_stays P Q (Some entry) None stay is = (is.0, stay is.0 is.1, is.2, is.3)
  entry_stays P Q (Some entry) (Some head) stay is = is

  entries_stay : (P Q : PathName → NodeRev → Type 0) (o : Option (List DirEntry)) (heads : PathName → Option Head) → ((name : PathName) (u : NodeRev) → P name u → Q name u) → AreEntriesOf P o heads → AreEntriesOf Q o heads
  entries_stay P Q None heads stay are = are
  entries_stay P Q (Some entries) heads stay are = λ name. entry_stays (P name) (Q name) (named name entries) (heads name) (stay name) (are name)

  node_stays : (S T : Path → NodeRev → Type 0) (o : Option OwnNode) (heads : PathName → Option Head) (above : Above) → Stay S T → NodeRule look top o heads above S → NodeRule other later o heads above T
  node_stays S T None heads above stay rule = rule
  node_stays S T (Some v) heads above stay rule = (
    comes_stays S T above v stay rule.0,
    entries_stay (λ name u. stands_under look (Some v) S (name ∷ []) u) (λ name u. stands_under other (Some v) T (name ∷ []) u) v.entries heads (λ name u at. (under_stays (Some v) S T within stay (name ∷ []) u at).0) rule.1,
  )
    where
      within : (w : OwnNode) (from : CopySource) → Some v ≡ Some w → w.node.copy_from ≡ Some from → from.rev ≤ top
      within w from e is = let one : v ≡ w = cc in copy_within look top S above v from rule.0 (ap (λ (a : OwnNode). a.node.copy_from) one ∙ is)

  rules_stay : (p : Path) (own : Own) (above : Above) (S T : Path → NodeRev → Type 0) → Stay S T → Rules look top own above S → RuleAt other later own above T p
  rules_stay [] own above S T stay rules = node_stays S T (own []) (λ name. head_at (own (name ∷ []))) above stay (rules [])
  rules_stay (x ∷ p) own above S T stay rules =
      rules_stay p (below x own) (above_under (own []) above) (λ q u. stands_under look (own []) S (x ∷ q) u) (λ q u. stands_under other (own []) T (x ∷ q) u)
      (λ q u at. under_stays (own []) S T (λ v from. copies_within look top [] own above S rules v from) stay (x ∷ q) u at) (λ q. rules (x ∷ q))

  -- ---- texts and properties: what was read was of the time before

  module _ (youngest : IsYoungest look top) where
    bytes_stay : (rev : ℕ) (bytes : List ℕ) → look rev ≡ Ok bytes → other rev ≡ Ok bytes
    bytes_stay rev bytes is = elim (cases_lt top rev) [
      | inl above ↦ absurd (youngest rev bytes above is)
      | inr le ↦ sym (same rev le) ∙ is
    ]

    rep_stays : (rep : Rep) (text : List ℕ) → RepAt look rep (Ok text) → RepAt other rep (Ok text)
    rep_stays rep text w = (w.0, bytes_stay (rev_of rep) w.0 w.1, w.2)

    text_stays : (o : Option Contents) (text : List ℕ) → OfContents [] (RepAt look) o (Ok text) → OfContents [] (RepAt other) o (Ok text)
    text_stays None text w = w
    text_stays (Some contents.Own) text w = w
    text_stays (Some (contents.At rep)) text w = rep_stays rep text w

    delta_stays : (o : Option Contents) (rev offset : ℕ) → OfContents [] (RepAt look) o (Err (wrongs.Delta (place_of rev offset))) → OfContents [] (RepAt other) o (Err (wrongs.Delta (place_of rev offset)))
    delta_stays None rev offset w = w
    delta_stays (Some contents.Own) rev offset w = w
    delta_stays (Some (contents.At rep)) rev offset (inl w) = let e = w.2 in absurd cc
    delta_stays (Some (contents.At rep)) rev offset (inr w) = inr (w.0, bytes_stay (rev_of rep) w.0 w.1, w.2)

    props_stay : (o : Option Contents) (pairs : List (List ℕ × List ℕ)) → OfContents [] (PairsAt look) o (Ok pairs) → OfContents [] (PairsAt other) o (Ok pairs)
    props_stay None pairs w = w
    props_stay (Some contents.Own) pairs w = w
    props_stay (Some (contents.At rep)) pairs w = (w.0, rep_stays rep w.0 w.1, w.2)

    file_stays : (proto : List ℕ) (v : NodeRev) (text : Content) → IsFileText look proto v text → IsFileText other proto v text
    file_stays proto v (Bytes bytes) (Lasting lasting is) = Lasting lasting (text_stays v.text bytes is)
    file_stays proto v (Closed rev offset) (Lasting lasting is) = Lasting lasting (delta_stays v.text rev offset is)
    file_stays proto v text (Put rep bytes is none read same_text) = Put rep bytes is none read same_text

    kind_stays : (proto : List ℕ) (kind : Kind) (v : OwnNode) (text : Content) → IsDraftText look proto kind v text → IsDraftText other proto kind v text
    kind_stays proto File v text w = (w.0, file_stays proto v.node text w.1)
    kind_stays proto Dir v text w = w

    own_props_stay : (v : NodeRev) (o : Option (List (List ℕ × List ℕ))) (properties : List (List ℕ × List ℕ)) → AreDraftProps look v o properties → AreDraftProps other v o properties
    own_props_stay v None properties w = props_stay v.props properties w
    own_props_stay v (Some pairs) properties w = w

    content_stays : (proto : List ℕ) (v : OwnNode) → HasContent look proto v → HasContent other proto v
    content_stays proto v c = record {
      kind = c.kind;
      text = kind_stays proto v.node.kind v v.shown.text c.text;
      properties = own_props_stay v.node v.props v.shown.properties c.properties;
    }

    stays : (base : ℕ) (txn : TxnName) (f : Folder) (own : Own) → base ≤ top → IsDraft look top base txn f own → IsDraft other later base txn f own
    stays base txn f own le draft = record {
      root = draft.root;
      root_is = draft.root_is;
      root_id = draft.root_id;
      paths = draft.paths;
      places = draft.places;
      kept = draft.kept;
      drawn = draft.drawn;
      rules = λ p. rules_stay p own at_top (StandsAt look base) (StandsAt other base) (revision_stays base le) draft.rules;
      contents = λ p v is. content_stays f.proto v (draft.contents p v is);
    }

-- ---- all of it

within_of : (look : RevisionBytes) (top base : ℕ) (txn : TxnName) (f : Folder) (own : Own) → IsDraft look top base txn f own → AreCopiesWithin top own
within_of look top base txn f own draft p v from is copy = copies_within look top p own at_top (StandsAt look base) draft.rules v from is copy

pub drafts_stay : DraftsStay
drafts_stay = record {
  draft = λ look other trees more top later base txn f own later_is le draft. stays look other top later later_is.above later_is.same later_is.youngest base txn f own le draft;
  tree = λ look other trees more top later base txn f own later_is le draft p. draft_same top trees more later_is.same_trees p own (trees base) (more base) (within_of look top base txn f own draft) (λ q i. later_is.same_trees base le i q);
  whole = λ look other trees more top later base txn f tree marks later_is le d. record {
    shows = record {
      own = d.shows.own;
      is_draft = stays look other top later later_is.above later_is.same later_is.youngest base txn f d.shows.own le d.shows.is_draft;
      each = λ p. d.shows.each p
          ∙ ap bare (draft_same top trees more later_is.same_trees p d.shows.own (trees base) (more base) (within_of look top base txn f d.shows.own d.shows.is_draft) (λ q i. later_is.same_trees base le i q));
      items = d.shows.items;
    };
    files = d.files;
    once = d.once;
    says = subst (λ (t : TreeFunction). AreMarksOf t marks d.shows.own) (later_is.same_trees base le) d.says;
    sources = λ p v is. d.sources p v is
        ∙ ap (source_here v.node.copy_from v.node.predecessor) (shared_at_same top trees more later_is.same_trees p d.shows.own (trees base) (more base) (within_of look top base txn f d.shows.own d.shows.is_draft) (λ q i. later_is.same_trees base le i q) []);
  };
}
