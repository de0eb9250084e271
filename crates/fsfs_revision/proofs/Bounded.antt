-- What is read of a revision depends on the bytes of no later one: all that is named stands before.
use Rattle.std.proofs.Common.{◌≡◌, ◌≤◌, ◌<◌, ◌⊎◌, ℕ, suc, max, true, [], ◌∷◌, ◌++◌, List, length, take, drop, refl, sym, ap, subst, ◌∙◌, arith, inl, inr}
use Rattle.std.specs.Prelude.{◌↔◌, Result, Ok, Err, Option, Some, None, IsSomeAnd, unwrap_or}
use Rattle.fsfs_base.specs.Paths.{PathName, Path}
use Rattle.fsfs_tree.specs.Nodes.{Node, Content, Bytes, Closed, TreeFunction}
use Rattle.fsfs_base.specs.declared.kind.Kind.{Kind}
use Rattle.fsfs_base.specs.declared.kind.Kind.TheVariants.{File, Dir}
use Rattle.fsfs_revision.specs.declared.wrong.Refusal.{Refusal}
use Rattle.fsfs_revision.specs.Told.{RevisionBytes, BytesOf}
use Rattle.fsfs_noderev.specs.declared.node_id.Place.{Place}
use Rattle.fsfs_noderev.specs.declared.node_id.Place.TheVariants as places
use Rattle.fsfs_noderev.specs.declared.node_id.NodeId.{NodeId}
use Rattle.fsfs_noderev.specs.declared.rep.Rep.{Rep}
use Rattle.fsfs_noderev.specs.declared.rep.Contents.{Contents}
use Rattle.fsfs_noderev.specs.declared.rep.Contents.TheVariants as contents
use Rattle.fsfs_noderev.specs.declared.node_rev.NodeRev.{NodeRev}
use Rattle.fsfs_revision.specs.Rep.Frames.{rev_of, RepIn}
use Rattle.fsfs_revision.specs.Damages.{NodeIn, RootIn}
use Rattle.fsfs_revision.specs.Nodes.{pred_before, rep_before, rep_place_before, place_before}
use Rattle.fsfs_revision.specs.Damage.Damages.{place_of}
use Rattle.fsfs_revision.specs.declared.damage.RevOffset.{RevOffset}
use Rattle.fsfs_revision.specs.declared.wrong.Wrong.{Wrong}
use Rattle.fsfs_revision.specs.declared.wrong.Wrong.TheVariants as wrongs
use Rattle.fsfs_revision.specs.Damage.Readings.{AndThen}
use Rattle.fsfs_revision.specs.Shows.Reading.{NodeAt, RootOf, offset_of, RepAt, Pairs, PairsIn, PairsAt, OfContents, TextOf, PropsOf, DirEntry, EntriesIn, EntriesAt, EntriesOf, HasId, OfId, HasKind, OfEntry, named, OfNamed, ChildOf, Met, Stands, Lacking, Blocked, OrLacking, InDirectory, MetFrom, MetAt, StandsAt}
use Rattle.fsfs_revision.specs.Shows.Chains.{own_rev, IsPred, Chain, First, Breaks, Goes, copy_root_of, IsCopiedIn, contents_rev}
use Rattle.fsfs_revision.specs.Shows.Shown.{IsTextOf, Nearest, IsOfCopy, IsSource, IsShown, IsShownAs, Shows}
use Rattle.fsfs_revision.specs.Ancestry.Bounded.{AreSameUpTo}
use Rattle.fsfs_revision.proofs.TreeLaw.{IsHome, before_le, of_id_home, root_home, child_home, entry_before, stands_home, rep_le, props_le, chain_le, sound}

pub back_same : (r : ℕ) (look other : RevisionBytes) → AreSameUpTo r look other → AreSameUpTo r other look
back_same r look other same s le = sym (same s le)

-- ---- one reading behind another

module _ {X Y : Type 0} (R Q : Result X Wrong → Type 0) (S T : X → Result Y Wrong → Type 0) (first : (r : Result X Wrong) → R r → Q r) (next : (x : X) → R (Ok x) → (r : Result Y Wrong) → S x r → T x r) where
  then_same : (r : Result Y Wrong) → AndThen R S r → AndThen Q T r
  then_same (Ok y) w = (w.0, first (Ok w.0) w.1, next w.0 w.1 (Ok y) w.2)
  then_same (Err e) (inl w) = inl (first (Err e) w)
  then_same (Err e) (inr w) = inr (w.0, first (Ok w.0) w.1, next w.0 w.1 (Err e) w.2)

module _ (top : ℕ) (look other : RevisionBytes) (same : AreSameUpTo top look other) where
  bytes_same : (s : ℕ) → s ≤ top → (r : Result (List ℕ) Wrong) → BytesOf look s r → BytesOf other s r
  bytes_same s le (Ok b) w = sym (same s le) ∙ w
  bytes_same s le (Err e) w = (w.0, sym (same s le) ∙ w.1, w.2)

  node_same : (at : RevOffset) → at.rev ≤ top → (r : Result NodeRev Wrong) → NodeAt look at r → NodeAt other at r
  node_same at le = then_same (BytesOf look at.rev) (BytesOf other at.rev) (λ bytes. NodeIn at (drop at.offset bytes)) (λ bytes. NodeIn at (drop at.offset bytes)) (bytes_same at.rev le) (λ x w r v. v)

  root_same : (s : ℕ) → s ≤ top → (r : Result NodeRev Wrong) → RootOf look s r → RootOf other s r
  root_same s le = then_same (BytesOf look s) (BytesOf other s) (RootIn s) (RootIn s) (bytes_same s le) (λ x w r v. v)

  rep_same : (rep : Rep) → rev_of rep ≤ top → (r : Result (List ℕ) Wrong) → RepAt look rep r → RepAt other rep r
  rep_same rep le = then_same (BytesOf look (rev_of rep)) (BytesOf other (rev_of rep)) (RepIn rep) (RepIn rep) (bytes_same (rev_of rep) le) (λ x w r v. v)

  pairs_same : (rep : Rep) → rev_of rep ≤ top → (r : Result Pairs Wrong) → PairsAt look rep r → PairsAt other rep r
  pairs_same rep le = then_same (RepAt look rep) (RepAt other rep) (PairsIn rep) (PairsIn rep) (rep_same rep le) (λ x w r v. v)

  entries_at_same : (home : RevOffset) (rep : Rep) → rev_of rep ≤ top → (r : Result (List DirEntry) Wrong) → EntriesAt look home rep r → EntriesAt other home rep r
  entries_at_same home rep le = then_same (PairsAt look rep) (PairsAt other rep) (EntriesIn home rep) (EntriesIn home rep) (pairs_same rep le) (λ x w r v. v)

  contents_same : {X : Type 0} (nothing : X) (R Q : Rep → Result X Wrong → Type 0) (o : Option Contents) → ((rep : Rep) → o ≡ Some (contents.At rep) → (r : Result X Wrong) → R rep r → Q rep r) → (r : Result X Wrong) → OfContents nothing R o r → OfContents nothing Q o r
  contents_same nothing R Q None f r w = w
  contents_same nothing R Q (Some contents.Own) f r w = absurd w
  contents_same nothing R Q (Some (contents.At rep)) f r w = f rep refl r w

  -- a representation that is named is of no later revision
  rep_within : (at : RevOffset) (o : Option Contents) (rep : Rep) → rep_before at o ≡ true → at.rev ≤ top → o ≡ Some (contents.At rep) → rev_of rep ≤ top
  rep_within at o rep h le e =
      let w : rep_before at (Some (contents.At rep)) ≡ true = subst (λ (x : Option Contents). rep_before at x ≡ true) e h in
      let b = rep_le at rep.rev rep.offset w in
      omega (arith, b)

  text_same : (v : NodeRev) → IsHome v → own_rev v ≤ top → (r : Result (List ℕ) Wrong) → TextOf look v r → TextOf other v r
  text_same v home le = contents_same [] (RepAt look) (RepAt other) v.text (λ rep e. rep_same rep (rep_within (offset_of v.id.place) v.text rep home.text le e))

  pub props_same : (v : NodeRev) → IsHome v → own_rev v ≤ top → (r : Result Pairs Wrong) → PropsOf look v r → PropsOf other v r
  props_same v home le = contents_same [] (PairsAt look) (PairsAt other) v.props (λ rep e. pairs_same rep (rep_within (offset_of v.id.place) v.props rep home.props le e))

  entries_same : (v : NodeRev) → IsHome v → own_rev v ≤ top → (r : Result (List DirEntry) Wrong) → EntriesOf look v r → EntriesOf other v r
  entries_same v home le = contents_same [] (EntriesAt look (offset_of v.id.place)) (EntriesAt other (offset_of v.id.place)) v.text (λ rep e. entries_at_same (offset_of v.id.place) rep (rep_within (offset_of v.id.place) v.text rep home.text le e))

  pub of_id_same : (id : NodeId) → (offset_of id.place).rev ≤ top → (r : Result NodeRev Wrong) → OfId look id r → OfId other id r
  of_id_same id le = then_same (NodeAt look (offset_of id.place)) (NodeAt other (offset_of id.place)) (HasId id) (HasId id) (node_same (offset_of id.place) le) (λ x w r v. v)

  of_entry_same : (entry : DirEntry) → (offset_of entry.id.place).rev ≤ top → (r : Result NodeRev Wrong) → OfEntry look entry r → OfEntry other entry r
  of_entry_same entry le = then_same (OfId look entry.id) (OfId other entry.id) (HasKind entry) (HasKind entry) (of_id_same entry.id le) (λ x w r v. v)

  -- a child, or none
  pub child_same : (v : NodeRev) (name : PathName) → IsHome v → own_rev v ≤ top → (r : Result (Option NodeRev) Wrong) → ChildOf look v name r → ChildOf other v name r
  child_same v name home le =
      then_same (EntriesOf look v) (EntriesOf other v) (λ entries. OfNamed look (named name entries)) (λ entries. OfNamed other (named name entries)) (entries_same v home le)
      (λ entries w r n. by entries w (named name entries) refl r n)
    where
      in_time : (entries : List DirEntry) → EntriesOf look v (Ok entries) → (entry : DirEntry) → named name entries ≡ Some entry → (offset_of entry.id.place).rev ≤ top
      in_time entries w entry e = let b = before_le (offset_of v.id.place) entry.id.place (entry_before look v name v.text entries entry w e) in omega (arith, b)

      by : (entries : List DirEntry) → EntriesOf look v (Ok entries) → (o : Option DirEntry) → named name entries ≡ o → (r : Result (Option NodeRev) Wrong) → OfNamed look o r → OfNamed other o r
      by entries w None e r n = n
      by entries w (Some entry) e (Ok None) n = absurd n
      by entries w (Some entry) e (Ok (Some u)) n = of_entry_same entry (in_time entries w entry e) (Ok u) n
      by entries w (Some entry) e (Err x) n = of_entry_same entry (in_time entries w entry e) (Err x) n

  -- the walk down a path
  down_same : (kind : Kind) (depth : ℕ) (R Q : Result (Option NodeRev) Wrong → Type 0) (S T : NodeRev → Result Met Wrong → Type 0)
      → ((r : Result (Option NodeRev) Wrong) → R r → Q r) → ((u : NodeRev) → R (Ok (Some u)) → (r : Result Met Wrong) → S u r → T u r) → (r : Result Met Wrong) → InDirectory kind depth R S r → InDirectory kind depth Q T r
  down_same File depth R Q S T f g r w = w
  down_same Dir depth R Q S T f g r w = then_same R Q (OrLacking (suc depth) S) (OrLacking (suc depth) T) f by r w
    where
      by : (o : Option NodeRev) → R (Ok o) → (r : Result Met Wrong) → OrLacking (suc depth) S o r → OrLacking (suc depth) T o r
      by None c r s = s
      by (Some u) c r s = g u c r s

  from_same : (a : NodeRev) (depth : ℕ) (p : Path) → IsHome a → own_rev a ≤ top → (r : Result Met Wrong) → MetFrom look a depth p r → MetFrom other a depth p r
  from_same a depth [] home le r w = w
  from_same a depth (name ∷ names) home le r w =
      down_same a.kind depth (ChildOf look a name) (ChildOf other a name) (λ u. MetFrom look u (suc depth) names) (λ u. MetFrom other u (suc depth) names) (child_same a name home le)
      (λ u child. let c = child_home look a u name child in from_same u (suc depth) names c.0 (let x = c.1 in omega arith)) r w

  pub met_same_bytes : (s : ℕ) → s ≤ top → (p : Path) (r : Result Met Wrong) → MetAt look s p r → MetAt other s p r
  met_same_bytes s le p = then_same (RootOf look s) (RootOf other s) (λ v. MetFrom look v 0 p) (λ v. MetFrom other v 0 p) (root_same s le)
      (λ v root. let h = root_home look s v root in from_same v 0 p h.0 (let x = h.1 in omega arith))

  pub stands_same_bytes : (s : ℕ) → s ≤ top → (p : Path) (v : NodeRev) → StandsAt look s p v → StandsAt other s p v
  stands_same_bytes s le p v = met_same_bytes s le p (Ok (Stands v))

  pub chain_same : (v : NodeRev) (end : Result ℕ Wrong) → IsHome v → own_rev v ≤ top → Chain look v end → Chain other v end
  chain_same _ _ home le (First v e) = First v e
  chain_same _ _ home le (Breaks v id w e o) =
      let b = before_le (offset_of v.id.place) id.place (subst (λ (x : Option NodeId). pred_before (offset_of v.id.place) x ≡ true) e home.pred) in
      Breaks v id w e (of_id_same id (omega (arith, b)) (Err w) o)
  chain_same _ _ home le (Goes v u id end e o c) =
      let b = before_le (offset_of v.id.place) id.place (subst (λ (x : Option NodeId). pred_before (offset_of v.id.place) x ≡ true) e home.pred) in
      let h = of_id_home look id u o in
      Goes v u id end e (of_id_same id (omega (arith, b)) (Ok u) o) (chain_same u end h.0 (let x = h.1 in omega (arith, b)) c)

module _ (r : ℕ) (look other : RevisionBytes) (same : AreSameUpTo r look other) where
  back : AreSameUpTo r other look
  back = back_same r look other same

  copied_same : (p : Path) (rev : ℕ) → IsCopiedIn look r p rev → IsCopiedIn other r p rev
  copied_same p rev c = record {
    at_most = λ k q le at. c.at_most k q le (stands_same_bytes r other look back r (omega arith) (take k p) q at);
    some = let s = c.some in (s.0, s.1, s.2, stands_same_bytes r look other same r (omega arith) (take s.0 p) s.1 s.3, s.4);
  }

  pub text_shown : (kind : Kind) (v : NodeRev) (text : Content) → IsHome v → own_rev v ≤ r → IsTextOf look kind v text → IsTextOf other kind v text
  text_shown Dir v text home le w = w
  text_shown File v (Bytes bytes) home le w = text_same r look other same v home le (Ok bytes) w
  text_shown File v (Closed rev offset) home le w = text_same r look other same v home le (Err (wrongs.Delta (place_of rev offset))) w

  source_same : (p : Path) (first added : ℕ) (source : Option (ℕ × Path)) → added ≤ r → IsSource look r p first added source → IsSource other r p first added source
  source_same p first added source le (inl w) = inl w
  source_same p first added source le (inr w) = inr (
    w.0,
    record {
      near = record {
        depth = w.1.near.depth;
        within = w.1.near.within;
        node = w.1.near.node;
        stands = stands_same_bytes r look other same r (omega arith) (take w.1.near.depth p) w.1.near.node w.1.near.stands;
        root = w.1.near.root;
        nearest = λ k q less in_p at. w.1.near.nearest k q less in_p (stands_same_bytes r other look back r (omega arith) (take k p) q at);
      };
      met = w.1.met;
      root = met_same_bytes r look other same added le (copy_root_of w.1.near.node).1 (Ok w.1.met) w.1.root;
      source_is = w.1.source_is;
    },
  )

  node_shown : (p : Path) (v : NodeRev) (n : Node) → StandsAt look r p v → n.added ≤ r → IsShown look r p v n → IsShown other r p v n
  node_shown p v n at le w =
      let h = stands_home look r p v at in record {
        kind = w.kind;
        text = text_shown v.kind v n.text h.0 h.1 w.text;
        properties = props_same r look other same v h.0 h.1 (Ok n.properties) w.properties;
        first = w.first;
        chain = chain_same r look other same v (Ok w.first) h.0 h.1 w.chain;
        copied = w.copied;
        copied_is = copied_same p w.copied w.copied_is;
        added = w.added;
        props_changed = w.props_changed;
        last_changed = w.last_changed;
        source = source_same p w.first n.added n.source le w.source;
      }

  -- what the bytes show as the tree of a revision they show whatever the bytes of later ones are
  pub shows_same : (tree : TreeFunction) → Shows look r tree → Shows other r tree
  shows_same tree shows = record { each = λ p. let w = shows.each p in (w.0, met_same_bytes r look other same r (omega arith) p (Ok w.0) w.1, by p w.0 w.1 (tree p) refl w.2) }
    where
      by : (p : Path) (m : Met) → MetAt look r p (Ok m) → (o : Option Node) → tree p ≡ o → IsShownAs look r p m o → IsShownAs other r p m o
      by p (Lacking k) at o e w = w
      by p (Blocked k) at o e w = w
      by p (Stands v) at None e w = absurd w
      by p (Stands v) at (Some n) e w =
          let s = sound look r tree shows in
          let o = s.ordered p n e in
          let m = s.at_most p n e in
          node_shown p v n at (omega (arith, o.added, o.props_changed, m)) w
