-- A draft's node-revision that was put is laid in the revision, final, with its lists.
use Rattle.std.proofs.Common.{◌≡◌, ◌∙◌, ◌+◌, ◌≤◌, ◌<◌, ℕ, suc, true, List, [], ◌++◌, length, Option, Some, None, refl, sym, ap, subst, arith}
use Rattle.std.specs.Prelude.{◌≢◌, unwrap_or}
use Rattle.std.proofs.lemmas.List.{append-nil, length-append}
use Rattle.std.proofs.lemmas.Bool.Decides.{nat_tests}
use Rattle.fsfs_base.specs.Paths.{Path}
use Rattle.fsfs_revision.specs.Told.{RevisionBytes}
use Rattle.fsfs_revision.specs.Damage.Damages.{place_of}
use Rattle.fsfs_noderev.specs.declared.rep.Rep.{Rep}
use Rattle.fsfs_noderev.specs.declared.rep.Contents.{Contents}
use Rattle.fsfs_noderev.specs.declared.rep.Contents.TheVariants as contents
use Rattle.fsfs_noderev.specs.declared.node_rev.NodeRev.{NodeRev}
use Rattle.fsfs_layout.specs.Hash.Dump.{dump_text}
use Rattle.fsfs_revision.specs.Nodes.{is_before, is_some_rev, rep_before, rep_place_before, has_revision_rep, is_of_revision, is_ordered}
use Rattle.fsfs_revision.specs.Shows.Reading.{Pairs}
use Rattle.fsfs_revision.specs.Shows.Chains.{contents_rev}
use Rattle.fsfs_revision.specs.Rep.Frames.{framed_text}
use Rattle.fsfs_draft.specs.OwnSides.{NodesAt}
use Rattle.fsfs_draft.specs.NodeDrafts.{IsOwn, IsDraft}
use Rattle.fsfs_final.specs.Final.{IsFinal}
use Rattle.fsfs_final.specs.Finishing.{finish, FinishesProps}
use Rattle.fsfs_final.specs.Laid.{Laid, with_laid, IsLaid, IsTextAt}
use Rattle.fsfs_final.proofs.LaidLaw.{loop_laws}
use Rattle.fsfs_final.proofs.FinishingLaw.{finishing_is_final}
use Rattle.fsfs_final.specs.Pieces.Lists.{list_of, in_revision, AreContentsPut}
use Rattle.fsfs_final.specs.Pieces.Nodes.{IsNodePut, IsRepBefore, HasTextBefore, HasList, IsNodeLaid, PutNodesAreLaid}
use Rattle.fsfs_final.proofs.PropsLaw.{HasPropsBefore, props_before}
use Rattle.fsfs_final.proofs.ListLaws.{behind, put_behind, put_lists_are_framed}

abbrev own_file : Option Contents
own_file = Some contents.Own

-- ---- contents that were put

-- they only add bytes
pub grown : (n start : ℕ) (old new : List ℕ) (c : Option Contents) (list : Option Pairs) (d : Option Contents) → AreContentsPut n start old new c list d → (more : List ℕ) × (new ≡ old ++ more)
grown n start old new None list d w = ([], w.1 ∙ sym (append-nil old))
grown n start old new (Some (contents.At rep)) list d w = ([], w.1 ∙ sym (append-nil old))
grown n start old new (Some contents.Own) list d w = (framed_text (dump_text (list_of list)), w.2.added)

-- a list of an own file is there
pub has_list : (n start : ℕ) (proto old new : List ℕ) (c : Option Contents) (list : Option Pairs) (d : Option Contents) → AreContentsPut n start old new c list d → length proto ≡ start → c ≡ own_file
    → HasList n (proto ++ new) d (list_of list)
has_list n start proto old new None list d w e is = let no : ⊥ = cc in absurd no
has_list n start proto old new (Some (contents.At rep)) list d w e is = let no : ⊥ = cc in absurd no
has_list n start proto old new (Some contents.Own) list d w e is = record {
  rep = w.0;
  there = w.1;
  rev_is = w.2.rev_is;
  framed = put_lists_are_framed n start proto old new (list_of list) w.0 w.2 e;
  dump = w.2.dump;
}

list_stays : (n : ℕ) (bytes more : List ℕ) (d : Option Contents) (pairs : Pairs) → HasList n bytes d pairs → HasList n (bytes ++ more) d pairs
list_stays n bytes more d pairs is = record {
  rep = is.rep;
  there = is.there;
  rev_is = is.rev_is;
  framed = loop_laws.framed_stays bytes more is.rep (dump_text pairs) is.framed;
  dump = is.dump;
}

-- ---- they stand in a revision, before what names them

pub of_revision : (n start : ℕ) (old new : List ℕ) (c : Option Contents) (list : Option Pairs) (d : Option Contents) → AreContentsPut n start old new c list d → has_revision_rep d ≡ true
of_revision n start old new None list d w = ap has_revision_rep w.0
of_revision n start old new (Some (contents.At rep)) list d w = ap has_revision_rep w.0
of_revision n start old new (Some contents.Own) list d w = ap has_revision_rep w.1 ∙ ap is_some_rev w.2.rev_is

rep_before_at : (n start off : ℕ) (rev : Option ℕ) (offset : ℕ) → IsRepBefore n start rev offset → start ≤ off → is_before (unwrap_or rev n) offset (place_of n off) ≡ true
rep_before_at n start off None offset h le = earlier_offset n offset off (omega (arith, h, le))
  where
    earlier_offset : (n offset off : ℕ) → offset < off → is_before n offset (place_of n off) ≡ true
    earlier_offset n offset off lt = grind (arith, nat_tests)
rep_before_at n start off (Some rev) offset h le = earlier_rev rev n offset off h
  where
    earlier_rev : (rev n offset off : ℕ) → rev < n → is_before rev offset (place_of n off) ≡ true
    earlier_rev rev n offset off lt = grind (arith, nat_tests)

own_before : (n o off : ℕ) (rev : Option ℕ) → rev ≡ Some n → o < off → rep_place_before (place_of n off) rev o ≡ true
own_before n o off rev e lt = ap (λ (r : Option ℕ). rep_place_before (place_of n off) r o) e ∙ earlier_offset n o off lt
  where
    earlier_offset : (n offset off : ℕ) → offset < off → is_before n offset (place_of n off) ≡ true
    earlier_offset n offset off lt = grind (arith, nat_tests)

pub before : (n start off : ℕ) (old new : List ℕ) (c : Option Contents) (list : Option Pairs) (d : Option Contents) → AreContentsPut n start old new c list d → HasTextBefore n start c → start + length new ≤ off
    → rep_before (place_of n off) d ≡ true
before n start off old new None list d w h le = ap (rep_before (place_of n off)) w.0
before n start off old new (Some (contents.At rep)) list d w h le = ap (rep_before (place_of n off)) w.0 ∙ rep_before_at n start off rep.rev rep.offset h (omega (arith, le))
before n start off old new (Some contents.Own) list d w h le =
    let more : length new ≡ length old + length (framed_text (dump_text (list_of list))) = ap length w.2.added ∙ length-append old (framed_text (dump_text (list_of list))) in
    let some : 1 ≤ length (framed_text (dump_text (list_of list))) = some_text (dump_text (list_of list)) in
    let lt : w.0.offset < off = omega (arith, w.2.is.offset, more, some, le) in
    ap (rep_before (place_of n off)) w.1 ∙ own_before n w.0.offset off w.0.rev w.2.rev_is lt
  where
    some_text : (text : List ℕ) → 1 ≤ length (framed_text text)
    some_text text = omega arith

-- ---- properties

pub props_text : (n start : ℕ) (c : Option Contents) → HasPropsBefore n c → HasTextBefore n start c
props_text n start None h = tt
props_text n start (Some contents.Own) h = tt
props_text n start (Some (contents.At rep)) h = subst (λ (r : Option ℕ). IsRepBefore n start r rep.offset) (sym h.1) h.2

own_props : (n start : ℕ) (old new : List ℕ) (c : Option Contents) (list : Option Pairs) (d : Option Contents) → AreContentsPut n start old new c list d → c ≡ own_file → (d ≢ None) × (contents_rev d ≡ n)
own_props n start old new None list d w is = let no : ⊥ = cc in absurd no
own_props n start old new (Some (contents.At rep)) list d w is = let no : ⊥ = cc in absurd no
own_props n start old new (Some contents.Own) list d w is = (λ none. (let f = sym none ∙ w.1 in cc), ap contents_rev w.1 ∙ ap (λ (r : Option ℕ). unwrap_or r 0) w.2.rev_is)

pub same_rep : (n : ℕ) (rep : Rep) (rev : ℕ) → rep.rev ≡ Some rev → in_revision n rep ≡ rep
same_rep n rep rev e = ap (λ (r : Option ℕ). let made : Rep = record rep { rev = Some (unwrap_or r n) } in made) e ∙ ap (λ (r : Option ℕ). let made : Rep = record rep { rev = r } in made) (sym e)

other_props : (n start : ℕ) (old new : List ℕ) (c : Option Contents) (list : Option Pairs) (d : Option Contents) → AreContentsPut n start old new c list d → HasPropsBefore n c → (c ≢ own_file) → d ≡ c
other_props n start old new None list d w h ne = w.0
other_props n start old new (Some (contents.At rep)) list d w h ne = w.0 ∙ ap (λ (r : Rep). Some (contents.At r)) (same_rep n rep h.0 h.1)
other_props n start old new (Some contents.Own) list d w h ne = absurd (ne refl)

-- ---- the node-revision

module _ (look : RevisionBytes) (top start : ℕ) (own : NodesAt) (p : Path) (proto old new : List ℕ) (laid : Laid) (u v : NodeRev) (entries props : Option Pairs) (draft : IsDraft look top top own) (here : own p ≡ Some u)
    (mine : IsOwn u) (e : length proto ≡ start) (text_before : HasTextBefore (suc top) start u.text) (set_before : HasPropsBefore (suc top) u.props) (was : IsLaid (suc top) (proto ++ old) laid)
    (is : IsNodePut (suc top) start old new u entries props v) where
  abbrev off : ℕ
  off = start + length is.front

  texts : (more : List ℕ) × (is.mid ≡ old ++ more)
  texts = grown (suc top) start old is.mid u.text entries v.text is.text_put

  lists : (more : List ℕ) × (is.front ≡ is.mid ++ more)
  lists = grown (suc top) start is.mid is.front u.props props v.props is.props_put

  mid_le : start + length is.mid ≤ off
  mid_le = omega (arith, ap length lists.1, length-append is.mid lists.0)

  sets : FinishesProps (suc top) u v.props
  sets = record {
    own = own_props (suc top) start is.mid is.front u.props props v.props is.props_put;
    other = other_props (suc top) start is.mid is.front u.props props v.props is.props_put set_before;
  }

  made : IsFinal (suc top) u (finish (suc top) off v.text v.props u) × (is_of_revision (finish (suc top) off v.text v.props u) ≡ true) × (is_ordered (place_of (suc top) off) (finish (suc top) off v.text v.props u) ≡ true)
  made =
      finishing_is_final look top off own p u v.text v.props draft here mine
      (of_revision (suc top) start old is.mid u.text entries v.text is.text_put)
      (of_revision (suc top) start is.mid is.front u.props props v.props is.props_put)
      (before (suc top) start off old is.mid u.text entries v.text is.text_put text_before mid_le)
      (before (suc top) start off is.mid is.front u.props props v.props is.props_put (props_text (suc top) start u.props set_before) (omega arith))
      sets

  at : length (proto ++ is.front) ≡ off
  at = behind start proto is.front e

  text_at : IsTextAt (suc top) (length (proto ++ is.front)) is.lines v
  text_at = record {
    is = is.is;
    short = is.short;
    of = subst (λ (x : NodeRev). is_of_revision x ≡ true) (sym is.finished) made.1;
    ordered = subst (λ (o : ℕ). is_ordered (place_of (suc top) o) v ≡ true) (sym at) (subst (λ (x : NodeRev). is_ordered (place_of (suc top) off) x ≡ true) (sym is.finished) made.2);
  }

  laid_front : IsLaid (suc top) (proto ++ is.front) laid
  laid_front =
      let mid : IsLaid (suc top) (proto ++ is.mid) laid = subst (λ (x : List ℕ). IsLaid (suc top) x laid) (put_behind proto old is.mid texts.0 texts.1) (loop_laws.stays (suc top) (proto ++ old) texts.0 laid was) in
      subst (λ (x : List ℕ). IsLaid (suc top) x laid) (put_behind proto is.mid is.front lists.0 lists.1) (loop_laws.stays (suc top) (proto ++ is.mid) lists.0 laid mid)

  placed : IsLaid (suc top) (proto ++ new) (with_laid laid p off v)
  placed =
      subst (λ (x : List ℕ). IsLaid (suc top) x (with_laid laid p off v)) (put_behind proto is.front new is.lines is.added)
      (subst (λ (o : ℕ). IsLaid (suc top) ((proto ++ is.front) ++ is.lines) (with_laid laid p o v)) at (loop_laws.grows (suc top) (proto ++ is.front) is.lines laid p v laid_front text_at))

  later : (d : Option Contents) (pairs : Pairs) → HasList (suc top) (proto ++ is.front) d pairs → HasList (suc top) (proto ++ new) d pairs
  later d pairs h = subst (λ (x : List ℕ). HasList (suc top) x d pairs) (put_behind proto is.front new is.lines is.added) (list_stays (suc top) (proto ++ is.front) is.lines d pairs h)

  entries_read : u.text ≡ own_file → HasList (suc top) (proto ++ new) v.text (list_of entries)
  entries_read own_text =
      let mid = has_list (suc top) start proto old is.mid u.text entries v.text is.text_put e own_text in
      later v.text (list_of entries)
      (subst (λ (x : List ℕ). HasList (suc top) x v.text (list_of entries)) (put_behind proto is.mid is.front lists.0 lists.1) (list_stays (suc top) (proto ++ is.mid) lists.0 v.text (list_of entries) mid))

  pub node_laid : IsNodeLaid (suc top) (proto ++ new) laid p u entries props v
  node_laid = record {
    off = off;
    place = ap (λ (x : NodeRev). x.id.place) is.finished;
    placed = placed;
    final = subst (λ (x : NodeRev). IsFinal (suc top) u x) (sym is.finished) made.0;
    lists = entries_read;
    sets = λ own_set. later v.props (list_of props) (has_list (suc top) start proto is.mid is.front u.props props v.props is.props_put e own_set);
  }

pub put_nodes_are_laid : PutNodesAreLaid
put_nodes_are_laid look top start own p proto old new laid u v entries props draft here mine e text_before was is =
    node_laid look top start own p proto old new laid u v entries props draft here mine e text_before (props_before look top own p u draft here mine) was is
