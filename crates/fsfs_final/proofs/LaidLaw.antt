-- What the writer has laid down stays while it appends, and is read.
use Rattle.std.proofs.Common.{◌≡◌, ◌≤◌, ◌<◌, ◌+◌, ℕ, Bool, true, false, cond, List, [], ◌∷◌, ◌++◌, length, drop, refl, sym, ap, subst, ◌∙◌, arith, inl, inr, append_assoc}
use Rattle.std.specs.Prelude.{Option, Some, None, Ok, codes, is_some}
use Rattle.std.specs.List.{flat_map}
use Rattle.std.proofs.lemmas.List.{append-nil, length-append}
use mathlib.Core.Bool.{false≢true}
use Rattle.fsfs_base.specs.Paths.{Path, same_path}
use Rattle.fsfs_base.proofs.PathLemmas.{same_path-is}
use Rattle.fsfs_revision.specs.Told.{RevisionBytes}
use Rattle.fsfs_noderev.specs.NodeRevs.{IsNodeRev}
use Rattle.fsfs_noderev.specs.Lines.{line}
use Rattle.fsfs_noderev.specs.declared.rep.Rep.{Rep}
use Rattle.fsfs_noderev.specs.declared.node_rev.NodeRev.{NodeRev}
use Rattle.fsfs_revision.specs.Nodes.{IsNodeAt}
use Rattle.fsfs_revision.specs.Damage.Damages.{place_of}
use Rattle.fsfs_revision.specs.Rep.Frames.{RepIn}
use Rattle.fsfs_draft.specs.OwnSides.{NodesAt}
use Rattle.fsfs_final.specs.Bytes.{HoldsDraft}
use Rattle.fsfs_final.specs.Laid.{IsTextAt, IsPlaced, IsRepAt, IsFramed, Laid, with_laid, IsLaid, LaysDraft, LoopLaws}
use Rattle.fsfs_final.proofs.PiecesLaw.{pieces_are_read}
use Rattle.std.proofs.lemmas.Bool.{cases_Bool}

abbrev laid_at : ℕ → NodeRev → Option (ℕ × NodeRev)
laid_at o v = Some (o, v)

abbrev off_in : Option (ℕ × NodeRev) → ℕ
off_in None = 0
off_in (Some x) = x.0

abbrev node_in : NodeRev → Option (ℕ × NodeRev) → NodeRev
node_in d None = d
node_in d (Some x) = x.1

none_pair : {A : Type 0} (o : ℕ) (v : NodeRev) → None ≡ laid_at o v → A
none_pair o v e = absurd (false≢true (ap is_some e))

-- a node-revision's text is not empty
pub some_text : (text : List ℕ) (v : NodeRev) → IsNodeRev text v → 1 ≤ length text
some_text text v is = omega (arith, ap length is.text_is.parts, length-append (flat_map line is.text_is.lines) (10 ∷ []))

placed_stays : (n : ℕ) (bytes more : List ℕ) (o : ℕ) (v : NodeRev) → IsPlaced n bytes o v → IsPlaced n (bytes ++ more) o v
placed_stays n bytes more o v is = record {
  front = is.front;
  text = is.text;
  back = is.back ++ more;
  parts = ap (λ (x : List ℕ). x ++ more) is.parts ∙ append_assoc is.front (is.text ++ is.back) more ∙ ap (λ (x : List ℕ). is.front ++ x) (append_assoc is.text is.back more);
  at = is.at;
  holds = is.holds;
}

-- it stands before the end
placed_below : (n : ℕ) (bytes : List ℕ) (o : ℕ) (v : NodeRev) → IsPlaced n bytes o v → o < length bytes
placed_below n bytes o v is = omega (arith, is.at, ap length is.parts, length-append is.front (is.text ++ is.back), length-append is.text is.back, some_text is.text v is.holds.is)

framed_stays : (bytes more : List ℕ) (rep : Rep) (text : List ℕ) → IsFramed bytes rep text → IsFramed (bytes ++ more) rep text
framed_stays bytes more rep text is = record {
  front = is.front;
  back = is.back ++ more;
  parts = ap (λ (x : List ℕ). x ++ more) is.parts
      ∙ append_assoc is.front (codes "PLAIN\n" ++ (text ++ (codes "ENDREP\n" ++ is.back))) more
      ∙ ap (λ (x : List ℕ). is.front ++ x) (append_assoc (codes "PLAIN\n") (text ++ (codes "ENDREP\n" ++ is.back)) more)
      ∙ ap (λ (x : List ℕ). is.front ++ (codes "PLAIN\n" ++ x)) (append_assoc text (codes "ENDREP\n" ++ is.back) more)
      ∙ ap (λ (x : List ℕ). is.front ++ (codes "PLAIN\n" ++ (text ++ x))) (append_assoc (codes "ENDREP\n") is.back more);
  is = is.is;
}

framed : (bytes text : List ℕ) (rep : Rep) → IsRepAt (length bytes) rep text → IsFramed (bytes ++ (codes "PLAIN\n" ++ (text ++ codes "ENDREP\n"))) rep text
framed bytes text rep is = record {
  front = bytes;
  back = [];
  parts = ap (λ (x : List ℕ). bytes ++ (codes "PLAIN\n" ++ (text ++ x))) (sym (append-nil (codes "ENDREP\n")));
  is = is;
}

module _ (n : ℕ) (bytes text : List ℕ) (laid : Laid) (p : Path) (v : NodeRev) (was : IsLaid n bytes laid) (is : IsTextAt n (length bytes) text v) where
  abbrev now : Laid
  now = with_laid laid p (length bytes) v

  placed_new : IsPlaced n (bytes ++ text) (length bytes) v
  placed_new = record { front = bytes; text = text; back = []; parts = ap (λ (x : List ℕ). bytes ++ x) (sym (append-nil text)); at = refl; holds = is }

  same_pair : (o : ℕ) (w : NodeRev) → laid_at (length bytes) v ≡ laid_at o w → (length bytes ≡ o) × (v ≡ w)
  same_pair o w e = (ap off_in e, ap (node_in v) e)

  here : (q : Path) → same_path q p ≡ true → now q ≡ Some (length bytes, v)
  here q h = ap (λ (b : Bool). cond b (Some (length bytes, v)) (laid q)) h

  beside : (q : Path) → same_path q p ≡ false → now q ≡ laid q
  beside q h = ap (λ (b : Bool). cond b (Some (length bytes, v)) (laid q)) h

  -- what was laid before is not at the end
  not_new : (q : Path) (o : ℕ) (w : NodeRev) → laid q ≡ Some (o, w) → length bytes ≡ o → ⊥
  not_new q o w e at = let below = placed_below n bytes o w (was.placed q o w e) in omega (arith, below, at)

  grows : IsLaid n (bytes ++ text) (with_laid laid p (length bytes) v)
  grows = record {
    placed = λ q o w e. elim (cases_Bool (same_path q p)) [
      | inl h ↦ (let s = same_pair o w (sym (here q h) ∙ e) in subst (λ (x : ℕ). IsPlaced n (bytes ++ text) x w) s.0 (subst (λ (x : NodeRev). IsPlaced n (bytes ++ text) (length bytes) x) s.1 placed_new))
      | inr h ↦ placed_stays n bytes text o w (was.placed q o w (sym (beside q h) ∙ e))
    ];
    apart = λ q r o x y e f. elim (cases_Bool (same_path q p)) [
      | inl h ↦ elim (cases_Bool (same_path r p)) [
        | inl k ↦ same_path-is q p h ∙ sym (same_path-is r p k)
        | inr k ↦ absurd (not_new r o y (sym (beside r k) ∙ f) (same_pair o x (sym (here q h) ∙ e)).0)
      ]
      | inr h ↦ elim (cases_Bool (same_path r p)) [
        | inl k ↦ absurd (not_new q o x (sym (beside q h) ∙ e) (same_pair o y (sym (here r k) ∙ f)).0)
        | inr k ↦ was.apart q r o x y (sym (beside q h) ∙ e) (sym (beside r k) ∙ f)
      ]
    ];
  }

node_at : (n : ℕ) (bytes : List ℕ) (o : ℕ) (v : NodeRev) → IsPlaced n bytes o v → IsNodeAt (place_of n o) (drop o bytes) v
node_at n bytes o v is =
    subst (λ (x : List ℕ). IsNodeAt (place_of n o) (drop o x) v) (sym is.parts)
    (subst (λ (k : ℕ). IsNodeAt (place_of n k) (drop k (is.front ++ (is.text ++ is.back))) v) is.at
    (pieces_are_read.node n is.front is.text is.back v is.holds.is is.holds.short is.holds.of
    (subst (λ (k : ℕ). Rattle.fsfs_revision.specs.Nodes.is_ordered (place_of n k) v ≡ true) (sym is.at) is.holds.ordered)))

rep_read : (bytes : List ℕ) (rep : Rep) (text : List ℕ) → IsFramed bytes rep text → RepIn rep bytes (Ok text)
rep_read bytes rep text is =
    subst (λ (x : List ℕ). RepIn rep x (Ok text)) (sym is.parts) (pieces_are_read.rep rep is.front text is.back is.is.offset is.is.length_is is.is.size is.is.md5_is is.is.unique)

held : (look : RevisionBytes) (n : ℕ) (bytes : List ℕ) (own : NodesAt) (done : Path → NodeRev) (off : Path → ℕ) (laid : Laid)
    → look n ≡ Ok bytes → IsLaid n bytes laid → LaysDraft look n bytes own done off laid → HoldsDraft look n bytes own done off
held look n bytes own done off laid told is lays = record {
  bytes_are = told;
  trailer = lays.trailer;
  ends = lays.ends;
  root_at = lays.root_at;
  root_is = lays.root_is;
  final = λ p u e o. (lays.all p u e o).1;
  place = λ p u e o. (lays.all p u e o).2;
  node = λ p u e o. node_at n bytes (off p) (done p) (is.placed p (off p) (done p) (lays.all p u e o).0);
  list = lays.list;
  apart = λ p q u w e f o k same. is.apart p q (off p) (done p) (done q) (lays.all p u e o).0 ((lays.all q w f k).0 ∙ ap (λ (x : ℕ). Some (x, done q)) (sym same));
}

pub loop_laws : LoopLaws
loop_laws = record {
  begins = λ n bytes. record { placed = λ p o v e. none_pair o v e; apart = λ p q o v w e f. none_pair o v e };
  stays = λ n bytes more laid is. record { placed = λ p o v e. placed_stays n bytes more o v (is.placed p o v e); apart = is.apart };
  framed_stays = framed_stays;
  grows = grows;
  framed = framed;
  node_read = λ n bytes laid p o v is e. node_at n bytes o v (is.placed p o v e);
  rep_read = rep_read;
  held = held;
}
