-- What is appended to a revision's bytes is read again where it stands.
use Rattle.std.proofs.Common.{◌≡◌, ◌≤◌, ◌+◌, ℕ, true, List, ◌++◌, length, take, drop, sym, ap, subst, ◌∙◌, arith}
use Rattle.std.specs.Prelude.{◌-◌, Option, None, Ok, IfSome, codes}
use Rattle.std.proofs.Math.Seq.{drop-append_seam, drop-append-add, take-append_seam, take-append-add}
use Rattle.md5.specs.Md5.{md5}
use Rattle.sha1.specs.Sha1.{sha1}
use Rattle.fsfs_noderev.specs.NodeRevs.{IsNodeRev, IsRead}
use Rattle.fsfs_noderev.specs.declared.rep.Rep.{Rep}
use Rattle.fsfs_noderev.specs.declared.rep.Uniquifier.{Uniquifier}
use Rattle.fsfs_noderev.specs.declared.node_rev.NodeRev.{NodeRev}
use Rattle.fsfs_revision.specs.Rep.Frames.{text_of, RepIn}
use Rattle.fsfs_revision.specs.Nodes.{IsNodeAt, is_of_revision, is_ordered}
use Rattle.fsfs_revision.specs.Damage.Damages.{place_of}
use Rattle.fsfs_final.specs.ReadPieces.{PiecesAreRead}

node : (n : ℕ) (front text back : List ℕ) (v : NodeRev) → IsNodeRev text v → length text ≤ 65536 → is_of_revision v ≡ true → is_ordered (place_of n (length front)) v ≡ true
    → IsNodeAt (place_of n (length front)) (drop (length front) (front ++ (text ++ back))) v
node n front text back v is short of ordered =
    let at : drop (length front) (front ++ (text ++ back)) ≡ text ++ back = drop-append_seam front (text ++ back) in
    let more : 65536 ≡ length text + (65536 - length text) = omega arith in
    let parts : take 65536 (text ++ back) ≡ text ++ take (65536 - length text) back = ap (λ (k : ℕ). take k (text ++ back)) more ∙ take-append-add text back (65536 - length text) in
    let read : IsRead (take 65536 (text ++ back)) v = record { fields = is.fields; rest = take (65536 - length text) back; begins = record { front = text; text = is.text_is; parts = parts }; means = is.means } in
    ((subst (λ (x : List ℕ). IsRead (take 65536 x) v) (sym at) read, of), ordered)

module _ (r : Rep) (front text back : List ℕ) (o : r.offset ≡ length front) (l : r.length ≡ length text) (s : r.size ≡ length text) (m : r.md5.bytes ≡ md5 text) (u : r.unique ≡ None) where
  abbrev bytes : List ℕ
  bytes = front ++ (codes "PLAIN\n" ++ (text ++ (codes "ENDREP\n" ++ back)))

  head : drop r.offset bytes ≡ codes "PLAIN\n" ++ (text ++ (codes "ENDREP\n" ++ back))
  head = ap (λ (k : ℕ). drop k bytes) o ∙ drop-append_seam front (codes "PLAIN\n" ++ (text ++ (codes "ENDREP\n" ++ back)))

  behind : drop (r.offset + 6) bytes ≡ text ++ (codes "ENDREP\n" ++ back)
  behind = ap (λ (k : ℕ). drop (k + 6) bytes) o ∙ drop-append-add front (codes "PLAIN\n" ++ (text ++ (codes "ENDREP\n" ++ back))) 6

  is_text : text_of r bytes ≡ text
  is_text = ap (λ (x : List ℕ). take r.length x) behind ∙ ap (λ (k : ℕ). take k (text ++ (codes "ENDREP\n" ++ back))) l ∙ take-append_seam text (codes "ENDREP\n" ++ back)

  tail : drop (r.offset + 6 + r.length) bytes ≡ codes "ENDREP\n" ++ back
  tail =
      ap (λ (k : ℕ). drop k bytes) (let e : r.offset + 6 + r.length ≡ length front + (6 + length text) = omega (arith, o, l) in e)
      ∙ drop-append-add front (codes "PLAIN\n" ++ (text ++ (codes "ENDREP\n" ++ back))) (6 + length text)
      ∙ drop-append-add (codes "PLAIN\n") (text ++ (codes "ENDREP\n" ++ back)) (length text)
      ∙ drop-append_seam text (codes "ENDREP\n" ++ back)

  pub rep : RepIn r bytes (Ok text)
  rep = (
    sym is_text,
    record {
      framed = record {
        header = ap (λ (x : List ℕ). take 6 x) head;
        trailer = ap (λ (x : List ℕ). take 7 x) tail;
      };
      agrees = record {
        size = λ filled. s ∙ sym l;
        md5 = m ∙ ap md5 (sym is_text);
        sha1 = subst (λ (x : Option Uniquifier). IfSome x (λ y. y.sha1.bytes ≡ sha1 (text_of r bytes))) (sym u) tt;
      };
    },
  )

pub pieces_are_read : PiecesAreRead
pieces_are_read = record { node = node; rep = λ r front text back o l s m u. rep r front text back o l s m u }
