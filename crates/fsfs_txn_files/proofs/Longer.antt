-- A representation in a file that got longer, and one that was put at its end.
use Rattle.std.proofs.Common.{◌≡◌, ◌≤◌, ◌+◌, ◌-◌, ℕ, min, List, length, take, drop, ◌++◌, Option, refl, sym, ap, subst, ◌∙◌, arith}
use Rattle.std.specs.Prelude.{IfSome, codes}
use Rattle.std.proofs.Math.Seq.{take-append_seam, drop-append_seam, drop-append-add}
use Rattle.std.proofs.lemmas.List.{length-take, length-drop, take-append-le, drop-append-le}
use Rattle.sha1.specs.Sha1.{sha1}
use Rattle.fsfs_base.specs.declared.fields.txn_name.TxnName.{TxnName}
use Rattle.fsfs_base.specs.declared.grammar.base36.B36.{B36}
use Rattle.fsfs_noderev.specs.declared.rep.Rep.{Rep}
use Rattle.fsfs_noderev.specs.declared.rep.Uniquifier.{Uniquifier}
use Rattle.fsfs_revision.specs.Rep.Headers.{StandsAt, HasPlainLine}
use Rattle.fsfs_revision.specs.Rep.Frames.{text_of, HasTrailer, Agrees, framed_text}
use Rattle.fsfs_txn_files.specs.ProtoRev.Reps.{IsRepOf}
use Rattle.fsfs_txn_files.specs.ProtoRev.Laws.{TextsAreRead, TextsStay}

-- what stands in a file doesn't stand beyond its end
inside : (n at k : ℕ) (text bytes : List ℕ) → length text ≡ n → n ≡ k + 1 → StandsAt text at bytes → at + n ≤ length bytes
inside n at k text bytes long some stands =
    let e : min (length text) (length bytes - at) ≡ length text = sym (length-take (length text) (drop at bytes) ∙ ap (λ m. min (length text) m) (length-drop at bytes)) ∙ ap (λ (t : List ℕ). length t) stands in
    omega (arith, e, long, some)

-- a part of the file is the same part of the longer file
same_part : (n at : ℕ) (bytes more : List ℕ) → at + n ≤ length bytes → take n (drop at (bytes ++ more)) ≡ take n (drop at bytes)
same_part n at bytes more le =
    ap (λ (t : List ℕ). take n t) (drop-append-le at bytes more (omega (arith, le)))
    ∙ take-append-le n (drop at bytes) more (let e = length-drop at bytes in omega (arith, le, e))

pub stays : TextsStay
stays rep bytes more text h = (
  h.0 ∙ sym same,
  record {
    framed = record { header = same_part 6 rep.offset bytes more (omega (arith, all)) ∙ h.1.framed.header; trailer = same_part 7 (rep.offset + 6 + rep.length) bytes more all ∙ h.1.framed.trailer };
    agrees = subst (λ (t : List ℕ). Agrees rep t) (sym same) h.1.agrees;
  },
)
  where
    all : rep.offset + 6 + rep.length + 7 ≤ length bytes
    all = inside 7 (rep.offset + 6 + rep.length) 6 (codes "ENDREP\n") bytes refl refl h.1.framed.trailer

    same : text_of rep (bytes ++ more) ≡ text_of rep bytes
    same = same_part rep.length (rep.offset + 6) bytes more (omega (arith, all))

module _ (rep : Rep) (proto text : List ℕ) (txn : TxnName) (number : B36) (is : IsRepOf rep (length proto) text txn number) where
  abbrev whole : List ℕ
  whole = proto ++ framed_text text

  header : HasPlainLine rep.offset whole
  header = ap (λ n. take 6 (drop n whole)) is.offset_is ∙ ap (λ (t : List ℕ). take 6 t) (drop-append_seam proto (framed_text text)) ∙ take-append_seam (codes "PLAIN\n") (text ++ codes "ENDREP\n")

  there : text_of rep whole ≡ text
  there =
      (λ i. take (is.length_is i) (drop (is.offset_is i + 6) whole))
      ∙ ap (λ (t : List ℕ). take (length text) t) (drop-append-add proto (framed_text text) 6 ∙ drop-append_seam (codes "PLAIN\n") (text ++ codes "ENDREP\n"))
      ∙ take-append_seam text (codes "ENDREP\n")

  trailer : HasTrailer rep whole
  trailer =
      ap (λ n. take 7 (drop n whole)) (let e : rep.offset + 6 + rep.length ≡ length proto + (6 + length text) = omega (arith, is.offset_is, is.length_is) in e)
      ∙ ap (λ (t : List ℕ). take 7 t) (drop-append-add proto (framed_text text) (6 + length text) ∙ drop-append-add (codes "PLAIN\n") (text ++ codes "ENDREP\n") (length text) ∙ drop-append_seam text (codes "ENDREP\n"))

  agrees : Agrees rep text
  agrees = record {
    size = λ some. is.size ∙ sym is.length_is;
    md5 = is.md5_is;
    sha1 = subst (λ (o : Option Uniquifier). IfSome o (λ u. u.sha1.bytes ≡ sha1 text)) (sym is.unique_is) is.sha1_is;
  }

pub read : TextsAreRead
read rep proto text txn number is = (
  sym (there rep proto text txn number is),
  record {
    framed = record { header = header rep proto text txn number is; trailer = trailer rep proto text txn number is };
    agrees = subst (λ (t : List ℕ). Agrees rep t) (sym (there rep proto text txn number is)) (agrees rep proto text txn number is);
  },
)
