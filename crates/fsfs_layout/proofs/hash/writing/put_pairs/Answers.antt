use Rattle.std.proofs.Common.{◌≡◌, ◌++◌, ◌∷◌, [], refl, sym, ap, subst, ◌∙◌, append_assoc, List, ℕ, map, rules}
use Rattle.std.specs.List.{flat_map}
use Rattle.std.specs.Map.Iter.{deref_pair}
use Rattle.std.proofs.lemmas.List.{append-nil}
use Rattle.std.proofs.lemmas.Map.Iter.{rest_more, rest_all}
use Rattle.fsfs_base.proofs.Readers.{appends_then, appends_mapped}
use Rattle.fsfs_layout.specs.Hash.Dump.{Entries, Pair, pair_text}
use Rattle.fsfs_layout.proofs.PutPairs.{pair_of}
use Rattle.fsfs_layout.proofs.OneText.{pair_one, entries_one}
use Rattle.fsfs_layout.proofs.hash.writing.put_pairs.Goals as goal

pub loop-key-init : goal.loop-key-init
loop-key-init c =
    let all : map pair_of c.into_iter-key-iterator.result ≡ c.args.pairs.now = search rules in
    record {
      done = [];
      put = sym (append-nil c.args.out.now.items);
      text = ap (flat_map pair_text) all;
      entries = λ tail w. subst (λ (ps : List (List ℕ × List ℕ)). Entries tail ps) all w;
    }

pub loop-key-preserved : goal.loop-key-preserved
loop-key-preserved c =
    let inv = c.loop-key.invariant in
    let a = appends_then c.in_ok-put_field.ensures (appends_mapped (λ (v : List ℕ). (c.deref.result.now, v)) c.in_ok-put_field-2.ensures) in
    let left : c.loop-key.key-iterator ≡ (c.in-Some.key.now, c.in-Some.value.now) ∷ c.next.new.self = rest_more deref_pair c.loop-key.key-iterator c.next.new.self c.next.result (c.in-Some.key, c.in-Some.value) c.in-Some.is c.next.ensures.steps in
    let pair : (c.deref.result.now, c.deref-in-loop-key.result.now) ≡ pair_of (c.in-Some.key.now, c.in-Some.value.now) = rw (c.deref.ensures.value, c.deref-in-loop-key.ensures.value) refl in
    let entry : Pair a.text (pair_of (c.in-Some.key.now, c.in-Some.value.now)) = subst (λ (p : List ℕ × List ℕ). Pair a.text p) pair a.text_is in
    let one : a.text ≡ pair_text (pair_of (c.in-Some.key.now, c.in-Some.value.now)) = pair_one a.text (pair_of (c.in-Some.key.now, c.in-Some.value.now)) entry in
    let rest : List (List ℕ × List ℕ) = map pair_of c.next.new.self in
    let parts = ap (λ (t : List ℕ). inv.done ++ (t ++ flat_map pair_text rest)) one in
    record {
      done = inv.done ++ a.text;
      put = a.parts ∙ ap (λ (t : List ℕ). t ++ a.text) inv.put ∙ append_assoc c.args.out.now.items inv.done a.text;
      text = append_assoc inv.done a.text (flat_map pair_text rest) ∙ parts ∙ ap (λ (es : List _). inv.done ++ flat_map pair_text (map pair_of es)) (sym left) ∙ inv.text;
      entries = λ tail w.
          (let more : Entries (a.text ++ tail) (map pair_of c.loop-key.key-iterator) = rw left (a.text, tail, entry, w, refl) in
          subst (λ (t : List ℕ). Entries t c.args.pairs.now) (sym (append_assoc inv.done a.text tail)) (inv.entries (a.text ++ tail) more));
    }

pub returns : goal.returns
returns c =
    let inv = c.loop-key.invariant in
    let none : c.loop-key.key-iterator ≡ [] = rest_all deref_pair c.loop-key.key-iterator c.next.new.self c.next.result c.in-None.is c.next.ensures.steps in
    let last : Entries (69 ∷ 78 ∷ 68 ∷ 10 ∷ []) (map pair_of c.loop-key.key-iterator) = rw none (tt, refl) in
    let whole = inv.entries (69 ∷ 78 ∷ 68 ∷ 10 ∷ []) last in
    let all : inv.done ≡ flat_map pair_text c.args.pairs.now = sym (append-nil inv.done) ∙ ap (λ (es : List _). inv.done ++ flat_map pair_text (map pair_of es)) (sym none) ∙ inv.text in
    record {
      text = inv.put ∙ ap (λ (t : List ℕ). c.args.out.now.items ++ t) all;
      entries = subst (λ (t : List ℕ). Entries t c.args.pairs.now) (entries_one _ c.args.pairs.now whole) whole;
    }
