-- Lists that were put as their texts.
use Rattle.std.proofs.Common.{◌≡◌, ◌+◌, ◌++◌, ℕ, List, [], length, ap, refl, subst, ◌∙◌}
use Rattle.std.specs.Prelude.{Option, Some, None, codes, option_map}
use Rattle.std.specs.declared.vec.Vec.{Vec}
use Rattle.std.specs.declared.alloc.Global.{Global}
use Rattle.fsfs_noderev.specs.declared.rep.Rep.{Rep}
use Rattle.fsfs_layout.specs.Hash.Dump.{Entries, IsDump}
use Rattle.fsfs_revision.specs.Shows.Reading.{Pairs}
use Rattle.fsfs_revision.specs.Rep.Frames.{framed_text}
use Rattle.fsfs_final.specs.Laid.{IsRepAt}
use Rattle.fsfs_final.specs.Pieces.Lists.{IsTextOf, AreTextOf, IsTextPut, IsListPut, list_of}

-- the bytes of a text, if there is one
abbrev pub text_value : Option (Vec ℕ Global) → Option (List ℕ)
text_value text = option_map (λ v. v.items) text

module _ (n start : ℕ) (old new : List ℕ) (rep : Rep) where
  list_put : (pairs : Pairs) (text : List ℕ) → IsTextOf pairs text → IsTextPut n start old new text rep → IsListPut n start old new pairs rep
  list_put pairs text t put = record {
    rev_is = put.rev_is;
    is = subst (λ (x : List ℕ). IsRepAt (start + length old) rep x) t.text_is put.is;
    dump = subst (λ (x : List ℕ). IsDump x pairs) t.text_is t.dump;
    in_order = subst (λ (x : List ℕ). Entries x pairs) t.text_is t.in_order;
    added = put.added ∙ ap (λ (x : List ℕ). old ++ framed_text x) t.text_is;
  }

  some_put : (list : Option Pairs) (text : List ℕ) → AreTextOf list (Some text) → IsTextPut n start old new text rep → IsListPut n start old new (list_of list) rep
  some_put None text are put = absurd are
  some_put (Some pairs) text are put = list_put pairs text are put

  empty_put : (list : Option Pairs) → AreTextOf list None → IsTextPut n start old new (codes "END\n") rep → IsListPut n start old new (list_of list) rep
  empty_put None are put = list_put [] (codes "END\n") (record { text_is = refl; dump = record { inner = []; inner_is = (tt, refl); value_is = refl }; in_order = (tt, refl) }) put
  empty_put (Some pairs) are put = absurd are

  -- the text that is there
  pub own_put : (list : Option Pairs) (text : Option (Vec ℕ Global)) (v : Vec ℕ Global) (bytes : List ℕ) → text ≡ Some v → bytes ≡ v.items → AreTextOf list (text_value text) → IsTextPut n start old new bytes rep → IsListPut n start old new (list_of list) rep
  own_put list text v bytes there is are put =
      some_put list v.items (subst (λ (o : Option (Vec ℕ Global)). AreTextOf list (text_value o)) there are) (subst (λ (x : List ℕ). IsTextPut n start old new x rep) is put)

  -- there is none
  pub none_put : (list : Option Pairs) (text : Option (Vec ℕ Global)) → text ≡ None → AreTextOf list (text_value text) → IsTextPut n start old new (codes "END\n") rep → IsListPut n start old new (list_of list) rep
  none_put list text none are put = empty_put list (subst (λ (o : Option (Vec ℕ Global)). AreTextOf list (text_value o)) none are) put
