-- Clauses on one outcome of a call, from a fact that holds at each.
use Rattle.std.proofs.Common.{◌≡◌, false, refl, subst, sym, ◌∙◌}
use Rattle.std.specs.Prelude.{Option, Some, None, is_some, Result, Ok, Err, OnErr, IfErr, OnOk, IfOk, IfSome, IfNone}

pub on_err_always : {T E P : Type 0} (r : Result T E) → P → OnErr r P
on_err_always (Ok x) p = tt
on_err_always (Err e) p = p

pub none_of : {A : Type 0} (o : Option A) → is_some o ≡ false → o ≡ None
none_of None e = refl
none_of (Some x) e = absurd cc

pub if_ok : {X E : Type 0} (r : Result X E) (x : X) (P : X → Type 0) → r ≡ Ok x → IfOk r P → P x
if_ok r x P e w = subst (λ z. IfOk z P) e w

pub if_err : {X E : Type 0} (r : Result X E) (x : E) (P : E → Type 0) → r ≡ Err x → IfErr r P → P x
if_err r x P e w = subst (λ z. IfErr z P) e w

pub on_ok : {X E : Type 0} (r : Result X E) (x : X) (P : Type 0) → r ≡ Ok x → OnOk r P → P
on_ok r x P e w = subst (λ z. OnOk z P) e w

pub on_err : {X E : Type 0} (r : Result X E) (x : E) (P : Type 0) → r ≡ Err x → OnErr r P → P
on_err r x P e w = subst (λ z. OnErr z P) e w

pub some_all : {X : Type 0} (o : Option X) (P : Type 0) → P → IfSome o (λ x. P)
some_all None P h = tt
some_all (Some x) P h = h

pub none_from : {X : Type 0} (o : Option X) (P : Type 0) → (o ≡ None → P) → IfNone o P
none_from None P h = h (λ i. None)
none_from (Some x) P h = tt

pub not_none : {A B : Type 0} (o : Option A) (x : A) → o ≡ Some x → o ≡ None → B
not_none o x h g = let e = sym h ∙ g in absurd cc
