-- The label of a pack's bench comes and goes, so that none is more.
use Rattle.std.proofs.Common.{◌≡◌, ◌≤◌, ℕ, List, Bool, inl, inr, ⊎_elim, refl, sym, ap, subst, ◌∙◌, arith}
use Rattle.std.specs.Prelude.{Option, Some, None, Result, Ok, Err, IfOk, option_map}
use Rattle.fsfs_base.specs.Failures.{HasCause, Rose}
use Rattle.fsfs_disk.specs.Labels.{Label, AreLeft, with_label, without_label}
use Rattle.fsfs_disk.proofs.LabelLemmas.{without-AreLeft, without-with}
use Rattle.fsfs_turn.specs.Labels.{Drops, KeepsLabels, Relabels}
use Rattle.fsfs_pack.specs.Packs.{IsTidy, NoneCame, Unlists}

pub tidy_same : (bound : Bool) (rose : Type 0) (old new : Option (List Label)) → KeepsLabels bound old new → IsTidy bound rose old new
tidy_same bound rose old new k = λ free. inl (λ now is. (now, sym (k free) ∙ is, λ l has. has))

pub tidy_then : (bound next : Bool) (a b c : ℕ) (old middle new : Option (List Label)) → next ≡ bound → a ≤ b → b ≤ c → IsTidy bound (Rose a b) old middle → IsTidy next (Rose b c) middle new → IsTidy bound (Rose a c) old new
tidy_then bound next a b c old middle new same le more first second = λ free. ⊎_elim
    (λ (one : NoneCame old middle). ⊎_elim
    (λ (two : NoneCame middle new). inl (λ now is. let m = two now is in let o = one m.0 m.1 in (o.0, o.1, λ l has. o.2 l (m.2 l has))))
    (λ (rose : Rose b c). inr (omega (arith, rose, le))) (second (same ∙ free)))
    (λ (rose : Rose a b). inr (omega (arith, rose, more))) (first free)

-- some call of the disk failed
pub tidy_rose : (bound : Bool) (a b c : ℕ) (old new : Option (List Label)) → Rose a b → b ≤ c → IsTidy bound (Rose a c) old new
tidy_rose bound a b c old new rose le = λ free. inr (omega (arith, rose, le))

none_came : (l : Label) (old new : Option (List Label)) → new ≡ option_map (without_label l) (option_map (with_label l) old) → NoneCame old new
none_came l None new is = λ now at. let clash : ◌≡◌ {A = Option (List Label)} None (Some now) = sym is ∙ at in absurd cc
none_came l (Some was) new is = λ now at.
    let both : ◌≡◌ {A = Option (List Label)} (Some (without_label l (with_label l was))) (Some now) = sym is ∙ at in
    let left : without_label l (with_label l was) ≡ now = cc in
    (was, refl, subst (λ ls. AreLeft was ls) (sym (without-with l was) ∙ left) (without-AreLeft l was))

-- it came, and went
pub tidy_made : (bound next : Bool) (label : Label) (a b c : ℕ) (old middle new : Option (List Label)) → next ≡ bound → a ≤ b → Relabels bound (with_label label) old middle → Unlists next label (Rose b c) middle new → IsTidy bound (Rose a c) old new
tidy_made bound next label a b c old middle new same le made gone = λ free. ⊎_elim
    (λ (is : new ≡ option_map (without_label label) middle). inl (none_came label old new (is ∙ ap (option_map (without_label label)) (made.made ∙ ap (option_map (with_label label)) (made.is_met free)))))
    (λ (rose : Rose b c). inr (omega (arith, rose, le))) (gone (same ∙ free))

-- the bench was dropped, or that failed
pub unlists : {E : Type 0} (result : Result Bool E) (bound next : Bool) (label : Label) (a b c : ℕ) (old middle new : Option (List Label)) → next ≡ bound → a ≤ b → KeepsLabels bound old middle → IfOk result (λ there. Drops next label there middle new) → HasCause b c result
    → Unlists bound label (Rose a c) old new
unlists (Ok there) bound next label a b c old middle new same le keeps dropped cause = λ free. inl (dropped.made ∙ ap (option_map (without_label label)) (dropped.is_met (same ∙ free) ∙ keeps free))
unlists (Err e) bound next label a b c old middle new same le keeps dropped cause = λ free. inr (let rose = cause.failed in omega (arith, rose, le))
