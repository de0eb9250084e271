-- The parts that were brought up, with one more, and from one revision to the next.
use Rattle.std.proofs.Common.{◌≡◌, ◌≤◌, ◌⊎◌, ◌↔◌, ◌+◌, ◌++◌, ℕ, Bool, true, false, List, [], ◌∷◌, refl, sym, ap, subst, ◌∙◌, inl, inr, arith}
use Rattle.std.specs.Prelude.{◌==◌, ◌&&◌, ◌||◌, not, Contains}
use Rattle.std.proofs.lemmas.Bool.Decides.{nat_tests}
use Rattle.std.proofs.lemmas.List.Elements.{Contains-append_left, Contains-push, Contains-push_cases}
use Rattle.fsfs_base.specs.declared.grammar.base36.B36.{B36}
use Rattle.fsfs_base.proofs.Base36Texts.{b36_same}
use Rattle.fsfs_noderev.specs.declared.node_id.Part.{Part}
use Rattle.fsfs_noderev.specs.declared.node_id.Part.TheVariants.{New, Old, Made}
use Rattle.fsfs_revision.specs.Nodes.{is_lasting_part}
use Rattle.fsfs_revision.specs.Shows.IdRules.{HasSuffix}
use Rattle.fsfs_dag.proofs.IdLemmas.{equal, itself}
use Rattle.fsfs_verify.specs.Brought.{HoldsList, Brought}
use Rattle.fsfs_verify.specs.PartSets.{holds, same_number, is_old}
use Rattle.fsfs_verify.specs.declared.numbers.PartSet.{PartSet}
use Rattle.fsfs_verify.specs.declared.parts.Parts.{Parts}

-- two parts that one revision may bring up are one where their numbers are
number_same : (rev : ℕ) (a b : Part) → HasSuffix rev a → HasSuffix rev b → same_number a b ≡ true → a ≡ b
number_same rev (New m) b x y e = absurd cc
number_same rev (Old m) (New n) x y e = absurd cc
number_same rev (Old m) (Old n) x y e = ap (λ (z : B36). Old z) (b36_same m n (equal m.number n.number e))
number_same rev (Old m) (Made n made) x y e = absurd cc
number_same rev (Made m made) (New n) x y e = absurd cc
number_same rev (Made m made) (Old n) x y e = absurd cc
number_same rev (Made m made) (Made n other) x y e =
    let number = b36_same m n (equal m.number n.number e) in
    let revision : made ≡ other = x ∙ sym y in
    λ i. Made (number i) (revision i)

number_self : (a : Part) → is_lasting_part a ≡ true → same_number a a ≡ true
number_self (New m) l = absurd cc
number_self (Old m) l = itself m.number
number_self (Made m made) l = itself m.number

or_cases : (a b : Bool) → (a || b) ≡ true → (a ≡ true) ⊎ (b ≡ true)
or_cases true b e = inl refl
or_cases false b e = inr e

or_first : (a b : Bool) → a ≡ true → (a || b) ≡ true
or_first true b e = refl
or_first false b e = absurd cc

or_second : (a b : Bool) → b ≡ true → (a || b) ≡ true
or_second true b e = refl
or_second false b e = e

module _ (rev : ℕ) (set : PartSet) (parts : List Part) (held : HoldsList rev set parts) where
  -- one more
  pub holds_put : (new : PartSet) (part : Part) → is_lasting_part part ≡ true → HasSuffix rev part → ((other : Part) → holds new other ≡ (same_number part other || holds set other)) → HoldsList rev new (parts ++ part ∷ [])
  holds_put new part lasting suffix put = record {
    held = λ p l s. (to p l s, back p l s);
    up_to = λ p c. up p (Contains-push_cases parts part p c);
  }
    where
      to : (p : Part) → is_lasting_part p ≡ true → HasSuffix rev p → holds new p ≡ true → Contains (parts ++ part ∷ []) p
      to p l s e = by (or_cases (same_number part p) (holds set p) (sym (put p) ∙ e))
        where
          by : (same_number part p ≡ true) ⊎ (holds set p ≡ true) → Contains (parts ++ part ∷ []) p
          by (inl same) = subst (λ (q : Part). Contains (parts ++ part ∷ []) q) (number_same rev part p suffix s same) (Contains-push parts part)
          by (inr old) = Contains-append_left parts (part ∷ []) p ((held.held p l s).0 old)

      back : (p : Part) → is_lasting_part p ≡ true → HasSuffix rev p → Contains (parts ++ part ∷ []) p → holds new p ≡ true
      back p l s c = put p ∙ by (Contains-push_cases parts part p c)
        where
          by : Contains parts p ⊎ (part ≡ p) → (same_number part p || holds set p) ≡ true
          by (inl there) = or_second (same_number part p) (holds set p) ((held.held p l s).1 there)
          by (inr same) = or_first (same_number part p) (holds set p) (subst (λ (q : Part). same_number part q ≡ true) same (number_self part lasting))

      up : (p : Part) → Contains parts p ⊎ (part ≡ p) → (s : ℕ) × (s ≤ rev) × HasSuffix s p
      up p (inl there) = held.up_to p there
      up p (inr same) = (rev, omega arith, subst (λ (q : Part). HasSuffix rev q) same suffix)

  -- what the set doesn't hold isn't in the list, and the other way round
  pub holds_none : (part : Part) → is_lasting_part part ≡ true → HasSuffix rev part → holds set part ≡ false → Contains parts part → ⊥
  holds_none part lasting suffix none there = let e : true ≡ false = sym ((held.held part lasting suffix).1 there) ∙ none in cc

  pub holds_some : (part : Part) → is_lasting_part part ≡ true → HasSuffix rev part → holds set part ≡ true → Contains parts part
  holds_some part lasting suffix some = (held.held part lasting suffix).0 some

  -- from one revision to the next
  pub holds_next : (new : PartSet) → ((part : Part) → holds new part ≡ (is_old part && holds set part)) → HoldsList (rev + 1) new parts
  holds_next new ended = record {
    held = λ p l s. (by p l s (ended p));
    up_to = λ p c. (let u = held.up_to p c in let le = u.1 in (u.0, omega (arith, le), u.2));
  }
    where
      by : (p : Part) → is_lasting_part p ≡ true → HasSuffix (rev + 1) p → holds new p ≡ (is_old p && holds set p) → (holds new p ≡ true) ↔ Contains parts p
      by (New n) l s e = absurd cc
      by (Old n) l s e = (λ h. (held.held (Old n) l tt).0 (sym e ∙ h), λ c. e ∙ (held.held (Old n) l tt).1 c)
      by (Made n made) l s e = (λ h. absurd (let f : false ≡ true = sym e ∙ h in cc), λ c. absurd (let u = held.up_to (Made n made) c in let le = u.1 in let is = u.2 in omega (arith, le, is, s)))

pub brought_next : (rev : ℕ) (parts new : Parts) (a b c : List Part) → Brought rev parts a b c
    → ((part : Part) → holds new.begun part ≡ (is_old part && holds parts.begun part)) → ((part : Part) → holds new.copied part ≡ (is_old part && holds parts.copied part)) → ((part : Part) → holds new.drawn part ≡ (is_old part && holds parts.drawn part))
    → Brought (rev + 1) new a b c
brought_next rev parts new a b c held x y z = record { begun = holds_next rev parts.begun a held.begun new.begun x; copied = holds_next rev parts.copied b held.copied new.copied y; drawn = holds_next rev parts.drawn c held.drawn new.drawn z }

-- a set answers that a part is new where it doesn't hold it
pub put_new : (first had : Bool) → first ≡ not had → first ≡ true → had ≡ false
put_new first true is e = absurd (let f : false ≡ true = sym is ∙ e in cc)
put_new first false is e = refl
