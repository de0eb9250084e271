-- Which check of a node-revision, and of a root, is the first that fails; and that each of these readings has one answer.
use Rattle.std.proofs.Common.{◌≡◌, ℕ, Bool, true, false, List, length, take, drop, refl, sym, ap, subst, ◌∙◌, inl, inr}
use Rattle.std.specs.Prelude.{Result, Ok, Err, Option, Some}
use Rattle.std.proofs.lemmas.Bool.{and_parts}
use Rattle.fsfs_revision.specs.declared.damage.RevOffset.{RevOffset}
use Rattle.fsfs_revision.specs.declared.damage.DamageKind.TheVariants as what
use Rattle.fsfs_revision.specs.declared.wrong.Wrong.{Wrong}
use Rattle.fsfs_revision.specs.declared.wrong.ReadError.{ReadError}
use Rattle.fsfs_revision.specs.declared.wrong.ReadError.TheVariants as errors
use Rattle.fsfs_revision.specs.Damage.Damages.{place_of, damaged}
use Rattle.fsfs_revision.specs.Damage.Readings.{Answers, HasOneAnswer}
use Rattle.fsfs_revision.proofs.OneAnswer.{and_then_one, judged_one}
use Rattle.fsfs_noderev.specs.NodeRevs.{IsRead}
use Rattle.fsfs_noderev.specs.declared.node_rev.NodeRev.{NodeRev}
use Rattle.fsfs_revision.specs.declared.trailer.Trailer.{Trailer}
use Rattle.fsfs_revision.specs.Trailers.{EndsWith}
use Rattle.fsfs_revision.specs.Nodes.{Holds, IsNodeAt, is_of_revision, is_ordered, is_own_place, is_directory, is_root}
use Rattle.fsfs_revision.specs.Damages.{node_checks, NodeIn, trailer_checks, TrailerIn, root_checks, AsRoot, RootAt, RootIn}

pub no_both : {A : Type 0} (b : Bool) → b ≡ true → b ≡ false → A
no_both b t f = let h : true ≡ false = sym t ∙ f in absurd cc

-- what an error says, by what it is
pub wrong_is : {X Y : Type 0} (view : X → Y) (R : Result Y Wrong → Type 0) (e : ReadError) (w : Wrong) → e ≡ errors.Wrong w → R (Err w) → Answers view R (Err e)
wrong_is {X = X} view R e w is h = subst (λ (x : ReadError). Answers view R (let r : Result X ReadError = Err x in r)) (sym is) h

-- ---- a node-revision

-- one reading at most
abbrev pub IsOne : List ℕ → Type 0
IsOne bytes = (v w : NodeRev) → IsRead (take 65536 bytes) v → IsRead (take 65536 bytes) w → v ≡ w

abbrev IsTheNode : List ℕ → NodeRev → Type 0
IsTheNode bytes n = (v : NodeRev) → IsRead (take 65536 bytes) v → n ≡ v

abbrev NodeAnswer : RevOffset → List ℕ → ReadError → Type 0
NodeAnswer at bytes e = Answers {X = NodeRev} (λ v. v) (NodeIn at bytes) (Err e)

module _ (at : RevOffset) (bytes : List ℕ) where
  pub nothing_read : (e : ReadError) → e ≡ errors.Wrong (damaged at what.NodeRev) → ((v : NodeRev) → IsRead (take 65536 bytes) v → ⊥) → NodeAnswer at bytes e
  nothing_read e is none = wrong_is (λ (v : NodeRev). v) (NodeIn at bytes) e _ is (inl (λ w. none w.0 w.1.0, refl))

  pub of_transaction : (e : ReadError) (n : NodeRev) → e ≡ errors.Wrong (damaged at what.NodeRev) → IsTheNode bytes n → is_of_revision n ≡ false → NodeAnswer at bytes e
  of_transaction e n is only not_so =
      let none : (w : (v : NodeRev) × Holds bytes v) → ⊥ = λ w. no_both (is_of_revision w.0) w.1.1 (ap is_of_revision (sym (only w.0 w.1.0)) ∙ not_so) in
      wrong_is (λ (v : NodeRev). v) (NodeIn at bytes) e _ is (inl (none, refl))

  pub not_ordered : (e : ReadError) (n : NodeRev) → e ≡ errors.Wrong (damaged at what.PlaceOrder) → IsRead (take 65536 bytes) n → IsTheNode bytes n → is_of_revision n ≡ true → is_ordered at n ≡ false → NodeAnswer at bytes e
  not_ordered e n is found only holds not_so =
      let none : (w : (v : NodeRev) × IsNodeAt at bytes v) → ⊥ = λ w. no_both (is_ordered at w.0) w.1.1 (ap (is_ordered at) (sym (only w.0 w.1.0.0)) ∙ not_so) in
      wrong_is (λ (v : NodeRev). v) (NodeIn at bytes) e _ is (inr ((n, (found, holds)), inl (none, refl)))

  pub node_in_one : IsOne bytes → HasOneAnswer (NodeIn at bytes)
  node_in_one one = judged_one (IsNodeAt at bytes) (node_checks at bytes) (λ v w a b. one v w a.0.0 b.0.0) (λ v a. ((v, a.0), ((v, a), tt)))

-- ---- a root

pub as_root_one : (at : RevOffset) (v : NodeRev) → HasOneAnswer (AsRoot at v)
as_root_one at v = judged_one (λ (root : NodeRev). (root ≡ v) × (is_root at v ≡ true)) (root_checks at v) (λ x y a b. a.0 ∙ sym b.0) (λ x a. let both = and_parts (is_own_place at v.id.place) (is_directory v.kind) a.1 in (both.0, (both.1, tt)))

pub trailer_in_one : (rev : ℕ) (bytes : List ℕ) → ((t u : Trailer) → EndsWith 0 bytes t → EndsWith 0 bytes u → t ≡ u) → HasOneAnswer (TrailerIn rev bytes)
trailer_in_one rev bytes one = judged_one (EndsWith 0 bytes) (trailer_checks rev bytes) one (λ t a. ((t, a), tt))

pub root_at_one : (at : RevOffset) (bytes : List ℕ) → IsOne bytes → HasOneAnswer (RootAt at bytes)
root_at_one at bytes one = and_then_one (NodeIn at bytes) (AsRoot at) (node_in_one at bytes one) (as_root_one at)

pub root_in_one : (rev : ℕ) (bytes : List ℕ) → ((t u : Trailer) → EndsWith 0 bytes t → EndsWith 0 bytes u → t ≡ u) → ((s : List ℕ) → IsOne s) → HasOneAnswer (RootIn rev bytes)
root_in_one rev bytes ends one =
    and_then_one (TrailerIn rev bytes) (λ t. RootAt (place_of rev t.root) (drop t.root bytes)) (trailer_in_one rev bytes ends) (λ t. root_at_one (place_of rev t.root) (drop t.root bytes) (one (drop t.root bytes)))
