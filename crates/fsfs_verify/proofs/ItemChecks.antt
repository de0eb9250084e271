-- An item against what the tree names at its path.
use Rattle.std.proofs.Common.{◌≡◌, ◌≤◌, ◌<◌, ◌⊎◌, ℕ, Bool, true, false, refl, sym, ap, subst, ◌∙◌, inl, inr, nat_lt, arith}
use Rattle.std.specs.Prelude.{◌≢◌, nat_le, is_some, Option, Some, None, Result, Ok, Err}
use Rattle.std.proofs.lemmas.Bool.{and_from, and_parts}
use Rattle.std.proofs.lemmas.Bool.Decides.{nat_tests}
use Rattle.std.specs.Borrow.{Bor}
use Rattle.std.specs.Option.{option_copied, option_map}
use Rattle.fsfs_base.specs.declared.action.Action.{Action}
use Rattle.fsfs_base.specs.declared.action.Action.TheVariants.{Delete}
use Rattle.fsfs_base.specs.declared.kind.Kind.{Kind}
use Rattle.fsfs_noderev.specs.declared.node_id.NodeId.{NodeId}
use Rattle.fsfs_noderev.specs.declared.node_rev.NodeRev.{NodeRev}
use Rattle.fsfs_noderev.specs.declared.changes.item.ChangeItem.{ChangeItem}
use Rattle.fsfs_revision.specs.Told.{RevisionBytes}
use Rattle.fsfs_revision.specs.declared.damage.DamageKind.TheVariants as what
use Rattle.fsfs_revision.specs.declared.wrong.Wrong.{Wrong}
use Rattle.fsfs_revision.specs.Damage.Damages.{place_of, damaged}
use Rattle.fsfs_revision.specs.Nodes.{is_revision_id}
use Rattle.fsfs_revision.specs.Shows.Reading.{OfId, Met, Stands, Lacking, Blocked, MetAt, StandsAt}
use Rattle.fsfs_revision.proofs.OneWalk.{met_same}
use Rattle.fsfs_revision.proofs.Roots.{is_less, is_not_less}
use Rattle.fsfs_stands.specs.Changes.{FitsTree}
use Rattle.fsfs_stands.specs.ChangedTexts.{is_nameable}
use Rattle.fsfs_sound.specs.Damaged.{BeginsAt, IsDamaged, AtPath, KindOf, Later, Unfit}
use Rattle.fsfs_sound.specs.Revisions.{NamesAt, IsSoundItem}
use Rattle.fsfs_sound.specs.Revisions as names
use Rattle.fsfs_sound.specs.Written.{rev_of_id}
use Rattle.fsfs_verify.specs.ItemFaults.{FitsThere, id_met, IsOfLater, IsFalseItem, IsWrongKind, HasKindOf, IsWrongAt, IsTold}
use Rattle.fsfs_verify.specs.ReadDirs.{IsNamedAt}

-- what a reference to an id tells
pub through_ids : (o : Option (Bor NodeId)) → option_map {U = NodeId} (λ id. id.now) o ≡ option_copied o
through_ids None = refl
through_ids (Some id) = refl

module _ (item : ChangeItem) where
  pub fits_gone : item.action ≡ Delete → FitsThere item None
  fits_gone is = record { gone = λ same. refl; there = λ other. absurd (other is) }

  pub not_gone : (id : NodeId) → item.action ≡ Delete → FitsThere item (Some id) → ⊥
  not_gone id is fit = let e : (let o : Option NodeId = Some id in o) ≡ None = fit.gone is in cc

  pub fits_there : (id : NodeId) → (item.action ≡ Delete → ⊥) → (is_revision_id item.id ≡ true → item.id ≡ id) → FitsThere item (Some id)
  fits_there id other same = record { gone = λ is. absurd (other is); there = λ more. (id, refl, same) }

  pub not_there : (item.action ≡ Delete → ⊥) → FitsThere item None → ⊥
  not_there other fit = let t = fit.there other in let e : (let o : Option NodeId = None in o) ≡ Some t.0 = t.1 in cc

  pub not_that : (id : NodeId) → (item.action ≡ Delete → ⊥) → (is_revision_id item.id ≡ true) × (item.id ≡ id → ⊥) → FitsThere item (Some id) → ⊥
  not_that id other apart fit =
      let t = fit.there other in
      let e : (let o : Option NodeId = Some id in o) ≡ Some t.0 = t.1 in
      let one : id ≡ t.0 = cc in
      apart.1 (t.2 apart.0 ∙ sym one)

-- ---- the kind

-- an id that the revision could name is of no later one
pub nameable_le : (rev : ℕ) (id : NodeId) → is_nameable rev id ≡ true → rev_of_id id ≤ rev
nameable_le rev id e =
    let two = and_parts (is_revision_id id) (nat_le (rev_of_id id) rev) e in
    let le : nat_le (rev_of_id id) rev ≡ true = two.1 in
    grind (arith, nat_tests)

pub nameable_from : (rev : ℕ) (id : NodeId) → is_revision_id id ≡ true → rev_of_id id ≤ rev → is_nameable rev id ≡ true
nameable_from rev id lasting le = and_from (is_revision_id id) (nat_le (rev_of_id id) rev) lasting (grind (arith, nat_tests))

module _ (look : RevisionBytes) (rev : ℕ) (item : ChangeItem) where
  pub kind_said : is_some item.kind ≡ true → HasKindOf look rev item
  kind_said some none lasting le = absurd (let e : false ≡ true = ap is_some (sym none) ∙ some in cc)

  pub kind_unnamed : is_nameable rev item.id ≡ false → HasKindOf look rev item
  kind_unnamed differ none lasting le = absurd (let e : true ≡ false = sym (nameable_from rev item.id lasting le) ∙ differ in cc)

  pub kind_named : (u : NodeRev) → OfId look item.id (Ok u) → HasKindOf look rev item
  kind_named u of none lasting le = (u, of)

  none_of : (o : Option Kind) → is_some o ≡ false → o ≡ None
  none_of None e = refl
  none_of (Some kind) e = absurd cc

  pub kind_wrong : is_some item.kind ≡ false → is_nameable rev item.id ≡ true → (w : Wrong) → OfId look item.id (Err w) → IsWrongKind look rev item w
  kind_wrong none nameable w broken =
      let both = and_parts (is_revision_id item.id) (nat_le (rev_of_id item.id) rev) nameable in
      (none_of item.kind none, both.0, nameable_le rev item.id nameable, broken)

-- ---- against the tree

module _ (look : RevisionBytes) (r : ℕ) (item : ChangeItem) where
  -- what the tree names there is what the item says
  pub sound_item : (found : Option NodeId) → IsNamedAt look r item.path found → FitsThere item found → HasKindOf look r item → (IsOfLater r item → ⊥) → IsSoundItem look r item
  sound_item found named fit kind early = record {
    gone = λ is. by found (fit.gone is) named;
    there = λ other. at found named (fit.there other);
    kind = λ none lasting. (let le = not_later none lasting in let k = kind none lasting le in (le, k.0, k.1));
  }
    where
      by : (o : Option NodeId) → o ≡ None → IsNamedAt look r item.path o → (v : NodeRev) → StandsAt look r item.path v → ⊥
      by None is nothing = nothing
      by (Some id) is there = absurd cc

      at : (o : Option NodeId) → IsNamedAt look r item.path o → (id : NodeId) × (o ≡ Some id) × (is_revision_id item.id ≡ true → item.id ≡ id) → (id : NodeId) × NamesAt look r item.path id × (is_revision_id item.id ≡ true → item.id ≡ id)
      at None nothing t = absurd (let e = t.1 in cc)
      at (Some id) there t = let one : id ≡ t.0 = (let e = t.1 in cc) in (t.0, subst (λ (x : NodeId). NamesAt look r item.path x) one there, t.2)

      not_later : item.kind ≡ None → is_revision_id item.id ≡ true → rev_of_id item.id ≤ r
      not_later none lasting = less (nat_lt r (rev_of_id item.id)) refl
        where
          less : (b : Bool) → nat_lt r (rev_of_id item.id) ≡ b → rev_of_id item.id ≤ r
          less true e = absurd (early (record { kind = none; lasting = lasting; later = is_less r (rev_of_id item.id) e }))
          less false e = is_not_less r (rev_of_id item.id) e

  -- what is met there
  pub named_met : (met : Met) → MetAt look r item.path (Ok met) → IsNamedAt look r item.path (id_met met)
  named_met (Stands v) at = names.There item.path v at
  named_met (Lacking n) at = λ v there. (let e = met_same look r item.path (Lacking n) (Stands v) at there in cc)
  named_met (Blocked n) at = λ v there. (let e = met_same look r item.path (Blocked n) (Stands v) at there in cc)

  pub met_fits : (met : Met) → MetAt look r item.path (Ok met) → FitsTree look r item → FitsThere item (id_met met)
  met_fits (Stands v) at fit = record {
    gone = λ is. absurd (fit.gone is v at);
    there = λ other. (let t = fit.there other in let e = met_same look r item.path (Stands v) (Stands t.0) at t.1 in let same : v ≡ t.0 = cc in (v.id, refl, λ lasting. t.2 lasting ∙ ap (λ (x : NodeRev). x.id) (sym same)));
  }
  met_fits (Lacking n) at fit = record { gone = λ is. refl; there = λ other. (let t = fit.there other in let e = met_same look r item.path (Lacking n) (Stands t.0) at t.1 in absurd cc) }
  met_fits (Blocked n) at fit = record { gone = λ is. refl; there = λ other. (let t = fit.there other in let e = met_same look r item.path (Blocked n) (Stands t.0) at t.1 in absurd cc) }

  pub false_item : (met : Met) → MetAt look r item.path (Ok met) → (FitsThere item (id_met met) → ⊥) → IsFalseItem look r item
  false_item met at never = inr (λ fit. never (met_fits met at fit))

  pub told_either : (b : Bool) → (b ≡ true → IsSoundItem look r item) → (b ≡ false → IsFalseItem look r item) → IsTold look r item b
  told_either true so other = so refl
  told_either false so other = other refl

  -- ---- what is wrong

  module _ (props : RevisionBytes) (at : ℕ) (begins : BeginsAt look r item at) where
    pub false_damaged : IsFalseItem look r item → IsDamaged look props r (damaged (place_of r at) what.ChangePath)
    false_damaged (inl later) = Later item at begins later.kind later.lasting later.later
    false_damaged (inr unfit) = Unfit item at begins unfit

    pub wrong_damaged : (w : Wrong) → IsWrongAt look r item w → IsDamaged look props r w
    wrong_damaged w (inl k) = KindOf item at w begins k.0 k.1 k.2 k.3
    wrong_damaged w (inr met) = AtPath r item.path w (omega arith) met
