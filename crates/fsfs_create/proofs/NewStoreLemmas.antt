-- The files of a creation are those of the new store.
use Rattle.std.proofs.Common.{◌≡◌, ℕ, List, [], inl, inr, ⊎_elim, sym, ap, subst, ◌∙◌}
use Rattle.std.specs.Prelude.{Option, Some, None, Ok, Result, codes, unwrap_or, option_map}
use Rattle.std.specs.FinMap.{get}
use Rattle.fsfs_base.specs.Files.{Files}
use Rattle.fsfs_base.specs.declared.small_fault.SmallFault.{SmallFault}
use Rattle.fsfs_base.specs.Fields.Dates.{IsDateAt}
use Rattle.fsfs_tree.specs.Revisions.{Revision}
use Rattle.fsfs_layout.specs.CreatedFiles.{created_over, identifier_text}
use Rattle.fsfs_layout.specs.Layouts.{Packs, shard_size}
use Rattle.fsfs_layout.specs.Opening.{text_at}
use Rattle.fsfs_layout.specs.Small.{IsMinUnpackedRev}
use Rattle.fsfs_layout.specs.declared.layout.Layout.{Layout}
use Rattle.fsfs_disk.specs.Trace.{Trace, files_now}
use Rattle.fsfs_disk.specs.Crash.{AllImages, Leaves, IsFirm}
use Rattle.fsfs_disk.proofs.CrashLemmas.{leaves_with}
use Rattle.fsfs_revision.proofs.FloorLemmas.{floor_is}
use Rattle.fsfs_stands.specs.Files.{StandsFor}
use Rattle.fsfs_stands.specs.NewRepository.{HoldsNew}
use Rattle.fsfs_stands.proofs.Creations.{creations_hold_new}
use Rattle.fsfs_stands.proofs.NewRepository.{new_repositories_stand, zero_floor}
use Rattle.fsfs_create.specs.Creation.{IsUnpublished, IsNoneOrWhole, IsCreated}
use Rattle.fsfs_create.specs.NewStore.{IsNewStore, IsNoneOrNew}

ok_same : {A E : Type 0} (a b : A) → ◌≡◌ {A = Result A E} (Ok a) (Ok b) → a ≡ b
ok_same a b e = cc

-- a floor has one reading
pub one_floor : (layout : Layout) (m : Files) (a b : ℕ) → IsMinUnpackedRev layout (text_at m (codes "db/min-unpacked-rev")) a → IsMinUnpackedRev layout (text_at m (codes "db/min-unpacked-rev")) b → a ≡ b
one_floor layout m a b is also = ok_same {A = ℕ} {E = SmallFault} a b (sym (floor_is layout a m is) ∙ floor_is layout b m also)

-- in a new repository it is 0
floor_zero : (m : Files) (date : List ℕ) (h : List Revision) → HoldsNew m date → (stands : StandsFor m h) → stands.opened.min_unpacked_rev ≡ 0
floor_zero m date h new stands =
    let layout = stands.opened.layout in
    let there : get m (codes "db/min-unpacked-rev") ≡ Some (codes "0\n") = new.new.1.1.1.1.1.0 in
    one_floor layout m stands.opened.min_unpacked_rev 0 stands.small.behind.min_unpacked_rev
    (subst (λ (t : List ℕ). IsMinUnpackedRev layout t 0) (sym (ap (λ (o : Option (List ℕ)). unwrap_or o []) there)) (zero_floor layout))

pub created_is_new : (layout : Layout) (moment : ℕ) (id date : List ℕ) (m : Files) → Packs layout → IsDateAt moment date → IsNewStore moment (created_over (shard_size layout) (identifier_text id) date m)
created_is_new layout moment id date m packs dated =
    let files = created_over (shard_size layout) (identifier_text id) date m in
    let new : HoldsNew files date = creations_hold_new layout moment id date m packs dated in
    record { date = date; dated = dated; stands = new_repositories_stand files date new; unpacked = floor_zero files date _ new (new_repositories_stand files date new) }

-- what is left of a creation at each moment
pub none_or_new : (layout : Layout) (moment : ℕ) (id : List ℕ) (old new : Option Trace) → Packs layout → (AllImages old IsUnpublished → Leaves old new (IsNoneOrWhole (shard_size layout) (identifier_text id) moment old)) → AllImages old IsUnpublished → Leaves old new (IsNoneOrNew moment)
none_or_new layout moment id None new packs leaves all = tt
none_or_new layout moment id (Some t) new packs leaves all =
    leaves_with (Some t) new (IsNoneOrWhole (shard_size layout) (identifier_text id) moment (Some t)) (IsNoneOrNew moment)
    (λ m h. ⊎_elim (λ none. inl none) (λ whole. inr (subst (IsNewStore moment) (sym whole.2) (created_is_new layout moment id whole.0 (files_now t) packs whole.1))) h) (leaves all)

some_is : {X : Type 0} (f : X → X) (x y : X) → ◌≡◌ {A = Option X} (Some x) (option_map f (Some y)) → x ≡ f y
some_is f x y e = cc

-- what is left of one that was done, from its last firming on
pub all_new : (layout : Layout) (moment : ℕ) (id : List ℕ) (old new : Option Trace) → Packs layout → IsCreated (shard_size layout) (identifier_text id) moment old new → IsFirm new → AllImages new (IsNewStore moment)
all_new layout moment id old None packs created firm = tt
all_new layout moment id None (Some u) packs created firm = absurd (let e : ◌≡◌ {A = Option Files} (Some (files_now u)) None = created.2 in cc)
all_new layout moment id (Some t) (Some u) packs created firm = λ m image.
    let now : files_now u ≡ created_over (shard_size layout) (identifier_text id) created.0 (files_now t) = some_is (created_over (shard_size layout) (identifier_text id) created.0) (files_now u) (files_now t) created.2 in
    subst (IsNewStore moment) (sym (firm m image ∙ now)) (created_is_new layout moment id created.0 (files_now t) packs created.1)
