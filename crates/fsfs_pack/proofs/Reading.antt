-- The floor is read, and whether a shard is full there.
use Rattle.std.proofs.Common.{◌≡◌, ◌≤◌, ◌-◌, ℕ, List, length, take, sym, ap, subst, ◌∙◌, ⊎_elim, arith}
use Rattle.std.specs.Prelude.{Option, Some, None, Result, Ok, Err, true, min, unwrap_or, MatchOption}
use Rattle.std.proofs.lemmas.List.{take_all}
use Rattle.fsfs_base.specs.declared.small_fault.SmallFault.{SmallFault}
use Rattle.fsfs_layout.specs.Layouts.{Packs}
use Rattle.fsfs_layout.specs.Small.{IsRevLine, IsMinUnpackedRev, IsMinUnpackedRevIn}
use Rattle.fsfs_layout.specs.declared.layout.Layout.{Layout}
use Rattle.fsfs_revision.proofs.FloorLemmas.{line_is_short}
use Rattle.fsfs_disk.specs.Trace.{IsRead}
use Rattle.fsfs_disk.proofs.WholeFiles.{read_bytes}
use Rattle.fsfs_machine.specs.declared.machine.Went.{Went}
use Rattle.fsfs_machine.specs.declared.machine.Went.TheVariants.{Fine, Before, After, Torn}
use Rattle.fsfs_machine.specs.Machine.{is_fine_in}
use Rattle.fsfs_turn.specs.Learning.{FloorRead}
use Rattle.fsfs_turn.specs.Past.{IsWhole}
use Rattle.fsfs_turn.specs.Views.{View, Looked}
use Rattle.fsfs_pack.specs.declared.answers.PackFault.{PackFault}
use Rattle.fsfs_pack.specs.declared.shard.Shard.{Shard}
use Rattle.fsfs_pack.specs.Packs.{ReadsFloor, LooksAt}
use Rattle.fsfs_pack.specs.Shards.{IsNoneFull, IsNoneThere, IsFull}

-- a line is read whole into 64 bytes
line_read : (text old new : List ℕ) (found : Option ℕ) (floor : ℕ) → length old ≡ 64 → IsRevLine text floor → IsRead (Some text) 0 old new found → take (unwrap_or found 0) new ≡ text
line_read text old new found floor size line read =
    let short : length text ≤ 11 = line_is_short text floor line in
    let n_is : min (length old) (length text - 0) ≡ length text = omega (arith, short, size) in
    ap (λ (o : Option ℕ). take (unwrap_or o 0) new) read.0
    ∙ ap (λ l. take (min (length old) (length text - 0)) l) read.1
    ∙ read_bytes text old 0 (min (length old) (length text - 0)) (omega arith)
    ∙ take_all (min (length old) (length text - 0)) text (omega (arith, n_is))

same_floor : (a b : ℕ) → ◌≡◌ {A = Result ℕ SmallFault} (Ok a) (Ok b) → a ≡ b
same_floor a b e = cc

-- of a layout that packs it is what is meant
floor_meant : (layout : Layout) (text : List ℕ) (floor : ℕ) → IsWhole layout floor → IsRevLine text floor → IsMinUnpackedRev layout text floor
floor_meant layout text floor whole line = subst (λ k. IsMinUnpackedRevIn k layout text floor) (sym whole.packs.format) (line, whole.place)

fine : (went : Went) (floor : ℕ) (v u : View) → is_fine_in went ≡ true → FloorRead floor went v u → FloorRead floor Fine v u
fine Before floor v u e r = absurd cc
fine After floor v u e r = absurd cc
fine (Torn any) floor v u e r = absurd cc
fine Fine floor v u e r = r

-- what `read` of turns tells of the floor
abbrev pub Told : (View → Type 0) → List ℕ → List ℕ → Option ℕ → View → Type 0
Told known old new found v = (u : View) × (went : Went) × (floor : ℕ) × (text : List ℕ) × known u × (is_fine_in went ≡ true) × FloorRead floor went v u × IsWhole v.layout floor × IsRevLine text floor × IsRead (Some text) 0 old new found

read_meant : (known : View → Type 0) (old new bytes : List ℕ) (found : Option ℕ) (layout : Layout) (v : View) → length old ≡ 64 → bytes ≡ take (unwrap_or found 0) new → layout ≡ v.layout → (t : Told known old new found v) → IsMinUnpackedRev layout bytes t.2
read_meant known old new bytes found layout v size bytes_is same t =
    subst (λ k. IsMinUnpackedRev k bytes t.2) (sym same) (subst (λ b. IsMinUnpackedRev v.layout b t.2) (sym (bytes_is ∙ line_read t.3 old new found t.2 size t.8 t.9)) (floor_meant v.layout t.3 t.2 t.7 t.8))

pub read_told : (known : View → Type 0) (old new bytes : List ℕ) (found : Option ℕ) (layout : Layout) (v : View) (result : Result ℕ SmallFault) (floor : ℕ) → length old ≡ 64 → bytes ≡ take (unwrap_or found 0) new → layout ≡ v.layout
    → ((n : ℕ) → IsMinUnpackedRev layout bytes n → result ≡ Ok n) → result ≡ Ok floor → Told known old new found v → (u : View) × known u × ReadsFloor (Ok floor) v u
read_told known old new bytes found layout v result floor size bytes_is same only is t =
    let floor_is : t.2 ≡ floor = same_floor t.2 floor (sym (only t.2 (read_meant known old new bytes found layout v size bytes_is same t)) ∙ is) in
    (t.0, t.4, subst (λ f. ReadsFloor (Ok f) v t.0) floor_is (fine t.1 t.2 v t.0 t.5 t.6, t.7))

-- so it is no fault
pub read_faultless : (known : View → Type 0) (old new bytes : List ℕ) (found : Option ℕ) (layout : Layout) (v : View) (result : Result ℕ SmallFault) (fault : SmallFault) → length old ≡ 64 → bytes ≡ take (unwrap_or found 0) new → layout ≡ v.layout
    → ((n : ℕ) → IsMinUnpackedRev layout bytes n → result ≡ Ok n) → result ≡ Err fault → Told known old new found v → ⊥
read_faultless known old new bytes found layout v result fault size bytes_is same only is t =
    let clash : ◌≡◌ {A = Result ℕ SmallFault} (Ok t.2) (Err fault) = sym (only t.2 (read_meant known old new bytes found layout v size bytes_is same t)) ∙ is in cc

-- ---- a look, and a reading of the floor

looked_layout : (young : ℕ) (v m : View) → Looked young v m → m.layout ≡ v.layout
looked_layout young v m l = ap {A = View} (λ z. z.layout) l.is

there : (o : Option Shard) (k l : Layout) (floor young : ℕ) → k ≡ l → Packs l → MatchOption o (IsNoneThere k floor young) (IsFull k floor young) → MatchOption o (IsNoneFull l floor young) (IsFull l floor young)
there None k l floor young same packs n = ⊎_elim (λ no. absurd (no (subst Packs (sym same) packs))) (λ none. subst (λ z. IsNoneFull z floor young) same none) n
there (Some x) k l floor young same packs full = subst (λ z. IsFull z floor young x) same full

pub sought : (known middle : View → Type 0) (layout : Layout) (young floor : ℕ) (shard : Option Shard) (v : View) → layout ≡ v.layout → MatchOption shard (IsNoneThere layout floor young) (IsFull layout floor young)
    → (l : (m : View) × middle m × Looked young v m) → (u : View) × known u × ReadsFloor (Ok floor) l.0 u → (u : View) × known u × LooksAt (Ok (record { youngest = young; shard = shard })) v u
sought known middle layout young floor shard v same full l r =
    let whole : IsWhole v.layout floor = subst (λ k. IsWhole k floor) (looked_layout young v l.0 l.2) r.2.1 in
    (r.0, r.1, record { middle = l.0; looked = l.2; floor = floor; read = r.2.0; whole = whole; shard = there shard layout v.layout floor young same whole.packs full })

pub unsought : (known middle : View → Type 0) (young : ℕ) (fault : PackFault) (v : View) → (l : (m : View) × middle m × Looked young v m) → (u : View) × known u × ReadsFloor (Err fault) l.0 u → (u : View) × known u × LooksAt (Err fault) v u
unsought known middle young fault v l r = (r.0, r.1, (r.2.0, young, l.0, l.2, r.2.1, r.2.2, r.2.3))
