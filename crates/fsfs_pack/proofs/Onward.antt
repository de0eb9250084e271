-- Shards that are packed one behind another.
use Rattle.std.proofs.Common.{◌≡◌, ◌<◌, ◌≤◌, ◌+◌, ◌*◌, ◌/◌, ◌%◌, ℕ, suc, length, true, inr, ⊎_elim, sym, ap, subst, ◌∙◌, arith}
use Rattle.std.specs.Prelude.{◌^◌, Some, Result, Ok, Err, IfOk, min}
use Rattle.std.proofs.Math.Nat.{mul-le-mul_left}
use Rattle.std.proofs.lemmas.Nat.{div-add-mod', mod-mul-add}
use Rattle.fsfs_base.specs.Fields.RevNums.{last_rev}
use Rattle.fsfs_layout.specs.Layouts.{Packs, shard_size, place_in_shard}
use Rattle.fsfs_layout.specs.declared.layout.Layout.{Layout}
use Rattle.fsfs_layout.proofs.Manifests.{size_some}
use Rattle.fsfs_machine.specs.declared.machine.Section.TheVariants.{Packed}
use Rattle.fsfs_turn.specs.Alone.{BringsNoDoubt}
use Rattle.fsfs_turn.specs.Mountings.{RoseBy}
use Rattle.fsfs_turn.specs.Views.{View, MayPack}
use Rattle.fsfs_pack.specs.declared.answers.PackEnd.{PackEnd}
use Rattle.fsfs_pack.specs.declared.answers.PackEnd.TheVariants.{Packed as PackedSome}
use Rattle.fsfs_pack.specs.declared.answers.PackFault.{PackFault}
use Rattle.fsfs_pack.specs.declared.shard.Shard.{Shard}
use Rattle.fsfs_pack.specs.Packs.{ShardEnds, ShardsEnd, renamed_by}
use Rattle.fsfs_pack.specs.Sections.{Along, IsNext, Reached}
use Rattle.fsfs_pack.specs.Shards.{IsShard, IsFull, IsNoneFull, IsNoneThere}
use Rattle.fsfs_pack.proofs.Going.{along_on, layout_stays, longer, packs_stay}
use Rattle.fsfs_pack.proofs.InBench.{ahead, aside_itself, sure_stays}

-- ---- numbers

-- behind a whole shard the next one begins
shard_behind : (first size : ℕ) → 0 < size → first % size ≡ 0 → (first + size) % size ≡ 0
shard_behind first size some place =
    let split : first / size * size + first % size ≡ first = div-add-mod' first size in
    let next : first + size ≡ suc (first / size) * size + 0 = omega (arith, split, place) in
    ap (λ n. n % size) next ∙ mod-mul-add (suc (first / size)) size 0 some

pub place_behind : (x : Shard) → IsShard x → place_in_shard x.layout x.next ≡ 0
place_behind x shard = ap (λ n. n % shard_size x.layout) shard.next ∙ shard_behind x.first (shard_size x.layout) (size_some x.layout) shard.place

-- one more of them
more_shards : (size shards sum first at next : ℕ) → 0 < size → at ≡ first + shards * size → next ≡ at + size → at < 2 ^ 32 → sum ≡ min (shards + 1) 18446744073709551615 → (0 < sum) × (next ≡ first + sum * size)
more_shards size shards sum first at next some at_is next_is fits sum_is =
    let few : shards ≤ at = omega (arith, mul-le-mul_left shards some, at_is) in
    let one : sum ≡ suc shards = omega (arith, few, fits, sum_is) in
    (omega (arith, one), omega (arith, at_is, next_is) ∙ ap (λ n. first + n * size) (sym one))

pub counted : (first x : Shard) (shards sum : ℕ) → IsShard x → x.layout ≡ first.layout → x.first ≡ first.first + shards * shard_size first.layout → x.first < 2 ^ 32 → sum ≡ min (shards + 1) 18446744073709551615
    → (0 < sum) × (x.next ≡ first.first + sum * shard_size first.layout)
counted first x shards sum shard same at fits sum_is = more_shards (shard_size first.layout) shards sum first.first x.first x.next (size_some first.layout) at (shard.next ∙ ap (λ l. x.first + shard_size l) same) fits sum_is

-- so many were packed, and by the fault one more was renamed, or none
pub counted_by : (first x : Shard) (shards more renamed : ℕ) → x.first ≡ first.first + shards * shard_size first.layout → x.first < 2 ^ 32 → more ≤ 1 → renamed ≡ min (shards + more) 18446744073709551615
    → (renamed ≡ shards + more) × (x.first ≡ first.first + shards * shard_size first.layout)
counted_by first x shards more renamed at fits one sum_is =
    let few : shards ≤ x.first = omega (arith, mul-le-mul_left shards (size_some first.layout), at) in
    (omega (arith, few, fits, one, sum_is), at)

-- a full shard begins below a number's limit
pub below : (y : Shard) → IsShard y → y.next ≤ last_rev → y.first < 2 ^ 32
below y shard fits = omega (arith, shard.next, fits)

-- files of it are left by so many faults
pub left_given : (result : Result ℕ PackFault) (before now more : ℕ) → result ≡ Ok more → IfOk result (λ left. RoseBy left before now) → RoseBy more before now
left_given result before now more is given = subst (λ (r : Result ℕ PackFault). IfOk r (λ left. RoseBy left before now)) is given

-- ---- from the first shard to this one

abbrev pub Onward : (View → Type 0) → (View → Type 0) → Shard → Shard → ℕ → Type 0
Onward before now first x young = (v : View) → before v → v.sure ≡ true → MayPack v.section → IsNext first v → young + 1 ≡ length v.seen
    → (m : View) × now m × (m.sure ≡ true) × MayPack m.section × IsNext x m × Along v m × BringsNoDoubt v m

pub onward_none : (known : View → Type 0) (first : Shard) (young : ℕ) → Onward known known first first young
onward_none known first young = λ v here sure may next all. (v, here, sure, may, next, (aside_itself v).along, λ few. few)

-- the one behind it is the next, where it is full
next_behind : (x y : Shard) (young : ℕ) (v m u : View) → IsFull x.layout x.next young y → y.first < 2 ^ 32 → IsNext x m → Reached Packed x.next m u → Along v u → young + 1 ≡ length v.seen → IsNext y u
next_behind x y young v m u full fits next r along all =
    let same : y.layout ≡ u.layout = full.layout_is ∙ next.layout ∙ sym (layout_stays m u r.along) in
    let size : shard_size y.layout ≡ shard_size u.layout = ap shard_size same in
    record {
      layout = same;
      full = record { packs = packs_stay m u r.along ∙ next.full.packs; firm = r.firm ∙ ap (λ n. Some n) (sym full.first); full = omega (arith, size, full.shard.next, full.full, all, longer v u along); fits = fits };
    }

-- what packing this one comes to
abbrev pub PacksOne : (View → Type 0) → (View → Type 0) → Shard → Result ℕ PackFault → Type 0
PacksOne before now x result = (v : View) → before v → v.sure ≡ true → MayPack v.section → IsNext x v → (u : View) × now u × ShardEnds x result v u

pub onward_more : (before middle now : View → Type 0) (first x y : Shard) (young left : ℕ) (result : Result ℕ PackFault) → result ≡ Ok left → IsFull x.layout x.next young y → y.first < 2 ^ 32 → Onward before middle first x young → PacksOne middle now x result
    → Onward before now first y young
onward_more before middle now first x y young left result is full fits so packs = λ v here sure may next all.
    let m = so v here sure may next all in
    let u = packs m.0 m.1 m.2 m.3 m.4 in
    let r : Reached Packed x.next m.0 u.0 = subst (λ e. ShardEnds x e m.0 u.0) is u.2 in
    let along = along_on v m.0 u.0 m.5 r.along in
    (u.0, u.1, sure_stays m.0 u.0 r.along ∙ m.2, inr r.section, next_behind x y young v m.0 u.0 full fits m.4 r along all, along, λ few. r.doubtless (m.6 few))

-- ---- the answers

abbrev pub EndsAll : (View → Type 0) → (View → Type 0) → Shard → ℕ → ℕ → Result PackEnd PackFault → Type 0
EndsAll before now first young renamed end = (v : View) → before v → v.sure ≡ true → MayPack v.section → IsNext first v → young + 1 ≡ length v.seen → (u : View) × now u × ShardsEnd first young renamed end v u

pub onward_stopped : (before middle now : View → Type 0) (first x : Shard) (young shards renamed : ℕ) (result : Result ℕ PackFault) (fault : PackFault) (end : Result PackEnd PackFault) → result ≡ Err fault → end ≡ Err fault
    → (x.first < 2 ^ 32 → (renamed ≡ shards + renamed_by fault) × (x.first ≡ first.first + shards * shard_size first.layout)) → Onward before middle first x young → PacksOne middle now x result → EndsAll before now first young renamed end
onward_stopped before middle now first x young shards renamed result fault end is end_is counts so packs = λ v here sure may next all.
    let m = so v here sure may next all in
    let u = packs m.0 m.1 m.2 m.3 m.4 in
    let count = counts m.4.full.fits in (
      u.0,
      u.1,
      subst (λ e. ShardsEnd first young renamed e v u.0) (sym end_is) (record {
        shards = shards;
        counted = count.0;
        middle = m.0;
        along = m.5;
        may = m.3;
        firm = m.4.full.firm ∙ ap (λ n. Some n) count.1;
        doubtless = m.6;
        stopped = subst (λ e. ShardEnds x e m.0 u.0) is u.2;
      }),
    )

-- the layout packs, so that none is full is what it says
none_full : (l k : Layout) (floor at young : ℕ) → Packs l → IsNoneThere l floor young → l ≡ k → floor ≡ at → IsNoneFull k at young
none_full l k floor at young packs n same floor_is = ⊎_elim (λ no. absurd (no packs)) (λ none. subst (λ (z : Layout × ℕ). IsNoneFull z.0 z.1 young) (λ i. (same i, floor_is i)) none) n

pub onward_ends : (before middle now : View → Type 0) (first x : Shard) (young more shards left renamed : ℕ) (result : Result ℕ PackFault) (end : Result PackEnd PackFault) → result ≡ Ok more → end ≡ Ok (PackedSome shards left) → IsShard x → x.layout ≡ first.layout
    → (x.first < 2 ^ 32 → (0 < shards) × (x.next ≡ first.first + shards * shard_size first.layout)) → IsNoneThere x.layout x.next young → Onward before middle first x young → PacksOne middle now x result → EndsAll before now first young renamed end
onward_ends before middle now first x young more shards left renamed result end is end_is shard same counts none so packs = λ v here sure may next all.
    let m = so v here sure may next all in
    let count = counts m.4.full.fits in
    let u = packs m.0 m.1 m.2 m.3 m.4 in
    let r : Reached Packed x.next v u.0 = ahead x (Ok more) v m.0 u.0 m.5 m.6 (subst (λ e. ShardEnds x e m.0 u.0) is u.2) in (
      u.0,
      u.1,
      subst (λ e. ShardsEnd first young renamed e v u.0) (sym end_is)
          (count.0, subst (λ f. Reached Packed f v u.0) count.1 r, none_full x.layout first.layout x.next (first.first + shards * shard_size first.layout) young shard.packs none same count.1),
    )
