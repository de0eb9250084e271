-- Calls of `pack`, one behind another.
use Rattle.std.proofs.Common.{◌≡◌, ◌≤◌, ◌+◌, ◌-◌, ◌^◌, ◌||◌, ℕ, List, [], ◌∷◌, ◌++◌, length, Bool, true, false, refl, sym, ap, subst, ◌∙◌, arith, length-append}
use Rattle.std.specs.Prelude.{Option, Some, None, min, IfSome, IfErr, Result, Ok, Err}
use Rattle.fsfs_base.specs.Failures.{Rose}
use Rattle.fsfs_turn.specs.Alone.{BringsNoDoubt}
use Rattle.fsfs_turn.specs.Mountings.{RoseBy}
use Rattle.fsfs_turn.specs.Views.{View}
use Rattle.fsfs_pack.specs.Causes.{IfBench, IfDisk}
use Rattle.fsfs_pack.specs.Packs.{Packing, Renamed, Says}
use Rattle.fsfs_pack.specs.declared.answers.PackDone.{PackDone}
use Rattle.fsfs_pack.specs.declared.answers.PackEnd.{PackEnd}
use Rattle.fsfs_pack.specs.declared.answers.PackEnd.TheVariants.{Nothing, Packed}
use Rattle.fsfs_pack.specs.declared.answers.PackFault.{PackFault}
use Rattle.fsfs_pack.specs.declared.answers.PackFault.TheVariants.{Stuck, DiskFault, BenchFault, Missing, Small, Memory}
use Rattle.fsfs_workers.specs.PackCalls.{AddUp, AreRenamed, KnowsPacked, PackCalls, NoCall, OneMore, PackedOften, fault_in, first_fault, first_of, one_sticks, renamed_in, sticks}
use Rattle.fsfs_workers.specs.declared.packs.Packs.{Packs}

-- ---- one call more

renamed_more : (calls : List PackDone) (done : PackDone) → renamed_in (calls ++ done ∷ []) ≡ renamed_in calls + done.renamed
renamed_more [] done = omega arith
renamed_more (x ∷ calls) done = let more = renamed_more calls done in omega (arith, more)

sticks_more : (calls : List PackDone) (done : PackDone) → one_sticks (calls ++ done ∷ []) ≡ (one_sticks calls || sticks done.end)
sticks_more [] done = by_test (sticks done.end)
  where
    by_test : (b : Bool) → (b || false) ≡ b
    by_test true = refl
    by_test false = refl
sticks_more (x ∷ calls) done = by_test (sticks x.end) (sticks_more calls done)
  where
    by_test : (b : Bool) → one_sticks (calls ++ done ∷ []) ≡ (one_sticks calls || sticks done.end) → (b || one_sticks (calls ++ done ∷ [])) ≡ ((b || one_sticks calls) || sticks done.end)
    by_test true rest = refl
    by_test false rest = rest

fault_more : (calls : List PackDone) (done : PackDone) → first_fault (calls ++ done ∷ []) ≡ first_of (first_fault calls) (fault_in done.end)
fault_more [] done = by_fault (fault_in done.end)
  where
    by_fault : (o : Option PackFault) → first_of o None ≡ o
    by_fault (Some fault) = refl
    by_fault None = refl
fault_more (x ∷ calls) done = by_fault (fault_in x.end) (fault_more calls done)
  where
    by_fault : (o : Option PackFault) → first_fault (calls ++ done ∷ []) ≡ first_of (first_fault calls) (fault_in done.end) → first_of o (first_fault (calls ++ done ∷ [])) ≡ first_of (first_of o (first_fault calls)) (fault_in done.end)
    by_fault (Some fault) rest = refl
    by_fault None rest = rest

each_more : (calls : List PackDone) (done : PackDone) → AreRenamed calls → Renamed done.end done.renamed → AreRenamed (calls ++ done ∷ [])
each_more [] done each one = (one, tt)
each_more (x ∷ calls) done each one = (each.0, each_more calls done each.1 one)

-- ---- what failed

disk_weaker : {A B : Type 0} (why : PackFault) → (A → B) → IfDisk why A → IfDisk why B
disk_weaker (DiskFault place) f a = f a
disk_weaker (Stuck place) f a = tt
disk_weaker BenchFault f a = tt
disk_weaker (Missing rev) f a = tt
disk_weaker (Small fault) f a = tt
disk_weaker Memory f a = tt

bench_weaker : {A B : Type 0} (why : PackFault) → (A → B) → IfBench why A → IfBench why B
bench_weaker BenchFault f a = f a
bench_weaker (DiskFault place) f a = tt
bench_weaker (Stuck place) f a = tt
bench_weaker (Missing rev) f a = tt
bench_weaker (Small fault) f a = tt
bench_weaker Memory f a = tt

pub some_disk : {A B : Type 0} (o : Option PackFault) → (A → B) → IfSome o (λ why. IfDisk why A) → IfSome o (λ why. IfDisk why B)
some_disk None f a = tt
some_disk (Some why) f a = disk_weaker why f a

pub some_bench : {A B : Type 0} (o : Option PackFault) → (A → B) → IfSome o (λ why. IfBench why A) → IfSome o (λ why. IfBench why B)
some_bench None f a = tt
some_bench (Some why) f a = bench_weaker why f a

-- the first fault's cause
first_disk : {A B C : Type 0} (o : Option PackFault) (end : Result PackEnd PackFault) → (A → C) → (B → C) → IfSome o (λ why. IfDisk why A) → IfErr end (λ why. IfDisk why B) → IfSome (first_of o (fault_in end)) (λ why. IfDisk why C)
first_disk (Some why) end f g a b = disk_weaker why f a
first_disk None (Ok e) f g a b = tt
first_disk None (Err why) f g a b = disk_weaker why g b

first_bench : {A B C : Type 0} (o : Option PackFault) (end : Result PackEnd PackFault) → (A → C) → (B → C) → IfSome o (λ why. IfBench why A) → IfErr end (λ why. IfBench why B) → IfSome (first_of o (fault_in end)) (λ why. IfBench why C)
first_bench (Some why) end f g a b = bench_weaker why f a
first_bench None (Ok e) f g a b = tt
first_bench None (Err why) f g a b = bench_weaker why g b

pub packed_weaker : {A B C D : Type 0} (times : ℕ) (packs : Packs) → (A → B) → (C → D) → PackedOften times packs A C → PackedOften times packs B D
packed_weaker times packs f g p = record { calls = p.calls; sums = p.sums; cause = some_disk packs.fault f p.cause; bench_cause = some_bench packs.fault g p.bench_cause }

-- ---- so often

-- so many calls were made by a pass of which this was known, and this is known then
abbrev pub Often : (View → Type 0) → (View → Type 0) → ℕ → Packs → Type 0 → Type 0 → Type 0
Often before now times packs disk bench = (p : PackedOften times packs disk bench) × KnowsPacked before now p.calls

pub often_none : {disk bench : Type 0} (knows : View → Type 0) (packs : Packs) → packs ≡ record { renamed = 0; sticks = false; fault = None } → Often knows knows 0 packs disk bench
often_none {disk} {bench} knows packs are = subst (λ (p : Packs). Often knows knows 0 p disk bench) (sym are) (
  record { calls = []; sums = record { often = refl; each = tt; renamed = refl; sticks = refl; fault = refl }; cause = tt; bench_cause = tt },
  λ v known outside packs. (v, known, NoCall v, outside, packs),
)

pub often_more : (before mid now : View → Type 0) (times : ℕ) (had next : Packs) (done : PackDone) (first old new bench_first bench_old bench_new : ℕ) → first ≤ old → old ≤ new → RoseBy 0 bench_first bench_old → RoseBy 0 bench_old bench_new
    → next.renamed ≡ min (had.renamed + done.renamed) (2 ^ 64 - 1) → next.sticks ≡ (had.sticks || sticks done.end) → next.fault ≡ first_of had.fault (fault_in done.end)
    → ((m : View) → mid m → m.section ≡ None → m.since.packs ≡ true → (u : View) × now u × Packing m u × Says done.renamed done.end m u)
    → Renamed done.end done.renamed → IfErr done.end (λ why. IfDisk why (Rose old new)) → IfErr done.end (λ why. IfBench why (Rose bench_old bench_new))
    → Often before mid times had (Rose first old) (Rose bench_first bench_old) → Often before now (times + 1) next (Rose first new) (Rose bench_first bench_new)
often_more before mid now times had next done first old new bench_first bench_old bench_new a b c d renamed sticks_is fault_is packed one cause bench_cause often =
    let p = often.0 in
    let more = renamed_more p.calls done in
    let sum = p.sums.renamed in (
      record {
        calls = p.calls ++ done ∷ [];
        sums = record {
          often = length-append p.calls (done ∷ []) ∙ ap (λ n. n + 1) p.sums.often;
          each = each_more p.calls done p.sums.each one;
          renamed = omega (arith, renamed, sum, more);
          sticks = sticks_is ∙ ap (λ (x : Bool). x || sticks done.end) p.sums.sticks ∙ sym (sticks_more p.calls done);
          fault = fault_is ∙ ap (λ (x : Option PackFault). first_of x (fault_in done.end)) p.sums.fault ∙ sym (fault_more p.calls done);
        };
        cause = subst (λ (x : Option PackFault). IfSome x (λ why. IfDisk why (Rose first new))) (sym fault_is) (first_disk had.fault done.end (λ (rose : Rose first old). (let e : Rose first new = omega (arith, rose, a, b) in e)) (λ (rose : Rose old new). (let e : Rose first new = omega (arith, rose, a, b) in e)) p.cause cause);
        bench_cause = subst (λ (x : Option PackFault). IfSome x (λ why. IfBench why (Rose bench_first bench_new))) (sym fault_is)
            (first_bench had.fault done.end (λ (rose : Rose bench_first bench_old). (let e : Rose bench_first bench_new = omega (arith, rose, c, d) in e)) (λ (rose : Rose bench_old bench_new). (let e : Rose bench_first bench_new = omega (arith, rose, c, d) in e)) p.bench_cause bench_cause);
      },
      λ v known outside packs.
          let h = often.1 v known outside packs in
          let u = packed h.0 h.1 h.3 h.4 in
          (u.0, u.1, OneMore p.calls done v h.0 u.0 h.2 u.2 u.3, u.2.outside, ap (λ s. s.packs) u.2.drift.since ∙ h.4),
    )

-- ---- what they do to what a pass knows

or_false : (a b : Bool) → (a || b) ≡ false → (a ≡ false) × (b ≡ false)
or_false true b e = absurd cc
or_false false b e = (refl, e)

says_calm : (renamed : ℕ) (end : Result PackEnd PackFault) (v u : View) → Says renamed end v u → sticks end ≡ false → BringsNoDoubt v u
says_calm renamed (Ok Nothing) v u s free = s.1
says_calm renamed (Ok (Packed shards left)) v u s free = s.doubtless
says_calm renamed (Err (Stuck place)) v u s free = s.doubtless
says_calm renamed (Err (DiskFault place)) v u s free = s.doubtless free
says_calm renamed (Err BenchFault) v u s free = s.doubtless free
says_calm renamed (Err (Missing rev)) v u s free = s.doubtless free
says_calm renamed (Err (Small fault)) v u s free = s.doubtless free
says_calm renamed (Err Memory) v u s free = s.doubtless free

-- nothing is added or left in doubt by them, and no fault leaves the lock stuck but where one of them says so
pub record Passes (calls : List PackDone) (v u : View) : Type 0 where
  pub mine : u.pass.mine ≡ v.pass.mine
  pub left : u.left ≡ v.left
  pub doubtless : one_sticks calls ≡ false → BringsNoDoubt v u

pub calls_pass : (calls : List PackDone) (v u : View) → PackCalls calls v u → Passes calls v u
calls_pass _ _ _ (NoCall v) = record { mine = refl; left = refl; doubtless = λ free few. few }
calls_pass _ _ _ (OneMore before done v m u prior packing says) =
    let p = calls_pass before v m prior in
    record {
      mine = packing.drift.mine ∙ p.mine;
      left = packing.drift.left ∙ p.left;
      doubtless = λ free few. let both = or_false (one_sticks before) (sticks done.end) (sym (sticks_more before done) ∙ free) in says_calm done.renamed done.end m u says both.1 (p.doubtless both.0 few);
    }
