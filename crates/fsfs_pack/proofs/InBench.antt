-- A shard that is packed by way of its bench: written, published, and the bench dropped.
use Rattle.std.proofs.Common.{◌≡◌, ◌⊎◌, ◌+◌, ◌/◌, ℕ, List, [], ◌∷◌, ◌++◌, Bool, true, false, inl, inr, ⊎_elim, refl, sym, ap, subst, ◌∙◌, append_assoc, replicate}
use Rattle.std.specs.Prelude.{Option, Some, Result, Ok, Err}
use Rattle.std.proofs.lemmas.List.{replicate_more}
use Rattle.fsfs_base.specs.declared.places.place.DiskPlace.{DiskPlace}
use Rattle.fsfs_base.specs.declared.places.place.DiskPlace.TheVariants.{Read, List as ListPlace, MakeBench, Remove, Open, Create, Begin, Commit, Pack}
use Rattle.fsfs_layout.specs.Layouts.{shard_of, shard_size}
use Rattle.fsfs_disk.specs.Labels.{Label, Pack as PackLabel}
use Rattle.fsfs_machine.specs.declared.machine.Section.{Section}
use Rattle.fsfs_machine.specs.declared.machine.Went.{Went}
use Rattle.fsfs_machine.specs.declared.machine.Went.TheVariants.{Fine, Before, After, Torn}
use Rattle.fsfs_machine.specs.Machine.{is_fine_in}
use Rattle.fsfs_machine.specs.declared.machine.Section.TheVariants.{Begun, Packed}
use Rattle.fsfs_turn.specs.Alone.{BringsNoDoubt}
use Rattle.fsfs_turn.specs.Courses.{ReadOnly, End}
use Rattle.fsfs_turn.proofs.Moments.{begins_itself}
use Rattle.fsfs_turn.specs.Packing.{CanBench, MayBenchPack, DoneBeside}
use Rattle.fsfs_turn.specs.Views.{View, MayPack, MayGive, is_held}
use Rattle.fsfs_pack.specs.declared.answers.PackFault.{PackFault}
use Rattle.fsfs_pack.specs.declared.answers.PackFault.TheVariants.{DiskFault, BenchFault, Memory, Stuck, Missing, Small}
use Rattle.fsfs_pack.specs.declared.shard.Shard.{Shard}
use Rattle.fsfs_pack.specs.Causes.{EndWith, IsEarly, IsReadOf, IsTold, IsWant}
use Rattle.fsfs_pack.specs.Packs.{EndsAt, EndsAs, sticks, sticks_at, Stopped, ShardEnds}
use Rattle.fsfs_pack.specs.Sections.{Along, IsNext}
use Rattle.fsfs_pack.proofs.Going.{along_on, next_stays, packs_stay}
use Rattle.fsfs_pack.proofs.Ending.{Aside, aside_on, beside_aside}
use Rattle.fsfs_pack.proofs.Filling.{reads_along}

-- ---- where a fault doesn't leave the lock stuck

pub read_early : (rev : ℕ) (fault : PackFault) → IsReadOf rev fault → IsEarly fault
read_early rev (DiskFault place) at = at
read_early rev (Missing absent) at = tt
read_early rev (Stuck place) at = absurd at
read_early rev BenchFault at = tt
read_early rev (Small fault) at = tt
read_early rev Memory at = tt

early_quiet : (fault : PackFault) → IsEarly fault → sticks_at fault ≡ false
early_quiet (DiskFault place) at = ap sticks at
early_quiet (Missing absent) at = refl
early_quiet (Stuck place) at = refl
early_quiet BenchFault at = refl
early_quiet (Small fault) at = refl
early_quiet Memory at = refl

-- of these nothing more is told
early_told : (fault : PackFault) (faults : List DiskPlace) → IsEarly fault → IsTold fault faults
early_told (DiskFault place) faults at = subst (λ p. IsTold (DiskFault p) faults) (sym at) tt
early_told (Missing absent) faults at = tt
early_told (Stuck place) faults at = tt
early_told BenchFault faults at = tt
early_told (Small fault) faults at = tt
early_told Memory faults at = tt

ends_quiet : (fault : PackFault) (u : View) → sticks_at fault ≡ false → MayGive u → EndsAs fault u
ends_quiet (DiskFault place) u quiet may = subst (λ b. EndsAt b place u) (sym quiet) may
ends_quiet (Missing absent) u quiet may = may
ends_quiet (Stuck place) u quiet may = may
ends_quiet BenchFault u quiet may = may
ends_quiet (Small fault) u quiet may = may
ends_quiet Memory u quiet may = may

-- a section in which a pack begins may be ended
pub may_give : (v : View) → MayPack v.section → MayGive v
may_give v may = ⊎_elim (λ (at : v.section ≡ Some Begun). record { inside = Begun; is = at; quiet = refl }) (λ (at : v.section ≡ Some Packed). record { inside = Packed; is = at; quiet = refl }) may

pub may_held : (o : Option Section) → MayPack o → is_held o ≡ true
may_held o may = ⊎_elim (λ (at : o ≡ Some Begun). ap is_held at) (λ (at : o ≡ Some Packed). ap is_held at) may

-- nothing but reading was done before it failed
pub stopped_reading : (fault : PackFault) (v u : View) → MayPack v.section → ReadOnly v u → IsEarly fault → IsWant fault → Stopped fault v u
stopped_reading fault v u may r early want = record {
  along = reads_along v u r;
  ends = ends_quiet fault u (early_quiet fault early) (may_give u (subst MayPack (sym (ap {A = View} (λ z. z.section) r.is)) may));
  doubtless = λ calm. r.doubtless;
  want = want;
  told = early_told fault u.pass.faults early;
}

-- ---- one behind another

pub ahead : (x : Shard) (result : Result ℕ PackFault) (v m u : View) → Along v m → BringsNoDoubt v m → ShardEnds x result m u → ShardEnds x result v u
ahead x (Ok left) v m u along calm e = record { along = along_on v m u along e.along; section = e.section; firm = e.firm; doubtless = λ few. e.doubtless (calm few) }
ahead x (Err fault) v m u along calm e = record { along = along_on v m u along e.along; ends = e.ends; doubtless = λ quiet few. e.doubtless quiet (calm few); want = e.want; told = e.told }

gives_still : (m u : View) → u.section ≡ m.section → MayGive m → MayGive u
gives_still m u same g = record { inside = g.inside; is = same ∙ g.is; quiet = g.quiet }

at_still : (b : Bool) (place : DiskPlace) (m u : View) → u.section ≡ m.section → EndsAt b place m → EndsAt b place u
at_still true place m u same e = same ∙ e
at_still false place m u same e = gives_still m u same e

pub ends_still : (fault : PackFault) (m u : View) → u.section ≡ m.section → EndsAs fault m → EndsAs fault u
ends_still (DiskFault place) m u same e = at_still (sticks place) place m u same e
ends_still (Missing absent) m u same e = gives_still m u same e
ends_still (Stuck place) m u same e = gives_still m u same e
ends_still BenchFault m u same e = gives_still m u same e
ends_still (Small fault) m u same e = gives_still m u same e
ends_still Memory m u same e = gives_still m u same e

-- the lock is held where it is to be given or left stuck
at_held : (b : Bool) (place : DiskPlace) (u : View) → EndsAt b place u → is_held u.section ≡ true
at_held true place u e = ap is_held e
at_held false place u e = ap is_held e.is

as_held : (fault : PackFault) (u : View) → EndsAs fault u → is_held u.section ≡ true
as_held (DiskFault place) u e = at_held (sticks place) place u e
as_held (Missing absent) u e = ap is_held e.is
as_held (Stuck place) u e = ap is_held e.is
as_held BenchFault u e = ap is_held e.is
as_held (Small fault) u e = ap is_held e.is
as_held Memory u e = ap is_held e.is

pub ends_held : (x : Shard) (result : Result ℕ PackFault) (v u : View) → ShardEnds x result v u → is_held u.section ≡ true
ends_held x (Ok left) v u e = ap is_held e.section
ends_held x (Err fault) v u e = as_held fault u e.ends

-- what was told stays told behind a bench that was dropped, or couldn't be
abbrev pub Dropped : List DiskPlace → List DiskPlace → Type 0
Dropped before now = (now ≡ before) ⊎ (now ≡ before ++ Remove ∷ [])

ends_more : (place : DiskPlace) (before now : List DiskPlace) → Dropped before now → EndWith place before → EndWith place now
ends_more place before now d e = ⊎_elim
    (λ (is : now ≡ before). (e.0, e.1, is ∙ e.2))
    (λ (is : now ≡ before ++ Remove ∷ []). (
      e.0,
      e.1 + 1,
      is ∙ ap (λ l. l ++ Remove ∷ []) e.2 ∙ append_assoc e.0 (place ∷ replicate e.1 Remove) (Remove ∷ []) ∙ ap (λ l. e.0 ++ place ∷ l) (replicate_more e.1 Remove),
    )) d

told_more : (fault : PackFault) (before now : List DiskPlace) → Dropped before now → IsTold fault before → IsTold fault now
told_more (DiskFault (Pack place)) before now d e = ends_more (Pack place) before now d e
told_more (DiskFault MakeBench) before now d e = ends_more MakeBench before now d e
told_more (DiskFault Read) before now d e = tt
told_more (DiskFault ListPlace) before now d e = tt
told_more (DiskFault Remove) before now d e = tt
told_more (DiskFault (Open at)) before now d e = tt
told_more (DiskFault (Create at)) before now d e = tt
told_more (DiskFault (Begin at)) before now d e = tt
told_more (DiskFault (Commit at)) before now d e = tt
told_more (Missing absent) before now d e = tt
told_more (Stuck place) before now d e = tt
told_more BenchFault before now d e = tt
told_more (Small fault) before now d e = tt
told_more Memory before now d e = tt

pub dropped : (went : Went) (v u : View) → DoneBeside Remove went v u → Dropped v.pass.faults u.pass.faults
dropped Fine v u d = inl (ap {A = View} (λ z. z.pass.faults) d.is)
dropped Before v u d = inr (ap {A = View} (λ z. z.pass.faults) d.is)
dropped After v u d = inr (ap {A = View} (λ z. z.pass.faults) d.is)
dropped (Torn any) v u d = inr (ap {A = View} (λ z. z.pass.faults) d.is)

-- the bench was dropped behind it, or couldn't be
pub behind : (x : Shard) (result : Result ℕ PackFault) (went : Went) (v m u : View) → ShardEnds x result v m → DoneBeside Remove went m u → ShardEnds x result v u
behind x result went v m u e d = by_aside result e (beside_aside Remove refl m went u d)
  where
    by_aside : (result : Result ℕ PackFault) → ShardEnds x result v m → Aside m u → ShardEnds x result v u
    by_aside (Ok left) e a = record { along = along_on v m u e.along a.along; section = a.section ∙ e.section; firm = a.firm ∙ e.firm; doubtless = λ few. a.doubtless (e.doubtless few) }
    by_aside (Err fault) e a = record {
      along = along_on v m u e.along a.along;
      ends = ends_still fault m u a.section e.ends;
      doubtless = λ quiet few. a.doubtless (e.doubtless quiet few);
      want = e.want;
      told = told_more fault m.pass.faults u.pass.faults (dropped went m u d) e.told;
    }

pub packs_along : (x : Shard) (result : Result ℕ PackFault) (v u : View) → ShardEnds x result v u → u.since.packs ≡ v.since.packs
packs_along x (Ok left) v u e = packs_stay v u e.along
packs_along x (Err fault) v u e = packs_stay v u e.along

-- ---- what is due

-- the shard is the next behind calls beside it
pub next_aside : (x : Shard) (v u : View) → IsNext x v → Aside v u → IsNext x u
next_aside x v u n a = next_stays x v u n a.along (a.firm ∙ n.full.firm)

-- its bench may be made
pub bench_of : (x : Shard) (v : View) (k : ℕ) → MayPack v.section → IsNext x v → k ≡ shard_of x.layout x.first → MayBenchPack v k
bench_of x v k may n is = record { packs = n.full.packs; inside = may; floor = x.first; firm = n.full.firm; shard = is ∙ ap (λ l. x.first / shard_size l) n.layout }

pub may_bench : (x : Shard) (v : View) (k : ℕ) (label : Label) → MayPack v.section → IsNext x v → k ≡ shard_of x.layout x.first → label ≡ PackLabel k → CanBench v label
may_bench x v k label may n is labelled = inr (k, bench_of x v k may n is, labelled)

-- the pass is as sure as it was
pub sure_stays : (v u : View) → Along v u → u.sure ≡ v.sure
sure_stays v u a = ap {A = View} (λ z. z.sure) a.is

-- it ended before the section's first call
pub ended_early : (fault : PackFault) (v u : View) → MayPack v.section → Aside v u → sticks_at fault ≡ false → IsWant fault → IsTold fault u.pass.faults → Stopped fault v u
ended_early fault v u may a quiet want told = record {
  along = a.along;
  ends = ends_quiet fault u quiet (may_give u (subst MayPack (sym a.section) may));
  doubtless = λ calm. a.doubtless;
  want = want;
  told = told;
}

-- its bench couldn't be made
made_told : (went : Went) (v u : View) → is_fine_in went ≡ false → DoneBeside MakeBench went v u → EndWith MakeBench u.pass.faults
made_told Fine v u failed d = absurd cc
made_told Before v u failed d = (v.pass.faults, 0, ap {A = View} (λ z. z.pass.faults) d.is)
made_told After v u failed d = (v.pass.faults, 0, ap {A = View} (λ z. z.pass.faults) d.is)
made_told (Torn any) v u failed d = (v.pass.faults, 0, ap {A = View} (λ z. z.pass.faults) d.is)

pub bench_failed : (went gone : Went) (v m u : View) → MayPack v.section → is_fine_in went ≡ false → DoneBeside MakeBench went v m → DoneBeside Remove gone m u → Stopped (DiskFault MakeBench) v u
bench_failed went gone v m u may failed made drop =
    ended_early (DiskFault MakeBench) v u may (aside_on v m u (beside_aside MakeBench refl v went m made) (beside_aside Remove refl m gone u drop)) refl tt (ends_more MakeBench m.pass.faults u.pass.faults (dropped gone m u drop) (made_told went v m failed made))

-- nothing was done
pub aside_itself : (v : View) → Aside v v
aside_itself v = record { along = record { is = refl; grows = begins_itself v.seen; course = End v }; section = refl; firm = refl; doubtless = λ few. few }
