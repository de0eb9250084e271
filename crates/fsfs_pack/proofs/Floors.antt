-- Which floors it speaks of, where nobody else has turns.
use Rattle.std.proofs.Common.{◌≡◌, ◌≤◌, ◌+◌, ◌*◌, ℕ, sym, ap, subst, ◌∙◌, arith}
use Rattle.std.specs.Prelude.{Some, Result, Ok, Err, OnOk, IfOk}
use Rattle.fsfs_base.specs.declared.places.place.DiskPlace.{DiskPlace}
use Rattle.fsfs_layout.specs.Layouts.{shard_size}
use Rattle.fsfs_layout.specs.declared.layout.Layout.{Layout}
use Rattle.fsfs_machine.specs.declared.machine.Section.TheVariants.{Begun, Packed}
use Rattle.fsfs_machine.specs.declared.machine.Went.TheVariants.{Fine}
use Rattle.fsfs_turn.specs.Views.{View}
use Rattle.fsfs_pack.specs.declared.answers.PackEnd.{PackEnd}
use Rattle.fsfs_pack.specs.declared.answers.PackEnd.TheVariants.{Nothing, Packed as PackedSome}
use Rattle.fsfs_pack.specs.declared.answers.PackFault.{PackFault}
use Rattle.fsfs_pack.specs.declared.shard.Shard.{Shard}
use Rattle.fsfs_pack.specs.Packs.{ShardsEnd, ShowsFloors, Sought, stuck_by}
use Rattle.fsfs_pack.specs.Sections.{Reached}
use Rattle.fsfs_pack.specs.Shards.{IsNoneFull}
use Rattle.fsfs_pack.proofs.Held.{floor_firm, least_is, still_begun}

-- the shard's layout and its place, as the pass has them then
layout_now : (young : ℕ) (x : Shard) (v u : View) → (s : Sought (record { youngest = young; shard = Some x }) v u) → x.layout ≡ u.layout
layout_now young x v u s = s.shard.layout_is ∙ sym (ap {A = View} (λ z. z.layout) s.read.is ∙ ap {A = View} (λ z. z.layout) s.looked.is)

at_now : (young : ℕ) (x : Shard) (v u : View) → (s : Sought (record { youngest = young; shard = Some x }) v u) → (shards : ℕ) → x.first + shards * shard_size x.layout ≡ s.floor + shards * shard_size u.layout
at_now young x v u s shards = (λ i. s.shard.first i + shards * shard_size (layout_now young x v u s i))

young_now : (young : ℕ) (x : Shard) (v u w : View) → (s : Sought (record { youngest = young; shard = Some x }) v u) → {f : ℕ} → Reached Packed f u w → w.pass.least ≡ young
young_now young x v u w s r = ap {A = View} (λ z. z.pass.least) r.along.is ∙ least_is young s.floor Fine v s.middle u s.looked s.read

module _ {T B : Type 0} (knows : T → View → Type 0) (below : T → B) where
  -- from what was found on
  pub shows_held : (young renamed : ℕ) (x : Shard) (end : Result PackEnd PackFault) (v u w : View) (before middle after : T) → (begun : v.section ≡ Some Begun) → (s : Sought (record { youngest = young; shard = Some x }) v u) → knows middle u → below middle ≡ below before → knows after w
      → ShardsEnd x young renamed end u w → IfOk end (λ e. ShowsFloors knows below v.pass.least e before after)
  shows_held young renamed x (Ok Nothing) v u w before middle after begun s here same there e = absurd e
  shows_held young renamed x (Err fault) v u w before middle after begun s here same there e = tt
  shows_held young renamed x (Ok (PackedSome shards left)) v u w before middle after begun s here same there e = record {
    begun = middle;
    taken = u;
    knows_taken = here;
    as_before = same;
    begins = still_begun young x v u begun s;
    floor = s.floor;
    firm = floor_firm young x v u begun s;
    ended = after;
    last = w;
    knows_last = there;
    as_after = (λ i. below after);
    packed = e.1.section;
    raised = e.1.firm ∙ ap (λ n. Some n) (at_now young x v u s shards);
    told = (let same = young_now young x v u w s e.1 in let least = s.looked.least in omega (arith, same, least));
    none_full = subst (λ (z : Layout × ℕ × ℕ). IsNoneFull z.0 z.1 z.2) (λ i. (layout_now young x v u s i, at_now young x v u s shards i, sym (young_now young x v u w s e.1) i)) e.2;
  }

  -- with calls before it and behind it by which nothing of that changes
  shows_on : (sooner least : ℕ) (end : PackEnd) (a b c d : T) → sooner ≤ least → below b ≡ below a → below d ≡ below c → ShowsFloors knows below least end b c → ShowsFloors knows below sooner end a d
  shows_on sooner least Nothing a b c d le first last s = last ∙ s ∙ first
  shows_on sooner least (PackedSome shards left) a b c d le first last s = record {
    begun = s.begun;
    taken = s.taken;
    knows_taken = s.knows_taken;
    as_before = s.as_before ∙ first;
    begins = s.begins;
    floor = s.floor;
    firm = s.firm;
    ended = s.ended;
    last = s.last;
    knows_last = s.knows_last;
    as_after = last ∙ s.as_after;
    packed = s.packed;
    raised = s.raised;
    told = (let told = s.told in omega (arith, le, told));
    none_full = s.none_full;
  }

  pub shows_all : (sooner least : ℕ) (end : Result PackEnd PackFault) (a b c d : T) → sooner ≤ least → below b ≡ below a → OnOk end (below d ≡ below c) → IfOk end (λ e. ShowsFloors knows below least e b c) → IfOk end (λ e. ShowsFloors knows below sooner e a d)
  shows_all sooner least (Ok end) a b c d le first last s = shows_on sooner least end a b c d le first last s
  shows_all sooner least (Err fault) a b c d le first last s = tt

-- of an answer of its own nothing is said where it is a fault
pub shows_none : (P : PackEnd → Type 0) (end : Result PackEnd PackFault) (fault : PackFault) → end ≡ Err fault → IfOk end P
shows_none P (Ok end) fault is = absurd cc
shows_none P (Err other) fault is = tt

-- the lock is left stuck only by a fault
pub stuck_err : (P : Type 0) (end : Result PackEnd PackFault) (place : DiskPlace) → stuck_by end ≡ Some place → OnOk end P
stuck_err P (Ok end) place is = absurd cc
stuck_err P (Err fault) place is = tt

pub on_ok : {P : Type 0} (end : Result PackEnd PackFault) → P → OnOk end P
on_ok (Ok end) p = p
on_ok (Err fault) p = tt
