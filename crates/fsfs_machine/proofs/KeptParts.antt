-- It is kept where one part of the world changes: the lock, the files, the passes, or the transactions with their names and labels.
use Rattle.std.proofs.Common.{◌≡◌, ◌≤◌, ◌+◌, ◌*◌, ℕ, suc, zero, List, [], ◌∷◌, length, Bool, true, false, refl, sym, subst, arith}
use Rattle.std.specs.Prelude.{IfSome}
use Rattle.fsfs_machine.specs.declared.machine.Txn.{Txn}
use Rattle.fsfs_base.specs.declared.places.place.DiskPlace.{DiskPlace}
use Rattle.fsfs_machine.specs.declared.machine.Drawn.{Drawn}
use Rattle.fsfs_machine.specs.declared.machine.Pass.{Pass}
use Rattle.fsfs_machine.specs.declared.machine.Section.{Section}
use Rattle.fsfs_machine.specs.declared.machine.Lock.{Lock}
use Rattle.fsfs_machine.specs.declared.machine.Lock.TheVariants.{Held}
use Rattle.fsfs_machine.specs.declared.machine.Went.{Went}
use Rattle.fsfs_machine.specs.Disk.{Disk}
use Rattle.fsfs_machine.specs.Machine.{World, learns, revisions, at_place, is_up, named, after}
use Rattle.fsfs_machine.specs.Kept.{StandsIn, Stands, AllBelow, CountsOn, KnowsAt, coming, Follows, IsSeen, AreSeen, AreTransactions, Whose, IsHolder, FloorBy, AreLeft, IsFloor, most_floor, rises, may_rise, packs, is_packing, Kept, AllGiven, AreNamed, AreApart, HaveLabels, Knows, coming_in, Carries}
use Rattle.fsfs_machine.proofs.Images.{Each}
use Rattle.fsfs_machine.proofs.Whose.{there_at, whose_at}

-- numbers below a less number are below a greater
pub no_less : (given : List ℕ) (a b : ℕ) → a ≤ b → AllBelow a given → AllBelow b given
no_less [] a b le below = tt
no_less (g ∷ gs) a b le below = (omega (arith, le, below.0), no_less gs a b le below.1)

-- a pass that has seen no more than there is
pub seen_at : (n l f : ℕ) (xs : List Pass) (p : ℕ) (g : Pass → Pass) → ((x : Pass) → IsSeen n l f x → IsSeen n l f (g x)) → AreSeen n l f xs → AreSeen n l f (at_place xs p g)
seen_at n l f [] p g h s = tt
seen_at n l f (x ∷ xs) zero g h s = (h x s.0, s.1)
seen_at n l f (x ∷ xs) (suc p) g h s = (s.0, seen_at n l f xs p g h s.1)

pub learnt : (n l f : ℕ) (xs : List Pass) (p : ℕ) (place : DiskPlace) (went : Went) → AreSeen n l f xs → AreSeen n l f (at_place xs p (learns n place went))
learnt n l f xs p place went = seen_at n l f xs p (learns n place went) (λ x s. record { seen = omega arith; least = s.least; mine = no_less x.mine x.seen n s.seen s.mine; least_floor = s.least_floor; floor = s.floor })

-- a greater floor may be read
pub seen_top : (n l a b : ℕ) (xs : List Pass) → a ≤ b → AreSeen n l a xs → AreSeen n l b xs
seen_top n l a b [] le s = tt
seen_top n l a b (x ∷ xs) le s = let one : IsSeen n l a x = s.0 in (record { seen = one.seen; least = one.least; mine = one.mine; least_floor = one.least_floor; floor = omega (arith, one.floor, le) }, seen_top n l a b xs le s.1)

pub not_so : {A : Type 0} → false ≡ true → A
not_so e = absurd cc

-- a shard that isn't full need not be
pub not_full : (size f n : ℕ) (full : Bool) → IsFloor size f n full → IsFloor size f n false
not_full size f n full k = record { some = k.some; shards = k.shards; whole = k.whole; most = k.most; next = λ u. not_so u }

pub suc_times : (n m : ℕ) → suc n * m ≡ n * m + m
suc_times n m = omega arith

-- a shard more is packed
pub next_floor : (size f n : ℕ) (full : Bool) → IsFloor size f n full → full ≡ true → IsFloor size (f + size) n false
next_floor size f n full k u = record {
  some = k.some;
  shards = suc k.shards;
  whole = (let whole : f ≡ k.shards * size = k.whole in let more : suc k.shards * size ≡ k.shards * size + size = suc_times k.shards size in omega (arith, whole, more));
  most = k.next u;
  next = λ u. not_so u;
}

-- the counter, the floor and the files that are left of an image
abbrev pub Steady : Bool → World → Disk → Type 0
Steady b w m = CountsOn w.given m × FloorBy b w.size w.floor m × AreLeft w.low w.history m

pub steady : (w : World) → Kept w → Each w.disk (Steady (may_rise w.lock) w)
steady w k m i = (k.counts m i, k.floors m i, k.left m i)

-- another lock
pub keeps_lock : (w : World) (old new : Lock) → Kept (record w { lock = old })
    → (is_up new ≡ true → is_up old ≡ true)
    → may_rise new ≡ may_rise old
    → (is_packing new ≡ true → is_packing old ≡ true)
    → ((m : Disk) → Stands w.size w.floor w.history old m → Stands w.size w.floor w.history new m)
    → KnowsAt w.size w.floor w.history w.given new w.disk
    → IfSome (coming new) (Follows w.history)
    → IsHolder (length w.passes) new
    → Kept (record w { lock = new })
keeps_lock w old new k up same full stands knows next holder =
    record { young = λ is. k.young (up is); seen = subst (λ b. AreSeen (length w.history) w.low (most_floor b w.size w.floor) w.passes) (sym same) k.seen; history = k.history; transactions = k.transactions; stands = λ m i. stands m (k.stands m i); floor = record { some = k.floor.some; shards = k.floor.shards; whole = k.floor.whole; most = k.floor.most; next = λ is. k.floor.next (full is) }; floors = λ m i. subst (λ b. FloorBy b w.size w.floor m) (sym same) (k.floors m i); left = k.left; low = k.low; counts = k.counts; once = k.once; labels = k.labels; named = k.named; apart = k.apart; benches = λ is. k.benches (up is); knows = knows; next = next; whose = k.whose; holder = holder }

-- other files
pub keeps_disk : (w : World) (d : Disk) → Kept w
    → Each d (Stands w.size w.floor w.history w.lock)
    → Each d (Steady (may_rise w.lock) w)
    → KnowsAt w.size w.floor w.history w.given w.lock d
    → Kept (record w { disk = d })
keeps_disk w d k stands steady knows =
    record { young = k.young; seen = k.seen; history = k.history; transactions = k.transactions; stands = stands; floor = k.floor; floors = λ m i. (steady m i).1; left = λ m i. (steady m i).2; low = k.low; counts = λ m i. (steady m i).0; once = k.once; labels = k.labels; named = k.named; apart = k.apart; benches = k.benches; knows = knows; next = k.next; whose = k.whose; holder = k.holder }

-- other passes
pub keeps_passes : (w : World) (passes : List Pass) → Kept w
    → AreSeen (length w.history) w.low (most_floor (may_rise w.lock) w.size w.floor) passes
    → Whose w.opening w.history w.since passes
    → IsHolder (length passes) w.lock
    → Kept (record w { passes = passes })
keeps_passes w passes k seen whose holder =
    record { young = k.young; seen = seen; history = k.history; transactions = k.transactions; stands = k.stands; floor = k.floor; floors = k.floors; left = k.left; low = k.low; counts = k.counts; once = k.once; labels = k.labels; named = k.named; apart = k.apart; benches = k.benches; knows = k.knows; next = k.next; whose = whose; holder = holder }

-- other transactions, names and labels
pub keeps_txns : (w : World) (labels : List ℕ) (named : List Drawn) (txns : List Txn) (spent : List ℕ) → Kept w
    → AllGiven w.given labels
    → AreNamed (length w.history) w.given named
    → AreTransactions (revisions w.history) txns
    → AreApart w.given named txns spent
    → (is_up w.lock ≡ true → HaveLabels labels txns)
    → Kept (record w { labels = labels; named = named; txns = txns; spent = spent })
keeps_txns w labels named txns spent k given are transactions apart benches =
    record { young = k.young; seen = k.seen; history = k.history; transactions = transactions; stands = k.stands; floor = k.floor; floors = k.floors; left = k.left; low = k.low; counts = k.counts; once = k.once; labels = given; named = are; apart = apart; benches = benches; knows = k.knows; next = k.next; whose = k.whose; holder = k.holder }

-- a turn of the pass that holds the lock: other files, and another section
pub keeps_turn : (w : World) (p : ℕ) (place : DiskPlace) (went : Went) (s after : Section) (d : Disk) → Kept (record w { lock = Held p s })
    → Carries p after
    → most_floor (rises s) w.size w.floor ≤ most_floor (rises after) w.size w.floor
    → (packs after ≡ true → w.floor + w.size ≤ length w.history)
    → Each d (StandsIn w.size w.floor w.history after)
    → Each d (Steady (rises after) w)
    → Knows w.size w.floor w.history w.given after d
    → IfSome (coming_in after) (Follows w.history)
    → Kept (record w { disk = d; lock = Held p after; passes = at_place w.passes p (learns (length w.history) place went) })
keeps_turn w p place went s after d k carries top full stands steady knows next =
    let f = learns (length w.history) place went in
    record { young = k.young; seen = learnt (length w.history) w.low (most_floor (rises after) w.size w.floor) w.passes p place went (seen_top (length w.history) w.low (most_floor (rises s) w.size w.floor) (most_floor (rises after) w.size w.floor) w.passes top k.seen); history = k.history; transactions = k.transactions; stands = stands; floor = record { some = k.floor.some; shards = k.floor.shards; whole = k.floor.whole; most = k.floor.most; next = full }; floors = λ m i. (steady m i).1; left = λ m i. (steady m i).2; low = k.low; counts = λ m i. (steady m i).0; once = k.once; labels = k.labels; named = k.named; apart = k.apart; benches = k.benches; knows = knows; next = next; whose = whose_at w.opening w.history w.since w.passes p f (λ x. refl) k.whose; holder = (there_at w.passes p p f k.holder.0, carries) }
