-- The numbers of places, and what the word LOCK says of the lock.
use Rattle.std.proofs.Common.{◌≡◌, ◌≤◌, true, refl, sym, ap, arith}
use Rattle.std.specs.Prelude.{Some}
use Rattle.fsfs_base.specs.declared.places.place.OpenPlace.TheVariants as opening
use Rattle.fsfs_base.specs.declared.places.place.CreatePlace.TheVariants as creation
use Rattle.fsfs_base.specs.declared.places.place.BeginPlace.TheVariants as begin
use Rattle.fsfs_base.specs.declared.places.place.CommitPlace.TheVariants as commit
use Rattle.fsfs_base.specs.declared.places.place.PackPlace.TheVariants as pack
use Rattle.fsfs_base.specs.declared.places.place.DiskPlace.{DiskPlace}
use Rattle.fsfs_base.specs.declared.places.place.DiskPlace.TheVariants as place
use Rattle.fsfs_machine.specs.declared.machine.Lock.{Lock}
use Rattle.fsfs_machine.specs.declared.machine.Lock.TheVariants.{Free, Held, Stuck, Down, DownDoubtful, StuckFloor, DownFloor}
use Rattle.fsfs_machine.specs.Machine.{is_up, stuck_place}
use Rattle.fsfs_pass.specs.LockWords.{place_number, place_at, lock_word}

pub place_back : (p : DiskPlace) → place_at (place_number p) ≡ p
place_back place.Read = refl
place_back place.List = refl
place_back place.MakeBench = refl
place_back place.Remove = refl
place_back (place.Open opening.Firm) = refl
place_back (place.Open opening.Read) = refl
place_back (place.Create creation.Put) = refl
place_back (place.Create creation.Firm) = refl
place_back (place.Create creation.Rename) = refl
place_back (place.Create creation.Last) = refl
place_back (place.Begin begin.Read) = refl
place_back (place.Begin begin.Put) = refl
place_back (place.Begin begin.Rename) = refl
place_back (place.Begin begin.Firm) = refl
place_back (place.Commit commit.PutRev) = refl
place_back (place.Commit commit.PutProps) = refl
place_back (place.Commit commit.FirmRev) = refl
place_back (place.Commit commit.PutCurrent) = refl
place_back (place.Commit commit.RenameCurrent) = refl
place_back (place.Commit commit.FirmCurrent) = refl
place_back (place.Pack pack.AdoptPack) = refl
place_back (place.Pack pack.AdoptManifest) = refl
place_back (place.Pack pack.FirmPack) = refl
place_back (place.Pack pack.PutFloor) = refl
place_back (place.Pack pack.RenameFloor) = refl
place_back (place.Pack pack.FirmFloor) = refl

pub place_above : (p : DiskPlace) → 2 ≤ place_number p
place_above place.Read = omega arith
place_above place.List = omega arith
place_above place.MakeBench = omega arith
place_above place.Remove = omega arith
place_above (place.Open opening.Firm) = omega arith
place_above (place.Open opening.Read) = omega arith
place_above (place.Create creation.Put) = omega arith
place_above (place.Create creation.Firm) = omega arith
place_above (place.Create creation.Rename) = omega arith
place_above (place.Create creation.Last) = omega arith
place_above (place.Begin begin.Read) = omega arith
place_above (place.Begin begin.Put) = omega arith
place_above (place.Begin begin.Rename) = omega arith
place_above (place.Begin begin.Firm) = omega arith
place_above (place.Commit commit.PutRev) = omega arith
place_above (place.Commit commit.PutProps) = omega arith
place_above (place.Commit commit.FirmRev) = omega arith
place_above (place.Commit commit.PutCurrent) = omega arith
place_above (place.Commit commit.RenameCurrent) = omega arith
place_above (place.Commit commit.FirmCurrent) = omega arith
place_above (place.Pack pack.AdoptPack) = omega arith
place_above (place.Pack pack.AdoptManifest) = omega arith
place_above (place.Pack pack.FirmPack) = omega arith
place_above (place.Pack pack.PutFloor) = omega arith
place_above (place.Pack pack.RenameFloor) = omega arith
place_above (place.Pack pack.FirmFloor) = omega arith

pub word_free : (l : Lock) → is_up l ≡ true → lock_word l ≡ 0 → l ≡ Free
word_free Free up e = refl
word_free (Held p s) up e = let z : 1 ≡ 0 = e in absurd (omega (arith, z))
word_free (Stuck at x) up e = let z : place_number at ≡ 0 = e in absurd (omega (arith, z, place_above at))
word_free Down up e = absurd cc
word_free (DownDoubtful x) up e = absurd cc
word_free (StuckFloor at) up e = let z : place_number at ≡ 0 = e in absurd (omega (arith, z, place_above at))
word_free DownFloor up e = absurd cc

pub word_stuck : (l : Lock) → is_up l ≡ true → 2 ≤ lock_word l → stuck_place l ≡ Some (place_at (lock_word l))
word_stuck Free up e = let z : 2 ≤ 0 = e in absurd (omega (arith, z))
word_stuck (Held p s) up e = let z : 2 ≤ 1 = e in absurd (omega (arith, z))
word_stuck (Stuck at x) up e = ap (λ p. Some p) (sym (place_back at))
word_stuck (StuckFloor at) up e = ap (λ p. Some p) (sym (place_back at))
word_stuck DownFloor up e = absurd cc
word_stuck Down up e = absurd cc
word_stuck (DownDoubtful x) up e = absurd cc

-- where the lock is stuck, the word is the number of the place
pub stuck_word : (l : Lock) (p : DiskPlace) → stuck_place l ≡ Some p → lock_word l ≡ place_number p
stuck_word (Stuck at x) p e = let same : at ≡ p = cc in ap place_number same
stuck_word (StuckFloor at) p e = let same : at ≡ p = cc in ap place_number same
stuck_word l p e = absurd cc
