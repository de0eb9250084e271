-- Why a shard wasn't packed, and what each fault says.
use Rattle.std.specs.Prelude.{◌≡◌, ℕ, List, ◌∷◌, ◌++◌, replicate, Result}
use Rattle.fsfs_base.specs.Counts as counts
use Rattle.fsfs_base.specs.declared.places.place.DiskPlace.{DiskPlace}
use Rattle.fsfs_base.specs.declared.places.place.DiskPlace.TheVariants.{Read, MakeBench, Remove, Pack}
use Rattle.fsfs_revision.specs.declared.book.BookFault.{BookFault}
use Rattle.fsfs_revision.specs.declared.book.BookFault.TheVariants as book
use Rattle.fsfs_revision.specs.declared.wrong.Refusal.TheVariants as refusal
use Rattle.fsfs_pack.specs.declared.answers.PackFault.{PackFault}
use Rattle.fsfs_pack.specs.declared.answers.PackFault.TheVariants.{Stuck, DiskFault, BenchFault, Missing, Small, Memory}

-- why the book gave nothing of the revision
abbrev pub fault_of : ℕ → BookFault → PackFault
fault_of rev book.DiskFault = DiskFault Read
fault_of rev book.OutOfMemory = Memory
fault_of rev (book.Refused (refusal.Small fault)) = Small fault
fault_of rev (book.Refused why) = Missing rev
fault_of rev (book.Short at offset) = Missing rev

-- where the disk failed
abbrev pub IfDisk : PackFault → Type 0 → Type 0
IfDisk (DiskFault place) P = P
IfDisk fault P = Unit {0}

-- where the bench did
abbrev pub IfBench : PackFault → Type 0 → Type 0
IfBench BenchFault P = P
IfBench fault P = Unit {0}

-- a count never falls, and rose where that failed
abbrev pub HasDiskCause : {T : Type 0} → ℕ → ℕ → Result T PackFault → Type 0
HasDiskCause before now result = counts.HasCause IfDisk before now result

abbrev pub HasBenchCause : {T : Type 0} → ℕ → ℕ → Result T PackFault → Type 0
HasBenchCause before now result = counts.HasCause IfBench before now result

-- a fault of a reading of this revision names it
abbrev pub IsReadOf : ℕ → PackFault → Type 0
IsReadOf rev (DiskFault place) = place ≡ Read
IsReadOf rev (Missing absent) = absent ≡ rev
IsReadOf rev (Stuck place) = ⊥
IsReadOf rev BenchFault = Unit {0}
IsReadOf rev (Small fault) = Unit {0}
IsReadOf rev Memory = Unit {0}

-- it came before the calls of the section: of a read, of the bench, or for want of memory
abbrev pub IsEarly : PackFault → Type 0
IsEarly (DiskFault place) = place ≡ Read
IsEarly fault = Unit {0}

-- the floor couldn't be read, or is damaged
abbrev pub IsUnread : PackFault → Type 0
IsUnread (DiskFault place) = place ≡ Read
IsUnread (Small fault) = Unit {0}
IsUnread fault = ⊥

-- the faults end with one at this place, but for benches that couldn't be dropped then
abbrev pub EndWith : DiskPlace → List DiskPlace → Type 0
EndWith place faults = (before : List DiskPlace) × (dropped : ℕ) × (faults ≡ before ++ place ∷ replicate dropped Remove)

-- a call of the section that failed, or the making of the bench, is the last that did
abbrev pub IsTold : PackFault → List DiskPlace → Type 0
IsTold (DiskFault (Pack place)) faults = EndWith (Pack place) faults
IsTold (DiskFault MakeBench) faults = EndWith MakeBench faults
IsTold fault faults = Unit {0}

-- something was wanting, and nothing was wrong with what was read
abbrev pub IsWant : PackFault → Type 0
IsWant (DiskFault place) = Unit {0}
IsWant BenchFault = Unit {0}
IsWant Memory = Unit {0}
IsWant (Missing rev) = ⊥
IsWant (Small fault) = ⊥
IsWant (Stuck place) = ⊥
