-- The write lock as a word: 0 where it is free, 1 where a pass holds it, and above these where it is stuck, the number of the place.
use Rattle.std.specs.Prelude.{ℕ, ◌==◌, if◌then◌else◌}
use Rattle.fsfs_base.specs.declared.places.place.OpenPlace.TheVariants as opening
use Rattle.fsfs_base.specs.declared.places.place.CreatePlace.TheVariants as creation
use Rattle.fsfs_base.specs.declared.places.place.BeginPlace.TheVariants as begin
use Rattle.fsfs_base.specs.declared.places.place.CommitPlace.TheVariants as commit
use Rattle.fsfs_base.specs.declared.places.place.PackPlace.TheVariants as pack
use Rattle.fsfs_base.specs.declared.places.place.DiskPlace.{DiskPlace}
use Rattle.fsfs_base.specs.declared.places.place.DiskPlace.TheVariants as place
use Rattle.fsfs_machine.specs.declared.machine.Lock.{Lock}
use Rattle.fsfs_machine.specs.declared.machine.Lock.TheVariants.{Free, Held, Stuck, Down, DownDoubtful, StuckFloor, DownFloor}

abbrev pub place_number : DiskPlace → ℕ
place_number place.Read = 2
place_number place.List = 3
place_number place.MakeBench = 4
place_number place.Remove = 5
place_number (place.Open opening.Firm) = 6
place_number (place.Open opening.Read) = 7
place_number (place.Create creation.Put) = 8
place_number (place.Create creation.Firm) = 9
place_number (place.Create creation.Rename) = 10
place_number (place.Create creation.Last) = 11
place_number (place.Begin begin.Read) = 12
place_number (place.Begin begin.Put) = 13
place_number (place.Begin begin.Rename) = 14
place_number (place.Begin begin.Firm) = 15
place_number (place.Commit commit.PutRev) = 16
place_number (place.Commit commit.PutProps) = 17
place_number (place.Commit commit.FirmRev) = 18
place_number (place.Commit commit.PutCurrent) = 19
place_number (place.Commit commit.RenameCurrent) = 20
place_number (place.Commit commit.FirmCurrent) = 21
place_number (place.Pack pack.AdoptPack) = 22
place_number (place.Pack pack.AdoptManifest) = 23
place_number (place.Pack pack.FirmPack) = 24
place_number (place.Pack pack.PutFloor) = 25
place_number (place.Pack pack.RenameFloor) = 26
place_number (place.Pack pack.FirmFloor) = 27

-- the place of a number; above the last one it is the last place
abbrev pub pack_place_at : ℕ → DiskPlace
pack_place_at n =
    if n == 22 then place.Pack pack.AdoptPack else (if n == 23 then place.Pack pack.AdoptManifest else (if n == 24 then place.Pack pack.FirmPack else
    (if n == 25 then place.Pack pack.PutFloor else (if n == 26 then place.Pack pack.RenameFloor else place.Pack pack.FirmFloor))))

abbrev pub commit_place_at : ℕ → DiskPlace
commit_place_at n =
    if n == 16 then place.Commit commit.PutRev else (if n == 17 then place.Commit commit.PutProps else (if n == 18 then place.Commit commit.FirmRev else
    (if n == 19 then place.Commit commit.PutCurrent else (if n == 20 then place.Commit commit.RenameCurrent else (if n == 21 then place.Commit commit.FirmCurrent else pack_place_at n)))))

abbrev pub begin_place_at : ℕ → DiskPlace
begin_place_at n =
    if n == 12 then place.Begin begin.Read else (if n == 13 then place.Begin begin.Put else (if n == 14 then place.Begin begin.Rename else
    (if n == 15 then place.Begin begin.Firm else commit_place_at n)))

abbrev pub create_place_at : ℕ → DiskPlace
create_place_at n =
    if n == 8 then place.Create creation.Put else (if n == 9 then place.Create creation.Firm else (if n == 10 then place.Create creation.Rename else
    (if n == 11 then place.Create creation.Last else begin_place_at n)))

abbrev pub place_at : ℕ → DiskPlace
place_at n =
    if n == 2 then place.Read else (if n == 3 then place.List else (if n == 4 then place.MakeBench else (if n == 5 then place.Remove else
    (if n == 6 then place.Open opening.Firm else (if n == 7 then place.Open opening.Read else create_place_at n)))))

abbrev pub lock_word : Lock → ℕ
lock_word Free = 0
lock_word (Held p s) = 1
lock_word (Stuck at x) = place_number at
lock_word Down = 0
lock_word (DownDoubtful x) = 0
lock_word (StuckFloor at) = place_number at
lock_word DownFloor = 0
