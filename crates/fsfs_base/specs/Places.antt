-- The word for each place of a call of a disk, as it is printed.
use Rattle.std.specs.Prelude.{ℕ, List, codes}
use Rattle.fsfs_base.specs.declared.places.place.OpenPlace.{OpenPlace}
use Rattle.fsfs_base.specs.declared.places.place.OpenPlace.TheVariants as opening
use Rattle.fsfs_base.specs.declared.places.place.CreatePlace.{CreatePlace}
use Rattle.fsfs_base.specs.declared.places.place.CreatePlace.TheVariants as creation
use Rattle.fsfs_base.specs.declared.places.place.BeginPlace.{BeginPlace}
use Rattle.fsfs_base.specs.declared.places.place.BeginPlace.TheVariants as begin
use Rattle.fsfs_base.specs.declared.places.place.CommitPlace.{CommitPlace}
use Rattle.fsfs_base.specs.declared.places.place.CommitPlace.TheVariants.{PutRev, PutProps, FirmRev, PutCurrent, RenameCurrent, FirmCurrent}
use Rattle.fsfs_base.specs.declared.places.place.PackPlace.{PackPlace}
use Rattle.fsfs_base.specs.declared.places.place.PackPlace.TheVariants as pack
use Rattle.fsfs_base.specs.declared.places.place.DiskPlace.{DiskPlace}
use Rattle.fsfs_base.specs.declared.places.place.DiskPlace.TheVariants as place

abbrev pub open_place_word : OpenPlace → List ℕ
open_place_word opening.Firm = codes "OpenFirm"
open_place_word opening.Read = codes "OpenRead"

abbrev pub create_place_word : CreatePlace → List ℕ
create_place_word creation.Put = codes "CreatePut"
create_place_word creation.Firm = codes "CreateFirm"
create_place_word creation.Rename = codes "CreateRename"
create_place_word creation.Last = codes "CreateLast"

abbrev pub begin_place_word : BeginPlace → List ℕ
begin_place_word begin.Read = codes "TxnRead"
begin_place_word begin.Put = codes "TxnPut"
begin_place_word begin.Rename = codes "TxnRename"
begin_place_word begin.Firm = codes "TxnFirm"

abbrev pub commit_place_word : CommitPlace → List ℕ
commit_place_word PutRev = codes "PutRev"
commit_place_word PutProps = codes "PutProps"
commit_place_word FirmRev = codes "FirmRev"
commit_place_word PutCurrent = codes "PutCurrent"
commit_place_word RenameCurrent = codes "RenameCurrent"
commit_place_word FirmCurrent = codes "FirmCurrent"

abbrev pub pack_place_word : PackPlace → List ℕ
pack_place_word pack.AdoptPack = codes "AdoptPack"
pack_place_word pack.AdoptManifest = codes "AdoptManifest"
pack_place_word pack.FirmPack = codes "FirmPack"
pack_place_word pack.PutFloor = codes "PutFloor"
pack_place_word pack.RenameFloor = codes "RenameFloor"
pack_place_word pack.FirmFloor = codes "FirmFloor"

abbrev pub place_word : DiskPlace → List ℕ
place_word place.Read = codes "Read"
place_word place.List = codes "List"
place_word place.MakeBench = codes "MakeBench"
place_word place.Remove = codes "Remove"
place_word (place.Open call) = open_place_word call
place_word (place.Create call) = create_place_word call
place_word (place.Begin call) = begin_place_word call
place_word (place.Commit call) = commit_place_word call
place_word (place.Pack call) = pack_place_word call
