-- How the lock is left behind a pack.
use Rattle.std.proofs.Common.{◌≡◌, inr, subst}
use Rattle.std.specs.Prelude.{Some, None, Result, Ok, Err}
use Rattle.fsfs_base.specs.declared.places.place.DiskPlace.{DiskPlace}
use Rattle.fsfs_base.specs.declared.places.place.DiskPlace.TheVariants.{Read, List, MakeBench, Remove, Open, Create, Begin, Commit, Pack}
use Rattle.fsfs_base.specs.declared.places.place.PackPlace.TheVariants.{AdoptPack, AdoptManifest, FirmPack, PutFloor, RenameFloor, FirmFloor}
use Rattle.fsfs_turn.specs.Views.{View, MayGive, MustStick}
use Rattle.fsfs_pack.specs.declared.answers.PackEnd.{PackEnd}
use Rattle.fsfs_pack.specs.declared.answers.PackFault.{PackFault}
use Rattle.fsfs_pack.specs.declared.answers.PackFault.TheVariants.{Stuck, DiskFault, BenchFault, Missing, Small, Memory}
use Rattle.fsfs_pack.specs.Packs.{EndsBy, stuck_by}

pub must_stick : (end : Result PackEnd PackFault) (place : DiskPlace) (v : View) → stuck_by end ≡ Some place → EndsBy end v → MustStick place v
must_stick (Ok end) place v is ends = absurd cc
must_stick (Err (Stuck at)) place v is ends = absurd cc
must_stick (Err BenchFault) place v is ends = absurd cc
must_stick (Err (Missing rev)) place v is ends = absurd cc
must_stick (Err (Small fault)) place v is ends = absurd cc
must_stick (Err Memory) place v is ends = absurd cc
must_stick (Err (DiskFault Read)) place v is ends = absurd cc
must_stick (Err (DiskFault List)) place v is ends = absurd cc
must_stick (Err (DiskFault MakeBench)) place v is ends = absurd cc
must_stick (Err (DiskFault Remove)) place v is ends = absurd cc
must_stick (Err (DiskFault (Open at))) place v is ends = absurd cc
must_stick (Err (DiskFault (Create at))) place v is ends = absurd cc
must_stick (Err (DiskFault (Begin at))) place v is ends = absurd cc
must_stick (Err (DiskFault (Commit at))) place v is ends = absurd cc
must_stick (Err (DiskFault (Pack AdoptPack))) place v is ends = absurd cc
must_stick (Err (DiskFault (Pack AdoptManifest))) place v is ends = absurd cc
must_stick (Err (DiskFault (Pack FirmPack))) place v is ends = absurd cc
must_stick (Err (DiskFault (Pack PutFloor))) place v is ends = absurd cc
must_stick (Err (DiskFault (Pack RenameFloor))) place v is ends = let same : Pack RenameFloor ≡ place = cc in subst (λ p. MustStick p v) same (inr ends)
must_stick (Err (DiskFault (Pack FirmFloor))) place v is ends = let same : Pack FirmFloor ≡ place = cc in subst (λ p. MustStick p v) same (inr ends)

pub may_be_given : (end : Result PackEnd PackFault) (v : View) → stuck_by end ≡ None → EndsBy end v → MayGive v
may_be_given (Ok end) v is ends = ends
may_be_given (Err (Stuck at)) v is ends = ends
may_be_given (Err BenchFault) v is ends = ends
may_be_given (Err (Missing rev)) v is ends = ends
may_be_given (Err (Small fault)) v is ends = ends
may_be_given (Err Memory) v is ends = ends
may_be_given (Err (DiskFault Read)) v is ends = ends
may_be_given (Err (DiskFault List)) v is ends = ends
may_be_given (Err (DiskFault MakeBench)) v is ends = ends
may_be_given (Err (DiskFault Remove)) v is ends = ends
may_be_given (Err (DiskFault (Open at))) v is ends = ends
may_be_given (Err (DiskFault (Create at))) v is ends = ends
may_be_given (Err (DiskFault (Begin at))) v is ends = ends
may_be_given (Err (DiskFault (Commit at))) v is ends = ends
may_be_given (Err (DiskFault (Pack AdoptPack))) v is ends = ends
may_be_given (Err (DiskFault (Pack AdoptManifest))) v is ends = ends
may_be_given (Err (DiskFault (Pack FirmPack))) v is ends = ends
may_be_given (Err (DiskFault (Pack PutFloor))) v is ends = ends
may_be_given (Err (DiskFault (Pack RenameFloor))) v is ends = absurd cc
may_be_given (Err (DiskFault (Pack FirmFloor))) v is ends = absurd cc
