-- What calls of a pack's section come to.
use Rattle.std.specs.Prelude.{◌≡◌, ℕ, List, [], ◌∷◌, ◌++◌, false, Option, Some, Result, OnOk, IfErr, if◌then◌else◌, codes}
use Rattle.fsfs_base.specs.Files.{Files}
use Rattle.fsfs_layout.specs.Layouts.{shard_size}
use Rattle.fsfs_layout.specs.Manifest.{IsManifest}
use Rattle.fsfs_base.specs.declared.places.place.DiskPlace.{DiskPlace}
use Rattle.fsfs_base.specs.declared.places.place.DiskPlace.TheVariants.{Pack}
use Rattle.fsfs_base.specs.declared.places.place.PackPlace.{PackPlace}
use Rattle.fsfs_machine.specs.declared.machine.Section.{Section}
use Rattle.fsfs_machine.specs.declared.machine.Section.TheVariants.{FloorDoubtful, Over}
use Rattle.fsfs_machine.specs.Machine.{starts}
use Rattle.fsfs_turn.specs.Alone.{BringsNoDoubt, leaves_stuck}
use Rattle.fsfs_turn.specs.Courses.{Course}
use Rattle.fsfs_turn.specs.Views.{View, Begins, IsFullShard, shard_parts}
use Rattle.fsfs_pack.specs.declared.shard.Shard.{Shard}
use Rattle.fsfs_pack.specs.Copies.{together, HasFile}

-- the names of the bench's two files
abbrev pub pack_text : List ℕ
pack_text = codes "pack"

abbrev pub manifest_text : List ℕ
manifest_text = codes "manifest"

-- Steps by which the pass added no revision: it saw more, and faults came.
pub record Along (v u : View) : Type 0 where
  pub is : u ≡ record v { pass = record v.pass { seen = u.pass.seen; floor = u.pass.floor; faults = u.pass.faults }; seen = u.seen; section = u.section; firm = u.firm }
  pub grows : Begins u.seen v.seen
  pub course : Course v u

-- the pass came to this place of its section, with this floor firm, and no fault came by which the lock has to be left stuck
pub record Reached (s : Section) (f : ℕ) (v u : View) : Type 0 where
  pub along : Along v u
  pub section : u.section ≡ Some s
  pub firm : u.firm ≡ Some f
  pub doubtless : BringsNoDoubt v u

-- where a fault at a place of a pack leaves the section
abbrev pub spoilt : PackPlace → Section
spoilt place = if leaves_stuck (Pack place) then FloorDoubtful (Pack place) else Over

-- the call at this place failed, the last that did
pub record Failed (place : PackPlace) (v u : View) : Type 0 where
  pub along : Along v u
  pub section : u.section ≡ Some (spoilt place)
  pub doubtless : leaves_stuck (Pack place) ≡ false → BringsNoDoubt v u
  pub before : List DiskPlace
  pub last : u.pass.faults ≡ before ++ Pack place ∷ []

-- calls of a pack's section from v: to s with this floor firm, or to the first that failed
pub record Goes (known : View → Type 0) (result : Result (Unit {0}) PackPlace) (s : Section) (f : ℕ) (v : View) : Type 0 where
  pub done : OnOk result ((u : View) × known u × Reached s f v u)
  pub failed : IfErr result (λ place. (u : View) × known u × Failed place v u)

-- This shard is the one at the firm floor, full as far as the pass has seen.
pub record IsNext (x : Shard) (v : View) : Type 0 where
  pub layout : x.layout ≡ v.layout
  pub full : IsFullShard v x.first

-- the bench has the shard's manifest
pub record HasManifest (x : Shard) (v : View) (held : Option Files) : Type 0 where
  pub text : List ℕ
  pub there : HasFile held manifest_text text
  pub lines : IsManifest (shard_size v.layout) text (starts 0 (shard_parts v x.first))

-- and its pack
pub record IsWritten (x : Shard) (v : View) (held : Option Files) : Type 0 where
  pub pack : HasFile held pack_text (together (shard_parts v x.first))
  pub manifest : HasManifest x v held
