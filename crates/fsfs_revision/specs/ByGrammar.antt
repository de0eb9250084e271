-- The floor and the manifests, which the bytes of a revision are found by, are what the grammars of their files say.
use Rattle.std.specs.Prelude.{◌≡◌, ◌↔◌, ℕ, List, Ok, Err}
use Rattle.fsfs_base.specs.Files.{Files}
use Rattle.fsfs_base.specs.declared.small_fault.SmallFile.TheVariants.{MinUnpackedRev, Manifest}
use Rattle.fsfs_base.specs.declared.small_fault.SmallFault.{SmallFault}
use Rattle.fsfs_layout.specs.Layouts.{shard_size}
use Rattle.fsfs_layout.specs.declared.layout.Layout.{Layout}
use Rattle.fsfs_layout.specs.Small.{IsMinUnpackedRev, IsRefusedFile, IsMinUnpackedFault}
use Rattle.fsfs_layout.specs.Manifest.{IsManifest}
use Rattle.fsfs_revision.specs.RevBytes.{text_in, floor_in, manifest_in}

-- the floor is the one that `db/min-unpacked-rev` says, and a fault is the one that its bytes have
pub record FloorIsByGrammar (layout : Layout) (files : Files) : Type 0 where
  pub said : (rev : ℕ) → (floor_in layout files ≡ Ok rev) ↔ IsMinUnpackedRev layout (text_in files MinUnpackedRev) rev
  pub refused : (fault : SmallFault) → (floor_in layout files ≡ Err fault) ↔ IsMinUnpackedFault layout (text_in files MinUnpackedRev) fault

-- the offsets of a shard are those that its manifest says, and a fault is the one that its bytes have
pub record ManifestIsByGrammar (layout : Layout) (files : Files) (shard : ℕ) : Type 0 where
  pub said : (offsets : List ℕ) → (manifest_in layout files shard ≡ Ok offsets) ↔ IsManifest (shard_size layout) (text_in files (Manifest shard)) offsets
  pub refused : (fault : SmallFault) → (manifest_in layout files shard ≡ Err fault) ↔ IsRefusedFile (Manifest shard) (IsManifest (shard_size layout)) (text_in files (Manifest shard)) fault

abbrev pub FloorsAreByGrammar : Type 0
FloorsAreByGrammar = (layout : Layout) (files : Files) → FloorIsByGrammar layout files

abbrev pub ManifestsAreByGrammar : Type 0
ManifestsAreByGrammar = (layout : Layout) (files : Files) (shard : ℕ) → ManifestIsByGrammar layout files shard
