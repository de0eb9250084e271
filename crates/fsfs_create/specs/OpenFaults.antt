-- Why a repository is not opened.
use Rattle.std.specs.Prelude.{Option, IfSome, option_map, ◌≡◌}
use Rattle.fsfs_disk.specs.Trace.{Trace, files_now}
use Rattle.fsfs_layout.specs.Opening.{SmallTexts, small_texts, IsNone, HasFormat, IsLinear, IsRefused}
use Rattle.fsfs_create.specs.declared.opening.SmallFiles.{SmallFiles}
use Rattle.fsfs_base.specs.declared.places.open_fault.OpenFault.{OpenFault}
use Rattle.fsfs_base.specs.declared.places.open_fault.OpenFault.TheVariants.{NotRepo, OtherFormat, Linear, Small, DiskFault, Memory}
use Rattle.fsfs_disk.specs.declared.whole_files.file_fault.FileFault.{FileFault}
use Rattle.fsfs_disk.specs.declared.whole_files.file_fault.FileFault.TheVariants as file
use Rattle.fsfs_base.specs.declared.places.place.DiskPlace.{DiskPlace}
use Rattle.fsfs_base.specs.declared.places.place.DiskPlace.TheVariants.{Open}
use Rattle.fsfs_base.specs.declared.places.place.OpenPlace.TheVariants as place

abbrev pub texts_of : SmallFiles → SmallTexts
texts_of s = record {
  format = option_map (λ v. v.items) s.format;
  fs_type = s.fs_type.items;
  uuid = s.uuid.items;
  current = s.current.items;
  min_unpacked_rev = s.min_unpacked_rev.items;
  txn_current = s.txn_current.items;
}

-- a fact for a fault of the disk; want of memory is free, and nothing else comes
abbrev pub IfOutside : Type 0 → OpenFault → Type 0
IfOutside P NotRepo = ⊥
IfOutside P (OtherFormat number) = ⊥
IfOutside P Linear = ⊥
IfOutside P (Small fault) = ⊥
IfOutside P (DiskFault at) = P
IfOutside P Memory = Unit {0}

-- the same of a small file that is read
abbrev pub IfUnread : Type 0 → OpenFault → Type 0
IfUnread P NotRepo = ⊥
IfUnread P (OtherFormat number) = ⊥
IfUnread P Linear = ⊥
IfUnread P (Small fault) = ⊥
IfUnread P (DiskFault at) = P × (at ≡ Open place.Read)
IfUnread P Memory = Unit {0}

abbrev pub outside_of : FileFault → OpenFault
outside_of file.Failed = DiskFault (Open place.Read)
outside_of file.Memory = Memory

-- the cause of each refusal, in the bytes of the small files
abbrev pub JudgedBecause : SmallTexts → OpenFault → Type 0
JudgedBecause s NotRepo = IsNone s
JudgedBecause s (OtherFormat number) = HasFormat s number
JudgedBecause s Linear = IsLinear s
JudgedBecause s (Small fault) = IsRefused s fault
JudgedBecause s (DiskFault at) = ⊥
JudgedBecause s Memory = ⊥

-- an opening fails at one of its places
abbrev pub IsOpenPlace : DiskPlace → Type 0
IsOpenPlace (Open call) = Unit {0}
IsOpenPlace at = ⊥

-- the cause of each refusal, in the files of the disk; `rose` says that its count of faults rose
abbrev pub OpensBecause : Type 0 → Option Trace → OpenFault → Type 0
OpensBecause rose told NotRepo = IfSome told (λ t. IsNone (small_texts (files_now t)))
OpensBecause rose told (OtherFormat number) = IfSome told (λ t. HasFormat (small_texts (files_now t)) number)
OpensBecause rose told Linear = IfSome told (λ t. IsLinear (small_texts (files_now t)))
OpensBecause rose told (Small fault) = IfSome told (λ t. IsRefused (small_texts (files_now t)) fault)
OpensBecause rose told (DiskFault at) = rose × IsOpenPlace at
OpensBecause rose told Memory = Unit {0}
