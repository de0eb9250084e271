-- What the answers of a merge's steps mean to the merge.
use Rattle.std.proofs.Common.{◌≡◌, ℕ, Ok, Err}
use Rattle.std.specs.declared.vec.Vec.{Vec}
use Rattle.std.specs.declared.alloc.Global.{Global}
use Rattle.fsfs_base.specs.Paths.{Path}
use Rattle.fsfs_base.specs.declared.fields.txn_name.TxnName.{TxnName}
use Rattle.fsfs_revision.specs.declared.wrong.ReadError.{ReadError}
use Rattle.fsfs_revision.specs.declared.wrong.ReadError.TheVariants as reads
use Rattle.fsfs_revision.specs.Damage.Readings.{Answers}
use Rattle.fsfs_revision.specs.Told.{RevisionBytes}
use Rattle.fsfs_draft.specs.Drafts.{Folder}
use Rattle.fsfs_draft.specs.Causes.{IfDisk}
use Rattle.fsfs_draft.specs.Errors.{IfMemory, IsWant, IfStays, of_own, of_read}
use Rattle.fsfs_draft.specs.declared.txn_noderevs.OwnError.{OwnError}
use Rattle.fsfs_draft.specs.declared.txn_noderevs.OwnError.TheVariants as owns
use Rattle.fsfs_draft.specs.declared.error.EditError.{EditError}
use Rattle.fsfs_draft.specs.declared.error.EditError.TheVariants as errors
use Rattle.fsfs_merge.specs.declared.clash.merged.MergedDir.{MergedDir}
use Rattle.fsfs_merge.specs.declared.clash.walk.Merge.{Merge}
use Rattle.fsfs_merge.specs.declared.clash.walk.Merge.TheVariants as merges
use Rattle.fsfs_merge.specs.Clash.Merges.{MergeOf}
use Rattle.fsfs_merge.specs.Clash.Points.{Point}
use Rattle.fsfs_merge.specs.Clash.Turning.{IsFailure}
use Rattle.fsfs_merge.specs.Relinked.{AreHere, IsUnwritten}
use Rattle.fsfs_merge.specs.Landings.{TellsMerge}

-- ---- the steps of the writing

pub want_as : (e : EditError) (P Q : Type 0) → (P → Q) → IsWant e P → IsWant e Q
want_as errors.BenchFault P Q g h = h
want_as errors.OutOfMemory P Q g h = h
want_as errors.DiskFault P Q g h = h
want_as (errors.Wrong w) P Q g h = h
want_as errors.Lacking P Q g h = g h

pub want_unwritten : (e : EditError) (P Q : Type 0) → IsWant e P → Q → IsUnwritten e P Q
want_unwritten errors.BenchFault P Q h q = tt
want_unwritten errors.OutOfMemory P Q h q = q
want_unwritten errors.DiskFault P Q h q = h
want_unwritten (errors.Wrong w) P Q h q = h
want_unwritten errors.Lacking P Q h q = (h, q)

pub settle_unwritten : (e : OwnError) (P Q R : Type 0) → (R → Q) → IfMemory e R → IsUnwritten (of_own e) P Q
settle_unwritten owns.OutOfMemory P Q R g h = g h
settle_unwritten owns.BenchFault P Q R g h = tt

-- ---- over a draft

pub read_stays : (e : ReadError) (P : Type 0) → IsFailure e → P → IfStays (of_read e) P
read_stays reads.OutOfMemory P h p = p
read_stays reads.DiskFault P h p = p
read_stays (reads.Wrong w) P h p = h

pub write_stays : (e : EditError) (P Q : Type 0) → (P → ⊥) → IsUnwritten e P Q → IfStays e Q
write_stays errors.BenchFault P Q never h = tt
write_stays errors.OutOfMemory P Q never h = h
write_stays errors.DiskFault P Q never h = absurd h
write_stays (errors.Wrong w) P Q never h = h
write_stays errors.Lacking P Q never h = never h.0

-- no failure of a disk
pub write_quiet : (e : EditError) (P Q R : Type 0) → IsUnwritten e P Q → IfDisk e R
write_quiet errors.BenchFault P Q R h = tt
write_quiet errors.OutOfMemory P Q R h = tt
write_quiet errors.DiskFault P Q R h = absurd h
write_quiet (errors.Wrong w) P Q R h = tt
write_quiet errors.Lacking P Q R h = tt

-- ---- over whatever bytes and folder

abbrev pub this : Merge → Merge
this merge = merge

module _ (look : RevisionBytes) (top : ℕ) (txn : TxnName) (base head : ℕ) (see : Path → Point) (before after : Folder) where
  pub read_told : (e : ReadError) → Answers this (MergeOf look top txn before base head see) (Err e) → after ≡ before → TellsMerge look top txn base head see before after (Err (of_read e))
  read_told reads.OutOfMemory h same = same
  read_told reads.DiskFault h same = same
  read_told (reads.Wrong w) h same = (h, same)

  pub write_told : (e : EditError) (dirs : Vec MergedDir Global) → MergeOf look top txn before base head see (Ok (merges.Dirs dirs)) → IsUnwritten e (AreHere before dirs.items → ⊥) (after ≡ before) → TellsMerge look top txn base head see before after (Err e)
  write_told errors.BenchFault dirs found h = (dirs, found)
  write_told errors.OutOfMemory dirs found h = h
  write_told errors.DiskFault dirs found h = absurd h
  write_told (errors.Wrong w) dirs found h = absurd h
  write_told errors.Lacking dirs found h = (dirs, found, h.0, h.1)
