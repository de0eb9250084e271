-- What a book in memory keeps is short, since a list in memory is.
use Rattle.std.proofs.Common.{◌≡◌, ℕ, ◌^◌, ◌<◌, List, length, Option, Some, None, Ok, subst, arith}
use Rattle.std.specs.Prelude.{slice_get}
use Rattle.fsfs_revision.specs.declared.mem_book.MemFile.{MemFile}
use Rattle.fsfs_revision.specs.declared.mem_book.MemFile.TheVariants.{Bytes, Absent, Damaged}
use Rattle.fsfs_revision.specs.declared.mem_book.MemRev.{MemRev}
use Rattle.fsfs_revision.specs.MemBook.{read_of, found_by, bytes_in}

abbrev IsShort : List ℕ → Type 0
IsShort bytes = length bytes < 2 ^ 64

-- what a file gives is short
length-read_of : (rev : ℕ) (kept : MemFile) (bytes : List ℕ) → read_of rev kept ≡ Ok bytes → IsShort bytes
length-read_of rev (Bytes v) bytes e =
    let same : v.items ≡ bytes = cc in
    let short : length v.items < 2 ^ 64 = omega (arith, v.ok.0, v.ok.1, v.small) in
    subst IsShort same short
length-read_of rev Absent bytes e = cc
length-read_of rev (Damaged fault) bytes e = cc

length-found_by : (rev count : ℕ) (found : Option MemRev) (bytes : List ℕ) → found_by (λ r. r.bytes) rev count found ≡ Ok bytes → IsShort bytes
length-found_by rev count None bytes e = cc
length-found_by rev count (Some found) bytes e = length-read_of rev found.bytes bytes e

pub length-bytes_in : (revs : List MemRev) (rev : ℕ) (bytes : List ℕ) → Some (bytes_in revs rev) ≡ Some (Ok bytes) → length bytes < 2 ^ 64
length-bytes_in revs rev bytes e =
    let read : bytes_in revs rev ≡ Ok bytes = cc in
    length-found_by rev (length revs) (slice_get revs rev) bytes read
