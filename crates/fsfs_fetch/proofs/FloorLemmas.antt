-- The floor, as it is read.
use Rattle.std.proofs.Common.{◌≡◌, ℕ, ◌-◌, List, [], length, take, min, sym, ap, subst, ◌∙◌, arith}
use Rattle.std.specs.Prelude.{Option, Some, None, Result, IfSome, unwrap_or, codes}
use Rattle.std.proofs.lemmas.List.{take_min}
use Rattle.std.specs.FinMap as map
use Rattle.fsfs_base.specs.Files.{Files}
use Rattle.fsfs_base.specs.declared.small_fault.SmallFile.TheVariants.{MinUnpackedRev}
use Rattle.fsfs_base.specs.declared.small_fault.SmallFault.{SmallFault}
use Rattle.fsfs_disk.specs.Trace.{IsRead}
use Rattle.fsfs_layout.specs.declared.layout.Layout.{Layout}
use Rattle.fsfs_revision.specs.RevBytes.{floor_of, floor_in, text_in}
use Rattle.fsfs_fetch.specs.Answers.{refused}
use Rattle.fsfs_disk.proofs.WholeFiles.{read_bytes}

-- one call reads the first 64 bytes
first_bytes : (file : Option (List ℕ)) (old new : List ℕ) (found : Option ℕ) → length old ≡ 64 → IsRead file 0 old new found → take (unwrap_or found 0) new ≡ take 64 (unwrap_or file [])
first_bytes None old new found size read = (λ i. take (unwrap_or (read.0 i) 0) new)
first_bytes (Some bytes) old new found size read =
    let k : ℕ = min (length old) (length bytes - 0) in
    (λ i. take (unwrap_or (read.0 i) 0) new) ∙ ap (take k) read.1 ∙ read_bytes bytes old 0 k (omega arith) ∙ ap (λ j. take j bytes) (omega (arith, size)) ∙ take_min 64 bytes

floor_at : (m : Files) (n k : Layout) (name old new text : List ℕ) (found : Option ℕ) (r : Result ℕ SmallFault) → n ≡ k → name ≡ codes "db/min-unpacked-rev" → length old ≡ 64 → IsRead (map.get m name) 0 old new found → text ≡ take (unwrap_or found 0) new → floor_of n text ≡ r
    → refused (floor_in k m) ≡ refused r
unfolding floor_in
floor_at m n k name old new text found r e named size read is floor =
    let P : List ℕ → Type 0 = λ t. IsRead (map.get m t) 0 old new found in
    let whole : text ≡ take 64 (text_in m MinUnpackedRev) = is ∙ first_bytes (map.get m (codes "db/min-unpacked-rev")) old new found size (subst P named read) in
    ap refused ((λ i. floor_of (sym e i) (sym whole i)) ∙ floor)

pub floor_found : (files : Option Files) (n k : Layout) (name old new text : List ℕ) (found : Option ℕ) (r : Result ℕ SmallFault) → n ≡ k → name ≡ codes "db/min-unpacked-rev" → length old ≡ 64 → IfSome files (λ m. IsRead (map.get m name) 0 old new found) → text ≡ take (unwrap_or found 0) new → floor_of n text ≡ r
    → IfSome files (λ m. refused (floor_in k m) ≡ refused r)
floor_found None n k name old new text found r e named size read is floor = tt
floor_found (Some m) n k name old new text found r e named size read is floor = floor_at m n k name old new text found r e named size read is floor
