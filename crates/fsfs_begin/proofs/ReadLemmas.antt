-- What the first bytes of `db/txn-current` say is what the file says.
use Rattle.std.proofs.Common.{◌≡◌, ◌-◌, ℕ, List, [], ◌++◌, length, take, drop, min, ⊎_elim, sym, ap, ◌∙◌, arith}
use Rattle.std.proofs.lemmas.Bool.{cases_lt}
use Rattle.std.proofs.lemmas.List.{take_all}
use Rattle.std.proofs.lemmas.Option.{same_Some}
use Rattle.std.specs.Prelude.{Option, Some, None, unwrap_or}
use Rattle.fsfs_base.specs.declared.small_fault.SmallFile.TheVariants as file
use Rattle.fsfs_disk.specs.Trace.{IsRead}
use Rattle.fsfs_disk.proofs.WholeFiles.{read_bytes}

-- as many bytes as one read gives into 64
first_bytes : (bytes : List ℕ) (n : ℕ) → n ≡ min 64 (length bytes) → take n bytes ≡ take 64 bytes
first_bytes bytes n is =
    ⊎_elim (λ long. let same : n ≡ 64 = omega (arith, is, long) in ap (λ (k : ℕ). take k bytes) same)
    (λ short. take_all n bytes (omega (arith, is, short)) ∙ sym (take_all 64 bytes (omega (arith, short)))) (cases_lt 64 (length bytes))

got_bytes : (bytes old new : List ℕ) (n : ℕ) → length old ≡ 64 → n ≡ min (length old) (length bytes - 0) → new ≡ take n (drop 0 bytes) ++ drop n old → take n new ≡ take 64 bytes
got_bytes bytes old new n size is read =
    ap (λ (s : List ℕ). take n s) read ∙ read_bytes bytes old 0 n (omega (arith, is)) ∙ first_bytes bytes n (omega (arith, is, size))

-- what is read are the first bytes
pub read_first : (file : Option (List ℕ)) (old new : List ℕ) (found : Option ℕ) (n : ℕ) → length old ≡ 64 → IsRead file 0 old new found → found ≡ Some n → take n new ≡ take 64 (unwrap_or file [])
read_first None old new found n size read is = let h : None ≡ Some n = sym read.0 ∙ is in cc
read_first (Some bytes) old new found n size read is =
    let count : min (length old) (length bytes - 0) ≡ n = same_Some (min (length old) (length bytes - 0)) n (sym read.0 ∙ is) in
    got_bytes bytes old new n size (sym count) (read.1 ∙ ap (λ (k : ℕ). take k (drop 0 bytes) ++ drop k old) count)
