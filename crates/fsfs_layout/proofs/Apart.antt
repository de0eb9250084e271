-- No two files have one name.
use Rattle.std.proofs.Common.{◌≡◌, ℕ, ◌/◌, ◌<◌, ◌≤◌, ◌^◌, Bool, true, false, cond, eqb, List, [], ◌∷◌, ◌++◌, length, refl, sym, ap, ◌∙◌, append_assoc, arith}
use Rattle.std.specs.Prelude.{codes}
use Rattle.std.specs.Str.{bytes_eq}
use Rattle.std.specs.Fmt.{decimal}
use Rattle.std.proofs.lemmas.List.{append_cancel_left, append-nil}
use Rattle.std.proofs.Math.Nat.{div-le_self}
use Rattle.fsfs_base.specs.Grammar.Numeral.{digit, value_after, IsNumeral}
use Rattle.fsfs_base.specs.Grammar.Base36.{base36}
use Rattle.fsfs_base.proofs.Unique.{AreDigits, decimal_numeral, numeral_digits}
use Rattle.fsfs_base.proofs.Base36Texts.{base36_numeral, b36_same}
use Rattle.fsfs_base.specs.Fields.TxnNames.{txn_text}
use Rattle.fsfs_layout.specs.Names.{in_pack, with_txn}
use Rattle.fsfs_layout.specs.Folders.{AreShards, shard_folder}
use Rattle.fsfs_layout.specs.declared.folders.Folders.{Folders}
use Rattle.fsfs_layout.specs.declared.folders.Folders.TheVariants.{Shards, OneFolder}
use Rattle.fsfs_base.specs.declared.fields.txn_name.TxnName.{TxnName}
use Rattle.fsfs_layout.specs.FileNames.{only_name, file_name as name_of, FitsTxn, FitsFile as Fits, NamesAreApart}
use Rattle.fsfs_layout.specs.declared.repository_file.RepositoryFile.{RepositoryFile}
use Rattle.fsfs_layout.specs.declared.repository_file.RepositoryFile.TheVariants as file
use Rattle.fsfs_layout.specs.declared.txn_file.TxnFile.TheVariants as part
use Rattle.fsfs_layout.specs.declared.layout.Layout.{Layout}
use Rattle.fsfs_layout.specs.declared.only_file.OnlyFile.{OnlyFile}
use Rattle.fsfs_layout.specs.declared.only_file.OnlyFile.TheVariants.{RepositoryFormat, Format, FormatNext, FsType, Uuid, Current, CurrentNext, MinUnpackedRev, MinUnpackedRevNext, TxnCurrent, TxnCurrentNext, TxnCurrentLock, WriteLock, Revisions, RevisionProps, Transactions, ProtoRevisions}

-- ---- files by the folder that they are in

data RevsFile : Type 0 where
  Shard : ℕ → RevsFile
  Revision : ℕ → RevsFile
  PackFolder : ℕ → RevsFile
  Pack : ℕ → RevsFile
  Manifest : ℕ → RevsFile

data PropsFile : Type 0 where
  PropsShard : ℕ → PropsFile
  Props : ℕ → PropsFile

data TxnFile : Type 0 where
  Folder : TxnFile
  Below : List ℕ → TxnFile

abbrev txn_file_end : TxnFile → List ℕ
txn_file_end Folder = codes ".txn"
txn_file_end (Below part) = codes ".txn/" ++ part

data ProtoFile : Type 0 where
  Texts : ProtoFile
  Lock : ProtoFile

abbrev proto_file_end : ProtoFile → List ℕ
proto_file_end Texts = codes ".rev"
proto_file_end Lock = codes ".rev-lock"

data File : Type 0 where
  Only : OnlyFile → File
  InRevs : RevsFile → File
  InProps : PropsFile → File
  OfTxn : TxnName → TxnFile → File
  OfProto : TxnName → ProtoFile → File

-- a revision's name in its folder
abbrev rev_in : List ℕ → Folders → ℕ → List ℕ
rev_in folder k rev = folder ++ shard_folder k rev ++ 47 ∷ decimal rev

abbrev revs_name : Folders → RevsFile → List ℕ
revs_name k (Shard n) = codes "db/revs/" ++ decimal n
revs_name k (Revision rev) = rev_in (codes "db/revs") k rev
revs_name k (PackFolder n) = codes "db/revs/" ++ decimal n ++ codes ".pack"
revs_name k (Pack n) = in_pack n (codes "/pack")
revs_name k (Manifest n) = in_pack n (codes "/manifest")

abbrev props_name : Folders → PropsFile → List ℕ
props_name k (PropsShard n) = codes "db/revprops/" ++ decimal n
props_name k (Props rev) = rev_in (codes "db/revprops") k rev

abbrev file_name : Folders → File → List ℕ
file_name k (Only f) = only_name f
file_name k (InRevs f) = revs_name k f
file_name k (InProps f) = props_name k f
file_name k (OfTxn txn f) = with_txn (codes "db/transactions/") txn (txn_file_end f)
file_name k (OfProto txn f) = with_txn (codes "db/txn-protorevs/") txn (proto_file_end f)

abbrev FitsRevs : Folders → RevsFile → Type 0
FitsRevs k (Shard n) = AreShards k × (n < 2 ^ 32)
FitsRevs k (Revision rev) = rev < 2 ^ 32
FitsRevs k (PackFolder n) = n < 2 ^ 32
FitsRevs k (Pack n) = n < 2 ^ 32
FitsRevs k (Manifest n) = n < 2 ^ 32

abbrev FitsProps : Folders → PropsFile → Type 0
FitsProps k (PropsShard n) = AreShards k × (n < 2 ^ 32)
FitsProps k (Props rev) = rev < 2 ^ 32

abbrev FitsFile : Folders → File → Type 0
FitsFile k (Only f) = Unit {0}
FitsFile k (InRevs f) = FitsRevs k f
FitsFile k (InProps f) = FitsProps k f
FitsFile k (OfTxn txn f) = FitsTxn txn
FitsFile k (OfProto txn f) = FitsTxn txn

-- ---- numbers in names

-- no digit stands first
abbrev NoDigit : ℕ → List ℕ → Type 0
NoDigit base [] = Unit {0}
NoDigit base (c ∷ cs) = base ≤ digit c

same_front : (base : ℕ) (s t p q : List ℕ) → AreDigits base s → AreDigits base t → NoDigit base p → NoDigit base q → s ++ p ≡ t ++ q → (s ≡ t) × (p ≡ q)
same_front base [] [] p q a b c d e = (refl, e)
same_front base [] (x ∷ t) [] q a b c d e = absurd cc
same_front base [] (x ∷ t) (y ∷ p) q a b c d e = let same : y ≡ x = cc in absurd (omega (arith, ap digit same, c, b.0))
same_front base (x ∷ s) [] p [] a b c d e = absurd cc
same_front base (x ∷ s) [] p (y ∷ q) a b c d e = let same : x ≡ y = cc in absurd (omega (arith, ap digit same, d, a.0))
same_front base (x ∷ s) (y ∷ t) p q a b c d e =
    let first : x ≡ y = cc in
    let rest : s ++ p ≡ t ++ q = cc in
    let w = same_front base s t p q a.1 b.1 c d rest in
    ((λ i. first i ∷ w.0 i), w.1)

same_number : (base m n : ℕ) (s t : List ℕ) → IsNumeral base s m → IsNumeral base t n → s ≡ t → m ≡ n
same_number base m n s t a b e = sym (numeral_digits base s m a).2 ∙ ap (value_after base 0) e ∙ (numeral_digits base t n b).2

same_decimal : (m n : ℕ) (p q : List ℕ) → m < 2 ^ 64 → n < 2 ^ 64 → NoDigit 10 p → NoDigit 10 q → decimal m ++ p ≡ decimal n ++ q → (m ≡ n) × (p ≡ q)
same_decimal m n p q fits fits' c d e =
    let a = decimal_numeral m fits in
    let b = decimal_numeral n fits' in
    let w = same_front 10 (decimal m) (decimal n) p q (numeral_digits 10 (decimal m) m a).0 (numeral_digits 10 (decimal n) n b).0 c d e in
    (same_number 10 m n (decimal m) (decimal n) a b w.0, w.1)

same_base36 : (m n : ℕ) (p q : List ℕ) → m < 170581728179578208256 → n < 170581728179578208256 → NoDigit 36 p → NoDigit 36 q → base36 m ++ p ≡ base36 n ++ q → (m ≡ n) × (p ≡ q)
same_base36 m n p q fits fits' c d e =
    let a = base36_numeral m fits in
    let b = base36_numeral n fits' in
    let w = same_front 36 (base36 m) (base36 n) p q (numeral_digits 36 (base36 m) m a).0 (numeral_digits 36 (base36 n) n b).0 c d e in
    (same_number 36 m n (base36 m) (base36 n) a b w.0, w.1)

same_name : (a b : TxnName) → a.base ≡ b.base → a.number.number ≡ b.number.number → a ≡ b
same_name a b base number = let same : a.number ≡ b.number = b36_same a.number b.number number in λ i. record { base = base i; number = same i }

record SameTxn (a b : TxnName) (p q : List ℕ) : Type 0 where
  pub txn : a ≡ b
  pub rest : p ≡ q

same_txn : (front p q : List ℕ) (a b : TxnName) → FitsTxn a → FitsTxn b → NoDigit 36 p → NoDigit 36 q → with_txn front a p ≡ with_txn front b q → SameTxn a b p q
same_txn front p q s t fs ft np nq e =
    let b = s.base in
    let c = t.base in
    let m = s.number.number in
    let n = t.number.number in
    let one : front ++ (decimal b ++ (45 ∷ (base36 m ++ p))) ≡ front ++ (decimal c ++ (45 ∷ (base36 n ++ q))) = sym (parts b m p) ∙ e ∙ parts c n q in
    let two = same_decimal b c (45 ∷ (base36 m ++ p)) (45 ∷ (base36 n ++ q)) (omega (arith, fs.0)) (omega (arith, ft.0)) (omega arith) (omega arith) (append_cancel_left front (decimal b ++ (45 ∷ (base36 m ++ p))) (decimal c ++ (45 ∷ (base36 n ++ q))) one) in
    let tail = two.1 in
    let three = same_base36 m n p q fs.1 ft.1 np nq (let t : base36 m ++ p ≡ base36 n ++ q = cc in t) in
    record { txn = same_name s t two.0 three.0; rest = three.1 }
  where
    parts : (b m : ℕ) (p : List ℕ) → front ++ txn_text b m ++ p ≡ front ++ (decimal b ++ (45 ∷ (base36 m ++ p)))
    parts b m p = simp append_assoc

-- ---- which folder a name is in

abbrev starts : List ℕ → List ℕ → Bool
starts [] text = true
starts (c ∷ cs) [] = false
starts (c ∷ cs) (b ∷ bs) = cond (eqb b c) (starts cs bs) false

abbrev group : List ℕ → ℕ
group text = cond (starts (codes "db/revs/") text) 1 (cond (starts (codes "db/revprops/") text) 2 (cond (starts (codes "db/transactions/") text) 3 (cond (starts (codes "db/txn-protorevs/") text) 4 0)))

abbrev group_of : File → ℕ
group_of (Only f) = 0
group_of (InRevs f) = 1
group_of (InProps f) = 2
group_of (OfTxn txn f) = 3
group_of (OfProto txn f) = 4

only_group : (f : OnlyFile) → group (only_name f) ≡ 0
only_group RepositoryFormat = refl
only_group Format = refl
only_group FormatNext = refl
only_group FsType = refl
only_group Uuid = refl
only_group Current = refl
only_group CurrentNext = refl
only_group MinUnpackedRev = refl
only_group MinUnpackedRevNext = refl
only_group TxnCurrent = refl
only_group TxnCurrentNext = refl
only_group TxnCurrentLock = refl
only_group WriteLock = refl
only_group Revisions = refl
only_group RevisionProps = refl
only_group Transactions = refl
only_group ProtoRevisions = refl

name_group : (k : Folders) (f : File) → group (file_name k f) ≡ group_of f
name_group k (Only f) = only_group f
name_group k (InRevs (Shard n)) = refl
name_group (Shards size) (InRevs (Revision rev)) = refl
name_group OneFolder (InRevs (Revision rev)) = refl
name_group k (InRevs (PackFolder n)) = refl
name_group k (InRevs (Pack n)) = refl
name_group k (InRevs (Manifest n)) = refl
name_group k (InProps (PropsShard n)) = refl
name_group (Shards size) (InProps (Props rev)) = refl
name_group OneFolder (InProps (Props rev)) = refl
name_group k (OfTxn txn f) = refl
name_group k (OfProto txn f) = refl

-- ---- within a folder

-- the file of a name that is there once
abbrev only_of : List ℕ → OnlyFile
only_of text =
    cond (bytes_eq text (codes "format")) RepositoryFormat (cond (bytes_eq text (codes "db/format")) Format (cond (bytes_eq text (codes "db/format-next")) FormatNext
    (cond (bytes_eq text (codes "db/fs-type")) FsType (cond (bytes_eq text (codes "db/uuid")) Uuid (cond (bytes_eq text (codes "db/current")) Current (cond (bytes_eq text (codes "db/current-next")) CurrentNext
    (cond (bytes_eq text (codes "db/min-unpacked-rev")) MinUnpackedRev (cond (bytes_eq text (codes "db/min-unpacked-rev-next")) MinUnpackedRevNext (cond (bytes_eq text (codes "db/txn-current")) TxnCurrent
    (cond (bytes_eq text (codes "db/txn-current-next")) TxnCurrentNext (cond (bytes_eq text (codes "db/txn-current-lock")) TxnCurrentLock (cond (bytes_eq text (codes "db/write-lock")) WriteLock
    (cond (bytes_eq text (codes "db/revs")) Revisions (cond (bytes_eq text (codes "db/revprops")) RevisionProps (cond (bytes_eq text (codes "db/transactions")) Transactions ProtoRevisions)))))))))))))))

only_back : (f : OnlyFile) → only_of (only_name f) ≡ f
only_back RepositoryFormat = refl
only_back Format = refl
only_back FormatNext = refl
only_back FsType = refl
only_back Uuid = refl
only_back Current = refl
only_back CurrentNext = refl
only_back MinUnpackedRev = refl
only_back MinUnpackedRevNext = refl
only_back TxnCurrent = refl
only_back TxnCurrentNext = refl
only_back TxnCurrentLock = refl
only_back WriteLock = refl
only_back Revisions = refl
only_back RevisionProps = refl
only_back Transactions = refl
only_back ProtoRevisions = refl

-- a number and what stands behind it
abbrev rev_number : Folders → ℕ → ℕ
rev_number (Shards size) rev = rev / size
rev_number OneFolder rev = rev

abbrev rev_end : Folders → ℕ → List ℕ
rev_end (Shards size) rev = 47 ∷ decimal rev
rev_end OneFolder rev = []

abbrev revs_number : Folders → RevsFile → ℕ
revs_number k (Shard n) = n
revs_number k (Revision rev) = rev_number k rev
revs_number k (PackFolder n) = n
revs_number k (Pack n) = n
revs_number k (Manifest n) = n

abbrev revs_end : Folders → RevsFile → List ℕ
revs_end k (Shard n) = []
revs_end k (Revision rev) = rev_end k rev
revs_end k (PackFolder n) = codes ".pack"
revs_end k (Pack n) = codes ".pack/pack"
revs_end k (Manifest n) = codes ".pack/manifest"

rev_parts : (folder : List ℕ) (k : Folders) (rev : ℕ) → rev_in folder k rev ≡ folder ++ 47 ∷ (decimal (rev_number k rev) ++ rev_end k rev)
rev_parts folder (Shards size) rev = simp append_assoc
rev_parts folder OneFolder rev = ap (λ (t : List ℕ). t ++ 47 ∷ decimal rev) (append-nil folder) ∙ ap (λ (t : List ℕ). folder ++ 47 ∷ t) (sym (append-nil (decimal rev)))

revs_parts : (k : Folders) (f : RevsFile) → revs_name k f ≡ codes "db/revs/" ++ (decimal (revs_number k f) ++ revs_end k f)
revs_parts k (Shard n) = ap (λ (t : List ℕ). codes "db/revs/" ++ t) (sym (append-nil (decimal n)))
revs_parts k (Revision rev) = rev_parts (codes "db/revs") k rev
revs_parts k (PackFolder n) = simp append_assoc
revs_parts k (Pack n) = simp append_assoc
revs_parts k (Manifest n) = simp append_assoc

rev_no_digit : (k : Folders) (rev : ℕ) → NoDigit 10 (rev_end k rev)
rev_no_digit (Shards size) rev = omega arith
rev_no_digit OneFolder rev = tt

revs_no_digit : (k : Folders) (f : RevsFile) → NoDigit 10 (revs_end k f)
revs_no_digit k (Shard n) = tt
revs_no_digit k (Revision rev) = rev_no_digit k rev
revs_no_digit k (PackFolder n) = omega arith
revs_no_digit k (Pack n) = omega arith
revs_no_digit k (Manifest n) = omega arith

div_fits : (n k : ℕ) → n < 2 ^ 32 → n / k < 2 ^ 64
div_fits n k fits = omega (arith, fits, div-le_self n k)

rev_fits : (k : Folders) (rev : ℕ) → rev < 2 ^ 32 → rev_number k rev < 2 ^ 64
rev_fits (Shards size) rev fits = div_fits rev size fits
rev_fits OneFolder rev fits = omega arith

revs_fits : (k : Folders) (f : RevsFile) → FitsRevs k f → revs_number k f < 2 ^ 64
revs_fits k (Shard n) fits = omega (arith, fits.1)
revs_fits k (Revision rev) fits = rev_fits k rev fits
revs_fits k (PackFolder n) fits = omega arith
revs_fits k (Pack n) fits = omega arith
revs_fits k (Manifest n) fits = omega arith

rev_ends : (r s : ℕ) → r < 2 ^ 32 → s < 2 ^ 32 → (47 ∷ decimal r) ≡ (47 ∷ decimal s) → r ≡ s
rev_ends r s fr fs e =
    let tails : decimal r ≡ decimal s = cc in
    same_number 10 r s (decimal r) (decimal s) (decimal_numeral r (omega arith)) (decimal_numeral s (omega arith)) tails

not_nil : (c : ℕ) (cs : List ℕ) → (c ∷ cs) ≡ [] → ⊥
not_nil c cs e = cc

heads : (c d : ℕ) (cs ds : List ℕ) → (c ∷ cs) ≡ (d ∷ ds) → c ≡ d
heads c d cs ds e = cc

-- two files of which the number and what stands behind it are the same, in shards
in_shards : (size : ℕ) (a b : RevsFile) → FitsRevs (Shards size) a → FitsRevs (Shards size) b → revs_number (Shards size) a ≡ revs_number (Shards size) b → revs_end (Shards size) a ≡ revs_end (Shards size) b → a ≡ b
in_shards size (Shard n) (Shard m) fa fb e t = ap (λ (x : ℕ). Shard x) e
in_shards size (Shard n) (Revision m) fa fb e t = absurd (not_nil 47 (decimal m) (sym t))
in_shards size (Shard n) (PackFolder m) fa fb e t = absurd (not_nil 46 (codes "pack") (sym t))
in_shards size (Shard n) (Pack m) fa fb e t = absurd (not_nil 46 (codes "pack/pack") (sym t))
in_shards size (Shard n) (Manifest m) fa fb e t = absurd (not_nil 46 (codes "pack/manifest") (sym t))
in_shards size (Revision n) (Shard m) fa fb e t = absurd (not_nil 47 (decimal n) t)
in_shards size (Revision n) (Revision m) fa fb e t = ap (λ (x : ℕ). Revision x) (rev_ends n m fa fb t)
in_shards size (Revision n) (PackFolder m) fa fb e t = absurd (omega (arith, heads 47 46 (decimal n) (codes "pack") t))
in_shards size (Revision n) (Pack m) fa fb e t = absurd (omega (arith, heads 47 46 (decimal n) (codes "pack/pack") t))
in_shards size (Revision n) (Manifest m) fa fb e t = absurd (omega (arith, heads 47 46 (decimal n) (codes "pack/manifest") t))
in_shards size (PackFolder n) (Shard m) fa fb e t = absurd (not_nil 46 (codes "pack") t)
in_shards size (PackFolder n) (Revision m) fa fb e t = absurd (omega (arith, heads 46 47 (codes "pack") (decimal m) t))
in_shards size (PackFolder n) (PackFolder m) fa fb e t = ap (λ (x : ℕ). PackFolder x) e
in_shards size (PackFolder n) (Pack m) fa fb e t = let d : 5 ≡ 10 = ap length t in absurd (omega (arith, d))
in_shards size (PackFolder n) (Manifest m) fa fb e t = let d : 5 ≡ 14 = ap length t in absurd (omega (arith, d))
in_shards size (Pack n) (Shard m) fa fb e t = absurd (not_nil 46 (codes "pack/pack") t)
in_shards size (Pack n) (Revision m) fa fb e t = absurd (omega (arith, heads 46 47 (codes "pack/pack") (decimal m) t))
in_shards size (Pack n) (PackFolder m) fa fb e t = let d : 10 ≡ 5 = ap length t in absurd (omega (arith, d))
in_shards size (Pack n) (Pack m) fa fb e t = ap (λ (x : ℕ). Pack x) e
in_shards size (Pack n) (Manifest m) fa fb e t = let d : 10 ≡ 14 = ap length t in absurd (omega (arith, d))
in_shards size (Manifest n) (Shard m) fa fb e t = absurd (not_nil 46 (codes "pack/manifest") t)
in_shards size (Manifest n) (Revision m) fa fb e t = absurd (omega (arith, heads 46 47 (codes "pack/manifest") (decimal m) t))
in_shards size (Manifest n) (PackFolder m) fa fb e t = let d : 14 ≡ 5 = ap length t in absurd (omega (arith, d))
in_shards size (Manifest n) (Pack m) fa fb e t = let d : 14 ≡ 10 = ap length t in absurd (omega (arith, d))
in_shards size (Manifest n) (Manifest m) fa fb e t = ap (λ (x : ℕ). Manifest x) e

-- and in one folder, where there is no folder of a shard
in_one : (a b : RevsFile) → FitsRevs OneFolder a → FitsRevs OneFolder b → revs_number OneFolder a ≡ revs_number OneFolder b → revs_end OneFolder a ≡ revs_end OneFolder b → a ≡ b
in_one (Shard n) b fa fb e t = absurd fa.0
in_one a (Shard m) fa fb e t = absurd fb.0
in_one (Revision n) (Revision m) fa fb e t = ap (λ (x : ℕ). Revision x) e
in_one (Revision n) (PackFolder m) fa fb e t = absurd (not_nil 46 (codes "pack") (sym t))
in_one (Revision n) (Pack m) fa fb e t = absurd (not_nil 46 (codes "pack/pack") (sym t))
in_one (Revision n) (Manifest m) fa fb e t = absurd (not_nil 46 (codes "pack/manifest") (sym t))
in_one (PackFolder n) (Revision m) fa fb e t = absurd (not_nil 46 (codes "pack") t)
in_one (PackFolder n) (PackFolder m) fa fb e t = ap (λ (x : ℕ). PackFolder x) e
in_one (PackFolder n) (Pack m) fa fb e t = let d : 5 ≡ 10 = ap length t in absurd (omega (arith, d))
in_one (PackFolder n) (Manifest m) fa fb e t = let d : 5 ≡ 14 = ap length t in absurd (omega (arith, d))
in_one (Pack n) (Revision m) fa fb e t = absurd (not_nil 46 (codes "pack/pack") t)
in_one (Pack n) (PackFolder m) fa fb e t = let d : 10 ≡ 5 = ap length t in absurd (omega (arith, d))
in_one (Pack n) (Pack m) fa fb e t = ap (λ (x : ℕ). Pack x) e
in_one (Pack n) (Manifest m) fa fb e t = let d : 10 ≡ 14 = ap length t in absurd (omega (arith, d))
in_one (Manifest n) (Revision m) fa fb e t = absurd (not_nil 46 (codes "pack/manifest") t)
in_one (Manifest n) (PackFolder m) fa fb e t = let d : 14 ≡ 5 = ap length t in absurd (omega (arith, d))
in_one (Manifest n) (Pack m) fa fb e t = let d : 14 ≡ 10 = ap length t in absurd (omega (arith, d))
in_one (Manifest n) (Manifest m) fa fb e t = ap (λ (x : ℕ). Manifest x) e

revs_same : (k : Folders) (a b : RevsFile) → FitsRevs k a → FitsRevs k b → revs_number k a ≡ revs_number k b → revs_end k a ≡ revs_end k b → a ≡ b
revs_same (Shards size) a b fa fb e t = in_shards size a b fa fb e t
revs_same OneFolder a b fa fb e t = in_one a b fa fb e t

revs_apart : (k : Folders) (a b : RevsFile) → FitsRevs k a → FitsRevs k b → revs_name k a ≡ revs_name k b → a ≡ b
revs_apart k a b fa fb e =
    let one = append_cancel_left (codes "db/revs/") (decimal (revs_number k a) ++ revs_end k a) (decimal (revs_number k b) ++ revs_end k b) (sym (revs_parts k a) ∙ e ∙ revs_parts k b) in
    let two = same_decimal (revs_number k a) (revs_number k b) (revs_end k a) (revs_end k b) (revs_fits k a fa) (revs_fits k b fb) (revs_no_digit k a) (revs_no_digit k b) one in
    revs_same k a b fa fb two.0 two.1

abbrev props_number : Folders → PropsFile → ℕ
props_number k (PropsShard n) = n
props_number k (Props rev) = rev_number k rev

abbrev props_end : Folders → PropsFile → List ℕ
props_end k (PropsShard n) = []
props_end k (Props rev) = rev_end k rev

props_parts : (k : Folders) (f : PropsFile) → props_name k f ≡ codes "db/revprops/" ++ (decimal (props_number k f) ++ props_end k f)
props_parts k (PropsShard n) = ap (λ (t : List ℕ). codes "db/revprops/" ++ t) (sym (append-nil (decimal n)))
props_parts k (Props rev) = rev_parts (codes "db/revprops") k rev

props_no_digit : (k : Folders) (f : PropsFile) → NoDigit 10 (props_end k f)
props_no_digit k (PropsShard n) = tt
props_no_digit k (Props rev) = rev_no_digit k rev

props_fits : (k : Folders) (f : PropsFile) → FitsProps k f → props_number k f < 2 ^ 64
props_fits k (PropsShard n) fits = omega (arith, fits.1)
props_fits k (Props rev) fits = rev_fits k rev fits

props_same : (k : Folders) (a b : PropsFile) → FitsProps k a → FitsProps k b → props_number k a ≡ props_number k b → props_end k a ≡ props_end k b → a ≡ b
props_same (Shards size) (PropsShard n) (PropsShard m) fa fb e t = ap (λ (x : ℕ). PropsShard x) e
props_same (Shards size) (PropsShard n) (Props m) fa fb e t = absurd (not_nil 47 (decimal m) (sym t))
props_same (Shards size) (Props n) (PropsShard m) fa fb e t = absurd (not_nil 47 (decimal n) t)
props_same (Shards size) (Props n) (Props m) fa fb e t = ap (λ (x : ℕ). Props x) (rev_ends n m fa fb t)
props_same OneFolder (PropsShard n) b fa fb e t = absurd fa.0
props_same OneFolder a (PropsShard m) fa fb e t = absurd fb.0
props_same OneFolder (Props n) (Props m) fa fb e t = ap (λ (x : ℕ). Props x) e

props_apart : (k : Folders) (a b : PropsFile) → FitsProps k a → FitsProps k b → props_name k a ≡ props_name k b → a ≡ b
props_apart k a b fa fb e =
    let one = append_cancel_left (codes "db/revprops/") (decimal (props_number k a) ++ props_end k a) (decimal (props_number k b) ++ props_end k b) (sym (props_parts k a) ∙ e ∙ props_parts k b) in
    let two = same_decimal (props_number k a) (props_number k b) (props_end k a) (props_end k b) (props_fits k a fa) (props_fits k b fb) (props_no_digit k a) (props_no_digit k b) one in
    props_same k a b fa fb two.0 two.1

txn_no_digit : (f : TxnFile) → NoDigit 36 (txn_file_end f)
txn_no_digit Folder = omega arith
txn_no_digit (Below file) = omega arith

txn_ends : (f g : TxnFile) → txn_file_end f ≡ txn_file_end g → f ≡ g
txn_ends Folder Folder e = refl
txn_ends Folder (Below file) e = absurd cc
txn_ends (Below file) Folder e = absurd cc
txn_ends (Below file) (Below other) e = ap (λ (x : List ℕ). Below x) (append_cancel_left (codes ".txn/") file other e)

proto_no_digit : (f : ProtoFile) → NoDigit 36 (proto_file_end f)
proto_no_digit Texts = omega arith
proto_no_digit Lock = omega arith

proto_ends : (f g : ProtoFile) → proto_file_end f ≡ proto_file_end g → f ≡ g
proto_ends Texts Texts e = refl
proto_ends Texts Lock e = absurd cc
proto_ends Lock Texts e = absurd cc
proto_ends Lock Lock e = refl

-- ---- all names

nested_apart : (k : Folders) (a b : File) → FitsFile k a → FitsFile k b → file_name k a ≡ file_name k b → a ≡ b
nested_apart k a b fa fb e = go a b fa fb e (sym (name_group k a) ∙ ap group e ∙ name_group k b)
  where
    go : (a b : File) → FitsFile k a → FitsFile k b → file_name k a ≡ file_name k b → group_of a ≡ group_of b → a ≡ b
    go (Only f) (Only g) fa fb e same = ap (λ (x : OnlyFile). Only x) (sym (only_back f) ∙ ap only_of e ∙ only_back g)
    go (InRevs f) (InRevs g) fa fb e same = ap (λ (x : RevsFile). InRevs x) (revs_apart k f g fa fb e)
    go (InProps f) (InProps g) fa fb e same = ap (λ (x : PropsFile). InProps x) (props_apart k f g fa fb e)
    go (OfTxn s f) (OfTxn t g) fa fb e same =
        let w = same_txn (codes "db/transactions/") (txn_file_end f) (txn_file_end g) s t fa fb (txn_no_digit f) (txn_no_digit g) e in
        let file = txn_ends f g w.rest in
        λ i. OfTxn (w.txn i) (file i)
    go (OfProto s f) (OfProto t g) fa fb e same =
        let w = same_txn (codes "db/txn-protorevs/") (proto_file_end f) (proto_file_end g) s t fa fb (proto_no_digit f) (proto_no_digit g) e in
        let file = proto_ends f g w.rest in
        λ i. OfProto (w.txn i) (file i)
    go (Only f) (InRevs g) fa fb e same = absurd cc
    go (Only f) (InProps g) fa fb e same = absurd cc
    go (Only f) (OfTxn t g) fa fb e same = absurd cc
    go (Only f) (OfProto t g) fa fb e same = absurd cc
    go (InRevs f) (Only g) fa fb e same = absurd cc
    go (InRevs f) (InProps g) fa fb e same = absurd cc
    go (InRevs f) (OfTxn t g) fa fb e same = absurd cc
    go (InRevs f) (OfProto t g) fa fb e same = absurd cc
    go (InProps f) (Only g) fa fb e same = absurd cc
    go (InProps f) (InRevs g) fa fb e same = absurd cc
    go (InProps f) (OfTxn t g) fa fb e same = absurd cc
    go (InProps f) (OfProto t g) fa fb e same = absurd cc
    go (OfTxn s f) (Only g) fa fb e same = absurd cc
    go (OfTxn s f) (InRevs g) fa fb e same = absurd cc
    go (OfTxn s f) (InProps g) fa fb e same = absurd cc
    go (OfTxn s f) (OfProto t g) fa fb e same = absurd cc
    go (OfProto s f) (Only g) fa fb e same = absurd cc
    go (OfProto s f) (InRevs g) fa fb e same = absurd cc
    go (OfProto s f) (InProps g) fa fb e same = absurd cc
    go (OfProto s f) (OfTxn t g) fa fb e same = absurd cc

abbrev nested : RepositoryFile → File
nested (file.Only f) = Only f
nested (file.Shard n) = InRevs (Shard n)
nested (file.Revision rev) = InRevs (Revision rev)
nested (file.PackFolder n) = InRevs (PackFolder n)
nested (file.Pack n) = InRevs (Pack n)
nested (file.Manifest n) = InRevs (Manifest n)
nested (file.PropsShard n) = InProps (PropsShard n)
nested (file.Props rev) = InProps (Props rev)
nested (file.OfTxn txn part.Folder) = OfTxn txn Folder
nested (file.OfTxn txn (part.Part name)) = OfTxn txn (Below name)
nested (file.OfTxn txn part.ProtoRevision) = OfProto txn Texts
nested (file.OfTxn txn part.ProtoRevisionLock) = OfProto txn Lock

abbrev flat : File → RepositoryFile
flat (Only f) = file.Only f
flat (InRevs (Shard n)) = file.Shard n
flat (InRevs (Revision rev)) = file.Revision rev
flat (InRevs (PackFolder n)) = file.PackFolder n
flat (InRevs (Pack n)) = file.Pack n
flat (InRevs (Manifest n)) = file.Manifest n
flat (InProps (PropsShard n)) = file.PropsShard n
flat (InProps (Props rev)) = file.Props rev
flat (OfTxn txn Folder) = file.OfTxn txn part.Folder
flat (OfTxn txn (Below name)) = file.OfTxn txn (part.Part name)
flat (OfProto txn Texts) = file.OfTxn txn part.ProtoRevision
flat (OfProto txn Lock) = file.OfTxn txn part.ProtoRevisionLock

flat_nested : (f : RepositoryFile) → flat (nested f) ≡ f
flat_nested (file.Only f) = refl
flat_nested (file.Shard n) = refl
flat_nested (file.Revision rev) = refl
flat_nested (file.PackFolder n) = refl
flat_nested (file.Pack n) = refl
flat_nested (file.Manifest n) = refl
flat_nested (file.PropsShard n) = refl
flat_nested (file.Props rev) = refl
flat_nested (file.OfTxn txn part.Folder) = refl
flat_nested (file.OfTxn txn (part.Part name)) = refl
flat_nested (file.OfTxn txn part.ProtoRevision) = refl
flat_nested (file.OfTxn txn part.ProtoRevisionLock) = refl

nested_name : (k : Layout) (f : RepositoryFile) → file_name k.folders (nested f) ≡ name_of k f
nested_name k (file.Only f) = refl
nested_name k (file.Shard n) = refl
nested_name k (file.Revision rev) = refl
nested_name k (file.PackFolder n) = refl
nested_name k (file.Pack n) = refl
nested_name k (file.Manifest n) = refl
nested_name k (file.PropsShard n) = refl
nested_name k (file.Props rev) = refl
nested_name k (file.OfTxn txn part.Folder) = refl
nested_name k (file.OfTxn txn (part.Part name)) = refl
nested_name k (file.OfTxn txn part.ProtoRevision) = refl
nested_name k (file.OfTxn txn part.ProtoRevisionLock) = refl

nested_fits : (k : Layout) (f : RepositoryFile) → Fits k f → FitsFile k.folders (nested f)
nested_fits k (file.Only f) fits = fits
nested_fits k (file.Shard n) fits = fits
nested_fits k (file.Revision rev) fits = fits
nested_fits k (file.PackFolder n) fits = fits
nested_fits k (file.Pack n) fits = fits
nested_fits k (file.Manifest n) fits = fits
nested_fits k (file.PropsShard n) fits = fits
nested_fits k (file.Props rev) fits = fits
nested_fits k (file.OfTxn txn part.Folder) fits = fits
nested_fits k (file.OfTxn txn (part.Part name)) fits = fits
nested_fits k (file.OfTxn txn part.ProtoRevision) fits = fits
nested_fits k (file.OfTxn txn part.ProtoRevisionLock) fits = fits

pub names_apart : (layout : Layout) → NamesAreApart layout
names_apart k a b fa fb e =
    let same = nested_apart k.folders (nested a) (nested b) (nested_fits k a fa) (nested_fits k b fb) (nested_name k a ∙ e ∙ sym (nested_name k b)) in
    sym (flat_nested a) ∙ ap flat same ∙ flat_nested b
