-- The names and the texts of the first files.
use Rattle.std.proofs.Common.{◌≡◌, ℕ, List, [], ◌∷◌, ◌++◌, length, refl, sym, ap, ◌∙◌, append_assoc, arith}
use Rattle.std.proofs.lemmas.List.{append-nil}
use Rattle.fsfs_base.proofs.Unique.{numeral_decimal}
use Rattle.fsfs_layout.specs.Hash.Dump.{dump_text}
use Rattle.fsfs_layout.specs.CreatedFiles.{date_properties}
use Rattle.std.specs.Prelude.{codes, decimal}
use Rattle.std.proofs.lemmas.Fmt.{decimal_digit}
use Rattle.fsfs_base.specs.Grammar.Numeral.{numeral_at, plain_at}
use Rattle.fsfs_base.proofs.Numerals.{numeral_one, numeral_found}
use Rattle.fsfs_base.proofs.Unique.{numeral_same}
use Rattle.fsfs_base.specs.Files.{NamedFile}
use Rattle.fsfs_layout.specs.Layouts.{IsSharded}
use Rattle.fsfs_layout.specs.Names.{in_folder}
use Rattle.fsfs_stands.proofs.NewRepository.{first_name as first_in}
use Rattle.fsfs_layout.specs.declared.layout.Layout.{Layout}
use Rattle.fsfs_layout.specs.Small.{IsBase36Line}

-- a file more
pub added : (old new want : List NamedFile) (name bytes n b : List ℕ) → new ≡ old ++ (name, bytes) ∷ [] → old ≡ want → name ≡ n → bytes ≡ b → new ≡ want ++ (n, b) ∷ []
added old new want name bytes n b is same e f = is ∙ (λ i. same i ++ (e i, f i) ∷ [])

zero_text : decimal 0 ≡ codes "0"
zero_text = decimal_digit 0 (omega arith)

pub zero_line : (text : List ℕ) → text ≡ decimal 0 ++ 10 ∷ [] → text ≡ codes "0\n"
zero_line text is = is ∙ ap (λ (t : List ℕ). t ++ 10 ∷ []) zero_text

pub zero_line36 : (text : List ℕ) → IsBase36Line text 0 → text ≡ codes "0\n"
zero_line36 text w = w.parts ∙ ap (λ (t : List ℕ). t ++ 10 ∷ []) (numeral_same 36 (omega arith) (omega arith) w.digits (codes "0") 0 w.numeral (numeral_one 36 48 (omega arith)))

eight : decimal 8 ≡ codes "8"
eight = decimal_digit 8 (omega arith)

twenty_seven : decimal 27 ≡ codes "27"
unfolding numeral_at plain_at
twenty_seven = sym (numeral_decimal (codes "27") 27 (omega arith) (numeral_found 10 99 (codes "27") 27 refl).0)

-- the dump of a date alone
pub dated_text : (date : List ℕ) → length date ≡ 27 → dump_text ((codes "svn:date", date) ∷ []) ≡ date_properties date
dated_text date size =
    let T : List ℕ → List ℕ → List ℕ = λ a b. (((75 ∷ 32 ∷ []) ++ ((a ++ 10 ∷ []) ++ (codes "svn:date" ++ 10 ∷ [])) ++ ((86 ∷ 32 ∷ []) ++ ((b ++ 10 ∷ []) ++ (date ++ 10 ∷ [])))) ++ []) ++ codes "END\n" in
    let number : decimal (length date) ≡ codes "27" = ap decimal size ∙ twenty_seven in
    (λ i. T (eight i) (number i))
    ∙ ap (λ (t : List ℕ). codes "K 8\nsvn:date\nV 27\n" ++ t) (ap (λ (t : List ℕ). t ++ codes "END\n") (append-nil (date ++ 10 ∷ [])) ∙ append_assoc date (10 ∷ []) (codes "END\n"))

-- of whatever size the shards are, revision 0 is in shard 0
pub first_name : (folder name : List ℕ) (n : Layout) → IsSharded n → name ≡ in_folder folder n 0 → name ≡ folder ++ 47 ∷ codes "0" ++ 47 ∷ codes "0"
first_name folder name n sharded is = is ∙ first_in folder n sharded
