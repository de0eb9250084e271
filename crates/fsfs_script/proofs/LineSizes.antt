-- What is written stands on one line, which is not too long.
use Rattle.std.proofs.Common.{◌≡◌, ◌<◌, ◌≤◌, ◌+◌, ◌^◌, ℕ, suc, true, false, not, eqb, List, [], ◌∷◌, ◌++◌, length, Option, Some, None, refl, sym, ap, subst, ◌∙◌, arith}
use Rattle.std.proofs.lemmas.Bool.{ne_eqb, leb-true, not-true, and_parts}
use Rattle.std.proofs.lemmas.List.{length-append}
use Rattle.std.proofs.lemmas.Fmt.{length-decimal-le}
use Rattle.std.specs.Prelude.{decimal, codes, nat_lt, nat_le}
use Rattle.std.specs.List.{list_all}
use Rattle.fsfs_base.specs.Grammar.Cuts.{Lacks}
use Rattle.fsfs_base.proofs.CutLemmas.{lacks_from}
use Rattle.fsfs_base.proofs.PathTextLemmas.{path_text_line}
use Rattle.fsfs_base.specs.Fields.PropNames.{IsPropName}
use Rattle.fsfs_base.specs.Paths.{Path, path_text}
use Rattle.fsfs_base.specs.PathTexts.{is_control}
use Rattle.fsfs_script.specs.JobLines.Parts.{is_author}
use Rattle.fsfs_script.specs.JobLines.Texts.{CanPath, CanAuthor, CanBase, CanSay, CanOpen, base_text, said_text, opening_text}
use Rattle.fsfs_script.specs.declared.job_lines.edit.Edit.TheVariants as edits
use Rattle.fsfs_script.specs.declared.job_lines.job.Base.{Base}
use Rattle.fsfs_script.specs.declared.job_lines.job.Base.TheVariants.{Youngest, Number}
use Rattle.fsfs_script.specs.declared.job_lines.lines.CommandLine.{CommandLine}
use Rattle.fsfs_script.specs.declared.job_lines.lines.CommandLine.TheVariants as says
use Rattle.fsfs_script.specs.declared.job_lines.lines.OpeningLine.{OpeningLine}
use Rattle.fsfs_script.specs.declared.job_lines.lines.OpeningLine.TheVariants as openings
use Rattle.fsfs_script.proofs.WordTexts.{decimal_lacks, name_lacks}
use Rattle.fsfs_script.proofs.LinesAgain.{lacking}

-- a text without an end of a line, of at most n bytes
pub record IsWithin (n : ℕ) (text : List ℕ) : Type 0 where
  pub lacks : Lacks 10 text
  pub size : length text ≤ n

pub within_more : (m n : ℕ) (a b : List ℕ) → IsWithin m a → IsWithin n b → IsWithin (m + n) (a ++ b)
within_more m n a b v w = record { lacks = lacks_from 10 a b v.lacks w.lacks; size = omega (arith, length-append a b, v.size, w.size) }

within_space : (n : ℕ) (b : List ℕ) → IsWithin n b → IsWithin (suc n) (32 ∷ b)
within_space n b w = record { lacks = (refl, w.lacks); size = omega (arith, w.size) }

pub within_less : (m n : ℕ) (a : List ℕ) → m ≤ n → IsWithin m a → IsWithin n a
within_less m n a le w = record { lacks = w.lacks; size = omega (arith, le, w.size) }

pub path_within : (p : Path) → CanPath p → IsWithin 4096 (path_text p)
path_within p can = record { lacks = path_text_line p can.path_is; size = can.path_is.fits }

decimal_within : (n : ℕ) → n < 2 ^ 64 → IsWithin 20 (decimal n)
decimal_within n lt = record { lacks = decimal_lacks 10 n (omega arith) lt; size = length-decimal-le 20 n (omega arith) (omega (arith, lt)) lt }

name_size : (name : List ℕ) → IsPropName name → length name ≤ 255
name_size [] is = absurd is
name_size (c ∷ cs) is = omega (arith, is.2)

name_within : (name : List ℕ) → IsPropName name → IsWithin 255 name
name_within name is = record { lacks = name_lacks 10 refl name is; size = name_size name is }

no_control_line : (text : List ℕ) → list_all (λ b. not (is_control b)) text ≡ true → Lacks 10 text
no_control_line [] e = tt
no_control_line (b ∷ bs) e =
    let p = and_parts (not (is_control b)) (list_all (λ b. not (is_control b)) bs) e in
    (ne_eqb b 10 (λ same. clash (sym (ap (λ c. not (is_control c)) same) ∙ p.0)), no_control_line bs p.1)
  where
    clash : false ≡ true → ⊥
    clash e = cc

author_within : (name : List ℕ) → CanAuthor name → IsWithin 255 name
author_within name can =
    let p = and_parts (nat_lt 0 (length name)) _ can.0 in
    let q = and_parts (nat_le (length name) 255) _ p.1 in
    record { lacks = no_control_line name q.1; size = leb-true (length name) 255 q.0 }

word_within : (n : ℕ) (word : List ℕ) → list_all (λ b. not (eqb b 10)) word ≡ true → length word ≤ n → IsWithin n word
word_within n word e le = record { lacks = lacking 10 word e; size = le }

base_within : (base : Base) → CanBase base → IsWithin 20 (base_text base)
base_within Youngest can = word_within 20 (codes "head") refl (omega arith)
base_within (Number n) can = decimal_within n can

number_path : (n : ℕ) (path : Path) → n < 2 ^ 64 → CanPath path → IsWithin 4117 (decimal n ++ 32 ∷ path_text path)
number_path n path lt can = within_more 20 4097 (decimal n) (32 ∷ path_text path) (decimal_within n lt) (within_space 4096 (path_text path) (path_within path can))

name_path : (name : List ℕ) (path : Path) → IsPropName name → CanPath path → IsWithin 4352 (name ++ 32 ∷ path_text path)
name_path name path is can = within_more 255 4097 name (32 ∷ path_text path) (name_within name is) (within_space 4096 (path_text path) (path_within path can))

-- behind a word of at most 8 bytes
behind_word : (n : ℕ) (word text : List ℕ) → list_all (λ b. not (eqb b 10)) word ≡ true → length word ≤ 8 → n ≤ 8184 → IsWithin n text → IsWithin 8192 (word ++ text)
behind_word n word text e le small w = within_less (8 + n) 8192 (word ++ text) (omega (arith, small)) (within_more 8 n word text (word_within 8 word e le) w)

pub said_within : (said : CommandLine) → CanSay said → IsWithin 8192 (said_text said)
said_within (says.Author name) can = behind_word 255 (codes "author ") name refl (omega arith) (omega arith) (author_within name can)
said_within (says.Log n) can = behind_word 20 (codes "log ") (decimal n) refl (omega arith) (omega arith) (decimal_within n (omega (arith, can)))
said_within (says.Whole (edits.MakeDir path)) can = behind_word 4096 (codes "mkdir ") (path_text path) refl (omega arith) (omega arith) (path_within path can)
said_within (says.Whole (edits.MakeFile path)) can = behind_word 4096 (codes "mkfile ") (path_text path) refl (omega arith) (omega arith) (path_within path can)
said_within (says.Whole (edits.Delete path)) can = behind_word 4096 (codes "rm ") (path_text path) refl (omega arith) (omega arith) (path_within path can)
said_within (says.Whole (edits.Copy copy)) can = absurd can
said_within (says.Whole (edits.Put put)) can = absurd can
said_within (says.Whole (edits.Prop set)) can = go set.value can.2
  where
    go : (value : Option (List ℕ)) → value ≡ None → IsWithin 8192 (said_text (says.Whole (edits.Prop (record { path = set.path; name = set.name; value = value }))))
    go None e = behind_word 4352 (codes "unprop ") (set.name ++ 32 ∷ path_text set.path) refl (omega arith) (omega arith) (name_path set.name set.path can.1 can.0)
    go (Some v) e = absurd cc
said_within (says.Copy rev from) can = behind_word 4117 (codes "copy ") (decimal rev ++ 32 ∷ path_text from) refl (omega arith) (omega arith) (number_path rev from can.0 can.1)
said_within (says.Put n path) can = behind_word 4117 (codes "put ") (decimal n ++ 32 ∷ path_text path) refl (omega arith) (omega arith) (number_path n path (omega (arith, can.0)) can.1)
said_within (says.SetProp n name path) can =
    behind_word 4373 (codes "prop ") (decimal n ++ 32 ∷ (name ++ 32 ∷ path_text path)) refl (omega arith) (omega arith)
    (within_more 20 4353 (decimal n) (32 ∷ (name ++ 32 ∷ path_text path)) (decimal_within n (omega (arith, can.0))) (within_space 4352 (name ++ 32 ∷ path_text path) (name_path name path can.1 can.2)))
said_within says.Commit can = word_within 8192 (codes "commit") refl (omega arith)

pub opening_within : (said : OpeningLine) → CanOpen said → IsWithin 8192 (opening_text said)
opening_within (openings.Job base) can = behind_word 20 (codes "job ") (base_text base) refl (omega arith) (omega arith) (base_within base can)
opening_within (openings.Read base path) can =
    behind_word 4117 (codes "read ") (base_text base ++ 32 ∷ path_text path) refl (omega arith) (omega arith)
    (within_more 20 4097 (base_text base) (32 ∷ path_text path) (base_within base can.0) (within_space 4096 (path_text path) (path_within path can.1)))

pub to_within : (path : Path) → CanPath path → IsWithin 8192 (codes "to " ++ path_text path)
to_within path can = behind_word 4096 (codes "to ") (path_text path) refl (omega arith) (omega arith) (path_within path can)
