-- What is written is in the grammar.
use Rattle.std.proofs.Common.{◌≡◌, ℕ, ◌≤◌, ◌<◌, ◌^◌, false, List, [], ◌∷◌, ◌++◌, length, refl, sym, ap, subst, ◌∙◌, arith, append_assoc, inl, inr}
use Rattle.std.specs.Prelude.{codes, Result, Ok, Err, IfOk, if◌then◌else◌}
use Rattle.std.specs.Result.{is_ok}
use Rattle.std.specs.Fmt.{decimal}
use Rattle.std.proofs.lemmas.Bool.{ne_eqb}
use Rattle.fsfs_base.specs.Grammar.Relations.{Appends, begins}
use Rattle.fsfs_base.specs.Grammar.Numeral.{digit, IsNumeral, IsNumber, value_after}
use Rattle.fsfs_base.proofs.Unique.{decimal_plain, numeral_decimal}
use Rattle.fsfs_layout.specs.Folders.{AreSized}
use Rattle.fsfs_layout.specs.declared.folders.Folders.{Folders}
use Rattle.fsfs_layout.specs.declared.folders.Folders.TheVariants.{Shards, OneFolder}
use Rattle.fsfs_layout.specs.declared.format.Format.{Format}
use Rattle.fsfs_layout.specs.declared.format.Format.TheVariants.{Four}
use Rattle.fsfs_layout.specs.declared.layout.Layout.{Layout}
use Rattle.fsfs_layout.specs.declared.small_files.format_file.FormatFile.TheVariants.{Known}
use Rattle.fsfs_base.specs.Grammar.Cuts.{Lacks}
use Rattle.fsfs_layout.specs.Small.{IsUuid}
use Rattle.fsfs_layout.specs.Formats.{IsCount, AreFolders, IsFormat, format_line, folders_line, written_format}

-- what was written into nothing is a text of the grammar
pub appended : {X : Type 0} {G : List ℕ → X → Type 0} {a b : List ℕ} {x : X} → a ≡ [] → Appends G a b x → G b x
appended {X} {G} {a} {b} {x} none w =
    let e : w.text ≡ b = sym (w.parts ∙ ap (λ (t : List ℕ). t ++ w.text) none) in
    subst (λ (t : List ℕ). G t x) e w.text_is

pub decimal_line : {limit : ℕ} (a b : List ℕ) (n : ℕ) → a ≡ [] → n < 2 ^ 64 → Appends (IsNumber 10 limit 10) a b n → b ≡ decimal n ++ 10 ∷ []
decimal_line a b n none lt w =
    let is = appended none w in
    is.parts ∙ ap (λ (t : List ℕ). t ++ 10 ∷ []) (numeral_decimal is.digits n lt is.numeral)

-- the same behind other bytes
pub decimal_line_after : (a b : List ℕ) (n : ℕ) → n < 2 ^ 64 → Appends (IsNumber 10 18446744073709551615 10) a b n → b ≡ a ++ (decimal n ++ 10 ∷ [])
decimal_line_after a b n lt w = w.parts ∙ ap (λ (t : List ℕ). a ++ t) (w.text_is.parts ∙ ap (λ (t : List ℕ). t ++ 10 ∷ []) (numeral_decimal w.text_is.digits n lt w.text_is.numeral))

-- the text of a number from 1 doesn't begin with 0
not_zero : (digits : List ℕ) (n : ℕ) → 1 ≤ n → IsNumeral 10 digits n → begins 48 (digits ++ 10 ∷ []) ≡ false
unfolding value_after
not_zero [] n one w = absurd w
not_zero (c ∷ []) n one w = ne_eqb c 48 (λ e. omega (arith, w.2, one, ap digit e))
not_zero (c ∷ d ∷ ds) n one w = ne_eqb c 48 (λ e. more (w.1 (rw e refl)))
  where
    more : (d ∷ ds) ≡ [] → ⊥
    more e = cc

is_count : (text : List ℕ) (n : ℕ) → 1 ≤ n → n ≤ 2147483647 → IsNumber 10 18446744073709551615 10 text n → IsCount text n
is_count text n one fits w =
    (record { digits = w.digits; numeral = w.numeral; fits = fits; parts = w.parts }, ap (begins 48) w.parts ∙ not_zero w.digits n one w.numeral)

-- the line of folders is in its grammar
folders_line_is : (f : Folders) → AreSized f → AreFolders (folders_line f) f
folders_line_is (Shards n) sized = record {
  first = codes "layout ";
  second = codes "sharded " ++ (decimal n ++ 10 ∷ []);
  between = tt;
  first_is = refl;
  second_is = inl (record {
    first = codes "sharded ";
    second = decimal n ++ 10 ∷ [];
    between = tt;
    first_is = refl;
    second_is = record {
      inner = n;
      inner_is = is_count (decimal n ++ 10 ∷ []) n (omega (arith, sized.0)) sized.1
          (record { digits = decimal n; numeral = (decimal_plain 2147483647 n sized.1 (omega (arith, sized.1))).0; fits = omega (arith, sized.1); parts = refl });
      value_is = refl;
    };
    parts = refl;
  });
  parts = refl;
}
folders_line_is OneFolder sized = record {
  first = codes "layout ";
  second = codes "linear\n";
  between = tt;
  first_is = refl;
  second_is = inr (record {
    first = codes "linear";
    second = 10 ∷ [];
    between = tt;
    first_is = refl;
    second_is = record { inner = tt; inner_is = refl; value_is = refl };
    parts = refl;
  });
  parts = refl;
}

-- a shard's line, as it is put behind other bytes
pub shards_put : {E : Type 0} (f : Folders) (size : ℕ) (a b c : List ℕ) (r : Result (Unit {0}) E) → f ≡ Shards size → size < 2 ^ 64 → b ≡ a ++ codes "layout sharded " → IfOk r (λ _. Appends (IsNumber 10 18446744073709551615 10) b c size) → IfOk r (λ _. c ≡ a ++ folders_line f)
shards_put f size a b c (Err e) is fits front put = tt
shards_put f size a b c (Ok u) is fits front put =
    decimal_line_after b c size fits put
    ∙ ap (λ (t : List ℕ). t ++ (decimal size ++ 10 ∷ [])) front
    ∙ append_assoc a (codes "layout sharded ") (decimal size ++ 10 ∷ [])
    ∙ ap (λ (k : Folders). a ++ folders_line k) (sym is)

pub folder_put : {E : Type 0} (f : Folders) (a b : List ℕ) (r : Result (Unit {0}) E) → f ≡ OneFolder → b ≡ (if is_ok r then a ++ codes "layout linear\n" else a) → IfOk r (λ _. b ≡ a ++ folders_line f)
folder_put f a b (Err e) is put = tt
folder_put f a b (Ok u) is put = put ∙ ap (λ (k : Folders). a ++ folders_line k) (sym is)

-- format 4 as it is written
pub written_is : (layout : Layout) → layout.format ≡ Four → IsFormat (written_format layout) (Known layout)
written_is layout four = record {
  first = codes "4\n";
  second = folders_line layout.folders;
  between = tt;
  first_is = refl;
  second_is = record {
    inner = layout.folders;
    inner_is = inr (folders_line_is layout.folders layout.sized);
    value_is = λ i. (four i, layout.folders);
  };
  parts = ap (λ (k : Format). format_line k ++ folders_line layout.folders) four;
}

-- the two lines, put into nothing
pub written_put : (layout : Layout) (a b c : List ℕ) (k : Format) (f : Folders) → a ≡ [] → b ≡ a ++ format_line k → k ≡ layout.format → c ≡ b ++ folders_line f → f ≡ layout.folders → c ≡ written_format layout
written_put layout a b c k f none line format more folders =
    more ∙ ap (λ (t : List ℕ). t ++ folders_line f) (line ∙ ap (λ (t : List ℕ). t ++ format_line k) none) ∙ (λ i. format_line (format i) ++ folders_line (folders i))

-- a uuid's bytes and the end of the line
pub uuid_line : (uuid text : List ℕ) → length uuid ≡ 36 → Lacks 10 uuid → text ≡ uuid ++ 10 ∷ [] → IsUuid text uuid
uuid_line uuid text size lacks parts = record {
  first = uuid;
  second = 10 ∷ [];
  between = uuid;
  first_is = (refl, size, lacks);
  second_is = record { inner = tt; inner_is = refl; value_is = refl };
  parts = parts;
}
