-- The bytes of revision 0 and its property file show the first history.
use Rattle.std.proofs.Common.{◌≡◌, ℕ, zero, suc, List, [], ◌∷◌, ◌++◌, length, refl, sym, ap, subst, ◌∙◌, arith, append_assoc}
use Rattle.std.specs.Prelude.{Option, Some, Ok, codes, slice_get, Contains}
use Rattle.std.proofs.lemmas.Option.{same_Some}
use Rattle.std.specs.FinMap.{get, empty, insert, get-empty, get-insert}
use Rattle.jiff_core.specs.declared.civil.datetime.DateTime.{DateTime}
use Rattle.fsfs_base.specs.Grammar.Numeral.{IsNumber, numeral_at, plain_at}
use Rattle.fsfs_base.specs.Fields.Dates.{IsDateText}
use Rattle.fsfs_base.specs.Paths.{Path, path_cmp, path_cmp_total}
use Rattle.fsfs_tree.specs.Nodes.{Node, empty_node}
use Rattle.fsfs_tree.specs.Revisions.{Revision}
use Rattle.fsfs_tree.specs.Dated.{date_name}
use Rattle.fsfs_base.specs.declared.kind.Kind.TheVariants.{Dir}
use Rattle.fsfs_tree.specs.declared.change_map.Change.{Change}
use Rattle.fsfs_revision.specs.Told.{RevisionBytes}
use Rattle.fsfs_layout.specs.Hash.Dump.{Field, Pair, IsDump}
use Rattle.fsfs_noderev.proofs.RepTexts.{number_spells}
use Rattle.fsfs_layout.specs.CreatedFiles.{date_properties}
use Rattle.fsfs_revision.specs.Shows.Shown.{IsShownAs, Shows}
use Rattle.fsfs_base.specs.FirstRevision.{first_bytes}
use Rattle.fsfs_revision.specs.Shows.FirstRevision.{first_tree}
use Rattle.fsfs_revision.proofs.FirstRevision.{first_shown, first_rules, trailer, trailer_ends}
use Rattle.fsfs_stands.specs.Changes.{HasItems, AreChangesOf}
use Rattle.fsfs_stands.specs.History.{ShowsRevision}
use Rattle.fsfs_tree.specs.Answers.{first_revision}
use Rattle.fsfs_stands.specs.FirstHistory.{FirstHistoryIsShown}

-- ---- the tree

tree_is : (p : Path) → first_tree p ≡ get (insert (empty {X = Node} {R = path_cmp}) [] (empty_node Dir)) p
tree_is [] = sym (get-insert path_cmp_total empty [] (empty_node Dir) [])
tree_is (x ∷ p) = sym (get-insert path_cmp_total empty [] (empty_node Dir) (x ∷ p) ∙ get-empty path_cmp (x ∷ p))

tree_shown : (look : RevisionBytes) → look 0 ≡ Ok first_bytes → (date : List ℕ) → Shows look 0 (get (first_revision date).tree)
tree_shown look is date = record { each = λ p. let w = (first_shown look is).each p in (w.0, w.1, subst (λ (o : Option Node). IsShownAs look 0 p w.0 o) (tree_is p) w.2) }

-- ---- the changed paths

no_items : HasItems first_bytes []
no_items = record { trailer = trailer; ends = trailer_ends; items_are = refl }

not_in_none : {A : Type 0} (x : A) → Contains (let e : List A = [] in e) x → ⊥
not_in_none x w = omega (arith, w.1)

no_changes : (look : RevisionBytes) → AreChangesOf look 0 first_bytes empty
no_changes look = record {
  items = [];
  items_are = no_items;
  each = λ item there. absurd (not_in_none item there);
  only = λ p change e. absurd (let f = sym (get-empty {X = Change} path_cmp p) ∙ e in cc);
  fits = λ item there. absurd (not_in_none item there);
}

-- ---- the date

date_length : (date : List ℕ) (dt : DateTime) → IsDateText date dt → length date ≡ 27
date_length date dt w = ap length w.text_is

eight : IsNumber 10 18446744073709551615 10 (codes "8\n") 8
unfolding numeral_at plain_at
eight = let n = number_spells.found (codes "8") 8 refl in record { digits = codes "8"; numeral = n.0; fits = n.1; parts = refl }

twenty_seven : IsNumber 10 18446744073709551615 10 (codes "27\n") 27
unfolding numeral_at plain_at
twenty_seven = let n = number_spells.found (codes "27") 27 refl in record { digits = codes "27"; numeral = n.0; fits = n.1; parts = refl }

field_is : (letter n : ℕ) (number bytes : List ℕ) → IsNumber 10 18446744073709551615 10 number n → length bytes ≡ n → Field letter (letter ∷ 32 ∷ (number ++ (bytes ++ 10 ∷ []))) bytes
field_is letter n number bytes is size = record {
  first = letter ∷ 32 ∷ [];
  second = number ++ (bytes ++ 10 ∷ []);
  between = tt;
  first_is = refl;
  second_is = record {
    first = number;
    second = bytes ++ 10 ∷ [];
    between = n;
    first_is = is;
    second_is = record { first = bytes; second = 10 ∷ []; between = bytes; first_is = (refl, size); second_is = record { inner = tt; inner_is = refl; value_is = refl }; parts = refl };
    parts = refl;
  };
  parts = refl;
}

key_is : Field 75 (codes "K 8\nsvn:date\n") date_name
key_is = field_is 75 8 (codes "8\n") date_name eight refl

value_is : (date : List ℕ) → length date ≡ 27 → Field 86 (codes "V 27\n" ++ (date ++ 10 ∷ [])) date
value_is date size = field_is 86 27 (codes "27\n") date twenty_seven size

entry_is : (date : List ℕ) → length date ≡ 27 → Pair (codes "K 8\nsvn:date\n" ++ (codes "V 27\n" ++ (date ++ 10 ∷ []))) (date_name, date)
entry_is date size = record {
  first = codes "K 8\nsvn:date\n";
  second = codes "V 27\n" ++ (date ++ 10 ∷ []);
  between = date_name;
  first_is = key_is;
  second_is = record { inner = date; inner_is = value_is date size; value_is = refl };
  parts = refl;
}

dump_is : (date : List ℕ) → length date ≡ 27 → IsDump (date_properties date) ((date_name, date) ∷ [])
dump_is date size = record {
  inner = (date_name, date) ∷ [];
  inner_is = (codes "K 8\nsvn:date\n" ++ (codes "V 27\n" ++ (date ++ 10 ∷ [])), codes "END\n", entry_is date size, (tt, refl), parts);
  value_is = refl;
}
  where
    parts : date_properties date ≡ (codes "K 8\nsvn:date\n" ++ (codes "V 27\n" ++ (date ++ 10 ∷ []))) ++ codes "END\n"
    parts = ap (λ (t : List ℕ). codes "K 8\nsvn:date\nV 27\n" ++ t) (sym (append_assoc date (10 ∷ []) (codes "END\n")))

pub first_history : FirstHistoryIsShown
first_history look props date dt dated is file = record { each = each; ids = first_rules look is }
  where
    whole : ShowsRevision look props 0 (first_revision date)
    whole = record {
      bytes = first_bytes;
      bytes_are = is;
      tree = tree_shown look is date;
      changes = no_changes look;
      file = date_properties date;
      file_is = file;
      properties = dump_is date (date_length date dt dated);
      dated = λ value e. (dt, subst (λ (t : List ℕ). IsDateText t dt) (same_Some date value e) dated);
    }

    each : (r : ℕ) (revision : Revision) → slice_get (first_revision date ∷ []) r ≡ Some revision → ShowsRevision look props r revision
    each zero revision e = subst (λ (x : Revision). ShowsRevision look props 0 x) (same_Some (first_revision date) revision e) whole
    each (suc r) revision e = absurd cc
