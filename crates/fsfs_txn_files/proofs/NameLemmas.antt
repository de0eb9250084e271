-- No two files of a transaction's folder have one name.
use Rattle.std.proofs.Common.{◌≡◌, ◌⊎◌, ℕ, List, [], ◌∷◌, ◌++◌, drop, get_or, inl, inr, refl, sym, ap, ◌∙◌, append_assoc, arith}
use Rattle.std.specs.Prelude.{Option, Some, None, codes}
use Rattle.std.proofs.lemmas.List.{append-nil}
use Rattle.std.proofs.lemmas.Option.{some_pair_parts}
use Rattle.fsfs_base.specs.Grammar.Cuts.{Lacks, cut}
use Rattle.fsfs_base.proofs.CutLemmas.{cut_again, cut_lacking}
use Rattle.fsfs_noderev.specs.Ids.{PartValue, part_value}
use Rattle.fsfs_txn_files.specs.FileNames.{part_text, node_name, file_name, FitsId, Fits, OfNode, file_of}
use Rattle.fsfs_txn_files.specs.declared.folder_file.FolderFile.{FolderFile}
use Rattle.fsfs_txn_files.specs.declared.folder_file.FolderFile.TheVariants.{NextIds, Changes, Node, Children, Props}
use Rattle.fsfs_txn_files.proofs.PartLemmas.{part_lacks, part_one}

-- what stands behind the parts: nothing, or a dot and a word
abbrev pub IsEnding : List ℕ → Type 0
IsEnding s = (s ≡ []) ⊎ ((word : List ℕ) × (s ≡ 46 ∷ word))

-- a text without a dot, and an ending
tail_same : (a b s t : List ℕ) → Lacks 46 a → Lacks 46 b → IsEnding s → IsEnding t → a ++ s ≡ b ++ t → (a ≡ b) × (s ≡ t)
tail_same a b s t la lb (inl e) (inl f) same = (sym (append-nil a) ∙ ap (λ (z : List ℕ). a ++ z) (sym e) ∙ same ∙ ap (λ (z : List ℕ). b ++ z) f ∙ append-nil b, e ∙ sym f)
tail_same a b s t la lb (inl e) (inr w) same =
    let none : cut 46 (a ++ s) ≡ None = ap (λ (z : List ℕ). cut 46 (a ++ z)) e ∙ ap (cut 46) (append-nil a) ∙ cut_lacking 46 a la in
    let some : cut 46 (b ++ t) ≡ Some (b, w.0) = ap (λ (z : List ℕ). cut 46 (b ++ z)) w.1 ∙ cut_again 46 b w.0 lb in
    let no : ◌≡◌ {A = Option (List ℕ × List ℕ)} None (Some (b, w.0)) = sym none ∙ ap (cut 46) same ∙ some in absurd cc
tail_same a b s t la lb (inr v) (inl f) same =
    let some : cut 46 (a ++ s) ≡ Some (a, v.0) = ap (λ (z : List ℕ). cut 46 (a ++ z)) v.1 ∙ cut_again 46 a v.0 la in
    let none : cut 46 (b ++ t) ≡ None = ap (λ (z : List ℕ). cut 46 (b ++ z)) f ∙ ap (cut 46) (append-nil b) ∙ cut_lacking 46 b lb in
    let no : ◌≡◌ {A = Option (List ℕ × List ℕ)} None (Some (a, v.0)) = sym none ∙ ap (cut 46) (sym same) ∙ some in absurd cc
tail_same a b s t la lb (inr v) (inr w) same =
    let one : cut 46 (a ++ s) ≡ Some (a, v.0) = ap (λ (z : List ℕ). cut 46 (a ++ z)) v.1 ∙ cut_again 46 a v.0 la in
    let two : cut 46 (b ++ t) ≡ Some (b, w.0) = ap (λ (z : List ℕ). cut 46 (b ++ z)) w.1 ∙ cut_again 46 b w.0 lb in
    let both = some_pair_parts a b v.0 w.0 (sym one ∙ ap (cut 46) same ∙ two) in
    (both.0, v.1 ∙ ap (λ (z : List ℕ). 46 ∷ z) both.1 ∙ sym w.1)

-- behind `node.` the node part, a dot, the copy part and the ending
behind : (a b : PartValue) (s : List ℕ) → drop 5 (node_name a b ++ s) ≡ part_text a ++ 46 ∷ (part_text b ++ s)
behind a b s = append_assoc (part_text a) (46 ∷ part_text b) s

-- names that are one have the same parts and the same ending
pub node_parts : (a b c d : PartValue) (s t : List ℕ) → FitsId a b → FitsId c d → IsEnding s → IsEnding t → node_name a b ++ s ≡ node_name c d ++ t → (a ≡ c) × (b ≡ d) × (s ≡ t)
node_parts a b c d s t fa fc es et same =
    let one = cut_again 46 (part_text a) (part_text b ++ s) (part_lacks a fa.0) in
    let two = cut_again 46 (part_text c) (part_text d ++ t) (part_lacks c fc.0) in
    let e : part_text a ++ 46 ∷ (part_text b ++ s) ≡ part_text c ++ 46 ∷ (part_text d ++ t) = sym (behind a b s) ∙ ap (drop 5) same ∙ behind c d t in
    let both = some_pair_parts (part_text a) (part_text c) (part_text b ++ s) (part_text d ++ t) (sym one ∙ ap (cut 46) e ∙ two) in
    let rest = tail_same (part_text b) (part_text d) s t (part_lacks b fa.1) (part_lacks d fc.1) es et both.1 in
    (part_one a c fa.0 fc.0 both.0, part_one b d fa.1 fc.1 rest.0, rest.1)

node_one : (a b c d : PartValue) (s t : List ℕ) → FitsId a b → FitsId c d → IsEnding s → IsEnding t → node_name a b ++ s ≡ node_name c d ++ t → OfNode a b s ≡ OfNode c d t
node_one a b c d s t fa fc es et same = let e = node_parts a b c d s t fa fc es et same in λ i. OfNode (e.0 i) (e.1 i) (e.2 i)

-- ---- files that the folder has once

-- names differ at the second byte, or at the first
pub apart_at : {X : Type 0} (k x y : ℕ) (s t : List ℕ) → get_or s k 0 ≡ x → get_or t k 0 ≡ y → (x ≡ y → ⊥) → s ≡ t → X
apart_at k x y s t at_s at_t other same = absurd (other (sym at_s ∙ ap (λ (z : List ℕ). get_or z k 0) same ∙ at_t))

pub nothing : IsEnding []
nothing = inl refl

pub children : IsEnding (codes ".children")
children = inr (codes "children", refl)

pub props : IsEnding (codes ".props")
props = inr (codes "props", refl)

abbrev name_of : FolderFile → List ℕ
name_of = file_name

pub apart : (a b : FolderFile) → Fits a → Fits b → file_name a ≡ file_name b → file_of a ≡ file_of b
apart NextIds NextIds fa fb e = refl
apart NextIds Changes fa fb e = apart_at 0 110 99 (name_of NextIds) (name_of Changes) refl refl (λ h. omega (arith, h)) e
apart NextIds (Node y) fa fb e = apart_at 1 101 111 (name_of NextIds) (name_of (Node y)) refl refl (λ h. omega (arith, h)) e
apart NextIds (Children y) fa fb e = apart_at 1 101 111 (name_of NextIds) (name_of (Children y)) refl refl (λ h. omega (arith, h)) e
apart NextIds (Props y) fa fb e = apart_at 1 101 111 (name_of NextIds) (name_of (Props y)) refl refl (λ h. omega (arith, h)) e
apart Changes NextIds fa fb e = apart_at 0 99 110 (name_of Changes) (name_of NextIds) refl refl (λ h. omega (arith, h)) e
apart Changes Changes fa fb e = refl
apart Changes (Node y) fa fb e = apart_at 0 99 110 (name_of Changes) (name_of (Node y)) refl refl (λ h. omega (arith, h)) e
apart Changes (Children y) fa fb e = apart_at 0 99 110 (name_of Changes) (name_of (Children y)) refl refl (λ h. omega (arith, h)) e
apart Changes (Props y) fa fb e = apart_at 0 99 110 (name_of Changes) (name_of (Props y)) refl refl (λ h. omega (arith, h)) e
apart (Node x) NextIds fa fb e = apart_at 1 111 101 (name_of (Node x)) (name_of NextIds) refl refl (λ h. omega (arith, h)) e
apart (Node x) Changes fa fb e = apart_at 0 110 99 (name_of (Node x)) (name_of Changes) refl refl (λ h. omega (arith, h)) e
apart (Node x) (Node y) fa fb e =
    node_one (part_value x.node) (part_value x.copy) (part_value y.node) (part_value y.copy) [] [] fa fb nothing nothing (append-nil (name_of (Node x)) ∙ e ∙ sym (append-nil (name_of (Node y))))
apart (Node x) (Children y) fa fb e =
    node_one (part_value x.node) (part_value x.copy) (part_value y.node) (part_value y.copy) [] (codes ".children") fa fb nothing children (append-nil (name_of (Node x)) ∙ e)
apart (Node x) (Props y) fa fb e =
    node_one (part_value x.node) (part_value x.copy) (part_value y.node) (part_value y.copy) [] (codes ".props") fa fb nothing props (append-nil (name_of (Node x)) ∙ e)
apart (Children x) NextIds fa fb e = apart_at 1 111 101 (name_of (Children x)) (name_of NextIds) refl refl (λ h. omega (arith, h)) e
apart (Children x) Changes fa fb e = apart_at 0 110 99 (name_of (Children x)) (name_of Changes) refl refl (λ h. omega (arith, h)) e
apart (Children x) (Node y) fa fb e =
    node_one (part_value x.node) (part_value x.copy) (part_value y.node) (part_value y.copy) (codes ".children") [] fa fb children nothing (e ∙ sym (append-nil (name_of (Node y))))
apart (Children x) (Children y) fa fb e =
    node_one (part_value x.node) (part_value x.copy) (part_value y.node) (part_value y.copy) (codes ".children") (codes ".children") fa fb children children e
apart (Children x) (Props y) fa fb e =
    node_one (part_value x.node) (part_value x.copy) (part_value y.node) (part_value y.copy) (codes ".children") (codes ".props") fa fb children props e
apart (Props x) NextIds fa fb e = apart_at 1 111 101 (name_of (Props x)) (name_of NextIds) refl refl (λ h. omega (arith, h)) e
apart (Props x) Changes fa fb e = apart_at 0 110 99 (name_of (Props x)) (name_of Changes) refl refl (λ h. omega (arith, h)) e
apart (Props x) (Node y) fa fb e =
    node_one (part_value x.node) (part_value x.copy) (part_value y.node) (part_value y.copy) (codes ".props") [] fa fb props nothing (e ∙ sym (append-nil (name_of (Node y))))
apart (Props x) (Children y) fa fb e =
    node_one (part_value x.node) (part_value x.copy) (part_value y.node) (part_value y.copy) (codes ".props") (codes ".children") fa fb props children e
apart (Props x) (Props y) fa fb e =
    node_one (part_value x.node) (part_value x.copy) (part_value y.node) (part_value y.copy) (codes ".props") (codes ".props") fa fb props props e
