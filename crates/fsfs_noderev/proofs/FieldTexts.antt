-- The values of a node-revision's fields: each text has one value at most, and two parts are read one by one.
use Rattle.std.proofs.Common.{◌≡◌, ℕ, List, refl, sym, ap, ◌∙◌, arith}
use Rattle.fsfs_base.specs.Grammar.Cuts.{Lacks, IsCutOf, cut}
use Rattle.fsfs_base.proofs.CutLemmas.{cut_again, two_parts}
use Rattle.fsfs_base.proofs.Spelling.{IsOne, spells_one}
use Rattle.fsfs_base.specs.declared.kind.Kind.TheVariants as kinds
use Rattle.fsfs_base.proofs.PathTextLemmas.{path_by_text}
use Rattle.fsfs_base.specs.Fields.RevNums.{IsRev}
use Rattle.fsfs_noderev.specs.Ids.{IsNumber64, id_value}
use Rattle.fsfs_noderev.specs.Reps.{IsRevOrNone, contents_value}
use Rattle.fsfs_noderev.specs.Fields.{IsIdText, IsKindText, AreContentsText, IsPathText, IsSourceText, IsRootText, IsYes}
use Rattle.fsfs_base.proofs.RevNumTexts.{rev_spells, rev_text_lacks}
use Rattle.fsfs_noderev.proofs.IdTexts.{id_spells}
use Rattle.fsfs_noderev.proofs.RepTexts.{contents_spells, number_spells, rev_or_none_spells, rev_or_none_lacks}
use Rattle.fsfs_noderev.proofs.Same.{id_same, contents_same}

pub rev_lacks : (t : List ℕ) (n : ℕ) → IsRev t n → Lacks 32 t
rev_lacks = rev_text_lacks 32 (omega arith)

-- ---- one value

pub id_one : IsOne IsIdText
id_one text a b g h = id_same a b (spells_one id_spells text (id_value a) (id_value b) g h)

pub contents_one : IsOne AreContentsText
contents_one text a b g h = contents_same a b (spells_one contents_spells text (contents_value a) (contents_value b) g h)

pub number_one : IsOne IsNumber64
number_one = spells_one number_spells

pub kind_one : IsOne IsKindText
kind_one text kinds.File kinds.File g h = refl
kind_one text kinds.File kinds.Dir g h = let e = sym g ∙ h in absurd cc
kind_one text kinds.Dir kinds.File g h = let e = sym g ∙ h in absurd cc
kind_one text kinds.Dir kinds.Dir g h = refl

pub path_one : IsOne IsPathText
path_one text a b g h = path_by_text a b g.path_is h.path_is (g.text_is ∙ sym h.text_is)

-- two parts of which the first ends at the first c
cut_one : {X Y : Type 0} (G : List ℕ → X → Type 0) (H : List ℕ → Y → Type 0) (c : ℕ) → ((t : List ℕ) (x : X) → G t x → Lacks c t) → IsOne G → IsOne H → (text : List ℕ) (p q : X × Y) → IsCutOf c G H text p → IsCutOf c G H text q → (p.0 ≡ q.0) × (p.1 ≡ q.1)
cut_one G H c lacks first second text p q v w =
    let s = two_parts G H c text v.0 v.1 q lacks (sym (ap (cut c) v.4 ∙ cut_again c v.0 v.1 (lacks v.0 p.0 v.2))) w in
    (first v.0 p.0 q.0 v.2 s.0, second v.1 p.1 q.1 v.3 s.1)

pub source_one : IsOne IsSourceText
source_one text a b g h =
    let s = cut_one IsRev IsPathText 32 rev_lacks (spells_one rev_spells) path_one text (a.rev, a.path) (b.rev, b.path) g h in
    λ i. record { rev = s.0 i; path = s.1 i }

pub root_one : IsOne IsRootText
root_one text a b g h =
    let s = cut_one IsRevOrNone IsPathText 32 rev_or_none_lacks (spells_one rev_or_none_spells) path_one text (a.rev, a.path) (b.rev, b.path) g h in
    λ i. record { rev = s.0 i; path = s.1 i }

pub yes_one : IsOne IsYes
yes_one text a b g h = refl
