-- The words of the first line are read exactly, and lack the bytes that end them.
use Rattle.std.proofs.Common.{◌≡◌, ℕ, Bool, true, false, cond, eqb, List, [], ◌∷◌, Option, Some, None, refl, sym, ap, subst, ◌∙◌, inl, inr}
use Rattle.std.proofs.lemmas.Option.{same_Some}
use Rattle.std.specs.Prelude.{codes}
use Rattle.std.specs.Str.{bytes_eq}
use Rattle.std.proofs.lemmas.Slice.Eq.{bytes_eq-Decides}
use Rattle.fsfs_base.specs.Grammar.Cuts.{Lacks, cut, and_then}
use Rattle.fsfs_base.proofs.Readers.{chosen}
use Rattle.fsfs_base.proofs.CutLemmas.{cut_found, cut_again, two_lack, cut_lacking}
use Rattle.fsfs_base.proofs.Spelling.{Spells, bound}
use Rattle.fsfs_base.specs.declared.kind.Kind.{Kind}
use Rattle.fsfs_base.specs.declared.kind.Kind.TheVariants.{File, Dir}
use Rattle.fsfs_base.specs.declared.action.Action.{Action}
use Rattle.fsfs_base.specs.declared.action.Action.TheVariants.{Add, Delete, Replace, Modify}
use Rattle.fsfs_noderev.specs.Fields.{IsKindText}
use Rattle.fsfs_noderev.specs.Changes.Words.{IsFlagText, IsActionText, IsActionAndKind}
use Rattle.fsfs_noderev.specs.Changes.Reading.{flag_at, action_at, kind_at, split_action, action_and_kind_at}

-- ---- a word or what else

-- a text is the word, or is read otherwise
word : {X : Type 0} (P : X → Type 0) (text given : List ℕ) (x y : X) (other : Option X) → (text ≡ given → P x) → (other ≡ Some y → P y) → cond (bytes_eq text given) (Some x) other ≡ Some y → P y
word P text given x y other here there e = elim (chosen (bytes_eq text given) (Some x) other (Some y) e) [
  | inl w ↦ subst P (same_Some x y w.1) (here ((bytes_eq-Decides text given).0 w.0))
  | inr w ↦ there w.1
]

none_left : {X : Type 0} (P : X → Type 0) (y : X) → (let o : Option X = None in o) ≡ Some y → P y
none_left P y e = absurd cc

flag_found : (text : List ℕ) (x : Bool) → flag_at text ≡ Some x → IsFlagText text x
flag_found text x e =
    word (IsFlagText text) text (codes "true") true x (cond (bytes_eq text (codes "false")) (Some false) None) (λ s. s)
    (word (IsFlagText text) text (codes "false") false x None (λ s. s) (none_left (IsFlagText text) x)) e

flag_again : (text : List ℕ) (x : Bool) → IsFlagText text x → flag_at text ≡ Some x
flag_again text true w = ap flag_at w
flag_again text false w = ap flag_at w

pub flag_spells : Spells IsFlagText flag_at
flag_spells = record { found = flag_found; again = flag_again }

action_found : (text : List ℕ) (x : Action) → action_at text ≡ Some x → IsActionText text x
action_found text x e =
    let P = IsActionText text in
    let three : Option Action = cond (bytes_eq text (codes "modify")) (Some Modify) None in
    let two : Option Action = cond (bytes_eq text (codes "replace")) (Some Replace) three in
    let one : Option Action = cond (bytes_eq text (codes "delete")) (Some Delete) two in
    word P text (codes "add") Add x one (λ s. s)
    (word P text (codes "delete") Delete x two (λ s. s)
    (word P text (codes "replace") Replace x three (λ s. s)
    (word P text (codes "modify") Modify x None (λ s. s) (none_left P x)))) e

action_again : (text : List ℕ) (x : Action) → IsActionText text x → action_at text ≡ Some x
action_again text Add w = ap action_at w
action_again text Delete w = ap action_at w
action_again text Replace w = ap action_at w
action_again text Modify w = ap action_at w

pub action_spells : Spells IsActionText action_at
action_spells = record { found = action_found; again = action_again }

kind_found : (text : List ℕ) (x : Kind) → kind_at text ≡ Some x → IsKindText text x
kind_found text x e =
    word (IsKindText text) text (codes "file") File x (cond (bytes_eq text (codes "dir")) (Some Dir) None) (λ s. s)
    (word (IsKindText text) text (codes "dir") Dir x None (λ s. s) (none_left (IsKindText text) x)) e

kind_again : (text : List ℕ) (x : Kind) → IsKindText text x → kind_at text ≡ Some x
kind_again text File w = ap kind_at w
kind_again text Dir w = ap kind_at w

pub kind_spells : Spells IsKindText kind_at
kind_spells = record { found = kind_found; again = kind_again }

-- ---- which bytes they lack

abbrev clean : ℕ → List ℕ → Bool
clean c [] = true
clean c (b ∷ bs) = cond (eqb b c) false (clean c bs)

clean_lacks : (c : ℕ) (text : List ℕ) → clean c text ≡ true → Lacks c text
clean_lacks c [] e = tt
clean_lacks c (b ∷ bs) e = go (clean_lacks c bs) (eqb b c) refl e
  where
    go : (clean c bs ≡ true → Lacks c bs) → (t : Bool) → eqb b c ≡ t → cond t false (clean c bs) ≡ true → Lacks c (b ∷ bs)
    go more true i e = absurd cc
    go more false i e = (i, more e)

given_lacks : (c : ℕ) (text given : List ℕ) → clean c given ≡ true → text ≡ given → Lacks c text
given_lacks c text given ok e = subst (λ (t : List ℕ). Lacks c t) (sym e) (clean_lacks c given ok)

pub flag_lacks : (c : ℕ) → clean c (codes "true") ≡ true → clean c (codes "false") ≡ true → (text : List ℕ) (x : Bool) → IsFlagText text x → Lacks c text
flag_lacks c one two text true w = given_lacks c text (codes "true") one w
flag_lacks c one two text false w = given_lacks c text (codes "false") two w

record AreClean (c : ℕ) : Type 0 where
  pub add : clean c (codes "add") ≡ true
  pub delete : clean c (codes "delete") ≡ true
  pub replace : clean c (codes "replace") ≡ true
  pub modify : clean c (codes "modify") ≡ true

action_lacks : (c : ℕ) → AreClean c → (text : List ℕ) (x : Action) → IsActionText text x → Lacks c text
action_lacks c ok text Add w = given_lacks c text (codes "add") ok.add w
action_lacks c ok text Delete w = given_lacks c text (codes "delete") ok.delete w
action_lacks c ok text Replace w = given_lacks c text (codes "replace") ok.replace w
action_lacks c ok text Modify w = given_lacks c text (codes "modify") ok.modify w

pub action_lacks_dash : (text : List ℕ) (x : Action) → IsActionText text x → Lacks 45 text
action_lacks_dash = action_lacks 45 (record { add = refl; delete = refl; replace = refl; modify = refl })

kind_lacks : (c : ℕ) → clean c (codes "file") ≡ true → clean c (codes "dir") ≡ true → (text : List ℕ) (x : Kind) → IsKindText text x → Lacks c text
kind_lacks c one two text File w = given_lacks c text (codes "file") one w
kind_lacks c one two text Dir w = given_lacks c text (codes "dir") two w

both_lack : (c : ℕ) → AreClean c → eqb 45 c ≡ false → clean c (codes "file") ≡ true → clean c (codes "dir") ≡ true → (text : List ℕ) (p : Action × Option Kind) → IsActionAndKind text p → Lacks c text
both_lack c ok other one two text (action, None) w = action_lacks c ok text action w
both_lack c ok other one two text (action, Some kind) w = two_lack c 45 IsActionText IsKindText other (action_lacks c ok) (kind_lacks c one two) text (action, kind) w

pub action_and_kind_lacks_space : (text : List ℕ) (p : Action × Option Kind) → IsActionAndKind text p → Lacks 32 text
action_and_kind_lacks_space = both_lack 32 (record { add = refl; delete = refl; replace = refl; modify = refl }) refl refl refl

pub action_and_kind_line : (text : List ℕ) (p : Action × Option Kind) → IsActionAndKind text p → Lacks 10 text
action_and_kind_line = both_lack 10 (record { add = refl; delete = refl; replace = refl; modify = refl }) refl refl refl

-- ---- an action and a kind

split_found : (text : List ℕ) (o : Option (List ℕ × List ℕ)) → cut 45 text ≡ o → (p : Action × Option Kind) → split_action text o ≡ Some p → IsActionAndKind text p
split_found text None is p e =
    let b = bound (action_at text) (λ action. let r : Option (Action × Option Kind) = Some (action, None) in r) p e in
    subst (λ (q : Action × Option Kind). IsActionAndKind text q) (same_Some {A = Action × Option Kind} (b.0, None) p b.2) (action_spells.found text b.0 b.1)
split_found text (Some q) is p e =
    let b = bound (action_at q.0) (λ action. and_then (kind_at q.1) (λ kind. let r : Option (Action × Option Kind) = Some (action, Some kind) in r)) p e in
    let d = bound (kind_at q.1) (λ kind. let r : Option (Action × Option Kind) = Some (b.0, Some kind) in r) p b.2 in
    subst (λ (q : Action × Option Kind). IsActionAndKind text q) (same_Some {A = Action × Option Kind} (b.0, Some d.0) p d.2)
    (q.0, q.1, action_spells.found q.0 b.0 b.1, kind_spells.found q.1 d.0 d.1, (cut_found 45 text q.0 q.1 is).parts)

both_found : (text : List ℕ) (p : Action × Option Kind) → action_and_kind_at text ≡ Some p → IsActionAndKind text p
unfolding action_and_kind_at
both_found text p e = split_found text (cut 45 text) refl p e

both_again : (text : List ℕ) (p : Action × Option Kind) → IsActionAndKind text p → action_and_kind_at text ≡ Some p
unfolding action_and_kind_at
both_again text (action, None) w = rw (cut_lacking 45 text (action_lacks_dash text action w), action_spells.again text action w) refl
both_again text (action, Some kind) w =
    let e : cut 45 text ≡ Some (w.0, w.1) = ap (cut 45) w.4 ∙ cut_again 45 w.0 w.1 (action_lacks_dash w.0 action w.2) in
    rw (e, action_spells.again w.0 action w.2, kind_spells.again w.1 kind w.3) refl

pub action_and_kind_spells : Spells IsActionAndKind action_and_kind_at
action_and_kind_spells = record { found = both_found; again = both_again }
