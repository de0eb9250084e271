-- Items are read exactly, and the bytes begin with one item at most.
use Rattle.std.proofs.Common.{◌≡◌, ℕ, ◌<◌, true, List, [], ◌∷◌, ◌++◌, length, Option, Some, None, refl, sym, ap, subst, ◌∙◌, append_assoc, arith, inl, inr}
use Rattle.std.proofs.lemmas.Option.{same_Some}
use Rattle.std.specs.Prelude.{is_some}
use Rattle.std.proofs.lemmas.List.{length-append}
use Rattle.fsfs_base.specs.Grammar.Relations.{Begins}
use Rattle.fsfs_base.specs.Grammar.Cuts.{Lacks, IsCutOf, cut, and_then}
use Rattle.fsfs_base.proofs.Readers.{chosen}
use Rattle.fsfs_base.proofs.CutLemmas.{cut_found, cut_again, two_lack}
use Rattle.fsfs_base.proofs.Spelling.{bound}
use Rattle.fsfs_noderev.specs.Ids.{id_value}
use Rattle.fsfs_noderev.specs.Fields.{IsIdText, IsPathText, IsSourceText}
use Rattle.fsfs_noderev.specs.declared.node_rev.CopySource.{CopySource}
use Rattle.fsfs_noderev.proofs.Same.{id_same}
use Rattle.fsfs_noderev.proofs.FieldTexts.{path_one, source_one}
use Rattle.fsfs_noderev.proofs.OneLine.{id_line, path_line, source_line}
use Rattle.fsfs_noderev.specs.Changes.Words.{IsFlagText, IsActionAndKind, flags_fit}
use Rattle.fsfs_noderev.specs.Changes.Items.{IsFirstLine, IsSecondLine, IsItem}
use Rattle.fsfs_noderev.specs.Changes.Reading.{HeadValue, IsHead, head_at, lines_at, checked, item_at}
use Rattle.fsfs_noderev.specs.declared.changes.item.ChangeItem.{ChangeItem}
use Rattle.fsfs_noderev.proofs.WordTexts.{flag_lacks, action_and_kind_line}
use Rattle.fsfs_noderev.proofs.HeadTexts.{head_spells}

abbrev pub value : ChangeItem → List ℕ → HeadValue
value item path = (id_value item.id, ((item.action, item.kind), (item.text_changed, (item.props_changed, path))))

abbrev pub Found : Type 0
Found = HeadValue × (List ℕ × List ℕ)

-- ---- the two lines

first_lacks : (text : List ℕ) (item : ChangeItem) → IsFirstLine text item → Lacks 10 text
first_lacks text item w =
    let flag = flag_lacks 10 refl refl in
    two_lack 10 32 IsIdText (IsCutOf 32 IsActionAndKind (IsCutOf 32 IsFlagText (IsCutOf 32 IsFlagText IsPathText))) refl id_line
    (two_lack 10 32 IsActionAndKind (IsCutOf 32 IsFlagText (IsCutOf 32 IsFlagText IsPathText)) refl action_and_kind_line
    (two_lack 10 32 IsFlagText (IsCutOf 32 IsFlagText IsPathText) refl flag (two_lack 10 32 IsFlagText IsPathText refl flag path_line)))
    text (item.id, ((item.action, item.kind), (item.text_changed, (item.props_changed, item.path)))) w

second_lacks : (text : List ℕ) (s : Option CopySource) → IsSecondLine text s → Lacks 10 text
second_lacks text None w = subst (λ (t : List ℕ). Lacks 10 t) (sym w) tt
second_lacks text (Some s) w = source_line text s w

lines_again : (first second rest : List ℕ) → Lacks 10 first → Lacks 10 second → lines_at (first ++ 10 ∷ (second ++ 10 ∷ rest)) ≡ Some (first, (second, rest))
lines_again first second rest one two = rw (cut_again 10 first (second ++ 10 ∷ rest) one, cut_again 10 second rest two) refl

lines_found : (bytes : List ℕ) (l : List ℕ × (List ℕ × List ℕ)) → lines_at bytes ≡ Some l → bytes ≡ l.0 ++ 10 ∷ (l.1.0 ++ 10 ∷ l.1.1)
lines_found bytes l e =
    let p = bound (cut 10 bytes) (λ p. and_then (cut 10 p.1) (λ q. let r : Option (List ℕ × (List ℕ × List ℕ)) = Some (p.0, (q.0, q.1)) in r)) l e in
    let q = bound (cut 10 p.0.1) (λ q. let r : Option (List ℕ × (List ℕ × List ℕ)) = Some (p.0.0, (q.0, q.1)) in r) l p.2 in
    let same = same_Some {A = List ℕ × (List ℕ × List ℕ)} (p.0.0, (q.0.0, q.0.1)) l q.2 in
    subst (λ (m : List ℕ × (List ℕ × List ℕ)). bytes ≡ m.0 ++ 10 ∷ (m.1.0 ++ 10 ∷ m.1.1)) same
    ((cut_found 10 bytes p.0.0 p.0.1 p.1).parts ∙ ap (λ (t : List ℕ). p.0.0 ++ 10 ∷ t) (cut_found 10 p.0.1 q.0.0 q.0.1 q.1).parts)

regroup : (first second rest : List ℕ) → (first ++ 10 ∷ (second ++ 10 ∷ [])) ++ rest ≡ first ++ 10 ∷ (second ++ 10 ∷ rest)
regroup first second rest = append_assoc first (10 ∷ (second ++ 10 ∷ [])) rest ∙ ap (λ (t : List ℕ). first ++ 10 ∷ t) (append_assoc second (10 ∷ []) rest)

-- ---- an item

-- what is read where the bytes begin with an item
pub record IsShown (bytes : List ℕ) (item : ChangeItem) (rest : List ℕ) : Type 0 where
  pub path : List ℕ
  pub source : List ℕ
  pub read : item_at bytes ≡ Some (value item path, (source, rest))
  pub path_is : IsPathText path item.path
  pub source_is : IsSecondLine source item.source

checked_again : (h : HeadValue) (lines : List ℕ × List ℕ) → flags_fit h.1.0.0 h.1.1.0 h.1.1.1.0 ≡ true → checked h lines ≡ Some (h, lines)
checked_again h lines e = rw e refl

pub shown : (bytes : List ℕ) (item : ChangeItem) (rest : List ℕ) → Begins IsItem bytes item rest → IsShown bytes item rest
unfolding item_at
shown bytes item rest w =
    let i = w.text in
    let f = i.first_is in
    let path : List ℕ = f.3.3.3.1 in
    let head : IsHead i.first (value item path) = (f.0, f.1, f.2, (f.3.0, f.3.1, f.3.2, (f.3.3.0, f.3.3.1, f.3.3.2, (f.3.3.3.0, path, f.3.3.3.2, refl, f.3.3.3.4), f.3.3.4), f.3.4), f.4) in
    let parts : bytes ≡ i.first ++ 10 ∷ (i.second ++ 10 ∷ rest) = w.parts ∙ ap (λ (t : List ℕ). t ++ rest) i.parts ∙ regroup i.first i.second rest in
    let lines : lines_at bytes ≡ Some (i.first, (i.second, rest)) = ap lines_at parts ∙ lines_again i.first i.second rest (first_lacks i.first item f) (second_lacks i.second item.source i.second_is) in
    record {
      path = path;
      source = i.second;
      read = rw (lines, head_spells.again i.first (value item path) head) (checked_again (value item path) (i.second, rest) i.flags);
      path_is = f.3.3.3.3;
      source_is = i.second_is;
    }

record IsFoundHead (bytes : List ℕ) (x : Found) : Type 0 where
  pub first : List ℕ
  pub head : IsHead first x.0
  pub flags : flags_fit x.0.1.0.0 x.0.1.1.0 x.0.1.1.1.0 ≡ true
  pub parts : bytes ≡ first ++ 10 ∷ (x.1.0 ++ 10 ∷ x.1.1)

head_found : (bytes : List ℕ) (x : Found) → item_at bytes ≡ Some x → IsFoundHead bytes x
unfolding item_at
head_found bytes x e =
    let b = bound (lines_at bytes) (λ l. and_then (head_at l.0) (λ h. checked h l.1)) x e in
    let d = bound (head_at b.0.0) (λ h. checked h b.0.1) x b.2 in
    elim (chosen (flags_fit d.0.1.0.0 d.0.1.1.0 d.0.1.1.1.0) (Some (d.0, b.0.1)) None (Some x) d.2) [
      | inl v ↦ subst (λ (y : Found). IsFoundHead bytes y) (same_Some {A = Found} (d.0, b.0.1) x v.1)
          (record { first = b.0.0; head = head_spells.found b.0.0 d.0 d.1; flags = v.0; parts = lines_found bytes b.0 b.1 })
      | inr v ↦ absurd (no v.1)
    ]
  where
    no : (let o : Option Found = None in o) ≡ Some x → ⊥
    no e = cc

pub begun : (bytes : List ℕ) (item : ChangeItem) (path source rest : List ℕ) → item_at bytes ≡ Some (value item path, (source, rest)) → IsPathText path item.path → IsSecondLine source item.source → Begins IsItem bytes item rest
begun bytes item path source rest e path_is source_is =
    let w = head_found bytes (value item path, (source, rest)) e in
    let f = w.head in
    let text_is : IsPathText f.3.3.3.1 item.path = subst (λ (t : List ℕ). IsPathText t item.path) (sym f.3.3.3.3) path_is in
    record {
      front = w.first ++ 10 ∷ (source ++ 10 ∷ []);
      text = record {
        first = w.first;
        second = source;
        first_is = (f.0, f.1, f.2, (f.3.0, f.3.1, f.3.2, (f.3.3.0, f.3.3.1, f.3.3.2, (f.3.3.3.0, f.3.3.3.1, f.3.3.3.2, text_is, f.3.3.3.4), f.3.3.4), f.3.4), f.4);
        second_is = source_is;
        flags = w.flags;
        parts = refl;
      };
      parts = w.parts ∙ sym (regroup w.first source rest);
    }

second_one : (text : List ℕ) (s t : Option CopySource) → IsSecondLine text s → IsSecondLine text t → s ≡ t
second_one text None None v w = refl
second_one text None (Some t) v w = absurd (omega (arith, ap length v, ap length w.4, length-append w.0 (32 ∷ w.1)))
second_one text (Some s) None v w = absurd (omega (arith, ap length w, ap length v.4, length-append v.0 (32 ∷ v.1)))
second_one text (Some s) (Some t) v w = ap (λ (x : CopySource). Some x) (source_one text s t v w)

-- the bytes begin with one item at most
pub item_one : (bytes : List ℕ) (a b : ChangeItem) (r s : List ℕ) → Begins IsItem bytes a r → Begins IsItem bytes b s → (a ≡ b) × (r ≡ s)
item_one bytes a b r s v w =
    let one = shown bytes a r v in
    let two = shown bytes b s w in
    let e = same_Some {A = Found} (value a one.path, (one.source, r)) (value b two.path, (two.source, s)) (sym one.read ∙ two.read) in
    let id : a.id ≡ b.id = id_same a.id b.id (ap (λ (x : Found). x.0.0) e) in
    let path_text : one.path ≡ two.path = ap (λ (x : Found). x.0.1.1.1.1) e in
    let path : a.path ≡ b.path = path_one two.path a.path b.path (subst (λ (t : List ℕ). IsPathText t a.path) path_text one.path_is) two.path_is in
    let source_text : one.source ≡ two.source = ap (λ (x : Found). x.1.0) e in
    let source : a.source ≡ b.source = second_one two.source a.source b.source (subst (λ (t : List ℕ). IsSecondLine t a.source) source_text one.source_is) two.source_is in (
      (λ i. record {
        id = id i;
        action = ap (λ (x : Found). x.0.1.0.0) e i;
        kind = ap (λ (x : Found). x.0.1.0.1) e i;
        text_changed = ap (λ (x : Found). x.0.1.1.0) e i;
        props_changed = ap (λ (x : Found). x.0.1.1.1.0) e i;
        path = path i;
        source = source i;
      }),
      ap (λ (x : Found). x.1.1) e,
    )

pub item_filled : (text : List ℕ) (item : ChangeItem) → IsItem text item → 0 < length text
item_filled text item w = omega (arith, ap length w.parts, length-append w.first (10 ∷ (w.second ++ 10 ∷ [])))

pub item_alone : (text : List ℕ) (item : ChangeItem) (rest : List ℕ) → IsItem text item → Begins IsItem (text ++ rest) item rest
item_alone text item rest w = record { front = text; text = w; parts = refl }

-- the text of an item's path is in its grammar
pub item_path : (text : List ℕ) (item : ChangeItem) → IsItem text item → (t : List ℕ) × IsPathText t item.path
item_path text item w = (w.first_is.3.3.3.1, w.first_is.3.3.3.3)

-- ---- the code's steps

pub not_some : {X : Type 0} (o : Option X) → o ≡ None → is_some o ≡ true → ⊥
not_some o e some = let f = sym (ap is_some e) ∙ some in absurd cc

-- the parts of what was read, where the bytes begin with an item
pub seen : (bytes : List ℕ) (v : Found) (item : ChangeItem) (rest : List ℕ) → (let o : Option Found = Some v in o) ≡ item_at bytes → Begins IsItem bytes item rest → IsPathText v.0.1.1.1.1 item.path × IsSecondLine v.1.0 item.source
seen bytes v item rest e w =
    let s = shown bytes item rest w in
    let same = same_Some {A = Found} v (value item s.path, (s.source, rest)) (e ∙ s.read) in
    (subst (λ (x : Found). IsPathText x.0.1.1.1.1 item.path) (sym same) s.path_is, subst (λ (x : Found). IsSecondLine x.1.0 item.source) (sym same) s.source_is)

pub unseen : (bytes : List ℕ) (item : ChangeItem) (rest : List ℕ) → (let o : Option Found = None in o) ≡ item_at bytes → Begins IsItem bytes item rest → ⊥
unseen bytes item rest e w = let f = e ∙ (shown bytes item rest w).read in absurd cc

pub second_filled : (text : List ℕ) (s : Option CopySource) → 0 < length text → IsSecondLine text s → (x : CopySource) × (s ≡ Some x) × IsSourceText text x
second_filled text None more w = absurd (omega (arith, more, ap length w))
second_filled text (Some x) more w = (x, refl, w)
