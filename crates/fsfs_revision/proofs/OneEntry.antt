-- A directory's entries are read in one way at most.
use Rattle.std.proofs.Common.{◌≡◌, ℕ, List, [], ◌∷◌, ◌++◌, refl, sym, subst, ◌∙◌, inl, inr, arith}
use Rattle.std.specs.Prelude.{Ok, Err, codes}
use Rattle.fsfs_base.specs.declared.kind.Kind.{Kind}
use Rattle.fsfs_base.specs.declared.kind.Kind.TheVariants.{File, Dir}
use Rattle.fsfs_revision.specs.declared.damage.RevOffset.{RevOffset}
use Rattle.fsfs_revision.specs.declared.wrong.Wrong.{Wrong}
use Rattle.fsfs_revision.specs.Damage.Readings.{HasOneAnswer}
use Rattle.fsfs_revision.proofs.OneAnswer.{ok_ap, ok_no_err, err_ap, err_same, and_then_one, judged_one}
use Rattle.fsfs_revision.specs.Told.{RevisionBytes}
use Rattle.fsfs_noderev.specs.Fields.{IsIdText}
use Rattle.fsfs_noderev.specs.declared.node_id.NodeId.{NodeId}
use Rattle.fsfs_noderev.specs.declared.rep.Rep.{Rep}
use Rattle.fsfs_noderev.specs.declared.node_rev.NodeRev.{NodeRev}
use Rattle.fsfs_noderev.proofs.FieldTexts.{id_one}
use Rattle.fsfs_revision.proofs.HeaderLemmas.{head_same}
use Rattle.fsfs_revision.specs.Shows.Reading.{Pairs, PairsAt, DirEntry, kind_word, IsEntryName, IsEntryValue, IsEntry, pair_checks, EntryIn, AreEntries, FirstPairFails, EntriesIn, EntriesAt, EntriesOf, offset_of}
use Rattle.fsfs_revision.proofs.OneStep.{contents_one}
use Rattle.fsfs_revision.proofs.OneRep.{pairs_at_one}

word_one : (k l : Kind) (t u : List ℕ) → kind_word k ++ t ≡ kind_word l ++ u → (k ≡ l) × (t ≡ u)
word_one File File t u e = (refl, (let h : t ≡ u = cc in h))
word_one File Dir t u e = absurd (let h = head_same 102 100 (codes "ile " ++ t) (codes "ir " ++ u) e in omega arith)
word_one Dir File t u e = absurd (let h = head_same 100 102 (codes "ir " ++ t) (codes "ile " ++ u) e in omega arith)
word_one Dir Dir t u e = (refl, (let h : t ≡ u = cc in h))

pub value_one : (text : List ℕ) (k l : Kind) (a b : NodeId) → IsEntryValue text k a → IsEntryValue text l b → (k ≡ l) × (a ≡ b)
value_one text k l a b v w =
    let same = word_one k l v.id_text w.id_text (sym v.parts ∙ w.parts) in
    (same.0, id_one v.id_text a b v.id_is (subst (λ (t : List ℕ). IsIdText t b) (sym same.1) w.id_is))

pub entry_one : (home : RevOffset) (pair : List ℕ × List ℕ) (a b : DirEntry) → IsEntry home pair a → IsEntry home pair b → a ≡ b
entry_one home pair a b v w =
    let same = value_one pair.1 a.kind b.kind a.id b.id v.value_is w.value_is in
    let name = sym v.name ∙ w.name in
    λ i. record { name = name i; kind = same.0 i; id = same.1 i }

entry_in_one : (home : RevOffset) (rep : Rep) (pair : List ℕ × List ℕ) → HasOneAnswer (EntryIn home rep pair)
entry_in_one home rep pair = judged_one (IsEntry home pair) (pair_checks home rep pair) (entry_one home pair)
    (λ e v. (subst IsEntryName (sym v.name) v.name_is, ((e.kind, e.id, v.value_is), ((e, v), tt))))

module _ (home : RevOffset) (rep : Rep) where
  entry_or_row : (pair : List ℕ × List ℕ) (e : DirEntry) (w : Wrong) → IsEntry home pair e → EntryIn home rep pair (Err w) → ⊥
  entry_or_row pair e w v row = ok_no_err e w (entry_in_one home rep pair (Ok e) (Err w) v row)

  entries_same : (pairs : Pairs) (a b : List DirEntry) → AreEntries home pairs a → AreEntries home pairs b → a ≡ b
  entries_same [] [] [] v w = refl
  entries_same [] [] (e ∷ b) v w = absurd w
  entries_same [] (e ∷ a) b v w = absurd v
  entries_same (p ∷ pairs) [] b v w = absurd v
  entries_same (p ∷ pairs) (e ∷ a) [] v w = absurd w
  entries_same (p ∷ pairs) (e ∷ a) (f ∷ b) v w =
      let head = entry_one home p e f v.0 w.0 in
      let rest = entries_same pairs a b v.1 w.1 in
      λ i. head i ∷ rest i

  entries_or_row : (pairs : Pairs) (a : List DirEntry) (w : Wrong) → AreEntries home pairs a → FirstPairFails home rep pairs w → ⊥
  entries_or_row [] a w v row = row
  entries_or_row (p ∷ pairs) [] w v row = v
  entries_or_row (p ∷ pairs) (e ∷ a) w v (inl row) = entry_or_row p e w v.0 row
  entries_or_row (p ∷ pairs) (e ∷ a) w v (inr later) = entries_or_row pairs a w v.1 later.2

  first_rows_agree : (pairs : Pairs) (v w : Wrong) → FirstPairFails home rep pairs v → FirstPairFails home rep pairs w → v ≡ w
  first_rows_agree [] v w a b = absurd a
  first_rows_agree (p ∷ pairs) v w (inl a) (inl b) = err_same {X = DirEntry} v w (entry_in_one home rep p (Err v) (Err w) a b)
  first_rows_agree (p ∷ pairs) v w (inl a) (inr b) = absurd (entry_or_row p b.0 v b.1 a)
  first_rows_agree (p ∷ pairs) v w (inr a) (inl b) = absurd (entry_or_row p a.0 w a.1 b)
  first_rows_agree (p ∷ pairs) v w (inr a) (inr b) = first_rows_agree pairs v w a.2 b.2

  pub entries_in_one : (pairs : Pairs) → HasOneAnswer (EntriesIn home rep pairs)
  entries_in_one pairs (Ok a) (Ok b) g h = ok_ap a b (entries_same pairs a b g h)
  entries_in_one pairs (Ok a) (Err w) g h = absurd (entries_or_row pairs a w g h)
  entries_in_one pairs (Err w) (Ok a) h g = absurd (entries_or_row pairs a w g h)
  entries_in_one pairs (Err v) (Err w) g h = err_ap v w (first_rows_agree pairs v w g h)

pub entries_at_one : (look : RevisionBytes) (home : RevOffset) (rep : Rep) → HasOneAnswer (EntriesAt look home rep)
entries_at_one look home rep = and_then_one (PairsAt look rep) (EntriesIn home rep) (pairs_at_one look rep) (entries_in_one home rep)

pub entries_one : (look : RevisionBytes) (v : NodeRev) → HasOneAnswer (EntriesOf look v)
entries_one look v = contents_one [] (EntriesAt look (offset_of v.id.place)) (entries_at_one look (offset_of v.id.place)) v.text
