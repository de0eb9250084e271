-- The changed paths of a revision have one text at most.
use Rattle.std.proofs.Common.{◌≡◌, ℕ, Bool, true, false, List, [], ◌∷◌, ◌++◌, refl, sym, subst, ◌∙◌, inl, inr}
use Rattle.std.specs.Prelude.{Option, Some, None, Result, Ok, Err}
use Rattle.fsfs_base.specs.Paths.{Path}
use Rattle.fsfs_base.specs.declared.kind.Kind.{Kind}
use Rattle.fsfs_base.specs.declared.kind.Kind.TheVariants.{File}
use Rattle.fsfs_base.specs.declared.action.Action.{Action}
use Rattle.fsfs_base.specs.declared.action.Action.TheVariants.{Add, Delete, Replace, Modify}
use Rattle.fsfs_revision.specs.declared.wrong.Wrong.{Wrong}
use Rattle.fsfs_revision.specs.Damage.Readings.{HasOneAnswer}
use Rattle.fsfs_revision.proofs.OneAnswer.{ok_same, ok_no_err, err_same, and_then_one}
use Rattle.fsfs_revision.specs.Told.{RevisionBytes}
use Rattle.fsfs_noderev.specs.declared.changes.item.ChangeItem.{ChangeItem}
use Rattle.fsfs_revision.specs.Shows.Reading.{OfId, MetAt}
use Rattle.fsfs_revision.proofs.OneWalk.{of_id_one, met_at_one}
use Rattle.fsfs_stands.specs.declared.look_fault.LookFault.TheVariants as faults
use Rattle.fsfs_stands.specs.Texts.{End, Refused, Stopped}
use Rattle.fsfs_stands.specs.Agreeing.{Agree}
use Rattle.fsfs_stands.proofs.OneText.{agree_behind, stopped_first, stopped_second, wrong_same}
use Rattle.fsfs_stands.specs.Items.{ItemsOf}
use Rattle.fsfs_tree.specs.ChangedTexts.{taken_from, replaced_lines}
use Rattle.fsfs_stands.specs.ChangedTexts.{ByText, by_text, in_order, kind_met, KindAt, KindUnsaid, KindOf, is_nameable, source_at, KindFrom, TakenKind, ActionLines, ItemLines, LinesText, OfNone, OfItem, OfWrong, Stops, end_of, ByItems}
use Rattle.fsfs_stands.specs.ChangedLaws.{ChangedPathsHaveOneText}
use Rattle.fsfs_stands.proofs.OneItems.{items_of_one}

-- ---- kinds

kind_at_one : (look : RevisionBytes) (rev : ℕ) (p : Path) (kind : Kind) → HasOneAnswer (KindAt look rev p kind)
kind_at_one look rev p kind = and_then_one (MetAt look rev p) (λ met r. r ≡ Ok (kind_met kind met)) (met_at_one look rev p) (λ met a b g h. g ∙ sym h)

kind_unsaid_one : (look : RevisionBytes) (rev : ℕ) (item : ChangeItem) (lasting : Bool) → HasOneAnswer (KindUnsaid look rev item lasting)
kind_unsaid_one look rev item true = and_then_one (OfId look item.id) (λ u r. r ≡ Ok u.kind) (of_id_one look item.id) (λ u a b g h. g ∙ sym h)
kind_unsaid_one look rev item false = kind_at_one look rev item.path File

pub kind_of_one : (look : RevisionBytes) (rev : ℕ) (item : ChangeItem) (said : Option Kind) → HasOneAnswer (KindOf look rev item said)
kind_of_one look rev item (Some kind) = λ a b g h. g ∙ sym h
kind_of_one look rev item None = kind_unsaid_one look rev item (is_nameable rev item.id)

kind_from_one : (look : RevisionBytes) (from : Option (ℕ × Path)) (kind : Kind) → HasOneAnswer (KindFrom look from kind)
kind_from_one look None kind = λ a b g h. g ∙ sym h
kind_from_one look (Some from) kind = kind_at_one look from.0 from.1 kind

-- ---- lines

module _ (look : RevisionBytes) (rev : ℕ) (found : ByText) (last : End) where
  action_one : (item : ChangeItem) (action : Action) (kind : Kind) → HasOneAnswer (ActionLines look rev found item action kind)
  action_one item Add kind = λ a b g h. g ∙ sym h
  action_one item Delete kind = λ a b g h. g ∙ sym h
  action_one item Modify kind = λ a b g h. g ∙ sym h
  action_one item Replace kind =
      and_then_one (TakenKind look rev found item.path kind) (λ taken r. r ≡ Ok (replaced_lines item.path taken kind))
      (kind_from_one look (taken_from rev (source_at found) item.path) kind) (λ taken a b g h. g ∙ sym h)

  item_one : (item : ChangeItem) → HasOneAnswer (ItemLines look rev found item)
  item_one item = and_then_one (KindOf look rev item item.kind) (ActionLines look rev found item item.action) (kind_of_one look rev item item.kind) (action_one item item.action)

  none_agrees : (b : List ℕ) (f : End) → LinesText look rev found last [] b f → Agree [] last b f
  none_agrees b f OfNone = inl (refl, refl)
  none_agrees b f (Stops _) = stopped_second [] [] last Stopped (refl, refl)

  item_agrees : (item : ChangeItem) (left : List ChangeItem) (lines text : List ℕ) (end : End) → ItemLines look rev found item (Ok lines) → ((b : List ℕ) (f : End) → LinesText look rev found last left b f → Agree text end b f)
      → (b : List ℕ) (f : End) → LinesText look rev found last (item ∷ left) b f → Agree (lines ++ text) end b f
  item_agrees item left lines text end is each b f (OfItem _ _ other more stop its rest) =
      let same = ok_same lines other (item_one item (Ok lines) (Ok other) is its) in
      subst (λ (l : List ℕ). Agree (lines ++ text) end (l ++ more) stop) same (agree_behind lines text more end stop (each more stop rest))
  item_agrees item left lines text end is each b f (OfWrong _ _ w wrong) = ok_no_err lines w (item_one item (Ok lines) (Err w) is wrong)
  item_agrees item left lines text end is each b f (Stops _) = stopped_second (lines ++ text) [] end Stopped (refl, refl)

  wrong_agrees : (item : ChangeItem) (left : List ChangeItem) (w : Wrong) → ItemLines look rev found item (Err w) → (b : List ℕ) (f : End) → LinesText look rev found last (item ∷ left) b f → Agree [] (Refused (faults.Wrong w)) b f
  wrong_agrees item left w wrong b f (OfItem _ _ other more stop its rest) = ok_no_err other w (item_one item (Ok other) (Err w) its wrong)
  wrong_agrees item left w wrong b f (OfWrong _ _ x also) = inl (refl, wrong_same w x (err_same w x (item_one item (Err w) (Err x) wrong also)))
  wrong_agrees item left w wrong b f (Stops _) = stopped_second [] [] (Refused (faults.Wrong w)) Stopped (refl, refl)

  pub lines_one : (left : List ChangeItem) (a : List ℕ) (e : End) → LinesText look rev found last left a e → (b : List ℕ) (f : End) → LinesText look rev found last left b f → Agree a e b f
  lines_one [] a e OfNone b f h = none_agrees b f h
  lines_one (item ∷ left) a e (OfItem _ _ lines text end is rest) b f h = item_agrees item left lines text end is (lines_one left text end rest) b f h
  lines_one (item ∷ left) a e (OfWrong _ _ w wrong) b f h = wrong_agrees item left w wrong b f h
  lines_one left a e (Stops _) b f h = stopped_first [] b Stopped f (refl, refl)

-- ---- the text

abbrev Read : Type 0
Read = List ChangeItem × Option Wrong

pub changed_one : ChangedPathsHaveOneText
changed_one look rev a b e f (inl none) h = stopped_first a b e f none
changed_one look rev a b e f (inr g) (inl none) = stopped_second a b e f none
changed_one look rev a b e f (inr (inl (w, wrong, none))) (inr (inl (x, also, nothing))) =
    inl (none.0 ∙ sym nothing.0, none.1 ∙ wrong_same w x (err_same w x (items_of_one look rev (Err w) (Err x) wrong also)) ∙ sym nothing.1)
changed_one look rev a b e f (inr (inl (w, wrong, none))) (inr (inr (items, read, lines))) = ok_no_err items w (items_of_one look rev (Ok items) (Err w) read wrong)
changed_one look rev a b e f (inr (inr (items, read, lines))) (inr (inl (w, wrong, none))) = ok_no_err items w (items_of_one look rev (Ok items) (Err w) read wrong)
changed_one look rev a b e f (inr (inr (items, read, lines))) (inr (inr (others, reads, more))) =
    let same = ok_same items others (items_of_one look rev (Ok items) (Ok others) read reads) in
    lines_one look rev (by_text items.0) (end_of items.1) (in_order (by_text items.0)) a e lines b f (subst (λ (xs : Read). ByItems look rev xs b f) (sym same) more)
