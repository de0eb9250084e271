-- A dump has one text at most.
use Rattle.std.proofs.Common.{◌≡◌, ℕ, zero, suc, Bool, true, false, List, [], ◌∷◌, ◌++◌, sym, subst, ◌∙◌, inl, inr}
use Rattle.std.specs.Prelude.{Option, Some, Result, Ok, Err}
use Rattle.fsfs_base.specs.declared.kind.Kind.{Kind}
use Rattle.fsfs_base.specs.declared.kind.Kind.TheVariants.{File, Dir}
use Rattle.fsfs_base.specs.declared.action.Action.{Action}
use Rattle.fsfs_base.specs.declared.action.Action.TheVariants.{Add, Delete, Replace, Modify}
use Rattle.fsfs_revision.specs.declared.wrong.Wrong.{Wrong}
use Rattle.fsfs_revision.specs.Damage.Readings.{HasOneAnswer}
use Rattle.fsfs_revision.proofs.OneAnswer.{ok_same, ok_no_err, err_same, and_then_one}
use Rattle.fsfs_revision.specs.Told.{RevisionBytes}
use Rattle.fsfs_revision.specs.RevProps.{only}
use Rattle.fsfs_noderev.specs.declared.changes.item.ChangeItem.{ChangeItem}
use Rattle.fsfs_noderev.specs.declared.node_rev.NodeRev.{NodeRev}
use Rattle.fsfs_revision.specs.Shows.Reading.{PropsOf, Met, Stands, Lacking, Blocked, MetAt}
use Rattle.fsfs_revision.proofs.OneWalk.{text_one, props_one, of_id_one, met_at_one}
use Rattle.fsfs_stands.specs.Texts.{End, Whole}
use Rattle.fsfs_stands.specs.Agreeing.{Agree, HasOneText}
use Rattle.fsfs_stands.proofs.OneText.{agree_behind, agree_more, agree_less, wholes_same, stopped_first, stopped_second, nothing_one, wrong_same}
use Rattle.fsfs_stands.specs.FileTexts.{IsWholeText}
use Rattle.fsfs_stands.specs.Items.{ItemsOf}
use Rattle.fsfs_stands.proofs.OneItems.{items_of_one}
use Rattle.fsfs_stands.specs.ChangedTexts.{KindOf, is_nameable, by_text, in_order, end_of}
use Rattle.fsfs_stands.proofs.ChangedOneText.{kind_of_one}
use Rattle.fsfs_look.specs.Revprops.Files.{RevPropsOf}
use Rattle.fsfs_look.specs.Revprops.Texts.{ReadText}
use Rattle.fsfs_look.specs.Walks.{Then}
use Rattle.fsfs_look.proofs.OneText.{read_text_one, rev_props_one}
use Rattle.fsfs_dump.specs.Records.{Pairs, dump_head, revision_record, change_records}
use Rattle.fsfs_dump.specs.Readings.{NodeMet, NodeBy, NodeOf, IfSet, ContentBy, ContentOf, source_of, TextRecords, NodeRecords, KindRecords, ThereRecords, ActionRecords, ItemRecords}
use Rattle.fsfs_dump.specs.Texts.{Reads, EndsAs, ItemsText, TakenText, ChangesText, PropsText, RevisionText, RevisionsText}
use Rattle.fsfs_dump.specs.Laws.{DumpsHaveOneText}

-- ---- parts

whole_one : (whole : List ℕ) → HasOneText (IsWholeText whole)
whole_one whole a b e f g h = inl (g.0 ∙ sym h.0, g.1 ∙ sym h.1)

ends_one : (why : End) → HasOneText (EndsAs why)
ends_one why a b e f (inl none) h = stopped_first a b e f none
ends_one why a b e f (inr g) (inl none) = stopped_second a b e f none
ends_one why a b e f (inr g) (inr h) = nothing_one why a b e f g h

then_one : (R S : List ℕ → End → Type 0) → HasOneText R → HasOneText S → HasOneText (Then R S)
then_one R S one each a b e f (inl g) (inl h) = one a b e f g.0 h.0
then_one R S one each a b e f (inl g) (inr (first, rest, h, k, is)) = subst (λ (t : List ℕ). Agree a e t f) (sym is) (agree_more a first rest e f g.1 (one a first e Whole g.0 h))
then_one R S one each a b e f (inr (first, rest, g, k, is)) (inl h) = subst (λ (t : List ℕ). Agree t e b f) (sym is) (agree_less first rest b e f h.1 (one first b Whole f g h.0))
then_one R S one each a b e f (inr (first, rest, g, k, is)) (inr (other, more, h, l, its)) =
    let same = wholes_same first other (one first other Whole Whole g h) in
    let both : Agree (first ++ rest) e (other ++ more) f = subst (λ (t : List ℕ). Agree (first ++ rest) e (t ++ more) f) same (agree_behind first rest more e f (each rest more e f k l)) in
    subst (λ (t : List ℕ). Agree t e b f) (sym is) (subst (λ (t : List ℕ). Agree (first ++ rest) e t f) (sym its) both)

reads_one : {A : Type 0} (R : Result A Wrong → Type 0) (T : A → List ℕ → End → Type 0) → HasOneAnswer R → ((x : A) → HasOneText (T x)) → HasOneText (Reads R T)
reads_one R T one each a b e f (inl none) h = stopped_first a b e f none
reads_one R T one each a b e f (inr g) (inl none) = stopped_second a b e f none
reads_one R T one each a b e f (inr (inl g)) (inr (inl h)) =
    inl (g.2.0 ∙ sym h.2.0, g.2.1 ∙ wrong_same g.0 h.0 (err_same g.0 h.0 (one (Err g.0) (Err h.0) g.1 h.1)) ∙ sym h.2.1)
reads_one R T one each a b e f (inr (inl g)) (inr (inr h)) = ok_no_err h.0 g.0 (one (Ok h.0) (Err g.0) h.1 g.1)
reads_one R T one each a b e f (inr (inr g)) (inr (inl h)) = ok_no_err g.0 h.0 (one (Ok g.0) (Err h.0) g.1 h.1)
reads_one {A} R T one each a b e f (inr (inr g)) (inr (inr h)) =
    let same = ok_same h.0 g.0 (one (Ok h.0) (Ok g.0) h.1 g.1) in
    each g.0 a b e f g.2 (subst (λ (x : A). T x b f) same h.2)

-- ---- the records of an item

node_met_one : (rev : ℕ) (met : Met) → HasOneAnswer (NodeMet rev met)
node_met_one rev (Stands v) a b g h = g ∙ sym h
node_met_one rev (Lacking names) a b g h = g ∙ sym h
node_met_one rev (Blocked names) a b g h = g ∙ sym h

if_set_one : {X : Type 0} (set : Bool) (R : Result X Wrong → Type 0) → HasOneAnswer R → HasOneAnswer (IfSet set R)
if_set_one false R one = λ a b g h. g ∙ sym h
if_set_one true R one = and_then_one R (λ x s. s ≡ Ok (Some x)) one (λ x a b g h. g ∙ sym h)

module _ (look : RevisionBytes) (rev : ℕ) (item : ChangeItem) where
  node_by_one : (named : Bool) → HasOneAnswer (NodeBy look rev item named)
  node_by_one true = of_id_one look item.id
  node_by_one false = and_then_one (MetAt look rev item.path) (NodeMet rev) (met_at_one look rev item.path) (node_met_one rev)

  content_by_one : (v : NodeRev) (kind : Kind) → HasOneAnswer (ContentBy look v kind)
  content_by_one v File = text_one look v
  content_by_one v Dir = λ a b g h. g ∙ sym h

  text_records_one : (action : Action) (kind : Kind) (v : NodeRev) (pairs : Option Pairs) → HasOneAnswer (TextRecords look item action kind v pairs)
  text_records_one action kind v pairs =
      and_then_one (IfSet item.text_changed (ContentOf look v)) (λ text r. r ≡ Ok (change_records item.path action kind (source_of item) pairs text))
      (if_set_one item.text_changed (ContentOf look v) (content_by_one v v.kind)) (λ text a b g h. g ∙ sym h)

  node_records_one : (action : Action) (kind : Kind) (v : NodeRev) → HasOneAnswer (NodeRecords look item action kind v)
  node_records_one action kind v =
      and_then_one (IfSet item.props_changed (PropsOf look v)) (TextRecords look item action kind v)
      (if_set_one item.props_changed (PropsOf look v) (props_one look v)) (text_records_one action kind v)

  kind_records_one : (action : Action) (kind : Kind) → HasOneAnswer (KindRecords look rev item action kind)
  kind_records_one action kind = and_then_one (NodeOf look rev item) (NodeRecords look item action kind) (node_by_one (is_nameable rev item.id)) (node_records_one action kind)

  there_one : (action : Action) → HasOneAnswer (ThereRecords look rev item action)
  there_one action = and_then_one (KindOf look rev item item.kind) (KindRecords look rev item action) (kind_of_one look rev item item.kind) (kind_records_one action)

  action_one : (action : Action) → HasOneAnswer (ActionRecords look rev item action)
  action_one Delete = λ a b g h. g ∙ sym h
  action_one Add = there_one Add
  action_one Replace = there_one Replace
  action_one Modify = there_one Modify

-- ---- the texts

items_one : (look : RevisionBytes) (rev : ℕ) (last : End) (items : List ChangeItem) → HasOneText (ItemsText look rev last items)
items_one look rev last [] = ends_one last
items_one look rev last (item ∷ items) =
    then_one (ReadText (ItemRecords look rev item)) (ItemsText look rev last items) (read_text_one (ItemRecords look rev item) (action_one look rev item item.action)) (items_one look rev last items)

pub changes_one : (look : RevisionBytes) (rev : ℕ) → HasOneText (ChangesText look rev)
changes_one look rev = reads_one (ItemsOf look rev) (TakenText look rev) (items_of_one look rev) (λ read. items_one look rev (end_of read.1) (in_order (by_text read.0)))

module _ (look props : RevisionBytes) where
  revision_one : (rev : ℕ) → HasOneText (RevisionText look (only props) rev)
  revision_one rev =
      reads_one (RevPropsOf (only props) rev) (PropsText look rev) (rev_props_one props rev)
      (λ pairs. then_one (IsWholeText (revision_record rev pairs)) (ChangesText look rev) (whole_one (revision_record rev pairs)) (changes_one look rev))

  revisions_one : (first count : ℕ) → HasOneText (RevisionsText look (only props) first count)
  revisions_one first zero = ends_one Whole
  revisions_one first (suc count) = then_one (RevisionText look (only props) first) (RevisionsText look (only props) (suc first) count) (revision_one first) (revisions_one (suc first) count)

pub dumps_one : DumpsHaveOneText
dumps_one look props uuid youngest =
    then_one (IsWholeText (dump_head uuid)) (RevisionsText look (only props) 0 (suc youngest)) (whole_one (dump_head uuid)) (revisions_one look props 0 (suc youngest))
