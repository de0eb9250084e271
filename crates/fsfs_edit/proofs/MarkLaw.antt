-- Items that stand for marks come to what the marks come to.
use Rattle.std.proofs.Common.{◌≡◌, ℕ, Bool, true, false, cond, ◌&&◌, ◌||◌, List, [], ◌∷◌, Option, Some, None, refl, sym, ap, subst, ◌∙◌}
use Rattle.std.specs.List.{AllZip}
use Rattle.fsfs_base.specs.declared.kind.Kind.{Kind}
use Rattle.fsfs_base.specs.declared.action.Action.{Action}
use Rattle.fsfs_base.specs.declared.action.Action.TheVariants.{Add, Delete, Replace, Modify}
use Rattle.fsfs_base.specs.Paths.{Path, covers, same_path}
use Rattle.fsfs_model.specs.declared.flat.mark.Mark.{Mark}
use Rattle.fsfs_model.specs.declared.flat.mark.What.{What}
use Rattle.fsfs_model.specs.declared.flat.mark.What.TheVariants.{Make, Gone, Text, Prop}
use Rattle.fsfs_model.specs.declared.flat.folded.Folded.{Folded}
use Rattle.fsfs_model.specs.Flat.Folding.{deletes}
use Rattle.fsfs_model.specs.Flat.Folding as flat
use Rattle.fsfs_noderev.specs.declared.changes.item.ChangeItem.{ChangeItem}
use Rattle.fsfs_edit.specs.Folds.FoldedItems.{FoldedItem, begun, after_delete, after_add, flagged, after_modify, joined_by, joined, fold_item, fold_items_from, item_in, fold_items}
use Rattle.fsfs_edit.specs.Folds.Marks.{Tells, SaysMark, AgreesWith}

-- what the items say of a path, and what the marks do
abbrev Agrees : Option FoldedItem → Option Folded → Type 0
Agrees None None = Unit {0}
Agrees None (Some g) = ⊥
Agrees (Some f) None = ⊥
Agrees (Some f) (Some g) = Tells f.item g.change × (f.was.kind ≡ Some g.was)

kind_said : (kind : Kind) (what : What) → (flat.change_of kind what).kind ≡ kind
kind_said kind (Make source) = refl
kind_said kind Gone = refl
kind_said kind Text = refl
kind_said kind Prop = refl

begins : (item : ChangeItem) (kind : Kind) (what : What) → Tells item (flat.change_of kind what) → Agrees (Some (begun item)) (Some (flat.begun kind what))
begins item kind what t = (t, t.kind ∙ ap Some (kind_said kind what))

or_true : (b : Bool) → (b || true) ≡ true
or_true true = refl
or_true false = refl

or_false : (b : Bool) → (b || false) ≡ b
or_false true = refl
or_false false = refl

-- ---- one more item of a path, by what was said of it

added : (item : ChangeItem) (kind : Kind) (source : Option (ℕ × Path)) → Tells item (flat.change_of kind (Make source)) → (f : FoldedItem) (g : Folded) → Agrees (Some f) (Some g) → (a : Action)
    → Agrees (Some (after_add a f item)) (Some (flat.after_add a kind source g.was))
added item kind source t f g was Add = begins item kind (Make source) t
added item kind source t f g was Modify = begins item kind (Make source) t
added item kind source t f g was Replace = begins item kind (Make source) t
added item kind source t f g was Delete = (record { action = refl; kind = t.kind; text_changed = t.text_changed; props_changed = t.props_changed; source = t.source }, was.1)

deleted : (item : ChangeItem) (kind : Kind) → Tells item (flat.change_of kind Gone) → (f : FoldedItem) (g : Folded) → Agrees (Some f) (Some g) → (a : Action)
    → Agrees (after_delete a f item) (flat.after_delete a kind g.was)
deleted item kind t f g was Add = tt
deleted item kind t f g was Modify = begins item kind Gone t
deleted item kind t f g was Delete = begins item kind Gone t
deleted item kind t f g was Replace = (record { action = t.action; kind = was.1; text_changed = t.text_changed; props_changed = t.props_changed; source = t.source }, was.1)

flags_text : (item : ChangeItem) (kind : Kind) → Tells item (flat.change_of kind Text) → (f : FoldedItem) (g : Folded) → Agrees (Some f) (Some g) → Agrees (Some (flagged f item)) (Some (flat.flagged Text g))
flags_text item kind t f g was = (
  record {
    action = was.0.action;
    kind = was.0.kind;
    text_changed = ap (λ (b : Bool). f.item.text_changed || b) t.text_changed ∙ or_true f.item.text_changed;
    props_changed = ap (λ (b : Bool). f.item.props_changed || b) t.props_changed ∙ or_false f.item.props_changed ∙ was.0.props_changed;
    source = was.0.source;
  },
  was.1,
)

flags_props : (item : ChangeItem) (kind : Kind) → Tells item (flat.change_of kind Prop) → (f : FoldedItem) (g : Folded) → Agrees (Some f) (Some g) → Agrees (Some (flagged f item)) (Some (flat.flagged Prop g))
flags_props item kind t f g was = (
  record {
    action = was.0.action;
    kind = was.0.kind;
    text_changed = ap (λ (b : Bool). f.item.text_changed || b) t.text_changed ∙ or_false f.item.text_changed ∙ was.0.text_changed;
    props_changed = ap (λ (b : Bool). f.item.props_changed || b) t.props_changed ∙ or_true f.item.props_changed;
    source = was.0.source;
  },
  was.1,
)

text_put : (item : ChangeItem) (kind : Kind) → Tells item (flat.change_of kind Text) → (f : FoldedItem) (g : Folded) → Agrees (Some f) (Some g) → (a : Action)
    → Agrees (Some (after_modify a f item)) (Some (flat.after_modify a kind Text g))
text_put item kind t f g was Delete = begins item kind Text t
text_put item kind t f g was Add = flags_text item kind t f g was
text_put item kind t f g was Replace = flags_text item kind t f g was
text_put item kind t f g was Modify = flags_text item kind t f g was

prop_set : (item : ChangeItem) (kind : Kind) → Tells item (flat.change_of kind Prop) → (f : FoldedItem) (g : Folded) → Agrees (Some f) (Some g) → (a : Action)
    → Agrees (Some (after_modify a f item)) (Some (flat.after_modify a kind Prop g))
prop_set item kind t f g was Delete = begins item kind Prop t
prop_set item kind t f g was Add = flags_props item kind t f g was
prop_set item kind t f g was Replace = flags_props item kind t f g was
prop_set item kind t f g was Modify = flags_props item kind t f g was

joins : (o : Option FoldedItem) (p : Option Folded) (item : ChangeItem) (kind : Kind) (what : What) → Tells item (flat.change_of kind what) → Agrees o p → Agrees (joined o item) (flat.joined p kind what)
joins None None item kind what t was = begins item kind what t
joins None (Some g) item kind what t was = absurd was
joins (Some f) None item kind what t was = absurd was
joins (Some f) (Some g) item kind (Make source) t was = subst (λ (a : Action). Agrees (joined_by a f item) (Some (flat.after_add g.change.action kind source g.was))) (sym t.action)
    (subst (λ (a : Action). Agrees (Some (after_add a f item)) (Some (flat.after_add g.change.action kind source g.was))) (sym was.0.action) (added item kind source t f g was g.change.action))
joins (Some f) (Some g) item kind Gone t was = subst (λ (a : Action). Agrees (joined_by a f item) (flat.after_delete g.change.action kind g.was)) (sym t.action)
    (subst (λ (a : Action). Agrees (after_delete a f item) (flat.after_delete g.change.action kind g.was)) (sym was.0.action) (deleted item kind t f g was g.change.action))
joins (Some f) (Some g) item kind Text t was = subst (λ (a : Action). Agrees (joined_by a f item) (Some (flat.after_modify g.change.action kind Text g))) (sym t.action)
    (subst (λ (a : Action). Agrees (Some (after_modify a f item)) (Some (flat.after_modify g.change.action kind Text g))) (sym was.0.action) (text_put item kind t f g was g.change.action))
joins (Some f) (Some g) item kind Prop t was = subst (λ (a : Action). Agrees (joined_by a f item) (Some (flat.after_modify g.change.action kind Prop g))) (sym t.action)
    (subst (λ (a : Action). Agrees (Some (after_modify a f item)) (Some (flat.after_modify g.change.action kind Prop g))) (sym was.0.action) (prop_set item kind t f g was g.change.action))

-- ---- an item of any path

-- of another path: a delete takes away what was said below it
forgets : (o : Option FoldedItem) (p : Option Folded) (action : Action) (kind : Kind) (what : What) (below : Bool) → action ≡ (flat.change_of kind what).action → Agrees o p
    → Agrees (cond (deletes action && below) None o) (flat.forgotten p what below)
forgets o p action kind (Make source) below e was = subst (λ (a : Action). Agrees (cond (deletes a && below) None o) p) (sym e) was
forgets o p action kind Text below e was = subst (λ (a : Action). Agrees (cond (deletes a && below) None o) p) (sym e) was
forgets o p action kind Prop below e was = subst (λ (a : Action). Agrees (cond (deletes a && below) None o) p) (sym e) was
forgets o p action kind Gone true e was = subst (λ (a : Action). Agrees (cond (deletes a && true) None o) None) (sym e) tt
forgets o p action kind Gone false e was = subst (λ (a : Action). Agrees (cond (deletes a && false) None o) p) (sym e) was

goes_on : (q : Path) (o : Option FoldedItem) (p : Option Folded) (item : ChangeItem) (m : Mark) → SaysMark item m → Agrees o p → Agrees (fold_item q o item) (flat.fold_mark q p m)
goes_on q o p item m says was =
    subst (λ (r : Path). Agrees (cond (same_path r q) (joined o item) (cond (deletes item.action && covers r q) None o)) (flat.fold_mark q p m)) (sym says.path) (by (same_path m.path q))
  where
    by : (b : Bool) → Agrees (cond b (joined o item) (cond (deletes item.action && covers m.path q) None o)) (cond b (flat.joined p m.kind m.what) (flat.forgotten p m.what (covers m.path q)))
    by true = joins o p item m.kind m.what says.change was
    by false = forgets o p item.action m.kind m.what (covers m.path q) says.change.action was

all_agree : (q : Path) (o : Option FoldedItem) (p : Option Folded) (items : List ChangeItem) (marks : List Mark) → AllZip SaysMark items marks → Agrees o p
    → Agrees (fold_items_from q o items) (flat.fold_from q p marks)
all_agree q o p [] [] says was = was
all_agree q o p [] (m ∷ marks) says was = absurd says
all_agree q o p (item ∷ items) [] says was = absurd says
all_agree q o p (item ∷ items) (m ∷ marks) says was = all_agree q (fold_item q o item) (flat.fold_mark q p m) items marks says.1 (goes_on q o p item m says.0 was)

told_alike : (o : Option FoldedItem) (p : Option Folded) → Agrees o p → AgreesWith (item_in o) (flat.change_in p)
told_alike None None was = tt
told_alike None (Some g) was = was
told_alike (Some f) None was = was
told_alike (Some f) (Some g) was = was.0

pub items_of_marks : (items : List ChangeItem) (marks : List Mark) → AllZip SaysMark items marks → (q : Path) → AgreesWith (fold_items items q) (flat.fold marks q)
items_of_marks items marks says q = told_alike (fold_items_from q None items) (flat.fold_from q None marks) (all_agree q None None items marks says tt)
