-- Items and the marks that they stand for.
use Rattle.std.proofs.Common.{◌≡◌, List, [], ◌∷◌, refl, ◌∙◌}
use Rattle.std.specs.Prelude.{Option, Some, None, option_map}
use Rattle.std.specs.List.{AllZip}
use Rattle.fsfs_base.specs.declared.kind.Kind.{Kind}
use Rattle.fsfs_model.specs.declared.flat.mark.Mark.{Mark}
use Rattle.fsfs_model.specs.declared.flat.mark.What.{What}
use Rattle.fsfs_model.specs.declared.flat.mark.What.TheVariants.{Make, Gone, Text, Prop}
use Rattle.fsfs_model.specs.Flat.Folding.{change_of}
use Rattle.fsfs_noderev.specs.declared.node_rev.CopySource.{CopySource}
use Rattle.fsfs_noderev.specs.declared.changes.item.ChangeItem.{ChangeItem}
use Rattle.fsfs_draft.specs.Drafts.{action_of, source_of, pair_of, IsItemOf, AreItemsOf}
use Rattle.fsfs_edit.specs.Folds.Marks.{SaysMark}

action_is : (kind : Kind) (what : What) → action_of what ≡ (change_of kind what).action
action_is kind (Make source) = refl
action_is kind Gone = refl
action_is kind Text = refl
action_is kind Prop = refl

kind_is : (kind : Kind) (what : What) → kind ≡ (change_of kind what).kind
kind_is kind (Make source) = refl
kind_is kind Gone = refl
kind_is kind Text = refl
kind_is kind Prop = refl

source_is : (kind : Kind) (what : What) → source_of what ≡ (change_of kind what).source
source_is kind (Make source) = refl
source_is kind Gone = refl
source_is kind Text = refl
source_is kind Prop = refl

pairs_are : (o : Option CopySource) → option_map (λ s. (s.rev, s.path)) o ≡ pair_of o
pairs_are None = refl
pairs_are (Some from) = refl

says : (item : ChangeItem) (m : Mark) → IsItemOf item m → SaysMark item m
says item m is = record {
  path = is.path;
  change = record {
    action = is.action ∙ action_is m.kind m.what;
    kind = is.kind ∙ (λ i. Some (kind_is m.kind m.what i));
    text_changed = is.text;
    props_changed = is.props;
    source = pairs_are item.source ∙ is.source ∙ source_is m.kind m.what;
  };
}

pub say_marks : (items : List ChangeItem) (marks : List Mark) → AreItemsOf items marks → AllZip SaysMark items marks
say_marks [] [] are = are
say_marks [] (m ∷ ms) are = absurd are
say_marks (item ∷ items) [] are = absurd are
say_marks (item ∷ items) (m ∷ ms) are = (says item m are.0, say_marks items ms are.1)
