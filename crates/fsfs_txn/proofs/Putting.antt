-- What is put at what was opened, as an edit of a transaction.
use Rattle.std.proofs.Common.{◌≡◌, ℕ, Bool, true, false, ◌||◌, List, sym, ap, subst, ◌∙◌}
use Rattle.std.specs.Prelude.{Option, Result, Ok, Vec}
use Rattle.std.specs.Global.{Global}
use Rattle.fsfs_base.specs.Counts.{Rose}
use Rattle.fsfs_base.specs.declared.kind.Kind.{Kind}
use Rattle.fsfs_base.specs.declared.kind.Kind.TheVariants.{File, Dir}
use Rattle.fsfs_tree.specs.Nodes.{TreeFunction}
use Rattle.fsfs_tree.specs.Histories.{AreRevisions}
use Rattle.fsfs_model.specs.declared.flat.edit.Edit.TheVariants.{PutText, SetProp}
use Rattle.fsfs_model.specs.declared.flat.mark.Mark.{Mark}
use Rattle.fsfs_base.specs.declared.fields.txn_name.TxnName.{TxnName}
use Rattle.fsfs_base.specs.declared.fields.digest.HexDigest.{HexDigest}
use Rattle.fsfs_revision.specs.Told.{RevisionBytes}
use Rattle.fsfs_draft.specs.Drafts.{Folder}
use Rattle.fsfs_draft.specs.Walks.{HasKind}
use Rattle.fsfs_draft.specs.declared.error.EditError.{EditError}
use Rattle.fsfs_draft.specs.declared.error.EditError.TheVariants as edits
use Rattle.fsfs_txn.specs.Opened.Failing as failing
use Rattle.fsfs_txn.specs.Opened.Growing.{IsLonger}
use Rattle.fsfs_txn.specs.declared.opened.opening.Way.{Way}
use Rattle.fsfs_txn.specs.Opened.Properties as opened_props
use Rattle.fsfs_txn.specs.Opened.Texts as opened_texts
use Rattle.fsfs_txn.specs.declared.opened.properties.PropertyPut.{PropertyPut}
use Rattle.fsfs_txn.specs.declared.opened.properties.PropertyPut.TheVariants as props
use Rattle.fsfs_txn.specs.declared.opened.texts.TextPut.{TextPut}
use Rattle.fsfs_txn.specs.declared.opened.texts.TextPut.TheVariants as puts
use Rattle.fsfs_txn.proofs.Growing.{drafts_grow}
use Rattle.fsfs_txn.specs.declared.opening.Opened.{Opened}
use Rattle.fsfs_txn.specs.declared.edits.texts.TextSet.{TextSet}
use Rattle.fsfs_txn.specs.declared.txn_error.TxnError.TheVariants as errors
use Rattle.fsfs_txn.specs.Standing.{Stands}
use Rattle.fsfs_txn.specs.Edits.Texts as text_sets
use Rattle.fsfs_txn.specs.Edits.Texts.{IsLeftStanding, IfLeft, IfSource, IsPuttingText}
use Rattle.fsfs_txn.specs.Edits.Properties as prop_sets
use Rattle.fsfs_txn.specs.Edits.Properties.{is_barred, IsSettingProp}
use Rattle.fsfs_txn.proofs.Meeting.{edited}

module _ (look : RevisionBytes) (trees : ℕ → TreeFunction) (top base : ℕ) (txn : TxnName) (before : Folder) (tree : TreeFunction) (marks : List Mark) (revs : AreRevisions trees top) (stands : Stands look trees top base txn before tree marks) where
  -- a longer prototype file leaves what the transaction stands for
  pub left_standing : (after : Folder) → IsLonger before after → IsLeftStanding look trees top base txn tree marks before after
  left_standing after longer = record { grown = longer; stands = record { edits = stands.edits; shows = drafts_grow look trees top base txn before after tree marks longer stands.shows } }

  pub failure_left : (e : EditError) (after : Folder) → failing.IfLeft e (IsLonger before after) → IfLeft (errors.Fault e) (IsLeftStanding look trees top base txn tree marks before after)
  failure_left edits.BenchFault after h = tt
  failure_left edits.OutOfMemory after h = left_standing after h
  failure_left edits.DiskFault after h = h
  failure_left (edits.Wrong w) after h = h
  failure_left edits.Lacking after h = left_standing after h

  module _ (Told : Type 0) (moves : ℕ) (o : Opened) (from to : Option (List ℕ)) (expect : Option (HexDigest 16)) (after : Folder) where
    pub text_put : (put : TextPut) → o.counted ≡ false → opened_texts.IsPuttingText Told look trees top base txn tree marks o.way.path from to expect before after (Ok put)
        → IsPuttingText Told look trees top base txn tree marks moves o from to expect before after (Ok (text_sets.outcome_of put))
    text_put puts.Done plain h = (
      h.0,
      plain,
      record {
        text = h.1.text;
        given = h.1.given;
        short = h.1.short;
        expected = h.1.expected;
        edited = λ told bytes same. edited look trees top base txn before tree marks revs stands (PutText o.way.path bytes) after (h.1.done told bytes same);
      },
    )
    text_put puts.NotFile plain h = h
    text_put puts.SourceFault plain h = (h.0, plain, h.1, left_standing after h.2)
    text_put puts.TooLong plain h = (h.0, plain, h.1, left_standing after h.2)
    text_put (puts.Checksum kept found) plain h = (h.0, plain, h.1, left_standing after h.2)

    pub text_put_as : (put : TextPut) (set : TextSet) → set ≡ text_sets.outcome_of put → o.counted ≡ false → opened_texts.IsPuttingText Told look trees top base txn tree marks o.way.path from to expect before after (Ok put)
        → IsPuttingText Told look trees top base txn tree marks moves o from to expect before after (Ok set)
    text_put_as put set is plain h = subst (λ (s : TextSet). IsPuttingText Told look trees top base txn tree marks moves o from to expect before after (Ok s)) (sym is) (text_put put plain h)

    -- where counts of mergeinfo are met on the way
    pub text_barred : (kind : Kind) → o.counted ≡ true → after ≡ before → HasKind (tree o.way.path) kind → IsPuttingText Told look trees top base txn tree marks moves o from to expect before after (Ok (text_sets.counted_text kind))
    text_barred File counted same has = (has, counted, same)
    text_barred Dir counted same has = (has, same)

  module _ (moves : ℕ) (o : Opened) (name : List ℕ) (value : Option (Vec ℕ Global)) (after : Folder) where
    pub prop_put : (put : PropertyPut) → is_barred o name ≡ false → opened_props.IsPuttingProp look trees top base txn tree marks o.way.path name value before after (Ok put)
        → IsSettingProp look trees top base txn tree marks moves o name value before after (Ok (prop_sets.outcome_of put))
    prop_put props.Done plain h = (plain, h.0, edited look trees top base txn before tree marks revs stands (SetProp o.way.path name value) after h.1.0)
    prop_put props.TooLong plain h = (plain, h.0, h.1)

-- ---- the same under other names

pub same_put : (Told : Type 0) (t u : TxnName) (f h after : Folder) (way : Way) (from to : Option (List ℕ)) (expect : Option (HexDigest 16)) (r : Result TextPut EditError) → t ≡ u → f ≡ h → opened_texts.MeetsPut Told t f after way from to expect r → opened_texts.MeetsPut Told u h after way from to expect r
same_put Told t u f h after way from to expect r txn folder meets =
    subst (λ (x : Folder). opened_texts.MeetsPut Told u x after way from to expect r) folder (subst (λ (x : TxnName). opened_texts.MeetsPut Told x f after way from to expect r) txn meets)

pub neither : (a b : Bool) → a ≡ false → b ≡ false → (a || b) ≡ false
neither a b no_a no_b = ap (λ (x : Bool). x || b) no_a ∙ no_b
