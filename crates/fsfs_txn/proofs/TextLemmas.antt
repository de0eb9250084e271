-- A text put at an own file.
use Rattle.std.proofs.Common.{◌≡◌, ◌≤◌, ◌+◌, ℕ, Bool, true, false, List, refl, sym, ap, subst, ◌∙◌}
use Rattle.std.specs.Prelude.{Option, Some, None, Ok, IfErr, Vec}
use Rattle.std.specs.Global.{Global}
use Rattle.fsfs_base.specs.Counts.{Rose}
use Rattle.fsfs_base.specs.Paths.{Path}
use Rattle.fsfs_base.specs.declared.kind.Kind.TheVariants.{File}
use Rattle.fsfs_tree.specs.Nodes.{TreeFunction}
use Rattle.fsfs_model.specs.declared.flat.mark.Mark.{Mark}
use Rattle.fsfs_base.specs.declared.fields.txn_name.TxnName.{TxnName}
use Rattle.fsfs_base.specs.declared.fields.digest.HexDigest.{HexDigest}
use Rattle.fsfs_base.specs.declared.grammar.base36.B36.{B36}
use Rattle.fsfs_revision.specs.Told.{RevisionBytes}
use Rattle.fsfs_noderev.specs.declared.node_id.NodeId.{NodeId}
use Rattle.fsfs_noderev.specs.declared.rep.Rep.{Rep}
use Rattle.fsfs_noderev.specs.declared.changes.item.ChangeItem.{ChangeItem}
use Rattle.fsfs_txn_files.specs.declared.proto_rev.text_error.TextError.{TextError}
use Rattle.fsfs_txn_files.specs.declared.proto_rev.text_error.TextError.TheVariants as texts
use Rattle.fsfs_txn_files.specs.ProtoRev.Causes as proto_causes
use Rattle.fsfs_txn_files.specs.ProtoRev.Texts.{IsRefusedText}
use Rattle.fsfs_draft.specs.Drafts.{Kept, Folder, ShowTrees}
use Rattle.fsfs_draft.specs.Steps.{kept_at}
use Rattle.fsfs_draft.specs.Edits.{IsDraftAfter}
use Rattle.fsfs_draft.specs.Errors.{IsWant, IfMemory, of_own}
use Rattle.fsfs_draft.specs.Items.{with_item}
use Rattle.fsfs_draft.specs.Views.{text_put}
use Rattle.fsfs_draft.specs.Walks.{HasKind}
use Rattle.fsfs_draft.specs.declared.error.EditError.{EditError}
use Rattle.fsfs_draft.specs.declared.error.EditError.TheVariants as errors
use Rattle.fsfs_draft.specs.declared.txn_noderevs.OwnError.{OwnError}
use Rattle.fsfs_draft.specs.declared.txn_noderevs.OwnError.TheVariants as owns
use Rattle.fsfs_edit.specs.Items.{IsModifyOf}
use Rattle.fsfs_edit.specs.Texts.{IsProtoText, IsTextSet}
use Rattle.fsfs_edit.specs.Ways.{IsOpenedAt}
use Rattle.fsfs_edit.proofs.Setting as setting
use Rattle.fsfs_txn_nodes.specs.Memory.Texts.{longer, IsTextPut, IsTextLeft}
use Rattle.fsfs_txn.specs.declared.opened.texts.TextPut.TheVariants as puts
use Rattle.fsfs_revision.specs.Rep.Frames.{RepIn}
use Rattle.fsfs_txn.specs.declared.opened.known.Known.{Known}
use Rattle.fsfs_txn.specs.Opened.Growing.{grown, IsLonger}
use Rattle.fsfs_txn.specs.Opened.Leading.{LeadsDown}
use Rattle.fsfs_txn.specs.Opened.Failing.{IfLeft, IfBench, IfSource}
use Rattle.fsfs_txn.specs.Opened.Texts.{refusal_of, IsPuttingText}
use Rattle.fsfs_txn.proofs.Growing.{grown_opened}

-- ---- failures

pub left_want : (e : EditError) (P Q : Type 0) → IsWant e P → Q → IfLeft e Q
left_want errors.BenchFault P Q h q = tt
left_want errors.OutOfMemory P Q h q = q
left_want errors.DiskFault P Q h q = h
left_want (errors.Wrong w) P Q h q = h
left_want errors.Lacking P Q h q = q

pub left_settle : (e : OwnError) (P Q : Type 0) → (P → Q) → IfMemory e P → IfLeft (of_own e) Q
left_settle owns.OutOfMemory P Q g h = g h
left_settle owns.BenchFault P Q g h = tt

-- ---- what a refusal leaves

pub longer_on : (a b c d : Folder) (more : List ℕ) → b ≡ a → c ≡ longer b more → d ≡ c → IsLonger a d
longer_on a b c d more first grew last = (more, last ∙ grew ∙ ap (λ (f : Folder). longer f more) first)

pub text_refused : (Told : Type 0) (look : RevisionBytes) (trees : ℕ → TreeFunction) (top base : ℕ) (txn : TxnName) (tree : TreeFunction) (marks : List Mark) (p : Path) (from to : Option (List ℕ)) (expect : Option (HexDigest 16)) (first folder after before now : Folder)
    → HasKind (tree p) File → before ≡ first → (e : TextError) → IsRefusedText from to expect e → IsTextLeft folder after before now e → IsPuttingText Told look trees top base txn tree marks p from to expect first now (refusal_of e)
text_refused Told look trees top base txn tree marks p from to expect first folder after before now has same texts.SourceFault r l = (has, r, longer_on first before now now l.0 same l.1.1 refl)
text_refused Told look trees top base txn tree marks p from to expect first folder after before now has same texts.TextTooLong r l = (has, r, longer_on first before now now l.0 same l.1.1 refl)
text_refused Told look trees top base txn tree marks p from to expect first folder after before now has same (texts.Checksum kept found) r l = (has, r, longer_on first before now now l.0 same l.1.1 refl)
text_refused Told look trees top base txn tree marks p from to expect first folder after before now has same texts.BenchFault r l = tt

-- ---- what is done

module _ (Told : Type 0) (look : RevisionBytes) (trees : ℕ → TreeFunction) (top base : ℕ) (shown : ShowTrees look top trees) (le : base ≤ top) (txn : TxnName) (before : Folder) (tree : TreeFunction) (marks : List Mark) (d : IsDraftAfter look trees top base txn before tree marks)
    (p : Path) (mid drawn appended : Folder) (id : NodeId) (o : IsOpenedAt look trees top base txn marks tree d.0.shows.own p File mid id) (has : HasKind (tree p) File)
    (from to : Option (List ℕ)) (expect : Option (HexDigest 16)) where
  -- the number was drawn, and the file got longer
  grew : (more : List ℕ) → drawn ≡ record mid { next_node = mid.next_node + 1 } → appended ≡ longer drawn more → appended ≡ grown mid 1 more
  grew more draw is = is ∙ ap (λ (f : Folder). longer f more) draw

  pub open_still : (more : List ℕ) → drawn ≡ record mid { next_node = mid.next_node + 1 } → appended ≡ longer drawn more → IsOpenedAt look trees top base txn marks tree d.0.shows.own p File appended id
  open_still more draw is = subst (λ (f : Folder). IsOpenedAt look trees top base txn marks tree d.0.shows.own p File f id) (sym (grew more draw is)) (grown_opened look trees top base txn marks tree d.0.shows.own p File mid id 1 more o)

  -- whatever led somewhere leads there still
  pub grown_leads : (more : List ℕ) → drawn ≡ record mid { next_node = mid.next_node + 1 } → appended ≡ longer drawn more → (known : List Known) (path : Path) (at : NodeId) → LeadsDown look mid.nodes known path at → LeadsDown look appended.nodes known path at
  grown_leads more draw is known path at leads = subst (λ (f : Folder). LeadsDown look f.nodes known path at) (sym (grew more draw is)) leads

  pub kept_still : (more : List ℕ) → drawn ≡ record mid { next_node = mid.next_node + 1 } → appended ≡ longer drawn more → kept_at appended.nodes id ≡ None → ⊥
  kept_still more draw is none = let e = sym none ∙ setting.kept_there look trees top base shown le txn before tree marks d p File appended id (open_still more draw is) has in cc

  module _ (t : TxnName) (number : B36) (rep : Rep) (b : Bool) (settled now : Folder) (draw : drawn ≡ record mid { next_node = mid.next_node + 1 }) (put : IsTextPut b from to expect drawn appended settled now t number rep) (tells : Told → b ≡ true)
      (after : Folder) (set : (k : Kept) → kept_at appended.nodes id ≡ Some k → after ≡ text_put appended id k rep) (item : ChangeItem) (is : IsModifyOf item id File p true false) (last : Folder) (done : last ≡ with_item after item) where
    still : IsOpenedAt look trees top base txn marks tree d.0.shows.own p File appended id
    still = open_still put.more draw put.longer_by.0

    text_is : IsTextSet look trees top base txn tree marks appended.proto p rep last
    text_is = setting.text_set look trees top base shown le txn before tree marks d p File appended id still has refl rep after set item is appended.proto refl last done

    proto_text : (bytes : Vec ℕ Global) → bytes.items ≡ put.text → b ≡ true → IsProtoText appended.proto rep bytes.items
    proto_text bytes same told = record { no_rev = put.rep_is.rev; read = subst (λ (l : List ℕ). RepIn rep appended.proto (Ok l)) (sym same) (put.read told) }

    pub text_done : IsPuttingText Told look trees top base txn tree marks p from to expect before last (Ok puts.Done)
    text_done = (
      has,
      record {
        text = put.text;
        given = put.given;
        short = put.short;
        expected = put.expected;
        item = text_is.item;
        done = λ told bytes same. text_is.done bytes (proto_text bytes same (tells told));
      },
    )
