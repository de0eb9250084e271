-- What a text or a property leaves of the ways that lead somewhere, and that nothing was lacking to it.
use Rattle.std.proofs.Common.{◌≡◌, ℕ, List, refl, sym, subst}
use Rattle.std.specs.Prelude.{Option, Some, Result, Ok, Err, Vec}
use Rattle.std.specs.Global.{Global}
use Rattle.fsfs_base.specs.Paths.{Path}
use Rattle.fsfs_tree.specs.Nodes.{TreeFunction}
use Rattle.fsfs_model.specs.declared.flat.mark.Mark.{Mark}
use Rattle.fsfs_base.specs.declared.fields.txn_name.TxnName.{TxnName}
use Rattle.fsfs_base.specs.declared.fields.digest.HexDigest.{HexDigest}
use Rattle.fsfs_revision.specs.Told.{RevisionBytes}
use Rattle.fsfs_noderev.specs.declared.node_id.NodeId.{NodeId}
use Rattle.fsfs_noderev.specs.declared.rep.Rep.{Rep}
use Rattle.fsfs_noderev.specs.declared.changes.item.ChangeItem.{ChangeItem}
use Rattle.fsfs_txn_files.specs.declared.proto_rev.text_error.TextError.{TextError}
use Rattle.fsfs_txn_files.specs.declared.proto_rev.text_error.TextError.TheVariants as texts
use Rattle.fsfs_draft.specs.Drafts.{Kept, Folder}
use Rattle.fsfs_draft.specs.Steps.{kept_at, with_kept}
use Rattle.fsfs_draft.specs.Errors.{IsWant, of_own}
use Rattle.fsfs_draft.specs.Items.{with_item}
use Rattle.fsfs_draft.specs.Views.{text_kept, props_kept, text_put, props_put}
use Rattle.fsfs_draft.specs.Walks.{IsRootId}
use Rattle.fsfs_draft.specs.declared.error.EditError.{EditError}
use Rattle.fsfs_draft.specs.declared.error.EditError.TheVariants as errors
use Rattle.fsfs_draft.specs.declared.txn_noderevs.OwnError.{OwnError}
use Rattle.fsfs_draft.specs.declared.txn_noderevs.OwnError.TheVariants as owns
use Rattle.fsfs_txn.specs.declared.opened.known.Known.{Known}
use Rattle.fsfs_txn.specs.declared.opened.opening.Way.{Way}
use Rattle.fsfs_txn.specs.declared.opened.texts.TextPut.{TextPut}
use Rattle.fsfs_txn.specs.declared.opened.texts.TextPut.TheVariants as puts
use Rattle.fsfs_txn.specs.declared.opened.properties.PropertyPut.{PropertyPut}
use Rattle.fsfs_txn.specs.declared.opened.properties.PropertyPut.TheVariants as props
use Rattle.fsfs_txn.specs.Opened.Failing.{IfLeft, OnLeft}
use Rattle.fsfs_txn.specs.Opened.Growing.{IsLonger}
use Rattle.fsfs_txn.specs.Opened.Leading.{LeadsDown, Leads, IsNotLacking, HasAll}
use Rattle.fsfs_txn.specs.Opened.Texts.{refusal_of, IsPuttingText, IfPut}
use Rattle.fsfs_txn.specs.Opened.Properties.{IsPuttingProp, IfSet}
use Rattle.fsfs_txn.proofs.Following.{IsLike, set_leads}

-- ---- nothing was lacking

pub want_all : (e : EditError) (P : Type 0) → IsWant e P → (P → ⊥) → IsNotLacking e
want_all errors.BenchFault P h not = tt
want_all errors.OutOfMemory P h not = tt
want_all errors.DiskFault P h not = tt
want_all (errors.Wrong w) P h not = tt
want_all errors.Lacking P h not = not h

pub settle_all : (e : OwnError) → IsNotLacking (of_own e)
settle_all owns.OutOfMemory = tt
settle_all owns.BenchFault = tt

pub refusal_all : (e : TextError) → HasAll (refusal_of e)
refusal_all texts.SourceFault = tt
refusal_all texts.TextTooLong = tt
refusal_all (texts.Checksum kept found) = tt
refusal_all texts.BenchFault = tt

-- ---- what leads somewhere

left_on : (e : EditError) (P Q : Type 0) → (P → Q) → IfLeft e P → IfLeft e Q
left_on errors.BenchFault P Q g h = tt
left_on errors.OutOfMemory P Q g h = g h
left_on errors.DiskFault P Q g h = h
left_on (errors.Wrong w) P Q g h = h
left_on errors.Lacking P Q g h = g h

pub same_leads : (look : RevisionBytes) (txn : TxnName) (before after : Folder) (way : Way) → after ≡ before → Leads look txn before way → Leads look txn after way
same_leads look txn before after way is leads = subst (λ (f : Folder). Leads look txn f way) (sym is) leads

longer_leads : (look : RevisionBytes) (txn : TxnName) (before after : Folder) (way : Way) → IsLonger before after → Leads look txn before way → Leads look txn after way
longer_leads look txn before after way is leads = subst (λ (f : Folder). Leads look txn f way) (sym is.1) leads

-- a text that was put leaves it, and one that was refused
pub text_leads : (Told : Type 0) (look : RevisionBytes) (trees : ℕ → TreeFunction) (top base : ℕ) (txn : TxnName) (tree : TreeFunction) (marks : List Mark) (p : Path) (from to : Option (List ℕ)) (expect : Option (HexDigest 16)) (before after : Folder) (way : Way)
    → Leads look txn before way → (r : Result TextPut EditError) → IsPuttingText Told look trees top base txn tree marks p from to expect before after r → IfPut r (Leads look txn after way) → OnLeft r (Leads look txn after way)
text_leads Told look trees top base txn tree marks p from to expect before after way leads (Ok puts.Done) h put = put
text_leads Told look trees top base txn tree marks p from to expect before after way leads (Ok puts.NotFile) h put = same_leads look txn before after way h.1 leads
text_leads Told look trees top base txn tree marks p from to expect before after way leads (Ok puts.SourceFault) h put = longer_leads look txn before after way h.2 leads
text_leads Told look trees top base txn tree marks p from to expect before after way leads (Ok puts.TooLong) h put = longer_leads look txn before after way h.2 leads
text_leads Told look trees top base txn tree marks p from to expect before after way leads (Ok (puts.Checksum kept found)) h put = longer_leads look txn before after way h.2 leads
text_leads Told look trees top base txn tree marks p from to expect before after way leads (Err e) h put = left_on e (IsLonger before after) (Leads look txn after way) (λ longer. longer_leads look txn before after way longer leads) h

pub prop_leads : (look : RevisionBytes) (trees : ℕ → TreeFunction) (top base : ℕ) (txn : TxnName) (tree : TreeFunction) (marks : List Mark) (p : Path) (name : List ℕ) (value : Option (Vec ℕ Global)) (before after : Folder) (way : Way)
    → Leads look txn before way → (r : Result PropertyPut EditError) → IsPuttingProp look trees top base txn tree marks p name value before after r → IfSet r (Leads look txn after way) → OnLeft r (Leads look txn after way)
prop_leads look trees top base txn tree marks p name value before after way leads (Ok props.Done) h set = set
prop_leads look trees top base txn tree marks p name value before after way leads (Ok props.TooLong) h set = same_leads look txn before after way h.1 leads
prop_leads look trees top base txn tree marks p name value before after way leads (Err e) h set = left_on e (after ≡ before) (Leads look txn after way) (λ same. same_leads look txn before after way same leads) h

-- from each root
pub put_each : (txn : TxnName) (X : NodeId → Type 0) (r : Result TextPut EditError) → ((root : NodeId) → IsRootId txn root → IfPut r (X root)) → IfPut r ((root : NodeId) → IsRootId txn root → X root)
put_each txn X (Ok puts.Done) h = h
put_each txn X (Ok puts.NotFile) h = tt
put_each txn X (Ok puts.SourceFault) h = tt
put_each txn X (Ok puts.TooLong) h = tt
put_each txn X (Ok (puts.Checksum kept found)) h = tt
put_each txn X (Err e) h = tt

pub set_each : (txn : TxnName) (X : NodeId → Type 0) (r : Result PropertyPut EditError) → ((root : NodeId) → IsRootId txn root → IfSet r (X root)) → IfSet r ((root : NodeId) → IsRootId txn root → X root)
set_each txn X (Ok props.Done) h = h
set_each txn X (Ok props.TooLong) h = tt
set_each txn X (Err e) h = tt

-- ---- one node-revision set

module _ (look : RevisionBytes) (before : Folder) (id : NodeId) (k : Kept) (here : kept_at before.nodes id ≡ Some k) (after last : Folder) (item : ChangeItem) (done : last ≡ with_item after item) (known : List Known) (path : Path) (at : NodeId) where
  set_there : (x : Kept) → IsLike k x → after ≡ record before { nodes = with_kept id x before.nodes } → LeadsDown look before.nodes known path at → LeadsDown look last.nodes known path at
  set_there x like is leads =
      subst (λ (f : Folder). LeadsDown look f.nodes known path at) (sym done)
      (subst (λ (f : Folder). LeadsDown look f.nodes known path at) (sym is) (set_leads look before.nodes id k x here like known path at leads))

  pub text_set : (rep : Rep) → after ≡ text_put before id k rep → LeadsDown look before.nodes known path at → LeadsDown look last.nodes known path at
  text_set rep is = set_there (text_kept k rep) (record { kind = refl; predecessor = refl; entries = refl }) is

  pub props_set : (pairs : List (List ℕ × List ℕ)) → after ≡ props_put before id k pairs → LeadsDown look before.nodes known path at → LeadsDown look last.nodes known path at
  props_set pairs is = set_there (props_kept k pairs) (record { kind = refl; predecessor = refl; entries = refl }) is
