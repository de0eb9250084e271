-- A transaction stands for the same as more revisions are known.
use Rattle.std.proofs.Common.{◌≤◌, ℕ, List, [], ap, subst, ◌∙◌, arith}
use Rattle.std.specs.Prelude.{Option, Some, None}
use Rattle.std.specs.FinMap.{get}
use Rattle.fsfs_base.specs.declared.failed.Failed.{Failed}
use Rattle.fsfs_tree.specs.Nodes.{TreeFunction}
use Rattle.fsfs_tree.specs.Revisions.{tree_of}
use Rattle.fsfs_tree.specs.Dated.{last_of}
use Rattle.fsfs_model.specs.declared.flat.mark.Mark.{Mark}
use Rattle.fsfs_base.specs.declared.fields.txn_name.TxnName.{TxnName}
use Rattle.fsfs_revision.specs.Told.{RevisionBytes}
use Rattle.fsfs_revision.specs.Shows.Reading.{StandsAt}
use Rattle.fsfs_draft.specs.Rules.{at_top}
use Rattle.fsfs_draft.specs.Drafts.{Folder, bare}
use Rattle.fsfs_draft.specs.Sides.{AreMarksOf, source_here}
use Rattle.fsfs_draft.specs.Edits.{IsDraftAfter}
use Rattle.fsfs_draft.specs.Staying.{IsLater}
use Rattle.fsfs_draft.proofs.StayLaw.{drafts_stay, copies_within, shared_at_same}
use Rattle.fsfs_machine.specs.declared.machine.Recorded.{Recorded}
use Rattle.fsfs_machine.specs.declared.machine.Txn.{Txn}
use Rattle.fsfs_machine.specs.Machine.{revisions}
use Rattle.fsfs_machine.proofs.Growing.{goes_on, revisions_length}
use Rattle.fsfs_turn.specs.Bytes.{bytes_of}
use Rattle.fsfs_turn.specs.Views.{Begins}
use Rattle.fsfs_turn.proofs.Reading.{begins_on}
use Rattle.fsfs_turn.proofs.Alone.{no_shorter}
use Rattle.fsfs_commit.specs.declared.transaction.open_txn.OpenTxn.{OpenTxn}
use Rattle.fsfs_commit.specs.declared.transaction.txn_draft.Stage.{Stage}
use Rattle.fsfs_commit.specs.declared.transaction.txn_draft.Stage.TheVariants.{Open, Ended}
use Rattle.fsfs_commit.specs.declared.transaction.standing.Standing.{Standing}
use Rattle.fsfs_commit.specs.Transaction.Meaning.{IsTxnOf, Means, IfOpen}
use Rattle.fsfs_commit.specs.Transaction.Pinned.{IsPinned}
use Rattle.fsfs_commit.specs.Transaction.SeenLemmas.{later}

pub draft_stays : (look other : RevisionBytes) (trees more : ℕ → TreeFunction) (top later base : ℕ) (txn : TxnName) (f : Folder) (tree : TreeFunction) (marks : List Mark) → IsLater look other trees more top later → base ≤ top
    → IsDraftAfter look trees top base txn f tree marks → IsDraftAfter other more later base txn f tree marks
draft_stays look other trees more top later base txn f tree marks is le a = (
  record {
    shows = record {
      own = a.0.shows.own;
      is_draft = drafts_stay.draft look other trees more top later base txn f a.0.shows.own is le a.0.shows.is_draft;
      each = λ p. a.0.shows.each p ∙ ap bare (drafts_stay.tree look other trees more top later base txn f a.0.shows.own is le a.0.shows.is_draft p);
      items = a.0.shows.items;
    };
    files = a.0.files;
    once = a.0.once;
    says = subst (λ (t : TreeFunction). AreMarksOf t marks a.0.shows.own) (is.same_trees base le) a.0.says;
    sources = λ p v here. a.0.sources p v here
        ∙ ap (source_here v.node.copy_from v.node.predecessor) (shared_at_same top trees more is.same_trees p a.0.shows.own (trees base) (more base)
        (λ q w from at copied. copies_within look top q a.0.shows.own at_top (StandsAt look base) a.0.shows.is_draft.rules w from at copied) (λ q i. is.same_trees base le i q) []);
  },
  a.1,
)

pub txn_stays : (h g : List Recorded) (name : TxnName) (base : ℕ) (settled : Folder) (x : Txn) → IsTxnOf h name base settled x → Begins g h → IsTxnOf g name base settled x
txn_stays h g name base settled x is b = record {
  numbered = is.numbered;
  on = is.on;
  based = omega (arith, is.based, no_shorter h g b);
  stands = record {
    edits = goes_on (tree_of (revisions h)) (tree_of (revisions g)) (last_of (revisions h)) (last_of (revisions g)) more.above more.same_trees base (get x.tree) x.marks is.stands.edits;
    shows = draft_stays (bytes_of h) (bytes_of g) (tree_of (revisions h)) (tree_of (revisions g)) (last_of (revisions h)) (last_of (revisions g)) base name settled (get x.tree) x.marks more (omega (arith, is.based, revisions_length h)) is.stands.shows;
  };
}
  where
    more : IsLater (bytes_of h) (bytes_of g) (tree_of (revisions h)) (tree_of (revisions g)) (last_of (revisions h)) (last_of (revisions g))
    more = later h g (omega (arith, is.based)) b

-- so does a draft, while it is under way
pub open_grows : {B : Type 0} {D : _} (s : Stage B D) (spent : OpenTxn B D → Option Failed) (name : OpenTxn B D → TxnName) (base : OpenTxn B D → ℕ) (settled : OpenTxn B D → Folder) (h more : List Recorded) (x : Txn)
    → IfOpen s (λ o. Means (spent o) h (name o) (base o) (settled o) x) → Begins more h → IfOpen s (λ o. Means (spent o) more (name o) (base o) (settled o) x)
open_grows (Open o) spent name base settled h more x means b = λ none. txn_stays h more (name o) (base o) (settled o) x (means none) b
open_grows (Ended e) spent name base settled h more x means b = tt

-- and it stands for the one that is noted
pub pinned_grows : (o : Option Standing) (h more : List Recorded) (x : Txn) → IsPinned o h x → Begins more h → IsPinned o more x
pinned_grows None h more x pinned b = tt
pinned_grows (Some s) h more x pinned b = (pinned.0, pinned.1, begins_on s.seen h more pinned.2 b)
