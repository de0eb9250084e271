-- What the pass knows of the revisions that it has seen: their trees are shown, and they are a history.
use Rattle.std.proofs.Common.{◌<◌, ℕ, List, length, sym, subst, arith}
use Rattle.std.specs.Prelude.{Option}
use Rattle.std.specs.FinMap.{get}
use Rattle.fsfs_base.specs.declared.fields.txn_name.TxnName.{TxnName}
use Rattle.fsfs_layout.specs.declared.layout.Layout.{Layout}
use Rattle.fsfs_disk.specs.Trace.{Trace}
use Rattle.fsfs_base.specs.declared.places.place.DiskPlace.{DiskPlace}
use Rattle.fsfs_tree.specs.Dated.{last_of}
use Rattle.fsfs_tree.specs.Histories.{AreRevisions, IsHistory}
use Rattle.fsfs_tree.specs.Revisions.{tree_of}
use Rattle.fsfs_model.specs.Flat.Transactions.{IsTransaction}
use Rattle.fsfs_revision.specs.Ancestry.Trees.{ShowTrees}
use Rattle.fsfs_revision.proofs.Revisions.{shown_revisions}
use Rattle.fsfs_draft.specs.Drafts.{Folder}
use Rattle.fsfs_machine.specs.declared.machine.Recorded.{Recorded}
use Rattle.fsfs_machine.specs.declared.machine.Txn.{Txn}
use Rattle.fsfs_machine.specs.Machine.{revisions}
use Rattle.fsfs_machine.proofs.Growing.{revisions_length}
use Rattle.fsfs_turn.specs.Alone.{KnowsAlone}
use Rattle.fsfs_turn.specs.Bytes.{bytes_of}
use Rattle.fsfs_turn.specs.Views.{View, IsTxnOver}
use Rattle.fsfs_repo.specs.Meaning.{IsTxnOf}
use Rattle.fsfs_repo.specs.SeenLemmas.{shown_trees}
use Rattle.fsfs_repo.proofs.OwnedRepoShown.{known_shown}
use Rattle.fsfs_repo.proofs.Shown.{seen_shows}

module _ (layout : Layout) (low young : ℕ) (stuck : Option DiskPlace) (told : Option Trace) (v : View) (known : KnowsAlone layout low young stuck told v) where
  pub some_seen : 0 < length v.seen
  some_seen = omega (arith, known.1.all)

  pub trees_seen : ShowTrees (bytes_of v.seen) (last_of (revisions v.seen)) (tree_of (revisions v.seen))
  trees_seen = shown_trees v.seen some_seen (seen_shows v.seen (known_shown layout low young stuck told v known) some_seen)

  pub revisions_seen : AreRevisions (tree_of (revisions v.seen)) (last_of (revisions v.seen))
  revisions_seen = shown_revisions (bytes_of v.seen) (last_of (revisions v.seen)) (tree_of (revisions v.seen)) trees_seen

  pub history_seen : IsHistory (revisions v.seen)
  history_seen = record { last = last_of (revisions v.seen); counted = omega (arith, revisions_length v.seen, some_seen); revisions = revisions_seen }

-- the transaction of the machine is one over these revisions
pub over_seen : (h : List Recorded) (name : TxnName) (base : ℕ) (settled : Folder) (x : Txn) → IsTxnOf h name base settled x → IsTxnOver h x
over_seen h name base settled x is = subst (λ (b : ℕ). IsTransaction (tree_of (revisions h)) (last_of (revisions h)) b (get x.tree) x.marks) (sym is.on) is.stands.edits
