use Rattle.std.proofs.Common.{◌≡◌, refl, ◌++◌, ◌∷◌, [], List, Some, sym, ap, subst, ◌∙◌}
use Rattle.std.specs.Prelude.{Option, option_map}
use Rattle.fsfs_dag.specs.declared.listing.entries.Listing.{Listing}
use Rattle.fsfs_dag.specs.Listing.Views.{listed}
use Rattle.fsfs_revision.specs.Shows.Reading.{DirEntry}
use Rattle.fsfs_draft.specs.Drafts.{Kept}
use Rattle.fsfs_draft.specs.Steps.{Files, with_kept}
use Rattle.fsfs_draft.specs.Views.{kept_value}
use Rattle.fsfs_merge.specs.Relinked.{relinked_kept}
use Rattle.fsfs_txn_files.specs.Changes.{changed_all}
use Rattle.fsfs_noderev.specs.Ids.{part_value}
use Rattle.fsfs_noderev.specs.declared.node_id.NodeId.{NodeId}
use Rattle.fsfs_txn_nodes.specs.TxnFolder.Folders.{TellsFolder}
use Rattle.fsfs_txn_nodes.specs.TxnFolder.Written.{TellsMerged}
use Rattle.fsfs_txn_nodes.specs.declared.memory.edit_steps.Step.{Step}
use Rattle.fsfs_txn_nodes.specs.Memory.Lists.{files_of, with_steps}
use Rattle.fsfs_txn_nodes.specs.Memory.Views.{folder_of}
use Rattle.fsfs_txn_nodes.specs.Memory.Written.{filed}
use Rattle.fsfs_txn_nodes.proofs.KeyLemmas.{found_at_id}
use Rattle.fsfs_txn_nodes.proofs.HeldStepLemmas.{step_changed}
use Rattle.fsfs_txn_nodes.proofs.WrittenLemmas.{more_ready, same_ready}
use Rattle.fsfs_txn_nodes.proofs.memory.held_nodes.HeldNodesRelink.relink.Goals as goal

pub returns-clause-done : goal.returns-clause-done
returns-clause-done g c =
    let s = c.args.self.now in
    let key = c.key_of-key in
    let id = c.args.dir.link.own in
    let same : c.merged_id-own.result ≡ id = c.merged_id-own.ensures in
    let node_is = key.ensures.node ∙ ap (λ (i : NodeId). part_value i.node) same in
    let copy_is = key.ensures.copy ∙ ap (λ (i : NodeId). part_value i.copy) same in
    let found = kept_value c.in-Some.kept.now in
    let here = found_at_id key.result id (with_steps s.steps.list.items (files_of s.settled)) found c.in-Some.ensures node_is copy_is in
    let merged = c.in_ok-merged.ensures in
    let step : Step = record { key = key.result; kept = c.in_ok-merged.merged } in
    record {
      k = found;
      here = here;
      entries = merged.entries;
      listed = merged.listed;
      after_is = ap (λ (files : Files). folder_of files s.next s.items.items (g.D.Bench.contents s.bench) s.proto)
          (step_changed s.steps.list.items c.push_reserved.new.self.list.items step found id found (λ (x : Kept). relinked_kept c.args.dir merged.entries x) (files_of s.settled)
          (c.push_reserved.ensures.items ∙ ap (λ (l : List Step). l ++ step ∷ []) c.in_ok-reserve.ensures.items)
          (record { node = node_is; copy = copy_is }) merged.new_is c.in-Some.ensures here);
    }

pub invariant_of-self : goal.invariant_of-self
invariant_of-self g c =
    let s = c.args.self.now in
    record {
      named = s.named;
      told = s.told;
      ready = same_ready s.changes.items s.changes.items s.steps.list.items c.reserve.new.self.list.items (files_of s.settled) (files_of s.settled) s.settled_next s.items.items s.items.items refl c.reserve.ensures.items refl refl s.ready;
    }

pub invariant_of-self-in_default-take_files : goal.invariant_of-self-in_default-take_files
invariant_of-self-in_default-take_files g c =
    let s = c.args.self.now in
    record {
      named = s.named;
      told = s.told;
      ready = same_ready s.changes.items c.take_files.new.changes.items s.steps.list.items c.reserve.new.self.list.items (files_of s.settled) (files_of s.settled) s.settled_next s.items.items s.items.items c.in_default-take_files.ensures.left c.reserve.ensures.items refl refl s.ready;
    }

pub invariant_of-self-2 : goal.invariant_of-self-2
invariant_of-self-2 g c =
    let s = c.args.self.now in
    let key = c.key_of-key in
    let id = c.args.dir.link.own in
    let same : c.merged_id-own.result ≡ id = c.merged_id-own.ensures in
    let node_is = key.ensures.node ∙ ap (λ (i : NodeId). part_value i.node) same in
    let copy_is = key.ensures.copy ∙ ap (λ (i : NodeId). part_value i.copy) same in
    let found = kept_value c.in-Some.kept.now in
    let cur = with_steps s.steps.list.items (files_of s.settled) in
    let here = found_at_id key.result id cur found c.in-Some.ensures node_is copy_is in
    let merged = c.in_ok-merged.ensures in
    let step : Step = record { key = key.result; kept = c.in_ok-merged.merged } in
    let more = c.in_ok-files.files.items in
    let list : Some (listed c.in-Some-entries.entries) ≡ Some merged.entries = sym (ap (λ (o : Option Listing). option_map listed o) c.in-Some-entries.is) ∙ ap (λ (k : Kept). k.entries) merged.new_is in
    record {
      named = s.named;
      told = s.told;
      ready = more_ready s.changes.items more c.take_files.new.changes.items s.steps.list.items c.push_reserved.new.self.list.items (files_of s.settled) (with_kept id (relinked_kept c.args.dir merged.entries found) cur) s.settled_next s.items.items c.in-Ok.ensures.done
          (step_changed s.steps.list.items c.push_reserved.new.self.list.items step found id found (λ (x : Kept). relinked_kept c.args.dir merged.entries x) (files_of s.settled)
          (c.push_reserved.ensures.items ∙ ap (λ (l : List Step). l ++ step ∷ []) c.in_ok-reserve.ensures.items)
          (record { node = node_is; copy = copy_is }) merged.new_is c.in-Some.ensures here)
          (λ m told. subst (λ (k : Kept). TellsFolder (changed_all more m) (filed (with_kept id k cur) s.settled_next s.items.items)) (λ i. record found { node = (merged.new_is i).node; entries = list i })
          (subst (λ (i : NodeId). TellsMerged i (listed c.in-Some-entries.entries) c.in_ok-merged.merged.node more) same c.in_ok-files.ensures m (filed cur s.settled_next s.items.items) found told here))
          s.ready;
    }
