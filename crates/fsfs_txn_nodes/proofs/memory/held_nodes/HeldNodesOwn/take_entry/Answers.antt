use Rattle.std.proofs.Common.{◌≡◌, refl, ◌++◌, ◌∷◌, [], List, Some, ap, subst, ◌∙◌}
use Rattle.fsfs_dag.specs.Listing.Views.{listed}
use Rattle.fsfs_draft.specs.Drafts.{Kept}
use Rattle.fsfs_draft.specs.Steps.{Files, with_kept}
use Rattle.fsfs_draft.specs.Views.{kept_value, opened_kept}
use Rattle.fsfs_txn_files.specs.Changes.{changed_all}
use Rattle.fsfs_txn_nodes.specs.TxnFolder.Folders.{TellsFolder}
use Rattle.fsfs_txn_nodes.specs.declared.memory.edit_steps.Step.{Step}
use Rattle.fsfs_txn_nodes.specs.Memory.Lists.{files_of, with_steps}
use Rattle.fsfs_txn_nodes.specs.Memory.Views.{folder_of}
use Rattle.fsfs_txn_nodes.specs.Memory.Written.{filed}
use Rattle.fsfs_txn_nodes.proofs.KeyLemmas.{found_at_id}
use Rattle.fsfs_txn_nodes.proofs.HeldStepLemmas.{step_changed}
use Rattle.fsfs_txn_nodes.proofs.WrittenLemmas.{more_ready, same_ready}
use Rattle.fsfs_txn_nodes.proofs.memory.held_nodes.HeldNodesOwn.take_entry.Goals as goal

pub returns-clause-done : goal.returns-clause-done
returns-clause-done g c =
    let s = c.args.self.now in
    let key = c.key_of-key in
    let left = listed c.in_ok-new.new in
    let found = kept_value c.in-Some.kept.now in
    let step : Step = record { key = key.result; kept = c.in_ok-opened.opened } in
    let here = found_at_id key.result c.args.dir.now (with_steps s.steps.list.items (files_of s.settled)) found c.in-Some.ensures key.ensures.node key.ensures.copy in
    record {
      k = found;
      here = here;
      new = left;
      taken = c.in_ok-new.ensures;
      after_is = ap (λ (files : Files). folder_of files s.next s.items.items (g.D.Bench.contents s.bench) s.proto)
          (step_changed s.steps.list.items c.push_reserved.new.self.list.items step found c.args.dir.now found (λ (x : Kept). opened_kept x left) (files_of s.settled)
          (c.push_reserved.ensures.items ∙ ap (λ (l : List Step). l ++ step ∷ []) c.in_ok-reserve.ensures.items)
          (record { node = key.ensures.node; copy = key.ensures.copy }) c.in_ok-opened.ensures c.in-Some.ensures here);
    }

pub invariant_of-self : goal.invariant_of-self
invariant_of-self g c =
    let s = c.args.self.now in
    record {
      named = s.named;
      told = s.told;
      ready = same_ready s.changes.items s.changes.items s.steps.list.items c.reserve.new.self.list.items (files_of s.settled) (files_of s.settled) s.settled_next s.items.items s.items.items refl c.reserve.ensures.items refl refl s.ready;
    }

pub invariant_of-self-in_default-take_files : goal.invariant_of-self-in_default-take_files
invariant_of-self-in_default-take_files g c =
    let s = c.args.self.now in
    record {
      named = s.named;
      told = s.told;
      ready = same_ready s.changes.items c.take_files.new.changes.items s.steps.list.items c.reserve.new.self.list.items (files_of s.settled) (files_of s.settled) s.settled_next s.items.items s.items.items c.in_default-take_files.ensures.left c.reserve.ensures.items refl refl s.ready;
    }

pub invariant_of-self-2 : goal.invariant_of-self-2
invariant_of-self-2 g c =
    let s = c.args.self.now in
    let key = c.key_of-key in
    let id = c.args.dir.now in
    let left = listed c.in_ok-new.new in
    let step : Step = record { key = key.result; kept = c.in_ok-opened.opened } in
    let found = kept_value c.in-Some.kept.now in
    let cur = with_steps s.steps.list.items (files_of s.settled) in
    let here = found_at_id key.result id cur found c.in-Some.ensures key.ensures.node key.ensures.copy in
    let more = c.in_ok-files.files.items in
    record {
      named = s.named;
      told = s.told;
      ready = more_ready s.changes.items more c.take_files.new.changes.items s.steps.list.items c.push_reserved.new.self.list.items (files_of s.settled) (with_kept id (opened_kept found left) cur) s.settled_next s.items.items c.in-Ok.ensures.done
          (step_changed s.steps.list.items c.push_reserved.new.self.list.items step found id found (λ (x : Kept). opened_kept x left) (files_of s.settled)
          (c.push_reserved.ensures.items ∙ ap (λ (l : List Step). l ++ step ∷ []) c.in_ok-reserve.ensures.items)
          (record { node = key.ensures.node; copy = key.ensures.copy }) c.in_ok-opened.ensures c.in-Some.ensures here)
          (λ m told. subst (λ (k : Kept). TellsFolder (changed_all more m) (filed (with_kept id k cur) s.settled_next s.items.items)) (λ i. record found { node = (c.in_ok-opened.ensures i).node; entries = Some left })
          (c.in_ok-files.ensures m (filed cur s.settled_next s.items.items) left told here (λ es is. c.requires.entries found es here is) c.in_ok-new.ensures))
          s.ready;
    }
