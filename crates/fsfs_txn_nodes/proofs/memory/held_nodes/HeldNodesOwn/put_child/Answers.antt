use Rattle.std.proofs.Common.{◌≡◌, refl, ◌++◌, ◌∷◌, [], List, Some, ap, subst, ◌∙◌}
use Rattle.fsfs_dag.specs.Listing.Views.{listed}
use Rattle.fsfs_draft.specs.Drafts.{Kept}
use Rattle.fsfs_draft.specs.Steps.{Files, with_kept}
use Rattle.fsfs_draft.specs.Views.{kept_value, new_kept, opened_kept}
use Rattle.fsfs_txn_files.specs.Changes.{changed_all}
use Rattle.fsfs_txn_nodes.specs.TxnFolder.Folders.{TellsFolder}
use Rattle.fsfs_txn_nodes.specs.declared.memory.edit_steps.Step.{Step}
use Rattle.fsfs_txn_nodes.specs.Memory.Lists.{files_of, with_steps}
use Rattle.fsfs_txn_nodes.specs.Memory.Views.{folder_of}
use Rattle.fsfs_txn_nodes.specs.Memory.Written.{filed}
use Rattle.fsfs_txn_nodes.proofs.KeyLemmas.{found_at_id}
use Rattle.fsfs_txn_nodes.proofs.HeldStepLemmas.{child_put}
use Rattle.fsfs_txn_nodes.proofs.WrittenLemmas.{more_ready, same_ready}
use Rattle.fsfs_txn_nodes.proofs.memory.held_nodes.HeldNodesOwn.put_child.Goals as goal

pub push_reserved-requires-2 : goal.push_reserved-requires-2
push_reserved-requires-2 g c = c.push_reserved.ensures.room 1 c.in_ok-reserve.ensures.room

pub returns-clause-done : goal.returns-clause-done
returns-clause-done g c = λ k here.
    let s = c.args.self.now in
    let key = c.key_of-key in
    let child_key = c.key_of-child_key in
    let made : Step = record { key = child_key.result; kept = c.new_node-made.result } in
    let new = listed c.in_ok-new.new in
    record {
      new = new;
      put = c.in_ok-new.ensures;
      after_is = ap (λ (files : Files). folder_of files s.next s.items.items (g.D.Bench.contents s.bench) s.proto)
          (child_put s.steps.list.items c.push_reserved.new.self.list.items c.push_reserved-2.new.self.list.items made (record { key = key.result; kept = c.in_ok-opened.opened }) (kept_value c.in-Some.kept.now) c.args.child c.args.dir.now k (λ (x : Kept). opened_kept x new) (files_of s.settled)
          (c.push_reserved.ensures.items ∙ ap (λ (l : List Step). l ++ made ∷ []) c.in_ok-reserve.ensures.items) c.push_reserved-2.ensures.items
          (record { node = child_key.ensures.node; copy = child_key.ensures.copy }) c.new_node-made.ensures.value
          (record { node = key.ensures.node; copy = key.ensures.copy }) c.in_ok-opened.ensures c.in-Some.ensures here);
    }

pub invariant_of-self : goal.invariant_of-self
invariant_of-self g c =
    let s = c.args.self.now in
    record {
      named = s.named;
      told = s.told;
      ready = same_ready s.changes.items s.changes.items s.steps.list.items c.reserve.new.self.list.items (files_of s.settled) (files_of s.settled) s.settled_next s.items.items s.items.items refl c.reserve.ensures.items refl refl s.ready;
    }

pub invariant_of-self-in_default-take_files : goal.invariant_of-self-in_default-take_files
invariant_of-self-in_default-take_files g c =
    let s = c.args.self.now in
    record {
      named = s.named;
      told = s.told;
      ready = same_ready s.changes.items c.take_files.new.changes.items s.steps.list.items c.reserve.new.self.list.items (files_of s.settled) (files_of s.settled) s.settled_next s.items.items s.items.items c.in_default-take_files.ensures.left c.reserve.ensures.items refl refl s.ready;
    }

pub invariant_of-self-2 : goal.invariant_of-self-2
invariant_of-self-2 g c =
    let s = c.args.self.now in
    let key = c.key_of-key in
    let child_key = c.key_of-child_key in
    let id = c.args.dir.now in
    let child = c.args.child in
    let made : Step = record { key = child_key.result; kept = c.new_node-made.result } in
    let new = listed c.in_ok-new.new in
    let found = kept_value c.in-Some.kept.now in
    let cur = with_steps s.steps.list.items (files_of s.settled) in
    let between = with_kept child.id (new_kept child) cur in
    let here = found_at_id key.result id cur found c.in-Some.ensures key.ensures.node key.ensures.copy in
    let more = c.in_ok-files.files.items in
    record {
      named = s.named;
      told = s.told;
      ready = more_ready s.changes.items more c.take_files.new.changes.items s.steps.list.items c.push_reserved-2.new.self.list.items (files_of s.settled) (with_kept id (opened_kept found new) between) s.settled_next s.items.items c.in-Ok.ensures.done
          (child_put s.steps.list.items c.push_reserved.new.self.list.items c.push_reserved-2.new.self.list.items made (record { key = key.result; kept = c.in_ok-opened.opened }) found child id found (λ (x : Kept). opened_kept x new) (files_of s.settled)
          (c.push_reserved.ensures.items ∙ ap (λ (l : List Step). l ++ made ∷ []) c.in_ok-reserve.ensures.items) c.push_reserved-2.ensures.items
          (record { node = child_key.ensures.node; copy = child_key.ensures.copy }) c.new_node-made.ensures.value
          (record { node = key.ensures.node; copy = key.ensures.copy }) c.in_ok-opened.ensures c.in-Some.ensures here)
          (λ m told. subst (λ (k : Kept). TellsFolder (changed_all more m) (filed (with_kept id k between) s.settled_next s.items.items)) (λ i. record found { node = (c.in_ok-opened.ensures i).node; entries = Some new })
          (c.in_ok-files.ensures m (filed cur s.settled_next s.items.items) new told here c.requires.new (λ es is. c.requires.entries found es here is) c.in_ok-new.ensures))
          s.ready;
    }
