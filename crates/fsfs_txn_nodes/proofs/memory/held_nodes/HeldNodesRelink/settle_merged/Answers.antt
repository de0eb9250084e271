use Rattle.std.proofs.Common.{◌≡◌, refl, ◌++◌, ◌∷◌, [], List, sym, ap, subst, ◌∙◌}
use Rattle.std.specs.Prelude.{Option, option_map}
use Rattle.fsfs_base.specs.Files.{Files as BenchFiles}
use Rattle.fsfs_draft.specs.Steps.{Files}
use Rattle.fsfs_txn_files.specs.Changes.{changed_all}
use Rattle.fsfs_txn_files.specs.declared.change.FileChange.{FileChange}
use Rattle.fsfs_txn_nodes.specs.TxnFolder.Folders.{TellsFolder}
use Rattle.fsfs_txn_nodes.specs.Memory.Lists.{files_of, with_steps}
use Rattle.fsfs_txn_nodes.specs.Memory.Written.{filed, LeadTo}
use Rattle.fsfs_txn_nodes.proofs.WrittenLemmas.{proto_kept, none_ready, end_told, same_ready, same_told, lost_told}
use Rattle.fsfs_txn_nodes.proofs.memory.held_nodes.HeldNodesRelink.settle_merged.Goals as goal

pub returns-clause-done : goal.returns-clause-done
returns-clause-done g c = λ i. record {
  nodes = (c.settle_steps.ensures.files ∙ ap (λ (files : Files). with_steps c.args.self.now.steps.list.items files) c.make_room.ensures.files) i;
  next_node = c.args.self.now.next.node.number;
  next_copy = c.args.self.now.next.copy.number;
  items = c.args.self.now.items.items;
  proto = proto_kept c.args.self.now.proto c.args.self.now.named (g.D.Bench.contents c.args.self.now.bench) (g.D.Bench.contents c.write_files.new.bench) c.deref.result.now c.deref-2.result.now c.in-Ok-write_files.ensures.done i;
}

pub invariant_of-self-2 : goal.invariant_of-self-2
invariant_of-self-2 g c =
    let s = c.args.self.now in
    let last = c.deref-2.result.now in
    let cur = filed (with_steps s.steps.list.items (files_of s.settled)) s.settled_next s.items.items in
    let files = c.settle_steps.ensures.files ∙ ap (λ (files : Files). with_steps s.steps.list.items files) c.make_room.ensures.files in
    let end = filed (files_of c.settle_steps.new.nodes) s.next s.items.items in
    let ends : LeadTo last cur end = λ m told.
    subst (λ (fs : Files). TellsFolder (changed_all last m) (filed fs s.next s.items.items)) (sym files)
    (subst (λ (l : List FileChange). TellsFolder (changed_all l m) (filed (with_steps s.steps.list.items (files_of s.settled)) s.next s.items.items)) (sym c.deref-2.ensures.value) (c.in-Ok.ensures m cur told)) in
    record {
      named = s.named;
      told = end_told (g.D.Bench.faults s.bench) (g.D.Bench.faults c.write_files.new.bench) (g.D.Bench.contents s.bench) (g.D.Bench.contents c.write_files.new.bench) c.deref.result.now last (filed (files_of s.settled) s.settled_next s.items.items) cur end
          c.in-Ok-write_files.ensures.cause.kept c.in-Ok-write_files.ensures.done ends
          (subst (λ (l : List FileChange). ∥ LeadTo l (filed (files_of s.settled) s.settled_next s.items.items) cur ∥₁) (sym c.deref.ensures.value) s.ready) s.told;
      ready = none_ready c.clear.new.self.items c.settle_steps.new.steps.list.items (files_of c.settle_steps.new.nodes) s.next s.items.items c.clear.ensures.items c.settle_steps.ensures.steps;
    }

pub invariant_of-self-in_default-make_room : goal.invariant_of-self-in_default-make_room
invariant_of-self-in_default-make_room g c =
    let s = c.args.self.now in
    record {
      named = s.named;
      told = same_told (g.D.Bench.faults s.bench) (g.D.Bench.contents s.bench) (files_of s.settled) (files_of c.make_room.new.nodes) s.settled_next s.items.items s.items.items c.make_room.ensures.files refl s.told;
      ready = same_ready s.changes.items s.changes.items s.steps.list.items s.steps.list.items (files_of s.settled) (files_of c.make_room.new.nodes) s.settled_next s.items.items s.items.items refl refl c.make_room.ensures.files refl s.ready;
    }

pub invariant_of-self-in_default-write_files : goal.invariant_of-self-in_default-write_files
invariant_of-self-in_default-write_files g c =
    let s = c.args.self.now in
    record {
      named = s.named;
      told = lost_told (g.D.Bench.faults s.bench) (g.D.Bench.faults c.write_files.new.bench) (g.D.Bench.contents c.write_files.new.bench) (filed (files_of c.make_room.new.nodes) s.settled_next s.items.items) c.in_default-write_files.ensures.cause.failed;
      ready = same_ready s.changes.items s.changes.items s.steps.list.items s.steps.list.items (files_of s.settled) (files_of c.make_room.new.nodes) s.settled_next s.items.items s.items.items refl refl c.make_room.ensures.files refl s.ready;
    }
