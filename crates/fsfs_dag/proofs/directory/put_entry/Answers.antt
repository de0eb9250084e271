use Rattle.std.proofs.Common.{◌≡◌, ℕ, List, true, false, sym, ap, subst, ◌∙◌}
use Rattle.fsfs_noderev.specs.Ids.{id_value}
use Rattle.fsfs_noderev.specs.declared.node_id.NodeId.{NodeId}
use Rattle.fsfs_noderev.proofs.Same.{id_same}
use Rattle.fsfs_revision.specs.Nodes.{is_revision_id}
use Rattle.fsfs_revision.specs.Shows.Reading.{IsEntryName}
use Rattle.fsfs_dag.specs.declared.directory.DirEntry.{DirEntry}
use Rattle.fsfs_dag.proofs.PairLemmas.{id_behind, bad_value, late_place, pushed}
use Rattle.fsfs_dag.proofs.directory.put_entry.Goals as goal

pub returns-in_default-read_id-clause-told : goal.returns-in_default-read_id-clause-told
returns-in_default-read_id-clause-told c =
    let target = c.in-Some-split_value in
    bad_value c.args.home.now c.args.rep.now (c.args.name.now, c.args.value.now) c.args.entries.now.items c.args.entries.now.items _ c.bad_rep-in_default-read_id.ensures c.in-Some.ensures.found.1
    (λ kind id value. (let no = c.in_default-read_id.ensures.only (id_value id) (id_behind c.args.value.now target.id_text.now target.kind kind id target.ensures.found value) in absurd no))

pub returns-then-not-is_revision_id-clause-told : goal.returns-then-not-is_revision_id-clause-told
returns-then-not-is_revision_id-clause-told c =
    let target = c.in-Some-split_value in
    let found = c.in-Some-read_id in
    bad_value c.args.home.now c.args.rep.now (c.args.name.now, c.args.value.now) c.args.entries.now.items c.args.entries.now.items _ c.bad_rep-then-not-is_revision_id.ensures c.in-Some.ensures.found.1
    (λ kind id value.
    let same = id_same found.id id (found.ensures.only (id_value id) (id_behind c.args.value.now target.id_text.now target.kind kind id target.ensures.found value)) in
    let no : true ≡ false = sym value.lasting ∙ ap is_revision_id (sym same) ∙ sym c.is_revision_id.ensures ∙ c.if-not-is_revision_id.true in
    cc)

pub returns-then-not-stands_before-clause-told : goal.returns-then-not-stands_before-clause-told
returns-then-not-stands_before-clause-told c =
    let target = c.in-Some-split_value in
    let found = c.in-Some-read_id in
    late_place c.args.home.now c.args.rep.now (c.args.name.now, c.args.value.now) c.args.entries.now.items c.args.entries.now.items _ target.kind found.id c.damaged.ensures c.in-Some.ensures.found.1
    (record { id_text = target.id_text.now; id_is = found.ensures.found; parts = target.ensures.found; lasting = sym c.is_revision_id.ensures ∙ c.if-not-is_revision_id.false })
    (sym c.stands_before.ensures ∙ c.if-not-stands_before.true)

pub returns-clause-told : goal.returns-clause-told
returns-clause-told c =
    let target = c.in-Some-split_value in
    let found = c.in-Some-read_id in
    let entry : DirEntry = record { name = c.in-Ok.name; kind = target.kind; id = found.id } in (
      entry,
      record {
        name = sym c.in-Some.ensures.found.0 ∙ sym c.in-Ok.ensures.ok;
        name_is = subst (λ (t : List ℕ). IsEntryName t) (sym c.in-Some.ensures.found.0 ∙ sym c.in-Ok.ensures.ok) c.in-Some.ensures.found.1;
        value_is = record { id_text = target.id_text.now; id_is = found.ensures.found; parts = target.ensures.found; lasting = sym c.is_revision_id.ensures ∙ c.if-not-is_revision_id.false };
        before = sym c.stands_before.ensures ∙ c.if-not-stands_before.false;
      },
      pushed c.push.result c.args.entries.now.items c.push.new.self.items entry c.if-is_err.ensures.value c.push.ensures.items,
    )
