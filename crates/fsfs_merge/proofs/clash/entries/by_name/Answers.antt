use Rattle.std.proofs.Common.{◌++◌, ◌∷◌, [], ap, sym, ◌∙◌, append_assoc, append-nil, rules}
use Rattle.std.specs.BTreeMap.{get_by_text}
use Rattle.std.specs.String.{string_bytes}
use Rattle.std.proofs.lemmas.List.{nil_from_length}
use Rattle.std.proofs.lemmas.Map.Text.{btree_map_updates_text}
use Rattle.fsfs_merge.proofs.ListLemmas.{put_front, empty_map, whole_list}
use Rattle.fsfs_merge.proofs.clash.entries.by_name.Goals as goal

pub loop-entry-init : goal.loop-entry-init
loop-entry-init c = ([], sym (append-nil c.args.entries.items), λ name. empty_map c.new-targets.result name c.new-targets.ensures.empty)

pub loop-entry-preserved : goal.loop-entry-preserved
loop-entry-preserved c =
    let so = c.loop-entry.invariant in (
      c.in-Some.entry ∷ so.0,
      so.1 ∙ ap (λ t. t ++ so.0) c.in-Some.ensures.items ∙ append_assoc c.pop.new.self.items (c.in-Some.entry ∷ []) so.0,
      λ name. btree_map_updates_text (string_bytes c.in-Some.entry.name) c.loop-entry.targets c.insert.new.self _ c.in-Ok.ensures.updates name ∙ put_front name c.in-Some.entry so.0 (get_by_text c.loop-entry.targets name) (so.2 name),
    )

pub returns-clause-listed : goal.returns-clause-listed
returns-clause-listed c = λ name.
    let so = c.loop-entry.invariant in
    so.2 name ∙ whole_list name c.args.entries.items c.loop-entry.entries.items so.0 so.1 (nil_from_length c.loop-entry.entries.items (search rules))
