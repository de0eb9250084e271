use Rattle.std.proofs.Common.{◌∙◌, ◌-◌, [], ◌∷◌, ◌++◌, List, length, take, sym, ap, append_assoc, append-nil, rules}
use Rattle.std.proofs.lemmas.List.{nil_from_length}
use Rattle.fsfs_dag.specs.declared.directory.DirEntry.{DirEntry}
use Rattle.fsfs_final.specs.Order.Children.{ids_in}
use Rattle.fsfs_final.proofs.Pushing.{put_front, whole_list, last_split}
use Rattle.fsfs_merge.proofs.ListLemmas.{empty_map}
use Rattle.fsfs_final.proofs.order.children.own_ids.Goals as goal

pub loop-left-init : goal.loop-left-init
loop-left-init c = ([], sym (append-nil c.args.entries.now), λ name. empty_map c.new-ids.result name c.new-ids.ensures.empty)

pub loop-left-preserved : goal.loop-left-preserved
loop-left-preserved c =
    let so = c.loop-left.invariant in
    let left = c.loop-left.left.now in
    let entry : DirEntry = c.entry-item.result in
    let split = last_split left entry c.in-len1-up.len_at_least c.entry-item.is in (
      entry ∷ so.0,
      so.1 ∙ ap (λ (t : List DirEntry). t ++ so.0) split ∙ append_assoc (take (length left - 1) left) (entry ∷ []) so.0,
      λ name. c.in_ok-put_own_id.ensures name ∙ put_front name entry so.0 (ids_in c.loop-left.ids name) (so.2 name),
    )

pub returns : goal.returns
returns c = λ name.
    let so = c.loop-left.invariant in
    so.2 name ∙ whole_list name c.args.entries.now c.loop-left.left.now so.0 so.1 (nil_from_length c.loop-left.left.now (search rules))
