use Rattle.std.proofs.Common.{◌≡◌, ◌∙◌, Bool, true, false, None, Some, cond, ap, sym}
use Rattle.std.specs.String.{string_bytes}
use Rattle.std.proofs.lemmas.Map.Text.{btree_map_updates_text}
use Rattle.fsfs_base.specs.Paths.{PathName, same_name}
use Rattle.fsfs_revision.specs.Nodes.{is_revision_id}
use Rattle.fsfs_final.specs.Order.Children.{ids_in}
use Rattle.fsfs_final.proofs.order.children.put_own_id.Goals as goal

pub returns-then-is_revision_id : goal.returns-then-is_revision_id
returns-then-is_revision_id c = λ name.
    let entry = c.args.entry.now in
    let old = ids_in c.args.ids.now in
    let key : c.as_str.result.now ≡ string_bytes entry.name = c.as_str.ensures.value in
    let lasts : is_revision_id entry.id ≡ true = sym c.is_revision_id.ensures ∙ c.if-is_revision_id.true in
    btree_map_updates_text c.as_str.result.now c.args.ids.now c.remove.new.self _ c.remove.ensures.updates name
    ∙ ap (λ (k : PathName). cond (same_name k name) None (old name)) key
    ∙ ap (λ (b : Bool). cond (same_name (string_bytes entry.name) name) (cond b None (Some entry.id)) (old name)) (sym lasts)

pub returns : goal.returns
returns c = λ name.
    let entry = c.args.entry.now in
    let old = ids_in c.args.ids.now in
    let key : string_bytes c.in_ok-name.name ≡ string_bytes entry.name = c.in_ok-name.ensures.ok ∙ c.as_str-2.ensures.value in
    let mine : is_revision_id entry.id ≡ false = sym c.is_revision_id.ensures ∙ c.if-is_revision_id.false in
    btree_map_updates_text (string_bytes c.in_ok-name.name) c.args.ids.now c.insert.new.self _ c.in_ok-insert.ensures.updates name
    ∙ ap (λ (k : PathName). cond (same_name k name) (Some entry.id) (old name)) key
    ∙ ap (λ (b : Bool). cond (same_name (string_bytes entry.name) name) (cond b None (Some entry.id)) (old name)) (sym mine)
