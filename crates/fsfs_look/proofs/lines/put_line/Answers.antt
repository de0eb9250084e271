use Rattle.std.proofs.Common.{◌++◌, ap, sym, refl, ◌∙◌, subst, append-nil}
use Rattle.std.specs.Prelude.{codes, []}
use Rattle.fsfs_stands.specs.TreeTexts.{IsShownId}
use Rattle.fsfs_look.proofs.LineLemmas.{put_whole, shown_grouped}
use Rattle.fsfs_look.proofs.lines.put_line.Goals as goal
use Rattle.fsfs_look.proofs.lines.put_line.Goals.{then-show_ids+in_ok-put_shown_id, else-show_ids}

pub returns : goal.returns
returns c = elim c.if-show_ids.branch [
  | then-show_ids+in_ok-put_shown_id w ↦
      let k = w.in_ok-put_shown_id.ensures in
      let id = c.args.node.now.id in
      let shown : IsShownId c.args.show_ids id (codes " <" ++ k.0 ++ codes ">") = subst (λ b. IsShownId b id (codes " <" ++ k.0 ++ codes ">")) (sym w.if-show_ids.true) (k.0, k.1, refl) in
      put_whole c.args.show_ids c.args.level c.args.name.now c.args.node.now (codes " <" ++ k.0 ++ codes ">") c.args.lines.now.items c.put_spaces.new.lines.items c.put_name.new.lines.items c.if-show_ids.lines.items c.put_end.new.lines.items
      shown c.in_ok-put_spaces.ensures c.in_ok-put_name.ensures (ap (λ v. v.items) w.lines-is ∙ k.2 ∙ shown_grouped c.put_name.new.lines.items (codes " <") k.0 (codes ">")) c.in_ok-put_end.ensures
  | else-show_ids w ↦
      let id = c.args.node.now.id in
      let shown : IsShownId c.args.show_ids id [] = subst (λ b. IsShownId b id []) (sym w.if-show_ids.false) refl in
      put_whole c.args.show_ids c.args.level c.args.name.now c.args.node.now [] c.args.lines.now.items c.put_spaces.new.lines.items c.put_name.new.lines.items c.if-show_ids.lines.items c.put_end.new.lines.items
      shown c.in_ok-put_spaces.ensures c.in_ok-put_name.ensures (ap (λ v. v.items) w.lines-is ∙ sym (append-nil c.put_name.new.lines.items)) c.in_ok-put_end.ensures
]
