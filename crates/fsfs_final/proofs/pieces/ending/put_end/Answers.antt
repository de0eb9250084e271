use Rattle.std.proofs.Common.{rules, arith, ◌≡◌, ◌∙◌, ◌+◌, ◌++◌, List, ℕ, length, ap}
use Rattle.fsfs_final.proofs.PutLemmas.{end_put}
use Rattle.fsfs_final.proofs.pieces.ending.put_end.Goals as goal

pub returns : goal.returns
returns c =
    let old = c.args.out.now.items in
    let at : c.in_ok-changes.changes ≡ c.args.start + length old = first_of (search rules, omega arith) in
    end_put c.args.start c.args.root c.in_ok-changes.changes old c.extend_from_slice.new.self.items c.push.new.self.items c.put_decimal.new.out.items c.put_decimal-2.new.out.items c.in_ok-text.text.items c.args.items.now
    at (c.in_ok-text.ensures.revision c.requires.once) (c.in_ok-extend_from_slice.ensures.items ∙ ap (λ (x : List ℕ). old ++ x) c.deref.ensures.value) c.in_ok-push.ensures.items
    c.in_ok-put_decimal.ensures c.in_ok-put_decimal-2.ensures
