use Rattle.std.proofs.Common.{◌≡◌, ◌++◌, ◌∷◌, [], suc, length, sym, ◌∙◌, arith}
use Rattle.std.specs.Prelude.{option_map}
use Rattle.std.proofs.lemmas.Result.{err_from_is_err_and}
use Rattle.std.proofs.lemmas.List.{map_push}
use Rattle.fsfs_base.specs.Grammar.Reading.{many_at}
use Rattle.fsfs_layout.specs.Hash.Reading.{change_views}
use Rattle.fsfs_layout.specs.Hash.Children.{change_at}
use Rattle.fsfs_layout.proofs.ManyLoops.{many_more, many_fault, many_end, many_out}
use Rattle.fsfs_layout.proofs.hash.children.changes.Goals as goal

pub returns-then-is_empty : goal.returns-then-is_empty
returns-then-is_empty c = many_end change_at (change_views c.loop.found.items) (suc (length c.args.bytes.now)) c.loop.counter c.loop.rest.now _ c.loop.invariant (omega arith) (sym c.if-is_empty.ensures)

pub returns-in_err-next : goal.returns-in_err-next
returns-in_err-next c =
    let p = err_from_is_err_and c.from_residual.result c.from_residual.ensures.1 in
    rw (p.1, p.2) (many_fault change_at (change_views c.loop.found.items) (suc (length c.args.bytes.now)) c.loop.counter c.loop.rest.now (many_at change_at (suc (length c.args.bytes.now)) c.args.bytes.now) c.loop.invariant
    _ (omega arith) (sym c.is_empty.ensures ∙ c.if-is_empty.false) c.in_err-next.ensures)

pub loop-preserved : goal.loop-preserved
loop-preserved c =
    let e : change_views c.push.new.self.items ≡ change_views c.loop.found.items ++ (c.in_ok-next.next.0.now, option_map (λ v. v.now) c.in_ok-next.next.1) ∷ [] = rw c.in_ok-push.ensures.items (map_push _ c.loop.found.items c.in_ok-next.next) in
    rw e (many_more change_at (change_views c.loop.found.items) (suc (length c.args.bytes.now)) c.loop.counter c.loop.rest.now (many_at change_at (suc (length c.args.bytes.now)) c.args.bytes.now) c.loop.invariant
    _ _ (omega arith) (sym c.is_empty.ensures ∙ c.if-is_empty.false) c.in_ok-next.ensures)

pub returns : goal.returns
returns c = many_out change_at (change_views c.loop.found.items) (suc (length c.args.bytes.now)) c.loop.counter c.loop.rest.now (many_at change_at (suc (length c.args.bytes.now)) c.args.bytes.now) c.loop.invariant (omega arith)
