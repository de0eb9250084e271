use Rattle.std.proofs.Common.{◌≡◌, ℕ, ◌++◌, ◌∷◌, [], List, suc, length, sym, ◌∙◌, arith}
use Rattle.std.proofs.lemmas.Result.{err_from_is_err_and}
use Rattle.std.proofs.lemmas.List.{map_push}
use Rattle.fsfs_base.specs.Grammar.Reading.{text_at}
use Rattle.fsfs_base.proofs.Loops.{until_more, until_fault, until_end, until_end_fault, until_out}
use Rattle.fsfs_layout.specs.Hash.Reading.{views, entry_at, entries_at}
use Rattle.fsfs_layout.proofs.hash.dump.entries.Goals as goal

END : List ℕ
END = 69 ∷ 78 ∷ 68 ∷ 10 ∷ []

pub returns-in_err-next : goal.returns-in_err-next
returns-in_err-next c =
    let p = err_from_is_err_and c.from_residual.result c.from_residual.ensures.1 in
    rw (p.1, p.2) (until_fault entry_at (text_at (69 ∷ 78 ∷ 68 ∷ 10 ∷ [])) 75 (views c.loop.found.items) (suc (length c.args.bytes.now)) c.loop.counter c.loop.rest.now (entries_at (suc (length c.args.bytes.now)) c.args.bytes.now) c.loop.invariant
    _ (omega arith) (sym c.begins_with.ensures ∙ c.if-begins_with.true) c.in_err-next.ensures)

pub returns-in_err-after : goal.returns-in_err-after
returns-in_err-after c =
    let p = err_from_is_err_and c.from_residual-in_err-after.result c.from_residual-in_err-after.ensures.1 in
    rw (p.1, p.2) (until_end_fault entry_at (text_at (69 ∷ 78 ∷ 68 ∷ 10 ∷ [])) 75 (views c.loop.found.items) (suc (length c.args.bytes.now)) c.loop.counter c.loop.rest.now (entries_at (suc (length c.args.bytes.now)) c.args.bytes.now) c.loop.invariant
    _ (omega arith) (sym c.begins_with.ensures ∙ c.if-begins_with.false) c.in_err-after.ensures)

pub returns-else-begins_with : goal.returns-else-begins_with
returns-else-begins_with c = until_end entry_at (text_at (69 ∷ 78 ∷ 68 ∷ 10 ∷ [])) 75 (views c.loop.found.items) (suc (length c.args.bytes.now)) c.loop.counter c.loop.rest.now (entries_at (suc (length c.args.bytes.now)) c.args.bytes.now) c.loop.invariant
    _ _ (omega arith) (sym c.begins_with.ensures ∙ c.if-begins_with.false) c.in_ok-after.ensures

pub loop-preserved : goal.loop-preserved
loop-preserved c =
    let e : views c.push.new.self.items ≡ views c.loop.found.items ++ (c.in_ok-next.next.0.now, c.in_ok-next.next.1.now) ∷ [] = rw c.in_ok-push.ensures.items (map_push _ c.loop.found.items c.in_ok-next.next) in
    rw e (until_more entry_at (text_at (69 ∷ 78 ∷ 68 ∷ 10 ∷ [])) 75 (views c.loop.found.items) (suc (length c.args.bytes.now)) c.loop.counter c.loop.rest.now (entries_at (suc (length c.args.bytes.now)) c.args.bytes.now) c.loop.invariant
    _ _ (omega arith) (sym c.begins_with.ensures ∙ c.if-begins_with.true) c.in_ok-next.ensures)

pub returns : goal.returns
returns c = until_out entry_at (text_at (69 ∷ 78 ∷ 68 ∷ 10 ∷ [])) 75 (views c.loop.found.items) (suc (length c.args.bytes.now)) c.loop.counter c.loop.rest.now (entries_at (suc (length c.args.bytes.now)) c.args.bytes.now) c.loop.invariant (omega arith)
