use Rattle.std.proofs.Common.{◌≡◌, ◌≤◌, ◌<◌, ◌+◌, ◌-◌, length, take, drop, Some, arith, ap, ⊎_elim}
use Rattle.fsfs_revision.specs.Trailers.{EndsWith}
use Rattle.fsfs_revision.proofs.TrailerLemmas.{ends_here, only_here, if_more, ends_behind, only_behind}
use Rattle.fsfs_revision.proofs.trailer.+find.Goals as goal

pub returns-then-trailer-begins-2-clause-found : goal.returns-then-trailer-begins-2-clause-found
returns-then-trailer-begins-2-clause-found t c = ends_here c.args.begins c.args.bytes.now c.in-Ok.trailer (omega arith) c.in-Ok.ensures (omega arith) (omega arith)

pub returns-then-trailer-begins-2-clause-only : goal.returns-then-trailer-begins-2-clause-only
returns-then-trailer-begins-2-clause-only t c = λ u w. ap (λ x. Some x) (only_here c.args.begins c.args.bytes.now c.in-Ok.trailer u c.in-Ok.ensures w).0

pub returns-else-trailer-begins-clause-only : goal.returns-else-trailer-begins-clause-only
returns-else-trailer-begins-clause-only t c = λ u w.
    let o = only_here c.args.begins c.args.bytes.now c.in-Ok.trailer u c.in-Ok.ensures w in
    absurd (⊎_elim (λ p. omega (arith, p.1, ap (λ x. x.changes) o.0, o.2)) (λ q. omega (arith, q, ap (λ x. x.root) o.0, o.1)) c.else-trailer-begins.either)

pub returns-in-Err-clause-found : goal.returns-in-Err-clause-found
returns-in-Err-clause-found t c =
    if_more (EndsWith (c.args.begins + 1) (take (length c.args.bytes.now - 1) (drop 1 c.args.bytes.now))) (EndsWith c.args.begins c.args.bytes.now) c.find.result c.find.ensures.found
    (λ u w. ends_behind c.args.begins c.args.bytes.now u c.in-len1-up.len_at_least w)

pub returns-in-Err-clause-only : goal.returns-in-Err-clause-only
returns-in-Err-clause-only t c = λ u w. c.find.ensures.only u (only_behind c.args.begins c.in-Err.field-0 c.args.bytes.now u c.in-len1-up.len_at_least c.in-Err.ensures w)
