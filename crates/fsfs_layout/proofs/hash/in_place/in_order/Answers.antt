use Rattle.std.proofs.Common.{ℕ, List, sym, subst}
use Rattle.std.specs.Borrow.{Bor}
use Rattle.fsfs_layout.specs.Hash.Dump.{Ascending}
use Rattle.fsfs_layout.specs.Hash.Reading.{views}
use Rattle.fsfs_layout.proofs.PutPairs.{put_all-ascending}
use Rattle.fsfs_layout.proofs.hash.in_place.in_order.Goals as goal

pub returns-then-rises : goal.returns-then-rises
returns-then-rises c =
    let rise = subst (λ (ps : List (Bor (List ℕ) × Bor (List ℕ))). Ascending (views ps)) c.deref.ensures.value (c.rises.ensures c.if-rises.true) in
    sym (put_all-ascending (views c.args.found.items) rise)
