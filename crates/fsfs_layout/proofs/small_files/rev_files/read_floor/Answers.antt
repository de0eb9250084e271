use Rattle.std.proofs.Common.{◌≡◌, ap, sym, ◌∙◌, arith, Ok, refl, inl, inr}
use Rattle.fsfs_base.proofs.Readers.{all_found, all_again, all_exact, ok_is}
use Rattle.fsfs_layout.specs.Layouts.{place_in_shard}
use Rattle.fsfs_layout.proofs.Files.{rev_line_reads, never}
use Rattle.fsfs_layout.proofs.small_files.rev_files.read_floor.Goals as goal

pub returns-then-place_in_shard-ne0-clause-only : goal.returns-then-place_in_shard-ne0-clause-only
returns-then-place_in_shard-ne0-clause-only c = λ n g.
    let same : c.in-Ok.rev ≡ n = ok_is c.in-Ok.rev n (sym c.in-Ok.ensures ∙ all_again rev_line_reads c.args.bytes.now n g.0) in
    absurd (c.if-place_in_shard-ne0.true (c.place_in_shard.ensures ∙ ap (place_in_shard c.args.layout) same ∙ g.1))

pub returns-then-place_in_shard-ne0-clause-fault : goal.returns-then-place_in_shard-ne0-clause-fault
returns-then-place_in_shard-ne0-clause-fault c = inr (record {
  number = c.in-Ok.rev;
  line = all_found rev_line_reads c.args.bytes.now c.in-Ok.rev c.in-Ok.ensures;
  inside = λ e. c.if-place_in_shard-ne0.true (c.place_in_shard.ensures ∙ e);
  names = refl;
  place = refl;
})

pub overflow_sub-result : goal.overflow_sub-result
overflow_sub-result c = omega (arith, (all_exact rev_line_reads c.args.bytes.now c.in-Err.left c.in-Err.ensures).0)

pub returns-else-place_in_shard-ne0-clause-found : goal.returns-else-place_in_shard-ne0-clause-found
returns-else-place_in_shard-ne0-clause-found c = (all_found rev_line_reads c.args.bytes.now c.in-Ok.rev c.in-Ok.ensures, sym c.place_in_shard.ensures ∙ c.if-place_in_shard-ne0.false)

pub returns-else-place_in_shard-ne0-clause-only : goal.returns-else-place_in_shard-ne0-clause-only
returns-else-place_in_shard-ne0-clause-only c = λ n g. ap (λ y. Ok y) (ok_is c.in-Ok.rev n (sym c.in-Ok.ensures ∙ all_again rev_line_reads c.args.bytes.now n g.0))

pub returns-in-Err-clause-only : goal.returns-in-Err-clause-only
returns-in-Err-clause-only c = λ n g. absurd (never rev_line_reads c.args.bytes.now n c.in-Err.left g.0 c.in-Err.ensures)

pub returns-in-Err-clause-fault : goal.returns-in-Err-clause-fault
returns-in-Err-clause-fault c = inl (λ n g. never rev_line_reads c.args.bytes.now n c.in-Err.left g c.in-Err.ensures, record { names = refl; place = (all_exact rev_line_reads c.args.bytes.now c.in-Err.left c.in-Err.ensures).1 })
