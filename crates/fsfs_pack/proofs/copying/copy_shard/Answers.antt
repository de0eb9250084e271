use Rattle.std.proofs.Common.{◌≡◌, ◌≤◌, ◌+◌, ◌-◌, ◌∷◌, [], ℕ, suc, List, Some, Ok, length, take, refl, sym, ap, subst, ◌∙◌, arith, length-append}
use Rattle.std.specs.Prelude.{Option, Result, option_map, min, slice_get}
use Rattle.std.proofs.lemmas.Result.{err_from_is_err_and}
use Rattle.fsfs_base.specs.Files.{Files}
use Rattle.fsfs_disk.specs.Benches.{written}
use Rattle.fsfs_revision.specs.declared.wrong.Refusal.{Refusal}
use Rattle.fsfs_revision.proofs.Keeping.{keeps_refl, keeps_trans}
use Rattle.fsfs_machine.specs.declared.contents.Part.{Part}
use Rattle.fsfs_pack.specs.Copies.{together, AreTold, AreOffsets}
use Rattle.fsfs_pack.proofs.BenchFiles.{file_written, tells_written}
use Rattle.fsfs_pack.proofs.Cutting.{part_there}
use Rattle.fsfs_pack.proofs.InBench.{read_early}
use Rattle.fsfs_pack.proofs.Offsets.{AreCopied, none_copied, one_copied, all_copied, offsets_none, offsets_more}
use Rattle.fsfs_pack.specs.Sections.{pack_text}
use Rattle.fsfs_pack.proofs.copying.copy_shard.Goals as goal

-- nothing is copied yet
begun : (parts : List Part) (offsets : List ℕ) (k : ℕ) (held : Option Files) → offsets ≡ [] → k ≡ 0 → AreCopied parts 0 [] 0 held → AreCopied parts k offsets 0 held
begun parts offsets k held none zero_is c = subst (λ (y : ℕ × List ℕ). AreCopied parts y.0 y.1 0 held) (λ i. (sym zero_is i, sym none i)) c

pub revisions-init : goal.revisions-init
revisions-init g c =
    let old = g.N.Bench.contents c.args.bench.now in
    let new = g.N.Bench.contents c.write.new.self in
    let has = file_written old new pack_text [] (subst (λ n. new ≡ option_map (written n []) old) c.pack_file.ensures c.in-Ok.ensures.ok) in
    record {
      kept = keeps_refl (g.B.Book.told c.args.book.now);
      many = omega (arith, ap length c.new-offsets.ensures.items, c.get-number.ensures.same);
      room = refl;
      tells = λ told. tells_written old new c.pack_file.result [] c.in-Ok.ensures.ok told;
      there = ([], has);
      fits = omega arith;
      rising = subst (λ os. AreOffsets os 0) (sym c.new-offsets.ensures.items) offsets_none;
      copied = λ parts tells told many. begun parts c.new-offsets.result.items (c.get-number.result - c.args.shard.now.first) new c.new-offsets.ensures.items (omega (arith, c.get-number.ensures.same)) (none_copied parts new has);
      read = omega arith;
      bench = c.in-Ok.ensures.cause.later;
    }

-- the next revision is told
next_told : (told : ℕ → Option (Result (List ℕ) Refusal)) (first number rev : ℕ) (parts : List Part) → rev ≡ number → first ≤ number → AreTold told first parts → (y : Part) → slice_get parts (number - first) ≡ Some y → told rev ≡ Some (Ok y.bytes)
next_told told first number rev parts is le each y at = let same : first + (number - first) ≡ rev = omega (arith, is, le) in subst (λ r. told r ≡ Some (Ok y.bytes)) same (each (number - first) y at)

pub returns-in_err-size-clause-fine : goal.returns-in_err-size-clause-fine
returns-in_err-size-clause-fine g c = λ parts told many.
    let p = err_from_is_err_and c.from_residual.result c.from_residual.ensures.1 in
    let k = c.revisions.number - c.args.shard.now.first in
    let least : c.args.shard.now.first ≤ c.revisions.number = omega (arith, c.revisions.auto.number, c.get-number.ensures.same) in
    let y = part_there k parts (omega (arith, many, least, c.revisions-test.true, c.get-number-end.ensures.same)) in
    rw (p.1, p.2) (c.in_err-size.ensures.fine y.0.bytes (c.revisions.invariant.kept.revs c.in-Some.rev (Ok y.0.bytes) (next_told (g.B.Book.told c.args.book.now).revs c.args.shard.now.first c.revisions.number c.in-Some.rev parts c.in-Some.ensures least told y.0 y.1)))

pub returns-in_err-size-clause-early : goal.returns-in_err-size-clause-early
returns-in_err-size-clause-early g c =
    let p = err_from_is_err_and c.from_residual.result c.from_residual.ensures.1 in
    rw (p.1, p.2) (read_early c.in-Some.rev _ c.in_err-size.ensures.about)

pub returns-in_err-size-clause-kept : goal.returns-in_err-size-clause-kept
returns-in_err-size-clause-kept g c = keeps_trans (g.B.Book.told c.args.book.now) (g.B.Book.told c.revisions.book) (g.B.Book.told c.copy_revision.new.book) c.revisions.invariant.kept c.in_err-size.ensures.kept

pub revisions-preserved : goal.revisions-preserved
revisions-preserved g c =
    let w = c.revisions.invariant in
    let e = c.in_ok-size.ensures in
    let first = c.args.shard.now.first in
    let number = c.revisions.number in
    let least : first ≤ number = omega (arith, c.revisions.auto.number, c.get-number.ensures.same) in
    let further : suc (number - first) ≡ number + 1 - first = omega (arith, least) in
    let sum : c.saturating_add-at.result ≡ min (c.in_ok-size.size + c.revisions.at) 18446744073709551615 = omega (arith, c.saturating_add-at.ensures) in
    record {
      kept = keeps_trans (g.B.Book.told c.args.book.now) (g.B.Book.told c.revisions.book) (g.B.Book.told c.copy_revision.new.book) w.kept e.kept;
      many = omega (arith, ap length c.in-Ok-push.ensures.items, length-append c.revisions.offsets.items (c.revisions.at ∷ []), w.many, least);
      room = c.copy_revision.auto.piece ∙ w.room;
      tells = λ told. e.tells (w.tells told);
      there = e.there w.there.0 w.there.1;
      fits = c.saturating_add-at.type_inv;
      rising = subst (λ os. AreOffsets os c.saturating_add-at.result) (sym c.in-Ok-push.ensures.items) (offsets_more c.revisions.offsets.items c.revisions.at c.saturating_add-at.result w.rising (omega (arith, sum, w.fits)));
      copied = λ parts tells told many.
          let y = part_there (number - first) parts (omega (arith, many, least, c.revisions-test.true, c.get-number-end.ensures.same)) in
          let before = w.copied parts tells told many in
          let one = e.copied y.0.bytes (together (take (number - first) parts)) (w.kept.revs c.in-Some.rev (Ok y.0.bytes) (next_told (g.B.Book.told c.args.book.now).revs first number c.in-Some.rev parts c.in-Some.ensures least told y.0 y.1)) before.pack in
          subst (λ (z : ℕ × List ℕ). AreCopied parts z.0 z.1 c.saturating_add-at.result (g.N.Bench.contents c.copy_revision.new.bench)) (λ i. (further i, sym c.in-Ok-push.ensures.items i))
          (one_copied parts (number - first) y.0 c.revisions.offsets.items c.revisions.at c.saturating_add-at.result c.in_ok-size.size (g.N.Bench.contents c.revisions.bench) (g.N.Bench.contents c.copy_revision.new.bench) y.1 before one.0 sum one.1 (e.tells (w.tells tells)) (g.met.N.Bench.short c.copy_revision.new.bench));
      read = omega (arith, w.read, e.read_cause.later);
      bench = omega (arith, w.bench, e.bench_cause.later);
    }

pub returns-clause-copied : goal.returns-clause-copied
returns-clause-copied g c = λ parts tells told many.
    all_copied parts (c.revisions.number - c.args.shard.now.first) c.revisions.offsets.items c.revisions.at (g.N.Bench.contents c.revisions.bench) (omega (arith, many, c.revisions-test.false, c.get-number-end.ensures.same)) (c.revisions.invariant.copied parts tells told many)
