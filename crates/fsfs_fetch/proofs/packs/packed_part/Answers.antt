use Rattle.std.proofs.Common.{ℕ, take, arith}
use Rattle.std.proofs.lemmas.Result.{err_from_is_err_and}
use Rattle.fsfs_fetch.specs.ViewLemmas.{later_more, cause_from}
use Rattle.fsfs_fetch.proofs.PackLemmas.{part_stops, part_past, is_section, pack_of, part_whole}
use Rattle.fsfs_fetch.proofs.packs.packed_part.Goals as goal

pub returns-in_err-section-clause-told : goal.returns-in_err-section-clause-told
returns-in_err-section-clause-told g c = λ m p.
    let v = g.R.Reads.view c.args.reads.now in
    let r = err_from_is_err_and c.from_residual.result c.from_residual.ensures.1 in
    rw (r.1, r.2) (part_stops {X = ℕ} (λ n. take n c.args.buffer.now) v.layout m c.args.rev c.args.offset _ c.in_err-section.field-0.0 (c.in_err-section.ensures.told m p))

pub returns-in_err-section-clause-about : goal.returns-in_err-section-clause-about
returns-in_err-section-clause-about g c =
    let r = err_from_is_err_and c.from_residual.result c.from_residual.ensures.1 in
    rw (r.1, r.2) (c.in_err-section.ensures.about c.args.offset)

pub returns-then-section-offset-clause-told : goal.returns-then-section-offset-clause-told
returns-then-section-offset-clause-told g c = λ m p.
    part_past _ m c.args.rev c.args.offset _ c.in_ok-section.section (c.in_ok-section.ensures.told m p) (omega arith)

pub returns-clause-later : goal.returns-clause-later
returns-clause-later g c = later_more _ _ _ c.in_ok-section.ensures.later c.section_part.ensures.later

pub returns-clause-cause : goal.returns-clause-cause
returns-clause-cause g c = cause_from _ _ _ c.section_part.result c.in_ok-section.ensures.cause.later c.section_part.ensures.cause

pub returns-clause-told : goal.returns-clause-told
returns-clause-told g c = λ m p.
    let v = g.R.Reads.view c.args.reads.now in
    let w = g.R.Reads.view c.packed_section.new.reads in
    let s = is_section v.layout m c.args.rev c.in_ok-section.section (c.in_ok-section.ensures.told m p) in
    let stays = pack_of v w c.args.kept.now c.args.rev m s.pack p s.there c.in_ok-section.ensures.later in
    part_whole {X = ℕ} (λ n. take n c.section_part.new.buffer) c.section_part.result c.args.rev c.args.offset _ _ _ s.bytes (c.section_part.ensures.told s.pack stays s.within)
