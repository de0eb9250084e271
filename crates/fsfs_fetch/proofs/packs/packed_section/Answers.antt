use Rattle.std.proofs.Common.{◌≡◌, ◌∙◌, ap, sym, subst}
use Rattle.std.specs.Prelude.{IfSome}
use Rattle.std.proofs.lemmas.Result.{err_from_is_err_and}
use Rattle.std.specs.FinMap as map
use Rattle.fsfs_disk.specs.Trace.{IsSize}
use Rattle.fsfs_layout.specs.Layouts.{shard_of, place_in_shard}
use Rattle.fsfs_fetch.specs.ViewLemmas.{later_more}
use Rattle.fsfs_fetch.proofs.PackLemmas.{section_is, missing_is, section_stops}
use Rattle.fsfs_fetch.specs.Kept.{kept_offsets}
use Rattle.fsfs_fetch.proofs.packs.packed_section.Goals as goal

pub returns-in_err-keep_manifest-clause-about : goal.returns-in_err-keep_manifest-clause-about
returns-in_err-keep_manifest-clause-about g c = λ offset.
    let r = err_from_is_err_and c.from_residual.result c.from_residual.ensures.1 in
    rw (r.1, r.2) (c.in_err-keep_manifest.ensures.about c.args.rev offset)

pub returns-in_err-size_at-clause-later : goal.returns-in_err-size_at-clause-later
returns-in_err-size_at-clause-later g c = later_more _ _ _ c.in_ok-keep_manifest.ensures.later c.in_err-size_at.ensures.later

pub returns-in-None-clause-later : goal.returns-in-None-clause-later
returns-in-None-clause-later g c = later_more _ _ _ c.in_ok-keep_manifest.ensures.later c.in_ok-size_at.ensures.later

pub returns-in-Some-clause-later : goal.returns-in-Some-clause-later
returns-in-Some-clause-later g c = later_more _ _ _ c.in_ok-keep_manifest.ensures.later c.in_ok-size_at.ensures.later

pub returns-in-Some-clause-told : goal.returns-in-Some-clause-told
returns-in-Some-clause-told g c = λ m p.
    let v = g.R.Reads.view c.args.reads.now in
    let w = g.R.Reads.view c.size_at.new.reads in
    let shard : c.shard_of-shard.result ≡ shard_of v.layout c.args.rev = c.shard_of-shard.ensures ∙ ap (λ k. shard_of k c.args.rev) c.layout-layout.ensures in
    let read = c.in_ok-keep_manifest.ensures.told m c.args.rev p (sym shard) in
    let h = subst (λ o. IfSome w.files (λ f. IsSize (map.get f c.name.result) o)) c.in-Some.is c.in_ok-size_at.ensures.length in
    let index : c.place_in_shard.result ≡ place_in_shard v.layout c.args.rev = c.place_in_shard.ensures ∙ ap (λ k. place_in_shard k c.args.rev) c.layout-layout.ensures in
    section_is v v w c.args.kept.now c.args.rev c.shard_of-shard.result c.place_in_shard.result c.in-Some.size m (kept_offsets c.keep_manifest.new.kept) c.offsets_of.result.now c.name.result c.section_in.result p shard index
    (later_more _ _ _ c.in_ok-keep_manifest.ensures.later c.in_ok-size_at.ensures.later) read c.name.ensures h c.offsets_of.ensures c.section_in.ensures.section

pub returns-in-None-clause-told : goal.returns-in-None-clause-told
returns-in-None-clause-told g c = λ m p.
    let v = g.R.Reads.view c.args.reads.now in
    let w = g.R.Reads.view c.size_at.new.reads in
    let shard : c.shard_of-shard.result ≡ shard_of v.layout c.args.rev = c.shard_of-shard.ensures ∙ ap (λ k. shard_of k c.args.rev) c.layout-layout.ensures in
    let read = c.in_ok-keep_manifest.ensures.told m c.args.rev p (sym shard) in
    let h = subst (λ o. IfSome w.files (λ f. IsSize (map.get f c.name.result) o)) c.in-None.is c.in_ok-size_at.ensures.length in
    missing_is v w c.args.kept.now c.args.rev c.shard_of-shard.result m (kept_offsets c.keep_manifest.new.kept) c.name.result p shard
    (later_more _ _ _ c.in_ok-keep_manifest.ensures.later c.in_ok-size_at.ensures.later) read c.name.ensures h

pub returns-in_err-keep_manifest-clause-told : goal.returns-in_err-keep_manifest-clause-told
returns-in_err-keep_manifest-clause-told g c = λ m p.
    let v = g.R.Reads.view c.args.reads.now in
    let shard : c.shard_of-shard.result ≡ shard_of v.layout c.args.rev = c.shard_of-shard.ensures ∙ ap (λ k. shard_of k c.args.rev) c.layout-layout.ensures in
    let r = err_from_is_err_and c.from_residual.result c.from_residual.ensures.1 in
    rw (r.1, r.2) (section_stops v.layout m c.args.rev c.shard_of-shard.result (kept_offsets c.keep_manifest.new.kept) c.in_err-keep_manifest.field-0.0 shard (c.in_err-keep_manifest.ensures.told m c.args.rev p (sym shard)))
