use Rattle.std.proofs.Common.{ℕ, Vec, Global}
use Rattle.fsfs_fetch.specs.Kept.{kept_offsets}
use Rattle.std.proofs.lemmas.Result.{err_from_is_err_and}
use Rattle.fsfs_fetch.proofs.ManifestLemmas.{manifest_stays, read_serves, refused_ok, gives_any}
use Rattle.fsfs_fetch.proofs.manifests.keep_manifest.Goals as goal

pub returns-in_err-offsets-clause-told : goal.returns-in_err-offsets-clause-told
returns-in_err-offsets-clause-told g c = λ m rev p e.
    let r = err_from_is_err_and c.from_residual.result c.from_residual.ensures.1 in
    rw (r.1, r.2) (gives_any {X = Vec ℕ Global} {Y = Unit {0}} (λ v. v.items) (λ _. kept_offsets c.args.kept.now) c.in_err-offsets.field-0.0 _ (c.in_err-offsets.ensures.told _ (manifest_stays (g.R.Reads.view c.args.reads.now) c.args.kept.now rev m c.args.shard p e)))

pub returns-in_err-offsets-clause-about : goal.returns-in_err-offsets-clause-about
returns-in_err-offsets-clause-about g c = λ rev offset.
    let p = err_from_is_err_and c.from_residual.result c.from_residual.ensures.1 in
    rw (p.1, p.2) (c.in_err-offsets.ensures.about rev offset)

pub returns-clause-told : goal.returns-clause-told
returns-clause-told g c = λ m rev p e.
    c.in_ok-offsets.ensures.told _ (manifest_stays (g.R.Reads.view c.args.reads.now) c.args.kept.now rev m c.args.shard p e)

pub returns-clause-serves : goal.returns-clause-serves
returns-clause-serves g c = λ m rev p.
    let view = g.R.Reads.view c.args.reads.now in
    read_serves view.layout m rev c.args.shard c.in_ok-offsets.offsets.items
    (λ e. refused_ok _ _ (c.in_ok-offsets.ensures.told _ (manifest_stays view c.args.kept.now rev m c.args.shard p e)))
