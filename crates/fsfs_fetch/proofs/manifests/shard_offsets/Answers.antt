use Rattle.std.proofs.Common.{◌≡◌, ◌+◌, ◌*◌, ℕ, [], take, sym, subst, ap, ◌∙◌, arith}
use Rattle.std.specs.Prelude.{unwrap_or}
use Rattle.fsfs_layout.specs.Layouts.{shard_size}
use Rattle.fsfs_fetch.specs.Answers.{Stays}
use Rattle.fsfs_fetch.proofs.ManifestLemmas.{manifest_told, manifest_fault}
use Rattle.fsfs_fetch.proofs.manifests.shard_offsets.Goals as goal

pub returns-in-Ok-clause-told : goal.returns-in-Ok-clause-told
returns-in-Ok-clause-told g c = λ file s.
    let view = g.R.Reads.view c.args.reads.now in
    let t : Stays view c.name.result file = subst (λ n. Stays view n file) (sym c.name.ensures) s in
    let text : c.in_ok-text.text.items ≡ take (shard_size c.layout-layout.result * 21 + 1) (unwrap_or file []) =
    c.in_ok-text.ensures.told file t ∙ ap (λ (k : ℕ). take k (unwrap_or file [])) (omega (arith, c.shard_size.ensures.size)) in
    manifest_told c.layout-layout.result view.layout c.args.shard c.deref.result.now _ (unwrap_or file []) c.in-Ok.offsets.items c.layout-layout.ensures c.deref.ensures.value text c.in-Ok.ensures.found

pub returns-clause-told : goal.returns-clause-told
returns-clause-told g c = λ file s.
    let view = g.R.Reads.view c.args.reads.now in
    let t : Stays view c.name.result file = subst (λ n. Stays view n file) (sym c.name.ensures) s in
    let text : c.in_ok-text.text.items ≡ take (shard_size c.layout-layout.result * 21 + 1) (unwrap_or file []) =
    c.in_ok-text.ensures.told file t ∙ ap (λ (k : ℕ). take k (unwrap_or file [])) (omega (arith, c.shard_size.ensures.size)) in
    let w = rw c.in-Err-Fault.field-0-is at c.in-Err-Fault.ensures in
    manifest_fault c.layout-layout.result view.layout c.args.shard c.deref.result.now _ (unwrap_or file []) c.in-Err-Fault.fault c.layout-layout.ensures c.deref.ensures.value text w.fault w.only
