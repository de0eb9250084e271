use Rattle.std.proofs.Common.{◌≡◌, take, refl, sym, ap, ◌∙◌}
use Rattle.std.specs.Prelude.{Ok, Err}
use Rattle.fsfs_revision.proofs.FloorLemmas.{floor_ok, floor_err}
use Rattle.fsfs_fetch.proofs.FloorLemmas.{floor_found}
use Rattle.fsfs_fetch.proofs.floors.read_floor.Goals as goal

pub returns-in-Ok-clause-told : goal.returns-in-Ok-clause-told
returns-in-Ok-clause-told g c =
    let w = g.R.Reads.view c.read_at.new.reads in
    let n : c.layout-layout.result ≡ w.layout = c.layout-layout.ensures ∙ sym c.read_at.ensures.later.layout in
    floor_found w.files c.layout-layout.result w.layout c.name.result _ c.read_at.new.buffer _ c.in_ok-found.found (Ok c.in-Ok.floor) n c.name.ensures refl c.in_ok-found.ensures.bytes (ap (λ k. take k c.read_at.new.buffer) c.unwrap_or-count.ensures) (floor_ok c.layout-layout.result c.in-Ok.floor _ c.in-Ok.ensures.found)

pub returns-in-Err-clause-told : goal.returns-in-Err-clause-told
returns-in-Err-clause-told g c =
    let w = g.R.Reads.view c.read_at.new.reads in
    let n : c.layout-layout.result ≡ w.layout = c.layout-layout.ensures ∙ sym c.read_at.ensures.later.layout in
    floor_found w.files c.layout-layout.result w.layout c.name.result _ c.read_at.new.buffer _ c.in_ok-found.found (Err c.in-Err.fault) n c.name.ensures refl c.in_ok-found.ensures.bytes (ap (λ k. take k c.read_at.new.buffer) c.unwrap_or-count.ensures) (floor_err c.layout-layout.result _ c.in-Err.fault c.in-Err.ensures.fault)
