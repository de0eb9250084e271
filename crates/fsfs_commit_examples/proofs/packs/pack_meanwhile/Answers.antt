use Rattle.std.proofs.Common.{◌∙◌, sym, ap, arith}
use Rattle.std.specs.Prelude.{is_some}
use Rattle.fsfs_pass.specs.declared.seats.seat_view.Kin.{Kin}
use Rattle.fsfs_commit_examples.proofs.packs.pack_meanwhile.Goals as goal

pub pack_beside-seat-requires-clause-layout : goal.pack_beside-seat-requires-clause-layout
pack_beside-seat-requires-clause-layout g c κs within = let laid = c.in-Ok.ensures.laid in laid.2 ∙ sym (λ i. record { layout = laid.0 i; low = laid.1 i })

-- of a disk that tells nothing the pass has met nothing
pub pack_beside-seat-requires-clause-quiet : goal.pack_beside-seat-requires-clause-quiet
pack_beside-seat-requires-clause-quiet g c κs within = sym c.in-Ok.ensures.tells.0 ∙ ap (λ m. is_some m) c.in-Ok.ensures.fresh.0

pub pack_beside-seat-requires-clause-parts : goal.pack_beside-seat-requires-clause-parts
pack_beside-seat-requires-clause-parts g c = let parts = ap (λ (k : Kin). k.parts) c.in-Ok.ensures.alone in omega (arith, parts)
