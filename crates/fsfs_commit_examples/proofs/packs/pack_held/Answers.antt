use Rattle.std.proofs.Common.{◌∙◌, sym, ap}
use Rattle.std.proofs.lemmas.Bool.{both_ways}
use Rattle.fsfs_commit_examples.proofs.packs.pack_held.Goals as goal

-- nobody rests on what a pass does of which nothing is known
pub pack-pass-requires : goal.pack-pass-requires
pack-pass-requires g c = record { due = λ bound. absurd (both_ways c.args.seat.me.0.told c.requires.quiet (sym (ap (λ s. s.me.0.told) c.new-pass.ensures.seat) ∙ bound)) }

pub returns : goal.returns
returns g c =
    let back = c.into_seat.ensures in
    record { sits = (ap (λ s. s.table_id) back.seat ∙ ap (λ m. m.table) c.pack-pass.ensures.mounted ∙ ap (λ s. s.table_id) c.new-pass.ensures.seat, back.sits.1, back.sitting) }
