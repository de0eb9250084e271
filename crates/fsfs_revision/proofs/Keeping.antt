-- What a run of calls of a book keeps.
use Rattle.std.proofs.Common.{refl, ◌∙◌}
use Rattle.fsfs_revision.specs.Told.{Telling, Keeps}

pub keeps_refl : {Below : Type 0} (a : Telling Below) → Keeps a a
keeps_refl a = record { revs = λ r read e. e; youngest = λ y e. e; below = refl }

pub keeps_trans : {Below : Type 0} (a b c : Telling Below) → Keeps a b → Keeps b c → Keeps a c
keeps_trans a b c first second = record {
  revs = λ r read e. second.revs r read (first.revs r read e);
  youngest = λ y e. second.youngest y (first.youngest y e);
  below = second.below ∙ first.below;
}
