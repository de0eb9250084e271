-- Damage by its place and its kind.
use Rattle.std.specs.Prelude.{ℕ}
use Rattle.fsfs_revision.specs.declared.damage.RevOffset.{RevOffset}
use Rattle.fsfs_revision.specs.declared.damage.DamageKind.{DamageKind}
use Rattle.fsfs_revision.specs.declared.wrong.Wrong.{Wrong}
use Rattle.fsfs_revision.specs.declared.wrong.Wrong.TheVariants as wrongs

abbrev pub place_of : ℕ → ℕ → RevOffset
place_of rev offset = record { rev = rev; offset = offset }

abbrev pub damaged : RevOffset → DamageKind → Wrong
damaged at kind = wrongs.Damaged (record { at = at; what = kind })
