-- Where the reading of a path comes to what is wrong: all above it is whole. What may be wrong at each step, at which place, and
-- in which order it is looked for, are the `Err` cases of the readings.
use Rattle.std.specs.Prelude.{◌≡◌, ◌↔◌, ℕ, take, drop, ◌∷◌, Err}
use Rattle.fsfs_base.specs.Paths.{PathName, Path}
use Rattle.fsfs_base.specs.declared.kind.Kind.TheVariants.{Dir}
use Rattle.fsfs_revision.specs.Told.{RevisionBytes}
use Rattle.fsfs_noderev.specs.declared.node_rev.NodeRev.{NodeRev}
use Rattle.fsfs_revision.specs.declared.wrong.Wrong.{Wrong}
use Rattle.fsfs_revision.specs.Shows.Reading.{RootOf, ChildOf, MetAt, StandsAt}

-- the root of the revision is not had; or a directory stands above, and its child of the next name is not had
pub data FirstDamage (look : RevisionBytes) (r : ℕ) (p : Path) (w : Wrong) : Type 0 where
  AtRoot : RootOf look r (Err w) → FirstDamage look r p w
  Below : (k : ℕ) (dir : NodeRev) (name : PathName) (rest : Path) → drop k p ≡ name ∷ rest → StandsAt look r (take k p) dir → dir.kind ≡ Dir → ChildOf look dir name (Err w) → FirstDamage look r p w

-- a path meets what is wrong exactly where one of these applies
abbrev pub DamageIsFirst : RevisionBytes → ℕ → Path → Wrong → Type 0
DamageIsFirst look r p w = MetAt look r p (Err w) ↔ FirstDamage look r p w
