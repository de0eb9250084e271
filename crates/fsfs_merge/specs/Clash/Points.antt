-- What a merge sees path by path, whatever is wrong there, and the first path at which it goes no further.
use Rattle.std.specs.Prelude.{◌≡◌, ◌++◌, ℕ, Bool, true, false, [], ◌∷◌, Option, Some, None, is_some, Result, Ok, Err}
use Rattle.fsfs_base.specs.Paths.{PathName, Path}
use Rattle.fsfs_model.specs.Flat.Landing.{reached}
use Rattle.fsfs_revision.specs.declared.wrong.Wrong.{Wrong}
use Rattle.fsfs_revision.specs.Told.{RevisionBytes}
use Rattle.fsfs_draft.specs.Drafts.{Folder}
use Rattle.fsfs_merge.specs.declared.sight.Sight.{Sight}
use Rattle.fsfs_merge.specs.Walks.{down}
use Rattle.fsfs_merge.specs.declared.clash.three.Target.{Target}
use Rattle.fsfs_merge.specs.declared.clash.three.Three.{Three}
use Rattle.fsfs_merge.specs.declared.clash.merged.Link.{Link}
use Rattle.fsfs_merge.specs.declared.clash.turn.Halt.{Halt}
use Rattle.fsfs_merge.specs.declared.clash.turn.Halt.TheVariants as halts
use Rattle.fsfs_merge.specs.declared.clash.walk.Roots.{Roots}
use Rattle.fsfs_merge.specs.Clash.Dirs.{dirs_in}
use Rattle.fsfs_merge.specs.Clash.Lists.{Lists, three_named}
use Rattle.fsfs_merge.specs.Clash.Readings.{LookAt, AreDirsIn}
use Rattle.fsfs_merge.specs.Clash.Threes.{has_id, is_changed}
use Rattle.fsfs_merge.specs.Clash.Walks.{root_three}

-- what the three sides have at a path; and where both changed it, why the merge goes no further, or that it goes down
pub record Point : Type 0 where
  pub three : Three
  pub halt : Option Halt
  -- what the directory goes on from, where the merge goes down
  pub link : Option Link

-- ---- where the merge goes down, and where it goes no further

abbrev pub goes_down : Option Halt → Bool
goes_down None = true
goes_down (Some halt) = false

abbrev pub has_same : Option Target → Option Target → Bool
has_same None side = false
has_same (Some b) side = has_id b side

abbrev pub sight_with : Option Target → Option Target → Option Target → Bool → Sight
sight_with x y v goes = record { in_base = is_some x; in_head = is_some y; in_own = is_some v; head_same = has_same x y; own_same = has_same x v; goes_on = goes; same_props = goes }

abbrev pub sight_of : Point → Sight
sight_of at = sight_with at.three.base at.three.head at.three.own (goes_down at.halt)

abbrev pub sights_of : (Path → Point) → Path → Sight
sights_of see p = sight_of (see p)

-- the walk comes to the path, and both sides changed what the base has there
pub record IsMet (see : Path → Point) (p : Path) : Type 0 where
  pub comes : reached (down (sights_of see)) p ≡ true
  pub changed : is_changed (see p).three ≡ true

-- ---- what is seen is what is read

pub record IsDown (see : Path → Point) (p : Path) (lists : Lists) : Type 0 where
  pub goes : (see p).halt ≡ None
  pub link : (see p).link ≡ Some lists.link
  pub entries : (name : PathName) → (see (p ++ name ∷ [])).three ≡ three_named lists name

-- a clash, or three directories with the entries that stand below the path, or what is wrong
abbrev pub IsReadAs : (Path → Point) → Path → Result (Option Lists) Wrong → Type 0
IsReadAs see p (Ok None) = (see p).halt ≡ Some halts.Clash
IsReadAs see p (Ok (Some lists)) = IsDown see p lists
IsReadAs see p (Err w) = (see p).halt ≡ Some (halts.Wrong w)

-- whatever is read at a path that the walk comes to, of revisions up to `top` and of the transaction's folder
pub record IsSeen (look : RevisionBytes) (top : ℕ) (f : Folder) (base : ℕ) (see : Path → Point) : Type 0 where
  pub within : (p : Path) → IsMet see p → AreDirsIn top f (dirs_in (see p).three)
  pub read : (p : Path) → IsMet see p → (r : Result (Option Lists) Wrong) → LookAt look f base (dirs_in (see p).three) r → IsReadAs see p r

-- ---- from the roots

-- where this is what is seen from three roots
pub record IsSeenFrom (look : RevisionBytes) (top : ℕ) (f : Folder) (base : ℕ) (roots : Roots) (see : Path → Point) : Type 0 where
  pub root : (see []).three ≡ root_three roots
  pub seen : IsSeen look top f base see
