-- The workers of a run, with the room for their answers.
use Rattle.std.specs.Prelude.{◌≡◌, ℕ, []}
use Rattle.std.specs.Vec.{vec_capacity}
use Rattle.fsfs_workers.specs.declared.answers.Rooms.{Rooms}
use Rattle.fsfs_workers.specs.declared.crew.Crew.{Crew}
use Rattle.fsfs_workers.specs.declared.crew.Crew.TheVariants.{One, Two}

-- room for so many answers of each of two, and for both's
pub record IsRoom (count : ℕ) (rooms : Rooms) : Type 0 where
  pub first : rooms.first.items ≡ []
  pub second : rooms.second.items ≡ []
  pub both : rooms.both.items ≡ []
  pub first_many : vec_capacity rooms.first ≡ count
  pub second_many : vec_capacity rooms.second ≡ count
  pub both_many : vec_capacity rooms.both ≡ count

abbrev pub workers_in : Crew → ℕ
workers_in (One room) = 1
workers_in (Two rooms) = 2

-- there is room for so many answers
abbrev pub HasRoom : ℕ → Crew → Type 0
HasRoom count (One room) = (room.items ≡ []) × (vec_capacity room ≡ count)
HasRoom count (Two rooms) = IsRoom count rooms
