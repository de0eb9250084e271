-- The parts of the files of a store that is read.
use Rattle.std.specs.Prelude.{◌≡◌, ℕ, List, Option}
use Rattle.std.proofs.Common.{refl, ◌∙◌}
use Rattle.fsfs_fetch.specs.Views.{View, Later}
use Rattle.fsfs_fetch.specs.Answers.{Stays}
use Rattle.fsfs_fetch.specs.ViewLemmas.{later_same, later_more, stays_later}

-- the store behind a reference after some calls, and it is the same reference
pub record IsAfterCalls {B : Type 0} (old new : View B) (old_reference new_reference : ℕ) : Type 0 where
  pub later : Later old new
  pub reference : new_reference ≡ old_reference

pub after_none : {B : Type 0} (v : View B) (n : ℕ) → IsAfterCalls v v n n
after_none v n = record { later = later_same v; reference = refl }

pub after_both : {B : Type 0} (u v w : View B) (k m n : ℕ) → IsAfterCalls u v k m → IsAfterCalls v w m n → IsAfterCalls u w k n
after_both u v w k m n e f = record { later = later_more u v w e.later f.later; reference = f.reference ∙ e.reference }

pub stays_after : {B : Type 0} (v w : View B) (m n : ℕ) (name : List ℕ) (file : Option (List ℕ)) → IsAfterCalls v w m n → Stays v name file → Stays w name file
stays_after v w m n name file e s = stays_later v w name file e.later s
