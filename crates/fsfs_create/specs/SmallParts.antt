-- What the reading of small files leaves of a disk.
use Rattle.std.specs.Prelude.{◌≡◌, ℕ, Bool, List, Option}
use Rattle.std.proofs.Common.{refl, ◌∙◌}
use Rattle.fsfs_disk.specs.Trace.{Trace}

-- the disk behind a reference is as it was, its benches have failed no oftener, and it is the same reference
pub record IsAsItWas (old new : Option Trace) (old_path new_path : List ℕ) (old_right new_right : Bool) (old_benches new_benches : ℕ) (old_reference new_reference : ℕ) : Type 0 where
  pub trace : new ≡ old
  pub mounted : new_path ≡ old_path
  pub right : new_right ≡ old_right
  pub benches : new_benches ≡ old_benches
  pub reference : new_reference ≡ old_reference

pub was_none : (told : Option Trace) (path : List ℕ) (right : Bool) (benches n : ℕ) → IsAsItWas told told path path right right benches benches n n
was_none told path right benches n = record { trace = refl; mounted = refl; right = refl; benches = refl; reference = refl }

pub was_both : (a b c : Option Trace) (p q r : List ℕ) (s t u : Bool) (x y z : ℕ) (k m n : ℕ) → IsAsItWas a b p q s t x y k m → IsAsItWas b c q r t u y z m n → IsAsItWas a c p r s u x z k n
was_both a b c p q r s t u x y z k m n e f = record { trace = f.trace ∙ e.trace; mounted = f.mounted ∙ e.mounted; right = f.right ∙ e.right; benches = f.benches ∙ e.benches; reference = f.reference ∙ e.reference }
