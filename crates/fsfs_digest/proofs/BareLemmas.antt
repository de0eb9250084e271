-- A representation that is read as one that names no SHA-1, and that is compared then.
use Rattle.std.proofs.Common.{◌≡◌, ℕ, List, [], ◌∷◌, ◌++◌, Some, ap, ◌∙◌, inl, inr}
use Rattle.std.specs.Prelude.{Result}
use Rattle.fsfs_revision.specs.declared.wrong.Refusal.{Refusal}
use Rattle.fsfs_revision.specs.declared.wrong.Wrong.{Wrong}
use Rattle.fsfs_revision.specs.declared.wrong.ReadError.{ReadError}
use Rattle.fsfs_revision.specs.declared.wrong.ReadError.TheVariants as errors
use Rattle.fsfs_revision.specs.Damage.Checks.{Check, FirstFails}
use Rattle.fsfs_revision.specs.Damage.Readings.{IfWrong}
use Rattle.fsfs_revision.specs.Told.{Told}
use Rattle.fsfs_revision.specs.Rep.Frames.{rev_of, text_of, HasSha1, IsFramed, IsWhole, IsFaultOf, sha1_checks, rep_checks}
use Rattle.fsfs_revision.proofs.FaultLemmas.{fault_of}
use Rattle.fsfs_noderev.specs.declared.rep.Rep.{Rep}
use Rattle.fsfs_digest.specs.Views.{bare}

pub bare_told : (told : Told) (named rep : Rep) (read : Result (List ℕ) Refusal) → named ≡ bare rep → told (rev_of rep) ≡ Some read → told (rev_of named) ≡ Some read
bare_told told named rep read same e = ap (λ (r : Rep). told (rev_of r)) same ∙ e

-- what fails first does so where more is checked behind it
fails_before : (checks more : List Check) (w : Wrong) → FirstFails checks w → FirstFails (checks ++ more) w
fails_before [] more w f = absurd f
fails_before (check ∷ checks) more w (inl f) = inl f
fails_before (check ∷ checks) more w (inr f) = inr (f.0, fails_before checks more w f.1)

module _ (rep : Rep) (bytes : List ℕ) where
  pub bare_fault : (e : ReadError) → IsFaultOf (bare rep) bytes e → IsFaultOf rep bytes e
  bare_fault (errors.Wrong w) f = fails_before (rep_checks (bare rep) bytes) (sha1_checks rep rep.unique (text_of rep bytes)) w f
  bare_fault errors.OutOfMemory f = tt
  bare_fault errors.DiskFault f = tt

  module _ (whole : IsWhole (bare rep) bytes) where
    framed : IsFramed rep bytes
    framed = record { header = whole.framed.header; trailer = whole.framed.trailer }

    pub named_whole : HasSha1 rep (text_of rep bytes) → IsWhole rep bytes
    named_whole named = record { framed = framed; agrees = record { size = whole.agrees.size; md5 = whole.agrees.md5; sha1 = named } }

    pub sha1_fault : (e : ReadError) → IfWrong (FirstFails (sha1_checks rep rep.unique (text_of rep bytes))) e → IsFaultOf rep bytes e
    sha1_fault (errors.Wrong w) f = fault_of rep bytes (errors.Wrong w) framed (inr (whole.agrees.size, inr (whole.agrees.md5, f)))
    sha1_fault errors.OutOfMemory f = tt
    sha1_fault errors.DiskFault f = tt
