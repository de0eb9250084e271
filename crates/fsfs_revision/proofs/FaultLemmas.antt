-- Which check of a representation is the first that fails.
use Rattle.std.proofs.Common.{◌≡◌, ℕ, List, Option, Some, None, refl, sym, ap, subst, inl, inr}
use Rattle.std.specs.Prelude.{IfSome, unwrap_or}
use Rattle.sha1.specs.Sha1.{sha1}
use Rattle.fsfs_revision.specs.declared.damage.RevOffset.{RevOffset}
use Rattle.fsfs_revision.specs.declared.damage.RepWhat.TheVariants as repwhat
use Rattle.fsfs_revision.specs.declared.wrong.Wrong.{Wrong}
use Rattle.fsfs_revision.specs.declared.wrong.Wrong.TheVariants as wrongs
use Rattle.fsfs_revision.specs.declared.wrong.ReadError.{ReadError}
use Rattle.fsfs_revision.specs.declared.wrong.ReadError.TheVariants as errors
use Rattle.fsfs_revision.specs.Damage.Checks.{AllPass}
use Rattle.fsfs_revision.specs.Damage.Readings.{IfWrong}
use Rattle.fsfs_revision.specs.Told.{IsRefusalOf}
use Rattle.fsfs_noderev.specs.declared.rep.Rep.{Rep}
use Rattle.fsfs_noderev.specs.declared.rep.Uniquifier.{Uniquifier}
use Rattle.fsfs_revision.specs.Rep.Headers.{HasPlainLine, HasDeltaLine}
use Rattle.fsfs_revision.specs.Rep.Frames.{rep_place, text_of, bad_rep, sha1_checks, rep_checks, HasTrailer, IsFramed, IsWhole, Disagrees, IsFaultOf}
use Rattle.fsfs_revision.specs.Rep.Faults.{IsRefusedRev, IsWrongOf, IsAbout}
use Rattle.fsfs_revision.proofs.HeaderLemmas.{plain_or_delta}

-- nothing is wrong, so what is wrong is anything
pub none_wrong : (P : Wrong → Type 0) (e : ReadError) → IfWrong (λ w. ⊥) e → IfWrong P e
none_wrong P (errors.Wrong w) h = absurd h
none_wrong P errors.OutOfMemory h = tt
none_wrong P errors.DiskFault h = tt

module _ (rep : Rep) (bytes : List ℕ) where
  pub delta_fault : (at : RevOffset) → at ≡ rep_place rep → HasDeltaLine rep.offset bytes → IsFaultOf rep bytes (errors.Wrong (wrongs.Delta at))
  delta_fault at is delta = inl (delta, ap (λ (x : RevOffset). wrongs.Delta x) is)

  pub header_fault : (e : ReadError) → e ≡ errors.Wrong (bad_rep rep repwhat.Header) → (¬ HasPlainLine rep.offset bytes) × (¬ HasDeltaLine rep.offset bytes) → IsFaultOf rep bytes e
  header_fault e is h = subst (λ (x : ReadError). IsFaultOf rep bytes x) (sym is) (inr (h.1, inl (h.0, refl)))

  pub end_fault : (e : ReadError) → e ≡ errors.Wrong (bad_rep rep repwhat.EndRep) → HasPlainLine rep.offset bytes → (HasTrailer rep bytes → ⊥) → IsFaultOf rep bytes e
  end_fault e is plain lacks = subst (λ (x : ReadError). IsFaultOf rep bytes x) (sym is) (inr (plain_or_delta rep.offset bytes plain, inr (plain, inl (lacks, refl))))

  -- what was not as the representation says, once it was framed
  pub fault_of : (e : ReadError) → IsFramed rep bytes → Disagrees rep (text_of rep bytes) e → IsFaultOf rep bytes e
  fault_of (errors.Wrong w) framed d = inr (plain_or_delta rep.offset bytes framed.header, inr (framed.header, inr (framed.trailer, d)))
  fault_of errors.OutOfMemory framed d = tt
  fault_of errors.DiskFault framed d = tt

-- ---- a whole representation passes all checks

sha1_pass : (rep : Rep) (o : Option Uniquifier) (text : List ℕ) → IfSome o (λ u. u.sha1.bytes ≡ sha1 text) → AllPass (sha1_checks rep o text)
sha1_pass rep None text h = tt
sha1_pass rep (Some u) text h = (h, tt)

pub whole_pass : (rep : Rep) (bytes : List ℕ) → IsWhole rep bytes → AllPass (rep_checks rep bytes)
whole_pass rep bytes w =
    (plain_or_delta rep.offset bytes w.framed.header, (w.framed.header, (w.framed.trailer, (w.agrees.size, (w.agrees.md5, sha1_pass rep rep.unique (text_of rep bytes) w.agrees.sha1)))))

-- ---- whatever the book tells

pub about_rev : (rep : Rep) (rev : ℕ) (e : ReadError) → rep.rev ≡ Some rev → IfWrong (IsRefusedRev rev) e → IsAbout rep e
about_rev rep rev (errors.Wrong (wrongs.Refused refusal)) is h = subst (λ (o : Option ℕ). IsRefusalOf (unwrap_or o 0) refusal) (sym is) h
about_rev rep rev (errors.Wrong (wrongs.Delta at)) is h = absurd h
about_rev rep rev (errors.Wrong (wrongs.Damaged d)) is h = absurd h
about_rev rep rev errors.OutOfMemory is h = tt
about_rev rep rev errors.DiskFault is h = tt

pub about_wrong : (rep : Rep) (e : ReadError) (w : Wrong) → e ≡ errors.Wrong w → IsWrongOf rep w → IsAbout rep e
about_wrong rep e w is h = subst (λ (x : ReadError). IsAbout rep x) (sym is) h
