-- A representation in a revision's bytes: `PLAIN` and a newline, the text, `ENDREP` and a newline.
use Rattle.std.specs.Prelude.{◌≡◌, ◌≢◌, ℕ, ◌+◌, List, [], ◌∷◌, take, drop, Option, Some, None, IfSome, unwrap_or, Result, codes, ◌++◌}
use Rattle.md5.specs.Md5.{md5}
use Rattle.sha1.specs.Sha1.{sha1}
use Rattle.fsfs_revision.specs.declared.damage.RevOffset.{RevOffset}
use Rattle.fsfs_revision.specs.declared.damage.RepWhat.{RepWhat}
use Rattle.fsfs_revision.specs.declared.damage.RepWhat.TheVariants as repwhat
use Rattle.fsfs_revision.specs.declared.damage.DamageKind.TheVariants as what
use Rattle.fsfs_revision.specs.declared.wrong.Wrong.{Wrong}
use Rattle.fsfs_revision.specs.declared.wrong.Wrong.TheVariants as wrongs
use Rattle.fsfs_revision.specs.declared.wrong.ReadError.{ReadError}
use Rattle.fsfs_revision.specs.Damage.Checks.{Check, must, must_not, FirstFails, Judged}
use Rattle.fsfs_revision.specs.Damage.Damages.{place_of, damaged}
use Rattle.fsfs_revision.specs.Damage.Readings.{IfWrong}
use Rattle.fsfs_noderev.specs.declared.rep.Rep.{Rep}
use Rattle.fsfs_noderev.specs.declared.rep.Uniquifier.{Uniquifier}
use Rattle.fsfs_revision.specs.declared.rep.frame.TheConstants.{PLAIN_LEN}
use Rattle.fsfs_revision.specs.Rep.Headers.{StandsAt, HasPlainLine, HasDeltaLine}

-- a text with its header and its trailer
abbrev pub framed_text : List ℕ → List ℕ
framed_text text = codes "PLAIN\n" ++ (text ++ codes "ENDREP\n")

-- the revision that it stands in
abbrev pub rev_of : Rep → ℕ
rev_of rep = unwrap_or rep.rev 0

-- its text: so many bytes behind the header
abbrev pub text_of : Rep → List ℕ → List ℕ
text_of rep bytes = take rep.length (drop (rep.offset + PLAIN_LEN) bytes)

abbrev pub HasTrailer : Rep → List ℕ → Type 0
HasTrailer rep bytes = StandsAt (codes "ENDREP\n") (rep.offset + PLAIN_LEN + rep.length) bytes

pub record IsFramed (rep : Rep) (bytes : List ℕ) : Type 0 where
  pub header : HasPlainLine rep.offset bytes
  pub trailer : HasTrailer rep bytes

-- the size is the length, or left out
abbrev pub HasSize : Rep → Type 0
HasSize rep = rep.size ≢ 0 → rep.size ≡ rep.length

-- the text has the digests that the representation names
abbrev pub HasMd5 : Rep → List ℕ → Type 0
HasMd5 rep text = rep.md5.bytes ≡ md5 text

abbrev pub HasSha1 : Rep → List ℕ → Type 0
HasSha1 rep text = IfSome rep.unique (λ u. u.sha1.bytes ≡ sha1 text)

pub record Agrees (rep : Rep) (text : List ℕ) : Type 0 where
  pub size : HasSize rep
  pub md5 : HasMd5 rep text
  pub sha1 : HasSha1 rep text

-- the representation is there, and all is as it says
pub record IsWhole (rep : Rep) (bytes : List ℕ) : Type 0 where
  pub framed : IsFramed rep bytes
  pub agrees : Agrees rep (text_of rep bytes)

-- ---- what is wrong with a representation, in the order of the checks

-- where its header is to begin
abbrev pub rep_place : Rep → RevOffset
rep_place rep = place_of (rev_of rep) rep.offset

abbrev pub bad_rep : Rep → RepWhat → Wrong
bad_rep rep kind = damaged (rep_place rep) (what.Rep kind)

abbrev pub sha1_checks : Rep → Option Uniquifier → List ℕ → List Check
sha1_checks rep None text = []
sha1_checks rep (Some u) text = must (u.sha1.bytes ≡ sha1 text) (bad_rep rep (repwhat.Sha1 u.sha1 (record { bytes = sha1 text }))) ∷ []

-- the text agrees with what the representation says of it
abbrev pub text_checks : Rep → List ℕ → List Check
text_checks rep text =
    must (HasSize rep) (bad_rep rep (repwhat.Size rep.size rep.length))
    ∷ must (HasMd5 rep text) (bad_rep rep (repwhat.Md5 rep.md5 (record { bytes = md5 text })))
    ∷ sha1_checks rep rep.unique text

abbrev pub rep_checks : Rep → List ℕ → List Check
rep_checks rep bytes =
    must_not (HasDeltaLine rep.offset bytes) (wrongs.Delta (rep_place rep))
    ∷ must (HasPlainLine rep.offset bytes) (bad_rep rep repwhat.Header)
    ∷ must (HasTrailer rep bytes) (bad_rep rep repwhat.EndRep)
    ∷ text_checks rep (text_of rep bytes)

abbrev pub IsTextOf : Rep → List ℕ → List ℕ → Type 0
IsTextOf rep bytes text = (text ≡ text_of rep bytes) × IsWhole rep bytes

-- its text, of the bytes of its revision
abbrev pub RepIn : Rep → List ℕ → Result (List ℕ) Wrong → Type 0
RepIn rep bytes = Judged (IsTextOf rep bytes) (rep_checks rep bytes)

-- what an error says of these bytes, and of a text that stands between header and trailer
abbrev pub IsFaultOf : Rep → List ℕ → ReadError → Type 0
IsFaultOf rep bytes = IfWrong (FirstFails (rep_checks rep bytes))

abbrev pub Disagrees : Rep → List ℕ → ReadError → Type 0
Disagrees rep text = IfWrong (FirstFails (text_checks rep text))
