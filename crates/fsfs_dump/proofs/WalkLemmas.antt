-- What is written and what is kept, one part behind another.
use Rattle.std.proofs.Common.{◌≡◌, ℕ, List, [], ◌++◌, Option, refl, sym, ap, subst, ◌∙◌, append_assoc, append-nil, inl, inr}
use Rattle.std.specs.Prelude.{◌≢◌, Result, Ok, Err}
use Rattle.fsfs_base.specs.Streams.{Adds}
use Rattle.fsfs_base.specs.Output.{AddsFront}
use Rattle.fsfs_base.proofs.StreamLemmas.{adds_then}
use Rattle.fsfs_revision.specs.declared.wrong.Wrong.{Wrong}
use Rattle.fsfs_revision.specs.declared.wrong.ReadError.{ReadError}
use Rattle.fsfs_revision.specs.declared.wrong.ReadError.TheVariants as reads
use Rattle.fsfs_revision.specs.Damage.Readings.{Answers}
use Rattle.fsfs_stands.specs.declared.look_fault.LookFault.TheVariants as faults
use Rattle.fsfs_stands.specs.declared.look_fault.LookFault.{LookFault}
use Rattle.fsfs_stands.specs.Texts.{End, Whole, Refused, Stopped}
use Rattle.fsfs_stands.specs.FileTexts.{IsWholeText}
use Rattle.fsfs_look.specs.declared.look_error.LookError.{LookError}
use Rattle.fsfs_look.specs.declared.look_error.LookError.TheVariants as errors
use Rattle.fsfs_look.specs.Errors.{of_read}
use Rattle.fsfs_look.specs.Walks.{Then, Joins, JoinsSome, Walks}
use Rattle.fsfs_look.specs.Written.{Writes}
use Rattle.fsfs_look.proofs.ProgressLemmas.{adds_nothing}

abbrev pub Text : Type 1
Text = List ℕ → End → Type 0

abbrev pub Written : Type 0
Written = Option (List ℕ)

abbrev pub Answer : Type 0
Answer = Result (Unit {0}) LookError

-- ---- a walk as another, of which a part was written before

module _ (R S : Text) (before after : List ℕ) (old mid new : Written) (part : List ℕ) (adds : Adds old mid part)
    (move : (written : List ℕ) (end : End) (rest : List ℕ) → Joins R after written end rest → Joins S before (part ++ written) end rest) where
  more : (written : List ℕ) → Adds mid new written → Adds old new (part ++ written)
  more written a = adds_then old mid new part written adds a

  some : (written : List ℕ) → JoinsSome R after written → JoinsSome S before (part ++ written)
  some written (end, rest, h) = (end, rest, move written end rest h)

  moved : (now : List ℕ) (r : Answer) → Walks R after now mid new r → Walks S before now old new r
  moved now (Ok x) (written, a, h) = (part ++ written, more written a, move written Whole now h)
  moved now (Err (errors.Fault fault)) (written, a, h) = (part ++ written, more written a, move written (Refused fault) now h)
  moved now (Err errors.OutOfMemory) (written, a, h) = (part ++ written, more written a, some written h)
  moved now (Err errors.DiskFault) (written, a, h) = (part ++ written, more written a, some written h)
  moved now (Err errors.WriteFault) (written, a, h) = (part ++ written, more written a, some written h)

-- of another text
pub walks_as : (R S : Text) (before now : List ℕ) (old new : Written) (r : Answer) → ((text : List ℕ) (end : End) → R text end → S text end) → Walks R before now old new r → Walks S before now old new r
walks_as R S before now old new r f h = moved R S before before old old new [] (adds_nothing old) (λ written end rest j. (j.0, f j.0 end j.1, j.2)) now r h

-- behind a head that was put
pub walks_head : (head tail before mid now : List ℕ) (old new : Written) (r : Answer) → mid ≡ before ++ head → Walks (IsWholeText tail) mid now old new r → Walks (IsWholeText (head ++ tail)) before now old new r
walks_head head tail before mid now old new r is h =
    moved (IsWholeText tail) (IsWholeText (head ++ tail)) before mid old old new [] (adds_nothing old)
    (λ written end rest j. (head ++ j.0, (ap (λ (t : List ℕ). head ++ t) j.1.0, j.1.1), sym (append_assoc before head j.0) ∙ ap (λ (t : List ℕ). t ++ j.0) (sym is) ∙ j.2)) now r h

-- behind a first part of what was kept, which was written
pub walks_flushed : (R : Text) (before after now part : List ℕ) (old mid new : Written) (r : Answer) → Adds old mid part → before ≡ part ++ after → Walks R after now mid new r → Walks R before now old new r
walks_flushed R before after now part old mid new r adds is h =
    moved R R before after old mid new part adds
    (λ written end rest j. (j.0, j.1, ap (λ (t : List ℕ). t ++ j.0) is ∙ append_assoc part after j.0 ∙ ap (λ (t : List ℕ). part ++ t) j.2 ∙ sym (append_assoc part written rest))) now r h

-- one walk behind another
pub walks_then : (R S : Text) (before middle now : List ℕ) (old mid new : Written) (x : Unit {0}) (r : Answer) → Walks R before middle old mid (Ok x) → Walks S middle now mid new r → Walks (Then R S) before now old new r
walks_then R S before middle now old mid new x r (part, adds, (first, is, e)) h =
    moved S (Then R S) before middle old mid new part adds
    (λ written end rest j. (
      first ++ j.0,
      inr (first, j.0, is, j.1, refl),
      sym (append_assoc before first j.0) ∙ ap (λ (t : List ℕ). t ++ j.0) e ∙ append_assoc part middle j.0 ∙ ap (λ (t : List ℕ). part ++ t) j.2 ∙ sym (append_assoc part written rest),
    )) now r h

-- ---- a walk that ends in the first part

refused_not_whole : (fault : LookFault) → Refused fault ≢ Whole
refused_not_whole fault e = absurd cc

stopped_not_whole : Stopped ≢ Whole
stopped_not_whole e = absurd cc

module _ (R S : Text) (stop : S [] Stopped) where
  -- whatever the first text ends for, the whole goes on so
  first_part : (text : List ℕ) (end : End) → R text end → (e : End) × Then R S text e
  first_part text Whole h = (Stopped, inr (text, [], h, stop, sym (append-nil text)))
  first_part text (Refused fault) h = (Refused fault, inl (h, refused_not_whole fault))
  first_part text Stopped h = (Stopped, inl (h, stopped_not_whole))

  some_first : (before written : List ℕ) → JoinsSome R before written → JoinsSome (Then R S) before written
  some_first before written (end, rest, (text, h, e)) = let f = first_part text end h in (f.0, rest, (text, f.1, e))

  pub walks_ended : (before now : List ℕ) (old new : Written) (e : LookError) → Walks R before now old new (Err e) → Walks (Then R S) before now old new (Err e)
  walks_ended before now old new (errors.Fault fault) (written, a, (text, h, e)) = (written, a, (text, inl (h, refused_not_whole fault), e))
  walks_ended before now old new errors.OutOfMemory (written, a, h) = (written, a, some_first before written h)
  walks_ended before now old new errors.DiskFault (written, a, h) = (written, a, some_first before written h)
  walks_ended before now old new errors.WriteFault (written, a, h) = (written, a, some_first before written h)

  pub then_stops : R [] Stopped → Then R S [] Stopped
  then_stops h = inl (h, stopped_not_whole)

-- ---- steps

-- a text was put
pub walks_put : (text before now : List ℕ) (told : Written) (x : Unit {0}) → now ≡ before ++ text → Walks (IsWholeText text) before now told told (Ok x)
walks_put text before now told x is = ([], adds_nothing told, (text, (refl, refl), sym is))

-- nothing more is put
pub walks_end : (R : Text) (before : List ℕ) (told : Written) (x : Unit {0}) → R [] Whole → Walks R before before told told (Ok x)
walks_end R before told x h = ([], adds_nothing told, ([], h, append-nil before))

pub walks_refused : (R : Text) (before : List ℕ) (told : Written) (fault : LookFault) → R [] (Refused fault) → Walks R before before told told (Err (errors.Fault fault))
walks_refused R before told fault h = ([], adds_nothing told, ([], h, append-nil before))

-- a text of which no part is known to be put or written
some_text : (R : Text) (before text : List ℕ) (end : End) → R text end → JoinsSome R before []
some_text R before text end h = (end, before ++ text, (text, h, refl))

pub walks_starved : (R : Text) (before now text : List ℕ) (end : End) (told : Written) → R text end → Walks R before now told told (Err errors.OutOfMemory)
walks_starved R before now text end told h = ([], adds_nothing told, some_text R before text end h)

-- a write failed after a first part of what was kept
pub walks_unwritten : (R : Text) (before now text : List ℕ) (end : End) (old new : Written) → R text end → AddsFront old new before → Walks R before now old new (Err errors.WriteFault)
walks_unwritten R before now text end old new h (front, rest, e, adds) =
    (front, adds, (end, rest ++ text, (text, h, ap (λ (t : List ℕ). t ++ text) e ∙ append_assoc front rest text)))

-- a reading failed
module _ {X Y : Type 0} (R : Text) (stop : R [] Stopped) (Q : Result Y Wrong → Type 0) (view : X → Y) (wrong : (w : Wrong) → Q (Err w) → R [] (Refused (faults.Wrong w))) (before : List ℕ) (told : Written) where
  pub walks_unread : (e : ReadError) → Answers view Q (Err e) → Walks R before before told told (Err (of_read e))
  walks_unread (reads.Wrong w) h = walks_refused R before told (faults.Wrong w) (wrong w h)
  walks_unread reads.OutOfMemory h = walks_starved R before before [] Stopped told stop
  walks_unread reads.DiskFault h = ([], adds_nothing told, some_text R before [] Stopped stop)

-- a text that was checked was written, or a first part of it
module _ (text : List ℕ) (old new : Written) where
  pub walks_written : (before now : List ℕ) (r : Answer) → before ≡ [] → now ≡ before → Writes (IsWholeText text) old new r → Walks (IsWholeText text) before now old new r
  walks_written before now (Ok x) none same (t, is, adds) = (t, adds, (t, is, ap (λ (l : List ℕ). l ++ t) none ∙ sym (append-nil t) ∙ ap (λ (l : List ℕ). t ++ l) (sym (same ∙ none))))
  walks_written before now (Err (errors.Fault fault)) none same (t, is, adds) = absurd (refused_not_whole fault is.1)
  walks_written before now (Err errors.OutOfMemory) none same (t, end, is, (front, rest, e, adds)) = (front, adds, (end, rest, (t, is, ap (λ (l : List ℕ). l ++ t) none ∙ e)))
  walks_written before now (Err errors.DiskFault) none same (t, end, is, (front, rest, e, adds)) = (front, adds, (end, rest, (t, is, ap (λ (l : List ℕ). l ++ t) none ∙ e)))
  walks_written before now (Err errors.WriteFault) none same (t, end, is, (front, rest, e, adds)) = (front, adds, (end, rest, (t, is, ap (λ (l : List ℕ). l ++ t) none ∙ e)))

-- ---- a long text, and what follows it

module _ (text tail : List ℕ) where
  tail_some : (before written : List ℕ) → JoinsSome (IsWholeText text) before written → JoinsSome (IsWholeText (text ++ tail)) before written
  tail_some before written (end, rest, (t, is, e)) =
      (end, rest ++ tail, (t ++ tail, (ap (λ (x : List ℕ). x ++ tail) is.0, is.1), sym (append_assoc before t tail) ∙ ap (λ (x : List ℕ). x ++ tail) e ∙ append_assoc written rest tail))

  -- it failed before what follows was put
  pub walks_tail : (before now after : List ℕ) (old new : Written) (e : LookError) → Walks (IsWholeText text) before now old new (Err e) → Walks (IsWholeText (text ++ tail)) before after old new (Err e)
  walks_tail before now after old new (errors.Fault fault) (written, a, (t, is, e)) = absurd (refused_not_whole fault is.1)
  walks_tail before now after old new errors.OutOfMemory (written, a, h) = (written, a, tail_some before written h)
  walks_tail before now after old new errors.DiskFault (written, a, h) = (written, a, tail_some before written h)
  walks_tail before now after old new errors.WriteFault (written, a, h) = (written, a, tail_some before written h)

  -- what follows has no room
  pub walks_cut : (before now : List ℕ) (old new : Written) → before ≡ [] → Adds old new text → Walks (IsWholeText (text ++ tail)) before now old new (Err errors.OutOfMemory)
  walks_cut before now old new none adds = (text, adds, (Whole, tail, (text ++ tail, (refl, refl), ap (λ (b : List ℕ). b ++ (text ++ tail)) none)))

  -- both are there
  pub walks_both : (before now : List ℕ) (old new : Written) (x : Unit {0}) → before ≡ [] → now ≡ tail → Adds old new text → Walks (IsWholeText (text ++ tail)) before now old new (Ok x)
  walks_both before now old new x none is adds = (text, adds, (text ++ tail, (refl, refl), ap (λ (b : List ℕ). b ++ (text ++ tail)) none ∙ ap (λ (t : List ℕ). text ++ t) (sym is)))

-- what a written text added
pub whole_adds : (text : List ℕ) (old new : Written) (x : Unit {0}) → Writes (IsWholeText text) old new (Ok x) → Adds old new text
whole_adds text old new x (t, is, adds) = subst (λ (s : List ℕ). Adds old new s) is.0 adds
