-- What is written of a revision's properties, and what of two parts of a text.
use Rattle.std.proofs.Common.{◌≡◌, ◌∙◌, ℕ, List, [], ◌++◌, refl, sym, ap, subst, append_assoc, inl, inr}
use Rattle.std.specs.Prelude.{Option, Some, None, Result, Ok, Err, OnOk, OnErr, IfErr, codes}
use Rattle.jiff_core.specs.declared.civil.datetime.DateTime.{DateTime}
use Rattle.fsfs_base.specs.Fields.Dates.{IsDateText}
use Rattle.fsfs_tree.specs.Dated.{date_name}
use Rattle.fsfs_revision.specs.declared.damage.DamageKind.TheVariants as what
use Rattle.fsfs_revision.specs.Damage.Damages.{place_of, damaged}
use Rattle.fsfs_look.specs.Revprops.Dates.{shown_date}
use Rattle.fsfs_base.specs.Streams.{Adds}
use Rattle.fsfs_base.specs.Output.{AddsFront}
use Rattle.fsfs_base.proofs.StreamLemmas.{adds_then}
use Rattle.fsfs_revision.specs.declared.wrong.Wrong.{Wrong}
use Rattle.fsfs_revision.specs.declared.wrong.ReadError.{ReadError}
use Rattle.fsfs_revision.specs.declared.wrong.ReadError.TheVariants as reads
use Rattle.fsfs_revision.specs.Damage.Readings.{AndThen, Answers}
use Rattle.fsfs_revision.specs.declared.wrong.Refusal.{Refusal}
use Rattle.fsfs_revision.specs.Told.{RevisionBytes}
use Rattle.fsfs_revision.specs.RevProps.{MayRead, FileRead, only}
use Rattle.fsfs_look.specs.Revprops.Files.{Pairs, RevPropsIn, RevPropsOf}
use Rattle.fsfs_stands.specs.Texts.{End, Whole, Refused, Stopped}
use Rattle.fsfs_look.specs.declared.look_error.LookError.{LookError}
use Rattle.fsfs_look.specs.declared.look_error.LookError.TheVariants as errors
use Rattle.fsfs_look.specs.Errors.{of_read}
use Rattle.fsfs_look.specs.Written.{Writes}
use Rattle.fsfs_look.proofs.ProgressLemmas.{adds_nothing}
use Rattle.fsfs_look.specs.Revprops.Texts.{value_of, author_name, log_name, value_line, info_lines, DateLine, ReadText, PropText, AuthorText, DateText, LogText, InfoText}

-- ---- two parts

pub front_first : (old new : Option (List ℕ)) (first second : List ℕ) → AddsFront old new first → AddsFront old new (first ++ second)
front_first old new first second (front, rest, e, adds) = (front, rest ++ second, ap (λ (t : List ℕ). t ++ second) e ∙ append_assoc front rest second, adds)

pub front_second : (old mid new : Option (List ℕ)) (first second : List ℕ) → Adds old mid first → AddsFront mid new second → AddsFront old new (first ++ second)
front_second old mid new first second before (front, rest, e, adds) = (first ++ front, rest, ap (λ (t : List ℕ). first ++ t) e ∙ sym (append_assoc first front rest), adds_then old mid new first front before adds)

module _ {E : Type 0} (old mid new : Option (List ℕ)) (first second : List ℕ) (before : Adds old mid first) where
  pub second_added : (r : Result (Unit {0}) E) → OnOk r (Adds mid new second) → OnOk r (Adds old new (first ++ second))
  second_added (Ok x) adds = adds_then old mid new first second before adds
  second_added (Err e) adds = tt

  pub second_part : (r : Result (Unit {0}) E) → OnErr r (AddsFront mid new second) → OnErr r (AddsFront old new (first ++ second))
  second_part (Ok x) part = tt
  second_part (Err e) part = front_second old mid new first second before part

-- ---- texts that are read

-- nothing is written where the reading fails
read_fails : {A : Type 0} (view : A → List ℕ) (R : Result (List ℕ) Wrong → Type 0) (told : Option (List ℕ)) (e : ReadError) → Answers view R (Err e) → Writes (ReadText R) told told (Err (of_read e))
read_fails view R told (reads.Wrong w) h = ([], inr (inr (w, h, (refl, refl))), adds_nothing told)
read_fails view R told reads.OutOfMemory h = ([], Stopped, inl (refl, refl), ([], [], refl, adds_nothing told))
read_fails view R told reads.DiskFault h = ([], Stopped, inl (refl, refl), ([], [], refl, adds_nothing told))

-- all of it, or where the sink failed a first part
read_written : (R : Result (List ℕ) Wrong → Type 0) (whole text : List ℕ) (old new : Option (List ℕ)) (r : Result (Unit {0}) LookError) → R (Ok whole) → text ≡ whole
    → OnOk r (Adds old new text) → OnErr r (AddsFront old new text) → IfErr r (λ e. e ≡ errors.WriteFault) → Writes (ReadText R) old new r
read_written R whole text old new (Ok x) gives same added part failed = (whole, inr (inl (gives, refl)), subst (λ (t : List ℕ). Adds old new t) same added)
read_written R whole text old new (Err e) gives same added part failed =
    subst (λ (f : LookError). Writes (ReadText R) old new (Err f)) (sym failed) (whole, Whole, inr (inl (gives, refl)), subst (λ (t : List ℕ). AddsFront old new t) same part)

module _ (R : Pairs → Result (List ℕ) Wrong → Type 0) (may : MayRead) (rev : ℕ) where
  pub no_props : (told : Option (List ℕ)) (e : ReadError) → Answers (λ (pairs : Pairs). pairs) (RevPropsOf may rev) (Err e) → Writes (PropText R may rev) told told (Err (of_read e))
  no_props told (reads.Wrong w) h = read_fails (λ (t : List ℕ). t) (AndThen (RevPropsOf may rev) R) told (reads.Wrong w) (inl h)
  no_props told reads.OutOfMemory h = read_fails (λ (t : List ℕ). t) (AndThen (RevPropsOf may rev) R) told reads.OutOfMemory tt
  no_props told reads.DiskFault h = read_fails (λ (t : List ℕ). t) (AndThen (RevPropsOf may rev) R) told reads.DiskFault tt

  module _ (pairs : Pairs) (read : RevPropsOf may rev (Ok pairs)) where
    pub no_line : {A : Type 0} (view : A → List ℕ) (told : Option (List ℕ)) (e : ReadError) → Answers view (R pairs) (Err e) → Writes (PropText R may rev) told told (Err (of_read e))
    no_line view told (reads.Wrong w) h = read_fails view (AndThen (RevPropsOf may rev) R) told (reads.Wrong w) (inr (pairs, read, h))
    no_line view told reads.OutOfMemory h = read_fails view (AndThen (RevPropsOf may rev) R) told reads.OutOfMemory tt
    no_line view told reads.DiskFault h = read_fails view (AndThen (RevPropsOf may rev) R) told reads.DiskFault tt

    pub props_written : (whole text : List ℕ) (old new : Option (List ℕ)) (r : Result (Unit {0}) LookError) → R pairs (Ok whole) → text ≡ whole
        → OnOk r (Adds old new text) → OnErr r (AddsFront old new text) → IfErr r (λ e. e ≡ errors.WriteFault) → Writes (PropText R may rev) old new r
    props_written whole text old new r gives same = read_written (AndThen (RevPropsOf may rev) R) whole text old new r (pairs, read, gives) same

    -- a first part alone
    pub props_front : (whole text : List ℕ) (old new : Option (List ℕ)) (e : LookError) → R pairs (Ok whole) → text ≡ whole → AddsFront old new text → e ≡ errors.WriteFault → Writes (PropText R may rev) old new (Err e)
    props_front whole text old new e gives same part failed = props_written whole text old new (Err e) gives same tt part failed

-- ---- the line of a date

pub date_found : (rev : ℕ) (stored items : List ℕ) (dt : DateTime) → IsDateText stored dt → items ≡ shown_date dt ++ codes "\n" → DateLine rev (Some stored) (Ok items)
date_found rev stored items dt is e = (dt, is, e)

pub date_refused : (rev : ℕ) (stored : List ℕ) → ((dt : DateTime) → IsDateText stored dt → ⊥) → DateLine rev (Some stored) (Err (damaged (place_of rev 0) what.BadDate))
date_refused rev stored none = inl ((λ some. none some.0 some.1), refl)

pub date_absent : (rev : ℕ) (stored : Option (List ℕ)) (items : List ℕ) → None ≡ stored → items ≡ codes "\n" → DateLine rev stored (Ok items)
date_absent rev stored items none e = subst (λ (o : Option (List ℕ)). DateLine rev o (Ok items)) none e

-- ---- nothing may be read but what the files say

file_only : (may : Result (List ℕ) Refusal → Type 0) (said : Result (List ℕ) Refusal) → ((read : Result (List ℕ) Refusal) → may read → said ≡ read) → (answer : Result (List ℕ) Wrong) → FileRead may answer → FileRead (λ read. said ≡ read) answer
file_only may said one (Ok bytes) h = one (Ok bytes) h
file_only may said one (Err w) (why, h, e) = (why, one (Err why) h, e)

then_only : {X Y : Type 0} (P Q : Result X Wrong → Type 0) (S : X → Result Y Wrong → Type 0) → ((answer : Result X Wrong) → P answer → Q answer) → (answer : Result Y Wrong) → AndThen P S answer → AndThen Q S answer
then_only P Q S f (Ok y) (x, p, s) = (x, f (Ok x) p, s)
then_only P Q S f (Err w) (inl p) = inl (f (Err w) p)
then_only P Q S f (Err w) (inr (x, p, s)) = inr (x, f (Ok x) p, s)

text_only : (P Q : Result (List ℕ) Wrong → Type 0) → ((answer : Result (List ℕ) Wrong) → P answer → Q answer) → (text : List ℕ) (end : End) → ReadText P text end → ReadText Q text end
text_only P Q f text end (inl none) = inl none
text_only P Q f text end (inr (inl (p, e))) = inr (inl (f (Ok text) p, e))
text_only P Q f text end (inr (inr (w, p, none))) = inr (inr (w, f (Err w) p, none))

-- what is written by one text is written by another that every such text is one of
writes_as : (T U : List ℕ → End → Type 0) → ((text : List ℕ) (end : End) → T text end → U text end) → (old new : Option (List ℕ)) (r : Result (Unit {0}) LookError) → Writes T old new r → Writes U old new r
writes_as T U f old new (Ok x) (text, t, adds) = (text, f text Whole t, adds)
writes_as T U f old new (Err (errors.Fault fault)) (text, t, adds) = (text, f text (Refused fault) t, adds)
writes_as T U f old new (Err errors.OutOfMemory) (text, end, t, adds) = (text, end, f text end t, adds)
writes_as T U f old new (Err errors.DiskFault) (text, end, t, adds) = (text, end, f text end t, adds)
writes_as T U f old new (Err errors.WriteFault) (text, end, t, adds) = (text, end, f text end t, adds)

module _ (may : MayRead) (files : RevisionBytes) (rev : ℕ) (one : (read : Result (List ℕ) Refusal) → may rev read → files rev ≡ read) (old new : Option (List ℕ)) (r : Result (Unit {0}) LookError) where
  pub prop_only : (R : Pairs → Result (List ℕ) Wrong → Type 0) → Writes (PropText R may rev) old new r → Writes (PropText R (only files) rev) old new r
  prop_only R = writes_as (PropText R may rev) (PropText R (only files) rev)
      (text_only (AndThen (RevPropsOf may rev) R) (AndThen (RevPropsOf (only files) rev) R)
      (then_only (RevPropsOf may rev) (RevPropsOf (only files) rev) R
      (then_only (FileRead (may rev)) (FileRead (only files rev)) (RevPropsIn rev) (file_only (may rev) (files rev) one))))
      old new r

  pub author_only : Writes (AuthorText may rev) old new r → Writes (AuthorText (only files) rev) old new r
  author_only = prop_only (λ pairs r. r ≡ Ok (value_line (value_of pairs author_name)))

  pub log_only : Writes (LogText may rev) old new r → Writes (LogText (only files) rev) old new r
  log_only = prop_only (λ pairs r. r ≡ Ok (value_line (value_of pairs log_name)))

  pub date_only : Writes (DateText may rev) old new r → Writes (DateText (only files) rev) old new r
  date_only = prop_only (λ pairs. DateLine rev (value_of pairs date_name))

  pub info_only : Writes (InfoText may rev) old new r → Writes (InfoText (only files) rev) old new r
  info_only = prop_only (λ pairs. AndThen (DateLine rev (value_of pairs date_name)) (λ line r. r ≡ Ok (info_lines pairs line)))
