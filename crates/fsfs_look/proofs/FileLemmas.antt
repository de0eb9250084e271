-- The text of a file.
use Rattle.std.specs.Prelude.{IsOk, IfErr}
use Rattle.std.proofs.Common.{◌≡◌, ◌≤◌, ℕ, List, [], ◌++◌, take, drop, Option, Some, None, Result, Ok, Err, refl, sym, ap, subst, ◌∙◌, append_assoc, inl, inr}
use Rattle.std.proofs.lemmas.List.{take-append-drop}
use Rattle.fsfs_base.specs.Paths.{Path}
use Rattle.fsfs_base.specs.declared.kind.Kind.TheVariants.{File, Dir}
use Rattle.fsfs_revision.specs.declared.wrong.Refusal.{Refusal}
use Rattle.fsfs_revision.specs.Told.{RevisionBytes, Told}
use Rattle.fsfs_base.specs.Streams.{Adds}
use Rattle.fsfs_base.proofs.StreamLemmas.{adds_then}
use Rattle.fsfs_noderev.specs.declared.rep.Rep.{Rep}
use Rattle.fsfs_noderev.specs.declared.rep.Contents.TheVariants as contents
use Rattle.fsfs_noderev.specs.declared.node_rev.NodeRev.{NodeRev}
use Rattle.fsfs_revision.specs.Rep.Faults.{IsRefusedFor}
use Rattle.fsfs_revision.specs.Rep.Frames.{rev_of, text_of, IsWhole, IsFaultOf}
use Rattle.fsfs_revision.specs.declared.wrong.ReadError.{ReadError}
use Rattle.fsfs_revision.specs.declared.wrong.ReadError.TheVariants as reads
use Rattle.fsfs_revision.specs.Damage.Readings.{Answers}
use Rattle.fsfs_revision.specs.Shows.Reading.{RepAt, TextOf, MetAt, Stands}
use Rattle.fsfs_revision.proofs.OneRep.{rep_at_one}
use Rattle.fsfs_dag.proofs.Reps.{rep_wrong, contents_some, contents_none}
use Rattle.fsfs_look.specs.declared.look_error.LookError.{LookError}
use Rattle.fsfs_look.specs.declared.look_error.LookError.TheVariants as errors
use Rattle.fsfs_stands.specs.declared.look_fault.LookFault.TheVariants as faults
use Rattle.fsfs_look.specs.Errors.{of_read, IsWrong}
use Rattle.fsfs_base.specs.Output.{AddsFront}
use Rattle.fsfs_stands.specs.Texts.{End, Whole, Refused, Stopped}
use Rattle.fsfs_stands.specs.FileTexts.{KindText, FileText, IsWholeText}
use Rattle.fsfs_look.specs.Written.{Writes, WritesFront, HasDiskCause, HasSinkCause}
use Rattle.fsfs_look.proofs.NodeTexts.{writes_as}
use Rattle.fsfs_look.proofs.ProgressLemmas.{adds_nothing}

-- ---- a representation that is whole

module _ (rep : Rep) (bytes : List ℕ) (whole : IsWhole rep bytes) (old new : Option (List ℕ)) where
  abbrev Only : RevisionBytes
  Only rev = Ok bytes

  only_failures : (e : ReadError) → Answers (λ (t : List ℕ). t) (RepAt Only rep) (Err e) → WritesFront (IsWholeText (text_of rep bytes)) old new → Writes (IsWholeText (text_of rep bytes)) old new (Err (of_read e))
  only_failures (reads.Wrong w) h front =
      let found : RepAt Only rep (Ok (text_of rep bytes)) = (bytes, refl, (refl, whole)) in
      let same : Ok (text_of rep bytes) ≡ Err w = rep_at_one Only rep (Ok (text_of rep bytes)) (Err w) found h in
      absurd cc
  only_failures reads.OutOfMemory h front = front
  only_failures reads.DiskFault h front = front

  pub whole_fails : (e : ReadError) → IsFaultOf rep bytes e → WritesFront (IsWholeText (text_of rep bytes)) old new → Writes (IsWholeText (text_of rep bytes)) old new (Err (of_read e))
  whole_fails e h front = only_failures e (rep_wrong Only rep e (λ b f. let same : bytes ≡ b = cc in subst (λ (x : List ℕ). IsFaultOf rep x e) same h) (λ why f. absurd cc)) front

-- a first part of a text
pub front_of : (text : List ℕ) (done : ℕ) (old new : Option (List ℕ)) → Adds old new (take done text) → WritesFront (IsWholeText text) old new
front_of text done old new adds = (text, Whole, (refl, refl), (take done text, drop done text, sym (take-append-drop done text), adds))

-- and a first part of the piece behind it
pub front_more : (text piece : List ℕ) (done count : ℕ) (old mid new : Option (List ℕ)) → Adds old mid (take done text) → piece ≡ take count (drop done text) → AddsFront mid new piece → WritesFront (IsWholeText text) old new
front_more text piece done count old mid new adds is (front, rest, e, more) = (
  text,
  Whole,
  (refl, refl),
  (
    take done text ++ front,
    rest ++ drop count (drop done text),
    sym (take-append-drop done text) ∙ ap (λ t. take done text ++ t) (sym (take-append-drop count (drop done text)) ∙ ap (λ t. t ++ drop count (drop done text)) (sym is ∙ e) ∙ append_assoc front rest (drop count (drop done text)))
        ∙ sym (append_assoc (take done text) front (rest ++ drop count (drop done text))),
    adds_then old mid new (take done text) front adds more,
  ),
)

-- ---- a text that was read again

pub checked_whole : (text : List ℕ) (old new : Option (List ℕ)) (r : Result (Unit {0}) LookError) → IsOk r → Adds old new text → Writes (IsWholeText text) old new r
checked_whole text old new (Ok x) ok adds = (text, (refl, refl), adds)
checked_whole text old new (Err e) ok adds = absurd cc

pub wrong_disk : (before now : ℕ) (r : Result (Unit {0}) LookError) → IfErr r IsWrong → before ≤ now → HasDiskCause before now r
wrong_disk before now (Ok x) is le = record { later = le; failed = tt }
wrong_disk before now (Err (errors.Fault fault)) is le = record { later = le; failed = tt }
wrong_disk before now (Err errors.OutOfMemory) is le = absurd is
wrong_disk before now (Err errors.DiskFault) is le = absurd is
wrong_disk before now (Err errors.WriteFault) is le = absurd is

pub wrong_sink : (before now : ℕ) (r : Result (Unit {0}) LookError) → IfErr r IsWrong → before ≤ now → HasSinkCause before now r
wrong_sink before now (Ok x) is le = record { later = le; failed = tt }
wrong_sink before now (Err (errors.Fault fault)) is le = record { later = le; failed = tt }
wrong_sink before now (Err errors.OutOfMemory) is le = absurd is
wrong_sink before now (Err errors.DiskFault) is le = absurd is
wrong_sink before now (Err errors.WriteFault) is le = absurd is

-- ---- what stands at the path

module _ (look : RevisionBytes) (rev : ℕ) (path : Path) (v : NodeRev) (met : MetAt look rev path (Ok (Stands v))) where
  pub dir_refused : (told : Option (List ℕ)) → v.kind ≡ Dir → Writes (FileText look rev path) told told (Err (errors.Fault faults.NotFile))
  dir_refused told kind = ([], inr (inr (Stands v, met, subst (λ k. KindText look v k [] (Refused faults.NotFile)) (sym kind) (refl, refl))), adds_nothing told)

  module _ (kind : v.kind ≡ File) where
    of_file : (text : List ℕ) (end : End) → KindText look v File text end → FileText look rev path text end
    of_file text end h = inr (inr (Stands v, met, subst (λ k. KindText look v k text end) (sym kind) h))

    pub file_empty : (told : Option (List ℕ)) → v.text ≡ None → Writes (FileText look rev path) told told (Ok tt)
    file_empty told none = ([], of_file [] Whole (inr (inl (contents_none [] [] (RepAt look) v.text none refl, refl))), adds_nothing told)

    file_fails : (told : Option (List ℕ)) (e : ReadError) → Answers (λ (t : List ℕ). t) (TextOf look v) (Err e) → Writes (FileText look rev path) told told (Err (of_read e))
    file_fails told (reads.Wrong w) h = ([], of_file [] (Refused (faults.Wrong w)) (inr (inr (w, h, (refl, refl)))), adds_nothing told)
    file_fails told reads.OutOfMemory h = ([], Stopped, inl (refl, refl), ([], [], refl, adds_nothing told))
    file_fails told reads.DiskFault h = ([], Stopped, inl (refl, refl), ([], [], refl, adds_nothing told))

    module _ (rep : Rep) (is : v.text ≡ Some (contents.At rep)) (told : Told) (known : told (rev_of rep) ≡ Some (look (rev_of rep))) where
      told_as : (read : Result (List ℕ) Refusal) → look (rev_of rep) ≡ read → told (rev_of rep) ≡ Some read
      told_as read e = known ∙ ap (λ (r : Result (List ℕ) Refusal). Some r) e

      pub file_wrong : (out : Option (List ℕ)) (e : ReadError) → ((bytes : List ℕ) → told (rev_of rep) ≡ Some (Ok bytes) → IsFaultOf rep bytes e) → ((why : Refusal) → told (rev_of rep) ≡ Some (Err why) → IsRefusedFor why e)
          → Writes (FileText look rev path) out out (Err (of_read e))
      file_wrong out e there without =
          file_fails out e (contents_some (λ (t : List ℕ). t) (Err e) [] (RepAt look) v.text rep is (rep_wrong look rep e (λ bytes f. there bytes (told_as (Ok bytes) f)) (λ why f. without why (told_as (Err why) f))))

      module _ (checked : (bytes : List ℕ) → told (rev_of rep) ≡ Some (Ok bytes) → IsWhole rep bytes) (had : (why : Refusal) → told (rev_of rep) ≡ Some (Err why) → ⊥) (old new : Option (List ℕ)) (r : Result (Unit {0}) LookError)
          (written : (bytes : List ℕ) → told (rev_of rep) ≡ Some (Ok bytes) → IsWhole rep bytes → Writes (IsWholeText (text_of rep bytes)) old new r) where
        whole_text : (bytes : List ℕ) → look (rev_of rep) ≡ Ok bytes → (text : List ℕ) (end : End) → IsWholeText (text_of rep bytes) text end → FileText look rev path text end
        whole_text bytes e text end (same, whole) =
            of_file text end (inr (inl (contents_some (λ (t : List ℕ). t) (Ok text) [] (RepAt look) v.text rep is (bytes, e, (same, checked bytes (told_as (Ok bytes) e))), whole)))

        of_look : (read : Result (List ℕ) Refusal) → look (rev_of rep) ≡ read → Writes (FileText look rev path) old new r
        of_look (Err why) e = absurd (had why (told_as (Err why) e))
        of_look (Ok bytes) e = let t = told_as (Ok bytes) e in writes_as (IsWholeText (text_of rep bytes)) (FileText look rev path) old new r (whole_text bytes e) (written bytes t (checked bytes t))

        pub file_written : Writes (FileText look rev path) old new r
        file_written = of_look (look (rev_of rep)) refl
