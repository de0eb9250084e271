-- What is told of a text that was read.
use Rattle.std.proofs.Common.{◌≡◌, ◌≤◌, ◌+◌, ℕ, List, [], length, drop, Some, None, Result, Ok, Err, refl, sym, ap, subst, ◌∙◌, inl, inr, arith}
use Rattle.std.proofs.lemmas.List.{length-take, length-drop}
use Rattle.fsfs_base.specs.Paths.{Path}
use Rattle.fsfs_base.specs.declared.kind.Kind.TheVariants.{File, Dir}
use Rattle.fsfs_revision.specs.declared.wrong.Refusal.{Refusal}
use Rattle.fsfs_revision.specs.declared.wrong.ReadError.{ReadError}
use Rattle.fsfs_revision.specs.declared.wrong.ReadError.TheVariants as reads
use Rattle.fsfs_revision.specs.Told.{RevisionBytes, Told}
use Rattle.fsfs_noderev.specs.declared.rep.Rep.{Rep}
use Rattle.fsfs_noderev.specs.declared.rep.Contents.TheVariants as contents
use Rattle.fsfs_noderev.specs.declared.node_rev.NodeRev.{NodeRev}
use Rattle.fsfs_revision.specs.Rep.Faults.{IsRefusedFor}
use Rattle.fsfs_revision.specs.Rep.Frames.{rev_of, text_of, IsFramed, IsWhole, IsFaultOf}
use Rattle.fsfs_revision.specs.declared.rep.frame.TheConstants.{PLAIN_LEN}
use Rattle.std.specs.Prelude.{codes}
use Rattle.fsfs_revision.proofs.HeaderLemmas.{stands_fits}
use Rattle.fsfs_revision.specs.Shows.Reading.{RepAt, MetAt, Stands}
use Rattle.fsfs_dag.proofs.Reps.{rep_wrong, contents_some, contents_none}
use Rattle.fsfs_look.specs.Errors.{of_read}
use Rattle.fsfs_look.specs.Paths.{IsFound}
use Rattle.fsfs_look.specs.declared.look_error.LookError.{LookError}
use Rattle.fsfs_look.specs.declared.look_error.LookError.TheVariants as errors
use Rattle.fsfs_stands.specs.declared.look_fault.LookFault.TheVariants as faults
use Rattle.fsfs_stands.specs.Texts.{End, Whole, Refused}
use Rattle.fsfs_stands.specs.FileTexts.{KindText, FileText}
use Rattle.fsfs_job_run.specs.TextReads.{TellsText, IsTextRead}
use Rattle.fsfs_jobs.specs.declared.answer.TextRead.{TextRead}

-- the text of a representation that is framed has its length
pub text_length : (rep : Rep) (bytes : List ℕ) → IsFramed rep bytes → length (text_of rep bytes) ≡ rep.length
text_length rep bytes framed =
    let fits : rep.offset + PLAIN_LEN + rep.length + 7 ≤ length bytes = stands_fits (codes "ENDREP\n") (rep.offset + PLAIN_LEN + rep.length) bytes (omega arith) framed.trailer in
    omega (arith, fits, length-take rep.length (drop (rep.offset + PLAIN_LEN) bytes), length-drop (rep.offset + PLAIN_LEN) bytes)

-- ---- no node at the path

pub read_none : (look : RevisionBytes) (rev : ℕ) (path : Path) (e : LookError) → IsFound look rev path (Err e) → IsTextRead look rev path (Err e)
read_none look rev path (errors.Fault (faults.NotFound names)) h = inr (inr (_, h, (refl, refl)))
read_none look rev path (errors.Fault (faults.NotDir names)) h = inr (inr (_, h, (refl, refl)))
read_none look rev path (errors.Fault (faults.Wrong w)) h = inr (inl (w, h, (refl, refl)))
read_none look rev path (errors.Fault faults.NotFile) h = absurd h
read_none look rev path errors.OutOfMemory h = tt
read_none look rev path errors.DiskFault h = tt
read_none look rev path errors.WriteFault h = absurd h

-- ---- what stands at the path

module _ (look : RevisionBytes) (rev : ℕ) (path : Path) (v : NodeRev) (met : MetAt look rev path (Ok (Stands v))) where
  pub read_dir : v.kind ≡ Dir → FileText look rev path [] (Refused faults.NotFile)
  read_dir kind = inr (inr (Stands v, met, subst (λ k. KindText look v k [] (Refused faults.NotFile)) (sym kind) (refl, refl)))

  module _ (kind : v.kind ≡ File) where
    of_file : (text : List ℕ) (end : End) → KindText look v File text end → FileText look rev path text end
    of_file text end h = inr (inr (Stands v, met, subst (λ k. KindText look v k text end) (sym kind) h))

    pub read_empty : (read : TextRead) → v.text ≡ None → TellsText rev [] read → IsTextRead look rev path (Ok read)
    read_empty read none tells = ([], of_file [] Whole (inr (inl (contents_none [] [] (RepAt look) v.text none refl, refl))), tells)

    module _ (rep : Rep) (is : v.text ≡ Some (contents.At rep)) (told : Told) (known : told (rev_of rep) ≡ Some (look (rev_of rep))) where
      told_as : (read : Result (List ℕ) Refusal) → look (rev_of rep) ≡ read → told (rev_of rep) ≡ Some read
      told_as read e = known ∙ ap (λ (r : Result (List ℕ) Refusal). Some r) e

      pub read_wrong : (e : ReadError) → ((bytes : List ℕ) → told (rev_of rep) ≡ Some (Ok bytes) → IsFaultOf rep bytes e) → ((why : Refusal) → told (rev_of rep) ≡ Some (Err why) → IsRefusedFor why e) → IsTextRead look rev path (Err (of_read e))
      read_wrong (reads.Wrong w) there without =
          of_file [] (Refused (faults.Wrong w))
          (inr (inr (w, contents_some (λ (t : List ℕ). t) (Err (reads.Wrong w)) [] (RepAt look) v.text rep is (rep_wrong look rep (reads.Wrong w) (λ bytes f. there bytes (told_as (Ok bytes) f)) (λ why f. without why (told_as (Err why) f))), (refl, refl))))
      read_wrong reads.OutOfMemory there without = tt
      read_wrong reads.DiskFault there without = tt

      module _ (checked : (bytes : List ℕ) → told (rev_of rep) ≡ Some (Ok bytes) → IsWhole rep bytes) (had : (why : Refusal) → told (rev_of rep) ≡ Some (Err why) → ⊥) where
        of_look : (read : Result (List ℕ) Refusal) → look (rev_of rep) ≡ read → IsTextRead look rev path (Ok (record { rev = rev; size = rep.length; md5 = rep.md5 }))
        of_look (Err why) e = absurd (had why (told_as (Err why) e))
        of_look (Ok bytes) e =
            let whole = checked bytes (told_as (Ok bytes) e) in
            let text = text_of rep bytes in
            let ok : Result (List ℕ) ReadError = Ok text in (
              text,
              of_file text Whole (inr (inl (contents_some (λ (t : List ℕ). t) ok [] (RepAt look) v.text rep is (bytes, e, (refl, whole)), refl))),
              record { rev_is = refl; size_is = sym (text_length rep bytes whole.framed); md5_is = whole.agrees.md5 },
            )

        pub read_whole : IsTextRead look rev path (Ok (record { rev = rev; size = rep.length; md5 = rep.md5 }))
        read_whole = of_look (look (rev_of rep)) refl
