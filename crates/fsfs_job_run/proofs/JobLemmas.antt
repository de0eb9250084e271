-- What is told of a job that reads, where the bytes show a tree.
use Rattle.std.proofs.Common.{◌≡◌, ◌⊎◌, ℕ, List, [], length, take, Ok, Err, refl, sym, ap, subst, ◌∙◌, inl, inr, ⊎_elim}
use Rattle.md5.specs.Md5.{md5}
use Rattle.fsfs_base.specs.Paths.{Path}
use Rattle.fsfs_base.specs.declared.kind.Kind.{Kind}
use Rattle.fsfs_base.specs.declared.kind.Kind.TheVariants.{File, Dir}
use Rattle.fsfs_tree.specs.Nodes.{Content, Bytes, Closed, TreeFunction}
use Rattle.fsfs_tree.specs.Answers.{Found, Stands, Lacking, Blocked, found_at}
use Rattle.fsfs_revision.specs.Told.{RevisionBytes}
use Rattle.fsfs_revision.specs.Shows.Shown.{Shows}
use Rattle.fsfs_stands.specs.declared.look_fault.LookFault.{LookFault}
use Rattle.fsfs_stands.specs.declared.look_fault.LookFault.TheVariants as looks
use Rattle.fsfs_stands.specs.Texts.{Whole, Refused}
use Rattle.fsfs_stands.specs.ByTree.{IsContent, IsFileOf}
use Rattle.fsfs_stands.proofs.FileByTree.{files_by_tree}
use Rattle.fsfs_look.specs.declared.look_error.LookError.{LookError}
use Rattle.fsfs_look.specs.declared.look_error.LookError.TheVariants as errors
use Rattle.fsfs_revision.specs.declared.wrong.Wrong.{Wrong}
use Rattle.fsfs_revision.specs.declared.wrong.Wrong.TheVariants as wrongs
use Rattle.fsfs_revision.specs.declared.wrong.Refusal.{Refusal}
use Rattle.fsfs_revision.specs.declared.wrong.Refusal.TheVariants as refusals
use Rattle.fsfs_cli.specs.CommandFaults.{IsFromLook, fault_from_refusal, fault_from_wrong}
use Rattle.fsfs_cli.specs.declared.faults.fault.Fault.{Fault}
use Rattle.fsfs_cli.specs.declared.faults.fault.Fault.TheVariants.{Request, Memory}
use Rattle.fsfs_cli.specs.declared.faults.request_fault.RequestFault.TheVariants.{NotFound, NotDir, NotFile}
use Rattle.fsfs_script.specs.declared.job_lines.job.ReadJob.{ReadJob}
use Rattle.fsfs_jobs.specs.Serial.{IsReadOf, read_kind}
use Rattle.fsfs_jobs.specs.declared.answer.TextRead.{TextRead}
use Rattle.fsfs_jobs.specs.declared.answer.JobAnswer.{JobAnswer}
use Rattle.fsfs_jobs.specs.declared.answer.JobAnswer.TheVariants.{Read, Stopped}
use Rattle.fsfs_job_run.specs.TextReads.{TellsText, IsTextRead, IsFromLookError, IsNoBench, ReadsSo, ByTree, DiskFails, Wants}

module _ (job : ReadJob) (rev : ℕ) where
  -- ---- a text

  text_told : (text bytes : List ℕ) (read : TextRead) → text ≡ bytes → TellsText rev text read → (read.rev ≡ rev) × (read.size ≡ length bytes) × (read.md5.bytes ≡ md5 bytes)
  text_told text bytes read same tells = (tells.rev_is, tells.size_is ∙ ap length same, tells.md5_is ∙ ap md5 same)

  content_told : (kind : Kind) (content : Content) (text : List ℕ) (read : TextRead) → IsContent kind content text Whole → TellsText rev text read → read_kind job rev kind content (Read read)
  content_told Dir content text read is tells = absurd is
  content_told File (Bytes bytes) text read is tells = text_told text bytes read is tells
  content_told File (Closed r offset) text read is tells = absurd is

  found_told : (found : Found) (text : List ℕ) (read : TextRead) → IsFileOf job.path found text Whole → TellsText rev text read → IsReadOf job rev found (Read read)
  found_told (Stands node) text read is tells = content_told node.kind node.text text read is tells
  found_told (Lacking at) text read is tells = absurd is
  found_told (Blocked at) text read is tells = absurd is

  -- ---- or a fault

  stopped : (found : Found) (is fault : Fault) → IsReadOf job rev found (Stopped job.line is) → (fault ≡ is) ⊎ (fault ≡ Memory) → ReadsSo job rev found (Stopped job.line fault)
  stopped found is fault reads (inl same) = ByTree (Stopped job.line fault) (subst (λ (f : Fault). IsReadOf job rev found (Stopped job.line f)) (sym same) reads)
  stopped found is fault reads (inr none) = subst (λ (f : Fault). ReadsSo job rev found (Stopped job.line f)) (sym none) Wants

  content_refused : (kind : Kind) (content : Content) (why : LookFault) (fault : Fault) → (found : Found) → ((answer : JobAnswer) → read_kind job rev kind content answer → IsReadOf job rev found answer)
      → IsContent kind content [] (Refused why) → IsFromLook job.path why fault → ReadsSo job rev found (Stopped job.line fault)
  content_refused Dir content why fault found reads is from =
      stopped found (Request (NotFile job.path)) fault (reads (Stopped job.line (Request (NotFile job.path))) refl) (subst (λ (w : LookFault). IsFromLook job.path w fault) is.1 from)
  content_refused File (Bytes bytes) why fault found reads is from = absurd is
  content_refused File (Closed r offset) why fault found reads is from =
      let same = subst (λ (w : LookFault). IsFromLook job.path w fault) is.1 from in
      ByTree (Stopped job.line fault) (reads (Stopped job.line fault) (ap (λ (f : Fault). Stopped job.line f) same))

  lacking_refused : (at : Path) (why : LookFault) (fault : Fault) → IsFileOf job.path (Lacking at) [] (Refused why) → IsFromLook job.path why fault → ReadsSo job rev (Lacking at) (Stopped job.line fault)
  lacking_refused at (looks.NotFound names) fault is from =
      stopped (Lacking at) (Request (NotFound (take names job.path))) fault (ap (λ (p : Path). let f : Fault = Request (NotFound p) in Stopped job.line f) (sym is.1)) from
  lacking_refused at (looks.NotDir names) fault is from = absurd is.1
  lacking_refused at looks.NotFile fault is from = absurd is.1
  lacking_refused at (looks.Wrong w) fault is from = absurd is.1

  blocked_refused : (at : Path) (why : LookFault) (fault : Fault) → IsFileOf job.path (Blocked at) [] (Refused why) → IsFromLook job.path why fault → ReadsSo job rev (Blocked at) (Stopped job.line fault)
  blocked_refused at (looks.NotFound names) fault is from = absurd is.1
  blocked_refused at (looks.NotDir names) fault is from =
      stopped (Blocked at) (Request (NotDir (take names job.path))) fault (ap (λ (p : Path). let f : Fault = Request (NotDir p) in Stopped job.line f) (sym is.1)) from
  blocked_refused at looks.NotFile fault is from = absurd is.1
  blocked_refused at (looks.Wrong w) fault is from = absurd is.1

  found_refused : (found : Found) (why : LookFault) (fault : Fault) → IsFileOf job.path found [] (Refused why) → IsFromLook job.path why fault → ReadsSo job rev found (Stopped job.line fault)
  found_refused (Stands node) why fault is from = content_refused node.kind node.text why fault (Stands node) (λ answer h. h) is from
  found_refused (Lacking at) why fault is from = lacking_refused at why fault is from
  found_refused (Blocked at) why fault is from = blocked_refused at why fault is from

  module _ (look : RevisionBytes) (tree : TreeFunction) (shows : Shows look rev tree) where
    pub job_read : (read : TextRead) → IsTextRead look rev job.path (Ok read) → ReadsSo job rev (found_at tree job.path) (Read read)
    job_read read (text, file, tells) = ByTree (Read read) (found_told (found_at tree job.path) text read (files_by_tree look rev tree job.path shows text Whole file) tells)

    pub job_stopped : (e : LookError) (fault : Fault) → IsTextRead look rev job.path (Err e) → IsFromLookError job.path e fault → ReadsSo job rev (found_at tree job.path) (Stopped job.line fault)
    job_stopped (errors.Fault why) fault file from = found_refused (found_at tree job.path) why fault (files_by_tree look rev tree job.path shows [] (Refused why) file) from
    job_stopped errors.OutOfMemory fault file from = subst (λ (f : Fault). ReadsSo job rev (found_at tree job.path) (Stopped job.line f)) (sym from) Wants
    job_stopped errors.DiskFault fault file from = subst (λ (f : Fault). ReadsSo job rev (found_at tree job.path) (Stopped job.line f)) (sym from) DiskFails
    job_stopped errors.WriteFault fault file from = absurd file

-- ---- no reading has a bench

no_bench_refused : (line : ℕ) (why : Refusal) → IsNoBench (Stopped line (fault_from_refusal why))
no_bench_refused line (refusals.NoRev asked youngest) = tt
no_bench_refused line (refusals.Missing rev) = tt
no_bench_refused line (refusals.Small small) = tt

no_bench_wrong : (line : ℕ) (wrong : Wrong) → IsNoBench (Stopped line (fault_from_wrong wrong))
no_bench_wrong line (wrongs.Refused why) = no_bench_refused line why
no_bench_wrong line (wrongs.Damaged damage) = tt
no_bench_wrong line (wrongs.Delta at) = tt

no_bench_as : (line : ℕ) (one fault : Fault) → fault ≡ one → IsNoBench (Stopped line one) → IsNoBench (Stopped line fault)
no_bench_as line one fault is k = subst (λ f. IsNoBench (Stopped line f)) (sym is) k

no_bench_look : (line : ℕ) (path : Path) (why : LookFault) (fault : Fault) → IsFromLook path why fault → IsNoBench (Stopped line fault)
no_bench_look line path (looks.NotFound names) fault k = ⊎_elim (λ is. no_bench_as line _ fault is tt) (λ is. no_bench_as line _ fault is tt) k
no_bench_look line path (looks.NotDir names) fault k = ⊎_elim (λ is. no_bench_as line _ fault is tt) (λ is. no_bench_as line _ fault is tt) k
no_bench_look line path looks.NotFile fault k = ⊎_elim (λ is. no_bench_as line _ fault is tt) (λ is. no_bench_as line _ fault is tt) k
no_bench_look line path (looks.Wrong wrong) fault k = no_bench_as line _ fault k (no_bench_wrong line wrong)

pub no_bench : (line : ℕ) (path : Path) (error : LookError) (fault : Fault) → IsFromLookError path error fault → IsNoBench (Stopped line fault)
no_bench line path (errors.Fault why) fault k = no_bench_look line path why fault k
no_bench line path errors.OutOfMemory fault k = no_bench_as line _ fault k tt
no_bench line path errors.DiskFault fault k = no_bench_as line _ fault k tt
no_bench line path errors.WriteFault fault k = no_bench_as line _ fault k tt
