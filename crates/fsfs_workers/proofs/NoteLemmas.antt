-- What is noted of a job's transaction, and which it is.
use Rattle.std.proofs.Common.{◌≡◌, ◌<◌, ℕ, Bool, true, false, [], length, refl, sym, ap, subst, ◌∙◌, append-nil, arith}
use Rattle.std.specs.Prelude.{Option}
use Rattle.fsfs_base.specs.declared.fields.txn_name.TxnName.{TxnName}
use Rattle.fsfs_draft.specs.Drafts.{Folder}
use Rattle.fsfs_machine.specs.declared.machine.Txn.{Txn}
use Rattle.fsfs_turn.specs.Views.{View}
use Rattle.fsfs_job_run.specs.Pinned.{IsPinned}
use Rattle.fsfs_job_run.specs.Standing.{Standing}
use Rattle.fsfs_job_run.proofs.Pinning.{unpinned}
use Rattle.fsfs_script.specs.declared.job_lines.job.CommitJob.{CommitJob}
use Rattle.fsfs_job_run.specs.TxnStandings.{NotesOne}
use Rattle.fsfs_workers.specs.Working.{IsEditedNoted, IsEditedTxn}

module _ (knows : View → Type 0) (job : CommitJob) (last : ℕ) (name : TxnName) (base : ℕ) (settled : Folder) where
  pub edited_noted : (v : View) (x : Txn) → knows v → IsEditedTxn job last name base settled v x → (s : Standing) × IsEditedNoted knows job last name base settled s
  edited_noted v x known e = (record { txn = x; seen = v.seen }, record { view = v; known = known; seen = refl; txn = e })

  -- where one is noted, one view is known, and it stands for that one
  pub pick : (bound : Bool) (value : Option Standing) (v : View) (x : Txn) → (bound ≡ true → (a b : View) → knows a → knows b → b ≡ a) → knows v → IsEditedTxn job last name base settled v x → NotesOne bound value (λ s. IsEditedNoted knows job last name base settled s)
      → (z : Txn) × IsEditedTxn job last name base settled v z × IsPinned value v.seen z
  pick false value v x sole known e noted = (x, e, unpinned value v.seen x noted)
  pick true value v x sole known e noted =
      (noted.0.txn, txn, subst (λ (p : Option Standing). IsPinned p v.seen noted.0.txn) (sym noted.1) (refl, based, ([], sym seen ∙ sym (append-nil noted.0.seen))))
    where
      one : noted.2.view ≡ v
      one = sole refl v noted.2.view known noted.2.known

      txn : IsEditedTxn job last name base settled v noted.0.txn
      txn = subst (λ (w : View). IsEditedTxn job last name base settled w noted.0.txn) one noted.2.txn

      seen : noted.0.seen ≡ v.seen
      seen = noted.2.seen ∙ ap {A = View} (λ z. z.seen) one

      based : noted.0.txn.base < length noted.0.seen
      based = let long : length noted.0.seen ≡ length v.seen = ap length seen in omega (arith, txn.stands.on, txn.stands.based, long)
