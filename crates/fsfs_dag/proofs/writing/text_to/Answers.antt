use Rattle.std.proofs.Common.{ℕ, List, Err, refl}
use Rattle.std.specs.Prelude.{Option, Result}
use Rattle.std.specs.declared.vec.Vec.{Vec}
use Rattle.std.specs.declared.alloc.Global.{Global}
use Rattle.fsfs_revision.specs.declared.wrong.Wrong.{Wrong}
use Rattle.fsfs_revision.specs.declared.wrong.ReadError.{ReadError}
use Rattle.fsfs_revision.specs.declared.wrong.ReadError.TheVariants as errors
use Rattle.fsfs_revision.specs.Damage.Readings.{Answers}
use Rattle.fsfs_revision.specs.Shows.Reading.{TextOf}
use Rattle.fsfs_dag.specs.declared.writing.TextError.TheVariants.{Unread}
use Rattle.fsfs_dag.specs.Writing.{Writes}
use Rattle.fsfs_dag.proofs.writing.text_to.Goals as goal

-- where a text isn't had, nothing is written
unread : (old : Option (List ℕ)) (R : Result (List ℕ) Wrong → Type 0) (e : ReadError) → Answers (λ (v : Vec ℕ Global). v.items) R (Err e) → Writes old old R (Err (Unread e))
unread old R (errors.Wrong w) h = (h, refl)
unread old R errors.OutOfMemory h = refl
unread old R errors.DiskFault h = refl

pub returns-in-Err-clause-told : goal.returns-in-Err-clause-told
returns-in-Err-clause-told g c = λ look knows. unread _ (TextOf look c.args.file.now.node) c.in-Err.error (c.in-Err.ensures.told look knows)

pub returns-in-Ok-print-clause-told : goal.returns-in-Ok-print-clause-told
returns-in-Ok-print-clause-told g c = λ look knows. (c.in-Ok.text.items, c.in-Ok.ensures.told look knows, rw c.deref.ensures.value at c.in-Ok-print.ensures.printed.whole)

pub returns-clause-told : goal.returns-clause-told
returns-clause-told g c = λ look knows. (c.in-Ok.text.items, c.in-Ok.ensures.told look knows, rw c.deref.ensures.value at c.in-Err-print.ensures.printed.part)
