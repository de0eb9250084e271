use Rattle.std.proofs.Common.{◌≡◌, true, false, nat_lt, length, sym, ◌∙◌, arith}
use Rattle.fsfs_look.proofs.RevpropsFileLemmas.{goes_on_no_more}
use Rattle.fsfs_look.proofs.revprops.reading.leave_form.Goals as goal
use Rattle.fsfs_look.proofs.revprops.reading.leave_form.Goals.{in-Err-Fault, in_default, in_default-2}

pub returns : goal.returns
returns c =
    elim c.match-read_hash.branch [
      | in-Err-Fault w ↦ (λ is goes.
          let answer = rw w.in-Err-Fault.field-0-is at w.in-Err-Fault.ensures in
          let less : nat_lt w.in-Err-Fault.fault.at (length c.args.bytes.now) ≡ true = sym w.result-is ∙ is in
          goes_on_no_more c.args.bytes.now w.in-Err-Fault.fault.at answer.fault (grind (arith, less)) goes)
      | in_default w ↦ (λ is goes. let bad : false ≡ true = sym w.result-is ∙ is in cc)
      | in_default-2 w ↦ (λ is goes. let bad : false ≡ true = sym w.result-is ∙ is in cc)
    ]
