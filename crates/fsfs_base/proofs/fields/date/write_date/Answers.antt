use Rattle.std.proofs.Common.{◌≡◌, ◌∙◌, ◌*◌, ◌*ℤ◌, ap, sym, pos, subst, arith, ℕ, to_z, Bool, Option, Some}
use Rattle.std.proofs.lemmas.Result.{IfOk-weaker}
use Rattle.std.proofs.lemmas.Int.{to_z_pos}
use Rattle.std.specs.Int.{w128}
use Rattle.jiff_core.specs.declared.timestamp.Timestamp.{Timestamp}
use Rattle.fsfs_base.specs.Fields.Dates.{IsDateAt}
use Rattle.fsfs_base.proofs.DateTexts.{printed_date}
use Rattle.fsfs_base.proofs.fields.date.write_date.Goals as goal

pub returns : goal.returns
returns c =
    let small : to_z w128 (c.args.micros * 1_000) ≡ pos c.args.micros *ℤ pos 1_000 = to_z_pos w128 (c.args.micros * 1_000) (omega arith) in
    let moment = c.in-Ok.ensures.value ∙ small in
    let options = c.precision-printer.ensures ∙ ap (λ (o : Bool × ℕ × Option ℕ). (o.0, o.1, Some 6)) c.new.ensures in
    let date = printed_date c.precision-printer.result c.in-Ok.moment c.args.micros c.timestamp_text-text.result.bytes options moment c.timestamp_text-text.ensures in
    IfOk-weaker c.from_slice.result _ _ (λ v e. subst (IsDateAt c.args.micros) (sym (e ∙ c.as_bytes.ensures.value ∙ c.as_str.ensures.value)) date) c.from_slice.ensures.items
