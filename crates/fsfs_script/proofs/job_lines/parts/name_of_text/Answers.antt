use Rattle.std.proofs.Common.{ℕ, List, Some, ap, subst, ◌∙◌}
use Rattle.fsfs_base.specs.Fields.PropNames.{IsPropName}
use Rattle.fsfs_script.proofs.NameReadings.{name_again, name_none}
use Rattle.fsfs_script.proofs.job_lines.parts.name_of_text.Goals as goal

pub returns-in-Ok : goal.returns-in-Ok
returns-in-Ok c = ap (λ (t : List ℕ). Some t) c.in-Ok.ensures.name ∙ name_again c.args.text.now (subst IsPropName (c.as_str-text.ensures.text ∙ c.in-Ok.ensures.name) c.as_str-text.ensures.name)

pub returns-in-Err-Bad : goal.returns-in-Err-Bad
returns-in-Err-Bad c = name_none c.args.text.now (λ is. let e = rw c.in-Err-Bad.field-0-is at c.in-Err-Bad.ensures.only is in absurd cc)
