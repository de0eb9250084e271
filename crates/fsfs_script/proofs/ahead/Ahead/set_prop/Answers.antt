use Rattle.std.proofs.Common.{ℕ, List, Some, Ok, refl}
use Rattle.std.proofs.lemmas.Result.{err_from_is_err_and}
use Rattle.std.specs.declared.vec.Vec.{Vec}
use Rattle.std.specs.declared.alloc.Global.{Global}
use Rattle.fsfs_script.specs.declared.job_lines.edit.Edit.TheVariants as edits
use Rattle.fsfs_script.specs.Places.{place_of}
use Rattle.fsfs_script.specs.Reading.{text_at}
use Rattle.fsfs_script.specs.declared.commands.Command.TheVariants as commands
use Rattle.fsfs_script.specs.declared.commands.Next.{Next}
use Rattle.fsfs_script.specs.declared.commands.Next.TheVariants as next
use Rattle.fsfs_script.proofs.ReadLemmas.{reads_stop, reads_at_once}
use Rattle.fsfs_script.proofs.ahead.Ahead.set_prop.Goals as goal

abbrev items : Vec ℕ Global → List ℕ
items v = v.items

abbrev same : List ℕ → List ℕ
same x = x

abbrev last : Next → Next
last x = x

pub returns-in_err-value-clause-given : goal.returns-in_err-value-clause-given
returns-in_err-value-clause-given g c =
    let p = err_from_is_err_and c.from_residual.result c.from_residual.ensures.1 in
    rw (p.1, p.2) (reads_stop same last (text_at c.args.count) (λ t. Ok ((λ (t : List ℕ). next.Command (commands.Edit (edits.Prop (record { path = c.args.path; name = c.args.name; value = Some t })))) t.0, t.1)) (place_of (g.S.Source.remaining c.args.source.now) c.args.self.now) (place_of (g.S.Source.remaining c.take_text.new.source) c.take_text.new.self) _ _ c.in_err-value.ensures.given)

pub returns-clause-given : goal.returns-clause-given
returns-clause-given g c = reads_at_once same last (text_at c.args.count) (λ (t : List ℕ). next.Command (commands.Edit (edits.Prop (record { path = c.args.path; name = c.args.name; value = Some t })))) (place_of (g.S.Source.remaining c.args.source.now) c.args.self.now) (place_of (g.S.Source.remaining c.take_text.new.source) c.take_text.new.self) c.in_ok-value.value _ refl c.in_ok-value.ensures.given
