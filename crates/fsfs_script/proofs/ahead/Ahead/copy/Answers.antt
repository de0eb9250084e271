use Rattle.std.proofs.Common.{ℕ, List, Ok, refl}
use Rattle.std.proofs.lemmas.Result.{err_from_is_err_and}
use Rattle.std.specs.declared.vec.Vec.{Vec}
use Rattle.std.specs.declared.alloc.Global.{Global}
use Rattle.fsfs_base.specs.Paths.{Path}
use Rattle.fsfs_script.specs.declared.job_lines.edit.Edit.TheVariants as edits
use Rattle.fsfs_script.specs.Places.{place_of}
use Rattle.fsfs_script.specs.Commands.{to_at}
use Rattle.fsfs_script.specs.declared.commands.Command.TheVariants as commands
use Rattle.fsfs_script.specs.declared.commands.Next.{Next}
use Rattle.fsfs_script.specs.declared.commands.Next.TheVariants as next
use Rattle.fsfs_script.proofs.ReadLemmas.{reads_stop, reads_at_once}
use Rattle.fsfs_script.proofs.ahead.Ahead.copy.Goals as goal

abbrev items : Vec ℕ Global → List ℕ
items v = v.items

abbrev same : Path → Path
same x = x

abbrev last : Next → Next
last x = x

pub returns-in_err-to-clause-given : goal.returns-in_err-to-clause-given
returns-in_err-to-clause-given g c =
    let p = err_from_is_err_and c.from_residual.result c.from_residual.ensures.1 in
    rw (p.1, p.2) (reads_stop same last to_at (λ t. Ok ((λ (t : Path). next.Command (commands.Edit (edits.Copy (record { rev = c.args.rev; from = c.args.from; to = t })))) t.0, t.1)) (place_of (g.S.Source.remaining c.args.source.now) c.args.self.now) (place_of (g.S.Source.remaining c.to.new.source) c.to.new.self) _ _ c.in_err-to.ensures.given)

pub returns-clause-given : goal.returns-clause-given
returns-clause-given g c = reads_at_once same last to_at (λ (t : Path). next.Command (commands.Edit (edits.Copy (record { rev = c.args.rev; from = c.args.from; to = t })))) (place_of (g.S.Source.remaining c.args.source.now) c.args.self.now) (place_of (g.S.Source.remaining c.to.new.source) c.to.new.self) c.in_ok-to.to _ refl c.in_ok-to.ensures.given
