use Rattle.std.proofs.Common.{ℕ, List, length, Result, ap, ◌∙◌, Some}
use Rattle.fsfs_revision.specs.declared.wrong.Refusal.{Refusal}
use Rattle.fsfs_dag.proofs.Windows.{window_read}
use Rattle.fsfs_dag.proofs.reading.window.Goals as goal

pub returns-clause-told : goal.returns-clause-told
returns-clause-told g c = λ look told.
    window_read look c.args.at.now (length c.args.buffer.now) c.window.new.buffer c.window.result (λ bytes e. c.window.ensures.bytes bytes (told ∙ ap (λ (r : Result (List ℕ) Refusal). Some r) e)) (λ why e. c.window.ensures.refused why (told ∙ ap (λ (r : Result (List ℕ) Refusal). Some r) e))
