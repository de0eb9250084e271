use Rattle.std.proofs.Common.{List, ℕ}
use Rattle.fsfs_base.proofs.Readers.{appends_then, appends_mapped}
use Rattle.fsfs_layout.proofs.ManyLoops.{children_put}
use Rattle.fsfs_layout.proofs.hash.writing.add_entry.Goals as goal

pub returns-clause-entry : goal.returns-clause-entry
returns-clause-entry c = appends_then c.in_ok-put_field.ensures (appends_mapped (λ (v : List ℕ). (c.args.name.now, v)) c.in_ok-put_field-2.ensures)

pub returns-clause-children : goal.returns-clause-children
returns-clause-children c = λ pairs w. children_put _ _ c.args.name.now c.args.value.now pairs w
    (appends_then c.in_ok-put_field.ensures (appends_mapped (λ (v : List ℕ). (c.args.name.now, v)) c.in_ok-put_field-2.ensures))
