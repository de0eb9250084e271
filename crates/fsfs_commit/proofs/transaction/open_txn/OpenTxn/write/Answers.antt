use Rattle.std.proofs.Common.{◌∙◌, ◌++◌, sym, ap, subst}
use Rattle.std.specs.Prelude.{IsSome}
use Rattle.fsfs_txn_nodes.specs.Memory.Lists.{files_of}
use Rattle.fsfs_txn_nodes.specs.Memory.Views.{folder_of}
use Rattle.fsfs_commit.proofs.Merging.{some_failed}
use Rattle.fsfs_commit.proofs.DraftWriting.{written_behind, held_text}
use Rattle.fsfs_commit.proofs.transaction.open_txn.OpenTxn.write.Goals as goal

pub returns-in-Ok-clause-held : goal.returns-in-Ok-clause-held
returns-in-Ok-clause-held g c = λ bytes held.
    let contents = g.B.Bench.contents in
    let own = c.args.self.txn.own in
    let parts = c.into_parts-bench.ensures in
    let proto = (folder_of (files_of own.settled) own.settled_next own.items.items (contents own.bench) own.proto).proto in
    let bench = parts.bench ∙ ap (λ o. o.bench) c.into_own.ensures in
    let same = held_text (λ t. t.items) c.args.self.text c.in-Some.text held.0 c.in-Some.is held.2 in
    written_behind (contents c.into_parts-bench.result.0) (contents c.end_file.new.bench) c.into_parts-bench.result.1 c.deref.result.now proto bytes
    (subst (λ b. IsSome (contents b)) (sym bench) held.1) c.in-Ok.ensures.written
    (parts.proto ∙ ap (λ o. (folder_of (files_of o.settled) o.settled_next o.items.items (contents o.bench) o.proto).proto) c.into_own.ensures)
    (held.3 ∙ ap (λ l. proto ++ l) (sym same ∙ sym c.deref.ensures.value))

pub returns-clause-found : goal.returns-clause-found
returns-clause-found g c = some_failed _ _ c.in-Err.ensures.cause.failed

pub returns-clause-blamed : goal.returns-clause-blamed
returns-clause-blamed g c = λ made. some_failed _ _ c.in-Err.ensures.cause.failed
