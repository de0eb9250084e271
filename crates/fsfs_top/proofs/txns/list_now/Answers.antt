use Rattle.std.proofs.Common.{inl, inr, refl, map, ap, subst, List}
use Rattle.std.specs.Prelude.{Err}
use Rattle.fsfs_disk.specs.declared.disk.ListFault.{ListFault}
use Rattle.fsfs_disk.specs.Transactions.Txns.{text_of}
use Rattle.fsfs_base.specs.declared.fields.txn_name.TxnName.{TxnName}
use Rattle.fsfs_top.specs.Command.{fault_of}
use Rattle.fsfs_top.specs.Looks.{PrintsLine}
use Rattle.fsfs_top.specs.Scenes.{sink_scene}
use Rattle.fsfs_top.specs.TxnAnswers.{names_text}
use Rattle.fsfs_top.proofs.txns.list_now.Goals as goal

pub returns-in-Ok-clause-listed : goal.returns-in-Ok-clause-listed
returns-in-Ok-clause-listed g c =
    let old = sink_scene g.O.Sink c.args.out.now in
    let new = sink_scene g.O.Sink c.print_txns.new.sink in
    inr (inr (
      map text_of c.in-Ok.names.items,
      c.in-Ok.ensures.names,
      subst (λ (l : List TxnName). PrintsLine (names_text (map text_of l)) old new (fault_of c.line_fault.result)) c.deref.ensures.value
          (c.line_fault.ensures (names_text (map text_of c.deref.result.now)) old new c.print_txns.ensures.printed),
    ))

pub returns-in-Err-Failed-clause-listed : goal.returns-in-Err-Failed-clause-listed
returns-in-Err-Failed-clause-listed g c = inl (refl, c.in-Err-Failed.ensures.failed (ap (λ (e : ListFault). Err e) c.in-Err-Failed.field-0-is), refl)
