use Rattle.std.proofs.Common.{false, sym, ◌∙◌}
use Rattle.std.specs.Prelude.{option_map}
use Rattle.std.specs.Borrow.{Bor}
use Rattle.fsfs_dag.specs.declared.directory.DirEntry.{DirEntry}
use Rattle.fsfs_dag.specs.Views.{entry_value}
use Rattle.fsfs_verify.proofs.EdgeFound.{none_from, edge_found}
use Rattle.fsfs_verify.proofs.edges.check_edge.Goals as goal

pub returns-clause-told : goal.returns-clause-told
returns-clause-told g c = λ look begun copied drawn knows own lasting precedes held.
    let before = option_map (λ (e : Bor DirEntry). entry_value e.now) c.args.before in
    let none = none_from c.args.node.now.node.copy_from (sym c.is_some.ensures ∙ c.if-is_some.false) in
    let fit = c.fits_edge.ensures.yes look precedes c.if-not-fits_edge.false in
    edge_found look c.args.rev begun copied drawn c.check_copy_part.new.parts c.args.dir.now.node c.args.node.now.node before none fit c.check_copy_part.result
    (c.check_copy_part.ensures.told look begun copied drawn knows own lasting precedes held)
