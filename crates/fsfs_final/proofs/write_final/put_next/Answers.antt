use Rattle.std.proofs.Common.{◌∙◌, Bool, Some, sym, ap}
use Rattle.std.proofs.lemmas.Result.{err_from_is_err_and}
use Rattle.std.specs.Prelude.{if◌then◌else◌}
use Rattle.std.specs.Ordering.{is_eq}
use Rattle.fsfs_base.specs.Paths.{Path, path_cmp, paths_tie}
use Rattle.fsfs_final.specs.Pieces.Naming.{ids_of}
use Rattle.fsfs_final.proofs.write_final.put_next.Goals as goal

pub returns-clause-put : goal.returns-clause-put
returns-clause-put c = record {
  list = c.in_ok-text.ensures.list;
  done = c.in_ok-done.done;
  within = c.in_ok-check_node.ensures.within;
  listed = c.in_ok-text.ensures.listed;
  put = c.in_ok-done.ensures c.in_ok-text.ensures.list c.in_ok-text.ensures.texts;
  noted = λ q.
      c.in_ok-insert.ensures.updates.0 q
      ∙ ap (λ (p : Path). if is_eq (path_cmp p q) then Some c.in_ok-done.done.id else ids_of c.args.ids.now q) c.in_ok-path.ensures.cases
      ∙ ap (λ (b : Bool). if b then Some c.in_ok-done.done.id else ids_of c.args.ids.now q) (sym (paths_tie c.args.kept.now.node.created_path q));
}

pub returns-in_err-check_node-clause-past : goal.returns-in_err-check_node-clause-past
returns-in_err-check_node-clause-past c =
    let r = err_from_is_err_and c.from_residual.result c.from_residual.ensures.1 in
    rw (r.1, r.2) c.in_err-check_node.ensures.past
