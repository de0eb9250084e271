use Rattle.std.proofs.Common.{sym, ◌∙◌}
use Rattle.fsfs_pack.proofs.Ending.{going_folder}
use Rattle.fsfs_pack.proofs.removing.remove_old.Goals as goal

pub drop_folder-requires : goal.drop_folder-requires
drop_folder-requires g c = record {
  due = λ bound.
      let w = c.requires.due (sym c.remove_files-left.ensures.duty ∙ bound) in
      let m = c.remove_files-left.ensures.turned w.0 w.1 w.2 w.3 w.4 w.5 w.6 in
      (m.0, m.1, m.2.section);
}

pub returns-clause-turned : goal.returns-clause-turned
returns-clause-turned g c =
    going_folder (g.T.Turns.knows c.args.turns.now) (g.T.Turns.knows c.remove_files-left.new.turns) (g.T.Turns.knows c.drop_folder.new.self) c.args.shard.now c.drop_folder.result c.remove_files-left.ensures.turned c.drop_folder.ensures.turned
