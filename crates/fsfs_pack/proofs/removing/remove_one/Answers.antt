use Rattle.std.proofs.Common.{ap, ◌∙◌}
use Rattle.fsfs_layout.specs.FileNames.{file_name}
use Rattle.fsfs_layout.specs.declared.repository_file.RepositoryFile.TheVariants as file
use Rattle.fsfs_pack.proofs.Ending.{removed_packed}
use Rattle.fsfs_pack.proofs.removing.remove_one.Goals as goal

pub remove-requires : goal.remove-requires
remove-requires g c = record { due = λ bound. let w = c.requires.due bound in (w.0, c.args.rev, w.1, w.2, c.name.ensures ∙ ap (λ k. file_name k (file.Revision c.args.rev)) w.3) }

pub returns-in-Ok-clause-turned : goal.returns-in-Ok-clause-turned
returns-in-Ok-clause-turned g c = λ v f known may firm same.
    let r = c.remove.ensures.turned v c.args.rev known may (c.name.ensures ∙ ap (λ k. file_name k (file.Revision c.args.rev)) same) in
    (r.0, r.2, removed_packed v f may.inside firm c.remove.result c.args.rev r.1 r.0 r.4)

pub returns-in-Err-clause-turned : goal.returns-in-Err-clause-turned
returns-in-Err-clause-turned g c = λ v f known may firm same.
    let r = c.remove.ensures.turned v c.args.rev known may (c.name.ensures ∙ ap (λ k. file_name k (file.Revision c.args.rev)) same) in
    (r.0, r.2, removed_packed v f may.inside firm c.remove.result c.args.rev r.1 r.0 r.4)
