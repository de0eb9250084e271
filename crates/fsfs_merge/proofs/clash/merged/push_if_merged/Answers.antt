use Rattle.std.proofs.Common.{◌∙◌, ◌++◌, ◌∷◌, [], List, sym, ap}
use Rattle.fsfs_base.specs.Paths.{PathName}
use Rattle.fsfs_dag.specs.declared.directory.DirEntry.{DirEntry as PlacedEntry}
use Rattle.fsfs_dag.specs.Views.{entry_values}
use Rattle.fsfs_merge.specs.Clash.Merging.{target_entry}
use Rattle.fsfs_merge.specs.Clash.Threes.{is_taken}
use Rattle.fsfs_merge.proofs.MergedLemmas.{none_taken, one_taken, values_push}
use Rattle.fsfs_merge.proofs.clash.merged.push_if_merged.Goals as goal

pub returns-then-not-is_taken : goal.returns-then-not-is_taken
returns-then-not-is_taken c = none_taken c.args.side _ _ _ _ (ap (is_taken c.args.side) (sym c.three-three.ensures) ∙ sym c.if-not-is_taken.ensures)

pub returns : goal.returns
returns c =
    ap (λ (es : List PlacedEntry). entry_values es) c.in_ok-push.ensures.items ∙ values_push c.args.all.now.items _
    ∙ ap (λ (n : PathName). entry_values c.args.all.now.items ++ target_entry n c.args.target.now ∷ []) c.in_ok-name.ensures.ok
    ∙ one_taken c.args.side _ _ _ _ (ap (is_taken c.args.side) (sym c.three-three.ensures) ∙ sym c.if-not-is_taken.ensures)
