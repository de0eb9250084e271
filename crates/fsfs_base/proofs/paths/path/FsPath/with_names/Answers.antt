use Rattle.std.proofs.Common.{◌∙◌, sym, Global}
use Rattle.std.proofs.lemmas.List.{append-nil}
use Rattle.std.specs.String.{string_bytes}
use Rattle.fsfs_base.proofs.ClonedLists.{map_cloned}
use Rattle.fsfs_base.proofs.paths.path.FsPath.with_names.Goals as goal

pub loop-name-init : goal.loop-name-init
loop-name-init c = map_cloned (string_bytes {Z = Global}) c.self.inside.names.items c.in_ok-all.all.items c.in_ok-all.ensures.cases.0 ∙ c.self.view_is ∙ sym (append-nil c.args.self.now)
