use Rattle.std.proofs.Common.{◌∙◌, sym, ap, map, take, Global}
use Rattle.std.specs.String.{string_bytes}
use Rattle.std.proofs.lemmas.List.{take-map}
use Rattle.fsfs_base.proofs.ClonedLists.{map_cloned}
use Rattle.fsfs_base.proofs.paths.path.FsPath.prefix.Goals as goal

pub returns : goal.returns
returns c =
    map_cloned (string_bytes {Z = Global}) (take c.args.count c.deref.result.now) c.in_ok-to_vec.field-0.items c.in_ok-to_vec.ensures.ok
    ∙ sym (take-map (string_bytes {Z = Global}) c.args.count c.deref.result.now)
    ∙ ap (λ xs. take c.args.count (map (string_bytes {Z = Global}) xs)) c.deref.ensures.value
    ∙ ap (take c.args.count) c.self.view_is
