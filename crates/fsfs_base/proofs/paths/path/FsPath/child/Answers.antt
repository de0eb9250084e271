use Rattle.std.proofs.Common.{◌∙◌, ap, map, ◌++◌, ◌∷◌, [], Global}
use Rattle.std.specs.String.{string_bytes}
use Rattle.std.proofs.lemmas.List.{map-append}
use Rattle.fsfs_base.proofs.ClonedLists.{map_cloned}
use Rattle.fsfs_base.proofs.paths.path.FsPath.child.Goals as goal

pub returns : goal.returns
returns c =
    ap (map (string_bytes {Z = Global})) c.in_ok-push.ensures.items
    ∙ map-append (string_bytes {Z = Global}) c.in_ok-names.names.items (c.in_ok-from_str.field-0 ∷ [])
    ∙ (λ i. map_cloned (string_bytes {Z = Global}) c.self.inside.names.items c.in_ok-names.names.items c.in_ok-names.ensures.cases.0 i ++ c.in_ok-from_str.ensures.ok i ∷ [])
    ∙ ap (λ p. p ++ c.args.name.now ∷ []) c.self.view_is
