use Rattle.std.proofs.Common.{◌∙◌, ◌++◌, ◌-◌, sym, ap, map, take, drop, length, Global, arith}
use Rattle.std.specs.String.{string_bytes}
use Rattle.std.proofs.lemmas.List.{map-append, drop-map, take_all, length-drop}
use Rattle.fsfs_base.proofs.ClonedLists.{map_cloned}
use Rattle.fsfs_base.proofs.paths.path.FsPath.moved.Goals as goal

pub returns : goal.returns
returns c =
    let added = c.in_ok-extend_from_slice.ensures.items in
    let rest = drop c.args.count c.deref.result.now in
    ap (map (string_bytes {Z = Global})) added.1
    ∙ map-append (string_bytes {Z = Global}) c.in_ok-names.names.items added.0
    ∙ ap (λ xs. xs ++ map (string_bytes {Z = Global}) added.0) (map_cloned (string_bytes {Z = Global}) c.front.inside.names.items c.in_ok-names.names.items c.in_ok-names.ensures.cases.0 ∙ c.front.view_is)
    ∙ ap (λ xs. c.args.front.now ++ xs) (
    map_cloned (string_bytes {Z = Global}) (take (length c.deref.result.now - c.args.count) rest) added.0 added.2
    ∙ ap (map (string_bytes {Z = Global})) (take_all (length c.deref.result.now - c.args.count) rest (omega (arith, length-drop c.args.count c.deref.result.now)))
    ∙ sym (drop-map (string_bytes {Z = Global}) c.args.count c.deref.result.now)
    ∙ ap (λ xs. drop c.args.count (map (string_bytes {Z = Global}) xs)) c.deref.ensures.value
    ∙ ap (drop c.args.count) c.self.view_is)
