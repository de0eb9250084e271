use Rattle.std.proofs.Common.{◌≡◌, ◌∙◌, ◌++◌, ◌∷◌, [], List, map, sym, ap, subst, append_assoc, append-nil, rules}
use Rattle.std.specs.String.{string_bytes}
use Rattle.std.specs.Map.Iter.{deref_pair}
use Rattle.std.proofs.lemmas.Map.Iter.{rest_more, rest_all}
use Rattle.fsfs_base.specs.Paths.{PathName}
use Rattle.fsfs_merge.specs.declared.clash.walk.Pending.{Pending}
use Rattle.fsfs_merge.specs.Clash.Lists.{three_in}
use Rattle.fsfs_merge.specs.Clash.Walks.{if_changed, changed}
use Rattle.fsfs_merge.proofs.ListLemmas.{Named, name_of, changed_push}
use Rattle.fsfs_merge.proofs.clash.walk.push_changed.Goals as goal

pub loop-name-init : goal.loop-name-init
loop-name-init c = ([], ap (map name_of) (search rules), sym (append-nil c.args.todo.now.items))

pub loop-name-preserved : goal.loop-name-preserved
loop-name-preserved c =
    let so = c.loop-name.invariant in
    let name = string_bytes c.in-Some.name.now in
    let left = rest_more deref_pair c.loop-name.name-iterator c.next.new.self c.next.result _ c.in-Some.is c.next.ensures.steps in
    let put = subst (λ (n : PathName). c.push_if_changed.new.todo.items ≡ c.loop-name.todo.items ++ if_changed c.args.which (c.args.path.now ++ n ∷ []) (three_in c.args.sides.now n)) c.as_str.ensures.value c.in_ok-push_if_changed.ensures in (
      so.0 ++ name ∷ [],
      so.1 ∙ ap (λ (t : List Named). so.0 ++ map name_of t) left ∙ sym (append_assoc so.0 (name ∷ []) (map name_of c.next.new.self)),
      put ∙ ap (λ (l : List Pending). l ++ if_changed c.args.which (c.args.path.now ++ name ∷ []) (three_in c.args.sides.now name)) so.2
          ∙ append_assoc c.args.todo.now.items (changed c.args.which c.args.path.now c.args.sides.now so.0) (if_changed c.args.which (c.args.path.now ++ name ∷ []) (three_in c.args.sides.now name))
          ∙ ap (λ (l : List Pending). c.args.todo.now.items ++ l) (sym (changed_push c.args.which c.args.path.now c.args.sides.now so.0 name)),
    )

pub returns : goal.returns
returns c =
    let so = c.loop-name.invariant in
    let none = rest_all deref_pair c.loop-name.name-iterator c.next.new.self c.next.result c.in-None.is c.next.ensures.steps in
    so.2 ∙ ap (λ (t : List PathName). c.args.todo.now.items ++ changed c.args.which c.args.path.now c.args.sides.now t) (sym (so.1 ∙ ap (λ (t : List Named). so.0 ++ map name_of t) none ∙ append-nil so.0))
