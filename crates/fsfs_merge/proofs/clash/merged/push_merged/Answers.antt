use Rattle.std.proofs.Common.{◌≡◌, ◌∙◌, ◌++◌, ◌∷◌, [], List, sym, ap, subst, append_assoc, append-nil, rules}
use Rattle.std.specs.String.{string_bytes}
use Rattle.std.specs.Map.Iter.{deref_pair}
use Rattle.std.proofs.lemmas.Map.Iter.{rest_more, rest_all}
use Rattle.fsfs_base.specs.Paths.{PathName}
use Rattle.fsfs_revision.specs.Shows.Reading.{DirEntry}
use Rattle.fsfs_dag.specs.Views.{entry_values}
use Rattle.fsfs_merge.specs.Clash.Lists.{three_in}
use Rattle.fsfs_merge.specs.Clash.Merging.{if_merged, merged_of}
use Rattle.fsfs_merge.proofs.ListLemmas.{Named}
use Rattle.fsfs_merge.proofs.MergedLemmas.{merged_push}
use Rattle.fsfs_merge.proofs.clash.merged.push_merged.Goals as goal

pub loop-name-init : goal.loop-name-init
loop-name-init c = ([], search rules, sym (append-nil (entry_values c.args.all.now.items)))

pub loop-name-preserved : goal.loop-name-preserved
loop-name-preserved c =
    let so = c.loop-name.invariant in
    let side = c.args.side in
    let sides = c.args.sides.now in
    let e : Named = (c.in-Some.name.now, c.in-Some.target.now) in
    let left = rest_more deref_pair c.loop-name.name-iterator c.next.new.self c.next.result _ c.in-Some.is c.next.ensures.steps in
    let put = subst (λ (n : PathName). entry_values c.push_if_merged.new.all.items ≡ entry_values c.loop-name.all.items ++ if_merged side n e.1 (three_in sides n)) c.as_str.ensures.value c.in_ok-push_if_merged.ensures in (
      so.0 ++ e ∷ [],
      so.1 ∙ ap (λ (t : List Named). so.0 ++ t) left ∙ sym (append_assoc so.0 (e ∷ []) c.next.new.self),
      put ∙ ap (λ (l : List DirEntry). l ++ if_merged side (string_bytes e.0) e.1 (three_in sides (string_bytes e.0))) so.2
          ∙ append_assoc (entry_values c.args.all.now.items) (merged_of side sides so.0) (if_merged side (string_bytes e.0) e.1 (three_in sides (string_bytes e.0)))
          ∙ ap (λ (l : List DirEntry). entry_values c.args.all.now.items ++ l) (sym (merged_push side sides so.0 e)),
    )

pub returns : goal.returns
returns c =
    let so = c.loop-name.invariant in
    let none = rest_all deref_pair c.loop-name.name-iterator c.next.new.self c.next.result c.in-None.is c.next.ensures.steps in
    so.2 ∙ ap (λ (t : List Named). entry_values c.args.all.now.items ++ merged_of c.args.side c.args.sides.now t) (sym (so.1 ∙ ap (λ (t : List Named). so.0 ++ t) none ∙ append-nil so.0))
