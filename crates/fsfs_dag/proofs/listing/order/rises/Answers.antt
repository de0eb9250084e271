use Rattle.std.proofs.Common.{◌≡◌, ◌+◌, ◌∙◌, [], ◌∷◌, ◌++◌, take, ap, sym, subst, List}
use Rattle.std.specs.String.{string_bytes}
use Rattle.std.specs.declared.cmp.Ordering.TheVariants.{Less}
use Rattle.std.specs.Ordering.{nat_cmp}
use Rattle.std.specs.Cmp.Lexicographic.{slice_cmp}
use Rattle.std.proofs.lemmas.List.{map_push, take_all}
use Rattle.fsfs_base.specs.Paths.{PathName}
use Rattle.fsfs_layout.proofs.Rising.{Rise, rises_none, rises_more}
use Rattle.fsfs_revision.specs.Shows.Reading.{DirEntry as EntryValue}
use Rattle.fsfs_dag.specs.declared.directory.DirEntry.{DirEntry}
use Rattle.fsfs_dag.specs.Listing.Lists.{name_keys, NamesRise}
use Rattle.fsfs_dag.specs.Views.{entry_value, entry_values}
use Rattle.fsfs_dag.proofs.EntryLists.{taken_more}
use Rattle.fsfs_dag.proofs.listing.order.rises.Goals as goal

pub loop-entry-init : goal.loop-entry-init
loop-entry-init c = rises_none _

pub loop-entry-preserved : goal.loop-entry-preserved
loop-entry-preserved c =
    let es = c.args.entries.now in
    let i = c.loop-entry.entry-index in
    let e = c.entry-item.result in
    let name : c.as_bytes-name.result.now ≡ string_bytes e.name = c.as_bytes-name.ensures.value in
    let less : slice_cmp nat_cmp c.loop-entry.last.now (string_bytes e.name) ≡ Less = ap (λ (n : PathName). slice_cmp nat_cmp c.loop-entry.last.now n) (sym name) ∙ sym c.cmp.ensures ∙ c.in-Less.is in
    let more : name_keys (entry_values (take (i + 1) es)) ≡ name_keys (entry_values (take i es)) ++ (string_bytes e.name, []) ∷ [] =
    ap name_keys (taken_more es i e c.loop-entry-test.true c.entry-item.is) ∙ map_push (λ (x : EntryValue). (x.name, [])) (entry_values (take i es)) (entry_value e) in
    let rise = subst (λ (ps : List (PathName × PathName)). Rise (string_bytes e.name) ps) (sym more) (rises_more c.loop-entry.last.now (name_keys (entry_values (take i es))) (string_bytes e.name, []) c.loop-entry.invariant less) in
    subst (λ (n : PathName). Rise n (name_keys (entry_values (take (i + 1) es)))) (sym name) rise

pub returns : goal.returns
returns c = λ yes. subst (λ (es : List DirEntry). NamesRise (entry_values es)) (take_all c.loop-entry.entry-index c.args.entries.now c.loop-entry-test.false) c.loop-entry.invariant.order
