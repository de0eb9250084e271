use Rattle.std.proofs.Common.{◌≡◌, ◌+◌, ◌∙◌, List, take, ap, sym, subst}
use Rattle.std.specs.String.{string_bytes}
use Rattle.std.specs.declared.cmp.Ordering.TheVariants.{Less}
use Rattle.std.specs.Ordering.{nat_cmp}
use Rattle.std.specs.Cmp.Lexicographic.{slice_cmp}
use Rattle.std.proofs.lemmas.List.{take_all}
use Rattle.fsfs_base.specs.Paths.{PathName}
use Rattle.fsfs_revision.specs.Shows.Reading.{DirEntry as EntryValue}
use Rattle.fsfs_dag.specs.declared.directory.DirEntry.{DirEntry}
use Rattle.fsfs_dag.specs.EntryDumps.{IsListText}
use Rattle.fsfs_dag.specs.Views.{entry_value, entry_values}
use Rattle.fsfs_dag.proofs.EntryLists.{taken_more}
use Rattle.fsfs_dag.proofs.RisingDumps.{IsSoFar, so_far_none, so_far_more, so_far_all}
use Rattle.fsfs_dag.proofs.dumping.rising_dump.Goals as goal

pub loop-entry-init : goal.loop-entry-init
loop-entry-init c = so_far_none _ _ c.new-out.ensures.items

pub loop-entry-preserved : goal.loop-entry-preserved
loop-entry-preserved c =
    let es = c.args.entries.now in
    let i = c.loop-entry.entry-index in
    let e = c.entry-item.result in
    let name : c.as_bytes-name.result.now ≡ string_bytes e.name = c.as_bytes-name.ensures.value in
    let less : slice_cmp nat_cmp c.loop-entry.last.now (string_bytes e.name) ≡ Less = ap (λ (n : PathName). slice_cmp nat_cmp c.loop-entry.last.now n) (sym name) ∙ sym c.cmp.ensures ∙ c.in-Less.is in
    let more = taken_more es i e c.loop-entry-test.true c.entry-item.is in
    let one = so_far_more (entry_values (take i es)) c.loop-entry.last.now c.loop-entry.out.items c.put_entry.new.out.items (entry_value e) c.loop-entry.invariant less c.in_ok-put_entry.ensures in
    subst (λ (n : PathName). IsSoFar (entry_values (take (i + 1) es)) n c.put_entry.new.out.items) (sym name)
    (subst (λ (l : List EntryValue). IsSoFar l (string_bytes e.name) c.put_entry.new.out.items) (sym more) one)

pub returns : goal.returns
returns c =
    let all = take_all c.loop-entry.entry-index c.args.entries.now c.loop-entry-test.false in
    subst (λ (es : List DirEntry). IsListText (entry_values es) c.extend_from_slice.new.self.items) all
    (so_far_all (entry_values (take c.loop-entry.entry-index c.args.entries.now)) c.loop-entry.last.now c.loop-entry.out.items c.extend_from_slice.new.self.items c.loop-entry.invariant c.in_ok-extend_from_slice.ensures.items)
