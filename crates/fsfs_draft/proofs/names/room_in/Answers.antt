use Rattle.std.proofs.Common.{◌≡◌, ◌≤◌, true, List, length, Some, Ok, Err, sym, ap, subst, ◌∙◌, arith}
use Rattle.std.specs.Prelude.{nat_lt}
use Rattle.std.proofs.lemmas.Result.{err_from_is_err_and}
use Rattle.fsfs_revision.specs.Damage.Readings.{Answers}
use Rattle.fsfs_dag.specs.declared.directory.DirEntry.{DirEntry}
use Rattle.fsfs_dag.specs.Views.{entry_values}
use Rattle.fsfs_dag.proofs.PairLemmas.{entries_seen}
use Rattle.fsfs_draft.specs.Drafts.{Kept}
use Rattle.fsfs_draft.specs.Entries.{OfKept, IsWithin}
use Rattle.fsfs_draft.specs.Names.{IsRoom}
use Rattle.fsfs_draft.specs.Views.{kept_value}
use Rattle.fsfs_draft.proofs.Counting.{names_in, room_fails}
use Rattle.fsfs_draft.proofs.Readings.{own_list}
use Rattle.fsfs_draft.proofs.names.room_in.Goals as goal

pub returns-then-has_few-clause-tells : goal.returns-then-has_few-clause-tells
returns-then-has_few-clause-tells g c = λ look top k knows there within.
    let both : Some (kept_value c.in-Some.kept.now) ≡ Some k = c.in-Some.ensures ∙ there in
    let one : kept_value c.in-Some.kept.now ≡ k = cc in
    let few = c.has_few.ensures c.if-has_few.true in
    let n = names_in few.0 in
    let le : n.0 ≤ length few.0 = n.2 in
    let lt = few.2 in
    (few.0, own_list look k few.0 (ap (λ (x : Kept). x.entries) (sym one) ∙ few.1), (n.0, n.1, (let e : true ≡ nat_lt n.0 1048576 = grind (arith, le, lt) in e)))

pub returns-in_err-entries-clause-tells : goal.returns-in_err-entries-clause-tells
returns-in_err-entries-clause-tells g c = λ look top k knows there within.
    let both : Some (kept_value c.in-Some.kept.now) ≡ Some k = c.in-Some.ensures ∙ there in
    let one : kept_value c.in-Some.kept.now ≡ k = cc in
    let low : IsWithin top c.in-Some.kept.now.node.predecessor = subst (λ (x : Kept). IsWithin top x.node.predecessor) (sym one) within in
    let r = err_from_is_err_and c.from_residual.result c.from_residual.ensures.1 in
    rw (r.1, r.2) (room_fails look k c.in_err-entries.field-0.0 (subst (λ (x : Kept). Answers entries_seen (OfKept look x) (Err c.in_err-entries.field-0.0)) one (c.in_err-entries.ensures.told look top knows low)))

pub returns-clause-tells : goal.returns-clause-tells
returns-clause-tells g c = λ look top k knows there within.
    let both : Some (kept_value c.in-Some.kept.now) ≡ Some k = c.in-Some.ensures ∙ there in
    let one : kept_value c.in-Some.kept.now ≡ k = cc in
    let low : IsWithin top c.in-Some.kept.now.node.predecessor = subst (λ (x : Kept). IsWithin top x.node.predecessor) (sym one) within in
    let items = c.in_ok-entries.entries.items in
    (entry_values items, subst (λ (x : Kept). OfKept look x (Ok (entry_values items))) one (c.in_ok-entries.ensures.told look top knows low), subst (λ (es : List DirEntry). IsRoom (entry_values es) c.in_ok-room.room) c.deref.ensures.value c.in_ok-room.ensures)
