use Rattle.std.proofs.Common.{◌≡◌, ◌+◌, ◌∷◌, [], ℕ, List, Ok, Err, drop, get_or, refl, ap}
use Rattle.std.specs.Borrow.{Bor}
use Rattle.std.proofs.lemmas.List.{drop_more, drop_all}
use Rattle.std.proofs.lemmas.Result.{err_from_is_err_and}
use Rattle.fsfs_layout.specs.Hash.Reading.{views}
use Rattle.fsfs_dag.specs.Views.{PutsEntry}
use Rattle.fsfs_dag.proofs.PairLemmas.{none_so_far, one_more, first_wrong, all_found}
use Rattle.fsfs_dag.proofs.directory.entries_of.Goals as goal

abbrev Two : Type 0
Two = Bor (List ℕ) × Bor (List ℕ)

abbrev nothing : Two
nothing = (record { ref_ptr = (0, 0); now = [] }, record { ref_ptr = (0, 0); now = [] })

pub loop-pair-init : goal.loop-pair-init
loop-pair-init c = none_so_far c.args.home.now c.args.rep.now (views c.args.pairs.now) (views c.args.pairs.now) c.new-entries.result.items refl c.new-entries.ensures.items

pub loop-pair-preserved : goal.loop-pair-preserved
loop-pair-preserved c =
    let i = c.loop-pair.pair-index in
    let x = get_or c.args.pairs.now i nothing in
    let left : views (drop i c.args.pairs.now) ≡ (x.0.now, x.1.now) ∷ views (drop (i + 1) c.args.pairs.now) = ap views (drop_more c.args.pairs.now i nothing c.loop-pair-test.true) in
    let put : PutsEntry c.args.home.now c.args.rep.now (x.0.now, x.1.now) c.loop-pair.entries.items c.put_entry.new.entries.items (Ok tt) = c.in_ok-put_entry.ensures.told in
    one_more c.args.home.now c.args.rep.now (views c.args.pairs.now) (views (drop i c.args.pairs.now)) (views (drop (i + 1) c.args.pairs.now)) (x.0.now, x.1.now) c.loop-pair.entries.items c.put_entry.new.entries.items put.0
    c.loop-pair.invariant left put.1 put.1.before put.2

pub returns-in_err-put_entry-clause-told : goal.returns-in_err-put_entry-clause-told
returns-in_err-put_entry-clause-told c =
    let p = err_from_is_err_and c.from_residual.result c.from_residual.ensures.1 in
    let i = c.loop-pair.pair-index in
    let x = get_or c.args.pairs.now i nothing in
    let left : views (drop i c.args.pairs.now) ≡ (x.0.now, x.1.now) ∷ views (drop (i + 1) c.args.pairs.now) = ap views (drop_more c.args.pairs.now i nothing c.loop-pair-test.true) in
    let bad : PutsEntry c.args.home.now c.args.rep.now (x.0.now, x.1.now) c.loop-pair.entries.items c.put_entry.new.entries.items (Err c.in_err-put_entry.field-0.0) = c.in_err-put_entry.ensures.told in
    rw (p.1, p.2) (first_wrong c.args.home.now c.args.rep.now (views c.args.pairs.now) (views (drop i c.args.pairs.now)) (views (drop (i + 1) c.args.pairs.now)) (x.0.now, x.1.now) c.loop-pair.entries.items c.put_entry.new.entries.items c.in_err-put_entry.field-0.0
    c.loop-pair.invariant left bad)

pub returns-clause-told : goal.returns-clause-told
returns-clause-told c =
    let none : drop c.loop-pair.pair-index c.args.pairs.now ≡ [] = drop_all c.loop-pair.pair-index c.args.pairs.now c.loop-pair-test.false in
    all_found c.args.home.now c.args.rep.now (views c.args.pairs.now) (views (drop c.loop-pair.pair-index c.args.pairs.now)) c.loop-pair.entries.items c.loop-pair.invariant (ap views none)

pub returns-clause-before : goal.returns-clause-before
returns-clause-before c = c.loop-pair.invariant.before
