use Rattle.std.proofs.Common.{◌≡◌, ◌≤◌, ℕ, subst, arith}
use Rattle.std.specs.Prelude.{Option, Ok, IfSome}
use Rattle.std.proofs.lemmas.Result.{err_from_is_err_and}
use Rattle.fsfs_revision.specs.Told.{Knows}
use Rattle.fsfs_revision.proofs.Keeping.{keeps_trans}
use Rattle.fsfs_revision.specs.Shows.Reading.{MetAt}
use Rattle.fsfs_revision.specs.Shows.ByTree.{IsMetByTree}
use Rattle.fsfs_revision.proofs.ByTree.{by_tree}
use Rattle.fsfs_dag.specs.declared.walk.Met.{Met}
use Rattle.fsfs_dag.specs.Views.{met_value}
use Rattle.fsfs_edit.proofs.CopyingAt.{not_above, above_top, shown_kind, read_fails}
use Rattle.fsfs_edit.proofs.copy.source_at.Goals as goal

pub returns-then-get-clause-finds : goal.returns-then-get-clause-finds
returns-then-get-clause-finds g c = λ look trees top knows shown young.
    let is_top : c.in-Ok.youngest ≡ top = subst (λ (o : Option ℕ). IfSome o (λ y. c.in-Ok.youngest ≡ y)) young c.in-Ok.ensures.told in
    (is_top, above_top c.in-Ok.youngest c.args.from.now.rev top is_top (omega (arith, c.if-get.true)))

pub returns-in_err-depth-clause-finds : goal.returns-in_err-depth-clause-finds
returns-in_err-depth-clause-finds g c = λ look trees top knows shown young.
    let is_top : c.in-Ok.youngest ≡ top = subst (λ (o : Option ℕ). IfSome o (λ y. c.in-Ok.youngest ≡ y)) young c.in-Ok.ensures.told in
    let le : c.args.from.now.rev ≤ top = not_above c.in-Ok.youngest c.args.from.now.rev top is_top (omega (arith, c.if-get.false)) in
    let later : Knows (g.B.Book.told c.youngest.new.self).revs top look = λ n h. c.in-Ok.ensures.kept.revs n (look n) (knows n h) in
    let r = err_from_is_err_and c.from_residual.result c.from_residual.ensures.1 in
    rw (r.1, r.2) (read_fails look c.args.from.now.rev (trees c.args.from.now.rev) (shown c.args.from.now.rev le) c.args.from.now.path c.in_err-depth.field-0.0 (c.in_err-depth.ensures.told look (λ n h. later n (omega (arith, h, le)))))

pub returns-in_err-depth-clause-kept : goal.returns-in_err-depth-clause-kept
returns-in_err-depth-clause-kept g c = keeps_trans _ _ _ c.in-Ok.ensures.kept c.in_err-depth.ensures.kept

pub returns-in-Absent-clause-finds : goal.returns-in-Absent-clause-finds
returns-in-Absent-clause-finds g c = λ look trees top knows shown young.
    let is_top : c.in-Ok.youngest ≡ top = subst (λ (o : Option ℕ). IfSome o (λ y. c.in-Ok.youngest ≡ y)) young c.in-Ok.ensures.told in
    let le : c.args.from.now.rev ≤ top = not_above c.in-Ok.youngest c.args.from.now.rev top is_top (omega (arith, c.if-get.false)) in
    let later : Knows (g.B.Book.told c.youngest.new.self).revs top look = λ n h. c.in-Ok.ensures.kept.revs n (look n) (knows n h) in
    let met_there : IsMetByTree look c.args.from.now.rev (trees c.args.from.now.rev) c.args.from.now.path (Ok (met_value c.in_ok-depth.field-0)) = (by_tree look c.args.from.now.rev (trees c.args.from.now.rev) (shown c.args.from.now.rev le)).paths c.args.from.now.path (Ok (met_value c.in_ok-depth.field-0)) (c.in_ok-depth.ensures.told look (λ n h. later n (omega (arith, h, le)))) in
    (le, subst (λ (x : Met). IsMetByTree look c.args.from.now.rev (trees c.args.from.now.rev) c.args.from.now.path (Ok (met_value x))) c.in-Absent.is met_there)

pub returns-in-Absent-clause-kept : goal.returns-in-Absent-clause-kept
returns-in-Absent-clause-kept g c = keeps_trans _ _ _ c.in-Ok.ensures.kept c.in_ok-depth.ensures.kept

pub returns-in-File-clause-finds : goal.returns-in-File-clause-finds
returns-in-File-clause-finds g c = λ look trees top knows shown young.
    let is_top : c.in-Ok.youngest ≡ top = subst (λ (o : Option ℕ). IfSome o (λ y. c.in-Ok.youngest ≡ y)) young c.in-Ok.ensures.told in
    let le : c.args.from.now.rev ≤ top = not_above c.in-Ok.youngest c.args.from.now.rev top is_top (omega (arith, c.if-get.false)) in
    let later : Knows (g.B.Book.told c.youngest.new.self).revs top look = λ n h. c.in-Ok.ensures.kept.revs n (look n) (knows n h) in
    let met_there : IsMetByTree look c.args.from.now.rev (trees c.args.from.now.rev) c.args.from.now.path (Ok (met_value c.in_ok-depth.field-0)) = (by_tree look c.args.from.now.rev (trees c.args.from.now.rev) (shown c.args.from.now.rev le)).paths c.args.from.now.path (Ok (met_value c.in_ok-depth.field-0)) (c.in_ok-depth.ensures.told look (λ n h. later n (omega (arith, h, le)))) in
    (le, subst (λ (x : Met). IsMetByTree look c.args.from.now.rev (trees c.args.from.now.rev) c.args.from.now.path (Ok (met_value x))) c.in-File.is met_there)

pub returns-in-File-clause-kept : goal.returns-in-File-clause-kept
returns-in-File-clause-kept g c = keeps_trans _ _ _ c.in-Ok.ensures.kept c.in_ok-depth.ensures.kept

pub returns-in-Node-clause-finds : goal.returns-in-Node-clause-finds
returns-in-Node-clause-finds g c = λ look trees top knows shown young.
    let is_top : c.in-Ok.youngest ≡ top = subst (λ (o : Option ℕ). IfSome o (λ y. c.in-Ok.youngest ≡ y)) young c.in-Ok.ensures.told in
    let le : c.args.from.now.rev ≤ top = not_above c.in-Ok.youngest c.args.from.now.rev top is_top (omega (arith, c.if-get.false)) in
    let later : Knows (g.B.Book.told c.youngest.new.self).revs top look = λ n h. c.in-Ok.ensures.kept.revs n (look n) (knows n h) in
    let met_there : IsMetByTree look c.args.from.now.rev (trees c.args.from.now.rev) c.args.from.now.path (Ok (met_value c.in_ok-depth.field-0)) = (by_tree look c.args.from.now.rev (trees c.args.from.now.rev) (shown c.args.from.now.rev le)).paths c.args.from.now.path (Ok (met_value c.in_ok-depth.field-0)) (c.in_ok-depth.ensures.told look (λ n h. later n (omega (arith, h, le)))) in
    let at_there : MetAt look c.args.from.now.rev c.args.from.now.path (Ok (met_value c.in_ok-depth.field-0)) = c.in_ok-depth.ensures.told look (λ n h. later n (omega (arith, h, le))) in (
      le,
      subst (λ (x : Met). MetAt look c.args.from.now.rev c.args.from.now.path (Ok (met_value x))) c.in-Node.is at_there,
      shown_kind look c.args.from.now.rev c.args.from.now.path c.in-Node.found.node (trees c.args.from.now.rev c.args.from.now.path)
          (subst (λ (x : Met). IsMetByTree look c.args.from.now.rev (trees c.args.from.now.rev) c.args.from.now.path (Ok (met_value x))) c.in-Node.is met_there),
    )

pub returns-in-Node-clause-kept : goal.returns-in-Node-clause-kept
returns-in-Node-clause-kept g c = keeps_trans _ _ _ c.in-Ok.ensures.kept c.in_ok-depth.ensures.kept
