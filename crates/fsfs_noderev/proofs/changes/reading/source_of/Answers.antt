use Rattle.std.proofs.Common.{Option, Some, sym, subst, ◌∙◌}
use Rattle.std.proofs.lemmas.Option.{same_Some}
use Rattle.std.specs.Prelude.{IfSome}
use Rattle.fsfs_base.proofs.CutLemmas.{cut_found, two_none, two_parts}
use Rattle.fsfs_base.specs.Paths.{Path}
use Rattle.fsfs_base.specs.Fields.RevNums.{IsRev}
use Rattle.fsfs_noderev.specs.Fields.{IsPathText}
use Rattle.fsfs_base.proofs.RevNumTexts.{rev_spells}
use Rattle.fsfs_noderev.proofs.FieldTexts.{rev_lacks}
use Rattle.fsfs_noderev.proofs.changes.reading.source_of.Goals as goal

pub returns-in-None-clause-only : goal.returns-in-None-clause-only
returns-in-None-clause-only c = λ s w. absurd (two_none IsRev IsPathText 32 c.args.text.now (s.rev, s.path) rev_lacks c.in-None.ensures w)

pub returns-in-None-plain-clause-only : goal.returns-in-None-plain-clause-only
returns-in-None-plain-clause-only c = λ s w.
    let p = two_parts IsRev IsPathText 32 c.args.text.now c.in-Some.front.now c.in-Some.rest.now (s.rev, s.path) rev_lacks c.in-Some.ensures w in
    let e = c.in-None-plain.ensures ∙ rev_spells.again c.in-Some.front.now s.rev p.0 in
    absurd cc

pub returns-in-None-2-clause-only : goal.returns-in-None-2-clause-only
returns-in-None-2-clause-only c = λ s w.
    let p = two_parts IsRev IsPathText 32 c.args.text.now c.in-Some.front.now c.in-Some.rest.now (s.rev, s.path) rev_lacks c.in-Some.ensures w in
    let e = sym c.in-None-2.is ∙ c.in_ok-path_of-in-Some-plain.ensures.only s.path p.1 in
    absurd cc

pub returns-in-Some-2-clause-found : goal.returns-in-Some-2-clause-found
returns-in-Some-2-clause-found c = (
  c.in-Some.front.now,
  c.in-Some.rest.now,
  rev_spells.found c.in-Some.front.now c.in-Some-plain.rev (sym c.in-Some-plain.ensures),
  subst (λ (o : Option Path). IfSome o (IsPathText c.in-Some.rest.now)) c.in-Some-2.is c.in_ok-path_of-in-Some-plain.ensures.found,
  (cut_found 32 c.args.text.now c.in-Some.front.now c.in-Some.rest.now (sym c.in-Some.ensures)).parts,
)

pub returns-in-Some-2-clause-only : goal.returns-in-Some-2-clause-only
returns-in-Some-2-clause-only c = λ s w.
    let p = two_parts IsRev IsPathText 32 c.args.text.now c.in-Some.front.now c.in-Some.rest.now (s.rev, s.path) rev_lacks c.in-Some.ensures w in
    let rev = same_Some c.in-Some-plain.rev s.rev (c.in-Some-plain.ensures ∙ rev_spells.again c.in-Some.front.now s.rev p.0) in
    let path = same_Some c.in-Some-2.path s.path (sym c.in-Some-2.is ∙ c.in_ok-path_of-in-Some-plain.ensures.only s.path p.1) in
    λ i. Some (record { rev = rev i; path = path i })
