use Rattle.std.proofs.Common.{◌≡◌, ◌+◌, ◌<◌, ◌∷◌, suc, length, sym, subst, arith, ℕ, List}
use Rattle.fsfs_base.specs.Grammar.Relations.{IsFaultAt}
use Rattle.fsfs_base.specs.Fields.PropNames.{PropNameText, IsPropName}
use Rattle.fsfs_base.proofs.PropNameTexts.{good_none, good_some, whole_name, later_fault, not_a_name}
use Rattle.fsfs_base.proofs.fields.prop_name.later_fault.Goals as goal

with_no_name : (text : List ℕ) (at : ℕ) → at < length text → IsFaultAt PropNameText text at → IsFaultAt PropNameText text at × ¬ IsPropName text
with_no_name text at lt fault = (fault, not_a_name text at lt fault)

pub returns-in-None : goal.returns-in-None
returns-in-None c = let all = good_none c.args.rest.now (sym c.in-None.ensures) in whole_name c.args.first c.args.rest.now c.requires all (omega (arith, all, c.if-rest-lt-MAX_NAME.true))

pub returns-in-None-2 : goal.returns-in-None-2
returns-in-None-2 c =
    let all = good_none c.args.rest.now (sym c.in-None-2.ensures) in
    with_no_name (c.args.first ∷ c.args.rest.now) 255 (omega (arith, c.if-rest-lt-MAX_NAME.false))
    (later_fault c.args.first c.args.rest.now 254 c.requires (omega (arith, all, c.if-rest-lt-MAX_NAME.false)) (omega arith) (λ lt. absurd (omega (arith, lt))))

pub returns-in-Some : goal.returns-in-Some
returns-in-Some c =
    let w = good_some c.args.rest.now c.in-Some.other (sym c.in-Some.ensures) in
    let next : suc c.min.result ≡ c.min.result + 1 = omega arith in
    with_no_name (c.args.first ∷ c.args.rest.now) (c.min.result + 1) (omega (arith, w.1, c.min.ensures)) (subst (IsFaultAt PropNameText (c.args.first ∷ c.args.rest.now)) next
    (later_fault c.args.first c.args.rest.now c.min.result c.requires (omega (arith, w.0, c.min.ensures)) (omega (arith, c.min.ensures)) (λ lt. omega (arith, lt, w.0, c.min.ensures))))
