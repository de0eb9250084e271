use Rattle.std.proofs.Common.{◌≡◌, ◌++◌, [], ◌∷◌, refl, ap, arith}
use Rattle.std.proofs.lemmas.Result.{err_from_is_err_and}
use Rattle.fsfs_revision.specs.declared.damage.RevOffset.{RevOffset}
use Rattle.fsfs_dag.specs.Views.{home_of}
use Rattle.fsfs_verify.specs.Copies.{IsWrongCopy}
use Rattle.fsfs_verify.specs.declared.nodes.Copied.{Copied}
use Rattle.fsfs_verify.specs.Steps.{NoCopy, ACopy, IsWrongCopyOf}
use Rattle.fsfs_verify.proofs.EarlierPreds.{source_earlier}
use Rattle.fsfs_verify.proofs.Findings.{wrong_from}
use Rattle.fsfs_verify.proofs.nodes.NewNodes.take_copy.Goals as goal
use Rattle.fsfs_verify.proofs.nodes.NewNodes.take_copy.Goals.{in-Ok, in-Err}

pub returns-in-None-clause-told : goal.returns-in-None-clause-told
returns-in-None-clause-told g c = λ look begun copied drawn knows own lasting held.
    (copied, NoCopy c.in-None.is refl refl, held)

pub returns-in_err-check_copy-in-Some-clause-told : goal.returns-in_err-check_copy-in-Some-clause-told
returns-in_err-check_copy-in-Some-clause-told g c = λ look begun copied drawn knows own lasting held.
    let v = c.args.node.now.node in
    let from = c.in-Some.source in
    let less = source_earlier v from c.args.node.now.ordered c.in-Some.is in
    let p = err_from_is_err_and c.from_residual.result c.from_residual.ensures.1 in
    rw (p.1, p.2) (wrong_from (IsWrongCopy look c.args.self.now.rev copied drawn v from) (IsWrongCopyOf look c.args.self.now.rev copied drawn v) c.in_err-check_copy-in-Some.field-0.0 (λ w h. (from, c.in-Some.is, h))
    (c.in_err-check_copy-in-Some.ensures.told look begun copied drawn knows (omega (arith, less, own)) lasting.1 held))

pub returns-after-push-clause-told : goal.returns-after-push-clause-told
returns-after-push-clause-told g c = λ look begun copied drawn knows own lasting held.
    let v = c.args.node.now.node in
    let from = c.in-Some.source in
    let less = source_earlier v from c.args.node.now.ordered c.in-Some.is in
    let k = c.in_ok-check_copy-in-Some.ensures.told look begun copied drawn knows (omega (arith, less, own)) lasting.1 held in
    let made : Copied = record { place = c.place-place.result.offset; path = c.in_ok-path-in-Some.path } in
    let place : made.place ≡ (home_of v).offset = ap (λ (at : RevOffset). at.offset) c.place-place.ensures in
    elim c.match-push.branch [
      | in-Ok w ↦ rw w.result-is (copied ++ v.id.copy ∷ [], ACopy from made c.in-Some.is k.0 refl w.in-Ok.ensures.items (place, c.in_ok-path-in-Some.ensures.cases), k.1)
      | in-Err w ↦ rw w.result-is tt
    ]
