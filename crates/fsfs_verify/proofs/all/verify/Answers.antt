use Rattle.std.proofs.Common.{◌≡◌, ◌≤◌, ◌+◌, ℕ, suc, List, refl, sym, ap, subst, ◌∙◌, arith}
use Rattle.std.specs.Prelude.{Ok, Err, option_map}
use Rattle.std.proofs.lemmas.Result.{err_from_is_err_and}
use Rattle.fsfs_base.specs.Output.{AddsFront}
use Rattle.fsfs_base.specs.Streams.{Adds}
use Rattle.fsfs_base.proofs.StreamLemmas.{adds_then}
use Rattle.fsfs_noderev.specs.declared.node_rev.NodeRev.{NodeRev}
use Rattle.fsfs_revision.specs.Damage.Readings.{IfWrong}
use Rattle.fsfs_revision.proofs.Keeping.{keeps_refl, keeps_trans}
use Rattle.fsfs_look.specs.Written.{Writes}
use Rattle.fsfs_look.specs.declared.look_error.LookError.{LookError}
use Rattle.fsfs_look.specs.declared.look_error.LookError.TheVariants as errors
use Rattle.fsfs_look.proofs.ProgressLemmas.{adds_nothing}
use Rattle.fsfs_dag.specs.declared.node.PlacedNode.{PlacedNode}
use Rattle.fsfs_sound.specs.Damaged.{IsDamaged}
use Rattle.fsfs_sound.specs.Revisions.{AreSoundBefore}
use Rattle.fsfs_verify.specs.AllWritten.{HoldsWritten}
use Rattle.fsfs_verify.specs.Roots.{IsLastRoot}
use Rattle.fsfs_verify.specs.Texts.{verified_line, verified_lines}
use Rattle.fsfs_verify.proofs.AllLemmas.{sound_none, holds_none, last_as, knows_upto, reads_upto, shows_before, sound_next, revision_wrong, line_stops, all_verified}
use Rattle.fsfs_verify.proofs.all.verify.Goals as goal

pub revisions-init : goal.revisions-init
revisions-init g c = record {
  within = omega arith;
  kept = keeps_refl _;
  later = omega arith;
  sink = omega arith;
  written = adds_nothing (g.S.Sink.written c.args.sink.now);
  sound = λ look props knows reads. (sound_none look props, holds_none look _ c.new-parts.ensures, refl);
}

pub returns-in_err-root-clause-told : goal.returns-in_err-root-clause-told
returns-in_err-root-clause-told g c = λ look props knows reads.
    let inv = c.revisions.invariant in
    let n = c.revisions.next in
    let rev = c.in-Some.rev in
    let here : rev ≡ n = c.in-Some.ensures in
    let e = c.in_err-root.field-0.0 in
    let le : n ≤ c.args.youngest = omega (arith, c.revisions-test.true, c.get.ensures.same) in
    let s = inv.sound look props knows reads in
    let wrong = c.in_err-root.ensures.told look props
    (knows_upto _ _ look c.args.youngest rev inv.kept (omega (arith, le, here)) knows)
    (reads_upto _ _ props c.args.youngest rev (λ r read may. g.met.B.StillProps.still _ _ r read inv.kept may) (omega (arith, le, here)) reads)
    (subst (λ (k : ℕ). AreSoundBefore look props k) (sym here) s.0)
    (subst (λ (k : ℕ). HoldsWritten look k c.revisions.parts) (sym here) s.1)
    (last_as look rev c.revisions.last c.as_ref.result c.as_ref.ensures.value (subst (λ (k : ℕ). IsLastRoot look k (option_map (λ (v : PlacedNode). v.node) c.revisions.last)) (sym here) s.2)) in
    let p = err_from_is_err_and c.from_residual.result c.from_residual.ensures.1 in
    rw (p.1, p.2)
    (revision_wrong look props c.args.youngest n (g.S.Sink.written c.args.sink.now) (g.S.Sink.written c.revisions.sink) e le (shows_before look props n s.0) inv.written (subst (λ (k : ℕ). IfWrong (IsDamaged look props k) e) here wrong))

pub returns-in_err-write_verified-clause-told : goal.returns-in_err-write_verified-clause-told
returns-in_err-write_verified-clause-told g c = λ look props knows reads.
    let inv = c.revisions.invariant in
    let n = c.revisions.next in
    let rev = c.in-Some.rev in
    let here : rev ≡ n = c.in-Some.ensures in
    let le : n ≤ c.args.youngest = omega (arith, c.revisions-test.true, c.get.ensures.same) in
    let s = inv.sound look props knows reads in
    let done = c.in_ok-root.ensures.told look props
    (knows_upto _ _ look c.args.youngest rev inv.kept (omega (arith, le, here)) knows)
    (reads_upto _ _ props c.args.youngest rev (λ r read may. g.met.B.StillProps.still _ _ r read inv.kept may) (omega (arith, le, here)) reads)
    (subst (λ (k : ℕ). AreSoundBefore look props k) (sym here) s.0)
    (subst (λ (k : ℕ). HoldsWritten look k c.revisions.parts) (sym here) s.1)
    (last_as look rev c.revisions.last c.as_ref.result c.as_ref.ensures.value (subst (λ (k : ℕ). IsLastRoot look k (option_map (λ (v : PlacedNode). v.node) c.revisions.last)) (sym here) s.2)) in
    let one : rev + 1 ≡ suc n = omega (arith, here) in
    let all = subst (λ (k : ℕ). AreSoundBefore look props k) one (sound_next look props rev (subst (λ (k : ℕ). AreSoundBefore look props k) (sym here) s.0) done.0) in
    let old = g.S.Sink.written c.args.sink.now in
    let mid = g.S.Sink.written c.revisions.sink in
    let new = g.S.Sink.written c.write_verified.new.sink in
    let e = err_from_is_err_and c.from_residual-in_err-write_verified.result c.from_residual-in_err-write_verified.ensures.1 in
    rw (e.1, e.2, c.in_err-write_verified.ensures.failed)
    (line_stops look props c.args.youngest n old mid new le (shows_before look props (suc n) all) inv.written (subst (λ (k : ℕ). AddsFront mid new (verified_line k)) here c.in_err-write_verified.ensures.part))

pub returns-in_err-write_verified-clause-kept : goal.returns-in_err-write_verified-clause-kept
returns-in_err-write_verified-clause-kept g c = keeps_trans _ _ _ c.revisions.invariant.kept c.in_ok-root.ensures.kept

pub revisions-preserved : goal.revisions-preserved
revisions-preserved g c =
    let inv = c.revisions.invariant in
    let n = c.revisions.next in
    let rev = c.in-Some.rev in
    let here : rev ≡ n = c.in-Some.ensures in
    let le : n ≤ c.args.youngest = omega (arith, c.revisions-test.true, c.get.ensures.same) in
    let one : suc n ≡ n + 1 = omega arith in
    let more : rev + 1 ≡ n + 1 = omega (arith, here) in
    let next_of : n + 1 ≡ suc rev = omega (arith, here) in
    let old = g.S.Sink.written c.args.sink.now in
    let mid = g.S.Sink.written c.revisions.sink in
    let new = g.S.Sink.written c.write_verified.new.sink in
    record {
      within = omega (arith, le);
      kept = keeps_trans _ _ _ inv.kept c.in_ok-root.ensures.kept;
      later = omega (arith, inv.later, c.in_ok-root.ensures.cause.later);
      sink = omega (arith, inv.sink, c.in_ok-write_verified.ensures.sink.later);
      written = subst (λ (k : ℕ). Adds old new (verified_lines k)) one
          (adds_then old mid new (verified_lines n) (verified_line n) inv.written (subst (λ (k : ℕ). Adds mid new (verified_line k)) here c.in_ok-write_verified.ensures.added));
      sound = λ look props knows reads.
          let s = inv.sound look props knows reads in
          let before = subst (λ (k : ℕ). AreSoundBefore look props k) (sym here) s.0 in
          let done = c.in_ok-root.ensures.told look props
          (knows_upto _ _ look c.args.youngest rev inv.kept (omega (arith, le, here)) knows)
          (reads_upto _ _ props c.args.youngest rev (λ r read may. g.met.B.StillProps.still _ _ r read inv.kept may) (omega (arith, le, here)) reads)
          before
          (subst (λ (k : ℕ). HoldsWritten look k c.revisions.parts) (sym here) s.1)
          (last_as look rev c.revisions.last c.as_ref.result c.as_ref.ensures.value (subst (λ (k : ℕ). IsLastRoot look k (option_map (λ (v : PlacedNode). v.node) c.revisions.last)) (sym here) s.2)) in
          (subst (λ (k : ℕ). AreSoundBefore look props k) more (sound_next look props rev before done.0), subst (λ (k : ℕ). HoldsWritten look k c.check_revision.new.parts) more done.2, (rev, next_of, done.1));
    }

pub returns-clause-told : goal.returns-clause-told
returns-clause-told g c = λ look props knows reads.
    let inv = c.revisions.invariant in
    let all : c.revisions.next ≡ suc c.args.youngest = omega (arith, c.revisions-test.false, c.get.ensures.same, inv.within) in
    all_verified look props c.args.youngest c.revisions.next (g.S.Sink.written c.args.sink.now) (g.S.Sink.written c.revisions.sink) all (inv.sound look props knows reads).0 inv.written
