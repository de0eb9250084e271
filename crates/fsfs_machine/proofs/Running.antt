-- Each run keeps it.
use Rattle.std.proofs.Common.{◌≡◌, ℕ, suc, zero, List, [], ◌∷◌, ◌++◌, length, ⊎_elim, refl, sym, ap, subst, ◌∙◌, arith, append_assoc, append-nil}
use Rattle.std.specs.Prelude.{Some, None, slice_get}
use Rattle.fsfs_model.specs.Flat.Transactions.{Entry, IsLegal}
use Rattle.fsfs_machine.specs.declared.machine.Recorded.{Recorded}
use Rattle.fsfs_machine.specs.declared.machine.Outcome.{Outcome}
use Rattle.fsfs_machine.specs.declared.machine.Step.{Step}
use Rattle.fsfs_machine.specs.Machine.{World, recorded, revisions, Runs}
use Rattle.fsfs_machine.specs.Kept.{IsSeen, most_floor, may_rise, Kept, Grows, Names, SeenStays, RunsKeep}
use Rattle.fsfs_machine.proofs.Answering.{seen_of, some_at}
use Rattle.fsfs_machine.proofs.Growing.{revisions_next}
use Rattle.fsfs_machine.proofs.Steps.{step_moves}

legal_after : (a b c : List Recorded) (es : List Entry) → Grows a b → IsLegal (revisions b) es (revisions c) → (all : List Entry) × IsLegal (revisions a) all (revisions c)
legal_after a b c es g l = ⊎_elim (λ e. (es, subst (λ z. IsLegal (revisions z) es (revisions c)) e l))
    (λ n. (n.0.entry ∷ es, (n.1.0, n.0.revision, n.1.1, subst (λ z. IsLegal z es (revisions c)) (ap revisions n.2 ∙ revisions_next a n.0) l))) g

grown_after : (a b c more : List Recorded) → Grows a b → c ≡ b ++ more → (all : List Recorded) × (c ≡ a ++ all)
grown_after a b c more g e = ⊎_elim (λ s. (more, e ∙ ap (λ z. z ++ more) s)) (λ n. (recorded n.0 ∷ more, e ∙ ap (λ z. z ++ more) n.2 ∙ append_assoc a (recorded n.0 ∷ []) more)) g

names_after : (a b c more : List ℕ) → Names a b → c ≡ more ++ b → (all : List ℕ) × (c ≡ all ++ a)
names_after a b c more n e = ⊎_elim (λ s. (more, e ∙ ap (λ z. more ++ z) s)) (λ k. (more ++ k.0 ∷ [], e ∙ ap (λ z. more ++ z) k.2 ∙ sym (append_assoc more (k.0 ∷ []) a))) n

get_first : (h more : List Recorded) (r : ℕ) (x : Recorded) → slice_get h r ≡ Some x → slice_get (h ++ more) r ≡ Some x
get_first [] more r x e = let f : None ≡ Some x = e in absurd cc
get_first (z ∷ h) more zero x e = e
get_first (z ∷ h) more (suc r) x e = get_first h more r x e

seen_stays : (w v : World) (more : List Recorded) → v.history ≡ w.history ++ more → Kept w → SeenStays w v
seen_stays w v more e k p r pass is less =
    let s : IsSeen (length w.history) w.low (most_floor (may_rise w.lock) w.size w.floor) pass = seen_of (length w.history) w.low (most_floor (may_rise w.lock) w.size w.floor) w.passes p pass k.seen is in
    let at = some_at w.history r (omega (arith, less, s.seen)) in
    (at.0, at.1, subst (λ h. slice_get h r ≡ Some at.0) (sym e) (get_first w.history more r at.0 at.1))

-- what a run leaves, but for what follows of it
pub record Ran (w v : World) : Type 0 where
  pub kept : Kept v
  pub entries : List Entry
  pub legal : IsLegal (revisions w.history) entries (revisions v.history)
  pub more : List Recorded
  pub grown : v.history ≡ w.history ++ more
  pub names : List ℕ
  pub given : v.given ≡ names ++ w.given

nothing_ran : (w v : World) → w ≡ v → Kept w → Ran w v
nothing_ran w v e k = subst (λ z. Ran w z) e (record { kept = k; entries = []; legal = refl; more = []; grown = sym (append-nil w.history); names = []; given = refl })

ran : (w v : World) (steps : List Step) (os : List Outcome) → Runs w steps os v → Kept w → Ran w v
ran w v [] os is k = nothing_ran w v is.1 k
ran w v (s ∷ steps) os is k =
    let one = step_moves w s is.0 is.1 k in
    let rest = ran is.0.world v steps is.2 is.4 one.kept in
    let l = legal_after w.history is.0.world.history v.history rest.entries one.grows rest.legal in
    let g = grown_after w.history is.0.world.history v.history rest.more one.grows rest.grown in
    let n = names_after w.given is.0.world.given v.given rest.names one.names rest.given in
    record { kept = rest.kept; entries = l.0; legal = l.1; more = g.0; grown = g.1; names = n.0; given = n.1 }

pub run_keeps : RunsKeep
run_keeps w v steps os is k = let r = ran w v steps os is k in
    record { kept = r.kept; entries = r.entries; legal = r.legal; more = r.more; grown = r.grown; seen = seen_stays w v r.more r.grown k; names = r.names; given = r.given; once = r.kept.once }
