use Rattle.std.proofs.Common.{◌≡◌, ◌∙◌, ◌+◌, ◌++◌, ap, sym, subst, arith, length, map, Some, None, Option, List, ℕ, Bor}
use Rattle.fsfs_base.specs.Paths.{Path, names_text}
use Rattle.fsfs_base.specs.PathTexts.{IsJoined}
use Rattle.fsfs_base.specs.PathReading.{names_fault_at}
use Rattle.fsfs_base.specs.declared.paths.bad_path.BadPath.{BadPath}
use Rattle.fsfs_base.proofs.PathTextLemmas.{pieces, pieces_text, join_passes, join_refusal, join_reads}
use Rattle.fsfs_base.proofs.paths.path.FsPath.join.Goals as goal

same_reading : (above : Path) (depth start : ℕ) (names : Path) (text : List ℕ) → depth ≡ length above → start ≡ length (names_text above) + 1 → names ≡ pieces text → names_fault_at depth start names ≡ names_fault_at (length above) (length (names_text above) + 1) (pieces text)
same_reading above depth start names text d s n = λ i. names_fault_at (d i) (s i) (n i)

clash : (bad : BadPath) (r : Option BadPath) → Some bad ≡ r → r ≡ None → ⊥
clash bad r a b = cc

pub returns-in_err-start-clause-only : goal.returns-in_err-start-clause-only
returns-in_err-start-clause-only c = λ p w. absurd (omega (arith, (join_passes c.args.self.now c.args.text.now p w).fits, c.in_err-start.ensures.2))

pub names_fault-requires : goal.names_fault-requires
names_fault-requires c =
    let names = ap (map (λ (name : Bor (List ℕ)). name.now)) c.deref.ensures.value ∙ c.in_ok-names.ensures in
    omega (arith, ap (λ (p : Path). length (names_text p)) names, ap length (pieces_text c.args.text.now), c.in_ok-start.ensures.1)

pub returns-in-Some-clause-only : goal.returns-in-Some-clause-only
returns-in-Some-clause-only c = λ p w.
    let names = ap (map (λ (name : Bor (List ℕ)). name.now)) c.deref.ensures.value ∙ c.in_ok-names.ensures in
    let same = same_reading c.args.self.now c.depth.result c.in_ok-start.start (map (λ (name : Bor (List ℕ)). name.now) c.deref.result.now) c.args.text.now c.depth.ensures c.in_ok-start.ensures.0 names in
    absurd (clash c.in-Some.bad _ c.in-Some.ensures (same ∙ (join_passes c.args.self.now c.args.text.now p w).no_fault))

pub returns-in-Some-clause-refused : goal.returns-in-Some-clause-refused
returns-in-Some-clause-refused c =
    let names = ap (map (λ (name : Bor (List ℕ)). name.now)) c.deref.ensures.value ∙ c.in_ok-names.ensures in
    let same = same_reading c.args.self.now c.depth.result c.in_ok-start.start (map (λ (name : Bor (List ℕ)). name.now) c.deref.result.now) c.args.text.now c.depth.ensures c.in_ok-start.ensures.0 names in
    join_refusal c.args.self.now c.args.text.now c.in-Some.bad (omega (arith, c.in_ok-start.ensures.0, c.in_ok-start.ensures.1)) (sym same ∙ sym c.in-Some.ensures)

pub returns-clause-joined : goal.returns-clause-joined
returns-clause-joined c =
    let names = ap (map (λ (name : Bor (List ℕ)). name.now)) c.deref.ensures.value ∙ c.in_ok-names.ensures in
    let same = same_reading c.args.self.now c.depth.result c.in_ok-start.start (map (λ (name : Bor (List ℕ)). name.now) c.deref.result.now) c.args.text.now c.depth.ensures c.in_ok-start.ensures.0 names in
    let path = c.in_ok-with_names-in-None.ensures ∙ ap (λ (p : Path). c.args.self.now ++ p) (ap (map (λ (name : Bor (List ℕ)). name.now)) c.deref-in-None.ensures.value ∙ c.in_ok-names.ensures) in
    subst (IsJoined c.args.self.now c.args.text.now) (sym path) (join_reads c.args.self.now c.args.text.now (omega (arith, c.in_ok-start.ensures.0, c.in_ok-start.ensures.1)) (sym same ∙ sym c.in-None.ensures))

pub returns-clause-only : goal.returns-clause-only
returns-clause-only c = λ p w.
    let path = c.in_ok-with_names-in-None.ensures ∙ ap (λ (p : Path). c.args.self.now ++ p) (ap (map (λ (name : Bor (List ℕ)). name.now)) c.deref-in-None.ensures.value ∙ c.in_ok-names.ensures) in
    path ∙ (join_passes c.args.self.now c.args.text.now p w).same
