-- What a kept part of a revision shows.
use Rattle.std.proofs.Common.{◌≡◌, ℕ, ◌+◌, ◌-◌, ◌<◌, ◌≤◌, ◌⊎◌, List, length, take, drop, true, Result, Ok, Err, ap, subst, ◌∙◌, arith, inl, inr}
use Rattle.std.proofs.lemmas.List.{length-take, take-take, take_rest, drop-take, drop-drop}
use Rattle.fsfs_revision.specs.Told.{RevisionBytes}
use Rattle.fsfs_noderev.specs.NodeRevs.{IsRead}
use Rattle.fsfs_noderev.specs.declared.node_rev.NodeRev.{NodeRev}
use Rattle.fsfs_revision.specs.declared.damage.RevOffset.{RevOffset}
use Rattle.fsfs_revision.specs.declared.wrong.ReadError.{ReadError}
use Rattle.fsfs_revision.specs.declared.wrong.ReadError.TheVariants as errors
use Rattle.fsfs_revision.specs.Damage.Readings.{Answers}
use Rattle.fsfs_revision.specs.Nodes.{IsNodeAt}
use Rattle.fsfs_revision.specs.Damages.{NodeIn}
use Rattle.fsfs_revision.specs.Shows.Reading.{NodeAt}
use Rattle.fsfs_dag.specs.Seen.{IsKept}
use Rattle.fsfs_dag.specs.Told.{WindowAt, is_decided}
use Rattle.fsfs_dag.specs.declared.seen_bytes.Stretch.{Stretch}
use Rattle.fsfs_dag.proofs.Windows.{node_found_in_front}

-- ---- a later part of what is kept

part_from : (count skipped : ℕ) (xs kept : List ℕ) → kept ≡ take count xs → skipped < length kept → drop skipped kept ≡ take (count - skipped) (drop skipped xs)
part_from count skipped xs kept is within =
    let parts : count ≡ skipped + (count - skipped) = omega (arith, ap length is, length-take count xs) in
    ap (drop skipped) (is ∙ ap (λ (n : ℕ). take n xs) parts) ∙ drop-take skipped (count - skipped) xs

module _ (look : RevisionBytes) (seen : Stretch) (at : RevOffset) (kept : List ℕ) (is : kept ≡ take seen.count seen.bytes) (same : at.rev ≡ seen.at.rev) (after : seen.at.offset ≤ at.offset)
    (within : at.offset - seen.at.offset < length kept) where
  abbrev pub Part : Type 0
  Part = (count : ℕ) × WindowAt look at count (Ok (take (length kept - (at.offset - seen.at.offset)) (drop (at.offset - seen.at.offset) kept)))

  part_of : (count : ℕ) → WindowAt look seen.at count (Ok (take seen.count seen.bytes)) → Part
  part_of count w =
      let skipped : ℕ = at.offset - seen.at.offset in
      let place : seen.at.offset + skipped ≡ at.offset = omega (arith, after) in
      let part =
      take_rest kept skipped ∙ part_from count skipped (drop seen.at.offset w.0) kept (is ∙ w.2) within
      ∙ ap (take (count - skipped)) (drop-drop skipped seen.at.offset w.0 ∙ ap (λ (n : ℕ). drop n w.0) place) in
      (count - skipped, (w.0, ap look same ∙ w.1, part))

  nothing : seen.count ≡ 0 → Part
  nothing none = absurd (omega (arith, none, ap length is, length-take seen.count seen.bytes, within))

  pub seen_from_place : IsKept look seen → Part
  seen_from_place h = elim h [ inl none ↦ nothing none | inr w ↦ part_of w.0 w.1 ]

-- ---- a node-revision in a part, however long

pub either_bound : (n : ℕ) → (n ≤ 65536) ⊎ (65536 ≤ n)
either_bound n = grind arith

node_in_long : (at : RevOffset) (count : ℕ) (bytes seen : List ℕ) (v : NodeRev) → 65536 ≤ count → seen ≡ take count bytes → IsNodeAt at seen v → IsNodeAt at bytes v
node_in_long at count bytes seen v long is h =
    let same : take 65536 seen ≡ take 65536 bytes = ap (take 65536) is ∙ take-take 65536 count bytes long in
    ((subst (λ (xs : List ℕ). IsRead xs v) same h.0.0, h.0.1), h.1)

pub node_found_in_part : (look : RevisionBytes) (at : RevOffset) (count : ℕ) (seen : List ℕ) (v : NodeRev) → WindowAt look at count (Ok seen) → IsNodeAt at seen v → NodeAt look at (Ok v)
node_found_in_part look at count seen v w h =
    elim (either_bound count) [
      | inl fits ↦ node_found_in_front look at count seen v fits w h
      | inr long ↦ (w.0, w.1, node_in_long at count (drop at.offset w.0) seen v long w.2 h)
    ]

pub decided_in_part : (look : RevisionBytes) (at : RevOffset) (count : ℕ) (seen : List ℕ) (r : Result NodeRev ReadError) → WindowAt look at count (Ok seen) → Answers (λ (v : NodeRev). v) (NodeIn at seen) r → is_decided r ≡ true → Answers (λ (v : NodeRev). v) (NodeAt look at) r
decided_in_part look at count seen (Ok v) w h is = node_found_in_part look at count seen v w h
decided_in_part look at count seen (Err (errors.Wrong wrong)) w h is = absurd cc
decided_in_part look at count seen (Err errors.OutOfMemory) w h is = tt
decided_in_part look at count seen (Err errors.DiskFault) w h is = tt
