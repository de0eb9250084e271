-- What a book over turns tells of a shard, and what its bench has then.
use Rattle.std.proofs.Common.{◌≡◌, ◌<◌, ◌≤◌, ◌+◌, ◌-◌, ℕ, suc, zero, List, [], ◌∷◌, length, map, take, drop, Bool, true, false, refl, sym, ap, subst, ◌∙◌, arith}
use Rattle.std.specs.Prelude.{Option, Some, Ok, ◌&&◌, slice_get, if◌then◌else◌}
use Rattle.std.proofs.lemmas.List.{length-take, length-drop, length-map}
use Rattle.std.proofs.lemmas.Option.{slice_get_within}
use Rattle.fsfs_base.specs.Files.{Files}
use Rattle.fsfs_layout.specs.Layouts.{shard_size}
use Rattle.fsfs_layout.specs.Manifest.{IsManifest}
use Rattle.fsfs_layout.specs.declared.layout.Layout.{Layout}
use Rattle.fsfs_revision.specs.Told.{Telling}
use Rattle.fsfs_machine.specs.declared.contents.Part.{Part}
use Rattle.fsfs_machine.specs.declared.machine.Recorded.{Recorded}
use Rattle.fsfs_machine.specs.declared.machine.Outcome.TheVariants as outcome
use Rattle.fsfs_machine.specs.Machine.{World, Did, part_of, parts_from, starts, looked, barred, is_there, is_up}
use Rattle.fsfs_turn.specs.Bytes.{bytes_beside}
use Rattle.fsfs_turn.specs.Courses.{ReadOnly}
use Rattle.fsfs_turn.specs.Found.{get_taken}
use Rattle.fsfs_turn.specs.Seen.{TellsUpTo}
use Rattle.fsfs_turn.specs.Views.{View, Looked, shard_parts, is_held, with_txns}
use Rattle.fsfs_pack.specs.declared.shard.Shard.{Shard}
use Rattle.fsfs_pack.specs.Copies.{HasFile, AreTold}
use Rattle.fsfs_pack.specs.Sections.{manifest_text, Along, IsNext, HasManifest}
use Rattle.fsfs_pack.specs.Shards.{IsShard}
use Rattle.fsfs_pack.proofs.Cutting.{starts_many}
use Rattle.fsfs_pack.proofs.Going.{along_is}

-- ---- the parts of a shard

get_dropped : (f i : ℕ) (h : List Recorded) (x : Recorded) → slice_get (drop f h) i ≡ Some x → slice_get h (f + i) ≡ Some x
get_dropped zero i h x e = let same : zero + i ≡ i = omega arith in ap (λ n. slice_get h n) same ∙ e
get_dropped (suc f) i [] x e = absurd cc
get_dropped (suc f) i (y ∷ h) x e = let next : suc f + i ≡ suc (f + i) = omega arith in ap (λ n. slice_get (y ∷ h) n) next ∙ get_dropped f i h x e

get_mapped : (xs : List Recorded) (i : ℕ) (y : Part) → slice_get (map part_of xs) i ≡ Some y → (x : Recorded) × (slice_get xs i ≡ Some x) × (part_of x ≡ y)
get_mapped [] i y e = absurd cc
get_mapped (x ∷ xs) zero y e = let f : Some (part_of x) ≡ Some y = e in (x, refl, cc)
get_mapped (x ∷ xs) (suc i) y e = get_mapped xs i y e

part_seen : (size first i : ℕ) (h : List Recorded) (y : Part) → slice_get (parts_from size first h) i ≡ Some y → (x : Recorded) × (slice_get h (first + i) ≡ Some x) × (part_of x ≡ y)
part_seen size first i h y e =
    let m = get_mapped (take size (drop first h)) i y e in
    (m.0, get_dropped first i h m.0 (get_taken size i (drop first h) m.0 m.1), m.2)

-- ---- they are told

pub parts_told : {B : Type 0} (told : Telling B) (young : ℕ) (v : View) (first : ℕ) → TellsUpTo young v told → first + shard_size v.layout ≤ young + 1 → AreTold told.revs first (shard_parts v first)
parts_told told young v first tells le i y e =
    let p = part_seen (shard_size v.layout) first i v.seen y e in
    let few : i < length (shard_parts v first) = slice_get_within (shard_parts v first) i y e in
    let most : length (shard_parts v first) ≤ shard_size v.layout = omega (arith, length-map (take (shard_size v.layout) (drop first v.seen)) part_of, length-take (shard_size v.layout) (drop first v.seen)) in
    subst (λ (z : Part). told.revs (first + i) ≡ Some (Ok z.bytes)) p.2 (tells.revs (first + i) (omega (arith, few, most, le)) (slice_get_within v.seen (first + i) p.0 p.1) ∙ ap (λ o. Some (bytes_beside (first + i) o)) p.1)

pub parts_many : (x : Shard) (v : View) → IsShard x → IsNext x v → length (shard_parts v x.first) ≡ x.next - x.first
parts_many x v shard next =
    let size : shard_size x.layout ≡ shard_size v.layout = ap shard_size next.layout in
    omega (arith, length-map (take (shard_size v.layout) (drop x.first v.seen)) part_of, length-take (shard_size v.layout) (drop x.first v.seen), length-drop x.first v.seen, next.full.full, shard.next, size)

-- ---- a look

looked_step : (w : World) (p young : ℕ) (b : Bool) (d : Did) → d ≡ (if b then looked w p else barred w) → d.outcome ≡ outcome.Youngest young → w.young ≡ young
looked_step w p young false d is told = let e : outcome.Barred ≡ outcome.Youngest young = sym (ap {A = Did} (λ z. z.outcome) is) ∙ told in absurd cc
looked_step w p young true d is told = let e : outcome.Youngest w.young ≡ outcome.Youngest young = sym (ap {A = Did} (λ z. z.outcome) is) ∙ told in cc

-- who is sure of the youngest number is told it again
pub looked_sure : (young : ℕ) (v m : View) → Looked young v m → v.sure ≡ true → is_held v.section ≡ true → m ≡ v
looked_sure young v m l sure held =
    let t = l.turned in
    let same : t.world.young ≡ young = looked_step (with_txns [] t.world) v.number young (is_there (with_txns [] t.world) v.number && is_up t.world.lock) t.did t.happens t.answers in
    let least : young ≡ v.pass.least = sym same ∙ t.sees.sure sure in
    l.is ∙ (λ i. record v { pass = record v.pass { least = least i }; sure = (held ∙ sym sure) i })

-- the shard is the next still
pub looked_next : (x : Shard) (young : ℕ) (v m : View) → Looked young v m → IsNext x v → IsNext x m
looked_next x young v m l n = record {
  layout = n.layout ∙ sym (ap {A = View} (λ z. z.layout) l.is);
  full = record {
    packs = ap {A = View} (λ z. z.since.packs) l.is ∙ n.full.packs;
    firm = ap {A = View} (λ z. z.firm) l.is ∙ n.full.firm;
    full = subst (λ (y : Layout × List Recorded). x.first + shard_size y.0 ≤ length y.1) (λ i. (ap {A = View} (λ z. z.layout) (sym l.is) i, ap {A = View} (λ z. z.seen) (sym l.is) i)) n.full.full;
    fits = n.full.fits;
  };
}

-- the youngest revision is behind the shard
pub looked_full : (x : Shard) (young : ℕ) (v m : View) → Looked young v m → IsNext x v → x.first + shard_size m.layout ≤ young + 1
looked_full x young v m l n =
    let size : shard_size m.layout ≡ shard_size v.layout = ap {A = View} (λ z. shard_size z.layout) l.is in
    omega (arith, n.full.full, l.seen, size)

-- ---- what is written

pub reads_along : (v u : View) → ReadOnly v u → Along v u
reads_along v u r = record { is = along_is v u u.pass.seen u.pass.floor u.pass.faults u.seen v.section u.firm r.is; grows = r.grows; course = r.course }

-- the manifest says where the parts begin
pub manifest_written : (x : Shard) (v : View) (offsets text : List ℕ) (held : Option Files) → IsShard x → IsNext x v → offsets ≡ starts 0 (shard_parts v x.first) → HasFile held manifest_text text → IsManifest (length offsets) text offsets → HasManifest x v held
manifest_written x v offsets text held shard next begin there lines =
    let size : shard_size x.layout ≡ shard_size v.layout = ap shard_size next.layout in
    let many : length offsets ≡ shard_size v.layout = ap length begin ∙ sym (starts_many 0 (shard_parts v x.first)) ∙ omega (arith, parts_many x v shard next, shard.next, size) in
    record { text = text; there = there; lines = subst (λ (y : ℕ × List ℕ). IsManifest y.0 text y.1) (λ i. (many i, begin i)) lines }
