-- The floor and the manifests are what the grammars of their files say.
use Rattle.std.proofs.Common.{◌≡◌, ◌≤◌, ◌<◌, ℕ, ◌+◌, ◌-◌, List, length, take, refl, sym, ap, subst, ◌∙◌, inl, inr, ◌⊎◌, arith}
use Rattle.std.specs.Prelude.{Result, Ok, Err, ◌==◌}
use Rattle.std.proofs.lemmas.Bool.{cases_lt, eqb-true, eqb-false}
use Rattle.std.proofs.lemmas.List.{length-take, length-append, take_all, take-take}
use Rattle.fsfs_base.specs.Grammar.Relations.{GoesOn, IsFaultAt}
use Rattle.fsfs_base.proofs.Readers.{all_found, all_exact, chosen}
use Rattle.fsfs_base.specs.declared.small_fault.SmallFile.TheVariants.{MinUnpackedRev, Manifest}
use Rattle.fsfs_base.specs.declared.small_fault.SmallFault.{SmallFault}
use Rattle.fsfs_layout.specs.Reading.{rev_line_at}
use Rattle.fsfs_layout.specs.declared.format.Format.{Format}
use Rattle.fsfs_layout.specs.declared.format.Format.TheVariants.{Three, Four}
use Rattle.fsfs_layout.specs.declared.layout.Layout.{Layout}
use Rattle.fsfs_layout.specs.Layouts.{shard_size, place_in_shard}
use Rattle.fsfs_layout.specs.Small.{IsRevLine, IsMinUnpackedRevIn, IsMinUnpackedRev, IsFaultOf, IsRefusedFile, IsInsideShard, IsMinUnpackedFaultIn, IsMinUnpackedFault}
use Rattle.fsfs_layout.specs.Manifest.{IsManifest}
use Rattle.fsfs_layout.specs.ManifestReading.{manifest_at}
use Rattle.fsfs_layout.proofs.Files.{rev_line_reads, never}
use Rattle.fsfs_layout.proofs.Manifests.{layout_manifest}
use Rattle.fsfs_revision.specs.RevBytes.{placed, of_whole_shards, floor_where, text_in, floor_of, floor_in, manifest_of}
use Rattle.fsfs_revision.specs.ByGrammar.{FloorsAreByGrammar, ManifestsAreByGrammar}
use Rattle.fsfs_revision.proofs.ManifestLemmas.{fault_same, manifest_ok, manifest_err}
use Rattle.fsfs_revision.proofs.FloorLemmas.{floor_ok, floor_err, line_is_short}

-- ---- the first 64 bytes tell

short_front : (front : List ℕ) → GoesOn IsRevLine front → length front ≤ 11
short_front front w = omega (arith, line_is_short _ w.value w.text, length-append front w.more)

take_of : (k : ℕ) (text : List ℕ) → k ≤ 64 → take k (take 64 text) ≡ take k text
take_of k text le = take-take k 64 text le

fault_of_all : (text : List ℕ) (at : ℕ) → 64 ≤ length text → IsFaultAt IsRevLine (take 64 text) at → IsFaultAt IsRevLine text at
fault_of_all text at long w =
    let size : length (take 64 text) ≡ 64 = length-take 64 text ∙ omega (arith, long) in
    let front : length (take at (take 64 text)) ≡ at = length-take at (take 64 text) ∙ omega (arith, size, w.within) in
    let short : at ≤ 11 = omega (arith, front, short_front (take at (take 64 text)) w.before) in
    record {
      within = omega (arith, short, long);
      before = subst (GoesOn IsRevLine) (take_of at text (omega (arith, short))) w.before;
      behind = λ lt g. w.behind (omega (arith, short, size)) (subst (GoesOn IsRevLine) (sym (take_of (at + 1) text (omega (arith, short)))) g);
    }

long_placed : (text : List ℕ) (q r : Result ℕ ℕ) → 64 ≤ length text → rev_line_at (take 64 text) ≡ q → rev_line_at text ≡ r → placed MinUnpackedRev (take 64 text) q ≡ placed MinUnpackedRev text r
long_placed text (Ok n) r long e f = absurd (omega (arith, long, line_is_short (take 64 text) n (all_found rev_line_reads (take 64 text) n e), length-take 64 text))
long_placed text (Err a) (Ok n) long e f = absurd (omega (arith, long, line_is_short text n (all_found rev_line_reads text n f)))
long_placed text (Err a) (Err b) long e f =
    let v = fault_of_all text (length (take 64 text) - a) long (all_exact rev_line_reads (take 64 text) a e).1 in
    let w = (all_exact rev_line_reads text b f).1 in
    let at = fault_same IsRevLine text (length (take 64 text) - a) (length text - b) v w in
    λ i. Err (record { file = MinUnpackedRev; at = at i })

front_placed : (text : List ℕ) → (length text < 64) ⊎ (64 ≤ length text) → placed MinUnpackedRev (take 64 text) (rev_line_at (take 64 text)) ≡ placed MinUnpackedRev text (rev_line_at text)
front_placed text (inl short) = ap (λ (t : List ℕ). placed MinUnpackedRev t (rev_line_at t)) (take_all 64 text (omega (arith, short)))
front_placed text (inr long) = long_placed text (rev_line_at (take 64 text)) (rev_line_at text) long refl refl

floor_of_all : (n : Layout) (text : List ℕ) → floor_of n (take 64 text) ≡ floor_of n text
unfolding floor_of
floor_of_all n text = ap (λ r. floor_where n.format (of_whole_shards n r)) (front_placed text (cases_lt (length text) 64))

-- ---- the floor

ok_same : {A B : Type 0} (x y : A) → ◌≡◌ {A = Result A B} (Ok x) (Ok y) → x ≡ y
ok_same x y e = cc

fault_eq : {A : Type 0} (x y : SmallFault) → ◌≡◌ {A = Result A SmallFault} (Err x) (Err y) → x ≡ y
fault_eq x y e = cc

said_by : (n : Layout) (rev : ℕ) (text : List ℕ) (r : Result ℕ ℕ) → rev_line_at text ≡ r → of_whole_shards n (placed MinUnpackedRev text r) ≡ Ok rev → IsMinUnpackedRevIn Four n text rev
said_by n rev text (Err left) read e = absurd cc
said_by n rev text (Ok m) read e = elim (chosen (place_in_shard n m == 0) (Ok m) (Err (record { file = MinUnpackedRev; at = 0 })) (Ok rev) e) [
  | inl w ↦ subst (IsMinUnpackedRevIn Four n text) (ok_same {B = SmallFault} m rev w.1) (all_found rev_line_reads text m read, eqb-true (place_in_shard n m) 0 w.0)
  | inr w ↦ absurd cc
]

floor_said : (n : Layout) (rev : ℕ) (text : List ℕ) → floor_of n text ≡ Ok rev → IsMinUnpackedRev n text rev
unfolding floor_of
floor_said n rev text e = go n.format e
  where
    go : (k : Format) → floor_where k (of_whole_shards n (placed MinUnpackedRev text (rev_line_at text))) ≡ Ok rev → IsMinUnpackedRevIn k n text rev
    go Three is = sym (ok_same {B = SmallFault} 0 rev is)
    go Four is = said_by n rev text (rev_line_at text) refl is

refused_by : (n : Layout) (text : List ℕ) (fault : SmallFault) (r : Result ℕ ℕ) → rev_line_at text ≡ r → of_whole_shards n (placed MinUnpackedRev text r) ≡ Err fault → IsMinUnpackedFaultIn Four n text fault
refused_by n text fault (Err left) read e =
    inl (λ k g. never rev_line_reads text k left g read, subst (IsFaultOf MinUnpackedRev IsRevLine text) (fault_eq {A = ℕ} _ fault e) (record { names = refl; place = (all_exact rev_line_reads text left read).1 }))
refused_by n text fault (Ok m) read e = elim (chosen (place_in_shard n m == 0) (Ok m) (Err (record { file = MinUnpackedRev; at = 0 })) (Err fault) e) [
  | inl w ↦ absurd cc
  | inr w ↦ inr (subst (IsInsideShard n text) (fault_eq {A = ℕ} _ fault w.1) (record { number = m; line = all_found rev_line_reads text m read; inside = eqb-false (place_in_shard n m) 0 w.0; names = refl; place = refl }))
]

floor_refused : (n : Layout) (text : List ℕ) (fault : SmallFault) → floor_of n text ≡ Err fault → IsMinUnpackedFault n text fault
unfolding floor_of
floor_refused n text fault e = go n.format e
  where
    go : (k : Format) → floor_where k (of_whole_shards n (placed MinUnpackedRev text (rev_line_at text))) ≡ Err fault → IsMinUnpackedFaultIn k n text fault
    go Three is = absurd cc
    go Four is = refused_by n text fault (rev_line_at text) refl is

pub floors_by_grammar : FloorsAreByGrammar
unfolding floor_in
floors_by_grammar n files =
    let text = text_in files MinUnpackedRev in
    let all = floor_of_all n text in
    record {
      said = λ rev. (λ e. floor_said n rev text (sym all ∙ e), λ is. all ∙ floor_ok n rev text is);
      refused = λ fault. (λ e. floor_refused n text fault (sym all ∙ e), λ is. all ∙ floor_err n text fault is);
    }

-- ---- manifests

offsets_said : (shard : ℕ) (text offsets : List ℕ) (r : Result (List ℕ) ℕ) → placed (Manifest shard) text r ≡ Ok offsets → r ≡ Ok offsets
offsets_said shard text offsets (Ok found) e = ap (λ (xs : List ℕ). Ok xs) (ok_same {B = SmallFault} found offsets e)
offsets_said shard text offsets (Err left) e = absurd cc

manifest_said : (n : Layout) (shard : ℕ) → (text offsets : List ℕ) → manifest_of n shard text ≡ Ok offsets → IsManifest (shard_size n) text offsets
unfolding manifest_of
manifest_said n shard text offsets e = all_found (layout_manifest n) text offsets (offsets_said shard text offsets (manifest_at (shard_size n) text) e)

manifest_refused_by : (n : Layout) (shard : ℕ) → (text : List ℕ) (fault : SmallFault) (r : Result (List ℕ) ℕ) → manifest_at (shard_size n) text ≡ r → placed (Manifest shard) text r ≡ Err fault → IsRefusedFile (Manifest shard) (IsManifest (shard_size n)) text fault
manifest_refused_by n shard text fault (Ok found) read e = absurd cc
manifest_refused_by n shard text fault (Err left) read e = (
  λ offsets g. never (layout_manifest n) text offsets left g read,
  subst (IsFaultOf (Manifest shard) (IsManifest (shard_size n)) text) (fault_eq {A = List ℕ} _ fault e) (record { names = refl; place = (all_exact (layout_manifest n) text left read).1 }),
)

manifest_refused : (n : Layout) (shard : ℕ) → (text : List ℕ) (fault : SmallFault) → manifest_of n shard text ≡ Err fault → IsRefusedFile (Manifest shard) (IsManifest (shard_size n)) text fault
unfolding manifest_of
manifest_refused n shard text fault e = manifest_refused_by n shard text fault (manifest_at (shard_size n) text) refl e

pub manifests_by_grammar : ManifestsAreByGrammar
manifests_by_grammar n files shard =
    let text = text_in files (Manifest shard) in
    record {
      said = λ offsets. (manifest_said n shard text offsets, manifest_ok n shard text offsets);
      refused = λ fault. (manifest_refused n shard text fault, λ is. manifest_err n shard text fault is.1 is.0);
    }
