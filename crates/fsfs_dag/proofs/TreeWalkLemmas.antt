-- What is left of a walk, and what it weighs: what stands in a directory weighs less than the directory.
use Rattle.std.proofs.Common.{◌≡◌, ℕ, suc, ◌≤◌, ◌<◌, ◌+◌, ◌*◌, ◌^◌, List, [], ◌∷◌, ◌++◌, map, length, Option, Some, None, Result, Ok, Err, refl, sym, ap, subst, ◌∙◌, arith, true, Vec, Global}
use Rattle.std.specs.Prelude.{OnOk, IfErr, MatchOption, option_to_list}
use Rattle.std.proofs.Math.Nat.{one-le-pow, pow-le-pow_right, pow-suc, mul-le-mul_left}
use Rattle.std.proofs.lemmas.Bool.Decides.{nat_tests}
use Rattle.std.proofs.lemmas.List.{reverse-append, nil_from_length}
use Rattle.fsfs_revision.specs.Told.{RevisionBytes}
use Rattle.fsfs_noderev.specs.declared.node_id.Place.{Place}
use Rattle.fsfs_noderev.specs.declared.node_id.Place.TheVariants as places
use Rattle.fsfs_noderev.specs.declared.node_rev.NodeRev.{NodeRev}
use Rattle.fsfs_revision.specs.declared.damage.RevOffset.{RevOffset}
use Rattle.fsfs_revision.specs.declared.wrong.ReadError.{ReadError}
use Rattle.fsfs_revision.specs.declared.wrong.ReadError.TheVariants as errors
use Rattle.fsfs_revision.specs.Damage.Damages.{place_of}
use Rattle.fsfs_revision.specs.Damage.Readings.{Answers}
use Rattle.fsfs_revision.specs.Nodes.{is_before, place_before}
use Rattle.fsfs_revision.specs.Shows.Reading.{EntriesOf, offset_of}
use Rattle.fsfs_dag.specs.declared.directory.DirEntry.{DirEntry}
use Rattle.fsfs_dag.specs.declared.tree_walk.Pending.{Pending}
use Rattle.fsfs_dag.specs.TreeWalks.{pending_value, Left, in_order, at_level, AreWithin, Enters, rank, weight, total}
use Rattle.fsfs_dag.specs.Views.{AreBefore, entry_values}
use Rattle.fsfs_dag.proofs.PairLemmas.{place_le}

-- ---- the stack, in order

pub pushed_first : (todo : List Pending) (p : Pending) → in_order (todo ++ p ∷ []) ≡ pending_value p ∷ in_order todo
pushed_first todo p = ap (map pending_value) (reverse-append todo (p ∷ []))

pub popped_first : (old new : List Pending) (r : Option Pending) (before after : ℕ) → before ≡ length old → old ≡ new ++ option_to_list r → MatchOption r ((before ≡ 0) × (after ≡ 0)) (λ p. after + 1 ≡ before)
    → MatchOption r (in_order old ≡ []) (λ next. in_order old ≡ pending_value next ∷ in_order new)
popped_first old new None before after long is none = ap in_order (nil_from_length old (sym long ∙ none.0))
popped_first old new (Some p) before after long is more = ap in_order is ∙ pushed_first new p

-- ---- a directory is entered

pub enters_wrong : (look : RevisionBytes) (level : ℕ) (v : NodeRev) (old : Left) (e : ReadError) → Answers (λ (found : Vec DirEntry Global). entry_values found.items) (EntriesOf look v) (Err e) → Enters look level v old old (Err e)
enters_wrong look level v old (errors.Wrong w) h = (h, refl)
enters_wrong look level v old errors.OutOfMemory h = tt
enters_wrong look level v old errors.DiskFault h = tt

pub enters_dir : (look : RevisionBytes) (level next : ℕ) (v : NodeRev) (old new : Left) → next ≡ suc level → (below : List DirEntry) → EntriesOf look v (Ok (entry_values below)) → (r : Result (Unit {0}) ReadError)
    → OnOk r (new ≡ at_level next (entry_values below) ++ old) → IfErr r (λ e. e ≡ errors.OutOfMemory) → Enters look level v old new r
enters_dir look level next v old new one below read (Ok x) items memory = (entry_values below, read, items ∙ ap (λ (n : ℕ). at_level n (entry_values below) ++ old) one)
enters_dir look level next v old new one below read (Err e) items memory = subst (λ (x : ReadError). Enters look level v old new (Err x)) (sym memory) tt

pub within_below : (top level : ℕ) (home : RevOffset) (entries : List DirEntry) (rest : Left) → home.rev ≤ top → AreBefore home entries → AreWithin top rest → AreWithin top (at_level level (entry_values entries) ++ rest)
within_below top level home [] rest le before h = h
within_below top level home (e ∷ entries) rest le before h =
    let k : (offset_of e.id.place).rev ≤ home.rev = place_le home e.id.place before.0 in
    (omega (arith, k, le), within_below top level home entries rest le before.1 h)

-- ---- what it weighs

before_rank : (rev offset : ℕ) (home : RevOffset) → home.offset < 2 ^ 64 → is_before rev offset home ≡ true → rank (place_of rev offset) < rank home
before_rank rev offset home fits h = grind (arith, nat_tests)

pub place_rank : (place : Place) (home : RevOffset) → home.offset < 2 ^ 64 → place_before home place ≡ true → rank (offset_of place) < rank home
place_rank (places.At rev offset) home fits h = before_rank rev offset home fits h
place_rank (places.In txn) home fits h = absurd cc

-- one of smaller rank
one_less : (small rank : ℕ) → small < rank → (2 ^ 65) ^ small * 2 ^ 65 ≤ (2 ^ 65) ^ rank
one_less small rank lt =
    let pos : 0 < 2 ^ 65 = omega arith in
    let le : suc small ≤ rank = omega arith in
    let z : (2 ^ 65) ^ suc small ≤ (2 ^ 65) ^ rank = pow-le-pow_right pos le in
    omega (arith, z, pow-suc (2 ^ 65) small)

more : (t s x w n k : ℕ) → k ≡ x + t → t * 2 ^ 65 ≤ s * 2 ^ 65 + n * w → x * 2 ^ 65 ≤ w → k * 2 ^ 65 ≤ s * 2 ^ 65 + suc n * w
more t s x w n k e h le = omega arith

sum_below : (level : ℕ) (home : RevOffset) (entries : List DirEntry) (rest : Left) → home.offset < 2 ^ 64 → AreBefore home entries → total (at_level level (entry_values entries) ++ rest) * 2 ^ 65 ≤ total rest * 2 ^ 65 + length entries * weight home
sum_below level home [] rest fits before = omega arith
sum_below level home (e ∷ entries) rest fits before =
    let behind : Left = at_level level (entry_values entries) ++ rest in
    more (total behind) (total rest) (weight (offset_of e.id.place)) (weight home) (length entries) (weight (offset_of e.id.place) + total behind) refl
    (sum_below level home entries rest fits before.1) (one_less (rank (offset_of e.id.place)) (rank home) (place_rank e.id.place home fits before.0))

pub few : (n w : ℕ) → n < 2 ^ 64 → n * w ≤ 2 ^ 64 * w
few n w lt = let le : n ≤ 2 ^ 64 = omega arith in let k : w * n ≤ w * 2 ^ 64 = mul-le-mul_left w le in omega arith

less : (t s n w : ℕ) → t * 2 ^ 65 ≤ s * 2 ^ 65 + n → n ≤ 2 ^ 64 * w → 1 ≤ w → t < s + w
less t s n w a b c = omega arith

pub total_below : (level : ℕ) (home : RevOffset) (entries : List DirEntry) (rest : Left) → length entries < 2 ^ 64 → home.offset < 2 ^ 64 → AreBefore home entries → total (at_level level (entry_values entries) ++ rest) < total rest + weight home
total_below level home entries rest short fits before =
    let pos : 0 < 2 ^ 65 = omega arith in
    less (total (at_level level (entry_values entries) ++ rest)) (total rest) (length entries * weight home) (weight home) (sum_below level home entries rest fits before) (few (length entries) (weight home) short) (one-le-pow (rank home) (2 ^ 65) pos)

-- a node that is no directory leaves what was left, which weighs less
pub weighs : (s : ℕ) (home : RevOffset) → s < s + weight home
weighs s home = let pos : 0 < 2 ^ 65 = omega arith in omega (arith, one-le-pow (rank home) (2 ^ 65) pos)
