-- A begin, from its parts.
use Rattle.std.proofs.Common.{◌≡◌, ◌≤◌, ◌<◌, ℕ, List, [], ◌∷◌, length, false, inl, inr, ⊎_elim, refl, sym, ap, subst, ◌∙◌, arith}
use Rattle.std.specs.Prelude.{Some, None, Option, Result, Ok, Err, IfOk, IfErr, OnOk}
use Rattle.fsfs_base.specs.Files.{Files}
use Rattle.fsfs_disk.specs.Labels.{Label, Txn}
use Rattle.fsfs_base.specs.declared.fields.txn_name.TxnName.{TxnName}
use Rattle.fsfs_noderev.specs.declared.node_rev.NodeRev.{NodeRev}
use Rattle.fsfs_disk.specs.Transactions.Txns.{pair_of, txn_label}
use Rattle.fsfs_base.specs.declared.places.place.DiskPlace.TheVariants as place
use Rattle.fsfs_begin.specs.declared.making.BenchFault.{BenchFault as BenchCause}
use Rattle.fsfs_begin.specs.declared.making.BenchFault.TheVariants as bench
use Rattle.fsfs_begin.specs.Begun.{IsBegunOn}
use Rattle.fsfs_begin.proofs.RevisionLemmas.{begun_same, stands_for}
use Rattle.fsfs_machine.specs.declared.machine.Outcome.TheVariants as outcome
use Rattle.fsfs_machine.specs.declared.machine.Step.TheVariants as step
use Rattle.fsfs_machine.specs.Kept.{AllBelow, IsIn}
use Rattle.fsfs_turn.specs.Bytes.{bytes_of}
use Rattle.fsfs_turn.specs.Views.{View, Begins, Looked}
use Rattle.fsfs_turn.specs.Learning.{MayMake, drawn_of}
use Rattle.fsfs_begin.specs.Steps.{HasName, HasFault, Moved}
use Rattle.fsfs_begin.specs.Faults.{Cause, IfBench, IfBenchDisk, IsNoBench, IsDropped, LeavesNone, made_fault}
use Rattle.fsfs_begin.specs.Begun.{IsMade, HasBegun}
use Rattle.fsfs_begin.specs.declared.begin_fault.BeginFault.{BeginFault}
use Rattle.fsfs_begin.specs.declared.begin_fault.BeginFault.TheVariants.{NoRev, Stuck, Small, NamesFull, Wrong, DiskFault, BenchFault, Memory}
use Rattle.fsfs_turn.proofs.Reading.{begins_on}
use Rattle.fsfs_begin.proofs.Going.{steps_on, one_turn}
use Rattle.fsfs_begin.proofs.Moving.{moved_on, by_look, by_name, bytes_stay, longer}

-- ---- what was drawn

module _ (young : ℕ) (v a b : View) (number : ℕ) (l : Looked young v a) (h : HasName number a b) where
  least_is : a.pass.least ≡ young
  least_is = ap {A = View} (λ z. z.pass.least) l.is

  pub may_make : (base : ℕ) → base ≤ young → MayMake b (drawn_of base number)
  may_make base le = record {
    outside = ap {A = View} (λ z. z.section) h.is;
    given = subst (λ xs. IsIn number xs) (sym (ap {A = View} (λ z. z.given) h.is)) (inl refl);
    base = omega (arith, le, least_is, h.all);
  }

  given_is : b.given ≡ number ∷ v.given
  given_is = ap {A = View} (λ z. z.given) h.is ∙ ap (λ g. number ∷ g) (ap {A = View} (λ z. z.given) l.is)

  pub above_given : AllBelow number v.given
  above_given = subst (λ (l : List ℕ). AllBelow number l) (ap {A = View} (λ z. z.given) l.is) h.above

  pub refused_on : v.section ≡ None → (u : View) → Moved b u → Moved v u
  refused_on none u m = moved_on v a u (by_look young v a none l) (moved_on a b u (by_name number a b h) m)

  pub leaves_none : (base : ℕ) (labels : Option (List Label)) (rose : Type 0) (u : View) (why : BeginFault) → u.given ≡ b.given → IfBench why (IsDropped (Txn base number) labels rose) → IfBench why (LeavesNone base labels rose v u)
  leaves_none base labels rose u BenchFault same d = (number, same ∙ given_is, d)
  leaves_none base labels rose u (NoRev asked youngest) same d = tt
  leaves_none base labels rose u (Stuck at) same d = tt
  leaves_none base labels rose u (Small fault) same d = tt
  leaves_none base labels rose u NamesFull same d = tt
  leaves_none base labels rose u (Wrong wrong) same d = tt
  leaves_none base labels rose u (DiskFault at) same d = tt
  leaves_none base labels rose u Memory same d = tt

  pub has_begun : (name : TxnName) (root : NodeRev) (held : Option Files) (u : View) → name.number.number ≡ number → name.base ≤ young → IsMade b u → IsBegunOn (bytes_of b.seen) name root → HasBegun name root held v u
  has_begun name root held u same le made on = record {
    is = whole ∙ ap (λ (k : ℕ). record v { pass = record v.pass { seen = length u.seen; least = k }; seen = u.seen; section = None; sure = false; firm = b.firm; given = number ∷ v.given }) (sym young_is)
        ∙ ap (λ (n : ℕ). record v { pass = record v.pass { seen = length u.seen; least = u.pass.least }; seen = u.seen; section = None; sure = false; firm = b.firm; given = n ∷ v.given }) (sym same)
        ∙ ap {A = Option ℕ} (λ o. record v { pass = record v.pass { seen = length u.seen; least = u.pass.least }; seen = u.seen; section = None; sure = false; firm = o; given = name.number.number ∷ v.given }) (sym (ap {A = View} (λ z. z.firm) made.is));
    least = omega (arith, young_is, l.least);
    all = omega (arith, young_is, least_is, h.all, longer b.seen u.seen a.pass.least made.grows h.all);
    base = longer b.seen u.seen name.base made.grows within;
    above = subst (λ (n : ℕ). AllBelow n v.given) (sym same) above_given;
    root = begun;
    draft = stands_for (bytes_of u.seen) name root held begun;
    grows = begins_on v.seen b.seen u.seen (subst (λ s. Begins b.seen s) (ap {A = View} (λ z. z.seen) l.is) h.grows) made.grows;
    steps = steps_on v a u (one_turn [] (step.Look v.number) (outcome.Youngest young) v a l.turned) (steps_on a b u h.steps made.steps);
  }
    where
      within : name.base < length b.seen
      within = omega (arith, le, least_is, h.all)

      begun : IsBegunOn (bytes_of u.seen) name root
      begun = begun_same name root (bytes_of b.seen) (bytes_of u.seen) (bytes_stay b.seen u.seen name.base made.grows within) on

      whole : u ≡ record v { pass = record v.pass { seen = length u.seen; least = young }; seen = u.seen; section = None; sure = false; firm = b.firm; given = number ∷ v.given }
      whole = made.is ∙ ap {A = View} (λ z. record z { pass = record z.pass { seen = length u.seen }; seen = u.seen })
          (h.is ∙ ap {A = View} (λ z. record z { pass = record z.pass { seen = length b.seen }; seen = b.seen; section = None; sure = false; firm = b.firm; given = number ∷ z.given }) l.is)

      young_is : u.pass.least ≡ young
      young_is = ap {A = View} (λ z. z.pass.least) whole

-- ---- results

-- a fact of a success, and one of what it gave
pub both_on : {B E : Type 0} (r : Result B E) (X : Type 0) (P Q : B → Type 0) → ((b : B) → X → P b → Q b) → OnOk r X → IfOk r P → IfOk r Q
both_on (Ok b) X P Q f x p = f b x p
both_on (Err e) X P Q f x p = tt

pub made_cause : (base : ℕ) (why : BenchCause) (u : View) → IfBenchDisk why (HasFault place.MakeBench u) → Cause base (made_fault why) u
made_cause base bench.Disk u w = w
made_cause base bench.Bench u w = tt

-- no bench was tried
pub no_bench : (P : Type 0) (why : BeginFault) → IsNoBench why → IfBench why P
no_bench P BenchFault w = absurd w
no_bench P (NoRev asked youngest) w = tt
no_bench P (Stuck at) w = tt
no_bench P (Small fault) w = tt
no_bench P NamesFull w = tt
no_bench P (Wrong wrong) w = tt
no_bench P (DiskFault at) w = tt
no_bench P Memory w = tt

-- ---- the whole

pub least_at_look : (base young : ℕ) (v a : View) → Looked young v a → base ≤ young → base ≤ a.pass.least
least_at_look base young v a l le = let e : a.pass.least ≡ young = ap {A = View} (λ z. z.pass.least) l.is in omega (arith, e, le)

bench_later : (l : Label) (labels : Option (List Label)) (P Q : Type 0) → (P → Q) → (why : BeginFault) → IfBench why (IsDropped l labels P) → IfBench why (IsDropped l labels Q)
bench_later l None P Q f BenchFault d = tt
bench_later l (Some ls) P Q f BenchFault d = ⊎_elim (λ gone. inl gone) (λ p. inr (f p)) d
bench_later l labels P Q f (NoRev asked youngest) d = tt
bench_later l labels P Q f (Stuck at) d = tt
bench_later l labels P Q f (Small fault) d = tt
bench_later l labels P Q f NamesFull d = tt
bench_later l labels P Q f (Wrong wrong) d = tt
bench_later l labels P Q f (DiskFault at) d = tt
bench_later l labels P Q f Memory d = tt

pub begun_all : {B E : Type 0} (name_of : B → TxnName) (root_of : B → NodeRev) (held_of : B → Option Files) (known : View → Type 0) (young : ℕ) (v a b : View) (name : TxnName) → Looked young v a → HasName name.number.number a b → name.base ≤ young
    → (r : Result B E) → IfOk r (λ x. name_of x ≡ name) → IfOk r (λ x. (u : View) × known u × IsMade b u × IsBegunOn (bytes_of b.seen) name (root_of x))
    → IfOk r (λ x. (u : View) × known u × HasBegun (name_of x) (root_of x) (held_of x) v u)
begun_all name_of root_of held_of known young v a b name l h le (Ok x) is w =
    (w.0, w.1, subst (λ (n : TxnName). HasBegun n (root_of x) (held_of x) v w.0) (sym is) (has_begun young v a b name.number.number l h name (root_of x) (held_of x) w.0 refl le w.2 w.3))
begun_all name_of root_of held_of known young v a b name l h le (Err e) is w = tt

pub refused_all : {B : Type 0} (known : View → Type 0) (young : ℕ) (v a b : View) (name : TxnName) (base : ℕ) → Looked young v a → HasName name.number.number a b → v.section ≡ None → name.base ≡ base
    → (labels : Option (List Label)) (P Q : Type 0) → (P → Q) → (r : Result B BeginFault) → IfErr r (λ why. (u : View) × known u × Moved b u × (u.given ≡ b.given) × Cause name.base why u) → IfErr r (λ why. IfBench why (IsDropped (txn_label (pair_of name)) labels P))
    → IfErr r (λ why. (u : View) × known u × Moved v u × Cause base why u × IfBench why (LeavesNone base labels Q v u))
refused_all known young v a b name base l h none same labels P Q f (Ok x) w d = tt
refused_all known young v a b name base l h none same labels P Q f (Err why) w d = (
  w.0,
  w.1,
  refused_on young v a b name.number.number l h none w.0 w.2,
  subst (λ (n : ℕ). Cause n why w.0) same w.4,
  subst (λ (n : ℕ). IfBench why (LeavesNone n labels Q v w.0)) same (leaves_none young v a b name.number.number l h name.base labels Q w.0 why w.3 (bench_later (txn_label (pair_of name)) labels P Q f why d)),
)
