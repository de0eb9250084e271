-- At one path: the clashes at the second head are the same from the base as from the first head.
use Rattle.std.proofs.Common.{◌≡◌, ℕ, ◌<◌, ◌≤◌, Bool, true, false, ◌&&◌, ◌||◌, not, refl, sym, ◌∙◌, ap, subst, inl, inr, ◌⊎◌, Option, Some, None, arith}
use Rattle.std.proofs.lemmas.Option.{same_Some}
use Rattle.std.proofs.lemmas.Bool.{cases_Bool, and_parts, both_ways, not-false, not-true, or_parts, leb-true, and_right}
use Rattle.std.specs.Prelude.{is_some, nat_lt, nat_le}
use Rattle.std.proofs.lemmas.Bool.Decides.{nat_tests}
use borrow.Author.Tests.{ltb-true, ltb-false, lt-ltb}
use mathlib.Core.Bool.{false≢true}
use Rattle.fsfs_tree.specs.Nodes.{Node}
use Rattle.fsfs_model.specs.declared.flat.mark.Effects.{Effects}
use Rattle.fsfs_model.specs.Flat.Landing.{landed_at, held_by_head, touched_by_head, props_changed_by_head, clashes_at}
use Rattle.fsfs_model.specs.Flat.Edits.{is_dir}
use Rattle.fsfs_tree.specs.Trees.{IsOrdered}
use Rattle.fsfs_model.proofs.Tests.{other_false}
use Rattle.fsfs_model.proofs.Bases.{IsOlder}

-- what IsLater says at one path
pub record IsLaterAt (base : ℕ) (b s : Option Node) : Type 0 where
  pub kept : (n : Node) → s ≡ Some n → n.last_changed ≤ base → s ≡ b
  pub older : (n : Node) → s ≡ Some n → n.added ≤ base → (m : Node) × (b ≡ Some m) × IsOlder n m
  pub same_props : (n : Node) → s ≡ Some n → n.props_changed ≤ base → (m : Node) × (b ≡ Some m) × (m.props_changed ≡ n.props_changed)
  pub ordered : (n : Node) → s ≡ Some n → IsOrdered n

same_lt : (b h z : ℕ) → b ≤ h → (z ≤ h → z ≤ b) → nat_lt b z ≡ nat_lt h z
same_lt b h z le f = grind (arith, nat_tests)

same_le : (b h z : ℕ) → b ≤ h → (z ≤ h → z ≤ b) → nat_le z b ≡ nat_le z h
same_le b h z le f = grind (arith, nat_tests)

-- equal tests, where the second head either touched the directory or left it held and bare
joined : (t1 t2 d1 d2 g k w : Bool) → t1 ≡ true → d1 ≡ true → d2 ≡ true → g ≡ false → ((t2 ≡ true) ⊎ ((k ≡ true) × (w ≡ false)))
    → (t1 && (not d1 || not (not g && k) || false || w)) ≡ (t2 && (not d2 || not (not g && k) || false || w))
joined t1 t2 d1 d2 g k w a b c e (inl f) = cc
joined t1 true d1 d2 g k w a b c e (inr f) = cc
joined t1 false d1 d2 g k w a b c e (inr f) =
    (λ i. a i && (not (b i) || not (not (e i) && f.0 i) || false || f.1 i))

module _ (base h1 : ℕ) (le : base ≤ h1) where
  -- the head kept x last_changed the base
  as_before : (touched gone rewritten props_changed : Bool) (m : ℕ) (x : Node) (s2 t t1 : Option Node) → x.last_changed ≤ base → IsOrdered x → IsLaterAt h1 (Some x) s2
      → let d : Effects = record { touched = touched; deleted = gone; rewritten = rewritten; props_changed = props_changed } in
      clashes_at base d (Some x) s2 t ≡ clashes_at h1 d (Some x) s2 t1
  as_before c g r w m x None t t1 old ord l = refl
  as_before c g r w m x (Some z) t t1 old ord l =
      let last_changed : nat_lt base z.last_changed ≡ nat_lt h1 z.last_changed = same_lt base h1 z.last_changed le (λ b. subst (λ v. v.last_changed ≤ base) (sym (same_Some z x (l.kept z refl b))) old) in
      let added : nat_le z.added base ≡ nat_le z.added h1 = same_le base h1 z.added le (λ b. let o = l.older z refl b in
      let e : x ≡ o.0 = same_Some x o.0 o.1 in omega (arith, o.2.added, ap (λ v. v.added) e, ord.added, ord.props_changed)) in
      let props_changed : nat_lt base z.props_changed ≡ nat_lt h1 z.props_changed = same_lt base h1 z.props_changed le (λ b. let o = l.same_props z refl b in
      let e : x ≡ o.0 = same_Some x o.0 o.1 in omega (arith, o.2, ap (λ v. v.props_changed) e, ord.props_changed)) in
      λ i. c && last_changed i && (not (is_dir x.kind) || not (not g && added i) || w || props_changed i)

  -- both touched the directory x, which is y now, and neither props_changed it
  both_touched : (gone : Bool) (x y : Node) (s2 : Option Node) → y.kind ≡ x.kind → nat_lt base y.last_changed ≡ true → nat_le y.added base ≡ true → nat_lt base y.props_changed ≡ false → is_dir x.kind ≡ true → gone ≡ false
      → IsLaterAt h1 (Some y) s2
      → (touched_by_head base s2 && (not (is_dir x.kind) || not (not gone && held_by_head base s2) || false || props_changed_by_head base s2))
      ≡ (touched_by_head h1 s2 && (not (is_dir y.kind) || not (not gone && held_by_head h1 s2) || false || props_changed_by_head h1 s2))
  both_touched gone x y None kind last_changed added props_changed dir g l = joined true true _ _ gone false false refl dir (ap is_dir kind ∙ dir) g (inl refl)
  both_touched gone x y (Some z) kind last_changed added props_changed dir g l =
      let same_born : nat_le z.added base ≡ nat_le z.added h1 = same_le base h1 z.added le (λ b. let o = l.older z refl b in
      let e : y ≡ o.0 = same_Some y o.0 o.1 in let k : y.added ≤ base = leb-true y.added base added in omega (arith, o.2.added, ap (λ v. v.added) e, k)) in
      let same_dressed : nat_lt base z.props_changed ≡ nat_lt h1 z.props_changed = same_lt base h1 z.props_changed le (λ b. let o = l.same_props z refl b in
      let e : y ≡ o.0 = same_Some y o.0 o.1 in let k : y.props_changed ≤ base = ltb-false base y.props_changed props_changed in omega (arith, o.2, ap (λ v. v.props_changed) e, k)) in
      let after : (nat_lt h1 z.last_changed ≡ true) ⊎ ((nat_le z.added h1 ≡ true) × (nat_lt h1 z.props_changed ≡ false)) = elim (cases_Bool (nat_lt h1 z.last_changed)) [
        | inl w ↦ inl w
        | inr w ↦
            let e : z ≡ y = same_Some z y (l.kept z refl (ltb-false h1 z.last_changed w)) in
            inr (sym same_born ∙ ap (λ v. nat_le v.added base) e ∙ added, sym same_dressed ∙ ap (λ v. nat_lt base v.props_changed) e ∙ props_changed)
      ] in
      let touched : nat_lt base z.last_changed ≡ true = elim (cases_Bool (nat_lt h1 z.last_changed)) [
        | inl w ↦ lt-ltb base z.last_changed (let k : h1 < z.last_changed = ltb-true h1 z.last_changed w in omega arith)
        | inr w ↦ ap (λ v. nat_lt base v.last_changed) (same_Some z y (l.kept z refl (ltb-false h1 z.last_changed w))) ∙ last_changed
      ] in
      (λ i. nat_lt base z.last_changed && (not (is_dir x.kind) || not (not gone && same_born i) || false || same_dressed i))
      ∙ joined (nat_lt base z.last_changed) (nat_lt h1 z.last_changed) (is_dir x.kind) (is_dir y.kind) gone (nat_le z.added h1) (nat_lt h1 z.props_changed) touched dir (ap is_dir kind ∙ dir) g after

  -- what is known of a path that the first head's walk came to
  clash_in : (touched gone rewritten props_changed : Bool) (m : ℕ) (a s1 s2 t : Option Node)
      → let d : Effects = record { touched = touched; deleted = gone; rewritten = rewritten; props_changed = props_changed } in
      clashes_at base d a s1 t ≡ false
      → (touched ≡ false → (gone ≡ false) × (rewritten ≡ false)) → (is_some a ≡ false → touched ≡ false)
      → IsLaterAt base a s1 → IsLaterAt h1 s1 s2
      → clashes_at base d a s2 t ≡ clashes_at h1 d s1 s2 (landed_at m d a s1 t)
  -- untouched
  clash_in false true r w m a s1 s2 t n q b l1 l2 = absurd (false≢true (sym (q refl).0))
  clash_in false false true w m a s1 s2 t n q b l1 l2 = absurd (false≢true (sym (q refl).1))
  clash_in false false false w m (Some x) (Some y) s2 t n q b l1 l2 = refl
  clash_in false false false w m (Some x) None s2 t n q b l1 l2 = sym (and_right (is_some s2) false refl)
  clash_in false false false w m None (Some y) s2 None n q b l1 l2 = and_right (is_some s2) false refl
  clash_in false false false w m None (Some y) s2 (Some v) n q b l1 l2 = absurd (false≢true (sym n))
  clash_in false false false w m None None s2 None n q b l1 l2 = refl
  clash_in false false false w m None None s2 (Some v) n q b l1 l2 = refl
  -- touched
  clash_in true g r w m None s1 s2 t n q b l1 l2 = absurd (false≢true (sym (b refl)))
  clash_in true g r w m (Some x) None s2 t n q b l1 l2 = absurd (false≢true (sym n ∙ away (not (is_dir x.kind)) g w))
    where
      away : (d g w : Bool) → (d || not (not g && false) || w || false) ≡ true
      away true g w = refl
      away false true w = refl
      away false false w = refl
  clash_in true g r w m (Some x) (Some y) s2 t n q b l1 l2 = elim (cases_Bool (nat_lt base y.last_changed)) [
    | inr old ↦
        let d : Effects = record { touched = true; deleted = g; rewritten = r; props_changed = w } in
        let e : y ≡ x = same_Some y x (l1.kept y refl (ltb-false base y.last_changed old)) in
        subst (λ v. clashes_at base d (Some v) s2 t ≡ clashes_at h1 d (Some y) s2 (landed_at m d (Some x) (Some y) t)) e
        (as_before true g r w m y s2 t (landed_at m d (Some x) (Some y) t) (ltb-false base y.last_changed old) (l1.ordered y refl) l2)
    | inl last_changed ↦
        let f1 = or_parts _ _ (other_false _ _ n last_changed) in
        let f2 = or_parts _ _ f1.0 in
        let f3 = or_parts _ _ f2.0 in
        let holds : (not g && nat_le y.added base) ≡ true = not-false _ f3.1 in
        let added : nat_le y.added base ≡ true = (and_parts _ _ holds).1 in
        let o = l1.older y refl (leb-true y.added base added) in
        let kind : y.kind ≡ x.kind = sym o.2.kind ∙ sym (ap (λ v. v.kind) (same_Some x o.0 o.1)) in
        subst (λ v. (touched_by_head base s2 && (not (is_dir x.kind) || not (not g && held_by_head base s2) || v || props_changed_by_head base s2))
        ≡ (touched_by_head h1 s2 && (not (is_dir y.kind) || not (not g && held_by_head h1 s2) || v || props_changed_by_head h1 s2))) (sym f2.1)
        (both_touched g x y s2 kind last_changed added f1.1 (not-false _ f3.0) (not-true _ (and_parts _ _ holds).0) l2)
  ]

nothing_in : (touched gone rewritten props_changed : Bool) (m : ℕ) (a t : Option Node) → gone ≡ false → rewritten ≡ false → (is_some a ≡ false → is_some t ≡ false)
    → let d : Effects = record { touched = touched; deleted = gone; rewritten = rewritten; props_changed = props_changed } in is_some (landed_at m d a None t) ≡ false
nothing_in c true r w m a t g h q = absurd (false≢true (sym g))
nothing_in c false true w m a t g h q = absurd (false≢true (sym h))
nothing_in c false false w m (Some x) t g h q = refl
nothing_in c false false w m None None g h q = refl
nothing_in c false false w m None (Some v) g h q = absurd (false≢true (sym (q refl)))

-- what no side has does not come
pub nothing : (d : Effects) (m : ℕ) (a t : Option Node) → d.deleted ≡ false → d.rewritten ≡ false → (is_some a ≡ false → is_some t ≡ false) → is_some (landed_at m d a None t) ≡ false
nothing d m a t = nothing_in d.touched d.deleted d.rewritten d.props_changed m a t

-- a path that the transaction did not touch clashes only where it brings a node that the first head lacks
pub clash_means : (h1 : ℕ) (d : Effects) (s1 s2 t1 : Option Node) → clashes_at h1 d s1 s2 t1 ≡ true → d.touched ≡ false → (is_some t1 ≡ true) × (s1 ≡ None)
clash_means h1 d None s2 t1 h u = ((and_parts _ _ h).1, refl)
clash_means h1 d (Some y) s2 t1 h u = absurd (both_ways _ u (and_parts _ _ (and_parts _ _ h).0).0)

pub clash_twice_at : (base h1 : ℕ) → base ≤ h1 → (d : Effects) (m : ℕ) (a s1 s2 t : Option Node) → clashes_at base d a s1 t ≡ false
    → (d.touched ≡ false → (d.deleted ≡ false) × (d.rewritten ≡ false)) → (is_some a ≡ false → d.touched ≡ false)
    → IsLaterAt base a s1 → IsLaterAt h1 s1 s2
    → clashes_at base d a s2 t ≡ clashes_at h1 d s1 s2 (landed_at m d a s1 t)
clash_twice_at base h1 le d m a s1 s2 t = clash_in base h1 le d.touched d.deleted d.rewritten d.props_changed m a s1 s2 t
