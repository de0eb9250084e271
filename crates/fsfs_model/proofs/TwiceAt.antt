-- At one path: landing twice is landing once.
use Rattle.std.proofs.Common.{◌≡◌, ℕ, Bool, true, false, ◌&&◌, ◌||◌, refl, sym, ap, Option, Some, None}
use Rattle.std.specs.Prelude.{is_some}
use mathlib.Core.Bool.{false≢true}
use Rattle.fsfs_tree.specs.Nodes.{Node}
use Rattle.fsfs_model.specs.declared.flat.mark.Effects.{Effects}
use Rattle.fsfs_model.specs.Flat.Landing.{landed_at, numbered}

-- how a path stands to the walk of a merge without a clash
pub data Region (d : Effects) (a s t : Option Node) : Type 0 where
  -- below what the transaction took away: the head left it as it was
  Same : s ≡ a → Region d a s t
  -- below what the head took away or changed: no mark speaks of it
  Quiet : d.touched ≡ false → d.deleted ≡ false → d.rewritten ≡ false → (is_some a ≡ false → is_some t ≡ false) → Region d a s t
  -- at or below a name that is not in the base
  New : is_some a ≡ false → d.deleted ≡ false → d.rewritten ≡ false → (is_some s && is_some t) ≡ false → Region d a s t
  -- the walk came here, and both hold it
  Common : is_some a ≡ true → is_some s ≡ true → d.deleted ≡ false → Region d a s t

abbrev pub said : Bool → Bool → Bool → Bool → Effects
said touched gone rewritten props_changed = record { touched = touched; deleted = gone; rewritten = rewritten; props_changed = props_changed }

pub no_base : {d : Effects} {s : Node} {t : Option Node} → (d.deleted || d.rewritten) ≡ true → Region d None (Some s) t → ⊥
no_base h (Same e) = false≢true (ap is_some (sym e))
no_base h (Quiet u g r q) = cc
no_base h (New a g r q) = cc
no_base h (Common a s g) = false≢true a

no_base_own : {d : Effects} {s t : Node} → d.deleted ≡ false → Region d None (Some s) (Some t) → ⊥
no_base_own h (Same e) = false≢true (ap is_some (sym e))
no_base_own h (Quiet u g r q) = false≢true (sym (q refl))
no_base_own h (New a g r q) = false≢true (sym q)
no_base_own h (Common a s g) = false≢true a

pub no_head : {d : Effects} {a : Node} {t : Option Node} → (d.deleted || d.rewritten) ≡ true → Region d (Some a) None t → ⊥
no_head h (Same e) = false≢true (ap is_some e)
no_head h (Quiet u g r q) = cc
no_head h (New a g r q) = false≢true (sym a)
no_head h (Common a s g) = false≢true s

-- only the last numbers count
renumbered : (n m : ℕ) (d : Effects) (b c : Bool) (s1 s2 : Option Node) (x : Node) → numbered n d b s2 (numbered m d c s1 x) ≡ numbered n d b s2 x
renumbered n m d true true s1 s2 x = refl
renumbered n m d true false None s2 x = refl
renumbered n m d true false (Some s) s2 x = refl
renumbered n m d false true s1 None x = refl
renumbered n m d false true s1 (Some s) x = refl
renumbered n m d false false None None x = refl
renumbered n m d false false None (Some s) x = refl
renumbered n m d false false (Some s) None x = refl
renumbered n m d false false (Some s) (Some z) x = refl

twice : (n m : ℕ) (touched gone rewritten props_changed : Bool) (a s1 s2 t : Option Node) → Region (said touched gone rewritten props_changed) a s1 t
    → landed_at n (said touched gone rewritten props_changed) s1 s2 (landed_at m (said touched gone rewritten props_changed) a s1 t) ≡ landed_at n (said touched gone rewritten props_changed) a s2 t
twice n m c true r w (Some a) (Some s) s2 None h = refl
twice n m c true r w (Some a) (Some s) s2 (Some t) h = ap Some (renumbered n m (said c true r w) true true (Some s) s2 t)
twice n m c true r w (Some a) None s2 None h = absurd (no_head refl h)
twice n m c true r w (Some a) None s2 (Some t) h = ap Some (renumbered n m (said c true r w) true true None s2 t)
twice n m c true r w None (Some s) s2 t h = absurd (no_base refl h)
twice n m c true r w None None s2 None h = refl
twice n m c true r w None None s2 (Some t) h = ap Some (renumbered n m (said c true r w) true true None s2 t)
twice n m c false true w (Some a) (Some s) s2 None h = refl
twice n m c false true w (Some a) (Some s) s2 (Some t) h = ap Some (renumbered n m (said c false true w) false false (Some s) s2 t)
twice n m c false true w (Some a) None s2 t h = absurd (no_head refl h)
twice n m c false true w None (Some s) s2 t h = absurd (no_base refl h)
twice n m c false true w None None s2 None h = refl
twice n m c false true w None None s2 (Some t) h = ap Some (renumbered n m (said c false true w) true true None s2 t)
twice n m c false false w (Some a) (Some s) s2 None h = refl
twice n m c false false w (Some a) (Some s) s2 (Some t) h = refl
twice n m c false false w (Some a) None s2 None h = refl
twice n m c false false w (Some a) None s2 (Some t) h = refl
twice n m c false false w None (Some s) s2 None h = refl
twice n m c false false w None (Some s) s2 (Some t) h = absurd (no_base_own refl h)
twice n m c false false w None None s2 None h = refl
twice n m c false false w None None s2 (Some t) h = ap Some (renumbered n m (said c false false w) true true None s2 t)

-- landing on s1 and then on s2 is landing on s2
pub twice_at : (n m : ℕ) (d : Effects) (a s1 s2 t : Option Node) → Region d a s1 t → landed_at n d s1 s2 (landed_at m d a s1 t) ≡ landed_at n d a s2 t
twice_at n m d a s1 s2 t h = twice n m d.touched d.deleted d.rewritten d.props_changed a s1 s2 t h
