-- The tree that a landing adds follows the head's: what the numbers say.
use Rattle.std.proofs.Common.{◌≡◌, ℕ, suc, ◌<◌, ◌≤◌, true, false, cond, List, refl, sym, ◌∙◌, ap, inl, inr, ◌⊎◌, Option, Some, None, arith}
use Rattle.std.proofs.lemmas.Bool.{cases_Bool, false_from_ne_true, and_parts, both_ways}
use Rattle.std.specs.Prelude.{is_some}
use mathlib.Core.Bool.{false≢true}
use Rattle.fsfs_model.specs.declared.flat.mark.What.{What}
use Rattle.fsfs_model.specs.declared.flat.mark.What.TheVariants.{Make, Gone, Text, Prop}
use Rattle.fsfs_model.specs.declared.flat.mark.Mark.{Mark}
use Rattle.fsfs_base.specs.Paths.{Path, covers, is_above}
use Rattle.fsfs_tree.specs.Nodes.{Node, TreeFunction}
use Rattle.fsfs_model.specs.Flat.Marks.{is_make, effects, outer, changes_props}
use Rattle.fsfs_model.specs.Flat.Landing.{land}
use Rattle.fsfs_tree.specs.Trees.{AreOrdered}
use Rattle.fsfs_base.proofs.PathLemmas.{covers-either}
use Rattle.fsfs_model.proofs.Tests.{found}
use Rattle.fsfs_model.proofs.TwiceAt.{Region}
use Rattle.fsfs_model.proofs.LandedAt.{lacks, has, missing, own_has, head_only, not_gone_new}
use Rattle.fsfs_model.proofs.ShapeAt.{Shape, Fresh, From, shape, numbers, since_touched, fresh, same_head, held}
use Rattle.fsfs_model.proofs.MergeWalk.{Premises, region, made_top, touched_below, touched_made, touched_up, gone_by, gone_from, gone_down, rewritten_by, gone_make}

pub changes_props_is : (k : What) (q p : Path) → changes_props k q p ≡ true → (is_make k ≡ true → ⊥) × (covers p q ≡ true)
changes_props_is Prop q p h = (λ e. cc, (and_parts _ _ h).1)
changes_props_is (Make src) q p h = absurd (false≢true h)
changes_props_is Gone q p h = absurd (false≢true h)
changes_props_is Text q p h = absurd (false≢true h)

module _ (last base : ℕ) (a s t : TreeFunction) (marks : List Mark) (is : Premises base a s t marks)
    (most : (p : Path) (v : Node) → s p ≡ Some v → v.last_changed ≤ last)
    (falls : (q x : Path) (m n : Node) → is_above q x ≡ true → s q ≡ Some m → s x ≡ Some n → (m.added ≤ n.added) × (n.last_changed ≤ m.last_changed)) where
  abbrev pub new : TreeFunction
  new = land a s t marks (suc last)

  at : (p : Path) → Region (effects marks p) (a p) (s p) (t p)
  at p = region base a s t marks is p

  props_touched : (p : Path) → (effects marks p).props_changed ≡ true → (effects marks p).touched ≡ true
  props_touched p h =
      let f = found (λ m. changes_props m.what m.path p) (outer marks) h in
      let k = changes_props_is f.0.what f.0.path p f.2 in
      touched_below marks f.0 p f.1 k.0 k.1

  form : (p : Path) (x : Node) → new p ≡ Some x → Shape (suc last) (effects marks p) (s p) x
  form p x e = shape (suc last) (effects marks p) (a p) (s p) (t p) x e

  pub next_ordered : AreOrdered new
  next_ordered p x e = (numbers last (effects marks p) (s p) x (props_touched p) (λ v k. (is.ordered p v k, most p v k)) (form p x e)).0

  pub next_at_most : (p : Path) (x : Node) → new p ≡ Some x → x.last_changed ≤ suc last
  next_at_most p x e = (numbers last (effects marks p) (s p) x (props_touched p) (λ v k. (is.ordered p v k, most p v k)) (form p x e)).1

  -- what has an older last_changed is the head's node
  pub next_since : (p : Path) (x : Node) → new p ≡ Some x → x.last_changed < suc last → s p ≡ Some x
  next_since p x e lt =
      let quiet : (effects marks p).touched ≡ false = false_from_ne_true _ (λ h. (let k = since_touched (suc last) (effects marks p) (s p) x h (form p x e) in omega arith)) in
      same_head (suc last) (effects marks p) (a p) (s p) (t p) x e quiet
      (false_from_ne_true _ (λ h. let g = rewritten_by marks p h in both_ways _ quiet (touched_below marks g.0 p g.1 g.2 g.4)))
      (false_from_ne_true _ (λ h. both_ways _ quiet (props_touched p h)))
      (λ k. omega arith)

  -- an older node of that birth stood there
  pub next_added : (p : Path) (x : Node) → new p ≡ Some x → x.added < suc last → (v : Node) × (s p ≡ Some v) × (v.added ≡ x.added)
  next_added p x e lt = by (form p x e)
    where
      by : Shape (suc last) (effects marks p) (s p) x → (v : Node) × (s p ≡ Some v) × (v.added ≡ x.added)
      by (Fresh b r c) = absurd (omega arith)
      by (From v k b r c) = (v, k, sym b)

  -- where the base's node is gone, what stands there is fresh
  gone_fresh : (q : Path) (x : Node) → new q ≡ Some x → (effects marks q).deleted ≡ true → (is_some (s q) ≡ true → is_some (a q) ≡ true) → (x.added ≡ suc last) × (x.last_changed ≡ suc last)
  gone_fresh q x e g below = elim (cases_Bool (is_some (t q))) [
    | inl in_t ↦ fresh (suc last) (effects marks q) (a q) (s q) (t q) x e in_t (inr g)
    | inr not_t ↦ elim (cases_Bool (is_some (a q))) [
      | inl in_a ↦ absurd (both_ways _ not_t (own_has (suc last) (effects marks q) (a q) (s q) (t q) in_a g (ap is_some e)))
      | inr not_a ↦ absurd (both_ways _ not_a (below (head_only (suc last) (effects marks q) (a q) (s q) (t q) not_a not_t (ap is_some e))))
    ]
  ]

  -- the head has nothing new where the base's node is gone
  gone_old : (q : Path) → (effects marks q).deleted ≡ true → is_some (s q) ≡ true → is_some (a q) ≡ true
  gone_old q g h = elim (cases_Bool (is_some (a q))) [ inl w ↦ w | inr w ↦ absurd (not_gone_new (effects marks q) (a q) (s q) (t q) (at q) w h g) ]

  -- what is above a path that is gone was changed
  gone_above : (q p : Path) (m : Node) → covers q p ≡ true → new q ≡ Some m → (effects marks p).deleted ≡ true → m.last_changed ≡ suc last
  gone_above q p m c e h =
      let g = gone_by marks p h in
      elim (covers-either q g.0.path p c g.3) [
        | inl w ↦ since_touched (suc last) (effects marks q) (s q) m (touched_below marks g.0 q g.1 (gone_make _ g.2) w) (form q m e)
        | inr w ↦ (let k = gone_from marks g.0 q g.1 g.2 w in (gone_fresh q m e k (gone_old q k)).1)
      ]

  -- where something was taken away, what stands above it was changed
  pub next_taken : (q p : Path) (m : Node) → is_above q p ≡ true → new q ≡ Some m → new p ≡ None → is_some (s p) ≡ true → m.last_changed ≡ suc last
  next_taken q p m ab e none in_s = gone_above q p m (and_parts _ _ ab).0 e (elim (missing (suc last) (effects marks p) (a p) (s p) (t p) in_s (ap is_some none)) [
    | inl g ↦ g
    | inr b ↦ is.own.lost p b.0 b.1
  ])

  -- what is above a node of the transaction's own was changed
  own_above : (q p : Path) (m : Node) → is_above q p ≡ true → new q ≡ Some m → is_some (t p) ≡ true → is_some (a p) ≡ false → m.last_changed ≡ suc last
  own_above q p m ab e in_t not_a =
      let c : covers q p ≡ true = (and_parts _ _ ab).0 in
      let k = made_top base a s t marks is p not_a in_t in
      elim (cases_Bool (covers k.0.path q)) [
        | inr apart ↦ elim (covers-either q k.0.path p c k.3) [
          | inl w ↦ since_touched (suc last) (effects marks q) (s q) m (touched_made marks k.0 q k.1 k.2 w apart) (form q m e)
          | inr w ↦ absurd (both_ways _ apart w)
        ]
        | inl w ↦ (fresh (suc last) (effects marks q) (a q) (s q) (t q) m e (is.closed_own q p c in_t) (elim k.4 [
          | inl none ↦ inl (false_from_ne_true _ (λ h. both_ways _ none (is.closed_base k.0.path q w h)))
          | inr g ↦ inr (gone_down marks k.0.path q w g)
        ])).1
      ]

  -- a node is either of the transaction's own, and then what is above it was changed, or has the head's numbers
  own_or_held : (q p : Path) (m x : Node) → is_above q p ≡ true → new q ≡ Some m → new p ≡ Some x
      → (m.last_changed ≡ suc last) ⊎ ((v : Node) × (s p ≡ Some v) × (x.added ≡ v.added) × (x.last_changed ≡ cond (effects marks p).touched (suc last) v.last_changed))
  own_or_held q p m x ab e f = by (s p) refl
    where
      by : (o : Option Node) → s p ≡ o → (m.last_changed ≡ suc last) ⊎ ((v : Node) × (s p ≡ Some v) × (x.added ≡ v.added) × (x.last_changed ≡ cond (effects marks p).touched (suc last) v.last_changed))
      by None k = let h = has (suc last) (effects marks p) (a p) (s p) (t p) (at p) (ap is_some k) (ap is_some f) in inl (own_above q p m ab e h.1 h.0)
      by (Some v) k = elim (cases_Bool (effects marks p).deleted) [
        | inl g ↦ inl (gone_above q p m (and_parts _ _ ab).0 e g)
        | inr g ↦ elim (cases_Bool (is_some (a p))) [
          | inl in_a ↦ (let h = held (suc last) (effects marks p) (a p) (s p) (t p) v x k f g (inl in_a) in inr (v, k, h.0, h.1))
          | inr not_a ↦ elim (cases_Bool (is_some (t p))) [
            | inl in_t ↦ inl (own_above q p m ab e in_t not_a)
            | inr not_t ↦ (let h = held (suc last) (effects marks p) (a p) (s p) (t p) v x k f g (inr not_t) in inr (v, k, h.0, h.1))
          ]
        ]
      ]

  -- a node's last_changed is at most that of what is above it
  pub next_below_since : (q p : Path) (m x : Node) → is_above q p ≡ true → new q ≡ Some m → new p ≡ Some x → x.last_changed ≤ m.last_changed
  next_below_since q p m x ab e f = elim (own_or_held q p m x ab e f) [
    | inl k ↦ whole k
    | inr w ↦ below w.0 w.1 w.3 (form q m e)
  ]
    where
      whole : m.last_changed ≡ suc last → x.last_changed ≤ m.last_changed
      whole k = let top = next_at_most p x f in omega (arith, top, k)

      below : (w : Node) → s p ≡ Some w → x.last_changed ≡ cond (effects marks p).touched (suc last) w.last_changed → Shape (suc last) (effects marks q) (s q) m → x.last_changed ≤ m.last_changed
      below w l c' (Fresh b r c) = whole c
      below w l c' (From v k b r c) = elim (cases_Bool (effects marks q).touched) [
        | inl u ↦ whole (c ∙ ap (λ z. cond z (suc last) v.last_changed) u)
        | inr u ↦ (let up : (effects marks p).touched ≡ false = false_from_ne_true _ (λ h. both_ways _ u (touched_up marks q p (and_parts _ _ ab).0 h)) in
            let one : m.last_changed ≡ v.last_changed = c ∙ ap (λ z. cond z (suc last) v.last_changed) u in
            let two : x.last_changed ≡ w.last_changed = c' ∙ ap (λ z. cond z (suc last) w.last_changed) up in
            let three : w.last_changed ≤ v.last_changed = (falls q p v w ab k l).1 in
            omega (arith, one, two, three))
      ]

  -- a node is added no sooner than what is above it
  pub next_below_added : (q p : Path) (m x : Node) → is_above q p ≡ true → new q ≡ Some m → new p ≡ Some x → m.added ≤ x.added
  next_below_added q p m x ab e f = by (form p x f)
    where
      c : covers q p ≡ true
      c = (and_parts _ _ ab).0

      -- what stands below a node of the transaction's own is fresh
      fresh_below : (is_some (t q) ≡ true) → ((is_some (a q) ≡ false) ⊎ ((effects marks q).deleted ≡ true)) → x.added ≡ suc last
      fresh_below in_t (inl not_a) =
          let lacks_p : is_some (a p) ≡ false = false_from_ne_true _ (λ h. both_ways _ not_a (is.closed_base q p c h)) in
          let gone_or = lacks (effects marks q) (a q) (s q) (t q) (at q) not_a in_t in
          let not_s : is_some (s p) ≡ false = false_from_ne_true _ (λ h. elim gone_or [
            | inl k ↦ both_ways _ k (is.closed_head q p c h)
            | inr g ↦ both_ways _ not_a (gone_old q g (is.closed_head q p c h))
          ]) in
          let h = has (suc last) (effects marks p) (a p) (s p) (t p) (at p) not_s (ap is_some f) in
          (fresh (suc last) (effects marks p) (a p) (s p) (t p) x f h.1 (inl h.0)).0
      fresh_below in_t (inr g) = let k = gone_down marks q p c g in (gone_fresh p x f k (gone_old p k)).0

      by : Shape (suc last) (effects marks p) (s p) x → m.added ≤ x.added
      by (Fresh b r k) = let one = next_ordered q m e in let two = next_at_most q m e in omega (arith, b, one.added, one.props_changed, two)
      by (From w l b r k) = above (s q) refl
        where
          above : (o : Option Node) → s q ≡ o → m.added ≤ x.added
          above None n = absurd (both_ways _ (ap is_some n) (is.closed_head q p c (ap is_some l)))
          above (Some v) n = elim (cases_Bool (effects marks q).deleted) [
            | inl g ↦ (let one = gone_fresh q m e g (gone_old q g) in let two = gone_down marks q p c g in let three = gone_fresh p x f two (gone_old p two) in omega (arith, one.0, three.0))
            | inr g ↦ elim (cases_Bool (is_some (a q))) [
              | inl in_a ↦ (let h = held (suc last) (effects marks q) (a q) (s q) (t q) v m n e g (inl in_a) in let y = (falls q p v w ab n l).0 in omega (arith, h.0, b, y))
              | inr not_a ↦ elim (cases_Bool (is_some (t q))) [
                | inr not_t ↦ (let h = held (suc last) (effects marks q) (a q) (s q) (t q) v m n e g (inr not_t) in let y = (falls q p v w ab n l).0 in omega (arith, h.0, b, y))
                | inl in_t ↦ (let one = fresh_below in_t (inl not_a) in let two = next_at_most q m e in let three = next_ordered q m e in omega (arith, one, two, three.added, three.props_changed))
              ]
            ]
          ]
