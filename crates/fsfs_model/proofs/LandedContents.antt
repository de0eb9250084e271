-- A landing without a clash keeps directories, contents and sources.
use Rattle.std.proofs.Common.{◌≡◌, ℕ, true, false, List, [], refl, sym, ◌∙◌, ap, subst, inl, inr, ◌⊎◌, Option, Some, None}
use Rattle.std.proofs.lemmas.Option.{same_Some}
use Rattle.std.specs.Prelude.{is_some}
use Rattle.std.proofs.lemmas.Bool.{leb-true, and_from, cases_Bool, false_from_ne_true, and_parts, both_ways, or_parts, not-true, not-false}
use borrow.Author.Tests.{ltb-false}
use mathlib.Core.Bool.{false≢true}
use Rattle.fsfs_model.specs.declared.flat.mark.What.{What}
use Rattle.fsfs_model.specs.declared.flat.mark.What.TheVariants.{Make, Gone, Text, Prop}
use Rattle.fsfs_model.specs.declared.flat.mark.Mark.{Mark}
use Rattle.fsfs_model.specs.declared.flat.mark.Effects.{Effects}
use Rattle.fsfs_base.specs.Paths.{Path, covers, is_above}
use Rattle.fsfs_tree.specs.Nodes.{Node, TreeFunction}
use Rattle.fsfs_model.specs.Flat.Edits.{is_dir, is_dir_node, is_file_node}
use Rattle.fsfs_model.specs.Flat.Marks.{outer, effects, is_make, is_rewritten, changes_props}
use Rattle.fsfs_model.specs.Flat.Landing.{land, goes_on, clashes_at, touched_by_head, held_by_head}
use Rattle.fsfs_base.proofs.PathLemmas.{covers-refl, covers-antisym, covers-either}
use Rattle.fsfs_model.proofs.Tests.{found, found_in, other_false}
use Rattle.fsfs_model.proofs.MergeWalk.{Premises, region, go, reached_or, quiet_side, made_top, touched_below, touched_made, touched_up, gone_down}
use Rattle.fsfs_model.proofs.TwiceAt.{Region}
use Rattle.fsfs_model.proofs.LandedAt.{lacks, has, all_three, newer, own_has, head_only, not_gone_new}
use Rattle.fsfs_model.proofs.Landed.{landed_closed}
use Rattle.fsfs_model.proofs.Directories.{HasDirs}
use Rattle.fsfs_model.proofs.Contents.{KeepsContent, IsKept}
use Rattle.fsfs_model.proofs.Origins.{Origin, Head, Changed, Own, IsSameNode, origin}

pub there : (o : Option Node) → is_some o ≡ true → (n : Node) × (o ≡ Some n)
there None h = absurd (false≢true h)
there (Some n) h = (n, refl)

rewritten_what : (k : What) (q p : Path) → is_rewritten k q p ≡ true → (k ≡ Text) ⊎ (k ≡ Prop)
rewritten_what Text q p h = inl refl
rewritten_what Prop q p h = inr refl
rewritten_what Gone q p h = absurd (false≢true h)
rewritten_what (Make src) q p h = absurd (false≢true h)

rewritten_where : (k : What) (q p : Path) → is_rewritten k q p ≡ true → (covers q p ≡ true) × (covers p q ≡ true)
rewritten_where Text q p h = ((and_parts _ _ h).0, (and_parts _ _ h).1)
rewritten_where Prop q p h = ((and_parts _ _ h).0, (and_parts _ _ h).1)
rewritten_where Gone q p h = absurd (false≢true h)
rewritten_where (Make src) q p h = absurd (false≢true h)

prop_changes : (k : What) (q p : Path) → k ≡ Prop → is_rewritten k q p ≡ true → changes_props k q p ≡ true
prop_changes Prop q p e h = h
prop_changes Text q p e h = cc
prop_changes Gone q p e h = absurd (false≢true h)
prop_changes (Make src) q p e h = absurd (false≢true h)

text_rewrites : (k : What) (q : Path) → k ≡ Text → is_rewritten k q q ≡ true
text_rewrites Text q e = and_from _ _ (covers-refl q) (covers-refl q)
text_rewrites Prop q e = cc
text_rewrites Gone q e = cc
text_rewrites (Make src) q e = cc

not_make : (k : What) → (k ≡ Text) ⊎ (k ≡ Prop) → is_make k ≡ true → ⊥
not_make k (inl e) f = false≢true (sym (ap is_make e) ∙ f)
not_make k (inr e) f = false≢true (sym (ap is_make e) ∙ f)

-- without a clash at a path that the walk comes to: the head left it alone, or both hold it, a directory whose properties neither set
settled_at : (base : ℕ) (d : Effects) (n : Node) (s t : Option Node) → clashes_at base d (Some n) s t ≡ false → d.touched ≡ true
    → (touched_by_head base s ≡ false) ⊎ ((goes_on base d (Some n) s ≡ true) × (is_dir n.kind ≡ true) × (d.props_changed ≡ false))
settled_at base d n s t clear u = elim (cases_Bool (touched_by_head base s)) [
  | inr f ↦ inl f
  | inl w ↦
      let rest = false_from_ne_true _ (λ h. both_ways _ clear (and_from _ _ (and_from _ _ u w) h)) in
      let one = or_parts _ _ rest in
      let two = or_parts _ _ one.0 in
      let three = or_parts _ _ two.0 in
      inr (not-false _ three.1, not-false _ three.0, two.1)
]

file_not_dir : (n : Node) → is_file_node (Some n) ≡ true → is_dir n.kind ≡ true → ⊥
file_not_dir n h d = both_ways _ (not-true _ h) d

module _ (base : ℕ) (a s t : TreeFunction) (marks : List Mark) (is : Premises base a s t marks) (keeps : KeepsContent a t marks) where
  at : (p : Path) → Region (effects marks p) (a p) (s p) (t p)
  at p = region base a s t marks is p

  head_left : (q p : Path) → covers q p ≡ true → touched_by_head base (s q) ≡ false → s p ≡ a p
  head_left q p c un = by (s q) refl un
    where
      by : (o : Option Node) → s q ≡ o → touched_by_head base o ≡ false → s p ≡ a p
      by None e h = absurd (false≢true (sym h))
      by (Some n) e h = is.later.kept q p n e (ltb-false base n.last_changed h) c

  settled : (p : Path) (n : Node) → a p ≡ Some n → (effects marks p).touched ≡ true
      → (s p ≡ a p) ⊎ ((goes_on base (effects marks p) (a p) (s p) ≡ true) × (is_dir n.kind ≡ true) × ((effects marks p).props_changed ≡ false))
  settled p n e u = elim (reached_or (go base a s marks) p) [
    | inl r ↦ elim (settled_at base (effects marks p) n (s p) (t p) (subst (λ o. clashes_at base (effects marks p) o (s p) (t p) ≡ false) e (other_false _ _ (is.clear p) r)) u) [
      | inl f ↦ inl (head_left p p (covers-refl p) f)
      | inr w ↦ inr (subst (λ o. goes_on base (effects marks p) o (s p) ≡ true) (sym e) w.0, w.1, w.2)
    ]
    | inr early ↦
        let q = early.place in
        let some = there (a q) (is.closed_base q p early.covered (ap is_some e)) in
        elim (quiet_side base (effects marks q) some.0 (s q) (t q)
        (subst (λ o. clashes_at base (effects marks q) o (s q) (t q) ≡ false) some.1 (other_false _ _ (is.clear q) early.comes))
        (subst (λ o. goes_on base (effects marks q) o (s q) ≡ false) some.1 early.stops)) [
          | inl un ↦ absurd (both_ways _ un (touched_up marks q p early.covered u))
          | inr un ↦ inl (head_left q p early.covered un)
        ]
  ]

  -- what both hold is of one kind and source
  older : (p : Path) (n v : Node) → a p ≡ Some n → s p ≡ Some v → goes_on base (effects marks p) (a p) (s p) ≡ true → v.kind ≡ n.kind
  older p n v e f h =
      let held : held_by_head base (s p) ≡ true = (and_parts _ _ h).1 in
      let o = is.later.older p v f (leb-true v.added base (subst (λ o. held_by_head base o ≡ true) f held)) in
      sym (o.2.kind) ∙ ap (λ v. v.kind) (same_Some o.0 n (sym o.1 ∙ e))

  -- what the transaction rewrote, the head left alone
  pub rewritten_left : (p : Path) → (effects marks p).rewritten ≡ true → s p ≡ a p
  rewritten_left p h =
      let f = found (λ m. is_rewritten m.what m.path p) (outer marks) h in
      let what = rewritten_what f.0.what f.0.path p f.2 in
      let place = rewritten_where f.0.what f.0.path p f.2 in
      let here : f.0.path ≡ p = covers-antisym f.0.path p place.0 place.1 in
      let some = there (a p) (subst (λ v. is_some (a v) ≡ true) here (is.own.based f.0 f.1 (not_make f.0.what what))) in
      elim (settled p some.0 some.1 (touched_below marks f.0 p f.1 (not_make f.0.what what) place.1)) [
        | inl same ↦ same
        | inr w ↦ elim what [
          | inl text ↦ absurd (file_not_dir some.0 (subst (λ o. is_file_node o ≡ true) some.1 (subst (λ v. is_file_node (a v) ≡ true) here (keeps.files f.0 f.1 text))) w.1)
          | inr prop ↦ absurd (both_ways _ w.2 (found_in (λ m. changes_props m.what m.path p) (outer marks) f.0 f.1 (prop_changes f.0.what f.0.path p prop f.2)))
        ]
      ]

  -- what stands where the base's node is gone, the transaction has
  gone_own : (n : ℕ) (p : Path) → (effects marks p).deleted ≡ true → is_some (land a s t marks n p) ≡ true → is_some (t p) ≡ true
  gone_own n p g h = elim (cases_Bool (is_some (t p))) [
    | inl w ↦ w
    | inr none ↦ elim (cases_Bool (is_some (a p))) [
      | inl w ↦ own_has n (effects marks p) (a p) (s p) (t p) w g h
      | inr w ↦ absurd (not_gone_new (effects marks p) (a p) (s p) (t p) (at p) w (head_only n (effects marks p) (a p) (s p) (t p) w none h) g)
    ]
  ]

  origin_at : (n : ℕ) (p : Path) (y : Node) → land a s t marks n p ≡ Some y → Origin n (effects marks p) (a p) (s p) (t p) y
  origin_at n p y e = origin n (effects marks p) (a p) (s p) (t p) y e

  -- what the transaction rewrote and kept has the kind, the source and, where they weren't set, the properties of the head's
  pub changed_node : (p : Path) (x : Node) → t p ≡ Some x → is_some (a p) ≡ true → (effects marks p).deleted ≡ false → (effects marks p).rewritten ≡ true
      → (v : Node) × (s p ≡ Some v) × IsKept (effects marks p) v x
  changed_node p x e in_a del re =
      let n = there (a p) in_a in
      let k = keeps.same p n.0 n.1 del in
      (n.0, rewritten_left p re ∙ n.1, subst (λ z. IsKept (effects marks p) n.0 z) (same_Some k.0 x (sym k.1 ∙ e)) k.2)

  pub landed_content : (n : ℕ) → KeepsContent s (land a s t marks n) marks
  landed_content n = record {
    same = λ p v e del. here p v e del (there (land a s t marks n p) (comes p v e del));
    files = λ m i e. subst (λ o. is_file_node o ≡ true)
        (sym (rewritten_left m.path (found_in (λ x. is_rewritten x.what x.path m.path) (outer marks) m i (text_rewrites m.what m.path e)))) (keeps.files m i e);
    again = λ p g h. keeps.again p g (gone_own n p g h);
  }
    where
      comes : (p : Path) (v : Node) → s p ≡ Some v → (effects marks p).deleted ≡ false → is_some (land a s t marks n p) ≡ true
      comes p v e del = elim (cases_Bool (is_some (a p))) [
        | inr none ↦ newer n (effects marks p) (a p) (s p) (t p) none (ap is_some e)
        | inl some ↦ (let m = there (a p) some in let k = keeps.same p m.0 m.1 del in all_three n (effects marks p) (a p) (s p) (t p) some (ap is_some e) (ap is_some k.1))
      ]

      same_kept : (d : Effects) (v y : Node) → IsSameNode y v → IsKept d v y
      same_kept d v y k = record { kind = k.kind; source = k.source; properties = λ h. k.properties }

      through : (d : Effects) (v x y : Node) → IsKept d v x → IsSameNode y x → IsKept d v y
      through d v x y k z = record { kind = z.kind ∙ k.kind; source = z.source ∙ k.source; properties = λ h. z.properties ∙ k.properties h }

      here : (p : Path) (v : Node) → s p ≡ Some v → (effects marks p).deleted ≡ false → (y : Node) × (land a s t marks n p ≡ Some y) → (y : Node) × (land a s t marks n p ≡ Some y) × IsKept (effects marks p) v y
      here p v e del y = by (origin_at n p y.0 y.1)
        where
          by : Origin n (effects marks p) (a p) (s p) (t p) y.0 → (y : Node) × (land a s t marks n p ≡ Some y) × IsKept (effects marks p) v y
          by (Head x f alt k) = (y.0, y.1, same_kept (effects marks p) v y.0 (subst (λ z. IsSameNode y.0 z) (same_Some x v (sym f ∙ e)) k))
          by (Changed x f in_a g re k) =
              let c = changed_node p x f in_a g re in
              (y.0, y.1, through (effects marks p) v x y.0 (subst (λ z. IsKept (effects marks p) z x) (same_Some c.0 v (sym c.1 ∙ e)) c.2) k)
          by (Own x f alt b r c k) = elim alt [
            | inr g ↦ absurd (both_ways _ del g)
            | inl none ↦ elim (lacks (effects marks p) (a p) (s p) (t p) (at p) none (ap is_some f)) [
              | inl w ↦ absurd (both_ways _ w (ap is_some e))
              | inr g ↦ absurd (both_ways _ del g)
            ]
          ]

  module _ (n : ℕ) (head : HasDirs s) (own : HasDirs t) where
    dir_of : (y x : Node) → IsSameNode y x → is_dir_node (Some x) ≡ true → is_dir_node (Some y) ≡ true
    dir_of y x k h = ap is_dir k.kind ∙ h

    from_own : (p : Path) → is_some (s p) ≡ false → is_some (land a s t marks n p) ≡ true → (is_some (a p) ≡ false) × (is_some (t p) ≡ true)
    from_own p none h = has n (effects marks p) (a p) (s p) (t p) (at p) none h

    from_head : (p : Path) → is_some (t p) ≡ false → is_some (land a s t marks n p) ≡ true → is_some (s p) ≡ true
    from_head p none h = let y = there (land a s t marks n p) h in by (origin_at n p y.0 y.1)
      where
        by : {y : Node} → Origin n (effects marks p) (a p) (s p) (t p) y → is_some (s p) ≡ true
        by (Head x f alt k) = ap is_some f
        by (Changed x f in_a g re k) = absurd (both_ways _ none (ap is_some f))
        by (Own x f alt b r c k) = absurd (both_ways _ none (ap is_some f))

    -- above something that the transaction brings, it touched what it held
    touched_above : (q p : Path) → covers q p ≡ true → is_some (a p) ≡ false → is_some (t p) ≡ true → is_some (a q) ≡ true → (effects marks q).deleted ≡ false → (effects marks q).touched ≡ true
    touched_above q p c none in_t in_a del =
        let m = made_top base a s t marks is p none in_t in
        let up : covers m.0.path q ≡ true → ⊥ = λ w. elim m.4 [
          | inl z ↦ both_ways _ z (is.closed_base m.0.path q w in_a)
          | inr g ↦ both_ways _ del (gone_down marks m.0.path q w g)
        ] in
        elim (covers-either q m.0.path p c m.3) [
          | inr w ↦ absurd (up w)
          | inl w ↦ touched_made marks m.0 q m.1 m.2 w (false_from_ne_true _ up)
        ]

    dir_above : (q p : Path) (y : Node) → is_above q p ≡ true → is_some (land a s t marks n p) ≡ true → Origin n (effects marks q) (a q) (s q) (t q) y → is_dir_node (Some y) ≡ true
    dir_above q p y ab h (Head x f (inr (none_a, none_t)) k) = elim (cases_Bool (is_some (s p))) [
      | inl in_s ↦ dir_of y x k (subst (λ o. is_dir_node o ≡ true) f (head.above q p ab in_s))
      | inr none ↦ absurd (both_ways _ none_t (is.closed_own q p (and_parts _ _ ab).0 (from_own p none h).1))
    ]
    dir_above q p y ab h (Head x f (inl (in_a, del, re)) k) = elim (cases_Bool (is_some (s p))) [
      | inl in_s ↦ dir_of y x k (subst (λ o. is_dir_node o ≡ true) f (head.above q p ab in_s))
      | inr none ↦
          let new = from_own p none h in
          let m = there (a q) in_a in
          let kept = keeps.same q m.0 m.1 del in
          let dir : is_dir m.0.kind ≡ true = sym (ap is_dir kept.2.kind) ∙ subst (λ o. is_dir_node o ≡ true) kept.1 (own.above q p ab new.1) in
          dir_of y x k (elim (settled q m.0 m.1 (touched_above q p (and_parts _ _ ab).0 new.0 new.1 in_a del)) [
            | inl same ↦ ap (λ v. is_dir v.kind) (same_Some x m.0 (sym f ∙ same ∙ m.1)) ∙ dir
            | inr w ↦ ap is_dir (older q m.0 x m.1 f w.0) ∙ dir
          ])
    ]
    dir_above q p y ab h (Changed x f in_a del re k) = dir_of y x k (elim (cases_Bool (is_some (t p))) [
      | inl in_t ↦ subst (λ o. is_dir_node o ≡ true) f (own.above q p ab in_t)
      | inr none ↦
          let c = changed_node q x f in_a del re in
          ap is_dir c.2.kind ∙ subst (λ o. is_dir_node o ≡ true) c.1 (head.above q p ab (from_head p none h))
    ])
    dir_above q p y ab h (Own x f alt b r c k) = dir_of y x k (elim (cases_Bool (is_some (t p))) [
      | inl in_t ↦ subst (λ o. is_dir_node o ≡ true) f (own.above q p ab in_t)
      | inr none ↦ absurd (never none alt)
    ])
      where
        gone : is_some (t p) ≡ false → (effects marks q).deleted ≡ true → ⊥
        gone none g = both_ways _ none (gone_own n p (gone_down marks q p (and_parts _ _ ab).0 g) h)

        never : is_some (t p) ≡ false → (is_some (a q) ≡ false) ⊎ ((effects marks q).deleted ≡ true) → ⊥
        never none (inr g) = gone none g
        never none (inl none_a) = elim (lacks (effects marks q) (a q) (s q) (t q) (at q) none_a (ap is_some f)) [
          | inl none_s ↦ both_ways _ none_s (is.closed_head q p (and_parts _ _ ab).0 (from_head p none h))
          | inr g ↦ gone none g
        ]

    pub landed_dirs : HasDirs (land a s t marks n)
    landed_dirs = record {
      root = root;
      above = λ q p ab h.
          let y = there (land a s t marks n q) (landed_closed base a s t marks is n q p (and_parts _ _ ab).0 h) in
          ap is_dir_node y.1 ∙ dir_above q p y.0 ab h (origin_at n q y.0 y.1);
    }
      where
        some : (o : Option Node) → is_dir_node o ≡ true → is_some o ≡ true
        some None h = h
        some (Some n) h = refl

        root : is_dir_node (land a s t marks n []) ≡ true
        root = let y = there (land a s t marks n []) (all_three n (effects marks []) (a []) (s []) (t []) is.rooted (some (s []) head.root) (some (t []) own.root)) in
            ap is_dir_node y.1 ∙ by y.0 (origin_at n [] y.0 y.1)
          where
            by : (y : Node) → Origin n (effects marks []) (a []) (s []) (t []) y → is_dir_node (Some y) ≡ true
            by y (Head x f alt k) = dir_of y x k (subst (λ o. is_dir_node o ≡ true) f head.root)
            by y (Changed x f in_a g re k) = dir_of y x k (subst (λ o. is_dir_node o ≡ true) f own.root)
            by y (Own x f alt b r c k) = dir_of y x k (subst (λ o. is_dir_node o ≡ true) f own.root)
