-- A landing without a clash keeps what is known of a transaction.
use Rattle.std.proofs.Common.{◌≡◌, ℕ, true, false, List, inl, inr, ◌⊎◌}
use Rattle.std.proofs.lemmas.Bool.{cases_Bool, false_from_ne_true, and_parts, both_ways, not-true}
use Rattle.std.specs.Prelude.{is_some}
use Rattle.fsfs_model.specs.declared.flat.mark.Mark.{Mark}
use Rattle.fsfs_base.specs.Paths.{Path, covers}
use Rattle.fsfs_tree.specs.Nodes.{TreeFunction}
use Rattle.fsfs_model.specs.Flat.Marks.{is_make, effects, outer}
use Rattle.fsfs_model.specs.Flat.Landing.{land}
use Rattle.fsfs_base.proofs.PathLemmas.{covers-refl, covers-either}
use Rattle.fsfs_model.specs.Laws.{In}
use Rattle.fsfs_model.proofs.Bases.{IsClosed, DescribesBase}
use Rattle.fsfs_model.proofs.TwiceAt.{Region}
use Rattle.fsfs_model.proofs.LandedAt.{lacks, in_head, has, missing, comes, all_three, newer, head_has, own_has, head_only, not_gone_new}
use Rattle.fsfs_model.proofs.MergeWalk.{Premises, region, made_top, touched_below, touched_made, gone_down}

module _ (base : ℕ) (a s t : TreeFunction) (marks : List Mark) (is : Premises base a s t marks) (n : ℕ) where
  at : (p : Path) → Region (effects marks p) (a p) (s p) (t p)
  at p = region base a s t marks is p

  above_new : (q : Path) → ((is_some (a q) ≡ false) ⊎ ((effects marks q).deleted ≡ true)) → is_some (t q) ≡ true → (is_some (s q) ≡ false) ⊎ ((effects marks q).deleted ≡ true)
  above_new q (inl none) h = lacks (effects marks q) (a q) (s q) (t q) (at q) none h
  above_new q (inr g) h = inr g

  pub landed_own : DescribesBase s (land a s t marks n) marks
  landed_own = record {
    based = λ m i k. in_head (effects marks m.path) (a m.path) (s m.path) (t m.path) (at m.path) (touched_below marks m m.path i k (covers-refl m.path)) (is.own.based m i k);
    placed = λ m q i k ab. in_head (effects marks q) (a q) (s q) (t q) (at q) (touched_made marks m q i k (and_parts _ _ ab).0 (not-true _ (and_parts _ _ ab).1)) (is.own.placed m q i k ab);
    kept = λ q i. comes n (effects marks q) (a q) (s q) (t q) (is.own.kept q i) (is.own.new q i);
    new = λ q i. above_new q (is.own.new q i) (is.own.kept q i);
    top = λ q i. let m = is.own.top q i in (m.0, m.1, m.2, m.3, above_new m.0.path m.4 (is.closed_own m.0.path q m.3 (is.own.kept q i)));
    own = λ p none h. let b = has n (effects marks p) (a p) (s p) (t p) (at p) none h in is.own.own p b.0 b.1;
    lost = λ p h none. elim (missing n (effects marks p) (a p) (s p) (t p) h none) [ inl g ↦ g | inr b ↦ is.own.lost p b.0 b.1 ];
  }

  -- what the transaction has above a path that is not gone
  own_above : (q : Path) → is_some (a q) ≡ true → ((effects marks q).deleted ≡ true → ⊥) → is_some (t q) ≡ true
  own_above q h g = elim (cases_Bool (is_some (t q))) [ inl w ↦ w | inr w ↦ absurd (g (is.own.lost q h w)) ]

  pub landed_closed : IsClosed (land a s t marks n)
  landed_closed q p c h = elim (cases_Bool (is_some (a p))) [
    | inl in_a ↦
        (let a_q : is_some (a q) ≡ true = is.closed_base q p c in_a in
        let s_q : is_some (s q) ≡ true = is.closed_head q p c (head_has n (effects marks p) (a p) (s p) (t p) (at p) in_a h) in
        elim (cases_Bool (effects marks p).deleted) [
          | inl g ↦ all_three n (effects marks q) (a q) (s q) (t q) a_q s_q (is.closed_own q p c (own_has n (effects marks p) (a p) (s p) (t p) in_a g h))
          | inr g ↦ all_three n (effects marks q) (a q) (s q) (t q) a_q s_q (own_above q a_q (λ k. both_ways _ g (gone_down marks q p c k)))
        ])
    | inr not_a ↦ elim (cases_Bool (is_some (t p))) [
      | inl in_t ↦ made_above (is.closed_own q p c in_t) not_a in_t
      | inr not_t ↦
          (let s_p : is_some (s p) ≡ true = head_only n (effects marks p) (a p) (s p) (t p) not_a not_t h in
          let s_q : is_some (s q) ≡ true = is.closed_head q p c s_p in
          elim (cases_Bool (is_some (a q))) [
            | inr not_q ↦ newer n (effects marks q) (a q) (s q) (t q) not_q s_q
            | inl a_q ↦ all_three n (effects marks q) (a q) (s q) (t q) a_q s_q (own_above q a_q (λ k. not_gone_new (effects marks p) (a p) (s p) (t p) (at p) not_a s_p (gone_down marks q p c k)))
          ])
    ]
  ]
    where
      made_above : is_some (t q) ≡ true → is_some (a p) ≡ false → is_some (t p) ≡ true → is_some (land a s t marks n q) ≡ true
      made_above t_q not_a in_t = elim (cases_Bool (is_some (a q))) [
        | inr not_q ↦ comes n (effects marks q) (a q) (s q) (t q) t_q (inl not_q)
        | inl a_q ↦ elim (cases_Bool (effects marks q).deleted) [
          | inl g ↦ comes n (effects marks q) (a q) (s q) (t q) t_q (inr g)
          | inr g ↦ all_three n (effects marks q) (a q) (s q) (t q) a_q (in_head (effects marks q) (a q) (s q) (t q) (at q) (touched (made_top base a s t marks is p not_a in_t) g a_q) a_q) t_q
        ]
      ]
        where
          touched : ((m : Mark) × In (outer marks) m × (is_make m.what ≡ true) × (covers m.path p ≡ true) × ((is_some (a m.path) ≡ false) ⊎ ((effects marks m.path).deleted ≡ true)))
              → (effects marks q).deleted ≡ false → is_some (a q) ≡ true → (effects marks q).touched ≡ true
          touched m g a_q =
              let up : covers m.0.path q ≡ true → ⊥ = λ w. elim m.4 [
                | inl none ↦ both_ways _ none (is.closed_base m.0.path q w a_q)
                | inr k ↦ both_ways _ g (gone_down marks m.0.path q w k)
              ] in
              elim (covers-either q m.0.path p c m.3) [
                | inr w ↦ absurd (up w)
                | inl w ↦ touched_made marks m.0 q m.1 m.2 w (false_from_ne_true _ up)
              ]
