-- Walks down a path, one behind another.
use Rattle.std.proofs.Common.{◌≡◌, ℕ, suc, ◌+◌, [], ◌∷◌, ◌++◌, length, take, drop, refl, sym, ap, subst, ◌∙◌, inl, inr, arith, append_assoc}
use Rattle.std.proofs.lemmas.List.{take-append-drop}
use Rattle.std.specs.Prelude.{Result, Ok, Err, Option, Some, None}
use Rattle.fsfs_base.specs.Paths.{PathName, Path}
use Rattle.fsfs_base.specs.declared.kind.Kind.{Kind}
use Rattle.fsfs_base.specs.declared.kind.Kind.TheVariants.{File, Dir}
use Rattle.fsfs_revision.specs.Told.{RevisionBytes}
use Rattle.fsfs_noderev.specs.declared.node_rev.NodeRev.{NodeRev}
use Rattle.fsfs_revision.specs.declared.wrong.Wrong.{Wrong}
use Rattle.fsfs_revision.specs.Shows.Reading.{ChildOf, Met, Stands, OrLacking, InDirectory, MetFrom, MetAt, StandsAt}
use Rattle.fsfs_revision.specs.Shows.Damaged.{FirstDamage, AtRoot, Below}

-- one step down, and what comes of it
behind_child : (depth : ℕ) (R : Result (Option NodeRev) Wrong → Type 0) (S T : NodeRev → Result Met Wrong → Type 0) (v : NodeRev) (o : Option NodeRev) (r : Result Met Wrong)
    → R (Ok o) → OrLacking depth S o (Ok (Stands v)) → ((u : NodeRev) → S u (Ok (Stands v)) → T u r) → (u : NodeRev) × R (Ok (Some u)) × T u r
behind_child depth R S T v None r child on f = absurd cc
behind_child depth R S T v (Some u) r child on f = (u, child, f u on)

in_directory_on : (kind : Kind) (depth : ℕ) (R : Result (Option NodeRev) Wrong → Type 0) (S T : NodeRev → Result Met Wrong → Type 0) (v : NodeRev) (r : Result Met Wrong)
    → InDirectory kind depth R S (Ok (Stands v)) → ((u : NodeRev) → S u (Ok (Stands v)) → T u r) → InDirectory kind depth R T r
in_directory_on File depth R S T v r on f = absurd cc
in_directory_on Dir depth R S T v (Ok m) on f = let b = behind_child (suc depth) R S T v on.0 (Ok m) on.1 on.2 f in (Some b.0, b.1, b.2)
in_directory_on Dir depth R S T v (Err w) on f = let b = behind_child (suc depth) R S T v on.0 (Err w) on.1 on.2 f in inr (Some b.0, b.1, b.2)

-- what is met further on
pub met_on : (look : RevisionBytes) (a v : NodeRev) (depth : ℕ) (front rest : Path) (r : Result Met Wrong) → MetFrom look a depth front (Ok (Stands v)) → MetFrom look v (depth + length front) rest r → MetFrom look a depth (front ++ rest) r
met_on look a v depth [] rest r at on =
    let same : v ≡ a = cc in
    subst (λ (n : ℕ). MetFrom look a n rest r) (omega arith) (subst (λ (n : NodeRev). MetFrom look n (depth + length (let e : Path = [] in e)) rest r) same on)
met_on look a v depth (name ∷ front) rest r at on =
    in_directory_on a.kind depth (ChildOf look a name) (λ w. MetFrom look w (suc depth) front) (λ w. MetFrom look w (suc depth) (front ++ rest)) v r at
    (λ u further. met_on look u v (suc depth) front rest r further (subst (λ (n : ℕ). MetFrom look v n rest r) (omega arith) on))

pub met_behind : (look : RevisionBytes) (rev : ℕ) (v : NodeRev) (front rest : Path) (r : Result Met Wrong) → StandsAt look rev front v → MetFrom look v (length front) rest r → MetAt look rev (front ++ rest) r
met_behind look rev v front rest (Ok m) at on = (at.0, at.1, met_on look at.0 v 0 front rest (Ok m) at.2 (subst (λ (n : ℕ). MetFrom look v n rest (Ok m)) (omega arith) on))
met_behind look rev v front rest (Err w) at on = inr (at.0, at.1, met_on look at.0 v 0 front rest (Err w) at.2 (subst (λ (n : ℕ). MetFrom look v n rest (Err w)) (omega arith) on))

pub in_dir : (kind : Kind) (depth : ℕ) (R : Result (Option NodeRev) Wrong → Type 0) (S : NodeRev → Result Met Wrong → Type 0) (m : Result Met Wrong) → kind ≡ Dir → InDirectory Dir depth R S m → InDirectory kind depth R S m
in_dir kind depth R S m is h = subst (λ (k : Kind). InDirectory k depth R S m) (sym is) h

-- a child of a directory stands at its path
pub child_stands : (look : RevisionBytes) (rev : ℕ) (dir u : NodeRev) (front : Path) (name : PathName) → StandsAt look rev front dir → dir.kind ≡ Dir → ChildOf look dir name (Ok (Some u)) → StandsAt look rev (front ++ name ∷ []) u
child_stands look rev dir u front name at is child =
    met_behind look rev dir front (name ∷ []) (Ok (Stands u)) at
    (in_dir dir.kind (length front) (ChildOf look dir name) (λ w. MetFrom look w (suc (length front)) []) (Ok (Stands u)) is (Some u, child, refl))

-- ---- the first damage

drop_front : (f r : Path) → drop (length f) (f ++ r) ≡ r
drop_front [] r = refl
drop_front (x ∷ f) r = drop_front f r

take_none : (r : Path) → take 0 r ≡ []
take_none [] = refl
take_none (x ∷ r) = refl

pub take_front : (f r : Path) → take (length f) (f ++ r) ≡ f
take_front [] r = take_none r
take_front (x ∷ f) r = ap (λ (p : Path). x ∷ p) (take_front f r)

module _ (look : RevisionBytes) (rev : ℕ) (w : Wrong) where
  child_damage : (front : Path) (dir : NodeRev) (name : PathName) (names : Path) → StandsAt look rev front dir → dir.kind ≡ Dir → ChildOf look dir name (Err w) → FirstDamage look rev (front ++ name ∷ names) w
  child_damage front dir name names at is child = Below (length front) dir name names (drop_front front (name ∷ names)) (subst (λ (p : Path). StandsAt look rev p dir) (sym (take_front front (name ∷ names))) at) is child

  -- the damage further on, below the child
  abbrev FurtherOn : Path → PathName → Path → Type 0
  FurtherOn front name names = (u : NodeRev) → StandsAt look rev (front ++ name ∷ []) u → MetFrom look u (length (front ++ name ∷ [])) names (Err w) → FirstDamage look rev ((front ++ name ∷ []) ++ names) w

  length_push : (f : Path) (name : PathName) → length (f ++ name ∷ []) ≡ suc (length f)
  length_push [] name = refl
  length_push (x ∷ f) name = ap suc (length_push f name)

  below_child : (front : Path) (name : PathName) (names : Path) (v : NodeRev) (o : Option NodeRev) → StandsAt look rev front v → v.kind ≡ Dir → FurtherOn front name names → ChildOf look v name (Ok o)
      → OrLacking (suc (length front)) (λ u. MetFrom look u (suc (length front)) names) o (Err w) → FirstDamage look rev (front ++ name ∷ names) w
  below_child front name names v None at is next child on = absurd cc
  below_child front name names v (Some u) at is next child on =
      subst (λ (p : Path). FirstDamage look rev p w) (append_assoc front (name ∷ []) names)
      (next u (child_stands look rev v u front name at is child) (subst (λ (n : ℕ). MetFrom look u n names (Err w)) (sym (length_push front name)) on))

  first_in : (front : Path) (name : PathName) (names : Path) (v : NodeRev) (kind : Kind) → StandsAt look rev front v → v.kind ≡ kind → FurtherOn front name names
      → InDirectory kind (length front) (ChildOf look v name) (λ u. MetFrom look u (suc (length front)) names) (Err w) → FirstDamage look rev (front ++ name ∷ names) w
  first_in front name names v File at is next h = absurd cc
  first_in front name names v Dir at is next (inl child) = child_damage front v name names at is child
  first_in front name names v Dir at is next (inr h) = below_child front name names v h.0 at is next h.1 h.2

  first_from : (front rest : Path) (v : NodeRev) → StandsAt look rev front v → MetFrom look v (length front) rest (Err w) → FirstDamage look rev (front ++ rest) w
  first_from front [] v at on = absurd cc
  first_from front (name ∷ names) v at on = first_in front name names v v.kind at refl (λ u stands further. first_from (front ++ name ∷ []) names u stands further) on

  pub first_of_met : (path : Path) → MetAt look rev path (Err w) → FirstDamage look rev path w
  first_of_met path (inl root) = AtRoot root
  first_of_met path (inr h) = first_from [] path h.0 (h.0, h.1, refl) h.2

  pub met_of_first : (path : Path) → FirstDamage look rev path w → MetAt look rev path (Err w)
  met_of_first path (AtRoot root) = inl root
  met_of_first path (Below k dir name rest behind at is child) =
      let parts : take k path ++ (name ∷ rest) ≡ path = ap (λ (t : Path). take k path ++ t) (sym behind) ∙ take-append-drop k path in
      subst (λ (p : Path). MetAt look rev p (Err w)) parts
      (met_behind look rev dir (take k path) (name ∷ rest) (Err w) at (in_dir dir.kind (length (take k path)) (ChildOf look dir name) (λ u. MetFrom look u (suc (length (take k path))) rest) (Err w) is (inl child)))
