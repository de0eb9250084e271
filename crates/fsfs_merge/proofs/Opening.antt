-- What is left to look at when a path was found, and when a directory was opened.
use Rattle.std.proofs.Common.{◌≡◌, ◌∙◌, Bool, true, false, cond, List, [], ◌∷◌, ◌++◌, map, refl, sym, ap, subst, Option, Some, None, inl, inr, ◌⊎◌, append_assoc, drop, length, append-nil}
use Rattle.std.specs.Prelude.{if◌then◌else◌, is_some}
use Rattle.std.specs.List.{AllByRecursion, list_any}
use Rattle.std.specs.Map.{lookup}
use Rattle.std.specs.BTreeMap.{is_at}
use Rattle.std.specs.Ordering.{nat_cmp}
use Rattle.std.specs.Cmp.Lexicographic.{slice_cmp}
use Rattle.std.specs.String.{string_bytes}
use Rattle.std.specs.declared.string.String.{String}
use Rattle.std.specs.declared.alloc.Global.{Global}
use Rattle.std.specs.declared.cmp.Ordering.TheVariants.{Less}
use Rattle.std.proofs.lemmas.Map.Text.{is_eq-slice_cmp}
use Rattle.std.proofs.lemmas.Bool.{and_from, and_parts, both_ways, cases_Bool, or_cases, or_left, or_right}
use mathlib.Core.Bool.{false≢true}
use Rattle.fsfs_base.specs.Paths.{PathName, Path, path_cmp, covers, same_name}
use Rattle.fsfs_base.proofs.PathLemmas.{same_name-is, covers-longer, split_at}
use Rattle.fsfs_model.specs.Flat.Landing.{reached}
use Rattle.fsfs_merge.specs.declared.sight.Sight.{Sight}
use Rattle.fsfs_merge.specs.Walks.{merges, is_stopped, down, clashes_by_ids}
use Rattle.fsfs_merge.specs.FirstStops.{NoStop}
use Rattle.fsfs_merge.proofs.FirstStopLaw.{walks_find_the_first}
use Rattle.fsfs_merge.specs.declared.clash.three.Target.{Target}
use Rattle.fsfs_merge.specs.declared.clash.three.Three.{Three}
use Rattle.fsfs_merge.specs.declared.clash.three.Which.{Which}
use Rattle.fsfs_merge.specs.declared.clash.three.Which.TheVariants.{Changed, Made}
use Rattle.fsfs_merge.specs.declared.clash.entries.Entries.{Entries}
use Rattle.fsfs_merge.specs.declared.clash.entries.Sides.{Sides}
use Rattle.fsfs_merge.specs.declared.clash.walk.Pending.{Pending}
use Rattle.fsfs_merge.specs.declared.clash.walk.Found.{Found}
use Rattle.fsfs_merge.specs.Clash.Lists.{target_in, names_in, three_in}
use Rattle.fsfs_merge.specs.Clash.Points.{Point, sights_of, goes_down}
use Rattle.fsfs_merge.specs.Clash.Threes.{changed_in, is_changed, made_in, is_made, is_of}
use Rattle.fsfs_merge.specs.Clash.UnderWay.{IsPending, ArePending, NotAfter, AreFoundOrLeft, IsHalt, IsFirst}
use Rattle.fsfs_merge.specs.Clash.Walks.{pending, if_changed, changed, least, opened}
use Rattle.fsfs_merge.specs.declared.clash.turn.Halt.{Halt}
use Rattle.fsfs_merge.proofs.Turns.{unchanged}
use Rattle.fsfs_merge.proofs.Orders.{least_new, least_old, least_is}

-- ---- lists

pub any_left : {X : Type 0} (f : X → Bool) (xs ys : List X) → list_any f xs ≡ true → list_any f (xs ++ ys) ≡ true
any_left f [] ys h = absurd (false≢true h)
any_left f (x ∷ xs) ys h = elim (or_cases _ _ h) [
  | inl w ↦ or_left (f x) (list_any f (xs ++ ys)) w
  | inr w ↦ or_right (f x) (list_any f (xs ++ ys)) (any_left f xs ys w)
]

pub any_right : {X : Type 0} (f : X → Bool) (xs ys : List X) → list_any f ys ≡ true → list_any f (xs ++ ys) ≡ true
any_right f [] ys h = h
any_right f (x ∷ xs) ys h = or_right (f x) (list_any f (xs ++ ys)) (any_right f xs ys h)

pub any_parts : {X : Type 0} (f : X → Bool) (xs ys : List X) → list_any f (xs ++ ys) ≡ true → (list_any f xs ≡ true) ⊎ (list_any f ys ≡ true)
any_parts f [] ys h = inr h
any_parts f (x ∷ xs) ys h = elim (or_cases _ _ h) [
  | inl w ↦ inl (or_left (f x) (list_any f xs) w)
  | inr w ↦ elim (any_parts f xs ys w) [
    | inl u ↦ inl (or_right (f x) (list_any f xs) u)
    | inr u ↦ inr u
  ]
]

pub any_one : {X : Type 0} (f : X → Bool) (x : X) → list_any f (x ∷ []) ≡ true → f x ≡ true
any_one f x h = elim (or_cases _ _ h) [
  | inl w ↦ w
  | inr w ↦ absurd (false≢true w)
]

pub all_append : {X : Type 0} (P : X → Type 0) (xs ys : List X) → AllByRecursion P xs → AllByRecursion P ys → AllByRecursion P (xs ++ ys)
all_append P [] ys a b = b
all_append P (x ∷ xs) ys a b = (a.0, all_append P xs ys a.1 b)

pub all_front : {X : Type 0} (P : X → Type 0) (xs : List X) (x : X) → AllByRecursion P (xs ++ x ∷ []) → AllByRecursion P xs × P x
all_front P [] x a = (tt, a.0)
all_front P (y ∷ xs) x a = let w = all_front P xs x a.1 in ((a.0, w.0), w.1)

-- ---- names of a directory

among_from : (name : PathName) (es : List (String Global × Target)) (t : Target) → lookup (is_at (λ (k : String Global). slice_cmp nat_cmp name (string_bytes k))) es ≡ Some t → list_any (same_name name) (map (λ (p : String Global × Target). string_bytes p.0) es) ≡ true
among_from name [] t h = absurd (let g : None ≡ Some t = h in cc)
among_from name (e ∷ es) t h = elim (cases_Bool (is_at (λ (k : String Global). slice_cmp nat_cmp name (string_bytes k)) e.0)) [
  | inl w ↦ or_left _ _ (sym (is_eq-slice_cmp name (string_bytes e.0)) ∙ w)
  | inr w ↦ or_right _ _ (among_from name es t (sym (ap (λ (b : Bool). cond b (Some e.1) (lookup (is_at (λ (k : String Global). slice_cmp nat_cmp name (string_bytes k))) es)) w) ∙ h))
]

-- what stands behind a name is among the names
among : (name : PathName) (e : Entries) (o : Option Target) → target_in e name ≡ o → is_some o ≡ true → list_any (same_name name) (names_in e) ≡ true
among name e None h s = absurd (false≢true s)
among name e (Some t) h s = among_from name e.targets.entries t h

-- ---- what was changed behind names

one_of : (which : Which) (path : Path) (three : Three) (q : Path) → is_of which three ≡ true → covers path q ≡ true → list_any (λ (p : Pending). covers p.path q) (if_changed which path three) ≡ true
one_of which path three q c h = subst (λ (b : Bool). list_any (λ (p : Pending). covers p.path q) (if b then pending path three ∷ [] else []) ≡ true) (sym c) (or_left _ _ h)

any_changed : (which : Which) (path : Path) (sides : Sides) (name : PathName) (names : List PathName) (q : Path) → list_any (same_name name) names ≡ true → is_of which (three_in sides name) ≡ true → covers (path ++ name ∷ []) q ≡ true
    → list_any (λ (p : Pending). covers p.path q) (changed which path sides names) ≡ true
any_changed which path sides name [] q h c w = absurd (false≢true h)
any_changed which path sides name (x ∷ names) q h c w = elim (or_cases _ _ h) [
  | inl here ↦
      let same = same_name-is name x here in
      any_left (λ (p : Pending). covers p.path q) (if_changed which (path ++ x ∷ []) (three_in sides x)) (changed which path sides names)
      (one_of which (path ++ x ∷ []) (three_in sides x) q (subst (λ (n : PathName). is_of which (three_in sides n) ≡ true) same c) (subst (λ (n : PathName). covers (path ++ n ∷ []) q ≡ true) same w))
  | inr further ↦ any_right (λ (p : Pending). covers p.path q) (if_changed which (path ++ x ∷ []) (three_in sides x)) (changed which path sides names) (any_changed which path sides name names q further c w)
]

all_if : (P : Pending → Type 0) (path : Path) (three : Three) (b : Bool) → (b ≡ true → P (pending path three)) → AllByRecursion P (if b then pending path three ∷ [] else [])
all_if P path three true h = (h refl, tt)
all_if P path three false h = tt

all_changed : (which : Which) (P : Pending → Type 0) (path : Path) (sides : Sides) (names : List PathName) → ((name : PathName) → is_of which (three_in sides name) ≡ true → P (pending (path ++ name ∷ []) (three_in sides name))) → AllByRecursion P (changed which path sides names)
all_changed which P path sides [] h = tt
all_changed which P path sides (x ∷ names) h =
    all_append P (if_changed which (path ++ x ∷ []) (three_in sides x)) (changed which path sides names) (all_if P (path ++ x ∷ []) (three_in sides x) (is_of which (three_in sides x)) (h x)) (all_changed which P path sides names h)

-- what both made both changed
made_changed : (three : Three) → is_made three ≡ true → is_changed three ≡ true
made_changed three m = by three.base m
  where
    by : (o : Option Target) → made_in o three.head three.own ≡ true → changed_in o three.head three.own ≡ true
    by None k = k
    by (Some t) k = absurd (false≢true k)

all_opened : (P : Pending → Type 0) (path : Path) (sides : Sides) (todo : List Pending) → ((name : PathName) → is_changed (three_in sides name) ≡ true → P (pending (path ++ name ∷ []) (three_in sides name))) → AllByRecursion P todo → AllByRecursion P (opened path sides todo)
all_opened P path sides todo h was =
    all_append P (todo ++ changed Changed path sides (names_in sides.base)) (changed Made path sides (names_in sides.own))
    (all_append P todo (changed Changed path sides (names_in sides.base)) was (all_changed Changed P path sides (names_in sides.base) h))
    (all_changed Made P path sides (names_in sides.own) (λ name m. h name (made_changed (three_in sides name) m)))

-- the names of the base, and those of the transaction that both sides made, are enough
changed_some : (three : Three) → is_changed three ≡ true → (is_some three.base ≡ true) ⊎ ((is_made three ≡ true) × (is_some three.own ≡ true))
changed_some three c = by three.base refl c
  where
    by : (o : Option Target) → three.base ≡ o → changed_in o three.head three.own ≡ true → (is_some three.base ≡ true) ⊎ ((is_made three ≡ true) × (is_some three.own ≡ true))
    by (Some t) e k = inl (ap is_some e)
    by None e k = inr (ap (λ (o : Option Target). made_in o three.head three.own) e ∙ k, (and_parts (is_some three.head) (is_some three.own) k).1)

pub any_opened : (path : Path) (sides : Sides) (todo : List Pending) (name : PathName) (q : Path) → is_changed (three_in sides name) ≡ true → covers (path ++ name ∷ []) q ≡ true → list_any (λ (p : Pending). covers p.path q) (opened path sides todo) ≡ true
any_opened path sides todo name q c w = elim (changed_some (three_in sides name) c) [
  | inl s ↦ any_left (λ (p : Pending). covers p.path q) (todo ++ changed Changed path sides (names_in sides.base)) (changed Made path sides (names_in sides.own))
      (any_right (λ (p : Pending). covers p.path q) todo (changed Changed path sides (names_in sides.base)) (any_changed Changed path sides name (names_in sides.base) q (among name sides.base (target_in sides.base name) refl s) c w))
  | inr s ↦ any_right (λ (p : Pending). covers p.path q) (todo ++ changed Changed path sides (names_in sides.base)) (changed Made path sides (names_in sides.own))
      (any_changed Made path sides name (names_in sides.own) q (among name sides.own (target_in sides.own name) refl s.1) s.0 w)
]

pub reached_push : (f : Path → Bool) (p : Path) (name : PathName) → reached f p ≡ true → f p ≡ true → reached f (p ++ name ∷ []) ≡ true
reached_push f [] name r m = and_from _ _ m refl
reached_push f (x ∷ p) name r m = let w = and_parts (f []) (reached (λ (q : Path). f (x ∷ q)) p) r in and_from _ _ w.0 (reached_push (λ (q : Path). f (x ∷ q)) p name w.1 m)

-- ---- the walk

module _ (points : Path → Point) where
  abbrev pub see : Path → Sight
  see = sights_of points

  -- a path that stops the walk is found
  pub found : (todo : List Pending) (p : Pending) (halt : Halt) (first : Option Found) → IsPending points p → is_stopped (see p.path) ≡ true → AreFoundOrLeft see (todo ++ p ∷ []) first
      → AreFoundOrLeft see todo (Some (least first (record { path = p.path; halt = halt })))
  found todo p halt first is s all q h = elim (all q h) [
    | inl rest ↦ elim (any_parts (λ (z : Pending). covers z.path q) todo (p ∷ []) rest) [
      | inl w ↦ inl w
      | inr w ↦ inr (least first new, refl, least_new first new q (below (any_one (λ (z : Pending). covers z.path q) p w)))
    ]
    | inr w ↦ inr (least first new, refl, older first w.0 w.1 w.2)
  ]
    where
      new : Found
      new = record { path = p.path; halt = halt }

      below : covers p.path q ≡ true → NotAfter p.path q
      below c less =
          let rest = drop (length p.path) q in
          let whole : p.path ++ rest ≡ q = split_at p.path q c in
          let here = walks_find_the_first.clash see p.path is.met.comes s in
          both_ways _ (subst (λ (z : Path). clashes_by_ids see z ≡ false) whole (here.least rest (subst (λ (z : Path). path_cmp z p.path ≡ Less) (sym whole) less))) h

      older : (o : Option Found) (c : Found) → o ≡ Some c → NotAfter c.path q → NotAfter (least o new).path q
      older None c e n = absurd (let g : None ≡ Some c = e in cc)
      older (Some d) c e n = least_old new d q (let same : d ≡ c = (let g = e in cc) in subst (λ (z : Found). NotAfter z.path q) (sym same) n)

  pub found_halts : (p : Pending) (halt : Halt) (first : Option Found) → IsPending points p → is_stopped (see p.path) ≡ true → (points p.path).halt ≡ Some halt → ((c : Found) → first ≡ Some c → IsHalt points c)
      → (c : Found) → Some (least first (record { path = p.path; halt = halt })) ≡ Some c → IsHalt points c
  found_halts p halt first is s h old c e =
      let new : Found = record { path = p.path; halt = halt } in
      let same : least first new ≡ c = (let g = e in cc) in
      subst (IsHalt points) same (least_is (IsHalt points) first new (record { stops = and_from _ _ is.met.comes s; halt = h }) old)

  -- what stands below a directory that was opened is left, where both sides changed it
  module _ (p : Pending) (is : IsPending points p) (sides : Sides) (lists : (name : PathName) → three_in sides name ≡ (points (p.path ++ name ∷ [])).three)
      (m : merges (see p.path) ≡ true) (s : is_stopped (see p.path) ≡ false) where
    pub still : (todo : List Pending) → ArePending points todo → ArePending points (opened p.path sides todo)
    still todo was =
        all_opened (IsPending points) p.path sides todo
        (λ name c. record {
          three = lists name;
          met = record { comes = reached_push (down see) p.path name is.met.comes m; changed = subst (λ (t : Three). is_changed t ≡ true) (lists name) c };
        }) was

    -- nothing stops the walk where one side has the base's
    quiet : (name : PathName) → is_changed (three_in sides name) ≡ false → NoStop see (p.path ++ name ∷ [])
    quiet name c =
        let at = points (p.path ++ name ∷ []) in
        let w = unchanged at.three.base at.three.head at.three.own (goes_down at.halt) (subst (λ (t : Three). is_changed t ≡ false) (lists name) c) in
        walks_find_the_first.left see (p.path ++ name ∷ []) w.0 w.1

    pub left : (todo : List Pending) (first : Option Found) → AreFoundOrLeft see (todo ++ p ∷ []) first → AreFoundOrLeft see (opened p.path sides todo) first
    left todo first all q h = elim (all q h) [
      | inr w ↦ inr w
      | inl w ↦ elim (any_parts (λ (z : Pending). covers z.path q) todo (p ∷ []) w) [
        | inl u ↦ inl (any_left (λ (z : Pending). covers z.path q) (todo ++ changed Changed p.path sides (names_in sides.base)) (changed Made p.path sides (names_in sides.own)) (any_left (λ (z : Pending). covers z.path q) todo (changed Changed p.path sides (names_in sides.base)) u))
        | inr u ↦ inl (below (drop (length p.path) q) (split_at p.path q (any_one (λ (z : Pending). covers z.path q) p u)))
      ]
    ]
      where
        below : (rest : Path) → p.path ++ rest ≡ q → list_any (λ (z : Pending). covers z.path q) (opened p.path sides todo) ≡ true
        below [] e =
            let here : p.path ≡ q = sym (append-nil p.path) ∙ e in
            absurd (both_ways _ s ((and_parts (reached (down see) p.path) (is_stopped (see p.path)) (subst (λ (z : Path). clashes_by_ids see z ≡ true) (sym here) h)).1))
        below (name ∷ rest) e =
            let whole : (p.path ++ name ∷ []) ++ rest ≡ q = append_assoc p.path (name ∷ []) rest ∙ e in
            elim (cases_Bool (is_changed (three_in sides name))) [
              | inl c ↦ any_opened p.path sides todo name q c (subst (λ (z : Path). covers (p.path ++ name ∷ []) z ≡ true) whole (covers-longer (p.path ++ name ∷ []) rest))
              | inr c ↦ absurd (both_ways _ (subst (λ (z : Path). clashes_by_ids see z ≡ false) whole (quiet name c rest)) h)
            ]

  -- nothing is left
  pub ends : (first : Option Found) → ((c : Found) → first ≡ Some c → IsHalt points c) → AreFoundOrLeft see [] first → IsFirst points first
  ends None halts all = λ q. by q (clashes_by_ids see q) refl
    where
      by : (q : Path) (b : Bool) → clashes_by_ids see q ≡ b → clashes_by_ids see q ≡ false
      by q false e = e
      by q true e = elim (all q e) [
        | inl w ↦ absurd (false≢true w)
        | inr w ↦ absurd (let g : None ≡ Some w.0 = w.1 in cc)
      ]
  ends (Some c) halts all =
      let is = halts c refl in (
        record {
          rest = c.path;
          below = refl;
          stops = is.stops;
          least = λ q less. by q less (clashes_by_ids see q) refl;
        },
        is.halt,
      )
    where
      by : (q : Path) → path_cmp q c.path ≡ Less → (b : Bool) → clashes_by_ids see q ≡ b → clashes_by_ids see q ≡ false
      by q less false e = e
      by q less true e = elim (all q e) [
        | inl w ↦ absurd (false≢true w)
        | inr w ↦ absurd (w.2 (subst (λ (z : Found). path_cmp q z.path ≡ Less) (let same : c ≡ w.0 = (let g = w.1 in cc) in same) less))
      ]
