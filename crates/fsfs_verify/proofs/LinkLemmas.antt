-- Going up from a place, a name at a time.
use Rattle.std.proofs.Common.{◌≡◌, ◌≤◌, ◌⊎◌, ◌++◌, ◌+◌, ◌-◌, ℕ, Bool, true, false, List, [], ◌∷◌, length, take, get_or, map, refl, sym, ap, subst, ◌∙◌, inl, inr, arith}
use Rattle.std.specs.Prelude.{Option, Some, None, if◌then◌else◌}
use Rattle.std.proofs.lemmas.List.{same_from_push, length_push, map_push, take_all, take_more}
use Rattle.fsfs_base.specs.Paths.{PathName, Path, same_name}
use Rattle.fsfs_base.proofs.PathLemmas.{same_name-is, same_name-refl}
use Rattle.fsfs_verify.specs.declared.links.Links.{Links}
use Rattle.fsfs_verify.specs.LinksUp.{LinkValue, link_at, alone_by, LeadsUp, Here, Up}

no_push : (p : Path) (x : PathName) → p ++ x ∷ [] ≡ [] → ⊥
no_push p x e = omega (arith, length_push p x, ap length e)

-- it is at the root, or named once by a directory further up
pub data LedUp (links : Links) (root place : ℕ) (path : Path) : Type 0 where
  AtRoot : place ≡ root → path ≡ [] → LedUp links root place path
  Below : (link : LinkValue) (rest : Path) → link_at links place ≡ Some link → link.again ≡ false → LeadsUp links root link.dir rest → path ≡ rest ++ link.name ∷ [] → LedUp links root place path

pub led_up : {links : Links} {root place : ℕ} {path : Path} → LeadsUp links root place path → LedUp links root place path
led_up Here = AtRoot refl refl
led_up (Up place link path is once up) = Below link path is once up refl

-- what is named once by this name
pub record NamedAlone (o : Option LinkValue) (name : PathName) (dir : ℕ) : Type 0 where
  pub link : LinkValue
  pub is : o ≡ Some link
  pub once : link.again ≡ false
  pub name_is : link.name ≡ name
  pub dir_is : link.dir ≡ dir

pub alone_is : (o : Option LinkValue) (name : PathName) (dir : ℕ) → alone_by name o ≡ Some dir → NamedAlone o name dir
alone_is None name dir e = absurd cc
alone_is (Some link) name dir e = by link.again refl (same_name link.name name) refl e
  where
    by : (a : Bool) → link.again ≡ a → (s : Bool) → same_name link.name name ≡ s → (if a then None else (if s then Some link.dir else None)) ≡ Some dir → NamedAlone (Some link) name dir
    by true again s same h = absurd cc
    by false again false same h = absurd cc
    by false again true same h = record { link = link; is = refl; once = again; name_is = same_name-is link.name name same; dir_is = (let d : link.dir ≡ dir = cc in d) }

pub is_alone : (link : LinkValue) (name : PathName) → link.again ≡ false → link.name ≡ name → alone_by name (Some link) ≡ Some link.dir
is_alone link name once same = by link.again once (same_name link.name name) (ap (λ (n : PathName). same_name n name) same ∙ same_name-refl name)
  where
    by : (a : Bool) → a ≡ false → (s : Bool) → s ≡ true → (if a then None else (if s then Some link.dir else None)) ≡ Some link.dir
    by true once s same = absurd cc
    by false once true same = refl
    by false once false same = absurd cc

module _ (links : Links) (root at : ℕ) (front : Path) (last : PathName) where
  -- a name further up, and back down
  pub leads_on : (dir : ℕ) → alone_by last (link_at links at) ≡ Some dir → LeadsUp links root dir front → LeadsUp links root at (front ++ last ∷ [])
  leads_on dir found up =
      let n = alone_is (link_at links at) last dir found in
      subst (λ (x : PathName). LeadsUp links root at (front ++ x ∷ [])) n.name_is (Up at n.link front n.is n.once (subst (λ (d : ℕ). LeadsUp links root d front) (sym n.dir_is) up))

  led_back : LeadsUp links root at (front ++ last ∷ []) → (dir : ℕ) × (alone_by last (link_at links at) ≡ Some dir) × LeadsUp links root dir front
  led_back up = by (led_up up)
    where
      by : LedUp links root at (front ++ last ∷ []) → (dir : ℕ) × (alone_by last (link_at links at) ≡ Some dir) × LeadsUp links root dir front
      by (AtRoot same none) = absurd (no_push front last none)
      by (Below link rest is once further parts) =
          let e = same_from_push front rest last link.name parts in
          (link.dir, ap (alone_by last) is ∙ is_alone link last once (sym e.1), subst (λ (p : Path). LeadsUp links root link.dir p) (sym e.0) further)

  pub leads_back : (dir : ℕ) → alone_by last (link_at links at) ≡ Some dir → LeadsUp links root at (front ++ last ∷ []) → LeadsUp links root dir front
  leads_back dir found up =
      let b = led_back up in
      let e : (let o : Option ℕ = Some b.0 in o) ≡ Some dir = sym b.1 ∙ found in
      subst (λ (d : ℕ). LeadsUp links root d front) (let same : b.0 ≡ dir = cc in same) b.2

  pub leads_nowhere : alone_by last (link_at links at) ≡ None → LeadsUp links root at (front ++ last ∷ []) → ⊥
  leads_nowhere none up = let b = led_back up in let e : (let o : Option ℕ = Some b.0 in o) ≡ None = sym b.1 ∙ none in cc

pub leads_to_root : (links : Links) (root at : ℕ) (path : Path) → path ≡ [] → LeadsUp links root at path → at ≡ root
leads_to_root links root at path none up = by (led_up up)
  where
    by : LedUp links root at path → at ≡ root
    by (AtRoot same nil) = same
    by (Below link rest is once further parts) = absurd (no_push rest link.name (sym parts ∙ none))

pub root_leads : (links : Links) (root at : ℕ) (path : Path) → path ≡ [] → at ≡ root → LeadsUp links root at path
root_leads links root at path none same = subst (λ (p : Path). LeadsUp links root at p) (sym none) (subst (λ (d : ℕ). LeadsUp links root d []) (sym same) Here)

-- a list with its last one apart
pub last_apart : {X Y : Type 0} (f : X → Y) (xs : List X) (x : X) → 1 ≤ length xs → x ≡ get_or xs (length xs - 1) x → map f xs ≡ map f (take (length xs - 1) xs) ++ f x ∷ []
last_apart {X} {Y} f xs x some is = ap (map f) parts ∙ map_push f (take (length xs - 1) xs) x
  where
    parts : xs ≡ take (length xs - 1) xs ++ x ∷ []
    parts =
        sym (take_all (length xs - 1 + 1) xs (omega (arith, some)))
        ∙ take_more xs (length xs - 1) x (omega (arith, some))
        ∙ ap (λ (y : X). take (length xs - 1) xs ++ y ∷ []) (sym is)
