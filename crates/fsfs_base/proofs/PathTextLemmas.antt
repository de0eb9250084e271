-- Names between slashes: read exactly, refused exactly.
use Rattle.std.proofs.Common.{◌≡◌, ◌≢◌, ℕ, suc, ◌+◌, ◌<◌, ◌≤◌, Bool, true, false, ◌||◌, not, cond, eqb, ltb, leb, List, [], ◌∷◌, ◌++◌, length, Option, Some, None, refl, sym, ap, subst, ◌∙◌, append_assoc, arith, inl, inr, ◌⊎◌, map, take, get_or}
use Rattle.std.proofs.lemmas.Option.{same_Some}
use Rattle.std.proofs.lemmas.Bool.{ltb-true, ltb-false, leb-true, leb-false, lt-leb, le-ltb, eqb-true, eqb-false, ne_eqb, not-true}
use Rattle.std.proofs.lemmas.List.{nil_from_length, length-append, take_more, take_all, append-nil, map-append}
use Rattle.std.specs.List.{AllByRecursion, position, slice_split, onto_first, list_any, position_or_len}
use Rattle.std.specs.Prelude.{nat_lt}
use Rattle.fsfs_base.proofs.Readers.{chosen}
use Rattle.fsfs_base.proofs.CutLemmas.{lacks_from}
use Rattle.fsfs_base.specs.Paths.{PathName, Path, names_text, path_text, is_root}
use Rattle.fsfs_base.specs.PathTexts.{is_control, is_dots, HasNoSlash, IsName, IsPath, IsNameFault, HasBadName, IsBadJoin, IsBadPath, IsJoined}
use Rattle.fsfs_base.specs.PathReading.{control_fault_at, name_fault_at, or_else, names_fault_at}
use Rattle.fsfs_base.specs.declared.paths.bad_path.BadPath.{BadPath}
use Rattle.fsfs_base.specs.declared.paths.bad_path.PathFault.{PathFault}
use Rattle.fsfs_base.specs.declared.paths.bad_path.PathFault.TheVariants.{NotAbsolute, TooDeep, EmptyName, Control, NameTooLong, Dot}
use Rattle.fsfs_base.specs.Grammar.Cuts.{Lacks}

abbrev pub pieces : List ℕ → Path
pieces = slice_split (λ b. eqb b 47)

-- ---- the pieces of a text

pub names_text-append : (p q : Path) → names_text (p ++ q) ≡ names_text p ++ names_text q
names_text-append [] q = refl
names_text-append (x ∷ p) q = ap (λ (t : List ℕ). 47 ∷ x ++ t) (names_text-append p q) ∙ ap (λ (t : List ℕ). 47 ∷ t) (sym (append_assoc x (names_text p) (names_text q)))

onto_text : (b : ℕ) (bs : List ℕ) (ps : Path) → names_text ps ≡ 47 ∷ bs → names_text (onto_first b ps) ≡ 47 ∷ b ∷ bs
onto_text b bs [] e = absurd cc
onto_text b bs (x ∷ ps) e = let rest : x ++ names_text ps ≡ bs = cc in ap (λ (t : List ℕ). 47 ∷ b ∷ t) rest

pub pieces_text : (bs : List ℕ) → names_text (pieces bs) ≡ 47 ∷ bs
pieces_text [] = refl
pieces_text (b ∷ bs) = go (pieces_text bs) (eqb b 47) refl
  where
    go : names_text (pieces bs) ≡ 47 ∷ bs → (t : Bool) → eqb b 47 ≡ t → names_text (cond t ([] ∷ pieces bs) (onto_first b (pieces bs))) ≡ 47 ∷ b ∷ bs
    go h true e = ap (λ (t : List ℕ). 47 ∷ t) h ∙ ap (λ (c : ℕ). 47 ∷ c ∷ bs) (sym (eqb-true b 47 e))
    go h false e = onto_text b bs (pieces bs) h

onto_whole : (b : ℕ) (ps : Path) → b ≢ 47 → AllByRecursion HasNoSlash ps → AllByRecursion HasNoSlash (onto_first b ps)
onto_whole b [] ne h = ((ne, tt), tt)
onto_whole b (x ∷ ps) ne h = ((ne, h.0), h.1)

pub pieces_whole : (bs : List ℕ) → AllByRecursion HasNoSlash (pieces bs)
pieces_whole [] = (tt, tt)
pieces_whole (b ∷ bs) = go (pieces_whole bs) (eqb b 47) refl
  where
    go : AllByRecursion HasNoSlash (pieces bs) → (t : Bool) → eqb b 47 ≡ t → AllByRecursion HasNoSlash (cond t ([] ∷ pieces bs) (onto_first b (pieces bs)))
    go h true e = (tt, h)
    go h false e = onto_whole b (pieces bs) (eqb-false b 47 e) h

-- a name is followed by the end or by a slash
same_name_first : (x y : PathName) (p q : Path) → HasNoSlash x → HasNoSlash y → x ++ names_text p ≡ y ++ names_text q → (x ≡ y) × (names_text p ≡ names_text q)
same_name_first [] [] p q a b e = (refl, e)
same_name_first [] (d ∷ y) [] q a b e = absurd cc
same_name_first [] (d ∷ y) (n ∷ p) q a b e = let slash : 47 ≡ d = cc in absurd (b.0 (sym slash))
same_name_first (c ∷ x) [] p [] a b e = absurd cc
same_name_first (c ∷ x) [] p (n ∷ q) a b e = let slash : c ≡ 47 = cc in absurd (a.0 slash)
same_name_first (c ∷ x) (d ∷ y) p q a b e =
    let first : c ≡ d = cc in
    let rest : x ++ names_text p ≡ y ++ names_text q = cc in
    let w = same_name_first x y p q a.1 b.1 rest in
    (λ i. first i ∷ w.0 i, w.1)

-- a text has one way to be cut into names
pub names_text_injective : (p q : Path) → AllByRecursion HasNoSlash p → AllByRecursion HasNoSlash q → names_text p ≡ names_text q → p ≡ q
names_text_injective [] [] a b e = refl
names_text_injective [] (y ∷ q) a b e = absurd cc
names_text_injective (x ∷ p) [] a b e = absurd cc
names_text_injective (x ∷ p) (y ∷ q) a b e =
    let rest : x ++ names_text p ≡ y ++ names_text q = cc in
    let w = same_name_first x y p q a.0 b.0 rest in
    let others = names_text_injective p q a.1 b.1 w.1 in
    λ i. w.0 i ∷ others i

-- ---- one name

-- a fault that was found, from the byte where the name begins
record Faulty (above at : ℕ) (name : PathName) (bad : BadPath) : Type 0 where
  pub offset : ℕ
  pub at_is : bad.at ≡ at + offset
  pub fault : IsNameFault above name offset bad.why

abbrev fault_here : ℕ → PathFault → BadPath
fault_here at why = record { at = at; why = why }

faulty : (above at offset : ℕ) (name : PathName) (why : PathFault) (bad : BadPath) → Some (fault_here (at + offset) why) ≡ Some bad → IsNameFault above name offset why → Faulty above at name bad
faulty above at offset name why bad e is = let same = same_Some (fault_here (at + offset) why) bad e in subst (Faulty above at name) same (record { offset = offset; at_is = refl; fault = is })

faulty_here : (above at : ℕ) (name : PathName) (why : PathFault) (bad : BadPath) → Some (fault_here at why) ≡ Some bad → IsNameFault above name 0 why → Faulty above at name bad
faulty_here above at name why bad e is = let zeroed : at + 0 ≡ at = omega arith in faulty above at 0 name why bad (ap (λ (k : ℕ). Some (fault_here k why)) zeroed ∙ e) is

name_faulty : (above at : ℕ) (name : PathName) (bad : BadPath) → name_fault_at above at name ≡ Some bad → Faulty above at name bad
name_faulty above at name bad e = elim (chosen (leb 128 above) (Some (fault_here at TooDeep)) (cond (eqb (length name) 0) (Some (fault_here at EmptyName)) (control_fault_at at name (position is_control name))) (Some bad) e) [
  | inl w ↦ faulty_here above at name TooDeep bad w.1 (leb-true _ _ w.0, refl)
  | inr w ↦
      let low : above < 128 = leb-false _ _ w.0 in
      elim (chosen (eqb (length name) 0) (Some (fault_here at EmptyName)) (control_fault_at at name (position is_control name)) (Some bad) w.1) [
        | inl v ↦ faulty_here above at name EmptyName bad v.1 (low, nil_from_length name (eqb-true _ _ v.0), refl)
        | inr v ↦ control low (position is_control name) refl v.1
      ]
]
  where
    control : above < 128 → (o : Option ℕ) → position is_control name ≡ o → control_fault_at at name o ≡ Some bad → Faulty above at name bad
    control low (Some offset) is e = faulty above at offset name Control bad e (low, is)
    control low None is e = elim (chosen (ltb 255 (length name)) (Some (fault_here at NameTooLong)) (cond (is_dots name) (Some (fault_here at Dot)) None) (Some bad) e) [
      | inl v ↦ faulty_here above at name NameTooLong bad v.1 (low, is, ltb-true _ _ v.0, refl)
      | inr v ↦ elim (chosen (is_dots name) (Some (fault_here at Dot)) None (Some bad) v.1) [
        | inl u ↦ faulty_here above at name Dot bad u.1 (low, u.0, refl)
        | inr u ↦ absurd cc
      ]
    ]

name_good : (above at : ℕ) (name : PathName) → HasNoSlash name → name_fault_at above at name ≡ None → (above < 128) × IsName name
name_good above at name whole e = elim (chosen (leb 128 above) (Some (fault_here at TooDeep)) (cond (eqb (length name) 0) (Some (fault_here at EmptyName)) (control_fault_at at name (position is_control name))) None e) [
  | inl w ↦ absurd cc
  | inr w ↦ elim (chosen (eqb (length name) 0) (Some (fault_here at EmptyName)) (control_fault_at at name (position is_control name)) None w.1) [
    | inl v ↦ absurd cc
    | inr v ↦ (leb-false _ _ w.0, control (λ z. eqb-false _ _ v.0 (ap length z)) (position is_control name) refl v.1)
  ]
]
  where
    control : name ≢ [] → (o : Option ℕ) → position is_control name ≡ o → control_fault_at at name o ≡ None → IsName name
    control some (Some offset) is e = absurd cc
    control some None is e = elim (chosen (ltb 255 (length name)) (Some (fault_here at NameTooLong)) (cond (is_dots name) (Some (fault_here at Dot)) None) None e) [
      | inl v ↦ absurd cc
      | inr v ↦ elim (chosen (is_dots name) (Some (fault_here at Dot)) None None v.1) [
        | inl u ↦ absurd cc
        | inr u ↦ record { some = some; no_slash = whole; no_control = is; fits = ltb-false _ _ v.0; no_dots = u.0 }
      ]
    ]

name_passes : (above at : ℕ) (name : PathName) → above < 128 → IsName name → name_fault_at above at name ≡ None
name_passes above at name low good =
    let deep : leb 128 above ≡ false = lt-leb 128 above low in
    let some : eqb (length name) 0 ≡ false = ne_eqb (length name) 0 (λ z. good.some (nil_from_length name z)) in
    let fits : ltb 255 (length name) ≡ false = le-ltb 255 (length name) good.fits in
    rw (deep, some, good.no_control, fits, good.no_dots) refl

-- ---- names one after another

-- the first name of the list that is refused
record FirstFaulty (above at : ℕ) (names : Path) (bad : BadPath) : Type 0 where
  pub before : Path
  pub name : PathName
  pub behind : Path
  pub offset : ℕ
  pub parts : names ≡ before ++ name ∷ behind
  pub good : AllByRecursion IsName before
  pub deep : before ≢ [] → above + length before ≤ 128
  pub at_is : bad.at ≡ at + length (names_text before) + offset
  pub fault : IsNameFault (above + length before) name offset bad.why

or_else_some : (x y : Option BadPath) (bad : BadPath) → or_else x y ≡ Some bad → (x ≡ Some bad) ⊎ ((x ≡ None) × (y ≡ Some bad))
or_else_some (Some x) y bad e = inl e
or_else_some None y bad e = inr (refl, e)

or_else_none : (x y : Option BadPath) → or_else x y ≡ None → (x ≡ None) × (y ≡ None)
or_else_none (Some x) y e = absurd cc
or_else_none None y e = (refl, e)

names_faulty : (above at : ℕ) (names : Path) (bad : BadPath) → AllByRecursion HasNoSlash names → names_fault_at above at names ≡ Some bad → FirstFaulty above at names bad
unfolding names_fault_at
names_faulty above at [] bad whole e = absurd cc
names_faulty above at (name ∷ names) bad whole e = elim (or_else_some (name_fault_at above at name) (names_fault_at (above + 1) (at + length name + 1) names) bad e) [
  | inl w ↦
      let f = name_faulty above at name bad w in
      let none : above + 0 ≡ above = omega arith in
      record {
        before = [];
        name = name;
        behind = names;
        offset = f.offset;
        parts = refl;
        good = tt;
        deep = λ some. absurd (some refl);
        at_is = omega (arith, f.at_is);
        fault = subst (λ (k : ℕ). IsNameFault k name f.offset bad.why) (sym none) f.fault;
      }
  | inr w ↦
      let one = name_good above at name whole.0 w.0 in
      let f = names_faulty (above + 1) (at + length name + 1) names bad whole.1 w.1 in
      let deeper : above + 1 + length f.before ≡ above + suc (length f.before) = omega arith in
      record {
        before = name ∷ f.before;
        name = f.name;
        behind = f.behind;
        offset = f.offset;
        parts = ap (λ (p : Path). name ∷ p) f.parts;
        good = (one.1, f.good);
        deep = λ _. within f.before one.0 f.deep;
        at_is = omega (arith, f.at_is, length-append name (names_text f.before));
        fault = subst (λ (k : ℕ). IsNameFault k f.name f.offset bad.why) deeper f.fault;
      }
]
  where
    within : (before : Path) → above < 128 → (before ≢ [] → above + 1 + length before ≤ 128) → above + suc (length before) ≤ 128
    within [] low deep = omega (arith, low)
    within (x ∷ p) low deep = omega (arith, deep (λ e. let no : ⊥ = cc in no))

names_good : (above at : ℕ) (names : Path) → AllByRecursion HasNoSlash names → names_fault_at above at names ≡ None → AllByRecursion IsName names × (names ≢ [] → above + length names ≤ 128)
unfolding names_fault_at
names_good above at [] whole e = (tt, λ some. absurd (some refl))
names_good above at (name ∷ names) whole e =
    let w = or_else_none (name_fault_at above at name) (names_fault_at (above + 1) (at + length name + 1) names) e in
    let one = name_good above at name whole.0 w.0 in
    let rest = names_good (above + 1) (at + length name + 1) names whole.1 w.1 in
    ((one.1, rest.0), λ _. within names one.0 rest.1)
  where
    within : (names : Path) → above < 128 → (names ≢ [] → above + 1 + length names ≤ 128) → above + suc (length names) ≤ 128
    within [] low deep = omega (arith, low)
    within (x ∷ p) low deep = omega (arith, deep (λ e. let no : ⊥ = cc in no))

names_pass : (above at : ℕ) (names : Path) → AllByRecursion IsName names → above + length names ≤ 128 → names_fault_at above at names ≡ None
unfolding names_fault_at
names_pass above at [] good deep = refl
names_pass above at (name ∷ names) good deep = rw (name_passes above at name (omega (arith, deep)) good.0) (names_pass (above + 1) (at + length name + 1) names good.1 (omega (arith, deep)))

-- ---- a text behind a path

pub names_whole : (names : Path) → AllByRecursion IsName names → AllByRecursion HasNoSlash names
names_whole [] good = tt
names_whole (x ∷ p) good = (good.0.no_slash, names_whole p good.1)

pub join_refused : (above : Path) (text : List ℕ) (bad : BadPath) → names_fault_at (length above) (length (names_text above) + 1) (pieces text) ≡ Some bad → HasBadName above (47 ∷ text) bad.at bad.why
join_refused above text bad e =
    let f = names_faulty (length above) (length (names_text above) + 1) (pieces text) bad (pieces_whole text) e in
    let size = ap length (names_text-append above f.before) ∙ length-append (names_text above) (names_text f.before) in
    record {
      before = f.before;
      name = f.name;
      behind = f.behind;
      offset = f.offset;
      text_is = sym (pieces_text text) ∙ ap names_text f.parts;
      between = subst (AllByRecursion HasNoSlash) f.parts (pieces_whole text);
      good = f.good;
      deep = f.deep;
      at_is = omega (arith, f.at_is, size);
      fault = f.fault;
    }

pub join_reads : (above : Path) (text : List ℕ) → length (names_text above) + 1 + length text ≤ 4096 → names_fault_at (length above) (length (names_text above) + 1) (pieces text) ≡ None → IsJoined above text (above ++ pieces text)
join_reads above text fits e =
    let w = names_good (length above) (length (names_text above) + 1) (pieces text) (pieces_whole text) e in
    record {
      names = pieces text;
      path_is = refl;
      text_is = pieces_text text;
      good = w.0;
      deep = omega (arith, length-append above (pieces text), w.1 (λ none. let bad : [] ≡ 47 ∷ text = ap names_text (sym none) ∙ pieces_text text in let no : ⊥ = cc in no));
      fits = omega (arith, fits, ap length (names_text-append above (pieces text)), length-append (names_text above) (names_text (pieces text)), ap length (pieces_text text));
    }

-- what may be joined is not refused, and is what is read
pub record Passes (above : Path) (text : List ℕ) (path : Path) : Type 0 where
  pub fits : length (names_text above) + 1 + length text ≤ 4096
  pub no_fault : names_fault_at (length above) (length (names_text above) + 1) (pieces text) ≡ None
  pub same : above ++ pieces text ≡ path

pub join_passes : (above : Path) (text : List ℕ) (path : Path) → IsJoined above text path → Passes above text path
join_passes above text path w =
    let names : pieces text ≡ w.names = names_text_injective (pieces text) w.names (pieces_whole text) (names_whole w.names w.good) (pieces_text text ∙ sym w.text_is) in
    let size = ap length (ap names_text w.path_is ∙ names_text-append above w.names) ∙ length-append (names_text above) (names_text w.names) in
    record {
      fits = omega (arith, w.fits, size, ap length w.text_is);
      no_fault = subst (λ (p : Path). names_fault_at (length above) (length (names_text above) + 1) p ≡ None) (sym names) (names_pass (length above) (length (names_text above) + 1) w.names w.good (omega (arith, w.deep, ap length w.path_is, length-append above w.names)));
      same = ap (λ (p : Path). above ++ p) names ∙ sym w.path_is;
    }

pub join_refusal : (above : Path) (text : List ℕ) (bad : BadPath) → length (names_text above) + 1 + length text ≤ 4096 → names_fault_at (length above) (length (names_text above) + 1) (pieces text) ≡ Some bad → IsBadJoin above text bad.at bad.why
join_refusal above text bad fits e = rw (le-ltb 4096 (length (names_text above) + 1 + length text) fits) (join_refused above text bad e)

-- ---- a whole text

pub absolute : (path : Path) → (rest : List ℕ) × (path_text path ≡ 47 ∷ rest)
absolute [] = ([], refl)
absolute (x ∷ p) = (x ++ names_text p, refl)

pub root_only : (path : Path) → IsPath path → path_text path ≡ 47 ∷ [] → [] ≡ path
root_only [] is e = refl
root_only ([] ∷ p) is e = absurd (is.names.0.some refl)
root_only ((c ∷ x) ∷ p) is e = absurd cc

-- a text has one path at most
pub path_by_text : (p q : Path) → IsPath p → IsPath q → path_text p ≡ path_text q → p ≡ q
path_by_text [] q a b e = root_only q b (sym e)
path_by_text (x ∷ p) [] a b e = sym (root_only (x ∷ p) a e)
path_by_text (x ∷ p) (y ∷ q) a b e = names_text_injective (x ∷ p) (y ∷ q) (names_whole (x ∷ p) a.names) (names_whole (y ∷ q) b.names) e

pub joined_path : (above : Path) (text : List ℕ) (path : Path) → above ≡ [] → IsJoined above text path → IsPath path × (path_text path ≡ 47 ∷ text)
joined_path above text path root w = go w.names (w.path_is ∙ ap (λ (p : Path). p ++ w.names) root) w.text_is w.good
  where
    go : (names : Path) → path ≡ names → names_text names ≡ 47 ∷ text → AllByRecursion IsName names → IsPath path × (path_text path ≡ 47 ∷ text)
    go [] same e good = absurd cc
    go (x ∷ p) same e good =
        let shown : path_text path ≡ 47 ∷ text = ap path_text same ∙ e in
        let size : length (path_text path) ≡ length (names_text path) = ap length (ap path_text same ∙ sym (ap names_text same)) in
        (record { names = subst (AllByRecursion IsName) (sym same) good; deep = w.deep; fits = omega (arith, w.fits, size) }, shown)

pub path_joined : (above : Path) (text : List ℕ) (path : Path) → above ≡ [] → text ≢ [] → IsPath path → path_text path ≡ 47 ∷ text → IsJoined above text path
path_joined above text [] root some is e = absurd (some (let none : [] ≡ text = cc in sym none))
path_joined above text (x ∷ p) root some is e = record { names = x ∷ p; path_is = ap (λ (q : Path). q ++ x ∷ p) (sym root); text_is = e; good = is.names; deep = is.deep; fits = is.fits }

-- ---- writing

pub shown_names : (path : Path) → is_root path ≡ false → names_text path ≡ path_text path
shown_names [] e = absurd cc
shown_names (x ∷ p) e = refl

pub text_more : {A : Type 0} (f : A → PathName) (names : List A) (k : ℕ) (d : A) → k < length names → names_text (map f (take (k + 1) names)) ≡ names_text (map f (take k names)) ++ 47 ∷ f (get_or names k d)
text_more f names k d lt =
    ap (λ xs. names_text (map f xs)) (take_more names k d lt)
    ∙ ap names_text (map-append f (take k names) (get_or names k d ∷ []))
    ∙ names_text-append (map f (take k names)) (f (get_or names k d) ∷ [])
    ∙ ap (λ (t : List ℕ). names_text (map f (take k names)) ++ 47 ∷ t) (append-nil (f (get_or names k d)))

pub last_name : (path : Path) (n : ℕ) → length path ≡ suc n → (name : PathName) × (path ≡ take n path ++ name ∷ [])
last_name path n size = (get_or path n [], sym (take_all (n + 1) path (omega (arith, size))) ∙ take_more path n [] (omega (arith, size)))

pub written_more : (out text name : List ℕ) → ((out ++ text) ++ 47 ∷ []) ++ name ≡ out ++ (text ++ 47 ∷ name)
written_more out text name = simp append_assoc

-- ---- a name alone

no_slash : (name : PathName) → list_any (λ b. eqb b 47) name ≡ false → HasNoSlash name
no_slash [] e = tt
no_slash (c ∷ name) e = go (eqb c 47) refl e (no_slash name)
  where
    go : (t : Bool) → eqb c 47 ≡ t → (t || list_any (λ b. eqb b 47) name) ≡ false → (list_any (λ b. eqb b 47) name ≡ false → HasNoSlash name) → HasNoSlash (c ∷ name)
    go true is e h = absurd cc
    go false is e h = (eqb-false c 47 is, h e)

no_slash_found : (name : PathName) → HasNoSlash name → list_any (λ b. eqb b 47) name ≡ false
no_slash_found [] h = refl
no_slash_found (c ∷ name) h = rw (ne_eqb c 47 h.0) (no_slash_found name h.1)

pub name_taken : (name : PathName) → list_any (λ b. eqb b 47) name ≡ false → name_fault_at 0 0 name ≡ None → IsName name
name_taken name slash e = (name_good 0 0 name (no_slash name slash) e).1

pub name_taken_back : (name : PathName) → IsName name → (list_any (λ b. eqb b 47) name ≡ false) × (name_fault_at 0 0 name ≡ None)
name_taken_back name is = (no_slash_found name is.no_slash, name_passes 0 0 name (omega arith) is)

pub name_is_taken : (name : PathName) (slash : Bool) → slash ≡ list_any (λ b. eqb b 47) name → None ≡ name_fault_at 0 0 name → (not slash ≡ true → IsName name) × (IsName name → not slash ≡ true)
name_is_taken name slash is e = (λ t. name_taken name (sym is ∙ not-true slash t) (sym e), λ w. ap not (is ∙ (name_taken_back name w).0))

pub name_is_refused : (name : PathName) (bad : BadPath) → Some bad ≡ name_fault_at 0 0 name → IsName name → ⊥
name_is_refused name bad e w = let h = e ∙ (name_taken_back name w).1 in cc

-- ---- one line

-- no control byte, so no end of a line
name_line : (name : List ℕ) → position is_control name ≡ None → Lacks 10 name
name_line name e = go (nat_lt (position_or_len is_control name) (length name)) refl e
  where
    all : (xs : List ℕ) → length xs ≤ position_or_len is_control xs → Lacks 10 xs
    all [] le = tt
    all (b ∷ bs) le = here b bs (is_control b) refl le (all bs)
      where
        here : (b : ℕ) (bs : List ℕ) (t : Bool) → is_control b ≡ t → suc (length bs) ≤ cond (not t) (1 + position_or_len is_control bs) 0 → (length bs ≤ position_or_len is_control bs → Lacks 10 bs) → Lacks 10 (b ∷ bs)
        here b bs true is le more = absurd (omega (arith, le))
        here b bs false is le more = (ne_eqb b 10 (λ same. clash (sym (ap is_control same) ∙ is)), more (omega (arith, le)))
          where
            clash : true ≡ false → ⊥
            clash e = cc

    go : (t : Bool) → nat_lt (position_or_len is_control name) (length name) ≡ t → cond t (Some (position_or_len is_control name)) None ≡ None → Lacks 10 name
    go true is e = absurd cc
    go false is e = all name (ltb-false _ _ is)

names_line : (p : Path) → AllByRecursion IsName p → Lacks 10 (names_text p)
names_line [] all = tt
names_line (x ∷ p) all = (refl, lacks_from 10 x (names_text p) (name_line x all.0.no_control) (names_line p all.1))

pub path_text_line : (p : Path) → IsPath p → Lacks 10 (path_text p)
path_text_line [] w = (refl, tt)
path_text_line (x ∷ p) w = names_line (x ∷ p) w.names
