-- The names of a directory taken one after another, and what they lead to put before the others.
use Rattle.std.proofs.Common.{◌≡◌, ◌∙◌, ◌≤◌, ◌+◌, ◌-◌, length, take, get_or, arith, Bool, true, false, cond, List, [], ◌∷◌, ◌++◌, map, refl, sym, ap, subst, Option, Some, None, inl, inr, ◌⊎◌}
use Rattle.std.specs.Prelude.{Result, Ok, Err, OnOk, IfErr, option_map, if◌then◌else◌}
use Rattle.std.specs.List.{AllByRecursion}
use Rattle.std.proofs.lemmas.List.{take_all, take_more}
use Rattle.std.proofs.lemmas.Bool.{or_left, or_right, false_from_ne_true, or_from}
use Rattle.fsfs_base.specs.Paths.{PathName, same_name}
use Rattle.fsfs_base.proofs.PathLemmas.{same_name-refl, same_name-is}
use Rattle.fsfs_noderev.specs.declared.node_id.NodeId.{NodeId}
use Rattle.fsfs_revision.specs.Nodes.{is_revision_id}
use Rattle.fsfs_revision.specs.Shows.Reading.{DirEntry, named}
use Rattle.fsfs_dag.specs.declared.directory.DirEntry.{DirEntry as Listed}
use Rattle.fsfs_dag.specs.Views.{entry_value, entry_values}
use Rattle.fsfs_draft.specs.Drafts.{Kept}
use Rattle.fsfs_draft.specs.Steps.{Files, kept_at}
use Rattle.fsfs_final.specs.Order.Orders.{AreHeld}
use Rattle.fsfs_final.specs.Order.Children.{IdsByName, id_named, own_of, own_named, Child, is_named, HaveNamesOnce, IsChild, IsPushed, ArePushed, LacksChild, IfLacking}
use Rattle.fsfs_final.specs.declared.order.error.OrderError.{OrderError}
use Rattle.fsfs_final.specs.declared.order.error.OrderError.TheVariants as errors
use Rattle.fsfs_final.proofs.OrderLists.{differ}

pub record ArePushing (files : Files) (ids left : IdsByName) (old new : List Kept) : Type 0 where
  pub children : List Child
  pub added : new ≡ map (λ (c : Child). c.1) children ++ old
  pub each : AllByRecursion (IsChild files ids) children
  pub once : HaveNamesOnce children
  pub gone : AllByRecursion (λ (c : Child). left c.0 ≡ None) children
  pub rest : (name : PathName) (id : NodeId) → left name ≡ Some id → ids name ≡ Some id
  pub all : (name : PathName) (id : NodeId) → ids name ≡ Some id → is_revision_id id ≡ false → (is_named children name ≡ true) ⊎ (left name ≡ Some id)

pub nothing_pushed : (files : Files) (ids : IdsByName) (old : List Kept) → ArePushing files ids ids old old
nothing_pushed files ids old = record { children = []; added = refl; each = tt; once = tt; gone = tt; rest = λ name id h. h; all = λ name id h lasts. inr h }

pub all_pushed : (files : Files) (ids left : IdsByName) (old new : List Kept) → ((name : PathName) → left name ≡ None) → ArePushing files ids left old new → ArePushed files ids old new
all_pushed files ids left old new none w = record {
  children = w.children;
  added = w.added;
  each = w.each;
  once = w.once;
  all = λ name id h lasts. elim (w.all name id h lasts) [
    | inl a ↦ a
    | inr b ↦ absurd (let clash : None ≡ Some id = sym (none name) ∙ b in cc)
  ];
}

-- what was put is of the folder
children_held : (files : Files) (ids : IdsByName) (cs : List Child) (old : List Kept) → AllByRecursion (IsChild files ids) cs → AreHeld files old → AreHeld files (map (λ (c : Child). c.1) cs ++ old)
children_held files ids [] old a w = w
children_held files ids (c ∷ cs) old a w = ((a.0.0, a.0.3), children_held files ids cs old a.1 w)

pub pushed_held : (files : Files) (ids : IdsByName) (old new : List Kept) → ArePushed files ids old new → AreHeld files old → AreHeld files new
pushed_held files ids old new w was = subst (λ (l : List Kept). AreHeld files l) (sym w.added) (children_held files ids w.children old w.each was)

none_of : (b : Bool) (o : Option NodeId) → o ≡ None → cond b None o ≡ None
none_of true o h = refl
none_of false o h = h

-- one name is taken
module _ (files : Files) (ids left now : IdsByName) (old new : List Kept) (x : PathName) (id : NodeId) (has : left x ≡ Some id) (taken : (y : PathName) → now y ≡ cond (same_name x y) None (left y)) (w : ArePushing files ids left old new) where
  still_gone : (cs : List Child) → AllByRecursion (λ (c : Child). left c.0 ≡ None) cs → AllByRecursion (λ (c : Child). now c.0 ≡ None) cs
  still_gone [] a = tt
  still_gone (c ∷ cs) a = (taken c.0 ∙ none_of (same_name x c.0) (left c.0) a.0, still_gone cs a.1)

  rest_now : (y : PathName) (i : NodeId) → now y ≡ Some i → ids y ≡ Some i
  rest_now y i h = by (same_name x y) (sym (taken y) ∙ h)
    where
      by : (b : Bool) → cond b None (left y) ≡ Some i → ids y ≡ Some i
      by true e = absurd (let clash : None ≡ Some i = e in cc)
      by false e = w.rest y i e

  left_now : (y : PathName) (i : NodeId) → left y ≡ Some i → (same_name x y ≡ true) ⊎ (now y ≡ Some i)
  left_now y i h = by (same_name x y) refl
    where
      by : (b : Bool) → same_name x y ≡ b → (same_name x y ≡ true) ⊎ (now y ≡ Some i)
      by true e = inl e
      by false e = inr (taken y ∙ ap (λ (b : Bool). cond b None (left y)) e ∙ h)

  -- it leads to what is of a revision
  pub skipped : is_revision_id id ≡ true → ArePushing files ids now old new
  skipped lasts = record {
    children = w.children;
    added = w.added;
    each = w.each;
    once = w.once;
    gone = still_gone w.children w.gone;
    rest = rest_now;
    all = λ y i h mine. elim (w.all y i h mine) [
      | inl a ↦ inl a
      | inr b ↦ elim (left_now y i b) [
        | inl s ↦
            let at : left x ≡ Some i = ap left (same_name-is x y s) ∙ b in
            let both : Some id ≡ Some i = sym has ∙ at in
            let same : id ≡ i = (let g = both in cc) in
            absurd (differ (is_revision_id i) (subst (λ (z : NodeId). is_revision_id z ≡ true) same lasts) mine)
        | inr t ↦ inr t
      ]
    ];
  }

  fresh : (cs : List Child) → AllByRecursion (λ (c : Child). left c.0 ≡ None) cs → is_named cs x ≡ false
  fresh [] a = refl
  fresh (c ∷ cs) a = or_from (same_name c.0 x) (is_named cs x) (false_from_ne_true (same_name c.0 x) other) (fresh cs a.1)
    where
      other : same_name c.0 x ≡ true → ⊥
      other e = let clash : None ≡ Some id = sym a.0 ∙ ap left (same_name-is c.0 x e) ∙ has in cc

  -- it leads to an own node-revision, which is put
  pub pushed : (k : Kept) → is_revision_id id ≡ false → kept_at files id ≡ Some k → ArePushing files ids now old (k ∷ new)
  pushed k mine there = record {
    children = (x, k) ∷ w.children;
    added = ap (λ (l : List Kept). k ∷ l) w.added;
    each = ((id, w.rest x id has, mine, there), w.each);
    once = (fresh w.children w.gone, w.once);
    gone = (taken x ∙ ap (λ (b : Bool). cond b None (left x)) (same_name-refl x), still_gone w.children w.gone);
    rest = rest_now;
    all = λ y i h own. elim (w.all y i h own) [
      | inl a ↦ inl (or_right (same_name x y) (is_named w.children y) a)
      | inr b ↦ elim (left_now y i b) [
        | inl s ↦ inl (or_left (same_name x y) (is_named w.children y) s)
        | inr t ↦ inr t
      ]
    ];
  }

  pub one_more : (after : List Kept) → (is_revision_id id ≡ true → after ≡ new) → (is_revision_id id ≡ false → IsPushed (kept_at files id) new after) → ArePushing files ids now old after
  one_more after lasts mine = by (is_revision_id id) refl
    where
      by : (b : Bool) → is_revision_id id ≡ b → ArePushing files ids now old after
      by true e = subst (λ (l : List Kept). ArePushing files ids now old l) (sym (lasts e)) (skipped e)
      by false e = let p = mine e in subst (λ (l : List Kept). ArePushing files ids now old l) (sym p.2) (pushed p.0 e p.1)

pub lacking_as : (e : OrderError) (P Q : Type 0) → (P → Q) → IfLacking e P → IfLacking e Q
lacking_as errors.OutOfMemory P Q f h = tt
lacking_as errors.Lacking P Q f h = f h

pub only_memory : (e : OrderError) (P : Type 0) → IfLacking e P → (P → ⊥) → e ≡ errors.OutOfMemory
only_memory errors.OutOfMemory P h never = refl
only_memory errors.Lacking P h never = absurd (never h)

pub if_lacks : (r : Result (Unit {0}) OrderError) (P Q : Type 0) → (P → Q) → IfErr r (λ e. IfLacking e P) → IfErr r (λ e. IfLacking e Q)
if_lacks (Ok x) P Q f h = h
if_lacks (Err e) P Q f h = lacking_as e P Q f h

pub on_ok : (r : Result (Unit {0}) OrderError) (P Q : Type 0) → (P → Q) → OnOk r P → OnOk r Q
on_ok (Ok x) P Q f h = f h
on_ok (Err e) P Q f h = h

pub no_children : (files : Files) (old : List Kept) → ArePushed files (id_named None) old old
no_children files old = record { children = []; added = refl; each = tt; once = tt; all = λ name id h lasts. absurd (let clash : None ≡ Some id = h in cc) }

-- ---- the ids of the names

-- what is put last counts first
pub put_front : (name : PathName) (e : Listed) (done : List Listed) (o : Option NodeId) → o ≡ own_named (entry_values done) name
    → cond (same_name (entry_value e).name name) (own_of (Some e.id)) o ≡ own_named (entry_values (e ∷ done)) name
put_front name e done o h = by (same_name (entry_value e).name name)
  where
    by : (b : Bool) → cond b (own_of (Some e.id)) o ≡ own_of (option_map (λ (x : DirEntry). x.id) (if b then Some (entry_value e) else named name (entry_values done)))
    by true = refl
    by false = h

-- when none is left all were put
pub whole_list : (name : PathName) (all left done : List Listed) → all ≡ left ++ done → left ≡ [] → own_named (entry_values done) name ≡ own_named (entry_values all) name
whole_list name all left done e none = ap (λ (es : List Listed). own_named (entry_values es) name) (sym (e ∙ ap (λ (l : List Listed). l ++ done) none))

own_some : (o : Option NodeId) (id : NodeId) → o ≡ Some id → is_revision_id id ≡ false → own_of o ≡ Some id
own_some o id is mine = ap own_of is ∙ ap (λ (b : Bool). cond b None (Some id)) mine

own_is : (o : Option NodeId) (id : NodeId) → own_of o ≡ Some id → o ≡ Some id
own_is None id h = h
own_is (Some x) id h = by (is_revision_id x) h
  where
    by : (b : Bool) → cond b None (Some x) ≡ Some id → Some x ≡ Some id
    by true e = absurd (let clash : None ≡ Some id = e in cc)
    by false e = e

-- those that only the names of its own lead to are all
module _ (files : Files) (own ids : IdsByName) (same : (name : PathName) → own name ≡ own_of (ids name)) where
  of_all : (name : PathName) (id : NodeId) → own name ≡ Some id → ids name ≡ Some id
  of_all name id h = own_is (ids name) id (sym (same name) ∙ h)

  children_of : (cs : List Child) → AllByRecursion (IsChild files own) cs → AllByRecursion (IsChild files ids) cs
  children_of [] a = tt
  children_of (c ∷ cs) a = ((a.0.0, of_all c.0 a.0.0 a.0.1, a.0.2, a.0.3), children_of cs a.1)

  pub own_pushed : (old new : List Kept) → ArePushed files own old new → ArePushed files ids old new
  own_pushed old new w = record {
    children = w.children;
    added = w.added;
    each = children_of w.children w.each;
    once = w.once;
    all = λ name id h mine. w.all name id (same name ∙ own_some (ids name) id h mine) mine;
  }

  pub own_lacks : LacksChild files own → LacksChild files ids
  own_lacks w = (w.0, w.1, of_all w.0 w.1 w.2, w.3, w.4)

-- the last of those that are left
pub last_split : (xs : List Listed) (x : Listed) → 1 ≤ length xs → x ≡ get_or xs (length xs - 1) x → xs ≡ take (length xs - 1) xs ++ x ∷ []
last_split xs x some is =
    sym (take_all (length xs - 1 + 1) xs (omega (arith, some)))
    ∙ take_more xs (length xs - 1) x (omega (arith, some))
    ∙ ap (λ (y : Listed). take (length xs - 1) xs ++ y ∷ []) (sym is)
