-- The entries of a directory, pair by pair.
use Rattle.std.proofs.Common.{◌≡◌, ℕ, suc, ◌≤◌, List, [], ◌∷◌, ◌++◌, length, true, false, Option, Some, Result, Ok, Err, refl, sym, ap, subst, ◌∙◌, arith, inl, inr}
use Rattle.std.specs.Prelude.{Bool, is_ok, is_err, if◌then◌else◌, cond, codes}
use Rattle.std.specs.declared.vec.Vec.{Vec}
use Rattle.std.specs.declared.alloc.Global.{Global}
use Rattle.std.proofs.lemmas.List.{append-nil}
use Rattle.fsfs_noderev.specs.declared.rep.Rep.{Rep}
use Rattle.fsfs_revision.specs.declared.damage.RevOffset.{RevOffset}
use Rattle.fsfs_revision.specs.declared.wrong.Wrong.{Wrong}
use Rattle.fsfs_revision.specs.declared.wrong.ReadError.{ReadError}
use Rattle.fsfs_revision.specs.declared.wrong.ReadError.TheVariants as errors
use Rattle.fsfs_revision.specs.declared.damage.DamageKind.TheVariants as what
use Rattle.fsfs_revision.specs.declared.damage.RepWhat.TheVariants as repwhat
use Rattle.fsfs_revision.specs.Damage.Damages.{damaged}
use Rattle.fsfs_revision.specs.Damage.Readings.{AndThen, Answers}
use Rattle.fsfs_noderev.specs.Fields.{IsIdText}
use Rattle.fsfs_noderev.specs.declared.node_id.NodeId.{NodeId}
use Rattle.fsfs_revision.specs.Rep.Frames.{bad_rep}
use Rattle.fsfs_revision.proofs.HeaderLemmas.{head_same}
use Rattle.fsfs_revision.proofs.OneEntry.{value_one}
use Rattle.fsfs_revision.specs.Shows.Reading.{DirEntry as EntryValue, IsEntryName, IsEntryValue, IsEntry, AreEntries, FirstPairFails, kind_word, EntriesIn, EntriesOf, ChildOf, OfNamed, OfEntry, named, offset_of}
use Rattle.fsfs_base.specs.Paths.{PathName, same_name}
use Rattle.fsfs_base.specs.declared.kind.Kind.{Kind}
use Rattle.fsfs_base.specs.declared.kind.Kind.TheVariants.{File, Dir}
use Rattle.fsfs_revision.specs.Told.{RevisionBytes}
use Rattle.fsfs_noderev.specs.declared.node_id.Place.{Place}
use Rattle.fsfs_noderev.specs.declared.node_id.Place.TheVariants as places
use Rattle.fsfs_noderev.specs.declared.node_rev.NodeRev.{NodeRev}
use Rattle.fsfs_revision.specs.Nodes.{place_before}
use Rattle.fsfs_dag.specs.declared.directory.DirEntry.{DirEntry}
use Rattle.fsfs_dag.specs.Views.{entry_value, entry_values, IsBefore, AreBefore, PutsEntry}
use Rattle.fsfs_dag.proofs.Reps.{before_le}

-- ---- the word before an id

words_one : (k l : Kind) (a b : List ℕ) → kind_word k ++ a ≡ kind_word l ++ b → a ≡ b
words_one File File a b e = cc
words_one File Dir a b e = absurd (let h = head_same 102 100 (codes "ile " ++ a) (codes "ir " ++ b) e in omega arith)
words_one Dir File a b e = absurd (let h = head_same 100 102 (codes "ir " ++ a) (codes "ile " ++ b) e in omega arith)
words_one Dir Dir a b e = cc

-- the id behind the word of a value
pub id_behind : (value text : List ℕ) (k l : Kind) (id : NodeId) → value ≡ kind_word k ++ text → IsEntryValue value l id → IsIdText text id
id_behind value text k l id parts v = subst (λ (t : List ℕ). IsIdText t id) (words_one l k v.id_text text (sym v.parts ∙ parts)) v.id_is

-- ---- the pairs of a dump, one after another

abbrev pub Pair : Type 0
Pair = List ℕ × List ℕ

values_push : (items : List DirEntry) (entry : DirEntry) (tail : List EntryValue) → entry_values (items ++ entry ∷ []) ++ tail ≡ entry_values items ++ entry_value entry ∷ tail
values_push [] entry tail = refl
values_push (x ∷ items) entry tail = ap (λ (t : List EntryValue). entry_value x ∷ t) (values_push items entry tail)

before_push : (home : RevOffset) (items : List DirEntry) (entry : DirEntry) → AreBefore home items → IsBefore home entry → AreBefore home (items ++ entry ∷ [])
before_push home [] entry all one = (one, tt)
before_push home (x ∷ items) entry all one = (all.0, before_push home items entry all.1 one)

-- some first pairs are these entries: whatever the rest is, the whole is so
pub record AreSoFar (home : RevOffset) (rep : Rep) (pairs rest : List Pair) (items : List DirEntry) : Type 0 where
  pub found : (tail : List EntryValue) → AreEntries home rest tail → AreEntries home pairs (entry_values items ++ tail)
  pub wrong : (w : Wrong) → FirstPairFails home rep rest w → FirstPairFails home rep pairs w
  pub before : AreBefore home items

pub none_so_far : (home : RevOffset) (rep : Rep) (pairs rest : List Pair) (items : List DirEntry) → rest ≡ pairs → items ≡ [] → AreSoFar home rep pairs rest items
none_so_far home rep pairs rest items all none = record {
  found = λ tail h. subst (λ (t : List DirEntry). AreEntries home pairs (entry_values t ++ tail)) (sym none) (subst (λ (p : List Pair). AreEntries home p tail) all h);
  wrong = λ w h. subst (λ (p : List Pair). FirstPairFails home rep p w) all h;
  before = subst (λ (t : List DirEntry). AreBefore home t) (sym none) tt;
}

pub one_more : (home : RevOffset) (rep : Rep) (pairs left rest : List Pair) (pair : Pair) (items new : List DirEntry) (entry : DirEntry)
    → AreSoFar home rep pairs left items → left ≡ pair ∷ rest → IsEntry home pair (entry_value entry) → IsBefore home entry → new ≡ items ++ entry ∷ [] → AreSoFar home rep pairs rest new
one_more home rep pairs left rest pair items new entry so is one before pushed = subst (λ (t : List DirEntry). AreSoFar home rep pairs rest t) (sym pushed) more
  where
    more : AreSoFar home rep pairs rest (items ++ entry ∷ [])
    more = record {
      found = λ tail h. subst (λ (t : List EntryValue). AreEntries home pairs t) (sym (values_push items entry tail))
          (so.found (entry_value entry ∷ tail) (subst (λ (p : List Pair). AreEntries home p (entry_value entry ∷ tail)) (sym is) (one, h)));
      wrong = λ w h. so.wrong w (subst (λ (p : List Pair). FirstPairFails home rep p w) (sym is) (inr (entry_value entry, one, h)));
      before = before_push home items entry so.before before;
    }

abbrev pub entries_seen : Vec DirEntry Global → List EntryValue
entries_seen v = entry_values v.items

pub first_wrong : (home : RevOffset) (rep : Rep) (pairs left rest : List Pair) (pair : Pair) (items new : List DirEntry) (e : ReadError)
    → AreSoFar home rep pairs left items → left ≡ pair ∷ rest → PutsEntry home rep pair items new (Err e) → Answers entries_seen (EntriesIn home rep pairs) (Err e)
first_wrong home rep pairs left rest pair items new (errors.Wrong w) so is h = so.wrong w (subst (λ (p : List Pair). FirstPairFails home rep p w) (sym is) (inl h))
first_wrong home rep pairs left rest pair items new errors.OutOfMemory so is h = tt
first_wrong home rep pairs left rest pair items new errors.DiskFault so is h = tt

pub all_found : (home : RevOffset) (rep : Rep) (pairs left : List Pair) (items : List DirEntry) → AreSoFar home rep pairs left items → left ≡ [] → AreEntries home pairs (entry_values items)
all_found home rep pairs left items so is =
    subst (λ (t : List EntryValue). AreEntries home pairs t) (append-nil (entry_values items)) (so.found [] (subst (λ (p : List Pair). AreEntries home p []) (sym is) tt))

-- a value that was read goes into what follows, whose own value goes into what follows that
pub goes_on_through : {X Y B Z : Type 0} (view : B → Z) (result : Result B ReadError) (R : Result X Wrong → Type 0) (S : X → Result Y Wrong → Type 0) (T : Y → Result Z Wrong → Type 0) (x : X)
    → R (Ok x) → Answers view (AndThen (S x) T) result → Answers view (AndThen (AndThen R S) T) result
goes_on_through view (Ok b) R S T x r (y, s, t) = (y, (x, r, s), t)
goes_on_through view (Err (errors.Wrong w)) R S T x r (inl s) = inl (inr (x, r, s))
goes_on_through view (Err (errors.Wrong w)) R S T x r (inr (y, s, t)) = inr (y, (x, r, s), t)
goes_on_through view (Err errors.OutOfMemory) R S T x r h = tt
goes_on_through view (Err errors.DiskFault) R S T x r h = tt

-- ---- one pair

-- what was put at the end, where the push did not fail
pub pushed : {A : Type 0} (r : Result (Unit {0}) A) (old new : List DirEntry) (entry : DirEntry) → false ≡ is_err r → new ≡ (if is_ok r then old ++ entry ∷ [] else old) → new ≡ old ++ entry ∷ []
pushed (Ok x) old new entry e h = h
pushed (Err x) old new entry e h = absurd cc

module _ (home : RevOffset) (rep : Rep) (pair : Pair) (old new : List DirEntry) where
  pub bad_value : (e : ReadError) → e ≡ errors.Wrong (bad_rep rep repwhat.EntryValue) → IsEntryName pair.0 → ((kind : Kind) (id : NodeId) → IsEntryValue pair.1 kind id → ⊥) → PutsEntry home rep pair old new (Err e)
  bad_value e is name none = subst (λ (x : ReadError). PutsEntry home rep pair old new (Err x)) (sym is) (inr (name, inl ((λ v. none v.0 v.1 v.2), refl)))

  pub late_place : (e : ReadError) (kind : Kind) (id : NodeId) → e ≡ errors.Wrong (damaged home what.PlaceOrder) → IsEntryName pair.0 → IsEntryValue pair.1 kind id → place_before home id.place ≡ false → PutsEntry home rep pair old new (Err e)
  late_place e kind id is name value late =
      let none : (found : (entry : EntryValue) × IsEntry home pair entry) → ⊥ = λ found.
      let same = value_one pair.1 found.0.kind kind found.0.id id found.1.value_is value in
      let no : true ≡ false = sym found.1.before ∙ ap (λ (i : NodeId). place_before home i.place) same.1 ∙ late in
      cc in
      subst (λ (x : ReadError). PutsEntry home rep pair old new (Err x)) (sym is) (inr (name, inr ((kind, id, value), inl (none, refl))))

-- ---- the entry of a name

pub place_le : (home : RevOffset) (place : Place) → place_before home place ≡ true → (offset_of place).rev ≤ home.rev
place_le home (places.At rev offset) h = before_le rev offset home h
place_le home (places.In txn) h = absurd cc

pub named_before : (home : RevOffset) (name : PathName) (items : List DirEntry) (x : EntryValue) → AreBefore home items → named name (entry_values items) ≡ Some x → place_before home x.id.place ≡ true
named_before home name [] x all h = absurd cc
named_before home name (entry ∷ items) x all h = by_test (same_name (entry_value entry).name name) (named_before home name items x all.1) h
  where
    by_test : (test : Bool) → (named name (entry_values items) ≡ Some x → place_before home x.id.place ≡ true) → cond test (Some (entry_value entry)) (named name (entry_values items)) ≡ Some x → place_before home x.id.place ≡ true
    by_test true later e = let same : entry_value entry ≡ x = cc in subst (λ (v : EntryValue). place_before home v.id.place ≡ true) same all.0
    by_test false later e = later e

module _ (look : RevisionBytes) (v : NodeRev) (name : PathName) (all : List EntryValue) (x : EntryValue) (read : EntriesOf look v (Ok all)) (is : named name all ≡ Some x) where
  of_some : (r : Result (Option NodeRev) Wrong) → OfNamed look (Some x) r → OfNamed look (named name all) r
  of_some r h = subst (λ (n : Option EntryValue). OfNamed look n r) (sym is) h

  pub child_found : (u : NodeRev) → OfEntry look x (Ok u) → ChildOf look v name (Ok (Some u))
  child_found u h = (all, read, of_some (Ok (Some u)) h)

  pub child_wrong : {A B : Type 0} (first : A → NodeRev) (second : B → Option NodeRev) (e : ReadError) → Answers first (OfEntry look x) (Err e) → Answers second (ChildOf look v name) (Err e)
  child_wrong first second (errors.Wrong w) h = inr (all, read, of_some (Err w) h)
  child_wrong first second errors.OutOfMemory h = tt
  child_wrong first second errors.DiskFault h = tt
