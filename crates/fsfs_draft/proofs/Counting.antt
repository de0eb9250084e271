-- Names that are counted, one after another.
use Rattle.std.proofs.Common.{◌≡◌, ◌≤◌, ◌+◌, ℕ, Bool, true, false, ◌||◌, ◌&&◌, cond, List, [], ◌∷◌, ◌++◌, length, refl, sym, ap, ◌∙◌, arith}
use Rattle.std.specs.Prelude.{Some, is_some, Err}
use Rattle.std.specs.Cmp.Lexicographic.{nat_list_eq_equiv}
use Rattle.std.proofs.lemmas.List.Folds.{list_any-append}
use Rattle.std.proofs.lemmas.Map.Keys.{IsDistinct-push, IsDistinct-from_apart}
use Rattle.fsfs_base.specs.Paths.{PathName, same_name, same_path}
use Rattle.fsfs_base.proofs.PathLemmas.{same_name-is}
use Rattle.fsfs_revision.specs.Told.{RevisionBytes}
use Rattle.fsfs_revision.specs.declared.wrong.ReadError.{ReadError}
use Rattle.fsfs_revision.specs.declared.wrong.ReadError.TheVariants as reads
use Rattle.fsfs_revision.specs.Damage.Readings.{Answers}
use Rattle.fsfs_revision.specs.Shows.Reading.{DirEntry, named}
use Rattle.fsfs_dag.proofs.PairLemmas.{entries_seen}
use Rattle.fsfs_draft.specs.Drafts.{Kept}
use Rattle.fsfs_draft.specs.Entries.{OfKept}
use Rattle.fsfs_draft.specs.Errors.{of_read}
use Rattle.fsfs_draft.specs.Names.{CountsNames, HasNames, IsRoomOf}
use Rattle.fsfs_draft.proofs.Walking.{length_push}

pub no_names : CountsNames (λ x. false) 0
no_names = record { names = []; apart = IsDistinct-from_apart same_name [] (λ i j d before within. absurd (omega (arith, within))); each = λ x. refl; count_is = refl }

-- names that are held alike
pub held_alike : (held more : PathName → Bool) (count : ℕ) → ((x : PathName) → held x ≡ more x) → CountsNames held count → CountsNames more count
held_alike held more count alike c = record { names = c.names; apart = c.apart; each = λ x. c.each x ∙ alike x; count_is = c.count_is }

-- a name more
pub one_more : (held more : PathName → Bool) (count : ℕ) (name : PathName) → CountsNames held count → ((x : PathName) → more x ≡ cond (same_name name x) true (held x)) → CountsNames more (count + cond (held name) 0 1)
one_more held more count name c updates = by (held name) refl
  where
    known : held name ≡ true → (x : PathName) (b : Bool) → same_name name x ≡ b → held x ≡ more x
    known had x true same = ap held (sym (same_name-is name x same)) ∙ had ∙ sym (updates x ∙ ap (λ (b : Bool). cond b true (held x)) same)
    known had x false other = sym (updates x ∙ ap (λ (b : Bool). cond b true (held x)) other)

    pushed : (x : PathName) (b : Bool) → same_name name x ≡ b → (held x || (same_name x name || false)) ≡ more x
    pushed x true same = ap (λ (b : Bool). held x || (b || false)) (nat_list_eq_equiv.symm x name ∙ same) ∙ or_true (held x) ∙ sym (updates x ∙ ap (λ (b : Bool). cond b true (held x)) same)
      where
        or_true : (b : Bool) → (b || true) ≡ true
        or_true true = refl
        or_true false = refl
    pushed x false other = ap (λ (b : Bool). held x || (b || false)) (nat_list_eq_equiv.symm x name ∙ other) ∙ or_false (held x) ∙ sym (updates x ∙ ap (λ (b : Bool). cond b true (held x)) other)
      where
        or_false : (b : Bool) → (b || false) ≡ b
        or_false true = refl
        or_false false = refl

    by : (b : Bool) → held name ≡ b → CountsNames more (count + cond b 0 1)
    by true had = record { names = c.names; apart = c.apart; each = λ x. c.each x ∙ known had x (same_name name x) refl; count_is = (let h = c.count_is in omega (arith, h)) }
    by false new = record {
      names = c.names ++ name ∷ [];
      apart = IsDistinct-push nat_list_eq_equiv c.names name c.apart (c.each name ∙ new);
      each = λ x. list_any-append (same_name x) c.names (name ∷ []) ∙ ap (λ (b : Bool). b || (same_name x name || false)) (c.each x) ∙ pushed x (same_name name x) refl;
      count_is = (let h = c.count_is in let g = length_push c.names name in omega (arith, h, g));
    }

-- no list has more names than entries
pub names_in : (entries : List DirEntry) → (count : ℕ) × HasNames entries count × (count ≤ length entries)
names_in [] = (0, no_names, omega arith)
names_in (e ∷ es) =
    let inner = names_in es in
    (inner.0 + cond (is_some (named e.name es)) 0 1, one_more (λ x. is_some (named x es)) (λ x. is_some (named x (e ∷ es))) inner.0 e.name inner.1 (λ x. more x (same_name e.name x)), (let h = fewer (is_some (named e.name es)) inner.0 (length es) inner.2 in omega (arith, h)))
  where
    more : (x : PathName) (b : Bool) → is_some (cond b (Some e) (named x es)) ≡ cond b true (is_some (named x es))
    more x true = refl
    more x false = refl

    fewer : (b : Bool) (m n : ℕ) → m ≤ n → m + cond b 0 1 ≤ n + 1
    fewer true m n le = omega (arith, le)
    fewer false m n le = omega (arith, le)

pub one_name : (a b : PathName) → same_path (a ∷ []) (b ∷ []) ≡ same_name a b
one_name a b = by (same_name a b)
  where
    by : (c : Bool) → (c && true) ≡ c
    by true = refl
    by false = refl

pub room_fails : (look : RevisionBytes) (k : Kept) (e : ReadError) → Answers entries_seen (OfKept look k) (Err e) → IsRoomOf look k (Err (of_read e))
room_fails look k reads.OutOfMemory h = tt
room_fails look k reads.DiskFault h = tt
room_fails look k (reads.Wrong w) h = h
