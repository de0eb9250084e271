-- What is noted of a draft for which transaction alone it stands.
use Rattle.std.proofs.Common.{◌≡◌, ◌<◌, ◌≤◌, ◌+◌, ℕ, suc, List, [], ◌∷◌, ◌++◌, length, true, refl, sym, ap, subst, ◌∙◌, arith, take, append-nil, length-append}
use Rattle.std.specs.Prelude.{Option, Some, None, is_some}
use Rattle.std.proofs.lemmas.List.{length-take-le}
use Rattle.fsfs_tree.specs.Revisions.{Revision}
use Rattle.fsfs_model.specs.Flat.Transactions.{IsNext}
use Rattle.fsfs_machine.specs.declared.machine.Recorded.{Recorded}
use Rattle.fsfs_machine.specs.declared.machine.Txn.{Txn}
use Rattle.fsfs_machine.specs.Machine.{revisions, entry_of}
use Rattle.fsfs_turn.specs.Adoptions.{adoption}
use Rattle.fsfs_turn.specs.Bytes.{BytesShow}
use Rattle.fsfs_turn.specs.Courses.{ReadOnly}
use Rattle.fsfs_turn.specs.Views.{View, Begins}
use Rattle.fsfs_turn.specs.declared.adoption.Adoption.{Adoption}
use Rattle.fsfs_commit.specs.Works.{LandedOn}
use Rattle.fsfs_commit.specs.declared.transaction.standing.Standing.{Standing}
use Rattle.fsfs_commit.specs.Transaction.Pinned.{IsPinned, IsAdopted, LandsAs, AdoptsAs, NotesLanding, NotesAdoption}

-- ---- what is noted

pub is_noted : (o : Option Standing) (s : Standing) → o ≡ Some s → is_some o ≡ true
is_noted o s is = ap (λ p. is_some p) is

pub pinned_is : (o : Option Standing) (s : Standing) (h : List Recorded) (x : Txn) → o ≡ Some s → IsPinned o h x → (x ≡ s.txn) × (x.base < length s.seen) × Begins h s.seen
pinned_is o s h x is pinned = subst (λ p. IsPinned p h x) is pinned

pub unpinned : (o : Option Standing) (h : List Recorded) (x : Txn) → o ≡ None → IsPinned o h x
unpinned o h x none = subst (λ p. IsPinned p h x) (sym none) tt

pub about_is : (o : Option Standing) (about : Option Adoption) (x : Txn) (properties : List (List ℕ × List ℕ)) (next : Revision) → is_some o ≡ true → IsAdopted o about x properties next → about ≡ Some (adoption x properties next)
about_is None about x properties next some adopted = absurd cc
about_is (Some s) about x properties next some adopted = adopted

-- what was noted stays noted
pub noted_same : (P : Standing → Standing → Type 0) (o value : Option Standing) → NotesLanding o value P → is_some value ≡ is_some o
noted_same P None value noted = ap (λ p. is_some p) noted
noted_same P (Some s) value noted = ap (λ p. is_some p) noted.1

-- revisions that go on from as many or more are these
pub all_of : (h g : List Recorded) → Begins h g → length h ≤ length g → h ≡ g
all_of h g b le = by b.0 b.1
  where
    by : (more : List Recorded) → h ≡ g ++ more → h ≡ g
    by [] e = e ∙ append-nil g
    by (x ∷ more) e =
        let long : length h ≡ length (g ++ x ∷ more) = ap length e in
        let sum : length (g ++ x ∷ more) ≡ length g + suc (length more) = length-append g (x ∷ more) in
        absurd (omega (arith, le, long, sum))

-- ---- a landing

module _ (knows : View → Type 0) (stands : List Recorded → Txn → Type 0) (head : ℕ) where
  -- the landing may be noted
  pub notes_landing : (o : Option Standing) → ((s : Standing) → o ≡ Some s → (t : Standing) × LandsAs knows stands head s.txn t) → (value : Option Standing) × NotesLanding o value (λ s t. LandsAs knows stands head s.txn t)
  notes_landing None f = (None, refl)
  notes_landing (Some s) f = let t = f s refl in (Some t.0, (t.0, refl, t.1))

  pub lands_as : (s : Standing) (x : Txn) (u : View) (y : Txn) → x ≡ s.txn → knows u → stands (take (head + 1) u.seen) y → LandedOn head u.seen x y → (t : Standing) × LandsAs knows stands head s.txn t
  lands_as s x u y same known means landed =
      (record { txn = y; seen = take (head + 1) u.seen }, record { view = u; known = known; seen = refl; means = means; landed = subst (λ z. LandedOn head u.seen z y) same landed })

  -- the draft stands for what was noted: one view is known
  pub landed_pinned : (o value : Option Standing) (v : View) (x : Txn) → (is_some o ≡ true → (a b : View) → knows a → knows b → b ≡ a) → IsPinned o v.seen x → NotesLanding o value (λ s t. LandsAs knows stands head s.txn t)
      → (u : View) × (y : Txn) × knows u × stands (take (head + 1) u.seen) y × ReadOnly v u × LandedOn head u.seen x y
      → (u : View) × (y : Txn) × knows u × (stands (take (head + 1) u.seen) y × IsPinned value (take (head + 1) u.seen) y) × ReadOnly v u × LandedOn head u.seen x y
  landed_pinned None value v x sole pinned noted r = (r.0, r.1, r.2, (r.3, unpinned value (take (head + 1) r.0.seen) r.1 noted), r.4, r.5)
  landed_pinned (Some s) value v x sole pinned noted r = (
    r.0,
    noted.0.txn,
    r.2,
    (subst (λ h. stands h noted.0.txn) seen noted.2.means, subst (λ p. IsPinned p (take (head + 1) r.0.seen) noted.0.txn) (sym noted.1) (refl, based, ([], sym seen ∙ sym (append-nil noted.0.seen)))),
    r.4,
    landed,
  )
    where
      one : noted.2.view ≡ r.0
      one = sole refl r.0 noted.2.view r.2 noted.2.known

      seen : noted.0.seen ≡ take (head + 1) r.0.seen
      seen = noted.2.seen ∙ ap {A = View} (λ z. take (head + 1) z.seen) one

      landed : LandedOn head r.0.seen x noted.0.txn
      landed = subst (λ z. LandedOn head r.0.seen z noted.0.txn) (sym pinned.0) (subst (λ (z : View). LandedOn head z.seen s.txn noted.0.txn) one noted.2.landed)

      based : noted.0.txn.base < length noted.0.seen
      based =
          let long : length (take (head + 1) r.0.seen) ≡ head + 1 = length-take-le (head + 1) r.0.seen (omega (arith, landed.there)) in
          let same : length noted.0.seen ≡ length (take (head + 1) r.0.seen) = ap length seen in
          omega (arith, landed.base, long, same)

-- ---- an adoption

module _ (holds : List ℕ → Type 0) (properties : List (List ℕ × List ℕ)) where
  pub notes_adoption : (o : Option Standing) → ((s : Standing) → o ≡ Some s → (about : Adoption) × AdoptsAs holds properties s about) → (value : Option Adoption) × NotesAdoption o value (λ s about. AdoptsAs holds properties s about)
  notes_adoption None f = (None, refl)
  notes_adoption (Some s) f = let a = f s refl in (Some a.0, (a.0, refl, a.1))

  -- the revisions that are noted are those before the revision to come
  pub all_seen : (s : Standing) (h : List Recorded) (x : Txn) → length h ≡ x.base + 1 → x.base < length s.seen → Begins h s.seen → h ≡ s.seen
  all_seen s h x long based begins = all_of h s.seen begins (omega (arith, long, based))

  pub adopts_as : (s : Standing) (h : List Recorded) (x : Txn) → length h ≡ x.base + 1 → (x ≡ s.txn) × (x.base < length s.seen) × Begins h s.seen
      → (bytes : List ℕ) × (next : Revision) × holds bytes × ((n : ℕ) → IsNext (revisions h) (entry_of n x properties) next) × BytesShow (h ++ record { revision = next; bytes = bytes } ∷ []) × Unit {0} × Unit {0}
      → (about : Adoption) × AdoptsAs holds properties s about
  adopts_as s h x long pinned r =
      let seen : h ≡ s.seen = all_seen s h x long pinned.1 pinned.2 in (
        adoption s.txn properties r.1,
        record {
          bytes = r.0;
          next = r.1;
          is = refl;
          held = r.2;
          lands = λ n. subst (λ l. IsNext (revisions l) (entry_of n s.txn properties) r.1) seen (subst (λ z. IsNext (revisions h) (entry_of n z properties) r.1) pinned.0 (r.3 n));
          shown = subst (λ l. BytesShow (l ++ record { revision = r.1; bytes = r.0 } ∷ [])) seen r.4;
        },
      )

  -- the bytes are those of the adoption that was noted
  pub marshalled_pinned : (o : Option Standing) (about : Option Adoption) (h : List Recorded) (x : Txn) (number : ℕ) (Numbered Written : Type 0) → length h ≡ x.base + 1 → IsPinned o h x → NotesAdoption o about (λ s a. AdoptsAs holds properties s a)
      → (bytes : List ℕ) × (next : Revision) × holds bytes × ((n : ℕ) → IsNext (revisions h) (entry_of n x properties) next) × BytesShow (h ++ record { revision = next; bytes = bytes } ∷ []) × Numbered × Written
      → (bytes : List ℕ) × (next : Revision) × (holds bytes × IsAdopted o about x properties next) × IsNext (revisions h) (entry_of number x properties) next × BytesShow (h ++ record { revision = next; bytes = bytes } ∷ []) × Numbered × Written
  marshalled_pinned None about h x number Numbered Written long pinned noted r = (r.0, r.1, (r.2, tt), r.3 number, r.4, r.5, r.6)
  marshalled_pinned (Some s) about h x number Numbered Written long pinned noted r =
      let a = noted.2 in
      let seen : h ≡ s.seen = all_seen s h x long pinned.1 pinned.2 in (
        a.bytes,
        a.next,
        (a.held, noted.1 ∙ ap (λ z. Some z) a.is ∙ ap (λ z. Some (adoption z properties a.next)) (sym pinned.0)),
        subst (λ l. IsNext (revisions l) (entry_of number x properties) a.next) (sym seen) (subst (λ z. IsNext (revisions s.seen) (entry_of number z properties) a.next) (sym pinned.0) (a.lands number)),
        subst (λ l. BytesShow (l ++ record { revision = a.next; bytes = a.bytes } ∷ [])) (sym seen) a.shown,
        r.5,
        r.6,
      )
