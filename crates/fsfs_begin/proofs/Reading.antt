-- The number that stands in `db/txn-current`, as a section's first call reads it.
use Rattle.std.proofs.Common.{◌≡◌, ◌⊎◌, ◌<◌, ◌≤◌, ℕ, List, [], length, take, true, false, inl, inr, ⊎_elim, refl, sym, ap, subst, ◌∙◌, arith}
use Rattle.std.specs.Prelude.{Option, Some, None, IfSome, IfOk, IfErr, Result, Ok, Err, unwrap_or, nat_lt}
use Rattle.std.specs.FinMap.{get}
use Rattle.fsfs_base.specs.Files.{Files}
use Rattle.fsfs_base.specs.declared.grammar.base36.B36.{B36}
use Rattle.fsfs_disk.specs.Trace.{IsRead}
use Rattle.fsfs_fetch.specs.Views.{View as StoreView}
use Rattle.fsfs_layout.specs.FileNames.{only_name}
use Rattle.fsfs_layout.specs.Small.{IsBase36Line}
use Rattle.fsfs_layout.specs.declared.only_file.OnlyFile.TheVariants.{TxnCurrent}
use Rattle.fsfs_begin.proofs.CounterLemmas.{no_line, one_number}
use Rattle.fsfs_create.proofs.ShortTexts.{base36_line_short}
use Rattle.fsfs_disk.proofs.FirstBytesLemmas.{first_of_text}
use Rattle.fsfs_begin.specs.Drawing.{IsSmallIn}
use Rattle.fsfs_begin.specs.declared.name_fault.NameFault.{NameFault}
use Rattle.fsfs_begin.specs.declared.name_fault.NameFault.TheVariants.{Small, NamesFull, DiskFault, Memory}
use Rattle.fsfs_begin.proofs.ReadLemmas.{read_first}
use Rattle.fsfs_machine.specs.declared.machine.Went.{Went}
use Rattle.fsfs_machine.specs.Machine.{is_fine_in, last_name}
use Rattle.fsfs_turn.specs.Views.{View, Answers}
use Rattle.fsfs_turn.specs.Learning.{ReadsCounter, CounterRead}
use Rattle.fsfs_base.specs.declared.places.place.BeginPlace.TheVariants as place
use Rattle.fsfs_begin.specs.Steps.{FilesStay, HasLastName, MeetsLastName, met_last}
use Rattle.fsfs_begin.specs.Drawing.{Counts, HasRead}
use Rattle.fsfs_begin.specs.Faults.{NoNumber}
use Rattle.fsfs_begin.proofs.Going.{count_reached, count_stopped}

few_or_many : (n : ℕ) → (n < last_name) ⊎ (last_name ≤ n)
few_or_many n = elim (nat_lt n last_name) as (λ b. nat_lt n last_name ≡ b → (n < last_name) ⊎ (last_name ≤ n)) [
  | true ↦ λ e. inl (grind (arith, e))
  | false ↦ λ e. inr (grind (arith, e))
] refl

-- the number that was read there is the last
last_there : {Lasting : Type 0} (s : StoreView Lasting) (m : Files) (text : List ℕ) (n : ℕ) → s.files ≡ Some m → get m (only_name TxnCurrent) ≡ Some text → IsBase36Line text n → last_name ≤ n → HasLastName s
last_there s m text n told there line many =
    record { files = m; told = told; none = record { number = n; line = subst (λ (t : List ℕ). IsBase36Line t n) (sym (ap (λ (o : Option (List ℕ)). unwrap_or o []) there)) line; last = many } }

-- of turns before calls that left what no reading changes
pub met_before : {T L : Type 0} (store : T → StoreView L) (old mid : T) → (store mid).below ≡ (store old).below → MeetsLastName store mid → MeetsLastName store old
met_before store old mid same m = record { met = m.met; lasting = m.lasting ∙ same; last = m.last }

-- of turns whose files are those
pub last_still : {T L : Type 0} (store : T → StoreView L) (old new : T) → FilesStay store → (store new).below ≡ (store old).below → HasLastName (store old) → HasLastName (store new)
last_still store old new stay same h = record { files = h.files; told = stay.files old new same ∙ h.told; none = h.none }

-- what calls met stood there before, then
pub last_before : {T L : Type 0} (store : T → StoreView L) (turns : T) → MeetsLastName store turns → FilesStay store → HasLastName (store turns)
last_before store turns m stay = record { files = m.last.files; told = sym (stay.files turns m.met m.lasting) ∙ m.last.told; none = m.last.none }

-- one case each
pub either_way : {A B P Q : Type 0} → (A → B) → (P → Q) → A ⊎ P → B ⊎ Q
either_way f g w = ⊎_elim (λ a. inl (f a)) (λ p. inr (g p)) w

pub ok_drawn : {X E D Q : Type 0} (r : Result X E) (A : X → Type 0) → (D → IfOk r A) → (Q → ⊥) → D ⊎ Q → IfOk r A
ok_drawn r A f never w = ⊎_elim f (λ q. absurd (never q)) w

pub err_drawn : {X E D Q : Type 0} (r : Result X E) (A P : E → Type 0) → (D → IfErr r A) → (Q → ⊥) → D ⊎ Q → IfErr r (λ e. A e ⊎ P e)
err_drawn (Ok x) A P f never w = tt
err_drawn (Err e) A P f never w = ⊎_elim (λ d. inl (f d)) (λ q. absurd (never q)) w

-- what was read of it
module _ {E : Type 0} (known : View → Type 0) {Lasting : Type 0} (s : StoreView Lasting) (base : ℕ) (old new : List ℕ) (v : View) (size : length old ≡ 64) where
  -- where bytes came, they are the number's
  pub counts_some : (count : ℕ) (bytes : List ℕ) (found : Result B36 NameFault) → bytes ≡ take count new → (r : Result (Option ℕ) E) → r ≡ Ok (Some count) → ReadsCounter known s.files base r old new v
      → IfOk found (λ b. IsBase36Line bytes b.number) → IfErr found (IsSmallIn bytes) → Counts known base found v ⊎ (known (met_last v) × IfOk found (λ b. last_name ≤ b.number) × IfErr found NoNumber × HasLastName s)
  counts_some count bytes found bytes_are r is c ok err = ⊎_elim (λ few. inl (by_found few found ok err)) (λ many. inr (c.full many, past_found many found ok, past_err found err, last_there s c.files c.text c.number c.files_are c.there c.line many)) (few_or_many c.number)
    where
      first : bytes ≡ take 64 c.text
      first = bytes_are ∙ read_first (Some c.text) old new (Some count) count size (subst (λ q. IfOk q (IsRead (Some c.text) 0 old new)) is c.read) refl

      line : IsBase36Line bytes c.number
      line = subst (λ (t : List ℕ). IsBase36Line t c.number) (sym first) (first_of_text IsBase36Line 64 c.text c.number base36_line_short c.line)

      past_found : last_name ≤ c.number → (found : Result B36 NameFault) → IfOk found (λ b. IsBase36Line bytes b.number) → IfOk found (λ b. last_name ≤ b.number)
      past_found many (Ok b) ok = let same : c.number ≡ b.number = one_number bytes c.number b.number line ok in subst (λ n. last_name ≤ n) same many
      past_found many (Err why) ok = tt

      past_err : (found : Result B36 NameFault) → IfErr found (IsSmallIn bytes) → IfErr found NoNumber
      past_err (Ok b) err = tt
      past_err (Err (Small fault)) err = absurd (err.0 c.number line)
      past_err (Err NamesFull) err = absurd err
      past_err (Err (DiskFault call)) err = absurd err
      past_err (Err Memory) err = absurd err

      turned : c.number < last_name → (u : View) × (went : Went) × known u × (is_fine_in went ≡ true) × CounterRead base c.number went v u
      turned few = subst (λ (q : Result (Option ℕ) E). (u : View) × (went : Went) × known u × Answers q went × CounterRead base c.number went v u) is (c.turned few)

      by_found : c.number < last_name → (found : Result B36 NameFault) → IfOk found (λ b. IsBase36Line bytes b.number) → IfErr found (IsSmallIn bytes) → Counts known base found v
      by_found few (Ok b) ok err =
          let same : c.number ≡ b.number = one_number bytes c.number b.number line ok in
          let t = turned few in (
            t.0,
            t.2,
            subst (λ n. HasRead base n v t.0) same (record { reached = count_reached base c.number v t.1 t.0 t.3 t.4; all = t.4.all; small = few; above = t.4.above }),
          )
      by_found few (Err (Small fault)) ok err = absurd (err.0 c.number line)
      by_found few (Err NamesFull) ok err = absurd err
      by_found few (Err (DiskFault call)) ok err = absurd err
      by_found few (Err Memory) ok err = absurd err

  -- there is such a file
  pub counts_none : (found : Result B36 NameFault) (r : Result (Option ℕ) E) → r ≡ Ok None → ReadsCounter known s.files base r old new v → Counts known base found v ⊎ (known (met_last v) × IfOk found (λ b. last_name ≤ b.number) × IfErr found NoNumber × HasLastName s)
  counts_none found r is c =
      let read : IsRead (Some c.text) 0 old new None = subst (λ q. IfOk q (IsRead (Some c.text) 0 old new)) is c.read in
      let h = read.0 in absurd cc

  pub counts_failed : (e : E) (r : Result (Option ℕ) E) → r ≡ Err e → ReadsCounter known s.files base r old new v → Counts known base (Err (DiskFault place.Read)) v ⊎ (known (met_last v) × Unit {0} × Unit {0} × HasLastName s)
  counts_failed e r is c = ⊎_elim (λ few. inl (failed few)) (λ many. inr (c.full many, tt, tt, last_there s c.files c.text c.number c.files_are c.there c.line many)) (few_or_many c.number)
    where
      failed : c.number < last_name → Counts known base (Err (DiskFault place.Read)) v
      failed few =
          let t = subst (λ (q : Result (Option ℕ) E). (u : View) × (went : Went) × known u × Answers q went × CounterRead base c.number went v u) is (c.turned few) in
          (t.0, t.2, count_stopped base c.number v t.1 t.0 t.3 t.4)

-- ---- where no name is left

-- what is read of the file is its number
module _ {L : Type 0} (s : StoreView L) (old new : List ℕ) (size : length old ≡ 64) (last : HasLastName s) where
  abbrev file : Option (List ℕ)
  file = get last.files (only_name TxnCurrent)

  there : (P : Files → Type 0) → IfSome s.files P → P last.files
  there P w = subst (λ (o : Option Files). IfSome o P) last.told w

  number_last : (bytes : List ℕ) (found : Result B36 NameFault) → bytes ≡ take 64 (unwrap_or file []) → IfOk found (λ b. IsBase36Line bytes b.number) → IfOk found (λ b. last_name ≤ b.number)
  number_last bytes (Err why) are ok = tt
  number_last bytes (Ok b) are ok =
      let line : IsBase36Line bytes last.none.number = subst (λ (t : List ℕ). IsBase36Line t last.none.number) (sym are) (first_of_text IsBase36Line 64 (unwrap_or file []) last.none.number base36_line_short last.none.line) in
      let same : last.none.number ≡ b.number = one_number bytes last.none.number b.number line ok in
      subst (λ n. last_name ≤ n) same last.none.last

  pub full_some : {E : Type 0} (r : Result (Option ℕ) E) (count : ℕ) (bytes : List ℕ) (found : Result B36 NameFault) → r ≡ Ok (Some count) → bytes ≡ take count new → IfSome s.files (λ m. IfOk r (IsRead (get m (only_name TxnCurrent)) 0 old new))
      → IfOk found (λ b. IsBase36Line bytes b.number) → IfOk found (λ b. last_name ≤ b.number)
  full_some r count bytes found is are read ok =
      let here : IsRead file 0 old new (Some count) = subst (λ q. IfOk q (IsRead file 0 old new)) is (there (λ m. IfOk r (IsRead (get m (only_name TxnCurrent)) 0 old new)) read) in
      number_last bytes found (are ∙ read_first file old new (Some count) count size here refl) ok

  -- there is such a file
  pub full_none : {E : Type 0} (r : Result (Option ℕ) E) (found : Result B36 NameFault) → r ≡ Ok None → IfSome s.files (λ m. IfOk r (IsRead (get m (only_name TxnCurrent)) 0 old new)) → IfOk found (λ b. last_name ≤ b.number)
  full_none r found is read =
      by_file file refl (subst (λ q. IfOk q (IsRead file 0 old new)) is (there (λ m. IfOk r (IsRead (get m (only_name TxnCurrent)) 0 old new)) read))
    where
      by_file : (o : Option (List ℕ)) → file ≡ o → IsRead o 0 old new None → IfOk found (λ b. last_name ≤ b.number)
      by_file None at here = absurd (no_line last.none.number (subst (λ (o : Option (List ℕ)). IsBase36Line (unwrap_or o []) last.none.number) at last.none.line))
      by_file (Some text) at here = let h = here.0 in absurd cc
