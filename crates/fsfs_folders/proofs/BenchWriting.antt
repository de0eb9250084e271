-- How the files of a bench are opened and written.
use Rattle.std.proofs.Common.{◌≡◌, ◌⊎◌, ℕ, List, [], ◌∷◌, ◌++◌, ◌+◌, Bool, true, false, cond, inl, inr, ⊎_elim, refl, sym, ap, subst, ◌∙◌, arith}
use Rattle.std.proofs.lemmas.Bool.{eq-eqb}
use Rattle.std.proofs.lemmas.List.{length-append}
use Rattle.std.proofs.lemmas.Option.{same_Some, none-some}
use Rattle.std.specs.Prelude.{◌≤◌, ◌^◌, length, is_some, Option, Some, None, option_map, unwrap_or, IfSome, Result, Ok, Err, IfOk, OnOk, OnErr}
use Rattle.fsfs_folders.specs.System.Listing.{is_entry}
use Rattle.fsfs_folders.specs.System.CallRecord.{CallRecord, Named, Create, Remove, SyncFile, FailSync, Does, made_firm, made_lost, Contents, Standing, no_contents, more_bytes, add_call, names_now, contents_now, new_number, Makes, MayMake}
use Rattle.fsfs_folders.proofs.NameLemmas.{given_at}
use Rattle.fsfs_folders.proofs.WritingLemmas.{pieces_names}
use Rattle.fsfs_folders.proofs.OpenLemmas.{IsNamed}
use Rattle.fsfs_folders.specs.Writing.{Writes, WritesSome}
use Rattle.fsfs_folders.specs.BenchFiles.{file_held, file_or_new, Follows, Sets, SetsAny, Opens}
use Rattle.fsfs_folders.proofs.HeldFiles.{held_at, held_none, created, gone, wrote, synced, lost}
use Rattle.fsfs_folders.proofs.BenchTold.{sets_as, sets_then, sets_same, any_none}
use Rattle.fsfs_base.specs.Files.{same_text}

-- so many bytes may be written at the end of a file of this length
pub room_left : (n len more : ℕ) (old : Option CallRecord) → IfSome old (λ r. len ≡ length (contents_now r n).bytes) → len + more ≤ 2 ^ 62 → IfSome old (λ r. length (contents_now r n).bytes + more ≤ 2 ^ 62)
room_left n len more None is fits = tt
room_left n len more (Some r) is fits = omega (arith, is, fits)

module _ (name : List ℕ) (entry : is_entry name ≡ true) where
  new_here : (r : CallRecord) → (names_now r).files name ≡ None → file_or_new r name ≡ no_contents
  new_here r lacks = ap (λ o. unwrap_or o no_contents) (held_none r name lacks)

  old_here : (r : CallRecord) (n : ℕ) → (names_now r).files name ≡ Some n → file_or_new r name ≡ contents_now r n
  old_here r n has = ap (λ o. unwrap_or o no_contents) (held_at r name n entry has)

  at_number : (path : List ℕ) (n : ℕ) (old : Option CallRecord) → path ≡ name → IfSome old (λ r. (names_now r).files path ≡ Some n) → (r : CallRecord) → old ≡ Some r → (names_now r).files name ≡ Some n
  at_number path n None p has r is = absurd (none-some r is)
  at_number path n (Some s) p has r is = subst (λ x. (names_now x).files name ≡ Some n) (same_Some s r is) (subst (λ q. (names_now s).files q ≡ Some n) p has)

  -- one that is there is open
  pub opened : (n more : ℕ) (old : Option CallRecord) → IsNamed old name n → IfSome old (λ r. length (contents_now r n).bytes + more ≤ 2 ^ 62) → Opens name n more old old
  opened n more None has fits = refl
  opened n more (Some r) has fits = (
    has,
    sym (old_here r n has),
    omega (arith, fits, ap (λ (c : Contents). length c.bytes) (old_here r n has)),
    λ q. sets_same name (Some r) q ∙ ap (λ x. cond (same_text q name) x (file_held r q)) (held_at r name n entry has ∙ ap (λ c. Some c) (sym (old_here r n has))),
  )

  made_number : (n : ℕ) (r : CallRecord) → n ≡ new_number r → (names_now (add_call (Named (Create name)) r)).files name ≡ Some n
  made_number n r is = given_at name (Some (new_number r)) (names_now r).files ∙ ap (λ k. Some k) (sym is)

  made_empty : (n : ℕ) (r : CallRecord) → n ≡ new_number r → contents_now (add_call (Named (Create name)) r) n ≡ no_contents
  made_empty n r is = ap (λ b. cond b no_contents (contents_now r n)) (eq-eqb n (new_number r) is)

  -- one that wasn't there is made
  pub made_open : (n more : ℕ) (old new : Option CallRecord) → IfSome old (λ r. (names_now r).files name ≡ None) → Makes (Create name) old new → IfSome old (λ r. n ≡ new_number r) → more ≤ 2 ^ 62 → Opens name n more old new
  made_open n more None new lacks makes is fits = makes
  made_open n more (Some r) new lacks makes is fits = subst (λ o. Opens name n more (Some r) o) (sym makes.1) (
    made_number n r is,
    made_empty n r is ∙ sym (new_here r lacks),
    omega (arith, fits, ap (λ (c : Contents). length c.bytes) (new_here r lacks)),
    λ q. created name entry (Some r) (Some (add_call (Named (Create name)) r)) (makes.0, refl) q ∙ ap (λ c. cond (same_text q name) (Some c) (file_held r q)) (sym (new_here r lacks)),
  )

  pub made_failed : (old new : Option CallRecord) → IfSome old (λ r. (names_now r).files name ≡ None) → MayMake (Create name) old new → SetsAny name old new
  made_failed old new lacks may = ⊎_elim (λ same. inl same) (λ makes. inr (
    (λ r. Some no_contents),
    (λ r is file e. record {
      short = omega (arith, ap (λ (c : Contents). length c.bytes) (same_Some no_contents file e));
      kept = λ k. ap (λ (c : Contents). c.is_lost) (sym (same_Some no_contents file e));
    }),
    created name entry old new makes,
  )) may

  opens_sets : (n more : ℕ) (old mid : Option CallRecord) → Opens name n more old mid → Sets name (λ r. Some (file_or_new r name)) old mid
  opens_sets n more None mid opens = opens
  opens_sets n more (Some r) None opens = absurd opens
  opens_sets n more (Some r) (Some s) opens = opens.3

  opens_number : (n more : ℕ) (old mid : Option CallRecord) → Opens name n more old mid → (s : CallRecord) → mid ≡ Some s → (names_now s).files name ≡ Some n
  opens_number n more None mid opens s is = absurd (none-some s (sym opens ∙ is))
  opens_number n more (Some r) None opens s is = absurd opens
  opens_number n more (Some r) (Some t) opens s is = subst (λ x. (names_now x).files name ≡ Some n) (same_Some t s is) opens.0

  opens_file : (n more : ℕ) (old mid : Option CallRecord) → Opens name n more old mid → (r s : CallRecord) → old ≡ Some r → mid ≡ Some s → contents_now s n ≡ file_or_new r name
  opens_file n more None mid opens r s is then = absurd (none-some r is)
  opens_file n more (Some a) None opens r s is then = absurd opens
  opens_file n more (Some a) (Some b) opens r s is then = ap (λ x. contents_now x n) (sym (same_Some b s then)) ∙ opens.1 ∙ ap (λ x. file_or_new x name) (same_Some a r is)

  opens_room : (n more : ℕ) (old mid : Option CallRecord) → Opens name n more old mid → (r : CallRecord) → old ≡ Some r → length (file_or_new r name).bytes + more ≤ 2 ^ 62
  opens_room n more None mid opens r is = absurd (none-some r is)
  opens_room n more (Some a) None opens r is = absurd opens
  opens_room n more (Some a) (Some b) opens r is = subst (λ x. length (file_or_new x name).bytes + more ≤ 2 ^ 62) (same_Some a r is) opens.2

  -- bytes at its end
  pub opens_wrote : (n more : ℕ) (bytes : List ℕ) (old mid new : Option CallRecord) → Opens name n more old mid → Writes n bytes mid new → Sets name (λ r. Some (more_bytes bytes (file_or_new r name))) old new
  opens_wrote n more bytes old mid new opens w =
      sets_then name (λ r. Some (file_or_new r name)) (λ s. Some (more_bytes bytes (contents_now s n))) (λ r. Some (more_bytes bytes (file_or_new r name))) old mid new
      (opens_sets n more old mid opens) (wrote name entry n bytes mid new (opens_number n more old mid opens) w)
      (λ r s is then. ap (λ c. Some (more_bytes bytes c)) (opens_file n more old mid opens r s is then))

  -- it still has the name then
  pub opens_still : (n more : ℕ) (bytes : List ℕ) (old mid new : Option CallRecord) → Opens name n more old mid → Writes n bytes mid new → IsNamed new name n
  opens_still n more bytes old None new opens w = subst (λ o. IsNamed o name n) (sym w.2) tt
  opens_still n more bytes old (Some s) new opens w = subst (λ o. IsNamed o name n) (sym w.2) (ap (λ (x : Standing). x.files name) (pieces_names n w.0 s) ∙ opens_number n more old (Some s) opens s refl)

  pub opens_any : (n more : ℕ) (old mid new : Option CallRecord) → Opens name n more old mid → WritesSome n more mid new → SetsAny name old new
  opens_any n more old mid new opens w = inr (
    (λ r. Some (more_bytes w.0 (file_or_new r name))),
    (λ r is file e. record {
      short = omega (arith, ap (λ (c : Contents). length c.bytes) (same_Some (more_bytes w.0 (file_or_new r name)) file e), length-append (file_or_new r name).bytes w.0, w.1, opens_room n more old mid opens r is);
      kept = λ k. ap (λ (c : Contents). c.is_lost) (sym (same_Some (more_bytes w.0 (file_or_new r name)) file e)) ∙ k;
    }),
    opens_wrote n more w.0 old mid new opens w.2,
  )

  pub opens_all : (n : ℕ) (bytes : List ℕ) (old mid new : Option CallRecord) → Opens name n (length bytes) old mid → Writes n bytes mid new → SetsAny name old new
  opens_all n bytes old mid new opens w = opens_any n (length bytes) old mid new opens (bytes, omega arith, w)

  made_has : (n : ℕ) (old new : Option CallRecord) → Makes (Create name) old new → IfSome old (λ r. n ≡ new_number r) → (s : CallRecord) → new ≡ Some s → (names_now s).files name ≡ Some n
  made_has n None new makes is s then = absurd (none-some s (sym makes ∙ then))
  made_has n (Some r) new makes is s then = subst (λ x. (names_now x).files name ≡ Some n) (same_Some (add_call (Named (Create name)) r) s (sym makes.1 ∙ then)) (made_number n r is)

  made_no : (n : ℕ) (old new : Option CallRecord) → Makes (Create name) old new → IfSome old (λ r. n ≡ new_number r) → (s : CallRecord) → new ≡ Some s → contents_now s n ≡ no_contents
  made_no n None new makes is s then = absurd (none-some s (sym makes ∙ then))
  made_no n (Some r) new makes is s then = ap (λ x. contents_now x n) (sym (same_Some (add_call (Named (Create name)) r) s (sym makes.1 ∙ then))) ∙ made_empty n r is

  -- a new file in place of one
  pub written_new : (n : ℕ) (bytes : List ℕ) (a b c d : Option CallRecord) → Sets name (λ r. None) a b → Makes (Create name) b c → IfSome b (λ r. n ≡ new_number r) → Writes n bytes c d
      → Sets name (λ r. Some (more_bytes bytes no_contents)) a d
  written_new n bytes a b c d away makes is w =
      sets_then name (λ r. None) (λ r. Some (more_bytes bytes no_contents)) (λ r. Some (more_bytes bytes no_contents)) a b d away
      (sets_then name (λ r. Some no_contents) (λ s. Some (more_bytes bytes (contents_now s n))) (λ r. Some (more_bytes bytes no_contents)) b c d
      (created name entry b c makes) (wrote name entry n bytes c d (made_has n b c makes is) w) (λ r s _ then. ap (λ x. Some (more_bytes bytes x)) (made_no n b c makes is s then)))
      (λ r s _ _. refl)

  pub written_any : (n most : ℕ) (a b c d : Option CallRecord) → Sets name (λ r. None) a b → Makes (Create name) b c → IfSome b (λ r. n ≡ new_number r) → most ≤ 2 ^ 62 → WritesSome n most c d → SetsAny name a d
  written_any n most a b c d away makes is fits w = inr (
    (λ r. Some (more_bytes w.0 no_contents)),
    (λ r _ file e. record {
      short = omega (arith, ap (λ (c : Contents). length c.bytes) (same_Some (more_bytes w.0 no_contents) file e), w.1, fits);
      kept = λ k. ap (λ (c : Contents). c.is_lost) (sym (same_Some (more_bytes w.0 no_contents) file e));
    }),
    written_new n w.0 a b c d away makes is w.2,
  )

  pub made_any : (a b c : Option CallRecord) → Sets name (λ r. None) a b → MayMake (Create name) b c → SetsAny name a c
  made_any a b c away may = ⊎_elim (λ same. any_none name a c (subst (λ o. Sets name (λ r. None) a o) (sym same) away)) (λ makes. inr (
    (λ r. Some no_contents),
    (λ r _ file e. record {
      short = omega (arith, ap (λ (c : Contents). length c.bytes) (same_Some no_contents file e));
      kept = λ k. ap (λ (c : Contents). c.is_lost) (sym (same_Some no_contents file e));
    }),
    sets_then name (λ r. None) (λ r. Some no_contents) (λ r. Some no_contents) a b c away (created name entry b c makes) (λ r s _ _. refl),
  )) may

  -- one that isn't there needn't be taken away
  pub gone_already : (old new : Option CallRecord) → IfSome old (λ r. (names_now r).files name ≡ None) → new ≡ old → Sets name (λ r. None) old new
  gone_already old new lacks same = subst (λ o. Sets name (λ r. None) old o) (sym same)
      (sets_as name (λ r. file_held r name) (λ r. None) old old (none old lacks) (sets_same name old))
    where
      none : (o : Option CallRecord) → IfSome o (λ r. (names_now r).files name ≡ None) → (r : CallRecord) → o ≡ Some r → file_held r name ≡ None
      none None lacks r is = absurd (none-some r is)
      none (Some s) lacks r is = subst (λ x. file_held x name ≡ None) (same_Some s r is) (held_none s name lacks)

  pub gone_failed : (old new : Option CallRecord) → MayMake (Remove name) old new → SetsAny name old new
  gone_failed old new may = ⊎_elim (λ same. inl same) (λ makes. any_none name old new (gone name entry old new makes)) may

  pub was_there : (old new : Option CallRecord) → Makes (Remove name) old new → IfSome old (λ r. true ≡ is_some (file_held r name))
  was_there None new makes = tt
  was_there (Some r) new makes = number ((names_now r).files name) refl makes.0
    where
      number : (o : Option ℕ) → (names_now r).files name ≡ o → is_some ((names_now r).files name) ≡ true → true ≡ is_some (file_held r name)
      number None e some = let h : true ≡ false = sym some ∙ ap is_some e in cc
      number (Some n) e some = sym (ap is_some (held_at r name n entry e))

  pub was_absent : (old : Option CallRecord) → IfSome old (λ r. (names_now r).files name ≡ None) → IfSome old (λ r. false ≡ is_some (file_held r name))
  was_absent None lacks = tt
  was_absent (Some r) lacks = sym (ap is_some (held_none r name lacks))

  -- the same by what a call answers on a path that is the name's
  pub made_open_ok : {T E : Type 0} (number_of : T → ℕ) (more : ℕ) (path : List ℕ) (old mid new : Option CallRecord) (result : Result T E) → path ≡ name → mid ≡ old → IfSome old (λ r. (names_now r).files path ≡ None)
      → OnOk result (Makes (Create path) mid new) → IfSome mid (λ r. IfOk result (λ file. number_of file ≡ new_number r)) → more ≤ 2 ^ 62 → IfOk result (λ file. Opens name (number_of file) more old new)
  made_open_ok number_of more path old mid new (Ok file) p m lacks makes is fits =
      made_open (number_of file) more old new (subst (λ x. IfSome old (λ r. (names_now r).files x ≡ None)) p lacks)
      (subst (λ x. Makes (Create x) old new) p (subst (λ o. Makes (Create path) o new) m makes)) (subst (λ o. IfSome o (λ r. number_of file ≡ new_number r)) m is) fits
  made_open_ok number_of more path old mid new (Err e) p m lacks makes is fits = tt

  pub made_failed_err : {T E : Type 0} (path : List ℕ) (old mid new : Option CallRecord) (result : Result T E) → path ≡ name → mid ≡ old → IfSome old (λ r. (names_now r).files path ≡ None)
      → OnErr result (MayMake (Create path) mid new) → OnErr result (SetsAny name old new)
  made_failed_err path old mid new (Ok file) p m lacks may = tt
  made_failed_err path old mid new (Err e) p m lacks may =
      made_failed old new (subst (λ x. IfSome old (λ r. (names_now r).files x ≡ None)) p lacks) (subst (λ x. MayMake (Create x) old new) p (subst (λ o. MayMake (Create path) o new) m may))

  pub gone_any : (path : List ℕ) (old new : Option CallRecord) → path ≡ name → Makes (Remove path) old new → SetsAny name old new
  gone_any path old new p makes = any_none name old new (gone name entry old new (subst (λ x. Makes (Remove x) old new) p makes))

  pub gone_none : (path : List ℕ) (old new : Option CallRecord) → path ≡ name → IfSome old (λ r. (names_now r).files path ≡ None) → new ≡ old → Sets name (λ r. None) old new
  gone_none path old new p lacks same = gone_already old new (subst (λ x. IfSome old (λ r. (names_now r).files x ≡ None)) p lacks) same

  pub gone_failed_any : (path : List ℕ) (old new : Option CallRecord) → path ≡ name → MayMake (Remove path) old new → SetsAny name old new
  gone_failed_any path old new p may = gone_failed old new (subst (λ x. MayMake (Remove x) old new) p may)

  -- a sync of the file
  pub synced_ok : {T E : Type 0} (path : List ℕ) (n : ℕ) (old mid new : Option CallRecord) (result : Result T E) → path ≡ name → mid ≡ old → IfSome old (λ r. (names_now r).files path ≡ Some n)
      → OnOk result (Does (SyncFile n) mid new) → OnOk result (Sets name (λ r. option_map made_firm (file_held r name)) old new)
  synced_ok path n old mid new (Ok x) p m has does = sets_as name (λ r. Some (made_firm (contents_now r n))) (λ r. option_map made_firm (file_held r name)) old new
      (λ r is. sym (ap (λ o. option_map made_firm o) (held_at r name n entry (at_number path n old p has r is)))) (synced name entry n old new (at_number path n old p has) (subst (λ o. Does (SyncFile n) o new) m does))
  synced_ok path n old mid new (Err e) p m has does = tt

  pub synced_err : {T E : Type 0} (path : List ℕ) (n : ℕ) (old mid new : Option CallRecord) (result : Result T E) → path ≡ name → mid ≡ old → IfSome old (λ r. (names_now r).files path ≡ Some n)
      → OnErr result ((new ≡ mid) ⊎ Does (FailSync n) mid new) → OnErr result ((new ≡ old) ⊎ Sets name (λ r. option_map made_lost (file_held r name)) old new)
  synced_err path n old mid new (Ok x) p m has failed = tt
  synced_err path n old mid new (Err e) p m has failed = ⊎_elim (λ same. inl (same ∙ m)) (λ does. inr (sets_as name (λ r. Some (made_lost (contents_now r n))) (λ r. option_map made_lost (file_held r name)) old new
      (λ r is. sym (ap (λ o. option_map made_lost o) (held_at r name n entry (at_number path n old p has r is)))) (lost name entry n old new (at_number path n old p has) (subst (λ o. Does (FailSync n) o new) m does)))) failed

  -- no file, no sync
  pub synced_none : (path : List ℕ) (old new : Option CallRecord) → path ≡ name → IfSome old (λ r. (names_now r).files path ≡ None) → new ≡ old → Sets name (λ r. option_map made_firm (file_held r name)) old new
  synced_none path old new p lacks same = subst (λ o. Sets name (λ r. option_map made_firm (file_held r name)) old o) (sym same)
      (sets_as name (λ r. file_held r name) (λ r. option_map made_firm (file_held r name)) old old (λ r is. none old lacks r is ∙ sym (ap (λ o. option_map made_firm o) (none old lacks r is))) (sets_same name old))
    where
      none : (o : Option CallRecord) → IfSome o (λ r. (names_now r).files path ≡ None) → (r : CallRecord) → o ≡ Some r → file_held r name ≡ None
      none None lacks r is = absurd (none-some r is)
      none (Some s) lacks r is = subst (λ x. file_held x name ≡ None) (same_Some s r is) (held_none s name (subst (λ q. (names_now s).files q ≡ None) p lacks))

  pub made_any_at : (path : List ℕ) (a b c : Option CallRecord) → path ≡ name → Sets name (λ r. None) a b → MayMake (Create path) b c → SetsAny name a c
  made_any_at path a b c p away may = made_any a b c away (subst (λ x. MayMake (Create x) b c) p may)

  pub written_new_at : (path : List ℕ) (n : ℕ) (bytes : List ℕ) (a b c d : Option CallRecord) → path ≡ name → Sets name (λ r. None) a b → Makes (Create path) b c → IfSome b (λ r. n ≡ new_number r) → Writes n bytes c d
      → Sets name (λ r. Some (more_bytes bytes no_contents)) a d
  written_new_at path n bytes a b c d p away makes is w = written_new n bytes a b c d away (subst (λ x. Makes (Create x) b c) p makes) is w

  pub written_either : {T E : Type 0} (path : List ℕ) (n : ℕ) (bytes : List ℕ) (a b c d : Option CallRecord) (result : Result T E) → path ≡ name → Sets name (λ r. None) a b → Makes (Create path) b c → IfSome b (λ r. n ≡ new_number r) → length bytes ≤ 2 ^ 62
      → OnOk result (Writes n bytes c d) → OnErr result (WritesSome n (length bytes) c d) → SetsAny name a d
  written_either path n bytes a b c d (Ok x) p away makes is fits done failed = written_any n (length bytes) a b c d away (subst (λ x. Makes (Create x) b c) p makes) is fits (bytes, omega arith, done)
  written_either path n bytes a b c d (Err e) p away makes is fits done failed = written_any n (length bytes) a b c d away (subst (λ x. Makes (Create x) b c) p makes) is fits failed
