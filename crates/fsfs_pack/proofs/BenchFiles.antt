-- Bytes come to the end of a bench's file.
use Rattle.std.proofs.Common.{◌≡◌, ◌≤◌, ◌+◌, ◌-◌, ℕ, suc, zero, List, [], ◌∷◌, ◌++◌, length, take, drop, false, cond, refl, sym, ap, subst, ◌∙◌, arith, append_assoc}
use Rattle.std.specs.Prelude.{Option, Some, None, Result, Ok, Err, OnOk, option_map, unwrap_or, min, slice_index, nat_lt, IsSome}
use Rattle.std.proofs.Math.Seq.{take-add}
use Rattle.std.proofs.lemmas.List.{length-take, length-drop, take_all}
use Rattle.fsfs_base.specs.Files.{Files}
use Rattle.fsfs_base.proofs.FileLemmas.{get_kept, get_new}
use Rattle.fsfs_layout.specs.Manifest.{IsManifest}
use Rattle.fsfs_revision.specs.Told.{Gives, part_read}
use Rattle.fsfs_revision.specs.declared.book.BookFault.{BookFault}
use Rattle.fsfs_revision.specs.declared.book.BookFault.TheVariants.{Refused, Short, DiskFault, OutOfMemory}
use Rattle.fsfs_revision.specs.declared.wrong.Refusal.TheVariants as refusal
use Rattle.fsfs_disk.specs.Benches.{appended, written, bytes_in, bytes_on, IsFirmFile}
use Rattle.fsfs_pack.specs.Causes.{fault_of, IsWant}
use Rattle.fsfs_pack.specs.Copies.{HasFile}
use Rattle.fsfs_pack.specs.Sections.{pack_text, manifest_text}

pub file_appended : (old new : Option Files) (name before bytes : List ℕ) → new ≡ option_map (appended name bytes) old → HasFile old name before → HasFile new name (before ++ bytes)
file_appended None new name before bytes done has = subst (λ o. HasFile o name (before ++ bytes)) (sym done) tt
file_appended (Some m) new name before bytes done has = subst (λ o. HasFile o name (before ++ bytes)) (sym done)
    (get_new m name (bytes_in m name ++ bytes) ∙ ap (λ (o : Option (List ℕ)). Some (unwrap_or o [] ++ bytes)) has)

pub file_written : (old new : Option Files) (name bytes : List ℕ) → new ≡ option_map (written name bytes) old → HasFile new name bytes
file_written None new name bytes done = subst (λ o. HasFile o name bytes) (sym done) tt
file_written (Some m) new name bytes done = subst (λ o. HasFile o name bytes) (sym done) (get_new m name bytes)

-- another file is written
pub file_beside : (old new : Option Files) (name other before bytes : List ℕ) → (other ≡ name → ⊥) → new ≡ option_map (written name bytes) old → HasFile old other before → HasFile new other before
file_beside None new name other before bytes apart done has = subst (λ o. HasFile o other before) (sym done) tt
file_beside (Some m) new name other before bytes apart done has = subst (λ o. HasFile o other before) (sym done) (get_kept m name bytes other apart ∙ has)

pub file_firm : (held new : Option Files) (name bytes : List ℕ) (firm : ℕ) → new ≡ held → firm ≡ length (bytes_on held name) → HasFile held name bytes → IsFirmFile new firm name
file_firm None new name bytes firm same firm_is has = subst (λ o. IsFirmFile o firm name) (sym same) tt
file_firm (Some m) new name bytes firm same firm_is has = subst (λ o. IsFirmFile o firm name) (sym same) (bytes, has, firm_is ∙ ap (λ (o : Option (List ℕ)). length (unwrap_or o [])) has)

-- ---- a piece of a revision

-- no more than there are is as many as are asked for
take_least : (n m : ℕ) (xs : List ℕ) → m ≡ min n (length xs) → take m xs ≡ take n xs
take_least zero zero xs e = refl
take_least zero (suc m) xs e = absurd (omega (arith, e))
take_least (suc n) zero [] e = refl
take_least (suc n) zero (x ∷ xs) e = absurd (omega (arith, e))
take_least (suc n) (suc m) [] e = refl
take_least (suc n) (suc m) (x ∷ xs) e = ap (λ ys. x ∷ ys) (take_least n m xs (omega (arith, e)))

part_ok : (rev offset room : ℕ) (bytes : List ℕ) → offset ≤ length bytes → part_read rev offset room (Ok bytes) ≡ Ok (take room (drop offset bytes))
part_ok rev offset room bytes le = let e : nat_lt (length bytes) offset ≡ false = grind (arith, le) in ap (λ b. cond b (Err (Short rev offset)) (Ok (take room (drop offset bytes)))) e

same_ok : (a b : List ℕ) → ◌≡◌ {A = Result (List ℕ) BookFault} (Ok a) (Ok b) → a ≡ b
same_ok a b e = cc

piece_is : (bytes filled : List ℕ) (rev offset count room : ℕ) → offset ≤ length bytes → part_read rev offset room (Ok bytes) ≡ Ok (take count filled) → take room (drop offset bytes) ≡ take count filled
piece_is bytes filled rev offset count room le read = same_ok (take room (drop offset bytes)) (take count filled) (sym (part_ok rev offset room bytes le) ∙ read)

least_is : (bytes filled : List ℕ) (rev offset count room : ℕ) → count ≤ length filled → offset ≤ length bytes → part_read rev offset room (Ok bytes) ≡ Ok (take count filled) → count ≡ min room (length (drop offset bytes))
least_is bytes filled rev offset count room bound le read =
    let long : length (take count filled) ≡ count = omega (arith, length-take count filled, bound) in
    omega (arith, long, ap length (piece_is bytes filled rev offset count room le read), length-take room (drop offset bytes))

pub piece_many : (bytes filled : List ℕ) (rev offset count room : ℕ) → count ≤ length filled → offset ≤ length bytes → part_read rev offset room (Ok bytes) ≡ Ok (take count filled) → count ≡ min room (length bytes - offset)
piece_many bytes filled rev offset count room bound le read = let is : count ≡ min room (length (drop offset bytes)) = least_is bytes filled rev offset count room bound le read in omega (arith, is, length-drop offset bytes)

pub piece_copied : (old new : Option Files) (at before bytes filled : List ℕ) (rev offset count room : ℕ) → at ≡ pack_text → new ≡ option_map (appended at (take count filled)) old → count ≤ length filled → offset ≤ length bytes
    → part_read rev offset room (Ok bytes) ≡ Ok (take count filled) → HasFile old pack_text before → HasFile new pack_text (before ++ take count (drop offset bytes))
piece_copied old new at before bytes filled rev offset count room named done bound le read has =
    let whole : take count (drop offset bytes) ≡ take count filled = take_least room count (drop offset bytes) (least_is bytes filled rev offset count room bound le read) ∙ piece_is bytes filled rev offset count room le read in
    subst (λ l. HasFile new pack_text (before ++ l)) (sym whole) (file_appended old new pack_text before (take count filled) (subst (λ n. new ≡ option_map (appended n (take count filled)) old) named done) has)

pub piece_there : (old new : Option Files) (at before more : List ℕ) → at ≡ pack_text → new ≡ option_map (appended at more) old → HasFile old pack_text before → (bytes : List ℕ) × HasFile new pack_text bytes
piece_there old new at before more named done has = (before ++ more, file_appended old new pack_text before more (subst (λ n. new ≡ option_map (appended n more) old) named done) has)

-- what is told is read, or something was wanting
pub book_want : {X Y : Type 0} (view : X → Y) (rev : ℕ) (fault : BookFault) (bytes : Y) → Gives view (Err fault) (Ok bytes) → IsWant (fault_of rev fault)
book_want view rev DiskFault bytes e = tt
book_want view rev OutOfMemory bytes e = tt
book_want view rev (Refused (refusal.NoRev asked young)) bytes e = absurd cc
book_want view rev (Refused (refusal.Missing absent)) bytes e = absurd cc
book_want view rev (Refused (refusal.Small small)) bytes e = absurd cc
book_want view rev (Short at past) bytes e = absurd cc

pub piece_want : {X : Type 0} (view : X → List ℕ) (rev offset room : ℕ) (fault : BookFault) (bytes : List ℕ) → offset ≤ length bytes → Gives view (Err fault) (part_read rev offset room (Ok bytes)) → IsWant (fault_of rev fault)
piece_want view rev offset room fault bytes le told = book_want view rev fault (take room (drop offset bytes)) (subst (λ r. Gives view (Err fault) r) (part_ok rev offset room bytes le) told)

-- ---- the files are made firm

pub apart : pack_text ≡ manifest_text → ⊥
apart e = let first : 112 ≡ 109 = ap (λ (l : List ℕ). slice_index l 0) e in absurd (omega (arith, first))

pub pack_finished : {X E : Type 0} (result : Result X E) (b0 b1 b2 b3 : Option Files) (firm2 firm3 : List ℕ → ℕ) (p m n text bytes : List ℕ) → p ≡ pack_text → m ≡ manifest_text → n ≡ manifest_text → b1 ≡ option_map (written m text) b0 → b2 ≡ b1
    → ((z : List ℕ) → HasFile b1 p z → IsFirmFile b2 (firm2 p) p) → OnOk result (b3 ≡ b2) → ((q : List ℕ) → (q ≡ n → ⊥) → firm3 q ≡ firm2 q) → HasFile b0 pack_text bytes → OnOk result (HasFile b3 pack_text bytes × IsFirmFile b3 (firm3 pack_text) pack_text)
pack_finished (Err e) b0 b1 b2 b3 firm2 firm3 p m n text bytes p_is m_is n_is wrote same firm kept others has = tt
pack_finished (Ok x) b0 b1 b2 b3 firm2 firm3 p m n text bytes p_is m_is n_is wrote same firm kept others has =
    let here : HasFile b1 pack_text bytes = file_beside b0 b1 manifest_text pack_text bytes text apart (subst (λ z. b1 ≡ option_map (written z text) b0) m_is wrote) has in
    let by_name : HasFile b1 pack_text bytes → IsFirmFile b2 (firm2 pack_text) pack_text = subst (λ z. HasFile b1 z bytes → IsFirmFile b2 (firm2 z) z) p_is (firm bytes) in (
      subst (λ b. HasFile b pack_text bytes) (sym (kept ∙ same)) here,
      subst (λ (y : Option Files × ℕ). IsFirmFile y.0 y.1 pack_text) (λ i. (sym kept i, sym (others pack_text (λ e. apart (e ∙ n_is))) i)) (by_name here),
    )

pub manifest_finished : {X E : Type 0} (result : Result X E) (b0 b1 b2 b3 : Option Files) (m text : List ℕ) (size : ℕ) (offsets : List ℕ) → m ≡ manifest_text → b1 ≡ option_map (written m text) b0 → b2 ≡ b1 → OnOk result (b3 ≡ b2) → IsManifest size text offsets
    → OnOk result ((x : List ℕ) × HasFile b3 manifest_text x × IsManifest size x offsets)
manifest_finished (Err e) b0 b1 b2 b3 m text size offsets m_is wrote same kept lines = tt
manifest_finished (Ok x) b0 b1 b2 b3 m text size offsets m_is wrote same kept lines =
    (text, subst (λ b. HasFile b manifest_text text) (sym (kept ∙ same)) (file_written b0 b1 manifest_text text (subst (λ z. b1 ≡ option_map (written z text) b0) m_is wrote)), lines)

pub firm_finished : {X E : Type 0} (result : Result X E) (b0 b1 b2 b3 : Option Files) (firm3 : List ℕ → ℕ) (m n text : List ℕ) → m ≡ manifest_text → n ≡ manifest_text → b1 ≡ option_map (written m text) b0 → b2 ≡ b1
    → OnOk result ((z : List ℕ) → HasFile b2 n z → IsFirmFile b3 (firm3 n) n) → OnOk result (IsFirmFile b3 (firm3 manifest_text) manifest_text)
firm_finished (Err e) b0 b1 b2 b3 firm3 m n text m_is n_is wrote same firm = tt
firm_finished (Ok x) b0 b1 b2 b3 firm3 m n text m_is n_is wrote same firm =
    let here : HasFile b2 manifest_text text = subst (λ b. HasFile b manifest_text text) (sym same) (file_written b0 b1 manifest_text text (subst (λ z. b1 ≡ option_map (written z text) b0) m_is wrote)) in
    let by_name : HasFile b2 manifest_text text → IsFirmFile b3 (firm3 manifest_text) manifest_text = subst (λ z. HasFile b2 z text → IsFirmFile b3 (firm3 z) z) n_is (firm text) in
    by_name here

-- the length that was told
pub size_is : (size : ℕ) (bytes : List ℕ) → ◌≡◌ {A = Result ℕ BookFault} (Ok (length bytes)) (Ok size) → size ≡ length bytes
size_is size bytes e = cc

pub copied_on : (held : Option Files) (before bytes : List ℕ) (done more next : ℕ) → next ≡ done + more → HasFile held pack_text ((before ++ take done bytes) ++ take more (drop done bytes)) → HasFile held pack_text (before ++ take next bytes)
copied_on held before bytes done more next e has = subst (λ l. HasFile held pack_text l) (append_assoc before (take done bytes) (take more (drop done bytes)) ∙ ap (λ l. before ++ l) (sym (take-add done more bytes) ∙ ap (λ n. take n bytes) (sym e))) has

pub copied_all : (held : Option Files) (before bytes : List ℕ) (done : ℕ) → length bytes ≤ done → HasFile held pack_text (before ++ take done bytes) → HasFile held pack_text (before ++ bytes)
copied_all held before bytes done le has = subst (λ l. HasFile held pack_text (before ++ l)) (take_all done bytes le) has

-- where the bench told it tells
pub still_tells : (old new : Option Files) (at more : List ℕ) → new ≡ option_map (appended at more) old → IsSome old → IsSome new
still_tells None new at more done tells = absurd cc
still_tells (Some m) new at more done tells = subst IsSome (sym done) refl

pub tells_written : (old new : Option Files) (at bytes : List ℕ) → new ≡ option_map (written at bytes) old → IsSome old → IsSome new
tells_written None new at bytes done tells = absurd cc
tells_written (Some m) new at bytes done tells = subst IsSome (sym done) refl
