-- The bytes of a property file, as one look gives them, and what is answered of them.
use Rattle.std.proofs.Common.{◌≡◌, ℕ, ◌<◌, ◌≤◌, ◌+◌, List, [], ◌++◌, length, take, drop, Result, Ok, Err, inl, inr, sym, ap, subst, ◌∙◌, arith}
use Rattle.std.proofs.lemmas.List.{take_all, take-append-drop, append_assoc, append-nil, take-append-le}
use Rattle.fsfs_base.specs.Grammar.Relations.{GoesOn, IsFaultAt}
use Rattle.fsfs_layout.specs.Hash.Dump.{IsDump}
use Rattle.fsfs_look.specs.Revprops.Files.{Pairs, SameDump, DumpRead, RevPropsIn, RevPropsOf}
use Rattle.fsfs_revision.specs.declared.wrong.Refusal.{Refusal}
use Rattle.fsfs_revision.specs.declared.wrong.Wrong.{Wrong}
use Rattle.fsfs_revision.specs.declared.wrong.ReadError.{ReadError}
use Rattle.fsfs_revision.specs.declared.wrong.ReadError.TheVariants as errors
use Rattle.fsfs_revision.specs.Damage.Readings.{IfWrong, Answers}
use Rattle.fsfs_revision.specs.RevProps.{MayRead, IsLook, FileRead}
use Rattle.fsfs_revision.proofs.Answering.{goes_on, answers_as}

-- a look that doesn't fill the buffer has read the whole text
pub whole_look : (text old new : List ℕ) (n : ℕ) → IsLook text old new n → n < length old → take n new ≡ text
whole_look text old new n (front, count) less =
    let all : length text ≤ length old = omega (arith, count, less) in
    front ∙ take_all (length old) text all

-- what may be read of a file that might be read later might be read before
module _ (before now : MayRead) (fewer : (rev : ℕ) (read : Result (List ℕ) Refusal) → now rev read → before rev read) (rev : ℕ) where
  -- the whole file
  pub file_read : (old new : List ℕ) (n : ℕ) → ((text : List ℕ) × now rev (Ok text) × IsLook text old new n) → n < length old → before rev (Ok (take n new))
  file_read old new n (text, may, look) less = subst (λ (bytes : List ℕ). before rev (Ok bytes)) (sym (whole_look text old new n look less)) (fewer rev (Ok text) may)

  -- or why there is none
  pub file_wrong : {A : Type 0} (view : A → List ℕ) (e : ReadError) → IfWrong (λ w. FileRead (now rev) (Err w)) e → Answers view (FileRead (before rev)) (Err e)
  file_wrong view (errors.Wrong w) (why, may, is) = (why, fewer rev (Err why) may, is)
  file_wrong view errors.OutOfMemory h = tt
  file_wrong view errors.DiskFault h = tt

-- where no dump goes on after a first part of bytes, none goes on after all of them
pub goes_on_no_more : (bytes : List ℕ) (at : ℕ) → IsFaultAt IsDump bytes at → at < length bytes → ¬ GoesOn IsDump bytes
goes_on_no_more bytes at fault less goes = fault.behind less (record {
  more = drop (at + 1) bytes ++ goes.more;
  value = goes.value;
  text = subst (λ (text : List ℕ). IsDump text goes.value) (sym (ap (λ (b : List ℕ). b ++ goes.more) (take-append-drop (at + 1) bytes)) ∙ append_assoc (take (at + 1) bytes) (drop (at + 1) bytes) goes.more) goes.text;
})

-- a whole text is the same dump as itself
pub same_dump : (text bytes : List ℕ) → bytes ≡ text → SameDump text bytes
same_dump text bytes is pairs = ((λ d. subst (λ (b : List ℕ). IsDump b pairs) (sym is) d), (λ d. subst (λ (b : List ℕ). IsDump b pairs) is d))

-- a text whose front leaves the form is no dump, and neither is the front
pub no_dump : (text bytes : List ℕ) (size : ℕ) → bytes ≡ take size text → ¬ GoesOn IsDump bytes → SameDump text bytes
no_dump text bytes size is stops pairs = (
  (λ d. absurd (stops (record { more = drop size text; value = pairs; text = subst (λ (t : List ℕ). IsDump t pairs) (sym (ap (λ (b : List ℕ). b ++ drop size text) is ∙ take-append-drop size text)) d }))),
  (λ d. absurd (stops (record { more = []; value = pairs; text = subst (λ (t : List ℕ). IsDump t pairs) (sym (append-nil bytes)) d }))),
)

-- what is read of a text is what is read of bytes that are the same dump
pub props_same : (rev : ℕ) (text bytes : List ℕ) → SameDump text bytes → (r : Result Pairs Wrong) → RevPropsIn rev bytes r → RevPropsIn rev text r
props_same rev text bytes same (Ok pairs) is = (same pairs).1 is
props_same rev text bytes same (Err w) (inl (none, is)) = inl ((λ some. none (some.0, (same some.0).0 some.1)), is)
props_same rev text bytes same (Err w) (inr h) = absurd h.1

-- what is answered of bytes that stand for a text is answered of a property file that may be read
module _ (may : MayRead) (rev : ℕ) where
  pub unread : {A B : Type 0} (view : A → List ℕ) (pairs : B → Pairs) (e : ReadError) → Answers view (DumpRead (may rev)) (Err e) → Answers pairs (RevPropsOf may rev) (Err e)
  unread view pairs (errors.Wrong w) h = inl h
  unread view pairs errors.OutOfMemory h = tt
  unread view pairs errors.DiskFault h = tt

  pub props_read : {B : Type 0} (bytes : List ℕ) (pairs : B → Pairs) (result : Result B ReadError) → DumpRead (may rev) (Ok bytes) → Answers pairs (RevPropsIn rev bytes) result → Answers pairs (RevPropsOf may rev) result
  props_read bytes pairs result (text, read, same) told =
      goes_on pairs result (FileRead (may rev)) (RevPropsIn rev) text read (answers_as pairs result (RevPropsIn rev bytes) (RevPropsIn rev text) (props_same rev text bytes same) told)

-- a look that fills the buffer with bytes after which no dump goes on
module _ (before now : MayRead) (fewer : (rev : ℕ) (read : Result (List ℕ) Refusal) → now rev read → before rev read) (rev : ℕ) where
  pub front_read : (old new more : List ℕ) (len n : ℕ) → ((text : List ℕ) × now rev (Ok text) × IsLook text old new n) → len ≡ length old → len ≤ n → n ≤ length new
      → ¬ GoesOn IsDump (take len (new ++ more)) → DumpRead (before rev) (Ok (take len (new ++ more)))
  front_read old new more len n (text, may, look) is full bound stops =
      let all : n ≡ len = omega (arith, look.1, is, full) in
      let front : take len (new ++ more) ≡ take len text = take-append-le len new more (omega (arith, all, bound)) ∙ (ap (λ (k : ℕ). take k new) (sym all) ∙ (look.0 ∙ ap (λ (k : ℕ). take k text) (sym is))) in
      (text, fewer rev (Ok text) may, no_dump text (take len (new ++ more)) len front stops)
