-- What the readers of representations and of dumps answer, as readings.
use Rattle.std.proofs.Common.{◌≡◌, ℕ, ◌≤◌, List, true, Option, Some, None, Result, Ok, Err, refl, sym, ap, subst, arith, inl, inr}
use Rattle.std.specs.Prelude.{IsSome, MatchResult, unwrap_or}
use Rattle.std.proofs.lemmas.Bool.Decides.{nat_tests}
use Rattle.fsfs_revision.specs.declared.damage.RevOffset.{RevOffset}
use Rattle.fsfs_revision.specs.declared.wrong.Refusal.{Refusal}
use Rattle.fsfs_revision.specs.declared.wrong.Wrong.{Wrong}
use Rattle.fsfs_revision.specs.declared.wrong.ReadError.{ReadError}
use Rattle.fsfs_revision.specs.declared.wrong.ReadError.TheVariants as errors
use Rattle.fsfs_revision.specs.Damage.Readings.{Answers}
use Rattle.fsfs_revision.proofs.Answering.{err_as}
use Rattle.fsfs_revision.specs.Told.{RevisionBytes}
use Rattle.fsfs_noderev.specs.declared.rep.Rep.{Rep}
use Rattle.fsfs_noderev.specs.declared.rep.Contents.{Contents}
use Rattle.fsfs_noderev.specs.declared.rep.Contents.TheVariants as contents
use Rattle.fsfs_revision.specs.Rep.Faults.{IsRefusedFor}
use Rattle.fsfs_revision.specs.Rep.Frames.{rev_of, text_of, IsWhole, IsTextOf, IsFaultOf}
use Rattle.fsfs_revision.specs.Nodes.{is_before, rep_place_before}
use Rattle.fsfs_revision.specs.Shows.Reading.{RepAt, OfContents}

module _ (look : RevisionBytes) (rep : Rep) where
  found_in : (read : Result (List ℕ) Refusal) (text : List ℕ) → look (rev_of rep) ≡ read → ((bytes : List ℕ) → read ≡ Ok bytes → (text ≡ text_of rep bytes) × IsWhole rep bytes) → ((why : Refusal) → read ≡ Err why → ⊥) → RepAt look rep (Ok text)
  found_in (Ok bytes) text is found refused = (bytes, is, found bytes refl)
  found_in (Err why) text is found refused = absurd (refused why refl)

  pub rep_found : (text : List ℕ) → ((bytes : List ℕ) → look (rev_of rep) ≡ Ok bytes → (text ≡ text_of rep bytes) × IsWhole rep bytes) → ((why : Refusal) → look (rev_of rep) ≡ Err why → ⊥) → RepAt look rep (Ok text)
  rep_found text found refused = found_in (look (rev_of rep)) text refl found refused

  wrong_in : (read : Result (List ℕ) Refusal) (e : ReadError) → look (rev_of rep) ≡ read → ((bytes : List ℕ) → read ≡ Ok bytes → IsFaultOf rep bytes e) → ((why : Refusal) → read ≡ Err why → IsRefusedFor why e) → Answers (λ (t : List ℕ). t) (RepAt look rep) (Err e)
  wrong_in (Ok bytes) (errors.Wrong w) is there without = inr (bytes, is, there bytes refl)
  wrong_in (Err why) (errors.Wrong w) is there without = inl (why, is, without why refl)
  wrong_in read errors.OutOfMemory is there without = tt
  wrong_in read errors.DiskFault is there without = tt

  pub rep_wrong : (e : ReadError) → ((bytes : List ℕ) → look (rev_of rep) ≡ Ok bytes → IsFaultOf rep bytes e) → ((why : Refusal) → look (rev_of rep) ≡ Err why → IsRefusedFor why e) → Answers (λ (t : List ℕ). t) (RepAt look rep) (Err e)
  rep_wrong e there without = wrong_in (look (rev_of rep)) e refl there without

  -- all that a reader answers
  pub rep_read : {A : Type 0} (view : A → List ℕ) (result : Result A ReadError) → ((bytes : List ℕ) → look (rev_of rep) ≡ Ok bytes → MatchResult result (λ a. IsTextOf rep bytes (view a)) (IsFaultOf rep bytes))
      → ((why : Refusal) → look (rev_of rep) ≡ Err why → MatchResult result (λ a. ⊥) (IsRefusedFor why)) → Answers view (RepAt look rep) result
  rep_read view (Ok a) there without = rep_found (view a) there without
  rep_read view (Err e) there without = err_as (λ (t : List ℕ). t) view e (RepAt look rep) (rep_wrong e there without)

-- ---- what a node-revision names

pub before_le : (rev offset : ℕ) (home : RevOffset) → is_before rev offset home ≡ true → rev ≤ home.rev
before_le rev offset home h = grind (arith, nat_tests)

pub rep_le : (home : RevOffset) (rev : Option ℕ) (offset : ℕ) → rep_place_before home rev offset ≡ true → unwrap_or rev 0 ≤ home.rev
rep_le home None offset h = absurd cc
rep_le home (Some rev) offset h = before_le rev offset home h

-- what is read of the representation that a node-revision has
pub contents_some : {B Y : Type 0} (seen : B → Y) (result : Result B ReadError) (nothing : Y) (R : Rep → Result Y Wrong → Type 0) (k : Option Contents) (rep : Rep)
    → k ≡ Some (contents.At rep) → Answers seen (R rep) result → Answers seen (OfContents nothing R k) result
contents_some seen result nothing R k rep e h = subst (λ (x : Option Contents). Answers seen (OfContents nothing R x) result) (sym e) h

pub contents_none : {Y : Type 0} (nothing found : Y) (R : Rep → Result Y Wrong → Type 0) (k : Option Contents) → k ≡ None → found ≡ nothing → OfContents nothing R k (Ok found)
contents_none {Y = Y} nothing found R k e same = subst (λ (x : Option Contents). OfContents nothing R x (Ok found)) (sym e) (ap (λ (y : Y). let r : Result Y Wrong = Ok y in r) same)
