-- What a node-revision holds: its text and its properties.
use Rattle.std.proofs.Common.{◌≡◌, ◌<◌, ◌⊎◌, ℕ, true, false, List, [], refl, sym, ap, subst, ◌∙◌, inl, inr}
use Rattle.std.specs.Prelude.{◌≢◌, Result, Ok, Err, Option, Some, None, MatchResult, option_map}
use Rattle.fsfs_noderev.specs.declared.rep.Contents.{Contents}
use Rattle.fsfs_noderev.specs.declared.rep.Contents.TheVariants.{At}
use Rattle.fsfs_noderev.specs.declared.rep.Rep.{Rep}
use Rattle.fsfs_noderev.specs.declared.node_rev.NodeRev.{NodeRev}
use Rattle.fsfs_revision.specs.declared.damage.DamageKind.TheVariants as what
use Rattle.fsfs_revision.specs.declared.wrong.Refusal.{Refusal}
use Rattle.fsfs_revision.specs.declared.wrong.ReadError.{ReadError}
use Rattle.fsfs_revision.specs.declared.wrong.ReadError.TheVariants as errors
use Rattle.fsfs_revision.specs.declared.wrong.Wrong.{Wrong}
use Rattle.fsfs_revision.specs.declared.wrong.Wrong.TheVariants as wrongs
use Rattle.fsfs_revision.specs.Damage.Damages.{damaged}
use Rattle.fsfs_revision.specs.Damage.Readings.{Answers, IfWrong}
use Rattle.fsfs_revision.specs.Rep.Faults.{IsRefusedFor}
use Rattle.fsfs_revision.specs.Rep.Frames.{rev_of, text_of, IsWhole, IsFaultOf}
use Rattle.fsfs_revision.specs.Shows.Chains.{own_rev, IsPred, contents_rev}
use Rattle.fsfs_revision.specs.Shows.Reading.{Pairs, OfContents, RepAt, TextOf, PropsOf, offset_of}
use Rattle.fsfs_revision.specs.Told.{RevisionBytes}
use Rattle.fsfs_revision.proofs.Earlier.{pred_same, no_pred}
use Rattle.fsfs_verify.specs.Finds.{Finds}
use Rattle.fsfs_verify.specs.Preds.{IsWrongProps}
use Rattle.fsfs_sound.specs.Rules.{HasText, HasProps}
use Rattle.fsfs_sound.specs.Written.{Precedes}

-- ---- a text

module _ (look : RevisionBytes) (v : NodeRev) where
  -- no text is an empty one
  pub text_none : v.text ≡ None → HasText look v
  text_none is = inl ([], subst (λ (c : Option Contents). OfContents [] (RepAt look) c (Ok (let t : List ℕ = [] in t))) (sym is) refl)

  module _ (rep : Rep) (is : v.text ≡ Some (At rep)) where
    text_by : (r : Result (List ℕ) Wrong) → RepAt look rep r → TextOf look v r
    text_by r of = subst (λ (c : Option Contents). OfContents [] (RepAt look) c r) (sym is) of

    text_whole : (bytes : List ℕ) → look (rev_of rep) ≡ Ok bytes → IsWhole rep bytes → HasText look v
    text_whole bytes e whole = inl (text_of rep bytes, text_by (Ok (text_of rep bytes)) (bytes, e, (refl, whole)))

    text_fault : (bytes : List ℕ) → look (rev_of rep) ≡ Ok bytes → (e : ReadError) → IsFaultOf rep bytes e → IfWrong (λ w. TextOf look v (Err w)) e
    text_fault bytes is_ok errors.OutOfMemory f = tt
    text_fault bytes is_ok errors.DiskFault f = tt
    text_fault bytes is_ok (errors.Wrong w) f = text_by (Err w) (inr (bytes, is_ok, f))

    text_refused : (why : Refusal) → look (rev_of rep) ≡ Err why → (e : ReadError) → IsRefusedFor why e → IfWrong (λ w. TextOf look v (Err w)) e
    text_refused why is_err errors.OutOfMemory f = tt
    text_refused why is_err errors.DiskFault f = tt
    text_refused why is_err (errors.Wrong w) f = text_by (Err w) (inl (why, is_err, f))

    abbrev Found : Result (Unit {0}) ReadError → Type 0
    Found result = Finds (λ _. HasText look v) (λ w. TextOf look v (Err w)) result

    -- what a check of the representation answered
    pub text_found : (told : Option (Result (List ℕ) Refusal)) → told ≡ Some (look (rev_of rep)) → (result : Result (Unit {0}) ReadError)
        → ((bytes : List ℕ) → told ≡ Some (Ok bytes) → MatchResult result (λ _. IsWhole rep bytes) (IsFaultOf rep bytes))
        → ((why : Refusal) → told ≡ Some (Err why) → MatchResult result (λ _. ⊥) (IsRefusedFor why)) → Found result
    text_found told known result whole refused = by (look (rev_of rep)) refl result whole refused
      where
        by : (r : Result (List ℕ) Refusal) → look (rev_of rep) ≡ r → (result : Result (Unit {0}) ReadError)
            → ((bytes : List ℕ) → told ≡ Some (Ok bytes) → MatchResult result (λ _. IsWhole rep bytes) (IsFaultOf rep bytes))
            → ((why : Refusal) → told ≡ Some (Err why) → MatchResult result (λ _. ⊥) (IsRefusedFor why)) → Found result
        by (Ok bytes) e (Ok x) whole refused = text_whole bytes e (whole bytes (known ∙ ap (λ (q : Result (List ℕ) Refusal). Some q) e))
        by (Ok bytes) e (Err f) whole refused = text_fault bytes e f (whole bytes (known ∙ ap (λ (q : Result (List ℕ) Refusal). Some q) e))
        by (Err why) e (Ok x) whole refused = absurd (refused why (known ∙ ap (λ (q : Result (List ℕ) Refusal). Some q) e))
        by (Err why) e (Err f) whole refused = text_refused why e f (refused why (known ∙ ap (λ (q : Result (List ℕ) Refusal). Some q) e))

-- ---- properties

module _ (look : RevisionBytes) (v : NodeRev) where
  pub props_kept : (u : NodeRev) → IsPred look v u → v.props ≡ u.props → HasProps look v
  props_kept u pred same = record { had = inr (u, pred, same); kept = λ w other older. same ∙ ap (λ (x : NodeRev). x.props) (pred_same look v u w pred other) }

  pub props_set : (pairs : Pairs) → PropsOf look v (Ok pairs) → ((contents_rev v.props < own_rev v) ⊎ (v.props ≡ None) → ⊥) → HasProps look v
  props_set pairs read newer = record { had = inl (pairs, read); kept = λ w pred older. absurd (newer older) }

  pub props_alone : (pairs : Pairs) → PropsOf look v (Ok pairs) → v.predecessor ≡ None → HasProps look v
  props_alone pairs read none = record { had = inl (pairs, read); kept = λ w pred older. no_pred look v w pred none }

  pub props_lost : (u : NodeRev) → IsPred look v u → (contents_rev v.props < own_rev v) ⊎ (v.props ≡ None) → v.props ≢ u.props → IsWrongProps look v (damaged (offset_of v.id.place) what.CopyId)
  props_lost u pred older other = inr ((u, pred, older, other), refl)

  pub props_wrong : (e : ReadError) → Answers (λ (p : Pairs). p) (PropsOf look v) (Err e) → IfWrong (IsWrongProps look v) e
  props_wrong errors.OutOfMemory of = tt
  props_wrong errors.DiskFault of = tt
  props_wrong (errors.Wrong w) of = inl of
