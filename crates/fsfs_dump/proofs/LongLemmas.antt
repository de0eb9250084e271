-- A long text, which is read twice.
use Rattle.std.proofs.Common.{◌≡◌, ℕ, Bool, List, [], ◌++◌, Option, Some, Ok, Err, refl, sym, ap, subst, ◌∙◌, append_assoc}
use Rattle.std.specs.Prelude.{Result, option_map}
use Rattle.fsfs_base.specs.declared.kind.Kind.{Kind}
use Rattle.fsfs_base.specs.declared.action.Action.{Action}
use Rattle.fsfs_revision.specs.declared.wrong.Refusal.{Refusal}
use Rattle.fsfs_revision.specs.declared.wrong.ReadError.{ReadError}
use Rattle.fsfs_revision.specs.declared.wrong.Wrong.{Wrong}
use Rattle.fsfs_revision.specs.Damage.Readings.{Answers}
use Rattle.fsfs_revision.specs.Told.{RevisionBytes, Told}
use Rattle.fsfs_revision.specs.Rep.Faults.{IsRefusedFor}
use Rattle.fsfs_revision.specs.Rep.Frames.{rev_of, text_of, IsWhole, IsFaultOf}
use Rattle.fsfs_revision.specs.Shows.Reading.{RepAt, OfContents}
use Rattle.fsfs_noderev.specs.declared.rep.Rep.{Rep}
use Rattle.fsfs_noderev.specs.declared.rep.Contents.{Contents}
use Rattle.fsfs_noderev.specs.declared.changes.item.ChangeItem.{ChangeItem}
use Rattle.fsfs_dag.specs.declared.node.PlacedNode.{PlacedNode}
use Rattle.fsfs_dag.proofs.Reps.{rep_wrong, contents_some}
use Rattle.fsfs_stands.specs.FileTexts.{IsWholeText}
use Rattle.fsfs_look.specs.Revprops.Texts.{ReadText}
use Rattle.fsfs_look.specs.Walks.{Walks}
use Rattle.fsfs_dump.specs.Records.{Pairs, TextFacts, facts_of, props_block, records_head, record_end}
use Rattle.fsfs_dump.specs.Readings.{IfSet, ContentBy, ContentOf, source_of, TextRecords}
use Rattle.fsfs_dump.specs.Views.{IsLong}
use Rattle.fsfs_dump.proofs.WalkLemmas.{Written, Answer, walks_as, walks_head}
use Rattle.fsfs_dump.proofs.ReadLemmas.{whole_read, is_set, set_fails}

abbrev itself : List ℕ → List ℕ
itself t = t

module _ (look : RevisionBytes) (set : Bool) (node : PlacedNode) (rep : Rep) (long : IsLong set node rep) (told : Told) (known : told (rev_of rep) ≡ Some (look (rev_of rep))) where
  told_as : (read : Result (List ℕ) Refusal) → look (rev_of rep) ≡ read → told (rev_of rep) ≡ Some read
  told_as read e = known ∙ ap (λ (r : Result (List ℕ) Refusal). Some r) e

  pub long_fails : {Z : Type 0} (other : Z → Option (List ℕ)) (e : ReadError) → ((bytes : List ℕ) → told (rev_of rep) ≡ Some (Ok bytes) → IsFaultOf rep bytes e) → ((why : Refusal) → told (rev_of rep) ≡ Some (Err why) → IsRefusedFor why e)
      → Answers other (IfSet set (ContentOf look node.node)) (Err e)
  long_fails other e there without =
      let read = rep_wrong look rep e (λ bytes f. there bytes (told_as (Ok bytes) f)) (λ why f. without why (told_as (Err why) f)) in
      let text = contents_some itself (Err e) [] (RepAt look) node.node.text rep long.text read in
      set_fails itself other (ContentOf look node.node) set e long.set_is (subst (λ (k : Kind). Answers itself (ContentBy look node.node k) (Err e)) (sym long.kind) text)

  long_read : (bytes : List ℕ) → look (rev_of rep) ≡ Ok bytes → IsWhole rep bytes → IfSet set (ContentOf look node.node) (Ok (Some (text_of rep bytes)))
  long_read bytes e whole =
      let text = text_of rep bytes in
      let there = subst (λ (k : Option Contents). OfContents [] (RepAt look) k (Ok text)) (sym long.text) (bytes, e, (refl, whole)) in
      is_set itself (ContentOf look node.node) set text long.set_is (subst (λ (k : Kind). ContentBy look node.node k (Ok text)) (sym long.kind) there)

  module _ (item : ChangeItem) (same : item.text_changed ≡ set) (action : Action) (kind : Kind) (pairs : Option Pairs) (facts : TextFacts)
      (checked : (bytes : List ℕ) → told (rev_of rep) ≡ Some (Ok bytes) → IsWhole rep bytes × (facts ≡ facts_of (text_of rep bytes))) (had : (why : Refusal) → told (rev_of rep) ≡ Some (Err why) → ⊥)
      (before mid now : List ℕ) (old new : Written) (r : Answer) (put : mid ≡ before ++ records_head item.path action kind (source_of item) (option_map props_block pairs) (Some facts))
      (written : (bytes : List ℕ) → told (rev_of rep) ≡ Some (Ok bytes) → IsWhole rep bytes → Walks (IsWholeText (text_of rep bytes ++ record_end)) mid now old new r) where
    abbrev Q : Result (List ℕ) Wrong → Type 0
    Q = TextRecords look item action kind node.node pairs

    of_look : (read : Result (List ℕ) Refusal) → look (rev_of rep) ≡ read → Walks (ReadText Q) before now old new r
    of_look (Err why) e = absurd (had why (told_as (Err why) e))
    of_look (Ok bytes) e =
        let t = told_as (Ok bytes) e in
        let w = checked bytes t in
        let text = text_of rep bytes in
        let Head : TextFacts → List ℕ = λ f. records_head item.path action kind (source_of item) (option_map props_block pairs) (Some f) in
        let read = subst (λ (b : Bool). IfSet b (ContentOf look node.node) (Ok (Some text))) (sym same) (long_read bytes e w.0) in
        let same_records : Head (facts_of text) ++ (text ++ record_end) ≡ Head (facts_of text) ++ text ++ record_end = sym (append_assoc (Head (facts_of text)) text record_end) in
        walks_as (IsWholeText (Head (facts_of text) ++ (text ++ record_end))) (ReadText Q) before now old new r
        (whole_read Q (Head (facts_of text) ++ (text ++ record_end)) (Some text, read, ap (λ (t : List ℕ). let s : Result (List ℕ) Wrong = Ok t in s) same_records))
        (walks_head (Head (facts_of text)) (text ++ record_end) before mid now old new r (put ∙ ap (λ (f : TextFacts). before ++ Head f) w.1) (written bytes t w.0))

    pub long_walks : Walks (ReadText Q) before now old new r
    long_walks = of_look (look (rev_of rep)) refl
