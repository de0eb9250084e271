-- The walk with a node-revision more, which was checked by itself, with what it holds.
use Rattle.std.proofs.Common.{◌≡◌, ◌≤◌, ◌<◌, ◌⊎◌, ◌+◌, ◌-◌, ◌++◌, ℕ, suc, List, [], ◌∷◌, length, refl, sym, ap, subst, ◌∙◌, inl, inr, Vec, Global}
use Rattle.std.specs.Prelude.{◌≢◌, Contains, Ok, Option, Some, None, slice_get}
use Rattle.std.proofs.lemmas.List.Elements.{Contains-append_left, Contains-push, Contains-push_cases}
use Rattle.fsfs_base.specs.Paths.{PathName, Path}
use Rattle.fsfs_base.specs.declared.kind.Kind.{Kind}
use Rattle.fsfs_base.specs.declared.kind.Kind.TheVariants.{File, Dir}
use Rattle.fsfs_noderev.specs.declared.node_id.Part.{Part}
use Rattle.fsfs_noderev.specs.declared.node_rev.CopySource.{CopySource}
use Rattle.fsfs_noderev.specs.declared.node_rev.NodeRev.{NodeRev}
use Rattle.fsfs_revision.specs.Told.{RevisionBytes}
use Rattle.fsfs_revision.specs.Shows.Reading.{DirEntry, EntriesOf, named}
use Rattle.fsfs_revision.proofs.Earlier.{pred_same, no_pred}
use Rattle.fsfs_revision.proofs.OneAnswer.{ok_same}
use Rattle.fsfs_revision.proofs.OneEntry.{entries_one}
use Rattle.fsfs_dag.specs.declared.tree_walk.TreeWalk.{TreeWalk}
use Rattle.fsfs_dag.specs.TreeWalks.{Left, left, at_level}
use Rattle.fsfs_dag.specs.Views.{home_of}
use Rattle.fsfs_history.specs.declared.entries_by_name.EntriesByName.{EntriesByName}
use Rattle.fsfs_history.specs.KeptDirs.{by_name}
use Rattle.fsfs_sound.specs.Rules.{HasText, HasProps}
use Rattle.fsfs_sound.specs.Written.{IsNewAt, WasNamed, Precedes}
use Rattle.fsfs_verify.specs.declared.above.Above.{Above}
use Rattle.fsfs_verify.specs.declared.links.Links.{Links}
use Rattle.fsfs_verify.specs.declared.nodes.Copied.{Copied}
use Rattle.fsfs_verify.specs.declared.nodes.NewNodes.{NewNodes}
use Rattle.fsfs_verify.specs.Copies.{IsCopy}
use Rattle.fsfs_verify.specs.LinksUp.{LinkValue, link_at}
use Rattle.fsfs_verify.specs.Steps.{IsSameStack, IsEntered, TakesCopy, NoCopy, ACopy, TakesContents}
use Rattle.fsfs_verify.specs.Walks.{HasListOf, IsListBefore, IsLeft, IsStack, IsTaken, HasTaken, IsCheckedCopy, IsChecked, HasEarlierPred, IsCopied, AreCopied}
use Rattle.fsfs_verify.proofs.ListLemmas.{get_push}
use Rattle.fsfs_verify.proofs.Stacks.{entered_stack, entered_left, left_below}

-- the list of the predecessor of a directory
pub list_before : (look : RevisionBytes) (v : NodeRev) (pred : Option NodeRev) (found : EntriesByName) → Precedes look v pred → HasListOf look pred found → IsListBefore look v found
list_before look v None found none has name before = ((λ is. absurd (let e = sym (has name) ∙ is in cc)), (λ was. no_pred look v was.0 was.1 none))
list_before look v (Some u) found precedes has name before = (
  (λ is. (u, precedes.0, (has.0, has.1, sym (has.2 name) ∙ is))),
  (λ was. (
      let mine : EntriesOf look u (Ok was.2.0) = subst (λ (x : NodeRev). EntriesOf look x (Ok was.2.0)) (pred_same look v was.0 u was.1 precedes.0) was.2.1 in
      let same = ok_same was.2.0 has.0 (entries_one look u (Ok was.2.0) (Ok has.0) mine has.1) in
      has.2 name ∙ ap (λ (es : List DirEntry). named name es) (sym same) ∙ was.2.2)),
)

-- ---- copies

module _ (look : RevisionBytes) (r : ℕ) (drawn before now : List Part) (v : NodeRev) (copies new : List Copied) (done : List NodeRev) where
  pub copied_more : AreCopied copies done → TakesCopy look r drawn v before now copies new → AreCopied new (done ++ v ∷ [])
  copied_more all (NoCopy none same put) = record {
    each = λ u from there is. each u from is (Contains-push_cases done v u there);
    only = λ c there. (let w = all.only c (subst (λ (x : List Copied). Contains x c) put there) in (w.0, w.1, Contains-append_left done (v ∷ []) w.0 w.2, w.3, w.4));
  }
    where
      each : (u : NodeRev) (from : CopySource) → u.copy_from ≡ Some from → Contains done u ⊎ (v ≡ u) → (c : Copied) × Contains new c × IsCopied u c
      each u from is (inl there) = let w = all.each u from there is in (w.0, subst (λ (x : List Copied). Contains x w.0) (sym put) w.1, w.2)
      each u from is (inr mine) = absurd (let e = sym is ∙ ap (λ (x : NodeRev). x.copy_from) (sym mine) ∙ none in cc)
  copied_more all (ACopy source c0 is0 copy same put copied_is) = record {
    each = λ u from there is. each u from is (Contains-push_cases done v u there);
    only = λ c there. only c (Contains-push_cases copies c0 c (subst (λ (x : List Copied). Contains x c) put there));
  }
    where
      each : (u : NodeRev) (from : CopySource) → u.copy_from ≡ Some from → Contains done u ⊎ (v ≡ u) → (c : Copied) × Contains new c × IsCopied u c
      each u from is (inl there) = let w = all.each u from there is in (w.0, subst (λ (x : List Copied). Contains x w.0) (sym put) (Contains-append_left copies (c0 ∷ []) w.0 w.1), w.2)
      each u from is (inr mine) = (c0, subst (λ (x : List Copied). Contains x c0) (sym put) (Contains-push copies c0), subst (λ (x : NodeRev). IsCopied x c0) mine copied_is)

      only : (c : Copied) → Contains copies c ⊎ (c0 ≡ c) → (u : NodeRev) × (from : CopySource) × Contains (done ++ v ∷ []) u × (u.copy_from ≡ Some from) × IsCopied u c
      only c (inl there) = let w = all.only c there in (w.0, w.1, Contains-append_left done (v ∷ []) w.0 w.2, w.3, w.4)
      only c (inr mine) = (v, source, Contains-push done v, is0, subst (λ (x : Copied). IsCopied v x) mine copied_is)

  pub checked_copy : TakesCopy look r drawn v before now copies new → (from : CopySource) → v.copy_from ≡ Some from → IsCheckedCopy look r v from
  checked_copy (NoCopy none same put) from is = absurd (let e = sym is ∙ none in cc)
  checked_copy (ACopy source c0 is0 copy same put copied_is) from is =
      let one : source ≡ from = (let e : (let o : Option CopySource = Some source in o) ≡ Some from = sym is0 ∙ is in cc) in
      subst (λ (x : CopySource). IsCheckedCopy look r v x) one (record { root = copy.root; not_first = copy.part.not_first; suffix = copy.part.suffix; source = copy.source })

-- ---- by itself

module _ (look : RevisionBytes) (r level : ℕ) (v : NodeRev) (pred : Option NodeRev) (old new : NewNodes) where
  pub text_of : TakesContents look level v pred old new → v.kind ≡ File → HasText look v
  text_of (inl dir) file = absurd (let e = sym dir.0 ∙ file in cc)
  text_of (inr read) file = read.1

-- ---- the stack with it

pub record IsGrown (look : RevisionBytes) (r : ℕ) (root : NodeRev) (rest : Left) (above : List Above) (links : Links) (done : List NodeRev) (drawn : List Part) : Type 0 where
  pub first : (a : Above) × (slice_get above 0 ≡ Some a) × (a.dir.node ≡ root)
  pub stack : IsStack look rest above links done
  pub entries : (dir : NodeRev) → Contains done dir → dir.kind ≡ Dir → HasTaken look r rest above links done drawn dir

-- the root is the first of the directories above, or is entered now
abbrev pub HasFirst : NodeRev → List Above → NodeRev → Type 0
HasFirst root above v = ((a : Above) × (slice_get above 0 ≡ Some a) × (a.dir.node ≡ root)) ⊎ ((above ≡ []) × (v ≡ root) × (v.kind ≡ Dir))

module _ (look : RevisionBytes) (r : ℕ) (root : NodeRev) (links : Links) (drawn : List Part) (done : List NodeRev) (v : NodeRev) (pred : Option NodeRev) (old new : NewNodes)
    (s : IsStack look (left old.walk) old.above.items links (done ++ v ∷ []))
    (taken : (dir : NodeRev) → Contains done dir → dir.kind ≡ Dir → HasTaken look r (left old.walk) old.above.items links (done ++ v ∷ []) drawn dir)
    (first : HasFirst root old.above.items v)
    (apart : (i : ℕ) (a : Above) → slice_get old.above.items i ≡ Some a → (home_of a.dir.node).offset ≢ (home_of v).offset)
    (unlinked : (place : ℕ) (link : LinkValue) → link_at links place ≡ Some link → link.dir ≢ (home_of v).offset)
    (precedes : Precedes look v pred) where
  abbrev Grown : Left → List Above → Type 0
  Grown rest above = IsGrown look r root rest above links (done ++ v ∷ []) drawn

  at_file : v.kind ≡ File → Grown (left old.walk) old.above.items
  at_file file = record { first = by first; stack = s; entries = λ dir there kind. each dir kind (Contains-push_cases done v dir there) }
    where
      by : HasFirst root old.above.items v → (a : Above) × (slice_get old.above.items 0 ≡ Some a) × (a.dir.node ≡ root)
      by (inl f) = f
      by (inr f) = absurd (let e = sym f.2 ∙ file in cc)

      each : (dir : NodeRev) → dir.kind ≡ Dir → Contains done dir ⊎ (v ≡ dir) → HasTaken look r (left old.walk) old.above.items links (done ++ v ∷ []) drawn dir
      each dir kind (inl there) = taken dir there kind
      each dir kind (inr mine) = absurd (let e = sym kind ∙ ap (λ (x : NodeRev). x.kind) (sym mine) ∙ file in cc)

  module _ (entries : List DirEntry) (read : EntriesOf look v (Ok entries)) (last : Above) (last_is : last.dir.node ≡ v) (list : HasListOf look pred last.before) where
    before : IsListBefore look v last.before
    before = list_before look v pred last.before precedes list

    mine : Contains (done ++ v ∷ []) v
    mine = Contains-push done v

    at_dir : Grown (at_level (suc (length old.above.items)) entries ++ left old.walk) (old.above.items ++ last ∷ [])
    at_dir = record {
      first = by first;
      stack = entered_stack look (left old.walk) old.above.items links (done ++ v ∷ []) s v entries read last last_is before mine apart unlinked;
      entries = λ dir there kind. each dir kind (Contains-push_cases done v dir there);
    }
      where
        by : HasFirst root old.above.items v → (a : Above) × (slice_get (old.above.items ++ last ∷ []) 0 ≡ Some a) × (a.dir.node ≡ root)
        by (inl f) = (f.0, get_push old.above.items (last ∷ []) 0 f.0 f.1, f.2)
        by (inr f) = (last, subst (λ (xs : List Above). slice_get (xs ++ last ∷ []) 0 ≡ Some last) (sym f.0) refl, last_is ∙ f.1)

        below : (dir : NodeRev) (name : PathName) (entry : DirEntry) → IsTaken look r links (done ++ v ∷ []) drawn dir name entry ⊎ IsLeft (left old.walk) old.above.items dir entry
            → IsTaken look r links (done ++ v ∷ []) drawn dir name entry ⊎ IsLeft (at_level (suc (length old.above.items)) entries ++ left old.walk) (old.above.items ++ last ∷ []) dir entry
        below dir name entry (inl h) = inl h
        below dir name entry (inr h) = inr (left_below look (left old.walk) old.above.items links (done ++ v ∷ []) s v entries read last last_is before mine apart unlinked dir entry h)

        my_entries : HasTaken look r (at_level (suc (length old.above.items)) entries ++ left old.walk) (old.above.items ++ last ∷ []) links (done ++ v ∷ []) drawn v
        my_entries = (entries, read, λ name entry is. inr (entered_left look (left old.walk) old.above.items links (done ++ v ∷ []) s v entries read last last_is before mine apart unlinked name entry is))

        each : (dir : NodeRev) → dir.kind ≡ Dir → Contains done dir ⊎ (v ≡ dir) → HasTaken look r (at_level (suc (length old.above.items)) entries ++ left old.walk) (old.above.items ++ last ∷ []) links (done ++ v ∷ []) drawn dir
        each dir kind (inl there) = (let h = taken dir there kind in (h.0, h.1, λ name entry is. below dir name entry (h.2 name entry is)))
        each dir kind (inr same) = subst (λ (x : NodeRev). HasTaken look r (at_level (suc (length old.above.items)) entries ++ left old.walk) (old.above.items ++ last ∷ []) links (done ++ v ∷ []) drawn x) same my_entries

  pub grown : (level : ℕ) → level ≡ length old.above.items → TakesContents look level v pred old new → Grown (left new.walk) new.above.items
  grown level deep (inl dir) =
      let e = dir.1 in
      let lefts : left new.walk ≡ at_level (suc (length old.above.items)) e.entries ++ left old.walk = e.left_is ∙ ap (λ (n : ℕ). at_level (suc n) e.entries ++ left old.walk) deep in
      let g = at_dir e.entries e.entries_are e.last e.dir_is e.before in
      let h = subst (λ (l : Left). Grown l (old.above.items ++ e.last ∷ [])) (sym lefts) g in
      subst (λ (a : List Above). Grown (left new.walk) a) (sym e.above) h
  grown level deep (inr file) =
      let same = file.2 in
      let h = subst (λ (l : Left). Grown l old.above.items) (sym (ap (λ (w : TreeWalk). left w) same.walk)) (at_file file.0) in
      subst (λ (a : List Above). Grown (left new.walk) a) (sym (ap (λ (a : Vec Above Global). a.items) same.above)) h
