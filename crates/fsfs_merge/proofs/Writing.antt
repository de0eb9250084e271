-- Directories written one after the other.
use Rattle.std.proofs.Common.{◌≡◌, ◌∙◌, Bool, true, false, ◌&&◌, cond, List, [], ◌∷◌, ◌++◌, refl, sym, ap, subst, inl, inr}
use Rattle.std.specs.Prelude.{Some, None}
use mathlib.Core.Bool.{false≢true}
use Rattle.std.proofs.lemmas.Bool.{and_parts, and_from}
use Rattle.std.proofs.lemmas.Option.{same_Some}
use Rattle.fsfs_noderev.specs.Ids.{PartValue, part_value}
use Rattle.fsfs_draft.specs.Drafts.{Kept, Folder}
use Rattle.fsfs_draft.specs.Steps.{same_value, kept_at}
use Rattle.fsfs_draft.proofs.Files.{same_value-is, same_value-refl}
use Rattle.fsfs_merge.specs.declared.clash.merged.MergedDir.{MergedDir}
use Rattle.fsfs_revision.specs.Shows.Reading.{DirEntry}
use Rattle.fsfs_merge.specs.Relinked.{IsListOf, relinked_kept, relinked, IsRelinked, IsOfKey, IsWritten, Merged, Same, AreRelinked, AreHere}

pub none_written : (f : Folder) → AreRelinked f f []
none_written f = record { each = λ node copy. Same (λ one. one) refl; next_node = refl; next_copy = refl; items = refl; proto = refl }

-- ---- one more

-- of the same parts
key_of : (dir : MergedDir) (node copy : PartValue) → (same_value (part_value dir.link.own.node) node && same_value (part_value dir.link.own.copy) copy) ≡ true → IsOfKey node copy dir
key_of dir node copy e =
    let both = and_parts (same_value (part_value dir.link.own.node) node) (same_value (part_value dir.link.own.copy) copy) e in
    (same_value-is (part_value dir.link.own.node) node both.0, same_value-is (part_value dir.link.own.copy) copy both.1)

is_key : (dir : MergedDir) (node copy : PartValue) → IsOfKey node copy dir → (same_value (part_value dir.link.own.node) node && same_value (part_value dir.link.own.copy) copy) ≡ true
is_key dir node copy key =
    and_from _ _ (subst (λ (v : PartValue). same_value (part_value dir.link.own.node) v ≡ true) key.0 (same_value-refl (part_value dir.link.own.node)))
    (subst (λ (v : PartValue). same_value (part_value dir.link.own.copy) v ≡ true) key.1 (same_value-refl (part_value dir.link.own.copy)))

-- the files of one node-revision: a directory that was written before has the last
written_at : (before f : Folder) (done : List MergedDir) (dir : MergedDir) (entries : List DirEntry) (k : Kept) → IsListOf dir entries → kept_at f.nodes dir.link.own ≡ Some k → (node copy : PartValue) → IsWritten before f done node copy → IsWritten before (relinked f dir entries k) (dir ∷ done) node copy
written_at before f done dir entries k listed here node copy old = by (same_value (part_value dir.link.own.node) node && same_value (part_value dir.link.own.copy) copy) refl
  where
    there : IsOfKey node copy dir → f.nodes node copy ≡ Some k
    there key = (λ i. f.nodes (sym key.0 i) (sym key.1 i)) ∙ here

    mine : IsOfKey node copy dir → (relinked f dir entries k).nodes node copy ≡ Some (relinked_kept dir entries k) → IsWritten before f done node copy → IsWritten before (relinked f dir entries k) (dir ∷ done) node copy
    mine key now (Merged d names first one of list was is) =
        let same : k ≡ relinked_kept d names first = same_Some k (relinked_kept d names first) (sym (there key) ∙ is) in
        Merged dir entries first (inl refl) key listed was (now ∙ ap (λ (z : Kept). Some (relinked_kept dir entries z)) same)
    mine key now (Same never is) = Merged dir entries k (inl refl) key listed (sym is ∙ there key) now

    other : (IsOfKey node copy dir → ⊥) → (relinked f dir entries k).nodes node copy ≡ f.nodes node copy → IsWritten before f done node copy → IsWritten before (relinked f dir entries k) (dir ∷ done) node copy
    other apart now (Merged d names first one of list was is) = Merged d names first (inr one) of list was (now ∙ is)
    other apart now (Same never is) = Same (λ w. elim w [ inl key ↦ apart key | inr rest ↦ never rest ]) (now ∙ is)

    by : (b : Bool) → (same_value (part_value dir.link.own.node) node && same_value (part_value dir.link.own.copy) copy) ≡ b → IsWritten before (relinked f dir entries k) (dir ∷ done) node copy
    by true e = mine (key_of dir node copy e) (ap (λ (b : Bool). cond b (Some (relinked_kept dir entries k)) (f.nodes node copy)) e) old
    by false e = other (λ key. false≢true (sym e ∙ is_key dir node copy key)) (ap (λ (b : Bool). cond b (Some (relinked_kept dir entries k)) (f.nodes node copy)) e) old

pub one_written : (before f after : Folder) (done : List MergedDir) (dir : MergedDir) → AreRelinked before f done → IsRelinked f after dir → AreRelinked before after (dir ∷ done)
one_written before f after done dir so one = subst (λ (g : Folder). AreRelinked before g (dir ∷ done)) (sym one.after_is) (record {
  each = λ node copy. written_at before f done dir one.entries one.k one.listed one.here node copy (so.each node copy);
  next_node = so.next_node;
  next_copy = so.next_copy;
  items = so.items;
  proto = so.proto;
})

-- ---- a directory that the folder lacks

here_in : (f : Folder) (front back : List MergedDir) (dir : MergedDir) → AreHere f (front ++ dir ∷ back) → (k : Kept) × (kept_at f.nodes dir.link.own ≡ Some k)
here_in f [] back dir h = h.0
here_in f (x ∷ front) back dir h = here_in f front back dir h.1

-- it lacked it before
was_none : (before f : Folder) (done : List MergedDir) (dir : MergedDir) → AreRelinked before f done → kept_at f.nodes dir.link.own ≡ None → kept_at before.nodes dir.link.own ≡ None
was_none before f done dir so none = by (so.each (part_value dir.link.own.node) (part_value dir.link.own.copy))
  where
    by : IsWritten before f done (part_value dir.link.own.node) (part_value dir.link.own.copy) → kept_at before.nodes dir.link.own ≡ None
    by (Merged d names k one of list was is) = absurd (let e : Some (relinked_kept d names k) ≡ None = sym is ∙ none in cc)
    by (Same never is) = sym is ∙ none

pub never_here : (before f : Folder) (dirs front done : List MergedDir) (dir : MergedDir) → dirs ≡ front ++ dir ∷ done → AreRelinked before f done → kept_at f.nodes dir.link.own ≡ None → AreHere before dirs → ⊥
never_here before f dirs front done dir e so none all =
    let w = here_in before front done dir (subst (λ (l : List MergedDir). AreHere before l) e all) in
    let g : None ≡ Some w.0 = sym (was_none before f done dir so none) ∙ w.1 in
    absurd cc
