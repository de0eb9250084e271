-- What stands below a directory whose entries are read.
use Rattle.std.proofs.Common.{◌≡◌, ℕ, suc, true, List, [], ◌∷◌, ◌++◌, length, Option, Some, None, Result, Ok, Err, refl, sym, ap, subst, ◌∙◌, arith, inl, inr}
use Rattle.std.specs.Prelude.{IfSome, ◌==◌}
use Rattle.std.proofs.lemmas.Bool.{and_parts, false≢true}
use Rattle.std.proofs.lemmas.Bool.Decides.{nat_tests}
use Rattle.fsfs_base.specs.Paths.{PathName, Path, same_path}
use Rattle.fsfs_base.proofs.PathLemmas.{same_path-is}
use Rattle.fsfs_base.specs.declared.kind.Kind.{Kind}
use Rattle.fsfs_base.specs.declared.kind.Kind.TheVariants.{Dir}
use Rattle.fsfs_revision.specs.Told.{RevisionBytes}
use Rattle.fsfs_noderev.specs.declared.node_rev.NodeRev.{NodeRev}
use Rattle.fsfs_revision.specs.declared.wrong.Wrong.{Wrong}
use Rattle.fsfs_revision.specs.Shows.Reading.{DirEntry as EntryValue, EntriesOf, OfEntry, OfNamed, ChildOf, named, Met, Stands, Lacking, InDirectory, MetFrom, MetAt, StandsAt}
use Rattle.fsfs_revision.proofs.Walks.{met_behind, in_dir}
use Rattle.fsfs_tree.specs.Answers.{last_name}
use Rattle.fsfs_revision.specs.declared.wrong.ReadError.{ReadError}
use Rattle.fsfs_revision.specs.declared.wrong.ReadError.TheVariants as errors
use Rattle.fsfs_revision.specs.Damage.Readings.{Answers, IfWrong}
use Rattle.fsfs_dag.specs.Views.{met_value}
use Rattle.fsfs_dag.specs.declared.node.PlacedNode.{PlacedNode}
use Rattle.fsfs_dag.specs.declared.walk.Met.{Met as Rust}
use Rattle.fsfs_dag.specs.declared.walk.Met.TheVariants as mets
use Rattle.fsfs_stands.specs.ChangedTexts.{KindAt}
use Rattle.fsfs_history.specs.declared.kept_dir.KeptDir.{KeptDir}
use Rattle.fsfs_history.specs.KeptDirs.{EntryKind, is_place}
use Rattle.fsfs_history.proofs.KindLemmas.{same}

module _ (look : RevisionBytes) (rev : ℕ) (p : Path) (name : PathName) (absent : Kind) (v : NodeRev) (at : StandsAt look rev p v) (dir : v.kind ≡ Dir) (entries : List EntryValue) (read : EntriesOf look v (Ok entries)) where
  abbrev Further : NodeRev → Result Met Wrong → Type 0
  Further w = MetFrom look w (suc (length p)) []

  below : (r : Result Met Wrong) → InDirectory Dir (length p) (ChildOf look v name) Further r → MetAt look rev (p ++ name ∷ []) r
  below r h = met_behind look rev v p (name ∷ []) r at (in_dir v.kind (length p) (ChildOf look v name) Further r dir h)

  of_named : (r : Result (Option NodeRev) Wrong) (found : Option EntryValue) → named name entries ≡ found → OfNamed look found r → OfNamed look (named name entries) r
  of_named r found is h = subst (λ (o : Option EntryValue). OfNamed look o r) (sym is) h

  pub none_named : named name entries ≡ None → KindAt look rev (p ++ name ∷ []) absent (Ok absent)
  none_named is = (Lacking (suc (length p)), below (Ok (Lacking (suc (length p)))) (None, (entries, read, of_named (Ok None) None is refl), refl), refl)

  one_named : (entry : EntryValue) (u : NodeRev) → named name entries ≡ Some entry → OfEntry look entry (Ok u) → KindAt look rev (p ++ name ∷ []) absent (Ok u.kind)
  one_named entry u is h = (Stands u, below (Ok (Stands u)) (Some u, (entries, read, of_named (Ok (Some u)) (Some entry) is h), refl), refl)

  pub kind_of_named : (entry : EntryValue) → named name entries ≡ Some entry → (r : Result Kind Wrong) → EntryKind look entry r → KindAt look rev (p ++ name ∷ []) absent r
  kind_of_named entry is (Ok kind) (u, h, e) = subst (λ (r : Result Kind Wrong). KindAt look rev (p ++ name ∷ []) absent r) (sym e) (one_named entry u is h)
  kind_of_named entry is (Err w) (inl h) = inl (below (Err w) (inl (inr (entries, read, of_named (Err w) (Some entry) is h))))
  kind_of_named entry is (Err w) (inr (u, h, e)) = absurd cc

-- ---- paths

last_pushed : (p : Path) (x : PathName) → last_name (p ++ x ∷ []) ≡ x
last_pushed [] x = refl
last_pushed (y ∷ []) x = refl
last_pushed (y ∷ z ∷ p) x = last_pushed (z ∷ p) x

pub parted : (path above : Path) (name found : PathName) → path ≡ above ++ found ∷ [] → name ≡ last_name path → path ≡ above ++ name ∷ []
parted path above name found is last = is ∙ ap (λ (x : PathName). above ++ x ∷ []) (sym (last ∙ ap last_name is ∙ last_pushed above found))

-- ---- what is kept

pub place_is : (kept : Option KeptDir) (rev : ℕ) (path : Path) → is_place kept rev path ≡ true → IfSome kept (λ dir. (dir.rev ≡ rev) × (dir.path ≡ path))
place_is None rev path h = absurd (false≢true h)
place_is (Some dir) rev path h =
    let two = and_parts (dir.rev == rev) (same_path dir.path path) h in
    let number : dir.rev ≡ rev = grind (arith, nat_tests) in
    (number, same_path-is dir.path path two.1)

pub below_place : (kept : Option KeptDir) (rev : ℕ) (path above : Path) (name : PathName) → path ≡ above ++ name ∷ [] → IfSome kept (λ dir. (dir.rev ≡ rev) × (dir.path ≡ above)) → IfSome kept (λ dir. (dir.rev ≡ rev) × (path ≡ dir.path ++ name ∷ []))
below_place None rev path above name is h = tt
below_place (Some dir) rev path above name is h = (h.0, is ∙ ap (λ (p : Path). p ++ name ∷ []) (sym h.1))

-- a failure tells nothing of the bytes
pub failed_tells : (R : Result Kind Wrong → Type 0) (e : ReadError) → IfWrong (λ w. ⊥) e → Answers same R (Err e)
failed_tells R (errors.Wrong w) h = absurd h
failed_tells R errors.OutOfMemory h = tt
failed_tells R errors.DiskFault h = tt

pub met_stands : (look : RevisionBytes) (rev : ℕ) (p : Path) (read : Result Rust ReadError) (met : Rust) (found : PlacedNode) → Answers met_value (MetAt look rev p) read → read ≡ Ok met → met ≡ mets.Node found → StandsAt look rev p found.node
met_stands look rev p read met found told is node = subst (λ (m : Rust). MetAt look rev p (Ok (met_value m))) node (subst (λ (r : Result Rust ReadError). Answers met_value (MetAt look rev p) r) is told)
