-- Steps of the walk down a path.
use Rattle.std.proofs.Common.{◌≡◌, ℕ, suc, ◌<◌, ◌≤◌, ◌+◌, List, [], ◌∷◌, length, drop, get_or, map, Option, Some, None, Result, Ok, Err, refl, sym, ap, subst, inl, inr, add-one, drop-cons}
use Rattle.std.proofs.lemmas.List.{drop_all}
use Rattle.fsfs_base.specs.Paths.{PathName, Path}
use Rattle.fsfs_base.specs.declared.kind.Kind.{Kind}
use Rattle.fsfs_base.specs.declared.kind.Kind.TheVariants.{File, Dir}
use Rattle.fsfs_revision.specs.Told.{RevisionBytes}
use Rattle.fsfs_noderev.specs.declared.node_rev.NodeRev.{NodeRev}
use Rattle.fsfs_revision.specs.declared.wrong.Wrong.{Wrong}
use Rattle.fsfs_revision.specs.declared.wrong.ReadError.{ReadError}
use Rattle.fsfs_revision.specs.declared.wrong.ReadError.TheVariants as errors
use Rattle.fsfs_revision.specs.Damage.Readings.{Answers}
use Rattle.fsfs_revision.specs.Shows.Reading.{RootOf, ChildOf, Met, Stands, Lacking, Blocked, InDirectory, MetFrom, MetAt}

pub names_step : {S : Type 0} (text : S → PathName) (items : List S) (i : ℕ) (item : S) → i < length items → item ≡ get_or items i item → map text (drop i items) ≡ text item ∷ map text (drop (i + 1) items)
names_step text items i item lt e =
    let d : drop i items ≡ get_or items i item ∷ drop (suc i) items = drop-cons items i item lt in
    rw (d, add-one, ← e) refl

pub names_end : {S : Type 0} (text : S → PathName) (items : List S) (i : ℕ) → length items ≤ i → map text (drop i items) ≡ []
names_end text items i le = ap (map text) (drop_all i items le)

pub from_root : (look : RevisionBytes) (rev : ℕ) (path : Path) (v : NodeRev) → RootOf look rev (Ok v) → (r : Result Met Wrong) → MetFrom look v 0 path r → MetAt look rev path r
from_root look rev path v root (Ok met) h = (v, root, h)
from_root look rev path v root (Err w) h = inr (v, root, h)

pub walk_ends : (look : RevisionBytes) (v : NodeRev) (depth : ℕ) (all : Path) → all ≡ [] → MetFrom look v depth all (Ok (Stands v))
walk_ends look v depth all is = subst (λ (p : Path). MetFrom look v depth p (Ok (Stands v))) (sym is) refl

module _ (look : RevisionBytes) (v : NodeRev) (depth : ℕ) (all names : Path) (name : PathName) (is : all ≡ name ∷ names) where
  abbrev Further : NodeRev → Result Met Wrong → Type 0
  Further w = MetFrom look w (suc depth) names

  of_kind : (kind : Kind) (r : Result Met Wrong) → v.kind ≡ kind → InDirectory kind depth (ChildOf look v name) Further r → MetFrom look v depth all r
  of_kind kind r e h =
      let first : InDirectory v.kind depth (ChildOf look v name) Further r = subst (λ (k : Kind). InDirectory k depth (ChildOf look v name) Further r) (sym e) h in
      subst (λ (p : Path). MetFrom look v depth p r) (sym is) first

  pub walk_file : v.kind ≡ File → MetFrom look v depth all (Ok (Blocked depth))
  walk_file file = of_kind File (Ok (Blocked depth)) file refl

  pub walk_down : v.kind ≡ Dir → (w : NodeRev) → ChildOf look v name (Ok (Some w)) → (r : Result Met Wrong) → MetFrom look w (depth + 1) names r → MetFrom look v depth all r
  walk_down dir w child (Ok met) h = of_kind Dir (Ok met) dir (Some w, child, subst (λ (n : ℕ). MetFrom look w n names (Ok met)) (add-one depth) h)
  walk_down dir w child (Err wrong) h = of_kind Dir (Err wrong) dir (inr (Some w, child, subst (λ (n : ℕ). MetFrom look w n names (Err wrong)) (add-one depth) h))

  pub walk_absent : v.kind ≡ Dir → ChildOf look v name (Ok None) → MetFrom look v depth all (Ok (Lacking (depth + 1)))
  walk_absent dir child =
      let one : Result Met Wrong = Ok (Lacking (depth + 1)) in
      of_kind Dir one dir (None, child, ap (λ (n : ℕ). let r : Result Met Wrong = Ok (Lacking n) in r) (add-one depth))

  pub walk_wrong : {A B : Type 0} (first : A → Option NodeRev) (second : B → Met) (rev : ℕ) (path : Path) (e : ReadError) → ((r : Result Met Wrong) → MetFrom look v depth all r → MetAt look rev path r) → v.kind ≡ Dir
      → Answers first (ChildOf look v name) (Err e) → Answers second (MetAt look rev path) (Err e)
  walk_wrong first second rev path (errors.Wrong w) so_far dir child = so_far (Err w) (of_kind Dir (Err w) dir (inl child))
  walk_wrong first second rev path errors.OutOfMemory so_far dir child = tt
  walk_wrong first second rev path errors.DiskFault so_far dir child = tt
