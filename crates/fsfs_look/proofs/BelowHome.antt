-- What stands at a path of a revision stands in no later revision.
use Rattle.std.proofs.Common.{◌≡◌, ◌≤◌, ℕ, Bool, true, false, ap, ◌∙◌, arith, List, [], ◌∷◌, suc, Option, Some, None, Ok, refl, sym, subst}
use Rattle.std.specs.Prelude.{if◌then◌else◌, ◌&&◌}
use Rattle.fsfs_base.specs.Paths.{PathName, Path, same_name}
use Rattle.fsfs_revision.specs.Told.{RevisionBytes}
use Rattle.fsfs_noderev.specs.declared.node_rev.NodeRev.{NodeRev}
use Rattle.fsfs_base.specs.declared.kind.Kind.{Kind}
use Rattle.fsfs_base.specs.declared.kind.Kind.TheVariants.{File, Dir}
use Rattle.fsfs_revision.specs.Shows.Reading.{DirEntry, OfEntry, named, OfNamed, ChildOf, OrLacking, InDirectory, MetFrom, MetAt, Stands, Pairs, AreEntries, EntriesAt, EntriesOf, OfContents, offset_of}
use Rattle.std.proofs.lemmas.Bool.{and_parts}
use Rattle.std.proofs.lemmas.Bool.Decides.{nat_tests}
use Rattle.std.specs.List.{AllByRecursion}
use Rattle.fsfs_noderev.specs.declared.node_id.Place.{Place}
use Rattle.fsfs_noderev.specs.declared.node_id.Place.TheVariants as places
use Rattle.fsfs_noderev.specs.declared.node_id.NodeId.{NodeId}
use Rattle.fsfs_noderev.specs.declared.rep.Contents.{Contents}
use Rattle.fsfs_noderev.specs.declared.rep.Contents.TheVariants as contents
use Rattle.fsfs_revision.specs.Damage.Damages.{place_of}
use Rattle.fsfs_revision.specs.Nodes.{place_before, is_own_place, is_directory}
use Rattle.fsfs_revision.specs.declared.damage.RevOffset.{RevOffset}
use Rattle.fsfs_dag.specs.Views.{home_of}
use Rattle.fsfs_dag.proofs.PairLemmas.{place_le}

entry_id : (look : RevisionBytes) (entry : DirEntry) (v : NodeRev) → OfEntry look entry (Ok v) → v.id ≡ entry.id
entry_id look entry v (u, (w, node, (is, same)), (e, kind)) = ap (λ (n : NodeRev). n.id) (e ∙ is) ∙ same

-- ---- the entries of a directory stand before it

abbrev Before : RevOffset → DirEntry → Type 0
Before home entry = place_before home entry.id.place ≡ true

all_before : (home : RevOffset) (pairs : Pairs) (entries : List DirEntry) → AreEntries home pairs entries → AllByRecursion (Before home) entries
all_before home [] [] h = tt
all_before home [] (e ∷ entries) h = absurd h
all_before home (pair ∷ pairs) [] h = absurd h
all_before home (pair ∷ pairs) (e ∷ entries) h = (h.0.before, all_before home pairs entries h.1)

contents_before : (look : RevisionBytes) (home : RevOffset) (k : Option Contents) (entries : List DirEntry) → OfContents [] (EntriesAt look home) k (Ok entries) → AllByRecursion (Before home) entries
contents_before look home None entries h = let none : [] ≡ entries = cc in subst (λ (t : List DirEntry). AllByRecursion (Before home) t) none tt
contents_before look home (Some contents.Own) entries h = absurd h
contents_before look home (Some (contents.At rep)) entries (pairs, read, h) = all_before home pairs entries h

one_of : (home : RevOffset) (e entry : DirEntry) (rest : Option DirEntry) (b : Bool) → Before home e → (rest ≡ Some entry → Before home entry) → (if b then Some e else rest) ≡ Some entry → Before home entry
one_of home e entry rest true before further h = let same : e ≡ entry = cc in subst (λ (x : DirEntry). Before home x) same before
one_of home e entry rest false before further h = further h

named_before : (home : RevOffset) (name : PathName) (entries : List DirEntry) (entry : DirEntry) → AllByRecursion (Before home) entries → named name entries ≡ Some entry → Before home entry
named_before home name [] entry all h = absurd cc
named_before home name (e ∷ entries) entry all h = one_of home e entry (named name entries) (same_name e.name name) all.0 (λ k. named_before home name entries entry all.1 k) h

-- ---- what holds of a root, and of each child, holds of what stands at a path

module _ (look : RevisionBytes) where
  child_named : (v : NodeRev) (name : PathName) (entries : List DirEntry) (found : Option DirEntry) (u : NodeRev) → named name entries ≡ found → OfNamed look found (Ok (Some u)) → (entry : DirEntry) × (named name entries ≡ Some entry) × OfEntry look entry (Ok u)
  child_named v name entries None u is h = absurd cc
  child_named v name entries (Some entry) u is h = (entry, is, h)

  module _ (P : NodeRev → Type 0) (step : (v : NodeRev) (name : PathName) (u : NodeRev) → P v → ChildOf look v name (Ok (Some u)) → P u) where
    of_child : (v : NodeRev) (name : PathName) (depth : ℕ) (names : Path) (w : NodeRev) (child : Option NodeRev) → P v → ChildOf look v name (Ok child) → ((u : NodeRev) → P u → MetFrom look u (suc depth) names (Ok (Stands w)) → P w)
        → OrLacking (suc depth) (λ u. MetFrom look u (suc depth) names) child (Ok (Stands w)) → P w
    of_child v name depth names w None p read further h = absurd cc
    of_child v name depth names w (Some u) p read further h = further u (step v name u p read) h

    in_kind : (v : NodeRev) (depth : ℕ) (name : PathName) (names : Path) (w : NodeRev) (kind : Kind) → P v → ((u : NodeRev) → P u → MetFrom look u (suc depth) names (Ok (Stands w)) → P w)
        → InDirectory kind depth (ChildOf look v name) (λ u. MetFrom look u (suc depth) names) (Ok (Stands w)) → P w
    in_kind v depth name names w File p further h = absurd cc
    in_kind v depth name names w Dir p further (child, read, h) = of_child v name depth names w child p read further h

    from_all : (path : Path) (v : NodeRev) (depth : ℕ) (w : NodeRev) → P v → MetFrom look v depth path (Ok (Stands w)) → P w
    from_all [] v depth w p h = let same : v ≡ w = cc in subst (λ n. P n) same p
    from_all (name ∷ names) v depth w p h = in_kind v depth name names w v.kind p (λ u k m. from_all names u (suc depth) w k m) h

  pub entry_within : (v : NodeRev) (name : PathName) (entries : List DirEntry) (entry : DirEntry) → EntriesOf look v (Ok entries) → named name entries ≡ Some entry → (offset_of entry.id.place).rev ≤ (home_of v).rev
  entry_within v name entries entry read is = place_le (home_of v) entry.id.place (named_before (home_of v) name entries entry (contents_before look (home_of v) v.text entries read) is)

  child_within : (top : ℕ) (v : NodeRev) (name : PathName) (u : NodeRev) → (home_of v).rev ≤ top → ChildOf look v name (Ok (Some u)) → (home_of u).rev ≤ top
  child_within top v name u le (entries, read, h) =
      let k = child_named v name entries (named name entries) u refl h in
      let lower : (offset_of k.0.id.place).rev ≤ (home_of v).rev = entry_within v name entries k.0 read k.1 in
      let same : (home_of u).rev ≡ (offset_of k.0.id.place).rev = ap (λ (id : NodeId). (offset_of id.place).rev) (entry_id look k.0 u k.2) in
      omega (arith, lower, same, le)

  root_within : (rev offset : ℕ) (v : NodeRev) (place : Place) → is_own_place (place_of rev offset) place ≡ true → (offset_of place).rev ≤ rev
  root_within rev offset v (places.At r o) h = grind (arith, nat_tests)
  root_within rev offset v (places.In txn) h = absurd cc

  pub stands_within : (rev : ℕ) (path : Path) (v : NodeRev) → MetAt look rev path (Ok (Stands v)) → (home_of v).rev ≤ rev
  stands_within rev path v (root, (bytes, has, (t, ends, (n, node, (same, is)))), h) =
      let within = root_within rev t.root n n.id.place (and_parts (is_own_place (place_of rev t.root) n.id.place) (is_directory n.kind) is).0 in
      from_all (λ n. (home_of n).rev ≤ rev) (child_within rev) path root 0 v (subst (λ (x : NodeRev). (home_of x).rev ≤ rev) (sym same) within) h
