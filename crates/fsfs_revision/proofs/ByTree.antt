-- Where the bytes show a tree, what is read is by the tree.
use Rattle.std.proofs.Common.{◌≡◌, ℕ, suc, ◌+◌, List, [], ◌∷◌, ◌++◌, length, take, refl, sym, ap, subst, ◌∙◌, inl, inr, arith, append_assoc}
use Rattle.std.proofs.lemmas.List.{length-append}
use Rattle.std.specs.Prelude.{Result, Ok, Err, Option, Some, None, IsSomeAnd}
use Rattle.fsfs_base.specs.Paths.{PathName, Path}
use Rattle.fsfs_tree.specs.Nodes.{Node, Content, Bytes, Closed, TreeFunction}
use Rattle.fsfs_base.specs.declared.kind.Kind.{Kind}
use Rattle.fsfs_base.specs.declared.kind.Kind.TheVariants.{File, Dir}
use Rattle.fsfs_revision.specs.Told.{RevisionBytes}
use Rattle.fsfs_noderev.specs.declared.node_rev.NodeRev.{NodeRev}
use Rattle.fsfs_revision.specs.Damage.Damages.{place_of}
use Rattle.fsfs_revision.specs.declared.wrong.Wrong.{Wrong}
use Rattle.fsfs_revision.specs.declared.wrong.Wrong.TheVariants as wrongs
use Rattle.fsfs_revision.specs.Shows.Reading.{DirEntry, named, TextOf, PropsOf, EntriesOf, OfNamed, ChildOf, Met, Stands, Lacking, Blocked, OrLacking, InDirectory, MetFrom, MetAt, StandsAt}
use Rattle.fsfs_revision.specs.Shows.Shown.{IsTextOf, IsShown, IsShownAs, Shows}
use Rattle.fsfs_revision.specs.Shows.ByTree.{LacksAt, IsBlockedAt, IsMetByTree, IsEntryByTree, AreEntriesByTree, IsTextByTree, IsReadByTree}
use Rattle.fsfs_revision.proofs.OneAnswer.{ok_same}
use Rattle.fsfs_revision.proofs.OneNode.{root_of_one}
use Rattle.fsfs_revision.proofs.OneEntry.{entries_one}
use Rattle.fsfs_revision.proofs.OneWalk.{child_one, met_at_one, met_same, text_one, props_one}
use Rattle.fsfs_revision.proofs.Walks.{met_behind, in_dir, child_stands, take_front}

-- ---- going on from where a node-revision stands

-- what is met further on is met from there
after_child : (look : RevisionBytes) (a v : NodeRev) (name : PathName) (depth : ℕ) (S T U : NodeRev → Result Met Wrong → Type 0) (r : Result Met Wrong) (o q : Option NodeRev)
    → ChildOf look a name (Ok o) → OrLacking (suc depth) S o (Ok (Stands v)) → ChildOf look a name (Ok q) → OrLacking (suc depth) T q r → ((u : NodeRev) → S u (Ok (Stands v)) → T u r → U v r) → U v r
after_child look a v name depth S T U r None q c on d also f = absurd cc
after_child look a v name depth S T U r (Some u) q c on d also f =
    let same : q ≡ Some u = ok_same q (Some u) (child_one look a name (Ok q) (Ok (Some u)) d c) in
    f u on (subst (λ (x : Option NodeRev). OrLacking (suc depth) T x r) same also)

after_directory : (look : RevisionBytes) (a v : NodeRev) (name : PathName) (kind : Kind) (depth : ℕ) (S T U : NodeRev → Result Met Wrong → Type 0) (r : Result Met Wrong)
    → InDirectory kind depth (ChildOf look a name) S (Ok (Stands v)) → InDirectory kind depth (ChildOf look a name) T r → ((u : NodeRev) → S u (Ok (Stands v)) → T u r → U v r) → U v r
after_directory look a v name File depth S T U r on also f = absurd cc
after_directory look a v name Dir depth S T U (Ok m) on also f = after_child look a v name depth S T U (Ok m) on.0 also.0 on.1 on.2 also.1 also.2 f
after_directory look a v name Dir depth S T U (Err w) on (inl none) f = let e = child_one look a name (Ok on.0) (Err w) on.1 none in absurd cc
after_directory look a v name Dir depth S T U (Err w) on (inr also) f = after_child look a v name depth S T U (Err w) on.0 also.0 on.1 on.2 also.1 also.2 f

met_after : (look : RevisionBytes) (a v : NodeRev) (depth : ℕ) (front rest : Path) (r : Result Met Wrong) → MetFrom look a depth front (Ok (Stands v)) → MetFrom look a depth (front ++ rest) r → MetFrom look v (depth + length front) rest r
met_after look a v depth [] rest r at all =
    let same : a ≡ v = cc in
    subst (λ (n : ℕ). MetFrom look v n rest r) (omega arith) (subst (λ (x : NodeRev). MetFrom look x depth rest r) same all)
met_after look a v depth (name ∷ front) rest r at all =
    after_directory look a v name a.kind depth (λ w. MetFrom look w (suc depth) front) (λ w. MetFrom look w (suc depth) (front ++ rest)) (λ x s. MetFrom look x (depth + length (name ∷ front)) rest s) r at all
    (λ u on also. subst (λ (n : ℕ). MetFrom look v n rest r) (omega arith) (met_after look u v (suc depth) front rest r on also))

root_same : (look : RevisionBytes) (rev : ℕ) (v : NodeRev) (front rest : Path) (m : Met) → StandsAt look rev front v → MetAt look rev (front ++ rest) (Ok m) → MetFrom look v (length front) rest (Ok m)
root_same look rev v front rest m at all =
    let roots = root_of_one look rev (Ok all.0) (Ok at.0) all.1 at.1 in
    let same = ok_same all.0 at.0 roots in
    subst (λ (n : ℕ). MetFrom look v n rest (Ok m)) (omega arith) (met_after look at.0 v 0 front rest (Ok m) at.2 (subst (λ (x : NodeRev). MetFrom look x 0 (front ++ rest) (Ok m)) same all.2))

-- ---- where a walk stops

-- a directory stands above, and nothing below it
record StopsAtNothing (look : RevisionBytes) (rev : ℕ) (p : Path) (depth : ℕ) : Type 0 where
  above : Path
  name : PathName
  rest : Path
  parts : p ≡ above ++ name ∷ rest
  depth_is : depth ≡ suc (length above)
  dir : NodeRev
  stands : StandsAt look rev above dir
  kind : dir.kind ≡ Dir
  lacking : MetAt look rev (above ++ name ∷ []) (Ok (Lacking depth))

-- a file stands above, and names follow
record StopsAtFile (look : RevisionBytes) (rev : ℕ) (p : Path) (depth : ℕ) : Type 0 where
  above : Path
  name : PathName
  rest : Path
  parts : p ≡ above ++ name ∷ rest
  depth_is : depth ≡ length above
  file : NodeRev
  stands : StandsAt look rev above file
  kind : file.kind ≡ File

abbrev Stops : RevisionBytes → ℕ → Path → Met → Type 0
Stops look rev p (Stands v) = Unit {0}
Stops look rev p (Lacking depth) = StopsAtNothing look rev p depth
Stops look rev p (Blocked depth) = StopsAtFile look rev p depth

module _ (look : RevisionBytes) (rev : ℕ) where
  abbrev FurtherOn : Path → PathName → Path → Met → Type 0
  FurtherOn front name names m = (u : NodeRev) → StandsAt look rev (front ++ name ∷ []) u → MetFrom look u (length (front ++ name ∷ [])) names (Ok m) → Stops look rev ((front ++ name ∷ []) ++ names) m

  length_push : (f : Path) (name : PathName) → length (f ++ name ∷ []) ≡ suc (length f)
  length_push [] name = refl
  length_push (x ∷ f) name = ap suc (length_push f name)

  further : (front : Path) (name : PathName) (names : Path) (v : NodeRev) (m : Met) (u : NodeRev) → StandsAt look rev front v → v.kind ≡ Dir → FurtherOn front name names m → ChildOf look v name (Ok (Some u))
      → MetFrom look u (suc (length front)) names (Ok m) → Stops look rev (front ++ name ∷ names) m
  further front name names v m u at is next child on =
      subst (λ (p : Path). Stops look rev p m) (append_assoc front (name ∷ []) names)
      (next u (child_stands look rev v u front name at is child) (subst (λ (n : ℕ). MetFrom look u n names (Ok m)) (sym (length_push front name)) on))

  stops_below : (front : Path) (name : PathName) (names : Path) (v : NodeRev) (m : Met) (o : Option NodeRev) → StandsAt look rev front v → v.kind ≡ Dir → FurtherOn front name names m → ChildOf look v name (Ok o)
      → OrLacking (suc (length front)) (λ u. MetFrom look u (suc (length front)) names) o (Ok m) → Stops look rev (front ++ name ∷ names) m
  stops_below front name names v (Stands w) o at is next child on = tt
  stops_below front name names v (Lacking depth) None at is next child on =
      let same : depth ≡ suc (length front) = cc in
      record {
        above = front;
        name = name;
        rest = names;
        parts = refl;
        depth_is = same;
        dir = v;
        stands = at;
        kind = is;
        lacking = met_behind look rev v front (name ∷ []) (Ok (Lacking depth)) at (in_dir v.kind (length front) (ChildOf look v name) (λ w. MetFrom look w (suc (length front)) []) (Ok (Lacking depth)) is (None, child, on));
      }
  stops_below front name names v (Blocked depth) None at is next child on = absurd cc
  stops_below front name names v (Lacking depth) (Some u) at is next child on = further front name names v (Lacking depth) u at is next child on
  stops_below front name names v (Blocked depth) (Some u) at is next child on = further front name names v (Blocked depth) u at is next child on

  stops_in : (front : Path) (name : PathName) (names : Path) (v : NodeRev) (kind : Kind) (m : Met) → StandsAt look rev front v → v.kind ≡ kind → FurtherOn front name names m
      → InDirectory kind (length front) (ChildOf look v name) (λ u. MetFrom look u (suc (length front)) names) (Ok m) → Stops look rev (front ++ name ∷ names) m
  stops_in front name names v File (Stands w) at is next h = tt
  stops_in front name names v File (Lacking depth) at is next h = absurd cc
  stops_in front name names v File (Blocked depth) at is next h = record { above = front; name = name; rest = names; parts = refl; depth_is = (let e : depth ≡ length front = cc in e); file = v; stands = at; kind = is }
  stops_in front name names v Dir m at is next h = stops_below front name names v m h.0 at is next h.1 h.2

  stops_from : (front rest : Path) (v : NodeRev) (m : Met) → StandsAt look rev front v → MetFrom look v (length front) rest (Ok m) → Stops look rev (front ++ rest) m
  stops_from front [] v (Stands w) at on = tt
  stops_from front [] v (Lacking depth) at on = absurd cc
  stops_from front [] v (Blocked depth) at on = absurd cc
  stops_from front (name ∷ names) v m at on = stops_in front name names v v.kind m at refl (λ u stands further. stops_from (front ++ name ∷ []) names u m stands further) on

  stops : (p : Path) (m : Met) → MetAt look rev p (Ok m) → Stops look rev p m
  stops p m at = stops_from [] p at.0 m (at.0, at.1, refl) at.2

-- ---- by the tree

module _ (look : RevisionBytes) (rev : ℕ) (tree : TreeFunction) (shows : Shows look rev tree) where
  shown_there : (p : Path) (m : Met) → MetAt look rev p (Ok m) → IsShownAs look rev p m (tree p)
  shown_there p m at =
      let w = shows.each p in
      subst (λ (x : Met). IsShownAs look rev p x (tree p)) (met_same look rev p w.0 m w.1 at) w.2

  -- the node of what stands at a path
  node_there : (o : Option Node) (p : Path) (v : NodeRev) → IsSomeAnd o (IsShown look rev p v) → (n : Node) × (o ≡ Some n) × IsShown look rev p v n
  node_there None p v h = absurd h
  node_there (Some n) p v h = (n, refl, h)

  is_there : (p : Path) (v : NodeRev) → StandsAt look rev p v → (n : Node) × (tree p ≡ Some n) × IsShown look rev p v n
  is_there p v at = node_there (tree p) p v (shown_there p (Stands v) at)

  lacks_at : (p : Path) (depth : ℕ) → StopsAtNothing look rev p depth → LacksAt tree p depth
  lacks_at p depth s =
      let whole : p ≡ (s.above ++ s.name ∷ []) ++ s.rest = s.parts ∙ sym (append_assoc s.above (s.name ∷ []) s.rest) in
      let long : length (s.above ++ s.name ∷ []) ≡ suc (length s.above) = length_push look rev s.above s.name in
      let front : take depth p ≡ s.above ++ s.name ∷ [] = (λ i. take ((s.depth_is ∙ sym long) i) (whole i)) ∙ take_front (s.above ++ s.name ∷ []) s.rest in
      let upper : take (length s.above) p ≡ s.above = ap (take (length s.above)) s.parts ∙ take_front s.above (s.name ∷ s.rest) in
      let d = is_there s.above s.dir s.stands in
      record {
        above = length s.above;
        depth_is = s.depth_is;
        within = omega (arith, s.depth_is, ap length whole, length-append (s.above ++ s.name ∷ []) s.rest, long);
        nothing = ap tree front ∙ shown_there (s.above ++ s.name ∷ []) (Lacking depth) s.lacking;
        dir = d.0;
        dir_is = ap tree upper ∙ d.1;
        kind = d.2.kind ∙ s.kind;
      }

  blocked_at : (p : Path) (depth : ℕ) → StopsAtFile look rev p depth → IsBlockedAt tree p depth
  blocked_at p depth s =
      let upper : take depth p ≡ s.above = (λ i. take (s.depth_is i) (s.parts i)) ∙ take_front s.above (s.name ∷ s.rest) in
      let f = is_there s.above s.file s.stands in
      let longer : length (s.name ∷ s.rest) ≡ suc (length s.rest) = refl in
      record {
        within = omega (arith, s.depth_is, ap length s.parts, length-append s.above (s.name ∷ s.rest), longer);
        file = f.0;
        file_is = ap tree upper ∙ f.1;
        kind = f.2.kind ∙ s.kind;
      }

  path_by_tree : (p : Path) (read : Result Met Wrong) → MetAt look rev p read → IsMetByTree look rev tree p read
  path_by_tree p (Ok (Stands v)) at = shown_there p (Stands v) at
  path_by_tree p (Ok (Lacking depth)) at = lacks_at p depth (stops look rev p (Lacking depth) at)
  path_by_tree p (Ok (Blocked depth)) at = blocked_at p depth (stops look rev p (Blocked depth) at)
  path_by_tree p (Err w) at = let s = shows.each p in let e = met_at_one look rev p (Ok s.0) (Err w) s.1 at in absurd cc

  -- ---- entries

  -- the child that is met below a directory
  child_there : (p : Path) (v : NodeRev) (name : PathName) → StandsAt look rev p v → v.kind ≡ Dir → (o : Option NodeRev) × ChildOf look v name (Ok o)
  child_there p v name at is =
      let s = shows.each (p ++ name ∷ []) in
      let on = root_same look rev v p (name ∷ []) s.0 at s.1 in
      let d = subst (λ (k : Kind). InDirectory k (length p) (ChildOf look v name) (λ w. MetFrom look w (suc (length p)) []) (Ok s.0)) is on in
      (d.0, d.1)

  none_there : (p : Path) (v : NodeRev) (name : PathName) → StandsAt look rev p v → v.kind ≡ Dir → ChildOf look v name (Ok None) → tree (p ++ name ∷ []) ≡ None
  none_there p v name at is child =
      shown_there (p ++ name ∷ []) (Lacking (suc (length p)))
      (met_behind look rev v p (name ∷ []) (Ok (Lacking (suc (length p)))) at (in_dir v.kind (length p) (ChildOf look v name) (λ w. MetFrom look w (suc (length p)) []) (Ok (Lacking (suc (length p)))) is (None, child, refl)))

  some_kind : (o : Option Node) (n : Node) (kind : Kind) → o ≡ Some n → n.kind ≡ kind → IsSomeAnd o (λ x. x.kind ≡ kind)
  some_kind o n kind is k = subst (λ (x : Option Node). IsSomeAnd x (λ y. y.kind ≡ kind)) (sym is) k

  entry_by : (p : Path) (v : NodeRev) (name : PathName) (e o : Option DirEntry) (child : Option NodeRev) → StandsAt look rev p v → v.kind ≡ Dir → ChildOf look v name (Ok child) → OfNamed look e (Ok child) → IsEntryByTree e (tree (p ++ name ∷ []))
  entry_by p v name None o child at is found of = none_there p v name at is (subst (λ (c : Option NodeRev). ChildOf look v name (Ok c)) (let h : child ≡ None = cc in h) found)
  entry_by p v name (Some entry) o None at is found of = absurd of
  entry_by p v name (Some entry) o (Some u) at is found of =
      let n = is_there (p ++ name ∷ []) u (child_stands look rev v u p name at is found) in
      some_kind (tree (p ++ name ∷ [])) n.0 entry.kind n.1 (n.2.kind ∙ (λ i. (of.2.0 i).kind) ∙ of.2.1)

  entries_by_tree : (p : Path) (v : NodeRev) (read : Result (List DirEntry) Wrong) → StandsAt look rev p v → v.kind ≡ Dir → EntriesOf look v read → AreEntriesByTree tree p read
  entries_by_tree p v (Ok entries) at is of = λ name.
      let c = child_there p v name at is in
      let same = ok_same c.1.0 entries (entries_one look v (Ok c.1.0) (Ok entries) c.1.1 of) in
      entry_by p v name (named name entries) None c.0 at is c.1 (subst (λ (es : List DirEntry). OfNamed look (named name es) (Ok c.0)) same c.1.2)
  entries_by_tree p v (Err w) at is of =
      let c = child_there p v [] at is in
      let e = entries_one look v (Ok c.1.0) (Err w) c.1.1 of in
      absurd cc

  -- ---- properties and texts

  shown_node : (p : Path) (v : NodeRev) (n : Node) → StandsAt look rev p v → tree p ≡ Some n → IsShown look rev p v n
  shown_node p v n at is =
      let s = is_there p v at in
      let same : s.0 ≡ n = (let e = sym s.1 ∙ is in cc) in
      subst (λ (x : Node). IsShown look rev p v x) same s.2

  props_by_tree : (p : Path) (v : NodeRev) (n : Node) (read : Result (List (List ℕ × List ℕ)) Wrong) → StandsAt look rev p v → tree p ≡ Some n → PropsOf look v read → read ≡ Ok n.properties
  props_by_tree p v n read at is of = props_one look v read (Ok n.properties) of (shown_node p v n at is).properties

  text_by : (v : NodeRev) (text : Content) (read : Result (List ℕ) Wrong) → IsTextOf look File v text → TextOf look v read → IsTextByTree read text
  text_by v (Bytes bytes) (Ok found) is of = ap (λ (t : List ℕ). Bytes t) (ok_same bytes found (text_one look v (Ok bytes) (Ok found) is of))
  text_by v (Bytes bytes) (Err w) is of = let e = text_one look v (Ok bytes) (Err w) is of in absurd cc
  text_by v (Closed r o) (Ok found) is of = let e = text_one look v (Ok found) (Err (wrongs.Delta (place_of r o))) of is in absurd cc
  text_by v (Closed r o) (Err w) is of = let e = text_one look v (Err w) (Err (wrongs.Delta (place_of r o))) of is in (let h : w ≡ wrongs.Delta (place_of r o) = cc in h)

  text_by_tree : (p : Path) (v : NodeRev) (n : Node) (read : Result (List ℕ) Wrong) → StandsAt look rev p v → tree p ≡ Some n → v.kind ≡ File → TextOf look v read → IsTextByTree read n.text
  text_by_tree p v n read at is file of = text_by v n.text read (subst (λ (k : Kind). IsTextOf look k v n.text) file (shown_node p v n at is).text) of

  pub by_tree : IsReadByTree look rev tree
  by_tree = record { paths = path_by_tree; entries = entries_by_tree; props = props_by_tree; texts = text_by_tree }
