-- Where the bytes show a tree, the text that is derived directory after directory is that of the tree's entries in order.
use Rattle.std.proofs.Common.{◌≡◌, ◌≢◌, ℕ, suc, ◌+◌, ◌-◌, Bool, List, [], ◌∷◌, ◌++◌, length, replicate, refl, sym, ap, subst, ◌∙◌, inl, inr, arith, append_assoc, append-nil, flat_map}
use Rattle.std.specs.Prelude.{Ok, Err, Option, Some, codes}
use Rattle.std.specs.FinMap.{FinMap, get}
use Rattle.std.specs.List.{AllByRecursion}
use Rattle.std.proofs.lemmas.Grind.{flat_map-append}
use Rattle.fsfs_tree.specs.Trees.{IsTree}
use Rattle.fsfs_base.specs.Paths.{PathName, Path, path_cmp}
use Rattle.fsfs_tree.specs.Nodes.{Node}
use Rattle.fsfs_base.specs.declared.kind.Kind.TheVariants.{File, Dir}
use Rattle.fsfs_revision.specs.Told.{RevisionBytes}
use Rattle.fsfs_tree.specs.Answers as answers
use Rattle.fsfs_tree.specs.Answers.{Found, found_at, last_name, kind_mark, tree_line, tree_text}
use Rattle.fsfs_noderev.specs.declared.node_rev.NodeRev.{NodeRev}
use Rattle.fsfs_revision.specs.declared.wrong.Wrong.{Wrong}
use Rattle.fsfs_revision.specs.Shows.Reading.{DirEntry, named, EntriesOf, OfEntry, OfNamed, ChildOf, Met, Stands, Lacking, Blocked, MetFrom, MetAt, StandsAt}
use Rattle.fsfs_revision.specs.Shows.Shown.{Shows}
use Rattle.fsfs_revision.proofs.ByTree.{by_tree}
use Rattle.fsfs_revision.proofs.TreeLaw.{sound}
use Rattle.fsfs_revision.proofs.Walks.{met_behind, in_dir, child_stands}
use Rattle.fsfs_stands.specs.declared.look_fault.LookFault.TheVariants as faults
use Rattle.fsfs_stands.specs.Texts.{End, Whole, Refused, Stopped}
use Rattle.fsfs_stands.specs.TreeTexts.{IsLine, NodeText, OfFile, OfDir, OfWrongDir, EntryText, OfNode, OfWrong, Stops, EntriesText, OfNone, OfLast, OfNext, MetText, TreeText}
use Rattle.fsfs_stands.specs.ByTree.{IsOf, AreShownIds, IsTreeOf, TreesAreByTree}
use Rattle.fsfs_stands.proofs.FoundAt.{IsFoundAs, length_push, node_at, never_wrong, found_as}
use Rattle.fsfs_stands.proofs.FileByTree.{nothing_is}
use Rattle.fsfs_stands.proofs.OneIdText.{shown_id_one}
use Rattle.fsfs_stands.proofs.EntryNames.{entries_rise, each_named}
use Rattle.fsfs_stands.proofs.SortedEntries.{all_weaker}
use Rattle.fsfs_stands.proofs.Blocks.{block, file_block, children, directory_block}

-- ---- texts one behind another

of_nothing : (whole : List ℕ) → IsOf whole [] Stopped
of_nothing whole = (whole, refl)

-- a text behind one that is whole
pub of_behind : (front whole text : List ℕ) (end : End) → IsOf whole text end → IsOf (front ++ whole) (front ++ text) end
of_behind front whole text Whole h = ap (λ (t : List ℕ). front ++ t) h
of_behind front whole text (Refused fault) h = absurd h
of_behind front whole text Stopped h = (h.0, ap (λ (t : List ℕ). front ++ t) h.1 ∙ sym (append_assoc front text h.0))

-- a text that isn't whole, before more
pub of_stopped : (whole more text : List ℕ) (end : End) → end ≢ Whole → IsOf whole text end → IsOf (whole ++ more) text end
of_stopped whole more text Whole cut h = absurd (cut refl)
of_stopped whole more text (Refused fault) cut h = absurd h
of_stopped whole more text Stopped cut h = (h.0 ++ more, ap (λ (t : List ℕ). t ++ more) h.1 ∙ append_assoc text h.0 more)

-- ---- names and levels

last_push : (p : Path) (name : PathName) → last_name (p ++ name ∷ []) ≡ name
last_push [] name = refl
last_push (x ∷ []) name = refl
last_push (x ∷ y ∷ p) name = last_push (y ∷ p) name

deeper : (m level n : ℕ) → m ≡ level + n → suc m ≡ suc level + n
deeper m level n deep = omega (arith, deep)

-- ---- the lines of a tree

module _ (look : RevisionBytes) (rev : ℕ) (ids : Bool) (tree : FinMap path_cmp Node) (shown : Path → List ℕ) (shows : Shows look rev (get tree)) (shown_are : AreShownIds look rev ids shown) (top : Path) where
  is_tree : IsTree (get tree)
  is_tree = (sound look rev (get tree) shows).is_tree

  -- the lines of the nodes at a path and below it
  abbrev lines : Path → List ℕ
  lines p = flat_map (tree_line shown top) (block tree p)

  abbrev child_lines : Path → List DirEntry → List ℕ
  child_lines p es = flat_map (tree_line shown top) (children tree p es)

  line_by_tree : (p : Path) (v : NodeRev) (n : Node) (level : ℕ) (name : PathName) (line : List ℕ) → StandsAt look rev p v → n.kind ≡ v.kind → length p ≡ level + length top → name ≡ last_name p → IsLine ids level name v line → line ≡ tree_line shown top (p, n)
  line_by_tree p v n level name line at kind deep last is =
      let depth : level ≡ length p - length top = omega (arith, deep) in
      let id = shown_id_one ids v.id is.shown_id (shown p) is.id_is (shown_are p v at) in
      is.line_is ∙ (λ i. replicate (depth i) 32 ++ last i ++ kind_mark (sym kind i) ++ id i ++ codes "\n")

  -- what an entry of a directory leads to stands below the directory, and nothing is wrong with it
  record LeadsOn (p : Path) (entry : DirEntry) : Type 0 where
    stands : (u : NodeRev) → OfEntry look entry (Ok u) → StandsAt look rev (p ++ entry.name ∷ []) u
    sound : (w : Wrong) → OfEntry look entry (Err w) → ⊥

  file_lines : (p : Path) (v : NodeRev) (level : ℕ) (name : PathName) (line : List ℕ) → StandsAt look rev p v → length p ≡ level + length top → name ≡ last_name p → IsLine ids level name v line → v.kind ≡ File → lines p ≡ line
  file_lines p v level name line at deep last is file =
      let n = node_at look rev (get tree) shows p v at in
      ap (flat_map (tree_line shown top)) (file_block tree is_tree p n.0 n.1 (n.2.kind ∙ file)) ∙ append-nil (tree_line shown top (p, n.0)) ∙ sym (line_by_tree p v n.0 level name line at n.2.kind deep last is)

  directory_lines : (p : Path) (v : NodeRev) (level : ℕ) (name : PathName) (line : List ℕ) (es : List DirEntry) → StandsAt look rev p v → length p ≡ level + length top → name ≡ last_name p → IsLine ids level name v line → v.kind ≡ Dir
      → EntriesOf look v (Ok es) → lines p ≡ line ++ child_lines p es
  directory_lines p v level name line es at deep last is dir of =
      let n = node_at look rev (get tree) shows p v at in
      let by = (by_tree look rev (get tree) shows).entries p v (Ok es) at dir of in
      ap (flat_map (tree_line shown top)) (directory_block tree is_tree p n.0 es n.1 (entries_rise look v es of) by)
      ∙ ap (λ (t : List ℕ). t ++ child_lines p es) (sym (line_by_tree p v n.0 level name line at n.2.kind deep last is))

  leads_on : (p : Path) (v : NodeRev) (es : List DirEntry) → StandsAt look rev p v → v.kind ≡ Dir → EntriesOf look v (Ok es) → AllByRecursion (LeadsOn p) es
  leads_on p v es at dir of = all_weaker (λ e. named e.name es ≡ Some e) (LeadsOn p) es each (each_named es (entries_rise look v es of))
    where
      each : (e : DirEntry) → named e.name es ≡ Some e → LeadsOn p e
      each e is = record {
        stands = λ u leads. child_stands look rev v u p e.name at dir (es, of, subst (λ (o : Option DirEntry). OfNamed look o (Ok (Some u))) (sym is) leads);
        sound = λ w wrong. never_wrong look rev (get tree) shows (p ++ e.name ∷ []) w
            (met_behind look rev v p (e.name ∷ []) (Err w) at
            (in_dir v.kind (length p) (ChildOf look v e.name) (λ u. MetFrom look u (suc (length p)) []) (Err w) dir (inl (inr (es, of, subst (λ (o : Option DirEntry). OfNamed look o (Err w)) (sym is) wrong)))));
      }

  mutual
    node_lines : (level : ℕ) (name : PathName) (v : NodeRev) (text : List ℕ) (end : End) → NodeText look ids level name v text end → (p : Path) → StandsAt look rev p v → length p ≡ level + length top → name ≡ last_name p → IsOf (lines p) text end
    node_lines _ _ _ _ _ (OfFile level name v line is file) p at deep last = sym (file_lines p v level name line at deep last is file)
    node_lines _ _ _ _ _ (OfDir level name v line es text end is dir of below) p at deep last =
        subst (λ (whole : List ℕ). IsOf whole (line ++ text) end) (sym (directory_lines p v level name line es at deep last is dir of))
        (of_behind line (child_lines p es) text end (entries_lines (suc level) es text end below p (leads_on p v es at dir of) (deeper (length p) level (length top) deep)))
    node_lines _ _ _ _ _ (OfWrongDir level name v line w is dir of) p at deep last = (by_tree look rev (get tree) shows).entries p v (Err w) at dir of

    entry_lines : (level : ℕ) (entry : DirEntry) (text : List ℕ) (end : End) → EntryText look ids level entry text end → (p : Path) → LeadsOn p entry → suc (length p) ≡ level + length top → IsOf (lines (p ++ entry.name ∷ [])) text end
    entry_lines _ _ _ _ (OfNode level entry v text end of node) p on deep =
        node_lines level entry.name v text end node (p ++ entry.name ∷ []) (on.stands v of) (length_push p entry.name ∙ deep) (sym (last_push p entry.name))
    entry_lines _ _ _ _ (OfWrong level entry w of) p on deep = on.sound w of
    entry_lines _ _ _ _ (Stops level entry) p on deep = of_nothing (lines (p ++ entry.name ∷ []))

    entries_lines : (level : ℕ) (es : List DirEntry) (text : List ℕ) (end : End) → EntriesText look ids level es text end → (p : Path) → AllByRecursion (LeadsOn p) es → suc (length p) ≡ level + length top → IsOf (child_lines p es) text end
    entries_lines _ _ _ _ (OfNone level) p on deep = refl
    entries_lines _ _ _ _ (OfLast level entry es text end first cut) p on deep =
        subst (λ (whole : List ℕ). IsOf whole text end) (sym (flat_map-append (tree_line shown top) (block tree (p ++ entry.name ∷ [])) (children tree p es)))
        (of_stopped (lines (p ++ entry.name ∷ [])) (child_lines p es) text end cut (entry_lines level entry text end first p on.0 deep))
    entries_lines _ _ _ _ (OfNext level entry es text rest end first later) p on deep =
        let front : text ≡ lines (p ++ entry.name ∷ []) = entry_lines level entry text Whole first p on.0 deep in
        subst (λ (whole : List ℕ). IsOf whole (text ++ rest) end) (sym (flat_map-append (tree_line shown top) (block tree (p ++ entry.name ∷ [])) (children tree p es) ∙ ap (λ (t : List ℕ). t ++ child_lines p es) (sym front)))
        (of_behind text (child_lines p es) rest end (entries_lines level es rest end later p on.1 deep))

  stopped_tree : (found : Found) → IsTreeOf shown top tree found [] Stopped
  stopped_tree (answers.Stands node) = of_nothing (tree_text shown top tree)
  stopped_tree (answers.Lacking at) = refl
  stopped_tree (answers.Blocked at) = refl

  met_tree_by_tree : (m : Met) (found : Found) (text : List ℕ) (end : End) → MetAt look rev top (Ok m) → IsFoundAs (get tree) top m found → MetText look ids top m text end → IsTreeOf shown top tree found text end
  met_tree_by_tree (Stands v) found text end at is t =
      subst (λ (f : Found). IsTreeOf shown top tree f text end) (sym is.2) (node_lines 0 (last_name top) v text end t top at (omega arith) refl)
  met_tree_by_tree (Lacking names) found text end at is t =
      subst (λ (f : Found). IsTreeOf shown top tree f text end) (sym is) (nothing_is (IsTreeOf shown top tree (answers.Lacking _)) (Refused (faults.NotFound names)) text end (refl, refl) t)
  met_tree_by_tree (Blocked names) found text end at is t =
      subst (λ (f : Found). IsTreeOf shown top tree f text end) (sym is) (nothing_is (IsTreeOf shown top tree (answers.Blocked _)) (Refused (faults.NotDir names)) text end (refl, refl) t)

  tree_by_tree : (text : List ℕ) (end : End) → TreeText look rev top ids text end → IsTreeOf shown top tree (found_at (get tree) top) text end
  tree_by_tree text end (inl none) = nothing_is (IsTreeOf shown top tree (found_at (get tree) top)) Stopped text end (stopped_tree (found_at (get tree) top)) none
  tree_by_tree text end (inr (inl w)) = absurd (never_wrong look rev (get tree) shows top w.0 w.1)
  tree_by_tree text end (inr (inr m)) = met_tree_by_tree m.0 (found_at (get tree) top) text end m.1 (found_as look rev (get tree) shows top m.0 m.1) m.2

pub trees_by_tree : TreesAreByTree
trees_by_tree look rev tree path ids shown shows shown_are text end t = tree_by_tree look rev ids tree shown shows shown_are path text end t
