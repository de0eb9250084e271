-- The texts of looks, as the flat model prints them.
use Rattle.std.proofs.Common.{◌≡◌, ◌≤◌, ℕ, Bool, List, [], ◌++◌, refl, sym, ap, subst, ◌∙◌, append-nil, inl, inr, arith}
use Rattle.std.specs.Prelude.{Option, Some, None, slice_get}
use Rattle.std.proofs.lemmas.Option.{none-some, slice_get_cases, slice_get_past}
use Rattle.std.specs.FinMap.{FinMap, get}
use Rattle.fsfs_base.specs.Files.{Files}
use Rattle.fsfs_base.specs.Paths.{Path, path_cmp}
use Rattle.fsfs_tree.specs.Nodes.{Node, Content, Bytes, Closed}
use Rattle.fsfs_tree.specs.Revisions.{Revision, node_in, tree_of}
use Rattle.fsfs_base.specs.declared.kind.Kind.{Kind}
use Rattle.fsfs_base.specs.declared.kind.Kind.TheVariants.{File, Dir}
use Rattle.fsfs_cli.specs.Lines.{line_of, status_of}
use Rattle.fsfs_cli.specs.CommandFaults.{fault_from_look}
use Rattle.fsfs_cli.specs.declared.faults.fault.Fault.TheVariants.{Request}
use Rattle.fsfs_cli.specs.declared.faults.request_fault.RequestFault.TheVariants.{NoRev}
use Rattle.fsfs_revision.specs.Told.{RevisionBytes}
use Rattle.fsfs_revision.specs.RevBytes.{rev_bytes, props_bytes}
use Rattle.fsfs_revision.specs.RevProps.{only}
use Rattle.fsfs_tree.specs.FaultWords.{not_found, not_dir, not_file, delta, two_numbers}
use Rattle.fsfs_tree.specs.Answers.{Reply, Found, Stands, Lacking, Blocked, found_at, tree_reply, node_reply, text_reply, history_reply, prints, refuses, refuses_at, refuses_look, in_revision}
use Rattle.fsfs_tree.specs.PropTexts.{author_text, date_text, log_text, info_text}
use Rattle.fsfs_tree.specs.ChangedTexts.{changed_text}
use Rattle.fsfs_tree.specs.HistoryTexts.{history_text}
use Rattle.fsfs_tree.specs.PathHistories.{path_history}
use Rattle.fsfs_tree.specs.Dated.{last_of}
use Rattle.fsfs_revision.specs.Damage.Damages.{place_of}
use Rattle.fsfs_revision.specs.declared.wrong.Wrong.TheVariants as wrongs
use Rattle.fsfs_stands.specs.Files.{StandsFor}
use Rattle.fsfs_stands.specs.ByTree.{IsOf, IsTreeOf, IsFileOf, IsContent, IsNotFoundAt, IsNotDirAt, AreShownIds}
use Rattle.fsfs_stands.specs.Texts.{End, Whole, Refused, Stopped}
use Rattle.fsfs_stands.specs.TreeTexts.{TreeText}
use Rattle.fsfs_stands.specs.FileTexts.{FileText}
use Rattle.fsfs_stands.specs.declared.look_fault.LookFault.{LookFault}
use Rattle.fsfs_stands.specs.declared.look_fault.LookFault.TheVariants as faults
use Rattle.fsfs_stands.proofs.TreeByTree.{trees_by_tree}
use Rattle.fsfs_stands.proofs.FileByTree.{files_by_tree}
use Rattle.fsfs_look.specs.Revprops.Texts.{AuthorText, DateText, LogText, InfoText}
use Rattle.fsfs_look.specs.Revprops.Laws.{ShowsProps}
use Rattle.fsfs_look.proofs.ByProps.{authors_by, dates_by, logs_by, infos_by}
use Rattle.fsfs_stands.specs.ChangedTexts.{ChangedText}
use Rattle.fsfs_stands.proofs.Flat.{changed_flat}
use Rattle.fsfs_stands.specs.HistoryTexts.{HistoryText}
use Rattle.fsfs_stands.specs.Laws.{IsHistoryOf}
use Rattle.fsfs_stands.proofs.PathHistories.{path_histories_flat}
use Rattle.fsfs_cli.specs.declared.tool.Tool.{Tool}
use Rattle.fsfs_cli.specs.declared.tool.Tool.TheVariants.{Look}
use Rattle.fsfs_top.proofs.LookReplies.{Fits}

abbrev LookFits : Path → Reply → List ℕ → End → Type 0
LookFits = Fits Look

-- ---- the lines about what isn't there

not_found_line : (path at : Path) (why : LookFault) → IsNotFoundAt path at why → refuses_at not_found at ≡ refuses (line_of Look (fault_from_look path why)) (status_of (fault_from_look path why))
not_found_line path at (faults.NotFound names) is = ap (refuses_at not_found) is
not_found_line path at (faults.NotDir names) is = absurd is
not_found_line path at faults.NotFile is = absurd is
not_found_line path at (faults.Wrong w) is = absurd is

not_dir_line : (path at : Path) (why : LookFault) → IsNotDirAt path at why → refuses_at not_dir at ≡ refuses (line_of Look (fault_from_look path why)) (status_of (fault_from_look path why))
not_dir_line path at (faults.NotFound names) is = absurd is
not_dir_line path at (faults.NotDir names) is = ap (refuses_at not_dir) is
not_dir_line path at faults.NotFile is = absurd is
not_dir_line path at (faults.Wrong w) is = absurd is

not_file_line : (path : Path) → refuses_at not_file path ≡ refuses (line_of Look (fault_from_look path faults.NotFile)) (status_of (fault_from_look path faults.NotFile))
not_file_line path = refl

delta_line : (path : Path) (rev offset : ℕ) (why : LookFault) → why ≡ faults.Wrong (wrongs.Delta (place_of rev offset))
    → refuses_look (delta ++ two_numbers rev offset) 3 ≡ refuses (line_of Look (fault_from_look path why)) (status_of (fault_from_look path why))
delta_line path rev offset why is = subst (λ (w : LookFault). refuses_look (delta ++ two_numbers rev offset) 3 ≡ refuses (line_of Look (fault_from_look path w)) (status_of (fault_from_look path w))) (sym is) refl

pub no_rev_line : (tool : Tool) (reply : Revision → Reply) (asked youngest : ℕ) → tool ≡ Look → in_revision reply asked youngest None ≡ refuses (line_of tool (Request (NoRev asked youngest))) 1
no_rev_line tool reply asked youngest e = ap (λ (k : Tool). refuses (line_of k (Request (NoRev asked youngest))) 1) (sym e)

nothing_of : (text : List ℕ) → text ≡ [] → (rest : List ℕ) × ([] ≡ text ++ rest)
nothing_of text e = ([], sym e ∙ sym (append-nil text))

-- ---- a tree

tree_fits : (shown : Path → List ℕ) (path : Path) (tree : FinMap path_cmp Node) (found : Found) (text : List ℕ) (end : End) → IsTreeOf shown path tree found text end → LookFits path (tree_reply shown path tree found) text end
tree_fits shown path tree (Stands node) text Whole is = ap prints (sym is)
tree_fits shown path tree (Stands node) text (Refused why) is = absurd is
tree_fits shown path tree (Stands node) text Stopped is = is
tree_fits shown path tree (Lacking at) text Whole is = absurd is
tree_fits shown path tree (Lacking at) text (Refused why) is = (is.0, not_found_line path at why is.1)
tree_fits shown path tree (Lacking at) text Stopped is = nothing_of text is
tree_fits shown path tree (Blocked at) text Whole is = absurd is
tree_fits shown path tree (Blocked at) text (Refused why) is = (is.0, not_dir_line path at why is.1)
tree_fits shown path tree (Blocked at) text Stopped is = nothing_of text is

pub tree_is_by_tree : (files : Files) (h : List Revision) (s : StandsFor files h) (rev : ℕ) (r : Revision) (path : Path) (ids : Bool) (shown : Path → List ℕ) → slice_get h rev ≡ Some r → AreShownIds (rev_bytes s.opened.layout files) rev ids shown
    → (text : List ℕ) (end : End) → TreeText (rev_bytes s.opened.layout files) rev path ids text end → LookFits path (tree_reply shown path r.tree (found_at (get r.tree) path)) text end
tree_is_by_tree files h s rev r path ids shown there are text end is =
    tree_fits shown path r.tree (found_at (get r.tree) path) text end
    (trees_by_tree (rev_bytes s.opened.layout files) rev r.tree path ids shown (s.history.each rev r there).tree are text end is)

-- ---- the text of a file

node_fits : (path : Path) (kind : Kind) (content : Content) (text : List ℕ) (end : End) → IsContent kind content text end → LookFits path (node_reply path kind content) text end
node_fits path Dir content text Whole is = absurd is
node_fits path Dir content text (Refused why) is = (is.0, subst (λ (w : LookFault). refuses_at not_file path ≡ refuses (line_of Look (fault_from_look path w)) (status_of (fault_from_look path w))) (sym is.1) (not_file_line path))
node_fits path Dir content text Stopped is = nothing_of text is
node_fits path File (Bytes bytes) text Whole is = ap prints (sym is)
node_fits path File (Bytes bytes) text (Refused why) is = absurd is
node_fits path File (Bytes bytes) text Stopped is = is
node_fits path File (Closed rev offset) text Whole is = absurd is
node_fits path File (Closed rev offset) text (Refused why) is = (is.0, delta_line path rev offset why is.1)
node_fits path File (Closed rev offset) text Stopped is = nothing_of text is

file_fits : (path : Path) (found : Found) (text : List ℕ) (end : End) → IsFileOf path found text end → LookFits path (text_reply path found) text end
file_fits path (Stands node) text end is = node_fits path node.kind node.text text end is
file_fits path (Lacking at) text Whole is = absurd is
file_fits path (Lacking at) text (Refused why) is = (is.0, not_found_line path at why is.1)
file_fits path (Lacking at) text Stopped is = nothing_of text is
file_fits path (Blocked at) text Whole is = absurd is
file_fits path (Blocked at) text (Refused why) is = (is.0, not_dir_line path at why is.1)
file_fits path (Blocked at) text Stopped is = nothing_of text is

pub file_is_by_tree : (files : Files) (h : List Revision) (s : StandsFor files h) (rev : ℕ) (r : Revision) (path : Path) → slice_get h rev ≡ Some r
    → (text : List ℕ) (end : End) → FileText (rev_bytes s.opened.layout files) rev path text end → LookFits path (text_reply path (found_at (get r.tree) path)) text end
file_is_by_tree files h s rev r path there text end is =
    file_fits path (found_at (get r.tree) path) text end (files_by_tree (rev_bytes s.opened.layout files) rev (get r.tree) path (s.history.each rev r there).tree text end is)

-- ---- the properties of a revision

text_fits : (path : Path) (whole text : List ℕ) (end : End) → IsOf whole text end → LookFits path (prints whole) text end
text_fits path whole text Whole is = ap prints (sym is)
text_fits path whole text (Refused why) is = absurd is
text_fits path whole text Stopped is = is

module _ (files : Files) (h : List Revision) (s : StandsFor files h) (rev : ℕ) (r : Revision) (path : Path) (there : slice_get h rev ≡ Some r) where
  abbrev props : RevisionBytes
  props = props_bytes s.opened.layout files

  shows_props : ShowsProps props rev r.properties
  shows_props = let shown = s.history.each rev r there in record { file = shown.file; file_is = shown.file_is; dump = shown.properties; dated = shown.dated }

  pub author_is_by_props : (text : List ℕ) (end : End) → AuthorText (only props) rev text end → LookFits path (prints (author_text r.properties)) text end
  author_is_by_props text end is = text_fits path (author_text r.properties) text end (authors_by props rev r.properties shows_props text end is)

  pub date_is_by_props : (text : List ℕ) (end : End) → DateText (only props) rev text end → LookFits path (prints (date_text r.properties)) text end
  date_is_by_props text end is = text_fits path (date_text r.properties) text end (dates_by props rev r.properties shows_props text end is)

  pub log_is_by_props : (text : List ℕ) (end : End) → LogText (only props) rev text end → LookFits path (prints (log_text r.properties)) text end
  log_is_by_props text end is = text_fits path (log_text r.properties) text end (logs_by props rev r.properties shows_props text end is)

  pub info_is_by_props : (text : List ℕ) (end : End) → InfoText (only props) rev text end → LookFits path (prints (info_text r.properties)) text end
  info_is_by_props text end is = text_fits path (info_text r.properties) text end (infos_by props rev r.properties shows_props text end is)

-- ---- the changed paths of a revision, and the history of a path

module _ (files : Files) (h : List Revision) (s : StandsFor files h) (rev : ℕ) (r : Revision) (path : Path) (there : slice_get h rev ≡ Some r) where
  abbrev revs : RevisionBytes
  revs = rev_bytes s.opened.layout files

  upto : rev ≤ last_of h
  upto = elim (slice_get_cases h rev).1 [ inl w ↦ omega (arith, w.1) | inr w ↦ absurd (none-some r (sym (slice_get_past h rev w.0) ∙ there)) ]

  pub changed_is_by_changes : (text : List ℕ) (end : End) → ChangedText revs rev text end → LookFits path (prints (changed_text rev (tree_of h) r.changes)) text end
  changed_is_by_changes text end is = text_fits path (changed_text rev (tree_of h) r.changes) text end (changed_flat files h s rev r there text end is)

  history_fits : (points : List (ℕ × Path)) (found : Found) (text : List ℕ) (end : End) → IsHistoryOf path points found text end → LookFits path (history_reply points found) text end
  history_fits points (Stands node) text end is = text_fits path (history_text points) text end is
  history_fits points (Lacking at) text Whole is = absurd is
  history_fits points (Lacking at) text (Refused why) is = (is.0, not_found_line path at why is.1)
  history_fits points (Lacking at) text Stopped is = nothing_of text is
  history_fits points (Blocked at) text Whole is = absurd is
  history_fits points (Blocked at) text (Refused why) is = (is.0, not_dir_line path at why is.1)
  history_fits points (Blocked at) text Stopped is = nothing_of text is

  pub history_is_by_trees : (text : List ℕ) (end : End) → HistoryText revs rev path text end → LookFits path (history_reply (path_history (tree_of h) rev path) (found_at (get r.tree) path)) text end
  history_is_by_trees text end is =
      let points = path_history (tree_of h) rev path in
      history_fits points (found_at (get r.tree) path) text end
      (subst (λ (o : Option Revision). IsHistoryOf path points (found_at (node_in o) path) text end) there (path_histories_flat files h s rev path upto text end is))
