-- What each command answers, from what the files of a repository stand for. (svnlook's texts are those of Subversion's own;
-- the lines about a fault and the statuses are this project's profile.)
use Rattle.std.specs.Prelude.{ℕ, List, [], ◌∷◌, ◌++◌, Option, Some, None, unwrap_or, codes, decimal, slice_get}
use Rattle.std.specs.FinMap.{FinMap, empty, insert, get}
use Rattle.fsfs_base.specs.declared.kind.Kind.{Kind}
use Rattle.fsfs_base.specs.declared.kind.Kind.TheVariants.{File, Dir}
use Rattle.fsfs_base.specs.Paths.{Path, path_cmp}
use Rattle.fsfs_tree.specs.Nodes.{Node, Content, Bytes, Closed, TreeFunction, empty_node}
use Rattle.fsfs_tree.specs.Revisions.{Revision, tree_of}
use Rattle.fsfs_tree.specs.Dated.{last_of, date_name}
use Rattle.fsfs_tree.specs.PathHistories.{path_history}
use Rattle.fsfs_tree.specs.FaultWords.{not_found, not_dir, not_file, no_rev, already_repo, not_repo, delta, path_value, two_numbers}
pub use Rattle.fsfs_tree.specs.TreeTexts.{last_name, kind_mark, tree_line, tree_text}
use Rattle.fsfs_tree.specs.PropTexts.{author_text, date_text, log_text, info_text}
use Rattle.fsfs_tree.specs.HistoryTexts.{history_text}
use Rattle.fsfs_tree.specs.ChangedTexts.{changed_text}

-- a command
pub data Command : Type 0 where
  Create : Command
  Youngest : Command
  -- of a revision, or of the youngest; what is shown behind the name of each node, nothing or its id; the path from which on
  Tree : Option ℕ → (Path → List ℕ) → Path → Command
  -- of a revision, or of the youngest; the path of the file
  Cat : Option ℕ → Path → Command
  -- of a revision, or of the youngest
  Author : Option ℕ → Command
  Date : Option ℕ → Command
  Log : Option ℕ → Command
  Info : Option ℕ → Command
  Changed : Option ℕ → Command
  -- from a revision, or from the youngest, on back; the path
  History : Option ℕ → Path → Command

-- what a command writes to its output, the line about a fault that it writes to its error output, if any, and its status
pub record Reply : Type 0 where
  pub output : List ℕ
  pub line : List ℕ
  pub status : ℕ

-- it did what was asked
abbrev pub prints : List ℕ → Reply
prints text = record { output = text; line = []; status = 0 }

-- it refused, and printed nothing
abbrev pub refuses : List ℕ → ℕ → Reply
refuses line status = record { output = []; line = line; status = status }

-- a look refused: the name of the fault and its values, and the status
abbrev pub refuses_look : List ℕ → ℕ → Reply
refuses_look fault = refuses (codes "svnlook: " ++ fault ++ codes "\n")

-- for what stands or doesn't stand at this path
abbrev pub refuses_at : List ℕ → Path → Reply
refuses_at name path = refuses_look (name ++ path_value path) 1

-- ---- what is found at a path

-- the node at its end; or the first path on the way at which nothing stands, or at which a file stands that further names follow
pub data Found : Type 0 where
  Stands : Node → Found
  Lacking : Path → Found
  Blocked : Path → Found

-- on through a node
abbrev pub through : Kind → Path → Found → Found
through File at found = Blocked at
through Dir at found = found

-- from what stands at a path on, down further names
abbrev pub found_from : TreeFunction → Path → Path → Option Node → Found
found_from tree at [] None = Lacking at
found_from tree at [] (Some node) = Stands node
found_from tree at (name ∷ names) None = Lacking at
found_from tree at (name ∷ names) (Some node) = through node.kind at (found_from tree (at ++ name ∷ []) names (tree (at ++ name ∷ [])))

abbrev pub found_at : TreeFunction → Path → Found
found_at tree path = found_from tree [] path (tree [])

-- ---- the answer of each command

abbrev pub tree_reply : (Path → List ℕ) → Path → FinMap path_cmp Node → Found → Reply
tree_reply shown top tree (Stands node) = prints (tree_text shown top tree)
tree_reply shown top tree (Lacking at) = refuses_at not_found at
tree_reply shown top tree (Blocked at) = refuses_at not_dir at

-- the bytes of a file's text alone; a text that is not read is refused, at its place
abbrev pub node_reply : Path → Kind → Content → Reply
node_reply path Dir text = refuses_at not_file path
node_reply path File (Bytes bytes) = prints bytes
node_reply path File (Closed rev offset) = refuses_look (delta ++ two_numbers rev offset) 3

abbrev pub text_reply : Path → Found → Reply
text_reply path (Stands node) = node_reply path node.kind node.text
text_reply path (Lacking at) = refuses_at not_found at
text_reply path (Blocked at) = refuses_at not_dir at

abbrev pub history_reply : List (ℕ × Path) → Found → Reply
history_reply points (Stands node) = prints (history_text points)
history_reply points (Lacking at) = refuses_at not_found at
history_reply points (Blocked at) = refuses_at not_dir at

-- the revision that is asked for
abbrev pub asked_revision : Option ℕ → List Revision → ℕ
asked_revision revision history = unwrap_or revision (last_of history)

abbrev pub in_revision : (Revision → Reply) → ℕ → ℕ → Option Revision → Reply
in_revision reply asked youngest None = refuses_look (no_rev ++ two_numbers asked youngest) 1
in_revision reply asked youngest (Some revision) = reply revision

-- of the revision that is asked for, if the history has it
abbrev pub of_revision : Option ℕ → List Revision → (Revision → Reply) → Reply
of_revision revision history reply = in_revision reply (asked_revision revision history) (last_of history) (slice_get history (asked_revision revision history))

-- a repository stands for a history; none where there is no repository at the path
abbrev pub Answer : Command → Option (List Revision) → Reply
Answer Create None = prints []
Answer Create (Some history) = refuses (codes "svnadmin: " ++ already_repo ++ codes "\n") 1
Answer Youngest None = refuses_look not_repo 1
Answer Youngest (Some history) = prints (decimal (last_of history) ++ codes "\n")
Answer (Tree revision shown path) None = refuses_look not_repo 1
Answer (Tree revision shown path) (Some history) = of_revision revision history (λ r. tree_reply shown path r.tree (found_at (get r.tree) path))
Answer (Cat revision path) None = refuses_look not_repo 1
Answer (Cat revision path) (Some history) = of_revision revision history (λ r. text_reply path (found_at (get r.tree) path))
Answer (Author revision) None = refuses_look not_repo 1
Answer (Author revision) (Some history) = of_revision revision history (λ r. prints (author_text r.properties))
Answer (Date revision) None = refuses_look not_repo 1
Answer (Date revision) (Some history) = of_revision revision history (λ r. prints (date_text r.properties))
Answer (Log revision) None = refuses_look not_repo 1
Answer (Log revision) (Some history) = of_revision revision history (λ r. prints (log_text r.properties))
Answer (Info revision) None = refuses_look not_repo 1
Answer (Info revision) (Some history) = of_revision revision history (λ r. prints (info_text r.properties))
Answer (Changed revision) None = refuses_look not_repo 1
Answer (Changed revision) (Some history) = of_revision revision history (λ r. prints (changed_text (asked_revision revision history) (tree_of history) r.changes))
Answer (History revision path) None = refuses_look not_repo 1
Answer (History revision path) (Some history) =
    of_revision revision history (λ r. history_reply (path_history (tree_of history) (asked_revision revision history) path) (found_at (get r.tree) path))

-- `uuid`, of the identifier of the repository, which no history tells; none where there is no repository at the path
abbrev pub UuidAnswer : Option (List ℕ) → Reply
UuidAnswer None = refuses_look not_repo 1
UuidAnswer (Some identifier) = prints (identifier ++ codes "\n")

-- ---- what a new repository stands for

-- revision 0: `/` alone, an empty directory, with no changed paths, and the date as its one property
abbrev pub first_revision : List ℕ → Revision
first_revision date = record { tree = insert empty [] (empty_node Dir); changes = empty; properties = (date_name, date) ∷ [] }

abbrev pub new_history : List ℕ → List Revision
new_history date = first_revision date ∷ []
