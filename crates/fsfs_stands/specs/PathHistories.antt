-- The text of a path's history, where files stand for a history.
use Rattle.std.specs.Prelude.{◌≤◌, ℕ, List}
use Rattle.fsfs_base.specs.Files.{Files}
use Rattle.fsfs_base.specs.Paths.{Path}
use Rattle.fsfs_tree.specs.Revisions.{Revision, tree_of}
use Rattle.fsfs_tree.specs.Dated.{last_of}
use Rattle.fsfs_tree.specs.PathHistories.{path_history}
use Rattle.fsfs_tree.specs.Answers.{found_at}
use Rattle.fsfs_revision.specs.RevBytes.{rev_bytes}
use Rattle.fsfs_stands.specs.Texts.{End}
use Rattle.fsfs_stands.specs.HistoryTexts.{HistoryText}
use Rattle.fsfs_stands.specs.Laws.{IsHistoryOf}
use Rattle.fsfs_stands.specs.Files.{StandsFor}

-- what node-revisions give is the flat model's history of the path
abbrev pub PathHistoriesAreFlat : Type 0
PathHistoriesAreFlat = (files : Files) (h : List Revision) (s : StandsFor files h) (rev : ℕ) (path : Path) → rev ≤ last_of h
    → (text : List ℕ) (end : End) → HistoryText (rev_bytes s.opened.layout files) rev path text end → IsHistoryOf path (path_history (tree_of h) rev path) (found_at (tree_of h rev) path) text end
