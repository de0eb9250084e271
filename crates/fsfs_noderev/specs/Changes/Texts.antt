-- Changed-path data: items one after another, to the end.
use Rattle.std.specs.Prelude.{◌≡◌, ◌≢◌, ℕ, List, [], ◌∷◌, ◌++◌, length}
use Rattle.std.specs.List.{AllByRecursion}
use Rattle.fsfs_base.specs.Grammar.Relations.{Begins}
use Rattle.fsfs_noderev.specs.Changes.Items.{IsItem}
use Rattle.fsfs_noderev.specs.declared.changes.item.ChangeItem.{ChangeItem}
use Rattle.fsfs_noderev.specs.declared.changes.error.ChangeError.{ChangeError}
use Rattle.fsfs_noderev.specs.declared.changes.error.ChangeError.TheVariants as errors

-- any item may follow: a transaction's file has several of one path
abbrev pub IsAny : List ChangeItem → ChangeItem → Type 0
IsAny earlier item = Unit {0}

-- no earlier item has its path
abbrev pub HasNewPath : List ChangeItem → ChangeItem → Type 0
HasNewPath earlier item = AllByRecursion (λ e. e.path ≢ item.path) earlier

-- items in the order of the text, behind earlier ones, each of which may follow those before it
abbrev pub Items : (List ChangeItem → ChangeItem → Type 0) → List ChangeItem → List ℕ → List ChangeItem → Type 0
Items May earlier text [] = text ≡ []
Items May earlier text (item ∷ items) = (first second : List ℕ) × IsItem first item × May earlier item × Items May (earlier ++ item ∷ []) second items × (text ≡ first ++ second)

-- what a transaction's file of changes is
abbrev pub AreChanges : List ℕ → List ChangeItem → Type 0
AreChanges = Items IsAny []

-- what a revision's changed-path data is: each path once
abbrev pub AreRevisionChanges : List ℕ → List ChangeItem → Type 0
AreRevisionChanges = Items HasNewPath []

-- each path once
abbrev pub HavePathsOnce : List ChangeItem → List ChangeItem → Type 0
HavePathsOnce earlier [] = Unit {0}
HavePathsOnce earlier (item ∷ items) = HasNewPath earlier item × HavePathsOnce (earlier ++ item ∷ []) items

-- items that may stand, and behind them bytes that don't begin with one that may follow: at is where these begin
pub record IsItemFault (May : List ChangeItem → ChangeItem → Type 0) (bytes : List ℕ) (at : ℕ) : Type 0 where
  pub earlier : List ChangeItem
  pub front : List ℕ
  pub rest : List ℕ
  pub before : Items May [] front earlier
  pub more : rest ≢ []
  pub refused : (item : ChangeItem) (behind : List ℕ) → Begins IsItem rest item behind → ¬ May earlier item
  pub parts : bytes ≡ front ++ rest
  pub place : at ≡ length front

abbrev pub IsOutOfMemory : ChangeError → Type 0
IsOutOfMemory errors.OutOfMemory = Unit {0}
IsOutOfMemory (errors.Fault fault) = ⊥

-- a fault is at the item that is refused; want of memory may come anywhere
abbrev pub IsExact : (List ChangeItem → ChangeItem → Type 0) → List ℕ → ChangeError → Type 0
IsExact May bytes errors.OutOfMemory = Unit {0}
IsExact May bytes (errors.Fault fault) = IsItemFault May bytes fault.at
