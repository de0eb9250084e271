-- Items of changed-path data: `<id> <action>-<kind> <text-mod> <prop-mod> <path>\n`, and `<revision> <path>\n` of the copy source or `\n`.
use Rattle.std.specs.Prelude.{◌≡◌, ◌≢◌, ℕ, true, List, [], ◌∷◌, ◌++◌, Option, Some, None}
use Rattle.fsfs_base.specs.Grammar.Cuts.{IsCutOf}
use Rattle.fsfs_base.specs.PathTexts.{IsPath}
use Rattle.fsfs_noderev.specs.Fields.{IsIdText, IsPathText, IsSourceText}
use Rattle.fsfs_noderev.specs.Writing.{FitsSource}
use Rattle.fsfs_noderev.specs.declared.node_rev.CopySource.{CopySource}
use Rattle.fsfs_noderev.specs.Changes.Words.{IsFlagText, IsActionAndKind, flags_fit}
use Rattle.fsfs_noderev.specs.declared.changes.item.ChangeItem.{ChangeItem}

-- the first line, without its end
abbrev pub IsFirstLine : List ℕ → ChangeItem → Type 0
IsFirstLine text item =
    IsCutOf 32 IsIdText (IsCutOf 32 IsActionAndKind (IsCutOf 32 IsFlagText (IsCutOf 32 IsFlagText IsPathText))) text
    (item.id, ((item.action, item.kind), (item.text_changed, (item.props_changed, item.path))))

-- the second line, without its end
abbrev pub IsSecondLine : List ℕ → Option CopySource → Type 0
IsSecondLine text None = text ≡ []
IsSecondLine text (Some source) = IsSourceText text source

pub record IsItem (text : List ℕ) (item : ChangeItem) : Type 0 where
  pub first : List ℕ
  pub second : List ℕ
  pub first_is : IsFirstLine first item
  pub second_is : IsSecondLine second item.source
  pub flags : flags_fit item.action item.text_changed item.props_changed ≡ true
  pub parts : text ≡ first ++ 10 ∷ (second ++ 10 ∷ [])

-- what is written: with its kind, its paths within their limits, and no flag in a delete
pub record HasText (item : ChangeItem) : Type 0 where
  pub kind : item.kind ≢ None
  pub flags : flags_fit item.action item.text_changed item.props_changed ≡ true
  pub path : IsPath item.path
  pub source : FitsSource item.source
