-- Reading an item's lines, as functions on lists.
use Rattle.std.specs.Prelude.{◌≡◌, ℕ, Bool, true, false, List, Option, Some, None, if◌then◌else◌, codes}
use Rattle.std.specs.Str.{bytes_eq}
use Rattle.fsfs_base.specs.Grammar.Cuts.{IsCutOf, cut, and_then, parts_at}
use Rattle.fsfs_base.specs.declared.kind.Kind.{Kind}
use Rattle.fsfs_base.specs.declared.kind.Kind.TheVariants.{File, Dir}
use Rattle.fsfs_base.specs.declared.action.Action.{Action}
use Rattle.fsfs_base.specs.declared.action.Action.TheVariants.{Add, Delete, Replace, Modify}
use Rattle.fsfs_noderev.specs.Ids.{IdValue, IsId, id_at, id_value}
use Rattle.fsfs_noderev.specs.Changes.Words.{IsFlagText, IsActionAndKind, flags_fit}
use Rattle.fsfs_noderev.specs.declared.changes.lines.Head.{Head}
use Rattle.fsfs_noderev.specs.declared.changes.lines.ItemText.{ItemText}

abbrev pub flag_at : List ℕ → Option Bool
flag_at text = if bytes_eq text (codes "true") then Some true else if bytes_eq text (codes "false") then Some false else None

abbrev pub action_at : List ℕ → Option Action
action_at text =
    if bytes_eq text (codes "add") then Some Add
    else if bytes_eq text (codes "delete") then Some Delete
    else if bytes_eq text (codes "replace") then Some Replace
    else if bytes_eq text (codes "modify") then Some Modify
    else None

abbrev pub kind_at : List ℕ → Option Kind
kind_at text = if bytes_eq text (codes "file") then Some File else if bytes_eq text (codes "dir") then Some Dir else None

abbrev pub split_action : List ℕ → Option (List ℕ × List ℕ) → Option (Action × Option Kind)
split_action text None = and_then (action_at text) (λ action. Some (action, None))
split_action text (Some p) = and_then (action_at p.0) (λ action. and_then (kind_at p.1) (λ kind. Some (action, Some kind)))

unfoldable pub action_and_kind_at : List ℕ → Option (Action × Option Kind)
action_and_kind_at text = split_action text (cut 45 text)

-- the fields of the first line: id, action and kind, the two flags, and the path's text
abbrev pub HeadValue : Type 0
HeadValue = IdValue × ((Action × Option Kind) × (Bool × (Bool × List ℕ)))

abbrev pub head_value : Head → HeadValue
head_value h = (id_value h.id, ((h.action, h.kind), (h.text_changed, (h.props_changed, h.path.now))))

-- any text, which stands for itself
abbrev pub IsRest : List ℕ → List ℕ → Type 0
IsRest text rest = text ≡ rest

abbrev pub IsHead : List ℕ → HeadValue → Type 0
IsHead = IsCutOf 32 IsId (IsCutOf 32 IsActionAndKind (IsCutOf 32 IsFlagText (IsCutOf 32 IsFlagText IsRest)))

unfoldable pub head_at : List ℕ → Option HeadValue
head_at text = parts_at 32 id_at (λ t. parts_at 32 action_and_kind_at (λ t. parts_at 32 flag_at (λ t. parts_at 32 flag_at (λ t. Some t) t) t) t) text

abbrev pub lines_at : List ℕ → Option (List ℕ × (List ℕ × List ℕ))
lines_at bytes = and_then (cut 10 bytes) (λ p. and_then (cut 10 p.1) (λ q. Some (p.0, (q.0, q.1))))

abbrev pub checked : HeadValue → (List ℕ × List ℕ) → Option (HeadValue × (List ℕ × List ℕ))
checked h lines = if flags_fit h.1.0.0 h.1.1.0 h.1.1.1.0 then Some (h, lines) else None

-- the fields of the first line, the second line, and the bytes behind
unfoldable pub item_at : List ℕ → Option (HeadValue × (List ℕ × List ℕ))
item_at bytes = and_then (lines_at bytes) (λ l. and_then (head_at l.0) (λ h. checked h l.1))

abbrev pub item_value : ItemText → HeadValue × (List ℕ × List ℕ)
item_value t = (head_value t.head, (t.source.now, t.rest.now))
