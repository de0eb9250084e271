-- The parts of a line.
use Rattle.std.proofs.Common.{◌≡◌, ◌++◌, ℕ, Bool, List, ap, refl, ◌∙◌, append_assoc, replicate}
use Rattle.std.specs.Prelude.{codes}
use Rattle.fsfs_base.specs.Paths.{PathName}
use Rattle.fsfs_tree.specs.Answers.{kind_mark}
use Rattle.fsfs_noderev.specs.declared.node_rev.NodeRev.{NodeRev}
use Rattle.fsfs_stands.specs.TreeTexts.{IsShownId, IsLine}

module _ (before spaces name mark shown_id end : List ℕ) where
  grouped : before ++ spaces ++ name ++ mark ++ shown_id ++ end ≡ before ++ (spaces ++ name ++ mark ++ shown_id ++ end)
  grouped =
      ap (λ t. t ++ mark ++ shown_id ++ end) (append_assoc before spaces name) ∙ ap (λ t. t ++ shown_id ++ end) (append_assoc before (spaces ++ name) mark)
      ∙ ap (λ t. t ++ end) (append_assoc before (spaces ++ name ++ mark) shown_id) ∙ append_assoc before (spaces ++ name ++ mark ++ shown_id) end

-- an id between its brackets
pub shown_grouped : (before opening id closing : List ℕ) → before ++ opening ++ id ++ closing ≡ before ++ (opening ++ id ++ closing)
shown_grouped before opening id closing = ap (λ t. t ++ closing) (append_assoc before opening id) ∙ append_assoc before (opening ++ id) closing

pub put_whole : (ids : Bool) (level : ℕ) (name : PathName) (v : NodeRev) (shown_id before a b c now : List ℕ) → IsShownId ids v.id shown_id → a ≡ before ++ replicate level 32 → b ≡ a ++ name ++ kind_mark v.kind → c ≡ b ++ shown_id → now ≡ c ++ codes "\n"
    → (line : List ℕ) × IsLine ids level name v line × (now ≡ before ++ line)
put_whole ids level name v shown_id before a b c now shown ea eb ec en = (
  replicate level 32 ++ name ++ kind_mark v.kind ++ shown_id ++ codes "\n",
  record { shown_id = shown_id; id_is = shown; line_is = refl },
  en ∙ ap (λ t. t ++ codes "\n") (ec ∙ ap (λ t. t ++ shown_id) (eb ∙ ap (λ t. t ++ name ++ kind_mark v.kind) ea)) ∙ grouped before (replicate level 32) name (kind_mark v.kind) shown_id (codes "\n"),
)
