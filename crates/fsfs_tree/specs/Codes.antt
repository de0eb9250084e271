-- How nodes, changes and revisions are stored as values.
use Rattle.std.specs.Prelude.{◌≡◌, ℕ, Bool, true, false, List, ◌⊎◌, Option}
use Rattle.std.proofs.Common.{inl, inr, refl}
use Rattle.std.specs.Coded.{Coded, code_by, coded×, coded⊎, coded_ℕ, coded_list, coded_option, coded_bool}
use Rattle.fsfs_base.specs.declared.kind.Kind.{Kind}
use Rattle.fsfs_base.specs.declared.kind.Kind.TheVariants.{File, Dir}
use Rattle.fsfs_base.specs.Paths.{Path, path_cmp}
use Rattle.std.specs.FinMap as map
use Rattle.fsfs_base.specs.declared.action.Action.{Action}
use Rattle.fsfs_base.specs.declared.action.Action.TheVariants.{Add, Delete, Replace, Modify}
use Rattle.fsfs_tree.specs.declared.change_map.Change.{Change}
use Rattle.fsfs_tree.specs.Revisions.{Revision}
use Rattle.fsfs_tree.specs.Nodes.{Node, Content, Bytes, Closed}

abbrev pub is_file : Kind → Bool
is_file File = true
is_file Dir = false

abbrev pub kind_of : Bool → Kind
kind_of true = File
kind_of false = Dir

pub same_kind : (k : Kind) → kind_of (is_file k) ≡ k
same_kind File = refl
same_kind Dir = refl

abbrev pub coded_kind : Coded Kind
coded_kind = code_by Bool coded_bool is_file kind_of same_kind

abbrev pub parts_of : Content → List ℕ ⊎ (ℕ × ℕ)
parts_of (Bytes b) = inl b
parts_of (Closed r o) = inr (r, o)

abbrev pub content_from : List ℕ ⊎ (ℕ × ℕ) → Content
content_from (inl b) = Bytes b
content_from (inr p) = Closed p.0 p.1

pub same_content : (c : Content) → content_from (parts_of c) ≡ c
same_content (Bytes b) = refl
same_content (Closed r o) = refl

abbrev pub coded_content : Coded Content
coded_content = code_by (List ℕ ⊎ (ℕ × ℕ)) (coded⊎ (coded_list coded_ℕ) (coded× coded_ℕ coded_ℕ)) parts_of content_from same_content

abbrev pub coded_path : Coded Path
coded_path = coded_list (coded_list coded_ℕ)

abbrev pub coded_node : Coded Node
coded_node = code_by (Kind × (Content × (List (List ℕ × List ℕ) × (Option (ℕ × Path) × (ℕ × (ℕ × ℕ))))))
    (coded× coded_kind (coded× coded_content (coded× (coded_list (coded× (coded_list coded_ℕ) (coded_list coded_ℕ))) (coded× (coded_option (coded× coded_ℕ coded_path)) (coded× coded_ℕ (coded× coded_ℕ coded_ℕ))))))
    (λ n. (n.kind, (n.text, (n.properties, (n.source, (n.added, (n.props_changed, n.last_changed)))))))
    (λ p. record { kind = p.0; text = p.1.0; properties = p.1.1.0; source = p.1.1.1.0; added = p.1.1.1.1.0; props_changed = p.1.1.1.1.1.0; last_changed = p.1.1.1.1.1.1 })
    (λ _. refl)

-- whether the action leaves a node, and whether one stood there
abbrev pub action_bits : Action → Bool × Bool
action_bits Add = (true, false)
action_bits Delete = (false, true)
action_bits Replace = (true, true)
action_bits Modify = (false, false)

abbrev pub action_from : Bool → Bool → Action
action_from true false = Add
action_from false true = Delete
action_from true true = Replace
action_from false false = Modify

pub same_action : (a : Action) → action_from (action_bits a).0 (action_bits a).1 ≡ a
same_action Add = refl
same_action Delete = refl
same_action Replace = refl
same_action Modify = refl

abbrev pub coded_action : Coded Action
coded_action = code_by (Bool × Bool) (coded× coded_bool coded_bool) action_bits (λ b. action_from b.0 b.1) same_action

abbrev pub coded_change : Coded Change
coded_change = code_by (Action × (Kind × (Bool × (Bool × Option (ℕ × Path)))))
    (coded× coded_action (coded× coded_kind (coded× coded_bool (coded× coded_bool (coded_option (coded× coded_ℕ coded_path))))))
    (λ c. (c.action, (c.kind, (c.text_changed, (c.props_changed, c.source)))))
    (λ p. record { action = p.0; kind = p.1.0; text_changed = p.1.1.0; props_changed = p.1.1.1.0; source = p.1.1.1.1 })
    (λ _. refl)

abbrev pub coded_revision : Coded Revision
coded_revision = code_by (map.FinMap path_cmp Node × (map.FinMap path_cmp Change × List (List ℕ × List ℕ)))
    (coded× (map.code coded_path coded_node) (coded× (map.code coded_path coded_change) (coded_list (coded× (coded_list coded_ℕ) (coded_list coded_ℕ)))))
    (λ r. (r.tree, (r.changes, r.properties)))
    (λ p. record { tree = p.0; changes = p.1.0; properties = p.1.1 })
    (λ _. refl)
