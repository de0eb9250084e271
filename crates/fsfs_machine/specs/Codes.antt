-- How entries are stored as values.
use Rattle.std.specs.Prelude.{◌≡◌, ℕ, Bool, true, false, List, ◌⊎◌, Option, Some, None}
use Rattle.std.proofs.Common.{inl, inr, refl}
use Rattle.std.specs.Coded.{Coded, code_by, coded×, coded⊎, coded_ℕ, coded_list, coded_option, coded_bool}
use Rattle.std.specs.FinMap as map
use Rattle.fsfs_base.specs.declared.kind.Kind.{Kind}
use Rattle.fsfs_model.specs.declared.flat.mark.Mark.{Mark}
use Rattle.fsfs_model.specs.declared.flat.mark.What.{What}
use Rattle.fsfs_model.specs.declared.flat.mark.What.TheVariants.{Make, Gone, Text, Prop}
use Rattle.fsfs_base.specs.Paths.{Path, path_cmp}
use Rattle.fsfs_tree.specs.Nodes.{Node}
use Rattle.fsfs_tree.specs.Codes.{coded_kind, coded_path, coded_node, coded_change}
use Rattle.fsfs_tree.specs.declared.change_map.Change.{Change}
use Rattle.fsfs_machine.specs.declared.contents.Part.{Part}
use Rattle.fsfs_model.specs.Flat.Transactions.{Entry}

abbrev pub parts_of : What → Option (Option (ℕ × Path)) ⊎ Bool
parts_of (Make source) = inl (Some source)
parts_of Gone = inl None
parts_of Text = inr true
parts_of Prop = inr false

abbrev pub what_from : Option (Option (ℕ × Path)) ⊎ Bool → What
what_from (inl (Some source)) = Make source
what_from (inl None) = Gone
what_from (inr true) = Text
what_from (inr false) = Prop

pub same_what : (w : What) → what_from (parts_of w) ≡ w
same_what (Make source) = refl
same_what Gone = refl
same_what Text = refl
same_what Prop = refl

abbrev pub coded_what : Coded What
coded_what = code_by (Option (Option (ℕ × Path)) ⊎ Bool) (coded⊎ (coded_option (coded_option (coded× coded_ℕ coded_path))) coded_bool) parts_of what_from same_what

abbrev pub coded_mark : Coded Mark
coded_mark = code_by (Path × (Kind × What)) (coded× coded_path (coded× coded_kind coded_what))
    (λ m. (m.path, (m.kind, m.what)))
    (λ p. record { path = p.0; kind = p.1.0; what = p.1.1 })
    (λ _. refl)

abbrev pub coded_entry : Coded Entry
coded_entry = code_by (ℕ × (ℕ × (map.FinMap path_cmp Node × (List Mark × List (List ℕ × List ℕ)))))
    (coded× coded_ℕ (coded× coded_ℕ (coded× (map.code coded_path coded_node) (coded× (coded_list coded_mark) (coded_list (coded× (coded_list coded_ℕ) (coded_list coded_ℕ)))))))
    (λ e. (e.pass, (e.base, (e.tree, (e.marks, e.properties)))))
    (λ p. record { pass = p.0; base = p.1.0; tree = p.1.1.0; marks = p.1.1.1.0; properties = p.1.1.1.1 })
    (λ _. refl)

abbrev pub coded_part : Coded Part
coded_part = code_by (map.FinMap path_cmp Node × (map.FinMap path_cmp Change × List ℕ))
    (coded× (map.code coded_path coded_node) (coded× (map.code coded_path coded_change) (coded_list coded_ℕ)))
    (λ x. (x.tree, (x.changes, x.bytes)))
    (λ p. record { tree = p.0; changes = p.1.0; bytes = p.1.1 })
    (λ _. refl)

abbrev pub coded_parts : Coded (List Part)
coded_parts = coded_list coded_part
