-- The marks of a transaction, and what they say of a path. (This project's profile; what counts as a change of a node or below
-- it is svn_fs.h's, at svn_fs_merge.)
use Rattle.std.specs.Prelude.{Bool, true, false, ◌&&◌, ◌||◌, not, List, [], ◌∷◌, ◌++◌, if◌then◌else◌}
use Rattle.std.specs.List.{list_any, filter}
use Rattle.fsfs_model.specs.declared.flat.mark.What.{What}
use Rattle.fsfs_model.specs.declared.flat.mark.What.TheVariants.{Make, Gone, Text, Prop}
use Rattle.fsfs_model.specs.declared.flat.mark.Mark.{Mark}
use Rattle.fsfs_model.specs.declared.flat.mark.Effects.{Effects}
use Rattle.fsfs_base.specs.Paths.{Path, covers, is_above, is_root}

-- a node was put at the path
abbrev pub is_make : What → Bool
is_make (Make source) = true
is_make Gone = false
is_make Text = false
is_make Prop = false

-- a path of the list is at or above p
abbrev pub any_covers : List Path → Path → Bool
any_covers so_far p = list_any (λ q. covers q p) so_far

-- the paths that the transaction has made itself, after one more mark
abbrev pub made_after : List Path → What → Path → List Path
made_after so_far (Make source) p = so_far ++ p ∷ []
made_after so_far Gone p = filter (λ q. not (covers p q)) so_far
made_after so_far Text p = so_far
made_after so_far Prop p = so_far

-- the paths that the transaction has made itself, after these marks
abbrev pub made_by : List Path → List Mark → List Path
made_by so_far [] = so_far
made_by so_far (m ∷ ms) = made_by (made_after so_far m.what m.path) ms

abbrev pub made : List Mark → List Path
made marks = made_by [] marks

-- the marks at which no path made so far is at or above
abbrev pub outer_from : List Path → List Mark → List Mark
outer_from so_far [] = []
outer_from so_far (m ∷ ms) = if any_covers so_far m.path then outer_from (made_after so_far m.what m.path) ms else m ∷ outer_from (made_after so_far m.what m.path) ms

abbrev pub outer : List Mark → List Mark
outer marks = outer_from [] marks

-- a mark at p touches q: it changes q or what is below it
abbrev pub touches : What → Path → Path → Bool
touches (Make source) p q = is_above q p
touches Gone p q = covers q p
touches Text p q = covers q p
touches Prop p q = covers q p

abbrev pub is_gone : What → Path → Path → Bool
is_gone Gone p q = covers p q
is_gone (Make source) p q = false
is_gone Text p q = false
is_gone Prop p q = false

abbrev pub is_rewritten : What → Path → Path → Bool
is_rewritten Text p q = covers p q && covers q p
is_rewritten Prop p q = covers p q && covers q p
is_rewritten (Make source) p q = false
is_rewritten Gone p q = false

abbrev pub changes_props : What → Path → Path → Bool
changes_props Prop p q = covers p q && covers q p
changes_props Text p q = false
changes_props (Make source) p q = false
changes_props Gone p q = false

-- what the outer marks say of a path: touched, deleted (by a Gone at or above it), rewritten (text or properties), properties changed
abbrev pub effects_by : List Mark → Path → Effects
effects_by outer p = record {
  touched = is_root p || list_any (λ m. touches m.what m.path p) outer;
  deleted = list_any (λ m. is_gone m.what m.path p) outer;
  rewritten = list_any (λ m. is_rewritten m.what m.path p) outer;
  props_changed = list_any (λ m. changes_props m.what m.path p) outer;
}

abbrev pub effects : List Mark → Path → Effects
effects marks p = effects_by (outer marks) p
