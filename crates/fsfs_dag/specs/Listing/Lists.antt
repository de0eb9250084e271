-- Lists of entries, and what it is to change one behind a name.
use Rattle.std.specs.Prelude.{◌≡◌, ◌≤◌, ◌+◌, Bool, true, not, cond, List, [], ◌∷◌, ◌++◌, map, length, Option, is_some, if◌then◌else◌}
use Rattle.std.specs.List.{filter, list_all}
use Rattle.std.specs.Ordering.{is_lt, nat_cmp}
use Rattle.std.specs.Cmp.Lexicographic.{slice_cmp}
use Rattle.fsfs_base.specs.Paths.{PathName, same_name}
use Rattle.fsfs_layout.specs.Hash.Dump.{Ascending}
use Rattle.fsfs_revision.specs.Shows.Reading.{DirEntry, named}

-- the entries with another behind a name, or with none
abbrev pub IsPut : List DirEntry → PathName → Option DirEntry → List DirEntry → Type 0
IsPut entries name entry new = (y : PathName) → named y new ≡ (if same_name name y then entry else named y entries)

-- those with such names
abbrev pub kept_names : (PathName → Bool) → List DirEntry → List DirEntry
kept_names is entries = filter (λ (e : DirEntry). is e.name) entries

abbrev pub all_names : (PathName → Bool) → List DirEntry → Bool
all_names is entries = list_all (λ (e : DirEntry). is e.name) entries

abbrev pub is_other : PathName → PathName → Bool
is_other name x = not (same_name x name)

-- in byte order
abbrev pub is_below : PathName → PathName → Bool
is_below middle x = is_lt (slice_cmp nat_cmp x middle)

abbrev pub is_from : PathName → PathName → Bool
is_from middle x = not (is_below middle x)

-- the names of entries, as keys without values
abbrev pub name_keys : List DirEntry → List (PathName × PathName)
name_keys entries = map (λ (e : DirEntry). (e.name, [])) entries

-- the entries stand in byte order of their names, each name once
abbrev pub NamesRise : List DirEntry → Type 0
NamesRise entries = Ascending (name_keys entries)

-- with one more somewhere among them
pub record IsAmong (old : List DirEntry) (entry : DirEntry) (new : List DirEntry) : Type 0 where
  pub front : List DirEntry
  pub back : List DirEntry
  pub parts : front ++ back ≡ old
  pub is : new ≡ front ++ entry ∷ back

-- another behind the name, or none; what all names are they stay, if this one is; and so many are there at most
pub record IsChangedList (old new : List DirEntry) (name : PathName) (entry : Option DirEntry) : Type 0 where
  pub put : IsPut old name entry new
  pub keeps : (is : PathName → Bool) → all_names is old ≡ true → is name ≡ true → all_names is new ≡ true
  pub count : length new + cond (is_some (named name old)) 1 0 ≤ length old + cond (is_some entry) 1 0

-- the same entries behind the names
pub record IsSameList (old new : List DirEntry) : Type 0 where
  pub alike : (y : PathName) → named y new ≡ named y old
  pub keeps : (is : PathName → Bool) → all_names is old ≡ true → all_names is new ≡ true
  pub count : length new ≡ length old
