-- Reading a path's names from left to right.
use Rattle.std.specs.Prelude.{ℕ, ◌+◌, ◌==◌, nat_lt, nat_le, [], ◌∷◌, length, Option, Some, None, if◌then◌else◌}
use Rattle.std.specs.List.{position}
use Rattle.fsfs_base.specs.Paths.{PathName, Path}
use Rattle.fsfs_base.specs.PathTexts.{is_control, is_dots}
use Rattle.fsfs_base.specs.declared.paths.bad_path.BadPath.{BadPath}
use Rattle.fsfs_base.specs.declared.paths.bad_path.PathFault.TheVariants.{TooDeep, EmptyName, Control, NameTooLong, Dot}

abbrev pub control_fault_at : ℕ → PathName → Option ℕ → Option BadPath
control_fault_at at name (Some offset) = Some (record { at = at + offset; why = Control })
control_fault_at at name None =
    if nat_lt 255 (length name) then Some (record { at = at; why = NameTooLong })
    else (if is_dots name then Some (record { at = at; why = Dot }) else None)

-- what is wrong with a name that has `above` names above it and begins at the byte `at`
abbrev pub name_fault_at : (above at : ℕ) → PathName → Option BadPath
name_fault_at above at name =
    if nat_le 128 above then Some (record { at = at; why = TooDeep })
    else (if length name == 0 then Some (record { at = at; why = EmptyName })
    else control_fault_at at name (position is_control name))

abbrev pub or_else : {A : Type 0} → Option A → Option A → Option A
or_else (Some x) other = Some x
or_else None other = other

-- what is wrong with the first of the names that is refused
unfoldable pub names_fault_at : (above at : ℕ) → Path → Option BadPath
names_fault_at above at [] = None
names_fault_at above at (name ∷ names) = or_else (name_fault_at above at name) (names_fault_at (above + 1) (at + length name + 1) names)
