-- Entries put to the end of a list one after another.
use Rattle.std.proofs.Common.{◌≡◌, ◌∙◌, ◌+◌, ◌<◌, ℕ, length, take, get_or, Bool, true, false, cond, List, [], ◌∷◌, ◌++◌, Option, Some, None, refl, sym, ap}
use Rattle.std.specs.Prelude.{if◌then◌else◌}
use Rattle.std.proofs.lemmas.List.{take_more, map_push}
use Rattle.fsfs_base.specs.Paths.{PathName, same_name}
use Rattle.fsfs_revision.specs.Shows.Reading.{DirEntry, named}
use Rattle.fsfs_dag.specs.declared.directory.DirEntry.{DirEntry as Listed}
use Rattle.fsfs_dag.specs.Views.{entry_value, entry_values}

abbrev pub pushed : Option DirEntry → DirEntry → PathName → Option DirEntry
pushed None e name = if same_name e.name name then Some e else None
pushed (Some x) e name = Some x

pub named_push : (name : PathName) (es : List DirEntry) (e : DirEntry) → named name (es ++ e ∷ []) ≡ pushed (named name es) e name
named_push name [] e = refl
named_push name (x ∷ es) e = by (same_name x.name name) (named_push name es e)
  where
    by : (b : Bool) → named name (es ++ e ∷ []) ≡ pushed (named name es) e name → cond b (Some x) (named name (es ++ e ∷ [])) ≡ pushed (cond b (Some x) (named name es)) e name
    by true rest = refl
    by false rest = rest

-- in a loop over entries
pub taken_more : (es : List Listed) (k : ℕ) (e : Listed) → k < length es → e ≡ get_or es k e → entry_values (take (k + 1) es) ≡ entry_values (take k es) ++ entry_value e ∷ []
taken_more es k e lt is =
    ap entry_values (take_more es k e lt ∙ ap (λ (x : Listed). take k es ++ x ∷ []) (sym is)) ∙ map_push entry_value (take k es) e
