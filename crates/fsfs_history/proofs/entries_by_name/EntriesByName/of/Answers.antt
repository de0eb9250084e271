use Rattle.std.proofs.Common.{◌≡◌, ◌++◌, ◌∷◌, [], List, Option, Some, cond, ap, sym, ◌∙◌, append_assoc, append-nil, rules}
use Rattle.std.specs.Prelude.{option_map}
use Rattle.std.specs.String.{string_bytes}
use Rattle.std.proofs.lemmas.List.{nil_from_length}
use Rattle.fsfs_base.specs.Paths.{same_name}
use Rattle.fsfs_revision.specs.Shows.Reading.{DirEntry as EntryValue, named}
use Rattle.fsfs_dag.specs.Views.{entry_value, entry_values}
use Rattle.fsfs_dag.specs.declared.directory.DirEntry.{DirEntry}
use Rattle.fsfs_history.proofs.TextKeys.{Key}
use Rattle.fsfs_history.specs.KeptDirs.{found_in}
use Rattle.fsfs_history.proofs.entries_by_name.EntriesByName.of.Goals as goal

pub loop-entry-init : goal.loop-entry-init
loop-entry-init c = ([], sym (append-nil c.args.left.items), λ name. ap (λ (es : List (Key × DirEntry)). option_map entry_value (found_in name es)) c.new.ensures.empty)

pub loop-entry-preserved : goal.loop-entry-preserved
loop-entry-preserved c =
    let so = c.loop-entry.invariant in
    let e = c.in-Some.entry in (
      e ∷ so.0,
      so.1 ∙ ap (λ t. t ++ so.0) c.in-Some.ensures.items ∙ append_assoc c.pop.new.self.items (e ∷ []) so.0,
      λ name. c.in_ok-put.ensures name ∙ ap (λ (o : Option EntryValue). cond (same_name (string_bytes e.name) name) (Some (entry_value e)) o) (so.2 name),
    )

pub returns : goal.returns
returns c = λ name.
    let so = c.loop-entry.invariant in
    let none : c.loop-entry.left.items ≡ [] = nil_from_length c.loop-entry.left.items (search rules) in
    so.2 name ∙ ap (λ (t : List DirEntry). named name (entry_values t)) (sym (so.1 ∙ ap (λ t. t ++ so.0) none))
