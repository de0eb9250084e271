use Rattle.std.proofs.Common.{◌≡◌, ◌++◌, ◌∷◌, [], List, Some, cond, ap, sym, ◌∙◌, append_assoc, append-nil, rules}
use Rattle.std.specs.String.{string_bytes}
use Rattle.std.proofs.lemmas.List.{nil_from_length}
use Rattle.fsfs_base.specs.Paths.{PathName, same_name}
use Rattle.fsfs_revision.specs.Shows.Reading.{DirEntry as EntryValue, named}
use Rattle.fsfs_dag.specs.Views.{entry_values}
use Rattle.fsfs_dag.specs.declared.directory.DirEntry.{DirEntry}
use Rattle.fsfs_dag.specs.Listing.Views.{listed}
use Rattle.fsfs_dag.proofs.listing.entries.Listing.of_each.Goals as goal

pub loop-entry-init : goal.loop-entry-init
loop-entry-init c = ([], sym (append-nil c.args.entries.items), λ y. ap (λ (l : List EntryValue). named y l) c.in_ok-listing.ensures)

pub loop-entry-preserved : goal.loop-entry-preserved
loop-entry-preserved c =
    let so = c.loop-entry.invariant in
    let e = c.in-Some.entry in
    let step : (n y : PathName) → n ≡ string_bytes e.name → cond (same_name n y) (Some (record { name = n; kind = e.kind; id = e.id })) (named y (listed c.loop-entry.listing)) ≡ named y (entry_values (e ∷ so.0)) = λ n y is.
    (λ i. cond (same_name (is i) y) (Some (record { name = is i; kind = e.kind; id = e.id })) (so.2 y i)) in (
      e ∷ so.0,
      so.1 ∙ ap (λ t. t ++ so.0) c.in-Some.ensures.items ∙ append_assoc c.pop.new.self.items (e ∷ []) so.0,
      λ y. c.in_ok-listing-2.ensures y ∙ step c.as_str.result.now y c.as_str.ensures.value,
    )

pub returns : goal.returns
returns c = λ y.
    let so = c.loop-entry.invariant in
    let none : c.loop-entry.left.items ≡ [] = nil_from_length c.loop-entry.left.items (search rules) in
    so.2 y ∙ ap (λ (t : List DirEntry). named y (entry_values t)) (sym (so.1 ∙ ap (λ t. t ++ so.0) none))
