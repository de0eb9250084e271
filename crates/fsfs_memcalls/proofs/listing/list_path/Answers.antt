use Rattle.std.proofs.Common.{List, ℕ, sym, ap, subst, ◌∙◌}
use Rattle.fsfs_folders.specs.System.Paths.{has_path}
use Rattle.fsfs_folders.specs.System.CallRecord.{names_after}
use Rattle.fsfs_memcalls.specs.Told.{beginning_of, calls_of}
use Rattle.fsfs_memcalls.specs.Standing.{stands_as}
use Rattle.fsfs_memcalls.specs.Entries.{Lists}
use Rattle.fsfs_memcalls.proofs.ListLemmas.{list_found, list_elsewhere, list_unlike, list_again}
use Rattle.fsfs_memcalls.proofs.listing.list_path.Goals as goal

pub returns-in_default : goal.returns-in_default
returns-in_default c =
    let such = stands_as c.args.kind (names_after (beginning_of c.args.first.now) (calls_of c.args.calls.now)) in
    list_elsewhere such c.args.folder.now c.args.path.now c.args.found.now.items c.in_default.ensures

pub returns-then-not-stands : goal.returns-then-not-stands
returns-then-not-stands c =
    let such = stands_as c.args.kind (names_after (beginning_of c.args.first.now) (calls_of c.args.calls.now)) in
    list_unlike such c.args.folder.now c.args.path.now c.args.found.now.items (sym c.if-not-stands.ensures)

pub returns-then-has_name : goal.returns-then-has_name
returns-then-has_name c =
    let such = stands_as c.args.kind (names_after (beginning_of c.args.first.now) (calls_of c.args.calls.now)) in
    let name = c.in-Some.name in
    list_again such c.args.folder.now c.args.path.now name c.args.found.now.items c.in-Some.ensures
    (ap (λ (names : List (List ℕ)). has_path names name) (sym c.as_slice.ensures.value) ∙ sym c.if-has_name.ensures)

pub returns : goal.returns
returns c =
    let such = stands_as c.args.kind (names_after (beginning_of c.args.first.now) (calls_of c.args.calls.now)) in
    let name = c.in-Some.name in
    let found = c.args.found.now.items in
    subst (λ (more : List (List ℕ)). Lists such c.args.folder.now c.args.path.now found more) (sym c.in_ok-push.ensures.items)
    (list_found such c.args.folder.now c.args.path.now name found c.in-Some.ensures (sym c.if-not-stands.ensures)
    (ap (λ (names : List (List ℕ)). has_path names name) (sym c.as_slice.ensures.value) ∙ sym c.if-has_name.ensures))
