use Rattle.std.proofs.Common.{◌++◌, ◌∷◌, [], List, ℕ, ◌+◌, take, sym, ap, subst, ◌∙◌, arith}
use Rattle.std.proofs.lemmas.List.{take_all, take_more}
use Rattle.fsfs_folders.specs.System.CallRecord.{names_after}
use Rattle.fsfs_memcalls.specs.Told.{beginning_of, calls_of}
use Rattle.fsfs_memcalls.specs.Standing.{stands_as}
use Rattle.fsfs_memcalls.specs.Entries.{IsListSoFar}
use Rattle.fsfs_memcalls.proofs.ListLemmas.{list_none, list_more, whole_list}
use Rattle.fsfs_memcalls.proofs.listing.names_in.Goals as goal

pub loop-path-init : goal.loop-path-init
loop-path-init c =
    let such = stands_as c.args.kind (names_after (beginning_of c.args.first.now) (calls_of c.args.calls.now)) in
    subst (λ (found : List (List ℕ)). IsListSoFar such c.args.folder.now [] found) (sym c.new-found.ensures.items) (list_none such c.args.folder.now)

pub loop-path-preserved : goal.loop-path-preserved
loop-path-preserved c =
    let such = stands_as c.args.kind (names_after (beginning_of c.args.first.now) (calls_of c.args.calls.now)) in
    let paths = c.deref-path-items.result.now in
    let i = c.loop-path.path-index in
    let path = c.path-item.result in
    list_more such c.args.folder.now path c.loop-path.found.items c.list_path.new.found.items (take i paths) (take (i + 1) paths) c.in_ok-list_path.ensures c.loop-path.invariant
    (take_more paths i path (omega arith) ∙ ap (λ (f : List ℕ). take i paths ++ f ∷ []) (sym c.path-item.is))

pub returns : goal.returns
returns c =
    let such = stands_as c.args.kind (names_after (beginning_of c.args.first.now) (calls_of c.args.calls.now)) in
    let paths = c.deref-path-items.result.now in
    whole_list c.args.kind (beginning_of c.args.first.now) (calls_of c.args.calls.now) c.args.folder.now c.loop-path.found.items
    (subst (λ (ps : List (List ℕ)). IsListSoFar such c.args.folder.now ps c.loop-path.found.items) (take_all c.loop-path.path-index paths (omega arith) ∙ c.deref-path-items.ensures.value ∙ c.in_ok-paths.ensures) c.loop-path.invariant)
