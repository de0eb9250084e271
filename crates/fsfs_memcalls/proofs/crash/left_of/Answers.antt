use Rattle.std.proofs.Common.{◌++◌, map, ◌∙◌}
use Rattle.fsfs_folders.specs.System.CallRecord.{Beginning}
use Rattle.fsfs_memcalls.specs.Told.{file_of, beginning_of, calls_of}
use Rattle.fsfs_memcalls.specs.Left.{kept_by}
use Rattle.fsfs_memcalls.proofs.FoundLemmas.{found_by}
use Rattle.fsfs_memcalls.proofs.crash.left_of.Goals as goal

pub returns : goal.returns
returns c =
    let first = beginning_of c.args.first.now in
    let calls = calls_of c.args.calls.now in
    let found : Beginning = record { folders = c.in_ok-found_folders.field-0.items; files = map file_of c.in_ok-found_files.field-0.items } in
    found_by first found calls c.args.pick.now c.as_slice-kept.result.now c.as_slice-paths.result.now c.args.all_bytes
    (c.as_slice-kept.ensures.value ∙ c.in_ok-keep.ensures ∙ (λ i. c.new-kept.ensures.items i ++ kept_by (c.new-synced.ensures.items i) calls c.args.pick.now))
    (c.as_slice-paths.ensures.value ∙ c.in_ok-paths.ensures)
    c.in_ok-found_folders.ensures
    c.in_ok-found_files.ensures
