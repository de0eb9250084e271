-- The record that the calls in memory tell.
use Rattle.std.specs.Prelude.{ℕ, List, [], drop}
use Rattle.fsfs_folders.specs.System.CallRecord.{Beginning, Call, CallRecord}
use Rattle.fsfs_memcalls.specs.Told.{beginning_of, calls_of}
use Rattle.fsfs_memcalls.specs.declared.calls.MemCalls.{MemCalls}

abbrev pub record_of : MemCalls → CallRecord
record_of calls = record { first = beginning_of calls.first; calls = calls_of calls.made.items }

abbrev pub without_last : CallRecord → CallRecord
without_last r = record r { calls = drop 1 r.calls }

abbrev pub record_at : Beginning → List Call → CallRecord
record_at first calls = record { first = first; calls = calls }

-- what stood at the beginning, and no call
abbrev pub of_beginning : Beginning → CallRecord
of_beginning first = record { first = first; calls = [] }

-- these folders stood there, and no file
abbrev pub of_folders : List (List ℕ) → CallRecord
of_folders folders = of_beginning (record { folders = folders; files = [] })
