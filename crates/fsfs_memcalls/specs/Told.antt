-- What the calls in memory keep, as the record that they tell.
use Rattle.std.specs.Prelude.{List, map}
use Rattle.fsfs_base.specs.Files.{NamedFile}
use Rattle.fsfs_folders.specs.System.CallRecord as system
use Rattle.fsfs_folders.specs.System.CallRecord.{Beginning, CallRecord, Call, NameCall, Contents}
use Rattle.fsfs_memcalls.specs.declared.made.MemFile.{MemFile}
use Rattle.fsfs_memcalls.specs.declared.made.MemBeginning.{MemBeginning}
use Rattle.fsfs_memcalls.specs.declared.made.MemContents.{MemContents}
use Rattle.fsfs_memcalls.specs.declared.made.MemChange.{MemChange}
use Rattle.fsfs_memcalls.specs.declared.made.MemChange.TheVariants as change
use Rattle.fsfs_memcalls.specs.declared.made.MemCall.{MemCall}
use Rattle.fsfs_memcalls.specs.declared.made.MemCall.TheVariants as made

abbrev pub contents_of : MemContents → Contents
contents_of file = record { bytes = file.bytes.items; firm = file.firm; is_lost = file.is_lost }

abbrev pub change_of : MemChange → NameCall
change_of (change.MakeFolder path) = system.MakeFolder path
change_of (change.DropFolder path) = system.DropFolder path
change_of (change.Create path) = system.Create path
change_of (change.Take path contents) = system.Take path (contents_of contents)
change_of (change.Rename from to) = system.Rename from to
change_of (change.Remove path) = system.Remove path

abbrev pub call_of : MemCall → Call
call_of (made.Named change) = system.Named (change_of change)
call_of (made.Append number bytes) = system.Append number bytes.items
call_of (made.SyncFile number) = system.SyncFile number
call_of (made.FailSync number) = system.FailSync number
call_of (made.SyncFolder path) = system.SyncFolder path
call_of made.Firmed = system.Firmed

abbrev pub calls_of : List MemCall → List Call
calls_of calls = map call_of calls

abbrev pub file_of : MemFile → NamedFile
file_of file = (file.path, file.bytes.items)

abbrev pub beginning_of : MemBeginning → Beginning
beginning_of first = record { folders = first.folders.items; files = map file_of first.files.items }
