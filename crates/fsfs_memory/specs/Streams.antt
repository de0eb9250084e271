-- What streams in memory tell.
use Rattle.std.specs.Prelude.{ℕ, List, drop}
use Rattle.fsfs_memory.specs.declared.streams.MemSource.{MemSource}
use Rattle.fsfs_memory.specs.declared.streams.MemSink.{MemSink}

abbrev pub remaining_of : MemSource → List ℕ
remaining_of source = drop source.at source.bytes.items

abbrev pub written_to : MemSink → List ℕ
written_to sink = sink.bytes.items
