use Rattle.fsfs_memcalls.specs.Recorded.{record_of}
use Rattle.fsfs_memcalls.proofs.NewParts.{new_is_empty}
use Rattle.fsfs_memcalls.proofs.calls.MemCallsCalls.empty_part.Goals as goal

pub returns-clause-empty : goal.returns-clause-empty
returns-clause-empty c = new_is_empty record_of c.new_part.result c.new_part.ensures.empty
