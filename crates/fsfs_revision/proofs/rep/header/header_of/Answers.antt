use Rattle.fsfs_revision.proofs.HeaderLemmas.{plain_found, plain_not, delta_found, delta_not}
use Rattle.fsfs_revision.proofs.rep.header.header_of.Goals as goal

pub returns-in-Ok : goal.returns-in-Ok
returns-in-Ok c = plain_found c.args.bytes.now _ c.in-Ok.ensures

pub returns-in-Ok-delta_line : goal.returns-in-Ok-delta_line
returns-in-Ok-delta_line c = delta_found c.args.bytes.now _ c.in-Ok-delta_line.ensures

pub returns-in-Err-delta_line : goal.returns-in-Err-delta_line
returns-in-Err-delta_line c = (plain_not c.args.bytes.now _ c.in-Err.ensures, delta_not c.args.bytes.now _ c.in-Err-delta_line.ensures)
