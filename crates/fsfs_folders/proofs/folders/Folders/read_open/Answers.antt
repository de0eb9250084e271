use Rattle.fsfs_folders.proofs.OpenLemmas.{read_told}
use Rattle.fsfs_folders.proofs.folders.Folders.read_open.Goals as goal

pub returns-clause-bytes : goal.returns-clause-bytes
returns-clause-bytes g c =
    read_told c.fill.result (g.C.Calls.history c.args.self.now.calls) c.args.self.now.changed c.args.self.now.is_settled c.args.opened.now.name (g.C.File.OpenFile.number c.args.opened.now.file) c.args.offset c.args.buffer.now c.fill.new.buffer
    c.args.self.now.sound c.requires c.fill.ensures.bytes
