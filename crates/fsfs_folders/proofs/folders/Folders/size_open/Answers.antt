use Rattle.fsfs_folders.proofs.OpenLemmas.{size_told}
use Rattle.fsfs_folders.proofs.folders.Folders.size_open.Goals as goal

pub returns-clause-length : goal.returns-clause-length
returns-clause-length g c =
    size_told c.length.result (g.C.Calls.history c.args.self.now.calls) c.args.self.now.changed c.args.self.now.is_settled c.args.opened.now.name (g.C.File.OpenFile.number c.args.opened.now.file)
    c.args.self.now.sound c.requires c.length.ensures.length
