use Rattle.std.proofs.Common.{sym}
use Rattle.fsfs_folders.proofs.PathLemmas.{before_at, none_before}
use Rattle.fsfs_folders.proofs.system.path.before_last_slash.Goals as goal

pub returns-in-Some : goal.returns-in-Some
returns-in-Some c =
    let at = c.in-Some.ensures.cases in
    before_at c.args.text.now c.in-Some.folder.now at.0 at.1 at.2.0 at.2.1 at.3

pub returns-in-None : goal.returns-in-None
returns-in-None c = sym (none_before c.args.text.now c.in-None.ensures.cases)
