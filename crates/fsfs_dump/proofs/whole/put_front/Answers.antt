use Rattle.std.proofs.Common.{◌++◌}
use Rattle.std.specs.Prelude.{codes}
use Rattle.fsfs_dump.proofs.Appends.{then_more}
use Rattle.fsfs_dump.proofs.whole.put_front.Goals as goal

pub returns : goal.returns
returns c =
    let old = c.args.lines.now.items in
    let uuid = c.args.uuid.now in
    let a = c.extend_from_slice.new.self.items in
    let b = c.extend_from_slice-2.new.self.items in
    let d = c.extend_from_slice-3.new.self.items in
    let version = codes "SVN-fs-dump-format-version: 2\n\nUUID: " in
    let two = then_more old version a uuid b c.in_ok-extend_from_slice.ensures.items c.in_ok-extend_from_slice-2.ensures.items in
    then_more old (version ++ uuid) b (codes "\n\n") d two c.in_ok-extend_from_slice-3.ensures.items
