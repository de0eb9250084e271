use Rattle.std.proofs.Common.{ℕ, List, ◌++◌, length, ap}
use Rattle.std.specs.Prelude.{codes}
use Rattle.fsfs_dump.specs.Records.{number_header}
use Rattle.fsfs_dump.proofs.Appends.{then_more, put_as}
use Rattle.fsfs_dump.proofs.block.put_revision.Goals as goal

pub returns : goal.returns
returns c =
    let old = c.args.lines.now.items in
    let block = c.args.block.now in
    let a = c.put_number.new.lines.items in
    let b = c.put_number-2.new.lines.items in
    let d = c.put_number-3.new.lines.items in
    let e = c.extend_from_slice.new.self.items in
    let f = c.extend_from_slice-2.new.self.items in
    let h = c.extend_from_slice-3.new.self.items in
    let Number : ℕ → List ℕ = λ n. number_header (codes "Revision-number") n in
    let rev = Number c.args.rev in
    let props = number_header (codes "Prop-content-length") (length block) in
    let all = number_header (codes "Content-length") (length block) in
    let line = codes "\n" in
    let number = put_as old (Number c.get.result) rev a c.in_ok-put_number.ensures (ap Number c.get.ensures.same) in
    let two = then_more old rev a props b number c.in_ok-put_number-2.ensures in
    let three = then_more old (rev ++ props) b all d two c.in_ok-put_number-3.ensures in
    let four = then_more old (rev ++ props ++ all) d line e three c.in_ok-extend_from_slice.ensures.items in
    let five = then_more old (rev ++ props ++ all ++ line) e block f four c.in_ok-extend_from_slice-2.ensures.items in
    then_more old (rev ++ props ++ all ++ line ++ block) f line h five c.in_ok-extend_from_slice-3.ensures.items
