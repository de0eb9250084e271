use Rattle.std.proofs.Common.{ℕ, List, ap, ◌∙◌}
use Rattle.fsfs_dump.specs.Records.{props_block, revision_text}
use Rattle.fsfs_dump.proofs.Appends.{put_as}
use Rattle.fsfs_dump.proofs.revision.put_props.Goals as goal

pub returns : goal.returns
returns c =
    let Text : List ℕ → List ℕ = λ b. revision_text c.args.rev b in
    put_as c.args.lines.now.items (Text c.deref.result.now) (Text (props_block c.args.pairs.now)) c.put_revision.new.lines.items c.in_ok-put_revision.ensures (ap Text (c.deref.ensures.value ∙ c.in_ok-block.ensures))
