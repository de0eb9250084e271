use Rattle.fsfs_dag.proofs.seen_bytes.SeenBytes.new.Goals as goal

pub returns : goal.returns
returns c = λ look. (c.new.ensures look, c.new-2.ensures look)
