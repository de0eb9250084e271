use Rattle.std.proofs.Common.{◌++◌, ◌∷◌, [], List, ℕ, ap, ◌∙◌}
use Rattle.fsfs_layout.proofs.Writing.{uuid_line}
use Rattle.fsfs_layout.proofs.small_files.uuid_file.write_uuid.Goals as goal

pub returns-clause-grammar : goal.returns-clause-grammar
returns-clause-grammar c =
    let e = c.as_bytes.ensures.bytes in
    let parts = c.in_ok-push.ensures.items ∙ ap (λ (t : List ℕ). t ++ 10 ∷ []) (c.in_ok-out.ensures.items ∙ e) in
    uuid_line c.args.uuid.now c.push.new.self.items (rw e at c.as_bytes.ensures.size) (rw e at c.as_bytes.ensures.one_line) parts

pub returns-clause-text : goal.returns-clause-text
returns-clause-text c = c.in_ok-push.ensures.items ∙ ap (λ (t : List ℕ). t ++ 10 ∷ []) (c.in_ok-out.ensures.items ∙ c.as_bytes.ensures.bytes)
