use Rattle.std.proofs.Common.{sym, ◌∙◌, Global}
use Rattle.std.specs.String.{string_bytes}
use Rattle.std.specs.Cmp.Derive.Mapped.{pointwise-map}
use Rattle.fsfs_base.specs.Paths.{same_path, same_name}
use Rattle.fsfs_base.proofs.paths.path.FsPathPartialEq.eq.Goals as goal

pub returns : goal.returns
returns c = c.eq.ensures ∙ sym (pointwise-map (string_bytes {Z = Global}) same_name c.self.inside.names.items c.other.inside.names.items) ∙ (λ i. same_path (c.self.view_is i) (c.other.view_is i))
