use Rattle.std.proofs.Common.{sym, ◌∙◌, Global}
use Rattle.std.specs.String.{string_bytes}
use Rattle.std.specs.Cmp.Derive.Mapped.{lex_map}
use Rattle.fsfs_base.specs.Paths.{path_cmp, name_cmp}
use Rattle.fsfs_base.proofs.paths.path.FsPathOrd.cmp.Goals as goal

pub returns : goal.returns
returns c = c.cmp.ensures ∙ sym (lex_map (string_bytes {Z = Global}) name_cmp c.self.inside.names.items c.other.inside.names.items) ∙ (λ i. path_cmp (c.self.view_is i) (c.other.view_is i))
