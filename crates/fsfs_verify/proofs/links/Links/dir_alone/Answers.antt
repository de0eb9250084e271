use Rattle.std.proofs.Common.{◌≡◌, ℕ, true, false, sym, ap, ◌∙◌, rules}
use Rattle.std.specs.Prelude.{Option, Some, None, option_map, if◌then◌else◌}
use Rattle.fsfs_verify.specs.declared.links.Link.{Link}
use Rattle.fsfs_verify.specs.LinksUp.{link_value, alone_by}
use Rattle.fsfs_verify.proofs.links.Links.dir_alone.Goals as goal

pub returns-in-None : goal.returns-in-None
returns-in-None c = ap (λ (o : Option Link). alone_by c.args.name.now (option_map link_value o)) (rw c.in-None.is at c.get.ensures.value)
