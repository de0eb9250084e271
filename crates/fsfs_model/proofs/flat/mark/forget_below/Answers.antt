use Rattle.std.proofs.Common.{rules, not}
use Rattle.std.proofs.lemmas.Fn.{filter_same}
use Rattle.fsfs_base.specs.Paths.{covers}
use Rattle.fsfs_model.proofs.flat.mark.forget_below.Goals as goal

pub returns : goal.returns
returns c = filter_same _ (λ q. not (covers c.args.path.now q)) _ (λ x b f h. search rules) c.args.made.now.items c.retain.new.self.items c.retain.ensures.filtered
