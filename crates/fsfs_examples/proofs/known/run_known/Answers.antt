use Rattle.std.proofs.Common.{refl}
use Rattle.fsfs_example_calls.specs.Scenes.{host_scene}
use Rattle.fsfs_examples.proofs.KnownStores.{has_history, stands_for_new}
use Rattle.fsfs_examples.proofs.known.run_known.Goals as goal

pub command-requires-clause-knows : goal.command-requires-clause-knows
command-requires-clause-knows g c = λ κs within known repos run asks.
    has_history (g.C.Clock.next c.args.clock.now) (g.H.Host.disk_at c.make.new.host repos) (c.make.ensures c.if-not-make.false repos run asks)

pub returns : goal.returns
returns g c =
    let ran = c.command.ensures.jobs refl in
    record {
      begun = host_scene g.H.Host c.make.new.host;
      made = λ repos run asks. c.make.ensures c.if-not-make.false repos run asks;
      history = λ repos run asks. stands_for_new (g.C.Clock.next c.args.clock.now) (g.H.Host.disk_at c.make.new.host repos) (c.make.ensures c.if-not-make.false repos run asks);
      next = g.C.Clock.next c.make.new.clock;
      end = ran.0;
      did = ran.3;
      status_is = ran.1;
      lines_are = ran.2;
    }
