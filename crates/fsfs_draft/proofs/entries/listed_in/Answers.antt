use Rattle.std.proofs.Common.{Option, ap}
use Rattle.std.specs.Prelude.{option_map}
use Rattle.fsfs_dag.specs.declared.listing.entries.Listing.{Listing}
use Rattle.fsfs_dag.specs.Listing.Views.{listed}
use Rattle.fsfs_draft.specs.Views.{kept_value}
use Rattle.fsfs_draft.proofs.Readings.{listed_own}
use Rattle.fsfs_draft.proofs.entries.listed_in.Goals as goal

pub returns-in-Ok-clause-told : goal.returns-in-Ok-clause-told
returns-in-Ok-clause-told g c = λ look top knows within.
    listed_own look (kept_value c.args.kept.now) (listed c.in-Some.entries) (listed c.in-Ok.listing) (ap (λ (o : Option Listing). option_map listed o) c.in-Some.is) c.in-Ok.ensures
