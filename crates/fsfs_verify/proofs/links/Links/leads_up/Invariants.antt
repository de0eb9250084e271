use Rattle.std.proofs.Common.{◌≤◌, length, map}
use Rattle.std.specs.String.{string_bytes}
use Rattle.fsfs_verify.specs.LinksUp.{LeadsUp}
use Rattle.fsfs_verify.proofs.links.Links.leads_up.Given as goal

-- the names that are left lead up from here as all of them lead up from the place
abbrev pub invariant-up : goal.invariant-up
invariant-up l = record {
  within : length l.left ≤ length l.names;
  leads : LeadsUp l.self l.root l.at (map string_bytes l.left) → LeadsUp l.self l.root l.place (map string_bytes l.names);
  led : LeadsUp l.self l.root l.place (map string_bytes l.names) → LeadsUp l.self l.root l.at (map string_bytes l.left);
}

abbrev pub decreases-up : goal.decreases-up
decreases-up l = length l.left
