use Rattle.std.proofs.Common.{◌≡◌, ◌&&◌, drop}
use Rattle.std.specs.List.{list_all}
use Rattle.fsfs_base.specs.Fields.Digests.{is_lower_digit}
use Rattle.fsfs_base.proofs.fields.digest.has_digits.Given as goal

abbrev pub invariant-tests : goal.invariant-tests
invariant-tests l = (l.all && list_all is_lower_digit (drop l.c-index l.text)) ≡ list_all is_lower_digit l.text
