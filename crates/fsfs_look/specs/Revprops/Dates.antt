-- A date and time of day as it is printed: `2014-07-21 09:25:14 +0000 (Mon, 21 Jul 2014)`.
use Rattle.std.specs.Prelude.{ℕ, List}
use Rattle.jiff_core.specs.declared.civil.datetime.DateTime.{DateTime}
use Rattle.fsfs_tree.specs.ShownDates.{printed_date}

abbrev pub shown_date : DateTime → List ℕ
shown_date dt = printed_date dt.date.year dt.date.month dt.date.day dt.time.hour dt.time.minute dt.time.second
