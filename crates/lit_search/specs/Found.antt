-- The report of a value of the program's type `Found`.
use Rattle.std.specs.Prelude.{map}
use Rattle.lit_search.specs.declared.found.Found.TheInside.{Inside}
use Rattle.lit_search.specs.Ranked.{joined_entries, ranked_entry}
use Rattle.lit_search.specs.Report.{Report}

abbrev pub report_of : Inside → Report
report_of found = record { entries = map (ranked_entry (joined_entries found.parts.items)) found.ranks.items; race = found.race }
