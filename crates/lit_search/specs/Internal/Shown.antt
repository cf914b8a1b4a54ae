-- An outcome and the example that shows it, as an entry.
use Rattle.std.specs.Prelude.{ℕ, List}
use Rattle.lit_search.specs.declared.found.Example.{Example}
use Rattle.lit_search.specs.Report.{Entry}

abbrev pub shown_entry : List ℕ → Example → Entry
shown_entry outcome example = record { outcome = outcome; choice = example.choice; order = example.order.items }
