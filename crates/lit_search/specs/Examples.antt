-- The entries of a value of the program's type `Examples`, in the order of recording.
use Rattle.std.specs.Prelude.{List, map}
use Rattle.std.specs.Box.{boxed_slice_items}
use Rattle.lit_search.specs.declared.found.examples.Examples.TheInside.{Inside}
use Rattle.lit_search.specs.Report.{Entry}

abbrev pub entries_in : Inside → List Entry
entries_in examples =
    map (λ p. record { outcome = boxed_slice_items p.0; choice = p.1.choice; order = p.1.order.items }) examples.by_outcome.entries
