-- Entries in the order in which they were recorded, made to rise.
use Rattle.std.specs.Prelude.{List, [], ◌∷◌}
use Rattle.lit_search.specs.Report.{Entry}
use Rattle.lit_search.specs.Internal.Merged.{merged}

-- each merged into those behind it
abbrev pub risen : List Entry → List Entry
risen [] = []
risen (x ∷ xs) = merged (risen xs) (x ∷ [])
