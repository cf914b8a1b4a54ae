-- Two lists of entries, each rising by outcome, merged to one.
use Rattle.std.specs.Prelude.{if◌then◌else◌, List, [], ◌∷◌}
use Rattle.std.specs.Ordering.{is_gt, match_ordering}
use Rattle.std.specs.declared.cmp.Ordering.{Ordering}
use Rattle.std.specs.declared.cmp.Ordering.TheVariants.{Less, Greater}
use Rattle.lit_search.specs.Report.{Entry, example_cmp, outcome_cmp}

-- of two entries the one with the lesser example
abbrev pub lesser : Entry → Entry → Entry
lesser a b = if is_gt (example_cmp a b) then b else a

-- x and xs merged with the second list, where `rest` merges xs with a list
abbrev pub merged_from : Entry → List Entry → (List Entry → List Entry) → List Entry → List Entry
merged_from x xs rest [] = x ∷ xs
merged_from x xs rest (y ∷ ys) = match_ordering (outcome_cmp x y) (x ∷ rest (y ∷ ys)) (lesser x y ∷ rest ys) (y ∷ merged_from x xs rest ys)

abbrev pub merged : List Entry → List Entry → List Entry
merged [] ys = ys
merged (x ∷ xs) ys = merged_from x xs (merged xs) ys

-- how the first entries compare by their outcomes; a list that has ended is the greater one
abbrev pub heads_cmp : List Entry → List Entry → Ordering
heads_cmp xs [] = Less
heads_cmp [] (y ∷ ys) = Greater
heads_cmp (x ∷ xs) (y ∷ ys) = outcome_cmp x y
