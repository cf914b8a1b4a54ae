-- Lemmas on the numbers of choices, for the crates above.
use Rattle.std.proofs.Common.{◌≡◌, ℕ, ◌+◌, ◌*◌, ◌<◌, List, ◌++◌, length, map, ap, arith}
use Rattle.std.proofs.lemmas.Bool.{cases_lt}
use Rattle.std.proofs.lemmas.Grind.{common_steps}
use Rattle.std.proofs.lemmas.List.{drop_more}
use Rattle.lit_syntax.specs.Syntax.{Litmus}
use Rattle.lit_paths.specs.declared.event.Event.{Event}
use Rattle.lit_paths.specs.ByteReads.{byte_reads, byte_read_at}
use Rattle.lit_paths.specs.Choice.{candidates_of, choices_of, combinations_of}
use Rattle.lit_paths.specs.Numbers.{length_product, ways_from}
use Rattle.lit_paths.specs.Plan.{choices_before}
use Rattle.lit_paths.proofs.Totals.{before_all}

-- a combination with a first choice is one of the test
pub known_by_first : (t : Litmus) (c first : ℕ) → first ≡ choices_before t c → first < length (choices_of t) → c < length (combinations_of t)
known_by_first t c first same known = grind (arith, before_all, cases_lt)

pub ways_split : (events : List Event) (k : ℕ) → k < length (byte_reads events)
    → ways_from events k ≡ length (candidates_of events (byte_read_at events k)) * ways_from events (k + 1)
ways_split events k inside = ap (λ (rs : List (ℕ × ℕ)). length_product (map (candidates_of events) rs)) (drop_more (byte_reads events) k (0, 0) inside)

-- nothing is added to a list that does not get longer
pub rest_none : (xs ys : List ℕ) → length xs ≡ length (xs ++ ys) → xs ++ ys ≡ xs
rest_none xs ys long = grind (arith, common_steps)
