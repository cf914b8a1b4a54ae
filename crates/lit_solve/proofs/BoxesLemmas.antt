-- The domains of a box, one for each byte read.
use Rattle.lit_solve.proofs.Words.{◌+◌, ◌<◌, AreEventsIn, arith, boxes_events, BoxesModel, byte_read_at, BYTE_READ_LIMIT, byte_reads}
use Rattle.lit_solve.proofs.Words.{cases_lt, EVENT_LIMIT, EventSet, get_or, get_or-set_other, get_or-set_same, HasEvent, IfSome, IsAbove}
use Rattle.lit_solve.proofs.Words.{IsBelow, IsCandidate, IsInBox, length, List, no_events, parting_in, set, ℕ, ◌↔◌, ◌≡◌, ◌≤◌}
use Rattle.std.proofs.lemmas.List.{length-set}

-- so many domains, of which the first are those of the i-th box
pub record AreFirstDomains (boxes : BoxesModel) (i : ℕ) (domains : List EventSet) (count : ℕ) : Type 0 where
  pub long : length domains ≡ BYTE_READ_LIMIT
  pub exact : (k w : ℕ) → k < count → HasEvent (get_or domains k no_events) w ↔ IsInBox boxes i k w

pub one_domain_more : (boxes : BoxesModel) (i : ℕ) (domains : List EventSet) (count : ℕ) (domain : EventSet) → AreFirstDomains boxes i domains count
    → count < BYTE_READ_LIMIT → ((w : ℕ) → HasEvent domain w ↔ IsInBox boxes i count w) → AreFirstDomains boxes i (set domains count domain) (count + 1)
one_domain_more boxes i domains count domain are within is = grind (arith, cases_lt, get_or-set_other, get_or-set_same, length-set)

-- a domain by its parts
pub domain_exact : (boxes : BoxesModel) (i place : ℕ) (candidates above below both all : EventSet) → AreEventsIn boxes.test.bytes (boxes_events boxes)
    → place < length (byte_reads (boxes_events boxes))
    → ((w : ℕ) → HasEvent candidates w
    ↔ IsCandidate (boxes_events boxes) (byte_read_at (boxes_events boxes) place).0 (byte_read_at (boxes_events boxes) place).1 w)
    → ((w : ℕ) → w < EVENT_LIMIT → HasEvent above w ↔ (i ≤ boxes.lows → IfSome boxes.low (λ low. IsAbove low (parting_in boxes i) place w)))
    → ((w : ℕ) → w < EVENT_LIMIT → HasEvent below w ↔ (boxes.lows ≤ i → IfSome boxes.high (λ high. IsBelow high (parting_in boxes i) place w)))
    → ((w : ℕ) → HasEvent both w ↔ (HasEvent candidates w × HasEvent above w)) → ((w : ℕ) → HasEvent all w ↔ (HasEvent both w × HasEvent below w))
    → (w : ℕ) → HasEvent all w ↔ IsInBox boxes i place w
domain_exact boxes i place candidates above below both all sound inside are_candidates are_above are_below are_both are_all w = grind arith
