-- The invariant of `Boxes`, and what follows for a box.
use Rattle.lit_solve.proofs.Words.{◌*◌, ◌+◌, ◌-◌, ◌<◌, AreDomainsIn, AreEndSources, AreEventsIn, AreShared, arith, box_with, boxes_events}
use Rattle.lit_solve.proofs.Words.{boxes_len, BoxesModel, byte_read_at, BYTE_READ_LIMIT, byte_reads, cases_order, choices_before, Event}
use Rattle.lit_solve.proofs.Words.{EVENT_LIMIT, events_in, EventSet, IfSome, IsBox, IsCandidate, IsGreaterAt, IsHighEnd, IsLitmus}
use Rattle.lit_solve.proofs.Words.{IsLowEnd, IsOfCombination, IsRangeCut, IsSame, IsSide, IsSoundRange, length, List, ListsChoices, Litmus}
use Rattle.lit_solve.proofs.Words.{MatchOption, None, Option, refl, same_Some, slice_get-get_or, slice_get_within, slice_index, Some}
use Rattle.lit_solve.proofs.Words.{subst, ℕ, ◌≡◌, ◌≤◌}
use Rattle.lit_solve.proofs.CutLemmas.{few_boxes}
use Rattle.lit_solve.proofs.RangeLemmas.{reaches}

-- ---- the sources of an end at a place
source_fits : (bytes : ℕ) (events : List Event) (end : Option (List ℕ)) (place : ℕ) → AreEventsIn bytes events → AreEndSources events end → place < length (byte_reads events)
    → IfSome end (λ l. (place < length l) × (slice_index l place < EVENT_LIMIT))
source_fits bytes events None place sound are inside = tt
source_fits bytes events (Some l) place sound are inside =
    let within : place < length l = omega (arith, inside, are.one_each) in
    let candidate : IsCandidate events (byte_read_at events place).0 (byte_read_at events place).1 (slice_index l place) =
    are.each place (byte_read_at events place).0 (byte_read_at events place).1 (slice_index l place) (slice_get-get_or (byte_reads events) place (0, 0) inside) (slice_get-get_or l place 0 within) in
    (within, omega (arith, candidate.known, sound.few))

module _ (boxes : BoxesModel) (is : IsSoundRange boxes) where
  pub low_fits : (place : ℕ) → place < length (byte_reads (boxes_events boxes)) → IfSome boxes.low (λ l. (place < length l) × (slice_index l place < EVENT_LIMIT))
  low_fits place inside = source_fits boxes.test.bytes (boxes_events boxes) boxes.low place is.sound is.low_sources inside

  pub high_fits : (place : ℕ) → place < length (byte_reads (boxes_events boxes)) → IfSome boxes.high (λ l. (place < length l) × (slice_index l place < EVENT_LIMIT))
  high_fits place inside = source_fits boxes.test.bytes (boxes_events boxes) boxes.high place is.sound is.high_sources inside

  pub len_fits : boxes_len boxes ≤ 2 * BYTE_READ_LIMIT + 1
  len_fits = grind (arith, few_boxes)

  -- domains that are those of one of them make a box
  pub box_of_domains : (i : ℕ) (domains : List EventSet) → AreDomainsIn boxes i domains → IsLitmus boxes.test → IsBox (box_with (boxes.test, boxes.combination) domains)
  box_of_domains i domains exact litmus = grind (arith, same_Some, slice_get-get_or, slice_get_within)

-- ---- a range cut
-- of two lists of which one is no greater, the common prefix ends where it is less
parts_at_shared : (a b : List ℕ) (k shared : ℕ) → k ≤ length a → IsSame a b shared → IsGreaterAt a k b → IsGreaterAt a shared b
parts_at_shared a b k shared inside same is = grind (arith, cases_order)

-- as many boxes on the side of an end as there are places behind the common prefix, and none where there is no end
abbrev pub IsCounted : (len : ℕ) → Option (List ℕ) → (shared count : ℕ) → Type 0
IsCounted len end shared count = MatchOption end (count ≡ 0) (λ _. count ≡ len - shared)

module _ (t : Litmus) (c from to : ℕ) (lists : ListsChoices t) (of : (n : ℕ) → choices_before t c ≤ n → n < choices_before t (c + 1) → IsOfCombination t n c) (some : from < to) where
  abbrev len : ℕ
  len = length (byte_reads (events_in t c))

  pub low_sourced : (low : Option (List ℕ)) → IsLowEnd t c from low → AreEndSources (events_in t c) low
  low_sourced low is = grind arith

  pub high_sourced : (high : Option (List ℕ)) → IsHighEnd t c to high → AreEndSources (events_in t c) high
  high_sourced high is = grind arith

  pub shared_fits : (low high : Option (List ℕ)) (shared : ℕ) → IsLowEnd t c from low → IsHighEnd t c to high → AreShared low high shared → shared ≤ len
  shared_fits None high shared low_is high_is are = omega (arith, are.no_low)
  shared_fits (Some l) None shared low_is high_is are = omega (arith, are.no_high)
  shared_fits (Some l) (Some h) shared low_is high_is are = let same : IsSame l h shared = are.same l h refl refl in omega (arith, same.within, low_is.sourced.one_each)

  side : (end : Option (List ℕ)) (shared count : ℕ) → AreEndSources (events_in t c) end → MatchOption end (shared ≡ 0) (λ _. shared ≤ len) → shared ≤ len → IsCounted len end shared count
      → IsSide len end shared count
  side end shared count are fits inside counted = grind arith

  low_side : (low high : Option (List ℕ)) (shared : ℕ) → AreShared low high shared → shared ≤ len → MatchOption low (shared ≡ 0) (λ _. shared ≤ len)
  low_side low high shared are inside = grind arith

  high_side : (low high : Option (List ℕ)) (shared : ℕ) → AreShared low high shared → shared ≤ len → MatchOption high (shared ≡ 0) (λ _. shared ≤ len)
  high_side low high shared are inside = grind arith

  ends_differ : (low high : Option (List ℕ)) (shared : ℕ) → IsLowEnd t c from low → IsHighEnd t c to high → AreShared low high shared
      → (a b : List ℕ) → low ≡ Some a → high ≡ Some b → IsGreaterAt a shared b
  ends_differ None high shared low_is high_is are a b low_at high_at = cc
  ends_differ (Some l) None shared low_is high_is are a b low_at high_at = cc
  ends_differ (Some l) (Some h) shared low_is high_is are a b low_at high_at =
      let at = reaches t c from (to - 1) l h lists (of from low_is.low low_is.high) (of (to - 1) high_is.low high_is.high) low_is.has high_is.has (omega (arith, some)) in
      let both : IsGreaterAt l shared h = parts_at_shared l h at.0 shared (omega (arith, at.1, low_is.sourced.one_each)) (are.same l h refl refl) at.2 in
      subst (λ (x : List ℕ). IsGreaterAt x shared b) (same_Some l a low_at) (subst (λ (x : List ℕ). IsGreaterAt l shared x) (same_Some h b high_at) both)

  pub cut_of_range : (low high : Option (List ℕ)) (shared lows highs : ℕ) → IsLowEnd t c from low → IsHighEnd t c to high → AreShared low high shared
      → IsCounted len low shared lows → IsCounted len high shared highs → IsRangeCut len low high shared lows highs
  cut_of_range low high shared lows highs low_is high_is are before behind =
      grind (arith, high_side, high_sourced, low_side, low_sourced, ends_differ, shared_fits, side)
