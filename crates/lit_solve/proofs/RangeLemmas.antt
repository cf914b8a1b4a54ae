-- The choices of a range on a combination are those of its boxes.
use Rattle.lit_solve.proofs.Words.{◌+◌, ◌-◌, ◌<◌, ap, AreSources, arith, boxes_events, boxes_len, BoxesModel, byte_read_at}
use Rattle.lit_solve.proofs.Words.{byte_reads, cases_lt, cases_order, Choice, choices_before, CutsRange}
use Rattle.lit_solve.proofs.Words.{events_in, HasSources, IfSome, IsAbove, IsBelow, IsGreaterAt, IsHighEnd, IsLowEnd, IsOfCombination}
use Rattle.lit_solve.proofs.Words.{IsRangeCut, length, Less, LiesInBox, List, ListsChoices, Litmus, nat_cmp, nat_cmp-same, None, Option}
use Rattle.lit_solve.proofs.Words.{parting_in, refl, same_Some, slice_cmp, slice_cmp-same, slice_get-get_or, slice_get_within, slice_index}
use Rattle.lit_solve.proofs.Words.{Some, subst, sym, ℕ, ◌↔◌, ◌∙◌, ◌≡◌, ◌≤◌, ⊎_elim}
use Rattle.std.proofs.Common.{slice_get}
use Rattle.lit_solve.proofs.CutLemmas.{IsBetween, IsInCut, between, few_boxes, found, rises}
use Rattle.lit_solve.proofs.LexLemmas.{less_from_place, place_of_less}

-- ---- the sources of a choice
module _ (t : Litmus) (c n : ℕ) (a : List ℕ) (of : IsOfCombination t n c) (has : HasSources t n a) where
  pub sources_are : of.choice.sources ≡ a
  sources_are = ap (λ (ch : Choice). ch.sources) (same_Some of.choice has.choice (sym of.listed ∙ has.listed)) ∙ has.same

  pub sourced : AreSources (events_in t c) a
  sourced = subst (λ (ws : List ℕ). AreSources (events_in t c) ws) sources_are of.sourced

pub one_sources : (t : Litmus) (n : ℕ) (a b : List ℕ) → HasSources t n a → HasSources t n b → a ≡ b
one_sources t n a b first second = grind (arith, same_Some)

-- ---- two choices on a combination
module _ (t : Litmus) (c n m : ℕ) (a b : List ℕ) (lists : ListsChoices t) (first : IsOfCombination t n c) (second : IsOfCombination t m c)
    (has : HasSources t n a) (has_too : HasSources t m b) where
  -- sources rise with the numbers of choices
  pub sources_rise : n < m → slice_cmp nat_cmp a b ≡ Less
  sources_rise less = grind (arith, nat_cmp-same, slice_cmp-same)

  long : length a ≡ length b
  long = (sourced t c n a first has).one_each ∙ sym (sourced t c m b second has_too).one_each

  -- where no lesser sources are left
  pub reaches : n ≤ m → (k : ℕ) × (k ≤ length (byte_reads (events_in t c))) × IsGreaterAt a k b
  reaches le = grind (arith, cases_order, long, one_sources, place_of_less, sourced, sources_rise)

-- no list is greater than another that is greater than it
not_both : (a b : List ℕ) (k e : ℕ) → length a ≡ length b → e < length b → IsGreaterAt a k b → IsGreaterAt b e a → ⊥
not_both a b k e long inside up down = grind (arith, cases_lt)

module _ (t : Litmus) (c n m : ℕ) (a b : List ℕ) (lists : ListsChoices t) (first : IsOfCombination t n c) (second : IsOfCombination t m c)
    (has : HasSources t n a) (has_too : HasSources t m b) where
  pub not_behind : (k : ℕ) → IsGreaterAt a k b → n ≤ m
  not_behind k up =
      ⊎_elim
      (λ less.
      let at = place_of_less b a (sym (long t c n m a b lists first second has has_too)) (sources_rise t c m n b a lists second first has_too has less) in
      absurd (not_both a b k at.0 (long t c n m a b lists first second has has_too) at.1 up at.2))
      (λ not_less. not_less)
      (cases_lt m n)

-- ---- the ends of a range
module _ (t : Litmus) (c : ℕ) (lists : ListsChoices t) (of : (n : ℕ) → choices_before t c ≤ n → n < choices_before t (c + 1) → IsOfCombination t n c) (from to : ℕ) (some : 0 < to)
    (n : ℕ) (s : List ℕ) (low_in : choices_before t c ≤ n) (high_in : n < choices_before t (c + 1)) (has : HasSources t n s) where
  abbrev len : ℕ
  len = length (byte_reads (events_in t c))

  above_low : (low : Option (List ℕ)) → IsLowEnd t c from low → from ≤ n → IfSome low (λ l. (k : ℕ) × (k ≤ len) × IsGreaterAt l k s)
  above_low None end le = tt
  above_low (Some l) end le = reaches t c from n l s lists (of from end.low end.high) (of n low_in high_in) end.has has le

  from_low : (low : Option (List ℕ)) → IsLowEnd t c from low → IfSome low (λ l. (k : ℕ) × (k ≤ len) × IsGreaterAt l k s) → from ≤ n
  from_low None end is = omega (arith, end, low_in)
  from_low (Some l) end is = not_behind t c from n l s lists (of from end.low end.high) (of n low_in high_in) end.has has is.0 is.2

  below_high : (high : Option (List ℕ)) → IsHighEnd t c to high → n < to → IfSome high (λ h. (k : ℕ) × (k ≤ len) × IsGreaterAt s k h)
  below_high None end le = tt
  below_high (Some h) end le = reaches t c n (to - 1) s h lists (of n low_in high_in) (of (to - 1) end.low end.high) has end.has (omega (arith, le))

  from_high : (high : Option (List ℕ)) → IsHighEnd t c to high → IfSome high (λ h. (k : ℕ) × (k ≤ len) × IsGreaterAt s k h) → n < to
  from_high None end is = omega (arith, end, high_in)
  from_high (Some h) end is =
      let le : n ≤ to - 1 = not_behind t c n (to - 1) s h lists (of n low_in high_in) (of (to - 1) end.low end.high) has end.has is.0 is.2 in
      omega (arith, le, some)

  pub range_between : (low high : Option (List ℕ)) → IsLowEnd t c from low → IsHighEnd t c to high → ((from ≤ n) × (n < to)) ↔ IsBetween len low high s
  range_between low high low_is high_is = grind (arith, above_low, below_high, from_high, from_low)

-- ---- sources that lie in a box
above_known : (low : Option (List ℕ)) (place : ℕ) (s : List ℕ) → place ≤ length s → IfSome low (λ l. length l ≡ length s)
    → ((k : ℕ) → k < length s → IfSome low (λ l. IsAbove l place k (slice_index s k))) → IfSome low (λ l. IsGreaterAt l place s)
above_known None place s fits long each = tt
above_known (Some l) place s fits long each = record {
  same = λ k inside. (each k (omega (arith, inside, fits))).0 inside;
  greater = λ inside. (each place (omega (arith, inside, long))).1 refl;
}

below_known : (high : Option (List ℕ)) (place : ℕ) (s : List ℕ) → place ≤ length s
    → ((k : ℕ) → k < length s → IfSome high (λ h. IsBelow h place k (slice_index s k))) → IfSome high (λ h. IsGreaterAt s place h)
below_known None place s fits each = tt
below_known (Some h) place s fits each = record {
  same = λ k inside. sym ((each k (omega (arith, inside, fits))).0 inside);
  greater = λ inside. (each place inside).1 refl;
}

above_from : (low : Option (List ℕ)) (place : ℕ) (s : List ℕ) (k w : ℕ) → IfSome low (λ l. length l ≡ length s) → k < length s → w ≡ slice_index s k
    → IfSome low (λ l. IsGreaterAt l place s)
    → IfSome low (λ l. IsAbove l place k w)
above_from low place s k w long inside here is = grind arith

below_from : (high : Option (List ℕ)) (place : ℕ) (s : List ℕ) (k w : ℕ) → k < length s → w ≡ slice_index s k → IfSome high (λ h. IsGreaterAt s place h)
    → IfSome high (λ h. IsBelow h place k w)
below_from high place s k w inside here is = grind arith

low_long : (n : ℕ) (s : List ℕ) (low : Option (List ℕ)) → length s ≡ n → IfSome low (λ l. length l ≡ n) → IfSome low (λ l. length l ≡ length s)
low_long n s low same is = grind arith

module _ (boxes : BoxesModel) (cut : IsRangeCut (length (byte_reads (boxes_events boxes))) boxes.low boxes.high boxes.shared boxes.lows boxes.highs)
    (s : List ℕ) (are : AreSources (boxes_events boxes) s) (i : ℕ) (inside : i < boxes_len boxes) where
  at_place : (k : ℕ) → k < length s → slice_get s k ≡ Some (slice_index s k)
  at_place k within = slice_get-get_or s k 0 within

  fits : parting_in boxes i ≤ length s
  fits = grind arith

  pub in_cut : LiesInBox boxes i s → IsInCut boxes.low boxes.high boxes.shared boxes.lows i s
  in_cut lies = record {
    above =
        λ early. above_known boxes.low (parting_in boxes i) s fits
        (low_long (length (byte_reads (boxes_events boxes))) s boxes.low are.one_each cut.before.long)
        (λ k within. (lies k (slice_index s k) (at_place k within)).above early);
    below = λ late. below_known boxes.high (parting_in boxes i) s fits (λ k within. (lies k (slice_index s k) (at_place k within)).below late);
  }

  pub from_cut : IsInCut boxes.low boxes.high boxes.shared boxes.lows i s → LiesInBox boxes i s
  from_cut is = λ k w at.
      let within : k < length s = slice_get_within s k w at in
      let known : k < length (byte_reads (boxes_events boxes)) = omega (arith, within, are.one_each) in
      let here : w ≡ slice_index s k = sym (same_Some (slice_index s k) w (sym (at_place k within) ∙ at)) in
      record {
        known = known;
        candidate =
            are.each k (byte_read_at (boxes_events boxes) k).0 (byte_read_at (boxes_events boxes) k).1 w
            (slice_get-get_or (byte_reads (boxes_events boxes)) k (0, 0) known) at;
        above =
            λ early. above_from boxes.low (parting_in boxes i) s k w
            (low_long (length (byte_reads (boxes_events boxes))) s boxes.low are.one_each cut.before.long) within here (is.above early);
        below = λ late. below_from boxes.high (parting_in boxes i) s k w within here (is.below late);
      }

-- ---- the range
module _ (boxes : BoxesModel) (cut : IsRangeCut (length (byte_reads (boxes_events boxes))) boxes.low boxes.high boxes.shared boxes.lows boxes.highs) (from to : ℕ) (some : 0 < to)
    (low_is : IsLowEnd boxes.test boxes.combination from boxes.low) (high_is : IsHighEnd boxes.test boxes.combination to boxes.high)
    (lists : ListsChoices boxes.test)
    (of : (n : ℕ) → choices_before boxes.test boxes.combination ≤ n → n < choices_before boxes.test (boxes.combination + 1)
    → IsOfCombination boxes.test n boxes.combination) where
  abbrev reads : ℕ
  reads = length (byte_reads (boxes_events boxes))

  covered : (n : ℕ) (s : List ℕ) → choices_before boxes.test boxes.combination ≤ n → n < choices_before boxes.test (boxes.combination + 1)
      → HasSources boxes.test n s → ((from ≤ n) × (n < to)) ↔ ((i : ℕ) × (i < boxes_len boxes) × LiesInBox boxes i s)
  covered n s low_in high_in has =
      let are : AreSources (boxes_events boxes) s = sourced boxes.test boxes.combination n s (of n low_in high_in) has in
      let range = range_between boxes.test boxes.combination lists of from to some n s low_in high_in has boxes.low boxes.high low_is high_is in (
        λ inside.
            let there = found reads boxes.shared boxes.lows boxes.highs s are.one_each boxes.low boxes.high cut (range.0 inside) in
            (there.0, there.1, from_cut boxes cut s are there.0 there.1 there.2),
        λ lies. range.1 (between reads boxes.shared boxes.lows boxes.highs s are.one_each boxes.low boxes.high cut lies.0 lies.1
            (in_cut boxes cut s are lies.0 lies.1 lies.2)),
      )

  risen : (i j : ℕ) (a b : List ℕ) → i < j → j < boxes_len boxes → AreSources (boxes_events boxes) a → AreSources (boxes_events boxes) b
      → LiesInBox boxes i a → LiesInBox boxes j b → slice_cmp nat_cmp a b ≡ Less
  risen i j a b less inside a_are b_are first second =
      let at = rises reads boxes.shared boxes.lows boxes.highs a b a_are.one_each b_are.one_each i j less inside boxes.low boxes.high cut
      (in_cut boxes cut a a_are i (omega (arith, less, inside)) first) (in_cut boxes cut b b_are j inside second) in
      less_from_place a b at.0 (omega (arith, a_are.one_each, b_are.one_each)) (omega (arith, at.1, a_are.one_each)) at.2

  pub cuts_range : CutsRange boxes from to
  cuts_range = record { few = few_boxes reads boxes.shared boxes.lows boxes.highs boxes.low boxes.high cut; covers = covered; rising = risen }
