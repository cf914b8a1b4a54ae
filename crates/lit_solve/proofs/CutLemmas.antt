-- Lists between two ends lie in the boxes of a range's cut, one after the other.
use Rattle.lit_solve.proofs.Words.{◌*◌, ◌+◌, ◌-◌, ◌<◌, arith, cases_lt, cases_order, IfSome, IsGreaterAt, IsRangeCut, length, List, None}
use Rattle.lit_solve.proofs.Words.{Option, refl, Some, subst, sym, ℕ, ◌≡◌, ◌≤◌, ⊎_elim}

-- a list that shares a longer prefix with l than h does is below h where h differs from l
pub below_as_low : (l h s : List ℕ) (p k : ℕ) → length l ≡ length s → IsGreaterAt l p h → IsGreaterAt l k s → p < k → IsGreaterAt s p h
below_as_low l h s p k long part is less = grind arith

pub above_as_high : (l h s : List ℕ) (p k : ℕ) → IsGreaterAt l p h → IsGreaterAt s k h → p < k → IsGreaterAt l p s
above_as_high l h s p k part is less = grind arith

one_parting : (l h : List ℕ) (p q : ℕ) → IsGreaterAt l p h → IsGreaterAt l q h → p ≤ length l → q ≤ length l → p ≡ q
one_parting l h p q first second p_in q_in = grind (arith, cases_order)

-- a list above l and below h: l and h differ where the list first differs from one of them
parts_low : (l h s : List ℕ) (k e : ℕ) → IsGreaterAt l k s → IsGreaterAt s e h → k < e → IsGreaterAt l k h
parts_low l h s k e up down less = grind arith

parts_high : (l h s : List ℕ) (k e : ℕ) → length l ≡ length s → IsGreaterAt l k s → IsGreaterAt s e h → e < k → IsGreaterAt l e h
parts_high l h s k e long up down less = grind arith

parts_both : (l h s : List ℕ) (k : ℕ) → length l ≡ length s → IsGreaterAt l k s → IsGreaterAt s k h → IsGreaterAt l k h
parts_both l h s k long up down = grind arith

-- the place at which the i-th box differs from an end
abbrev pub parting : (shared lows i : ℕ) → ℕ
parting shared lows i = shared + ((lows - i) + (i - lows))

-- the list lies in the i-th box
pub record IsInCut (low high : Option (List ℕ)) (shared lows i : ℕ) (s : List ℕ) : Type 0 where
  pub above : i ≤ lows → IfSome low (λ l. IsGreaterAt l (parting shared lows i) s)
  pub below : lows ≤ i → IfSome high (λ h. IsGreaterAt s (parting shared lows i) h)

-- the list is no less than what is low, and no greater than what is high
pub record IsBetween (len : ℕ) (low high : Option (List ℕ)) (s : List ℕ) : Type 0 where
  pub above : IfSome low (λ l. (k : ℕ) × (k ≤ len) × IsGreaterAt l k s)
  pub below : IfSome high (λ h. (k : ℕ) × (k ≤ len) × IsGreaterAt s k h)

module _ (len shared lows highs : ℕ) (s : List ℕ) (long : length s ≡ len) where
  abbrev pub IsFound : Option (List ℕ) → Option (List ℕ) → Type 0
  IsFound low high = (i : ℕ) × (i < lows + 1 + highs) × IsInCut low high shared lows i s

  -- for each place at which a list differs from an end there is a box
  abbrev Up : List ℕ → ℕ → Type 0
  Up l k = IsGreaterAt l k s

  abbrev Down : List ℕ → ℕ → Type 0
  Down h k = IsGreaterAt s k h

  found_before : (l : List ℕ) (high : Option (List ℕ)) (k : ℕ) → Up l k → shared < k → k ≤ shared + lows → IsFound (Some l) high
  found_before l high k up late inside =
      let at : k ≡ parting shared lows (lows - (k - shared)) = omega (arith, late, inside) in
      (lows - (k - shared), omega arith, record { above = λ _. subst (λ (j : ℕ). Up l j) at up; below = λ past. absurd (omega (arith, past, late, inside)) })

  found_behind : (low : Option (List ℕ)) (h : List ℕ) (k : ℕ) → Down h k → shared < k → k ≤ shared + highs → IsFound low (Some h)
  found_behind low h k down late inside =
      let at : k ≡ parting shared lows (lows + (k - shared)) = omega (arith, late) in (
        lows + (k - shared),
        omega (arith, late, inside),
        record { above = λ early. absurd (omega (arith, early, late)); below = λ _. subst (λ (j : ℕ). Down h j) at down },
      )

  found_middle : (low high : Option (List ℕ)) → IfSome low (λ l. Up l shared) → IfSome high (λ h. Down h shared) → IsFound low high
  found_middle low high up down =
      let at : shared ≡ parting shared lows lows = omega arith in (
        lows,
        omega arith,
        record {
          above = λ _. subst (λ (j : ℕ). IfSome low (λ l. Up l j)) at up;
          below = λ _. subst (λ (j : ℕ). IfSome high (λ h. Down h j)) at down;
        },
      )

  found_from_low : (l : List ℕ) → IsRangeCut len (Some l) None shared lows highs → (k : ℕ) → k ≤ len → Up l k → IsFound (Some l) None
  found_from_low l cut k inside up =
      ⊎_elim
      (λ late. found_before l None k up late (omega (arith, inside, cut.before.count)))
      (λ not_late. found_middle (Some l) None (let same : k ≡ shared = omega (arith, not_late, cut.behind.fits) in subst (λ (j : ℕ). Up l j) same up) tt)
      (cases_lt shared k)

  found_from_high : (h : List ℕ) → IsRangeCut len None (Some h) shared lows highs → (k : ℕ) → k ≤ len → Down h k → IsFound None (Some h)
  found_from_high h cut k inside down =
      ⊎_elim
      (λ late. found_behind None h k down late (omega (arith, inside, cut.behind.count)))
      (λ not_late. found_middle None (Some h) tt (let same : k ≡ shared = omega (arith, not_late, cut.before.fits) in subst (λ (j : ℕ). Down h j) same down))
      (cases_lt shared k)

  -- k is where the list differs from the low end, and e where it differs from the high one
  found_from_both : (l h : List ℕ) → IsRangeCut len (Some l) (Some h) shared lows highs → (k : ℕ) → k ≤ len → Up l k → (e : ℕ) → e ≤ len → Down h e
      → IsFound (Some l) (Some h)
  found_from_both l h cut k k_in up e e_in down =
      let part : IsGreaterAt l shared h = cut.parting l h refl refl in
      let low_long : length l ≡ len = cut.before.long in
      let fits : shared ≤ len = cut.before.fits in
      let one : (p : ℕ) → p ≤ len → IsGreaterAt l p h
      → shared ≡ p = λ p p_in is. one_parting l h shared p part is (omega (arith, low_long, fits)) (omega (arith, low_long, p_in)) in
      ⊎_elim
      (λ same.
      let down_too : Down h k = subst (λ (j : ℕ). Down h j) (sym same) down in
      let at : shared ≡ k = one k k_in (parts_both l h s k (omega (arith, low_long, long)) up down_too) in
      found_middle (Some l) (Some h) (subst (λ (j : ℕ). Up l j) (sym at) up) (subst (λ (j : ℕ). Down h j) (sym at) down_too))
      (λ apart. ⊎_elim
      (λ less.
      let at : shared ≡ k = one k k_in (parts_low l h s k e up down less) in
      found_behind (Some l) h e down (omega (arith, at, less)) (omega (arith, e_in, cut.behind.count)))
      (λ more.
      let at : shared ≡ e = one e e_in (parts_high l h s k e (omega (arith, low_long, long)) up down more) in
      found_before l (Some h) k up (omega (arith, at, more)) (omega (arith, k_in, cut.before.count)))
      apart)
      (cases_order k e)

  pub found : (low high : Option (List ℕ)) → IsRangeCut len low high shared lows highs → IsBetween len low high s → IsFound low high
  found None None cut is = found_middle None None tt tt
  found None (Some h) cut is = found_from_high h cut is.below.0 is.below.1 is.below.2
  found (Some l) None cut is = found_from_low l cut is.above.0 is.above.1 is.above.2
  found (Some l) (Some h) cut is = found_from_both l h cut is.above.0 is.above.1 is.above.2 is.below.0 is.below.1 is.below.2

  -- ---- back from a box
  between_both : (l h : List ℕ) → IsRangeCut len (Some l) (Some h) shared lows highs → (i : ℕ) → i < lows + 1 + highs
      → IsInCut (Some l) (Some h) shared lows i s → IsBetween len (Some l) (Some h) s
  between_both l h cut i inside is =
      let part : IsGreaterAt l shared h = cut.parting l h refl refl in
      let low_long : length l ≡ len = cut.before.long in
      let low_count : shared + lows ≡ len = cut.before.count in
      let high_count : shared + highs ≡ len = cut.behind.count in
      let place : ℕ = parting shared lows i in
      let fits : place ≤ len = omega (arith, inside, low_count, high_count) in
      ⊎_elim
      (λ same.
      record { above = (place, fits, is.above (omega (arith, same))); below = (place, fits, is.below (omega (arith, same))) })
      (λ apart. ⊎_elim
      (λ less.
      let up : IsGreaterAt l place s = is.above (omega (arith, less)) in
      record {
        above = (place, fits, up);
        below = (shared, omega (arith, low_count), below_as_low l h s shared place (omega (arith, low_long, long)) part up (omega (arith, less)));
      })
      (λ more.
      let down : IsGreaterAt s place h = is.below (omega (arith, more)) in
      record { above = (shared, omega (arith, low_count), above_as_high l h s shared place part down (omega (arith, more))); below = (place, fits, down) })
      apart)
      (cases_order i lows)

  pub between : (low high : Option (List ℕ)) → IsRangeCut len low high shared lows highs → (i : ℕ) → i < lows + 1 + highs
      → IsInCut low high shared lows i s → IsBetween len low high s
  between low high cut i inside is = grind (arith, between_both)

-- ---- from box to box
module _ (len shared lows highs : ℕ) (s u : List ℕ) (long : length s ≡ len) (long_too : length u ≡ len) (i j : ℕ) (less : i < j) (inside : j < lows + 1 + highs) where
  abbrev pub IsLess : Type 0
  IsLess = (k : ℕ) × (k < len) × IsGreaterAt s k u

  -- both before the middle box or there
  rises_before : (l : List ℕ) (high : Option (List ℕ)) → IsRangeCut len (Some l) high shared lows highs → j ≤ lows
      → IsInCut (Some l) high shared lows i s → IsInCut (Some l) high shared lows j u → IsLess
  rises_before l high cut low first second = grind arith

  -- both behind it or there
  rises_behind : (low : Option (List ℕ)) (h : List ℕ) → IsRangeCut len low (Some h) shared lows highs → lows ≤ i
      → IsInCut low (Some h) shared lows i s → IsInCut low (Some h) shared lows j u → IsLess
  rises_behind low h cut high first second = grind arith

  -- one before it and one behind
  rises_across : (l h : List ℕ) → IsRangeCut len (Some l) (Some h) shared lows highs → i < lows → lows < j
      → IsInCut (Some l) (Some h) shared lows i s → IsInCut (Some l) (Some h) shared lows j u → IsLess
  rises_across l h cut before behind first second =
      let low_long : length l ≡ len = cut.before.long in
      let count : shared + lows ≡ len = cut.before.count in
      let under : IsGreaterAt s shared h =
      below_as_low l h s shared (parting shared lows i) (omega (arith, low_long, long)) (cut.parting l h refl refl)
      (first.above (omega (arith, before))) (omega (arith, before)) in (
        shared,
        omega (arith, count, before),
        above_as_high s h u shared (parting shared lows j) under (second.below (omega (arith, behind)))
            (omega (arith, behind)),
      )

  pub rises : (low high : Option (List ℕ)) → IsRangeCut len low high shared lows highs → IsInCut low high shared lows i s → IsInCut low high shared lows j u → IsLess
  rises low high cut first second = grind (arith, cases_lt, rises_across, rises_before, rises_behind)

-- there are few boxes
pub few_boxes : (len shared lows highs : ℕ) (low high : Option (List ℕ)) → IsRangeCut len low high shared lows highs → lows + 1 + highs ≤ 2 * len + 1
few_boxes len shared lows highs low high cut = grind arith
