-- Data races by relations that hold of the same pairs.
use Rattle.std.proofs.Common.{◌≢◌, ◌↔◌, ℕ, ◌<◌, List, Option, Some, None, MatchOption, sym, arith, inl, inr}
use Rattle.std.proofs.lemmas.Bool.{cases_lt}
use Rattle.lit_paths.specs.declared.event.Event.{Event}
use Rattle.lit_paths.specs.Event.{event_at}
use Rattle.lit_rel.specs.DataRace.{AreUnguarded, HasDataRaceOf, IsDataRace}
use Rattle.lit_rel.proofs.RaceLemmas.{WritesWith-sym, same_range_back}
use Rattle.lit_why.specs.declared.racing.RacingPair.{RacingPair}
use Rattle.lit_why.specs.RacingPair.{IsLeastRacing}

-- a pair races where a relation orders the same pairs and reads are the same
pub IsDataRace-same : (events : List Event) (before other reads more : ℕ → ℕ → Type 0) → ((e d : ℕ) → before e d ↔ other e d) → ((e d : ℕ) → reads e d ↔ more e d)
    → (e d : ℕ) → IsDataRace events before reads e d → IsDataRace events other more e d
IsDataRace-same events before other reads more same same_reads e d h = grind (arith, same, same_reads)

-- the least pair of one is that of another by which the same events race
pub IsLeastRacing-same : (races other : ℕ → ℕ → Type 0) → ((e d : ℕ) → races e d ↔ other e d) → (pair : RacingPair) → IsLeastRacing races pair → IsLeastRacing other pair
IsLeastRacing-same races other same pair h = record {
  rising = h.rising;
  is_race = (same pair.first pair.second).0 h.is_race;
  least = λ e d rising race. h.least e d rising ((same e d).1 race);
}

-- ---- the lesser number first
unguarded_back : (e d : Event) → AreUnguarded e d → AreUnguarded d e
unguarded_back e d (inl first) = inr (inl first)
unguarded_back e d (inr (inl second)) = inl second
unguarded_back e d (inr (inr overlap)) =
    inr (inr ((overlap.0.0, overlap.0.2, overlap.0.1), λ same. overlap.1 (same_range_back d e same)))

module _ (events : List Event) (before reads : ℕ → ℕ → Type 0) where
  turned : (e d : ℕ) → IsDataRace events before reads e d → IsDataRace events before reads d e
  turned e d h =
      let unguarded = unguarded_back (event_at events e) (event_at events d) h.unguarded in
      record {
        first_known = h.second_known;
        second_known = h.first_known;
        distinct = λ same. h.distinct (sym same);
        not_before = h.not_after;
        not_after = h.not_before;
        conflict = elim h.conflict [
          | inl writes ↦ inl (WritesWith-sym events e d writes)
          | inr (inl there) ↦ inr (inr there)
          | inr (inr back) ↦ inr (inl back)
        ];
        unguarded = unguarded;
      }

  pub none_from_rising : ((e d : ℕ) → e < d → ¬ IsDataRace events before reads e d) → ¬ HasDataRaceOf events before reads
  none_from_rising none h =
      elim (cases_lt h.first h.second) [
        | inl less ↦ none h.first h.second less h.is_race
        | inr other ↦
            let distinct : h.first ≢ h.second = h.is_race.distinct in
            none h.second h.first (omega arith) (turned h.first h.second h.is_race)
      ]

-- what is found by one is what is found by the other
pub found_same : (before other reads more : ℕ → ℕ → Type 0) (events : List Event) → ((e d : ℕ) → before e d ↔ other e d) → ((e d : ℕ) → reads e d ↔ more e d)
    → (found : Option RacingPair)
    → MatchOption found ((e d : ℕ) → e < d → ¬ IsDataRace events before reads e d) (IsLeastRacing (IsDataRace events before reads))
    → MatchOption found (¬ HasDataRaceOf events other more) (IsLeastRacing (IsDataRace events other more))
found_same before other reads more events same same_reads None h =
    let back = IsDataRace-same events other before more reads (λ e d. ((same e d).1, (same e d).0)) (λ e d. ((same_reads e d).1, (same_reads e d).0)) in
    none_from_rising events other more (λ e d less race. h e d less (back e d race))
found_same before other reads more events same same_reads (Some pair) h =
    let back = IsDataRace-same events other before more reads (λ e d. ((same e d).1, (same e d).0)) (λ e d. ((same_reads e d).1, (same_reads e d).0)) in
    let to = IsDataRace-same events before other reads more same same_reads in
    IsLeastRacing-same (IsDataRace events before reads) (IsDataRace events other more) (λ e d. (to e d, back e d)) pair h
