-- Data races, by pairs of events that are apart.
use Rattle.std.proofs.Common.{◌≢◌, ◌↔◌, ◌⊎◌, ℕ, ◌<◌, List, length, arith, inl, inr}
use Rattle.std.proofs.lemmas.Bool.{cases_lt}
use Rattle.lit_paths.specs.declared.event.Event.{Event}
use Rattle.lit_paths.specs.Event.{HasSameRange, event_at}
use Rattle.lit_rel.specs.DataRace.{AreUnguarded, HasDataRaceOf}
use Rattle.lit_rel.specs.declared.given.SourcedByte.{SourcedByte}
use Rattle.lit_rel.specs.Internal.Given.{AreFirstReads, HasByteSo, IsRacing, sources_of}
use Rattle.lit_rel.specs.Racing.{AreApart, HasApartPair, WritesWith}
use Rattle.lit_rel.specs.ReadsFrom.{ReadsFrom}
use Rattle.lit_rel.proofs.SourceLemmas.{byte_at, read_at}

-- a data race stays one where fewer pairs are ordered and more reads may be
module _ (events : List Event) (before other reads more : ℕ → ℕ → Type 0) (fewer : (e d : ℕ) → other e d → before e d) (also : (r w : ℕ) → reads r w → more r w) where
  pub HasDataRaceOf-wider : HasDataRaceOf events before reads → HasDataRaceOf events other more
  HasDataRaceOf-wider h = record { first = h.first; second = h.second; is_race = grind (arith, fewer, also) }

-- ---- pairs that are apart
pub same_range_back : (e d : Event) → HasSameRange e d → HasSameRange d e
unfolding HasSameRange
same_range_back e d same b = ((same b).1, (same b).0)

AreUnguarded-sym : (e d : Event) → AreUnguarded e d → AreUnguarded d e
AreUnguarded-sym e d (inl first) = inr (inl first)
AreUnguarded-sym e d (inr (inl second)) = inl second
AreUnguarded-sym e d (inr (inr overlap)) =
    inr (inr ((overlap.0.0, overlap.0.2, overlap.0.1), λ same. overlap.1 (same_range_back d e same)))

pub AreApart-sym : (events : List Event) (before : ℕ → ℕ → Type 0) (e d : ℕ) → AreApart events before e d → AreApart events before d e
AreApart-sym events before e d apart = let unguarded = AreUnguarded-sym (event_at events e) (event_at events d) apart.unguarded in grind arith

pub WritesWith-sym : (events : List Event) (e d : ℕ) → WritesWith events e d → WritesWith events d e
WritesWith-sym events e d writes = record { first = writes.second; second = writes.first; shares = (writes.shares.0, writes.shares.2, writes.shares.1) }

module _ (events : List Event) (before : ℕ → ℕ → Type 0) where
  apart_in_race : (e d : ℕ) → AreApart events before e d → (reads : ℕ → ℕ → Type 0) → (WritesWith events e d ⊎ reads e d ⊎ reads d e) → HasDataRaceOf events before reads
  apart_in_race e d apart reads conflict = record { first = e; second = d; is_race = grind arith }

  -- a data race is a pair apart of two writes, or of a read and its source
  pub HasDataRaceOf-iff : (reads : ℕ → ℕ → Type 0) → HasDataRaceOf events before reads ↔ (HasApartPair events before reads ⊎ HasApartPair events before (WritesWith events))
  HasDataRaceOf-iff reads = (
    (λ h.
        let race = h.is_race in
        let apart : AreApart events before h.first h.second = grind arith in
        elim race.conflict [
          | inl writes ↦ inr record { first = h.first; second = h.second; apart = apart; is_pair = writes }
          | inr one ↦ inl (elim one [
            | inl there ↦ record { first = h.first; second = h.second; apart = apart; is_pair = there }
            | inr back ↦ record { first = h.second; second = h.first; apart = AreApart-sym events before h.first h.second apart; is_pair = back }
          ])
        ]),
    (λ h. elim h [
      | inl pair ↦ apart_in_race pair.first pair.second pair.apart reads (inr (inl pair.is_pair))
      | inr pair ↦ apart_in_race pair.first pair.second pair.apart reads (inl pair.is_pair)
    ]),
  )

-- ---- reads and their sources, byte by byte
module _ (events : List Event) (bytes : List SourcedByte) (first : AreFirstReads events bytes) (before : ℕ → ℕ → Type 0) where
  pub racing_read-iff : HasByteSo bytes (IsRacing events before) ↔ HasApartPair events before (ReadsFrom events (sources_of bytes))
  racing_read-iff = (
    (λ h. record { first = h.byte.read; second = h.byte.source; apart = h.is_so; is_pair = (h.byte.byte, read_at events bytes first h.place h.byte h.at_place) }),
    (λ h.
        let found = byte_at events bytes first h.first h.is_pair.0 h.second h.is_pair.1 in
        record { place = found.0; byte = found.1; at_place = found.2; is_so = rw (found.3.read, found.3.source) h.apart }),
  )

  -- what is asked byte by byte, and of writes, says whether there is a data race, by rows that are happens-before
  pub data_race-iff : (other : ℕ → ℕ → Type 0) → ((e d : ℕ) → before e d ↔ other e d)
      → (HasByteSo bytes (IsRacing events before) ⊎ HasApartPair events before (WritesWith events)) ↔ HasDataRaceOf events other (ReadsFrom events (sources_of bytes))
  data_race-iff other same =
      let reads = ReadsFrom events (sources_of bytes) in
      let either = HasDataRaceOf-iff events before reads in (
        (λ h. HasDataRaceOf-wider events before other reads reads (λ e d. (same e d).1) (λ r w there. there) (either.1 (elim h [ inl byte ↦ inl (racing_read-iff.0 byte) | inr pair ↦ inr pair ]))),
        (λ race. elim (either.0 (HasDataRaceOf-wider events other before reads reads (λ e d. (same e d).0) (λ r w there. there) race)) [ inl pair ↦ inl (racing_read-iff.1 pair) | inr pair ↦ inr pair ]),
      )

-- ---- writes, the greater number first
pub racing_writes_to : (events : List Event) (before : ℕ → ℕ → Type 0) → HasApartPair events before (WritesWith events) → (e : ℕ) × (d : ℕ) × (e < length events) × (d < e) × WritesWith events e d × AreApart events before e d
racing_writes_to events before h =
    elim (cases_lt h.first h.second) [
      | inl less ↦ (h.second, h.first, h.apart.second_known, less, WritesWith-sym events h.first h.second h.is_pair, AreApart-sym events before h.first h.second h.apart)
      | inr other ↦ let distinct : h.first ≢ h.second = h.apart.distinct in (h.first, h.second, h.apart.first_known, omega arith, h.is_pair, h.apart)
    ]
