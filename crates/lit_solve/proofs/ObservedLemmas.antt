-- Completions with the same outcome take sources that store the same byte for an observed byte read. So the least completion with an
-- outcome in a part of a box, by that byte, is the least in the box.
use Rattle.lit_solve.proofs.Words.{◌<◌, AddsEntries, Any, ap, AreEventsIn, AreFirstValues, arith, Box, box_events, box_with, Branch}
use Rattle.lit_solve.proofs.Words.{byte_read_at, byte_reads, cases_eq, Entry, eq-eqb, Event, event_or_not, EventSet, Execution}
use Rattle.lit_solve.proofs.Words.{execution_outcome, false≢true, HasEachOutcome, HasEvent, HasOutcome, HasSource, inl, inr, IsBox}
use Rattle.lit_solve.proofs.Words.{IsCompletion, IsRestricted, IsLeastEntry, IsObservedAt, IsUndecidedAt, IsWithin, Laws, length, List, names_of}
use Rattle.lit_solve.proofs.Words.{observed_value, Prunes, refl, same_Some, slice_get, slice_get_within, Some, stored_for, subst, sym, TakesFrom, true}
use Rattle.lit_solve.proofs.Words.{value_in, value_of, zip, ℕ, ◌↔◌, ◌∙◌, ◌≡◌, ◌⊎◌}
use Rattle.lit_solve.proofs.CompletionLemmas.{part_of}
use Rattle.lit_solve.proofs.ReadValueLemmas.{byte_for, other_number}
use Rattle.lit_solve.proofs.EntryLemmas.{adds_more, adds_out, adds_stays}
use Rattle.lit_solve.proofs.FillLemmas.{sources_lie}
use Rattle.lit_solve.proofs.PruningLemmas.{read_here}
use Rattle.lit_solve.proofs.RegisterLemmas.{register_value}
use Rattle.lit_solve.proofs.SearchingLemmas.{not_all, takes_some}

-- a completion takes some source
pub takes_one : (box : Box) (k : ℕ) → k < length (byte_reads (box_events box)) → (x : Execution) → IsCompletion box x
    → (w : ℕ) × (slice_get x.sources k ≡ Some w)
takes_one box k inside x is = takes_some box Any k inside x (record { completes = is; meets = tt })

-- a completion of a part of a box is one of the box
pub completes_within : (box : Box) (domains : List EventSet) → IsWithin (box_with (box.test, box.combination) domains) box → (x : Execution)
    → IsCompletion (box_with (box.test, box.combination) domains) x → IsCompletion box x
completes_within box domains within x is = grind arith

-- so the first values of outcomes stay
pub first_within : (box : Box) (domains : List EventSet) (values : List ℕ) → IsWithin (box_with (box.test, box.combination) domains) box
    → AreFirstValues box values → AreFirstValues (box_with (box.test, box.combination) domains) values
first_within box domains values within first = grind arith

-- a least entry of a pruned box is a least entry of the box before
pub least_pruned : (box : Box) (domains : List EventSet) → Prunes box (box_with (box.test, box.combination) domains) → (entry : Entry)
    → IsLeastEntry (box_with (box.test, box.combination) domains) entry → IsLeastEntry box entry
least_pruned box domains prunes entry is = grind arith

module _ (laws : Laws) (box : Box) (entered : IsBox box) (sound : AreEventsIn box.test.bytes (box_events box)) (k : ℕ)
    (inside : k < length (byte_reads (box_events box))) where
  abbrev events : List Event
  events = box_events box

  abbrev r : ℕ
  r = (byte_read_at events k).0

  abbrev b : ℕ
  b = (byte_read_at events k).1

  at : slice_get (byte_reads events) k ≡ Some (r, b)
  at = read_here events k inside

  -- a source stores the byte that the value has there
  stores : (number : ℕ) (x : Execution) → IsCompletion box x → (w : ℕ) → slice_get x.sources k ≡ Some w → value_of events x.sources r ≡ number
      → stored_for box k w ≡ byte_for box r number b
  stores number x is w source value =
      let of_events = laws.of_events events in
      elim (cases_eq (stored_for box k w) (byte_for box r number b)) [
        | inl same ↦ same
        | inr other ↦ absurd (false≢true
            (sym (other_number box r number sound (of_events.known k r b at) (of_events.reads k r b at) x.sources (sources_lie box x is) k b w at source other)
            ∙ eq-eqb (value_of events x.sources r) number value))
      ]

  -- so where two completions have the same value of the read, they take sources that store the same byte
  pub same_stored : (x y : Execution) → IsCompletion box x → IsCompletion box y → value_of events x.sources r ≡ value_of events y.sources r
      → (w v : ℕ) → slice_get x.sources k ≡ Some w → slice_get y.sources k ≡ Some v → stored_for box k w ≡ stored_for box k v
  same_stored x y is_x is_y same w v at_x at_y = stores (value_of events y.sources r) x is_x w at_x same ∙ sym (stores (value_of events y.sources r) y is_y v at_y refl)

-- ---- an observed byte read
module _ (laws : Laws) (box : Box) (entered : IsBox box) (sound : AreEventsIn box.test.bytes (box_events box)) (k : ℕ)
    (inside : k < length (byte_reads (box_events box))) (observed : IsObservedAt box k) where
  abbrev its_events : List Event
  its_events = box_events box

  abbrev its_read : ℕ
  its_read = (byte_read_at its_events k).0

  -- what the register has at the end is the value of the read
  observed_is : (x : Execution) → IsCompletion box x
      → value_in (zip (names_of box.test) (execution_outcome box.test x)) observed.0.0 observed.0.1 ≡ value_of its_events x.sources its_read
  observed_is x is = register_value laws box x entered is observed.0.0 observed.0.1 ∙ ap (observed_value (part_of box x.sources)) observed.1

  same_value : (x y : Execution) → IsCompletion box x → IsCompletion box y → execution_outcome box.test x ≡ execution_outcome box.test y
      → value_of its_events x.sources its_read ≡ value_of its_events y.sources its_read
  same_value x y is_x is_y same = grind (arith, observed_is)

  pub same_byte : (x y : Execution) → IsCompletion box x → IsCompletion box y → execution_outcome box.test x ≡ execution_outcome box.test y
      → (w v : ℕ) → slice_get x.sources k ≡ Some w → slice_get y.sources k ≡ Some v → stored_for box k w ≡ stored_for box k v
  same_byte x y is_x is_y same = same_stored laws box entered sound k inside x y is_x is_y (same_value x y is_x is_y same)

  -- ---- the part of a box by the sources that store the same as one
  module _ (source : ℕ) (group : EventSet)
      (matching : (w : ℕ) → HasEvent group w ↔ (HasSource box k w × (stored_for box k w ≡ stored_for box k source))) where
    -- who takes one of them, with an outcome
    takes_too : (x y : Execution) → IsCompletion box x → IsCompletion box y → execution_outcome box.test x ≡ execution_outcome box.test y
        → (v : ℕ) → slice_get y.sources k ≡ Some v → HasEvent group v → TakesFrom x k group
    takes_too x y is_x is_y same v at_y there w at_x = grind (arith, same_byte)

    module _ (domains : List EventSet) (restricted : IsRestricted box k group (box_with (box.test, box.combination) domains)) where
      abbrev part : Box
      part = box_with (box.test, box.combination) domains

      completes_out : (x : Execution) → IsCompletion part x → IsCompletion box x
      completes_out = completes_within box domains restricted.within

      pub least_out : (entry : Entry) → IsLeastEntry part entry → IsLeastEntry box entry
      least_out entry is = record {
        execution = is.execution;
        completes = completes_out is.execution is.completes;
        outcome = is.outcome;
        from = is.from;
        to = is.to;
        chosen = is.chosen;
        least = λ x completes its. is.least x (restricted.retained x completes (takes x completes its)) its;
        ordered = is.ordered;
      }
        where
          takes : (x : Execution) → IsCompletion box x → execution_outcome box.test x ≡ entry.outcome → TakesFrom x k group
          takes x completes its =
              let y = is.execution in
              let y_is = completes_out y is.completes in
              let some = takes_one box k inside y y_is in
              takes_too x y completes y_is (its ∙ sym is.outcome) some.0 some.1
              (restricted.inside some.0 (is.completes.within k some.0 some.1))

-- ---- going through the parts of a box
-- of each completion something is known, or it takes a source of the set
abbrev pub IsSeenBy : (Execution → Type 0) → Box → ℕ → EventSet → Type 0
IsSeenBy known box k left = (x : Execution) → IsCompletion box x → known x ⊎ TakesFrom x k left

-- each completion has an outcome with an entry, or takes a source of the set
abbrev pub IsSeen : Box → ℕ → List Entry → EventSet → Type 0
IsSeen box k entries left = IsSeenBy (λ x. HasOutcome entries (execution_outcome box.test x)) box k left

module _ (known : Execution → Type 0) (box : Box) (k : ℕ) (inside : k < length (byte_reads (box_events box))) where
  pub seen_more : (left group rest : EventSet)
      → ((w : ℕ) → HasEvent rest w ↔ (HasEvent left w × ¬ HasEvent group w))
      → ((x : Execution) → IsCompletion box x → TakesFrom x k group → known x)
      → IsSeenBy known box k left → IsSeenBy known box k rest
  seen_more left group rest rest_is taken seen x is = elim (seen x is) [
    | inl has ↦ inl has
    | inr takes ↦
        (let some = takes_one box k inside x is in
        elim (event_or_not group some.0) [
          | inl there ↦ inl (taken x is (λ w source. subst (HasEvent group) (same_Some some.0 w (sym some.1 ∙ source)) there))
          | inr apart ↦ inr (λ w source.
              subst (HasEvent rest) (same_Some some.0 w (sym some.1 ∙ source)) ((rest_is some.0).1 (takes some.0 some.1, apart)))
        ])
  ]

  pub all_seen_by : (left : EventSet) → ((w : ℕ) → ¬ HasEvent left w) → IsSeenBy known box k left → (x : Execution) → IsCompletion box x → known x
  all_seen_by left none seen x is = elim (seen x is) [
    | inl has ↦ has
    | inr takes ↦ (let some = takes_one box k inside x is in absurd (none some.0 (takes some.0 some.1)))
  ]

module _ (box : Box) (k : ℕ) where
  pub seen_stays : (old new : List Entry) (left : EventSet) → ((outcome : List ℕ) → HasOutcome old outcome → HasOutcome new outcome)
      → IsSeen box k old left → IsSeen box k new left
  seen_stays old new left stays seen x is = grind arith

  -- the parts gone through, and one that has no completion
  pub seen_past : (old entries : List Entry) (left group rest : EventSet) → ((w : ℕ) → HasEvent rest w ↔ (HasEvent left w × ¬ HasEvent group w))
      → k < length (byte_reads (box_events box)) → AddsEntries box old entries → IsSeen box k entries left
      → ((x : Execution) → IsCompletion box x → ¬ TakesFrom x k group) → AddsEntries box old entries × IsSeen box k entries rest
  seen_past old entries left group rest rest_is inside added seen none = (
    added,
    seen_more (λ x. HasOutcome entries (execution_outcome box.test x)) box k inside left group rest rest_is (λ x is takes. absurd (none x is takes)) seen,
  )

  pub all_seen : (entries : List Entry) (left : EventSet) → ((w : ℕ) → ¬ HasEvent left w) → k < length (byte_reads (box_events box))
      → IsSeen box k entries left → HasEachOutcome box entries
  all_seen entries left none inside seen = all_seen_by (λ x. HasOutcome entries (execution_outcome box.test x)) box k inside left none seen

-- ---- one part more, by the sources that store the same as one
module _ (laws : Laws) (box : Box) (entered : IsBox box) (sound : AreEventsIn box.test.bytes (box_events box)) (k : ℕ)
    (inside : k < length (byte_reads (box_events box))) (observed : IsObservedAt box k) (source : ℕ) (group : EventSet)
    (matching : (w : ℕ) → HasEvent group w ↔ (HasSource box k w × (stored_for box k w ≡ stored_for box k source)))
    (domains : List EventSet) (restricted : IsRestricted box k group (box_with (box.test, box.combination) domains)) where
  pub part_adds : (mid new : List Entry) → AddsEntries (box_with (box.test, box.combination) domains) mid new → AddsEntries box mid new
  part_adds =
      adds_out (box_with (box.test, box.combination) domains) box
      (least_out laws box entered sound k inside observed source group matching domains restricted)

  pub seen_part : (old mid new : List Entry) (left rest : EventSet) → ((w : ℕ) → HasEvent rest w ↔ (HasEvent left w × ¬ HasEvent group w))
      → AddsEntries box old mid → IsSeen box k mid left → AddsEntries (box_with (box.test, box.combination) domains) mid new
      → HasEachOutcome (box_with (box.test, box.combination) domains) new → AddsEntries box old new × IsSeen box k new rest
  seen_part old mid new left rest rest_is added seen adds whole = (
    adds_more box old mid new added (part_adds mid new adds),
    seen_more (λ x. HasOutcome new (execution_outcome box.test x)) box k inside left group rest rest_is (λ x is takes. whole x (restricted.retained x is takes))
        (seen_stays box k mid new left (λ outcome. adds_stays box mid new outcome (part_adds mid new adds)) seen),
  )

-- ---- the group of the sources that store the same as one
pub same_stores_among : (box : Box) (k source : ℕ) (all group : EventSet) → ((w : ℕ) → HasEvent all w ↔ HasSource box k w)
    → ((w : ℕ) → HasEvent group w ↔ (HasEvent all w × (stored_for box k w ≡ stored_for box k source)))
    → (w : ℕ) → HasEvent group w ↔ (HasSource box k w × (stored_for box k w ≡ stored_for box k source))
same_stores_among box k source all group all_is group_is w = grind arith

-- a byte read whose sources store several bytes is one of the combination's
pub undecided_known : (box : Box) (k : ℕ) → IsUndecidedAt box k → k < length (byte_reads (box_events box))
undecided_known box k undecided = slice_get_within (byte_reads (box_events box)) k (undecided.read, undecided.byte) undecided.is_read

-- it lacks some source of a byte read that is undecided
pub some_differ : (box : Box) (k source : ℕ) (group : EventSet) → k < length (byte_reads (box_events box)) → IsUndecidedAt box k → HasSource box k source
    → ((w : ℕ) → HasEvent group w ↔ (HasSource box k w × (stored_for box k w ≡ stored_for box k source)))
    → ¬ ((w : ℕ) → HasSource box k w → HasEvent group w)
some_differ box k source group inside undecided there matching =
    let branch : Branch = record { place = k; by_value = true } in
    not_all box branch (record { known = inside; several = undecided }) source there group (λ w h. ((matching w).0 h).1)
