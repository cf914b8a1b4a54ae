-- Data races of completions, by what a box gives.
use Rattle.lit_solve.proofs.Words.{ap, AreCoherentSources, AreSourcesIn, Box, box_events, byte_reads, CanFillFrom, CanRaceIn, Event}
use Rattle.lit_solve.proofs.Words.{event_at, Execution, execution_events, HappensBefore, HappensBeforeIn, HasDataRace, HasDataRaceOf-wider}
use Rattle.lit_solve.proofs.Words.{HasSolution, HasSourceOf, inl, inr, IsBox, IsCompletion, IsFilled, IsLeaf, IsOrderedIn, Laws, LieOn, List, MayRaceIn}
use Rattle.lit_solve.proofs.Words.{Race, ReadsFrom, slice_get, Some, subst, sym, WriteOneByte, ℕ, ◌∙◌, ◌≡◌, ◌⊎◌}
use Rattle.lit_solve.proofs.CompletionLemmas.{events_same}
use Rattle.lit_solve.proofs.FillLemmas.{before_back, completion_of_filled, filled_by, grows_in, no_cycle_given, order_given, sources_lie, unwritten_true}
use Rattle.lit_solve.proofs.TogetherLemmas.{on_read, replaced, replaced_fill, replaced_lie, replaced_own}

module _ (box : Box) (laws : Laws) (entered : IsBox box) where
  abbrev events : List Event
  events = box_events box

  -- a completion's data race is one by what is given
  pub race_given : (x : Execution) → IsCompletion box x → HasDataRace (execution_events box.test x) x.sources → CanRaceIn box
  race_given x is race =
      HasDataRaceOf-wider events (HappensBefore events x.sources) (HappensBeforeIn box) (ReadsFrom events x.sources) (CanFillFrom box)
      (grows_in box x.sources (sources_lie box x is)).happens_before
      (λ r w reads. record {
        place = reads.1.0;
        byte = reads.0;
        is_read = reads.1.1;
        sources = x.sources;
        lie = sources_lie box x is;
        takes = reads.1.2;
        filled = filled_by box x is laws entered r;
      })
      (subst (λ (es : List Event). HasDataRace es x.sources) (events_same box x is) race)

  -- all that any sources order, its own order
  pub race_unordered : (x : Execution) → IsCompletion box x → HasDataRace (execution_events box.test x) x.sources → MayRaceIn box
  race_unordered x is race =
      HasDataRaceOf-wider events (HappensBefore events x.sources) (IsOrderedIn box) (ReadsFrom events x.sources) (HasSourceOf box)
      (λ e d ordered. ordered x.sources (sources_lie box x is))
      (λ r w reads. record { place = reads.1.0; byte = reads.0; is_read = reads.1.1; there = is.within reads.1.0 w reads.1.2 })
      (subst (λ (es : List Event). HasDataRace es x.sources) (events_same box x is) race)

  -- ---- in a leaf that has a completion
  module _ (leaf : IsLeaf box) (coherent : AreCoherentSources box) (x : Execution) (is : IsCompletion box x) where
    -- another takes the sources of one read from elsewhere
    module _ (r : ℕ) (others : List ℕ) (lie : AreSourcesIn box others) (filled : IsFilled box r others) where
      own_lie : LieOn box r others
      own_lie = on_read box r others lie

      with_fill : (y : Execution) × IsCompletion box y × (y.sources ≡ replaced box (laws.of_events events) r others x.sources own_lie (sources_lie box x is))
      with_fill =
          completion_of_filled box (replaced box (laws.of_events events) r others x.sources own_lie (sources_lie box x is))
          (replaced_lie box (laws.of_events events) r others x.sources own_lie (sources_lie box x is)) leaf laws entered
          coherent (no_cycle_given box x is)
          (replaced_fill box (laws.of_events events) r others x.sources own_lie (sources_lie box x is) filled (λ q known. filled_by box x is laws entered q))
          (unwritten_true box x is laws entered) (order_given box x is)

      reads_as_well : (k b w : ℕ) → slice_get (byte_reads events) k ≡ Some (r, b) → slice_get others k ≡ Some w → ReadsFrom events with_fill.0.sources r w
      reads_as_well k b w at takes = (
        b,
        (
          k,
          at,
          ap (λ (ws : List ℕ). slice_get ws k) with_fill.2
              ∙ replaced_own box (laws.of_events events) r others x.sources own_lie (sources_lie box x is) k b at ∙ takes,
        ),
      )

    -- two events that race by what is given do so in each completion in which they conflict
    raced : (h : CanRaceIn box) (y : Execution) → IsCompletion box y
        → (WriteOneByte (event_at events h.first) (event_at events h.second) ⊎ ReadsFrom events y.sources h.first h.second
        ⊎ ReadsFrom events y.sources h.second h.first)
        → HasSolution box Race
    raced h y it conflict =
        let race = h.is_race in
        let found : HasDataRace events y.sources = record {
          first = h.first;
          second = h.second;
          is_race = record {
            first_known = race.first_known;
            second_known = race.second_known;
            distinct = race.distinct;
            not_before = λ b. race.not_before (before_back box y.sources (sources_lie box y it) leaf h.first h.second b);
            not_after = λ b. race.not_after (before_back box y.sources (sources_lie box y it) leaf h.second h.first b);
            conflict = conflict;
            unguarded = race.unguarded;
          };
        } in
        (y, record { completes = it; meets = subst (λ (es : List Event). HasDataRace es y.sources) (sym (events_same box y it)) found })

    pub race_found : CanRaceIn box → HasSolution box Race
    race_found h = by h.is_race.conflict
      where
        by : (WriteOneByte (event_at events h.first) (event_at events h.second) ⊎ CanFillFrom box h.first h.second ⊎ CanFillFrom box h.second h.first)
            → HasSolution box Race
        by (inl writes) = raced h x is (inl writes)
        by (inr (inl can)) =
            let found = with_fill h.first can.sources can.lie can.filled in
            raced h found.0 found.1 (inr (inl (reads_as_well h.first can.sources can.lie can.filled can.place can.byte h.second can.is_read can.takes)))
        by (inr (inr can)) =
            let found = with_fill h.second can.sources can.lie can.filled in
            raced h found.0 found.1 (inr (inr (reads_as_well h.second can.sources can.lie can.filled can.place can.byte h.first can.is_read can.takes)))
