-- Leaves: any sources that lie in one have the relations of what it gives. So they are those of a completion exactly if they fill each
-- read and there is an order of what is given.
use Rattle.lit_solve.proofs.Words.{◌+◌, ◌<◌, AreCoherentSources, AreSourcesIn, arith, between_by, Box, box_events, byte_reads}
use Rattle.lit_solve.proofs.Words.{CanSynchronize, Chain-same, coherent_read_by, does_write, Event, event_at, example, example_paths}
use Rattle.lit_solve.proofs.Words.{example_valid, Execution, first_event, GivenIn, Grows, Grows-from, HappensBefore, HappensBeforeBy}
use Rattle.lit_solve.proofs.Words.{HappensBeforeIn, HasAlone, HasEffect, HasFalseGuardOn, HasOrder, HasSource, HasTearFreeReads, inl, inr}
use Rattle.lit_solve.proofs.Words.{IsBox, IsBroken, IsCandidate, IsCompletion, IsFilled, IsForbidden, IsForbiddenBetween, IsForbiddenBy}
use Rattle.lit_solve.proofs.Words.{IsForbiddenIn, IsIdle, IsLeaf, IsMemoryOrder, IsOnCombination, IsOrderOf, IsOrderOf-same, IsTrue}
use Rattle.lit_solve.proofs.Words.{IsWalkIn, Laws, length, List, None, none-some, number_on, Option, ReadsByteFrom, refl, same_Some}
use Rattle.lit_solve.proofs.Words.{slice_get_within, Some, StepBy, subst, sym, SynchronizesBy, walk_in, ℕ, ◌≡◌, ◌≢◌, ◌⊎◌}
use Rattle.lit_solve.proofs.CompletionLemmas.{all_given, events_same, order_here, part_of, sourced, takes_given, whole}

-- ---- what has an effect
-- a source that writes, and can synchronize with its read
effect_synchronized : (events : List Event) (w r : ℕ) → IsTrue (does_write (event_at events w).kind) → w ≢ r
    → CanSynchronize (event_at events w) (event_at events r) → HasEffect events w r
effect_synchronized events w r writes other can = grind arith

-- a source and its read, between which some event may not stand
effect_between : (events : List Event) (before : ℕ → ℕ → Type 0) (w r v : ℕ) → IsForbiddenBetween events before w r v → HasEffect events w r
effect_between events before w r v between = grind arith

-- ---- sources of byte reads, of which those that are not given have no effect: they add nothing
module _ (box : Box) (from : ℕ → ℕ → ℕ → Type 0) (candidate : (r b w : ℕ) → from r b w → IsCandidate (box_events box) r b w)
    (given_or_idle : (r b w : ℕ) → from r b w → GivenIn box r b w ⊎ ¬ HasEffect (box_events box) w r) where
  synchronizes_added : (w r : ℕ) → SynchronizesBy (box_events box) from w r → SynchronizesBy (box_events box) (GivenIn box) w r
  synchronizes_added w r s =
      let is = candidate r s.reads.0 w s.reads.1 in record {
        reads = elim (given_or_idle r s.reads.0 w s.reads.1) [
          | inl given ↦ (s.reads.0, given)
          | inr idle ↦ absurd (idle (effect_synchronized (box_events box) w r is.writes is.other s.can))
        ];
        can = s.can;
      }

  step_added : (e d : ℕ) → StepBy (box_events box) from e d → StepBy (box_events box) (GivenIn box) e d
  step_added e d h = elim h [ inl order ↦ inl order | inr rest ↦ inr (elim rest [ inl s ↦ inl (synchronizes_added e d s) | inr made ↦ inr made ]) ]

  pub before_added : (e d : ℕ) → HappensBeforeBy (box_events box) from e d → HappensBeforeIn box e d
  before_added e d h = record {
    middles = h.middles;
    chain = Chain-same (StepBy (box_events box) from) (StepBy (box_events box) (GivenIn box)) step_added e h.middles d h.chain;
  }

  pub forbidden_added : (w r v : ℕ) → IsForbiddenBy (box_events box) from w r v → IsForbiddenIn box w r v
  forbidden_added w r v f =
      let between = between_by (box_events box) (HappensBeforeBy (box_events box) from) (HappensBeforeIn box) before_added w r v f.between in record {
        reads = elim (given_or_idle r f.reads.0 w f.reads.1) [
          | inl given ↦ (f.reads.0, given)
          | inr idle ↦ absurd (idle (effect_between (box_events box) (HappensBeforeIn box) w r v between))
        ];
        between = between;
      }

-- ---- sources that lie in a box
module _ (box : Box) (sources : List ℕ) (lie : AreSourcesIn box sources) where
  abbrev events : List Event
  events = box_events box

  abbrev from : ℕ → ℕ → ℕ → Type 0
  from = ReadsByteFrom events sources

  pub grows_in : Grows events (GivenIn box) (ReadsByteFrom events sources)
  grows_in = Grows-from events (GivenIn box) from (takes_given box sources lie.sourced lie.within)

  -- so an order of theirs is one of what is given
  pub order_in : (order : List ℕ) → IsMemoryOrder events sources order → IsOrderOf (length events) (HappensBeforeIn box) (IsForbiddenIn box) order
  order_in order o =
      IsOrderOf-same (length events) (length events) (HappensBefore events sources) (HappensBeforeIn box) (IsForbidden events sources)
      (IsForbiddenIn box) refl grows_in.happens_before grows_in.forbidden order o

  -- ---- in a leaf they add nothing
  module _ (leaf : IsLeaf box) where
    -- a source is given, or has no effect
    given_or_idle : (r b w : ℕ) → from r b w → GivenIn box r b w ⊎ ¬ HasEffect events w r
    given_or_idle r b w f = by (leaf f.0 (slice_get_within (byte_reads events) f.0 (r, b) f.1))
      where
        there : HasSource box f.0 w
        there = lie.within f.0 w f.2

        by : ((u : ℕ) × HasAlone box f.0 u) ⊎ IsIdle box f.0 → GivenIn box r b w ⊎ ¬ HasEffect events w r
        by (inl one) = inl record {
          place = f.0;
          is_read = f.1;
          alone = subst (λ (u : ℕ). HasAlone box f.0 u) (sym (one.1.alone w there)) one.1;
        }
        by (inr idle) = inr (idle r b w f.1 there)

    candidate_of : (r b w : ℕ) → from r b w → IsCandidate events r b w
    candidate_of r b w f = lie.sourced.each f.0 r b w f.1 f.2

    pub before_back : (e d : ℕ) → HappensBefore events sources e d → HappensBeforeIn box e d
    before_back = before_added box from candidate_of given_or_idle

    pub forbidden_back : (w r v : ℕ) → IsForbidden events sources w r v → IsForbiddenIn box w r v
    forbidden_back = forbidden_added box from candidate_of given_or_idle

    -- an order of what is given is one of theirs
    pub order_back_in : (order : List ℕ) → IsOrderOf (length events) (HappensBeforeIn box) (IsForbiddenIn box) order → IsMemoryOrder events sources order
    order_back_in order o = grind (arith, IsOrderOf-same, before_back, forbidden_back)

    -- ---- sources that fill each read are a completion's
    module _ (laws : Laws) (entered : IsBox box) (coherent : AreCoherentSources box) (no_cycle : (e : ℕ) → ¬ HappensBeforeIn box e e)
        (filled : (r : ℕ) → r < length (box_events box) → IsFilled box r sources) (unwritten : ¬ HasFalseGuardOn box.test box.combination None 0) where
      read_known : (r b w : ℕ) → from r b w → r < length events
      read_known r b w f = (laws.of_events events).known f.0 r b f.1

      -- a guard is on an event of the combination
      guarded_known : (r value : ℕ) → HasFalseGuardOn box.test box.combination (Some r) value → r < length events
      guarded_known r value bad = by bad.test.on refl bad.asks
        where
          walk : IsWalkIn box.test box.combination bad.agent (walk_in box.test box.combination bad.agent)
          walk = laws.walked box.test box.combination bad.agent entered.litmus entered.known bad.known

          by : (on : Option ℕ) → bad.test.on ≡ on → number_on (first_event box.test box.combination bad.agent) on ≡ Some r → r < length events
          by None is asks = absurd (none-some r asks)
          by (Some place) is asks =
              let same : first_event box.test box.combination bad.agent + place ≡ r = same_Some
              (first_event box.test box.combination bad.agent + place) r asks in
              omega (arith, same, (walk.guards_reads bad.place place bad.test bad.at_place is).0, walk.within)

      not_broken_in : ¬ IsBroken (part_of box sources)
      not_broken_in (inl (inl cycle)) = no_cycle cycle.0 (before_back cycle.0 cycle.0 cycle.1)
      not_broken_in (inl (inr (inl bad))) =
          bad.incoherent (coherent_read_by events (HappensBeforeIn box) (HappensBefore events sources) before_back bad.read bad.byte bad.source
          (coherent bad.is_given.0 bad.read bad.byte bad.source bad.is_given.1 (lie.within bad.is_given.0 bad.source bad.is_given.2)))
      not_broken_in (inl (inr (inr torn))) =
          torn.two_sources ((filled torn.read (read_known torn.read torn.first.reads.0 torn.source torn.first.reads.1)).tear_free torn.source
          torn.other torn.first torn.second)
      not_broken_in (inr (inl bad)) = unwritten bad
      not_broken_in (inr (inr (r, given, bad))) = (filled r (guarded_known r _ bad)).guards bad

      pub completion_of_filled : HasOrder (length events) (HappensBeforeIn box) (IsForbiddenIn box)
          → (x : Execution) × IsCompletion box x × (x.sources ≡ sources)
      completion_of_filled ordered =
          let known : IsOnCombination (part_of box sources) = record { litmus = entered.litmus; known = entered.known } in (
            example (part_of box sources) known laws lie.sourced not_broken_in,
            record {
              valid = example_valid (part_of box sources) known laws lie.sourced not_broken_in ordered.0 (order_back_in ordered.0 ordered.1);
              on_paths = example_paths (part_of box sources) known laws lie.sourced not_broken_in;
              within = lie.within;
            },
            refl,
          )

-- ---- completions of a box
module _ (box : Box) (x : Execution) (is : IsCompletion box x) where
  abbrev its : List Event
  its = box_events box

  -- its sources lie there
  pub sources_lie : AreSourcesIn box x.sources
  sources_lie = record { sourced = sourced box x is; within = is.within }

  pub no_cycle_given : (e : ℕ) → ¬ HappensBeforeIn box e e
  no_cycle_given e h =
      subst (λ (es : List Event). (d : ℕ) → ¬ HappensBefore es x.sources d d) (events_same box x is) is.valid.no_cycle e
      ((grows_in box x.sources sources_lie).happens_before e e h)

  pub order_given : HasOrder (length its) (HappensBeforeIn box) (IsForbiddenIn box)
  order_given = (is.valid.ordered.0, order_in box x.sources sources_lie is.valid.ordered.0 (order_here box x is is.valid.ordered.0 is.valid.ordered.1))

  module _ (laws : Laws) (entered : IsBox box) where
    -- it fills each read
    pub filled_by : (r : ℕ) → IsFilled box r x.sources
    filled_by r = record {
      tear_free =
          λ w v first second. subst (λ (es : List Event). HasTearFreeReads es x.sources) (events_same box x is) is.valid.tear_free_reads r w v first
          second;
      guards = λ bad. whole box x is laws entered (inr (inr (r, all_given box x is r, bad)));
    }

    pub unwritten_true : ¬ HasFalseGuardOn box.test box.combination None 0
    unwritten_true bad = whole box x is laws entered (inr (inl bad))
