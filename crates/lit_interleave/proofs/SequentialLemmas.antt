-- Each read takes what was written last: such an execution is valid.
use Rattle.lit_interleave.proofs.Words.{◌<◌, [], ap, AreOfEvents, AreSources, arith, cases_order, Chain, Event, event_at, Execution}
use Rattle.lit_interleave.proofs.Words.{execution_events, HappensBefore, HasByte, HasCoherentReads, HasSameRange, HasTearFreeReads}
use Rattle.lit_interleave.proofs.Words.{HasValidChosenReads, inl, inr, IsAfterSource, IsBeforeRead, IsBetweenSynchronized}
use Rattle.lit_interleave.proofs.Words.{IsCandidateExecution, IsListOfAll, IsMemoryOrder, IsSequential, IsValidExecution, length, List}
use Rattle.lit_interleave.proofs.Words.{Litmus, ReadsByteFrom, same_Some, slice_get, StandsBefore, StepBy, sym, ℕ, ◌∙◌, ◌∷◌, ◌≡◌, ◌⊎◌}
use Rattle.lit_paths.proofs.ChoiceLists.{execution-sources}

-- ---- places in a list of all events
module _ (n : ℕ) (order : List ℕ) (whole : IsListOfAll n order) where
  pub not_itself : (e : ℕ) → ¬ StandsBefore order e e
  not_itself e s = omega (arith, s.earlier, whole.once s.first s.second e s.first_is s.second_is)

  pub onward : (a m d : ℕ) → StandsBefore order a m → StandsBefore order m d → StandsBefore order a d
  onward a m d p q = record {
    first = p.first;
    second = q.second;
    earlier = omega (arith, p.earlier, q.earlier, whole.once p.second q.first m p.second_is q.first_is);
    first_is = p.first_is;
    second_is = q.second_is;
  }

  pub one_first : (a d : ℕ) → a < n → d < n → (a ≡ d) ⊎ (StandsBefore order a d ⊎ StandsBefore order d a)
  one_first a d p q =
      let k = whole.all a p in
      let l = whole.all d q in
      elim (cases_order k.0 l.0) [
        | inl same ↦ inl (same_Some a d (sym k.1 ∙ ap (slice_get order) same ∙ l.1))
        | inr apart ↦ inr (elim apart [
          | inl lt ↦ inl (record { first = k.0; second = l.0; earlier = lt; first_is = k.1; second_is = l.1 })
          | inr lt ↦ inr (record { first = l.0; second = k.0; earlier = lt; first_is = l.1; second_is = k.1 })
        ])
      ]

module _ (events : List Event) (sources order : List ℕ) (sourced : AreSources events sources) (of : AreOfEvents events) (is : IsSequential events sources order) where
  -- ---- what happens before stands before
  step_stands : (e d : ℕ) → StepBy events (ReadsByteFrom events sources) e d → StandsBefore order e d
  step_stands e d (inl ordered) = is.agents e d ordered
  step_stands e d (inr (inl s)) = (is.reads d s.reads.0 e s.reads.1).earlier
  step_stands e d (inr (inr made)) = is.makes e d made

  chain_stands : (e : ℕ) (middles : List ℕ) (d : ℕ) → Chain (StepBy events (ReadsByteFrom events sources)) e middles d → StandsBefore order e d
  chain_stands e [] d chain = step_stands e d chain
  chain_stands e (m ∷ middles) d chain = onward (length events) order is.complete e m d (step_stands e m chain.0) (chain_stands m middles d chain.1)

  stands : (e d : ℕ) → HappensBefore events sources e d → StandsBefore order e d
  stands e d h = chain_stands e h.middles d h.chain

  pub no_cycle : (e : ℕ) → ¬ HappensBefore events sources e e
  no_cycle e h = not_itself (length events) order is.complete e (stands e e h)

  -- ---- the bytes read
  pub coherent : HasCoherentReads events sources
  coherent r b w reads = record {
    not_later = λ before. not_itself (length events) order is.complete r (onward (length events) order is.complete r w r (stands r w before) (is.reads r b w reads).earlier);
    not_hidden = λ v hides. (is.reads r b w reads).last v hides.writes hides.in_range (stands w v hides.after_source) (stands v r hides.before_read);
  }

  other_has : (r b w v : ℕ) → ReadsByteFrom events sources r b w → HasSameRange (event_at events r) (event_at events v) → HasByte (event_at events v) b
  unfolding HasSameRange
  other_has r b w v reads same = (same b).0 (of.in_range reads.0 r b reads.1)

  pub tear_free : HasTearFreeReads events sources
  tear_free r w v first second =
      let other = sourced.each first.reads.1.0 r first.reads.0 w first.reads.1.1 first.reads.1.2 in
      let source = sourced.each second.reads.1.0 r second.reads.0 v second.reads.1.1 second.reads.1.2 in
      elim (one_first (length events) order is.complete v w source.known other.known) [
        | inl same ↦ same
        | inr apart ↦ elim apart [
          | inl before ↦ absurd ((is.reads r second.reads.0 v second.reads.1).last w other.writes
              (other_has r second.reads.0 v w second.reads.1 first.can.same_range) before
              (is.reads r first.reads.0 w first.reads.1).earlier)
          | inr before ↦ absurd ((is.reads r first.reads.0 w first.reads.1).last v source.writes
              (other_has r first.reads.0 w v first.reads.1 second.can.same_range) before
              (is.reads r second.reads.0 v second.reads.1).earlier)
        ]
      ]

  -- ---- the order is a memory-order
  in_pattern : (w r v b : ℕ) → ReadsByteFrom events sources r b w
      → IsBetweenSynchronized events w r v ⊎ IsAfterSource events (HappensBefore events sources) w r v ⊎ IsBeforeRead events (HappensBefore events sources) w r v → HasByte (event_at events v) b
  unfolding HasSameRange
  in_pattern w r v b reads (inl p) = (p.same_range b).1 (of.in_range reads.0 r b reads.1)
  in_pattern w r v b reads (inr (inl p)) = (p.same_range b).0 (sourced.each reads.0 r b w reads.1 reads.2).in_range
  in_pattern w r v b reads (inr (inr p)) = (p.same_range b).1 (of.in_range reads.0 r b reads.1)

  pub ordered : IsMemoryOrder events sources order
  ordered = record {
    complete = is.complete;
    keeps = stands;
    avoids = λ w r v f after before.
        (is.reads r f.reads.0 w f.reads.1).last v f.between.writes (in_pattern w r v f.reads.0 f.reads.1 f.between.pattern) after before;
  }

pub valid_in_order : ((events : List Event) → AreOfEvents events) → (t : Litmus) (x : Execution) (order : List ℕ) → IsCandidateExecution t x → HasValidChosenReads t x
    → IsSequential (execution_events t x) x.sources order → IsValidExecution t x × IsMemoryOrder (execution_events t x) x.sources order
valid_in_order of t x order candidate chosen is =
    let events = execution_events t x in
    let sourced = execution-sources t x candidate in
    let is_memory_order : IsMemoryOrder events x.sources order = ordered events x.sources order sourced (of events) is in (
      record {
        candidate = candidate;
        no_cycle = no_cycle events x.sources order sourced (of events) is;
        chosen_reads = chosen;
        coherent_reads = coherent events x.sources order sourced (of events) is;
        tear_free_reads = tear_free events x.sources order sourced (of events) is;
        ordered = (order, is_memory_order);
      },
      is_memory_order,
    )
