-- Completions of a box take what it gives, respect what it forces, and have no source that it prunes.
use Rattle.lit_solve.proofs.Words.{◌<◌, [], ap, AreEventsIn, AreOfEvents, AreSources, arith, between_by, Box, box_events, byte_read_at, byte_reads}
use Rattle.lit_solve.proofs.Words.{coherent_read_by, Completes, Event, Execution, execution_events, get_or, Given, GivenIn, Grows}
use Rattle.lit_solve.proofs.Words.{Grows-from, HappensBefore, HappensBeforeIn, HasCoherentReads, HasSource, HasTearFreeReads, inl, inr, IsBox}
use Rattle.lit_solve.proofs.Words.{IsBroken, IsCoherentRead, IsCompletion, IsForbidden, IsForbiddenIn, IsForced-grow, IsForcedIn, IsGivenWhole}
use Rattle.lit_solve.proofs.Words.{IsMemoryOrder, IsOrderedIn, IsPrunable, IsRefuted, Laws, length, LiesIn, List, never_before_itself, not_broken}
use Rattle.lit_solve.proofs.Words.{PartModel, ReadsByteFrom, ReadsWholeBy, RefusedBytesMakeFalse, respects_forced, slice_get}
use Rattle.lit_solve.proofs.Words.{slice_get-get_or, slice_get_within, Some, StandsBefore, StandsBefore-through, subst, sym, triples_below}
use Rattle.lit_solve.proofs.Words.{ℕ, ◌∙◌, ◌≡◌}
use Rattle.std.proofs.Common.{append-nil}
use Rattle.lit_paths.proofs.ChoiceLists.{execution-sources}
use Rattle.lit_valid.proofs.CompletionLemmas.{its_events}

-- the box's combination with these sources
abbrev pub part_of : Box → List ℕ → PartModel
part_of box sources = record { test = box.test; combination = box.combination; sources = sources }

-- sources that lie in the box take what is given
pub takes_given : (box : Box) (sources : List ℕ) → AreSources (box_events box) sources → LiesIn box sources → (r b w : ℕ) → GivenIn box r b
    w
    → ReadsByteFrom (box_events box) sources r b w
takes_given box sources sourced lies r b w g =
    let inside : g.place < length sources =
    omega (arith, sourced.one_each, slice_get_within (byte_reads (box_events box)) g.place (r, b) g.is_read) in
    let there : slice_get sources g.place ≡ Some (get_or sources g.place 0) = slice_get-get_or sources g.place 0 inside in (
      g.place,
      g.is_read,
      there ∙ ap (λ (v : ℕ). Some v) (g.alone.alone (get_or sources g.place 0) (lies g.place (get_or sources g.place 0)
          there)),
    )

module _ (box : Box) (x : Execution) (is : IsCompletion box x) where
  abbrev events : List Event
  events = box_events box

  pub completes : Completes (part_of box x.sources) x
  completes = record { valid = is.valid; on_paths = is.on_paths; rest = []; begun = sym (append-nil x.sources) }

  pub events_same : execution_events box.test x ≡ events
  events_same = its_events (part_of box x.sources) x completes

  pub sourced : AreSources events x.sources
  sourced = subst (λ (es : List Event). AreSources es x.sources) events_same (execution-sources box.test x is.valid.candidate)

  -- it takes what is given
  pub given_taken : (r b w : ℕ) → GivenIn box r b w → ReadsByteFrom events x.sources r b w
  given_taken = takes_given box x.sources sourced is.within

  grows : Grows events (GivenIn box) (ReadsByteFrom events x.sources)
  grows = Grows-from events (GivenIn box) (ReadsByteFrom events x.sources) given_taken

  pub all_given : (r : ℕ) → IsGivenWhole events x.sources r
  all_given r i b at = omega (arith, sourced.one_each, slice_get_within (byte_reads events) i (r, b) at)

  pub order_here : (order : List ℕ) → IsMemoryOrder (execution_events box.test x) x.sources order → IsMemoryOrder events x.sources order
  order_here order o = subst (λ (es : List Event). IsMemoryOrder es x.sources order) events_same o

  -- its memory-orders respect what is forced
  pub forced_respected : AreOfEvents events → (order : List ℕ) → IsMemoryOrder events x.sources order → (a d : ℕ) → IsForcedIn box a d → StandsBefore order a d
  forced_respected of_events order o a d f =
      respects_forced (length events) (HappensBefore events x.sources) (IsForbidden events x.sources)
      (triples_below (part_of box x.sources) sourced.each of_events) order o a d
      (IsForced-grow (HappensBeforeIn box) (HappensBefore events x.sources) (IsForbiddenIn box) (IsForbidden events x.sources)
      (λ y z h. Given (grows.happens_before y z h)) grows.forbidden a d f)

  coherent : HasCoherentReads events x.sources
  coherent = subst (λ (es : List Event). HasCoherentReads es x.sources) events_same is.valid.coherent_reads

  tear_free : HasTearFreeReads events x.sources
  tear_free = subst (λ (es : List Event). HasTearFreeReads es x.sources) events_same is.valid.tear_free_reads

  abbrev its_order : List ℕ
  its_order = is.valid.ordered.0

  -- what all sources order, it orders too; so some source of each byte read is coherent by that
  pub coherent_by_order : (before : ℕ → ℕ → Type 0) → ((e d : ℕ) → before e d → IsOrderedIn box e d) → (k : ℕ) → k < length (byte_reads events)
      → ((w : ℕ) → HasSource box k w → ¬ IsCoherentRead events before (byte_read_at events k).0 (byte_read_at events k).1 w) → ⊥
  coherent_by_order before within k inside none =
      let read = byte_read_at events k in
      let long : k < length x.sources = omega (arith, sourced.one_each, inside) in
      let w = get_or x.sources k 0 in
      let takes : slice_get x.sources k ≡ Some w = slice_get-get_or x.sources k 0 long in
      none w (is.within k w takes)
      (coherent_read_by events (HappensBefore events x.sources) before
      (λ e d h. within e d h x.sources (record { sourced = sourced; within = is.within })) read.0 read.1 w
      (coherent read.0 read.1 w (k, slice_get-get_or (byte_reads events) k (0, 0) inside, takes)))

  module _ (laws : Laws) (entered : IsBox box) where
    ordered : IsMemoryOrder events x.sources its_order
    ordered = order_here its_order is.valid.ordered.1

    stands : (a d : ℕ) → IsForcedIn box a d → StandsBefore its_order a d
    stands = forced_respected (laws.of_events events) its_order ordered

    pub no_cycle_by_order : (e : ℕ) → IsOrderedIn box e e → ⊥
    no_cycle_by_order e cycle =
        never_before_itself its_order ordered.complete.once e
        (ordered.keeps e e (cycle x.sources (record { sourced = sourced; within = is.within })))

    pub whole : ¬ IsBroken (part_of box x.sources)
    whole = not_broken (part_of box x.sources) x completes laws laws.grow laws.stay (record { litmus = entered.litmus; known = entered.known })

    -- it has no source that can be pruned
    pub not_prunable : RefusedBytesMakeFalse → AreEventsIn box.test.bytes events → (k r b w : ℕ) → slice_get (byte_reads events) k ≡ Some (r, b)
        → slice_get x.sources k ≡ Some w → IsPrunable box r b w → ⊥
    not_prunable false_of sound k r b w is_read source (inl refused) =
        whole (inr (false_of (part_of box x.sources) r b w sound sourced.one_each (k, is_read, source) refused))
    not_prunable false_of sound k r b w is_read source (inr (inl incoherent)) =
        incoherent (coherent_read_by events (HappensBefore events x.sources) (HappensBeforeIn box) grows.happens_before r b w
        (coherent r b w (k, is_read, source)))
    not_prunable false_of sound k r b w is_read source (inr (inr (inl later))) =
        let synchronized : HappensBefore events x.sources w
        r = record { middles = []; chain = inr (inl record { reads = (b, (k, is_read, source)); can = later.can }) } in
        never_before_itself its_order ordered.complete.once w
        (StandsBefore-through its_order ordered.complete.once w r w (ordered.keeps w r synchronized) (stands r w later.later))
    not_prunable false_of sound k r b w is_read source (inr (inr (inr (inl (v, between))))) =
        ordered.avoids w r v record {
          reads = (b, (k, is_read, source));
          between = between_by events (HappensBeforeIn box) (HappensBefore events x.sources) grows.happens_before w r v between.between;
        } (stands w v between.after_source) (stands v r between.before_read)
    not_prunable false_of sound k r b w is_read source (inr (inr (inr (inr tears)))) =
        tears.other (tear_free r w tears.source (record { reads = (b, (k, is_read, source)); can = tears.can })
        (record { reads = (tears.byte, given_taken r tears.byte tears.source tears.is_given); can = tears.can_other }))

    -- the box is not refuted
    pub not_refuted : IsRefuted box → ⊥
    not_refuted (inl (e, cycle)) = never_before_itself its_order ordered.complete.once e (stands e e cycle)
    not_refuted (inr (inl (k, inside, none))) =
        let here : k < length x.sources = omega (arith, sourced.one_each, inside) in
        none (get_or x.sources k 0) (is.within k (get_or x.sources k 0) (slice_get-get_or x.sources k 0 here))
    not_refuted (inr (inr (inl torn))) =
        torn.two_sources (tear_free torn.read torn.source torn.other (taken torn.read torn.source torn.first) (taken torn.read torn.other torn.second))
      where
        taken : (r w : ℕ) → ReadsWholeBy events (GivenIn box) r w → ReadsWholeBy events (ReadsByteFrom events x.sources) r w
        taken r w reads = record { reads = (reads.reads.0, given_taken r reads.reads.0 w reads.reads.1); can = reads.can }
    not_refuted (inr (inr (inr (inl unwritten)))) = whole (inr (inl unwritten))
    not_refuted (inr (inr (inr (inr (r, given, is_false))))) = whole (inr (inr (r, all_given r, is_false x.sources sourced is.within)))
