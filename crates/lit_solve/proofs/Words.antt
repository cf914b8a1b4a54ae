-- The words that the proofs of this crate speak in, of the library, of the crates below and of its own specs: passed on to all of them.
pub use Rattle.lit_order.specs.Forcing.{Given, IsForced, Through}
pub use Rattle.lit_order.specs.MemoryOrder.{HasOrder, IsLeastMemoryOrder, IsLeastOrderOf, IsMemoryOrder, IsOrderOf, StandsBefore}
pub use Rattle.lit_paths.specs.ByteReads.{byte_read_at, byte_reads, pair_of}
pub use Rattle.lit_paths.specs.Members.{IsCandidate, IsStatementWalk, IsWalk, AreSources, ListsChoices, ListsCandidates}
pub use Rattle.lit_paths.specs.Choice.{candidates_of, Choice, choices_of, combinations_of}
pub use Rattle.lit_paths.specs.Event.{does_read, does_write, event_at, no_event, payload_at}
pub use Rattle.lit_paths.specs.Execution.{Execution, execution_events, execution_outcome}
pub use Rattle.lit_paths.specs.Numbers.{AreNumbered, IsBegunBy, length_product, NumbersChoices, ways_from}
pub use Rattle.lit_paths.specs.Outcome.{asks as looks_at, holds, names_from, names_in, names_of, value_in}
pub use Rattle.lit_paths.specs.Path.{path_on, payload_of, Step}
pub use Rattle.lit_paths.specs.PathModel.{accesses_of, IsReadAt, last_read, last_read_from, reads_into}
pub use Rattle.lit_paths.specs.Plan.{AreEventsIn, choices_before, events_in, first_event, HasSources, IsOfCombination, IsWalkIn}
pub use Rattle.lit_paths.specs.Plan.{path_in, walk_in}
pub use Rattle.lit_paths.specs.declared.byte_reads.ByteRead.{ByteRead}
pub use Rattle.lit_paths.specs.declared.event.Event.{Event}
pub use Rattle.lit_paths.specs.declared.event.Order3.TheVariants.{SeqCst}
pub use Rattle.lit_paths.specs.declared.limits.TheConstants.{BYTE_READ_LIMIT, CHOICE_LIMIT, EVENT_LIMIT}
pub use Rattle.lit_syntax.specs.Litmus.{condition_of}
pub use Rattle.lit_syntax.specs.Syntax.{Agent, agent_of, CompareExchange, Condition, End, Exchange, If, Is, IsLitmus, Litmus, Load}
pub use Rattle.lit_syntax.specs.Syntax.{Statement, statement_writes, Statements, Store, Then, writes}
pub use Rattle.lit_syntax.specs.declared.limits.TheConstants.{REGISTERS}
pub use Rattle.lit_syntax.specs.declared.syntax.Cond.{Cond}
pub use Rattle.lit_rel.specs.Between.{Forbids}
pub use Rattle.lit_rel.specs.Broken.{HasFalseGuardOn, IsBroken, number_on}
pub use Rattle.lit_rel.specs.Coherent.{HasCoherentReads, IsCoherentRead}
pub use Rattle.lit_rel.specs.DataRace.{HasDataRace, HasDataRaceOf, WriteOneByte}
pub use Rattle.lit_rel.specs.EventSet.{HasEvent, IsSplit, no_events}
pub use Rattle.lit_rel.specs.Forbidden.{IsForbidden, IsForbiddenBetween}
pub use Rattle.lit_rel.specs.Growth.{IsForbiddenBy, Grows, IsGivenWhole}
pub use Rattle.lit_rel.specs.HappensBefore.{Chain, HappensBefore, HappensBeforeBy, StepBy}
pub use Rattle.lit_rel.specs.ByteReadList.{AreOfEvents}
pub use Rattle.lit_rel.specs.Internal.Given.{AreFirstReads, read_of}
pub use Rattle.lit_rel.specs.Part.{PartModel}
pub use Rattle.lit_rel.specs.Peers.{ArePeers, IsPeer}
pub use Rattle.lit_rel.specs.Racing.{AreApart, HasApartPair, WritesWith}
pub use Rattle.lit_rel.specs.ReadsFrom.{composed, ReadsByteFrom, ReadsFrom, value_of}
pub use Rattle.lit_rel.specs.Rows.{Holds, IsTransitive, rows_len, WithPair}
pub use Rattle.lit_rel.specs.SynchronizesWith.{CanSynchronize, SynchronizesBy}
pub use Rattle.lit_rel.specs.TearFree.{CanReadWhole, HasTearFreeReads, ReadsWholeBy}
pub use Rattle.lit_rel.specs.GuardedBytes.{RefusedBytesMakeFalse}
pub use Rattle.lit_rel.specs.declared.event_set.EventSet.{EventSet}
pub use Rattle.lit_rel.specs.declared.given.SourcedByte.{SourcedByte}
pub use Rattle.lit_rel.specs.declared.rows.Rows.{Rows}
pub use Rattle.lit_rel.specs.declared.rows.two_way_rows.TwoWayRows.{TwoWayRows}
pub use Rattle.lit_valid.specs.Completion.{Completes, IsOnCombination}
pub use Rattle.lit_valid.specs.Entry.{Entry, HasOutcome}
pub use Rattle.lit_valid.specs.Laws.{Laws}
pub use Rattle.lit_valid.specs.PartOutcome.{observed_read, observed_value}
pub use Rattle.lit_solve.specs.Box.{Box, box_events, box_with, events_on, HasEmptyDomain, HasSource, IsBox, IsWithin, LiesIn}
pub use Rattle.lit_solve.specs.Boxes.{AreDomainsIn, boxes_events, boxes_len, BoxesModel, CutsRange, IsAbove, IsBelow, IsInBox, LiesInBox}
pub use Rattle.lit_solve.specs.Boxes.{parting_in}
pub use Rattle.lit_solve.specs.Completion.{HasSolution, IsCompletion, IsLeastSolution, IsSolution}
pub use Rattle.lit_solve.specs.Fill.{AreCoherentSources, AreSourcesIn, CanFill, HasEffect, IsFilled, IsIdle, IsLeaf}
pub use Rattle.lit_solve.specs.Given.{GivenIn, HappensBeforeIn, HasAlone, IsForbiddenIn, IsForcedIn}
pub use Rattle.lit_solve.specs.Goal.{MeetsGoal}
pub use Rattle.lit_solve.specs.Internal.ConditionValues.{IsByteDecided, IsDecided, IsProspect, IsReadDecided, stored_for}
pub use Rattle.lit_solve.specs.Internal.Cut.{AreEndSources, AreShared, end_sources, IsGreaterAt, IsHighEnd, IsLowEnd, IsRangeCut, IsSame}
pub use Rattle.lit_solve.specs.Internal.Cut.{IsSide}
pub use Rattle.lit_solve.specs.Internal.Descending.{AreAloneBelow, IsLowest, IsLowestAt, IsNotLeastAt}
pub use Rattle.lit_solve.specs.Internal.Filling.{bytes_taken, CanFillOn, CanFillWith, FillsBytes, HasRoom, IsFirstPlace, LieFrom, reads_on, TakesOn}
pub use Rattle.lit_solve.specs.Internal.Filling.{TakesWhole, WholeWith, WouldNotTear}
pub use Rattle.lit_solve.specs.Internal.Frames.{AreCoherentAt, box_of, IsContained, IsExact, IsForbiddenAt, IsProblem, IsSynchronizedAt}
pub use Rattle.lit_solve.specs.Internal.Independent.{FillsAll, FillsRead, IsLeastOrderOfEach, IsIndependent, IsLeastFilling}
pub use Rattle.lit_solve.specs.Internal.Independent.{IsNotGreaterOn, LieOn}
pub use Rattle.lit_solve.specs.Internal.Leaves.{CanFillAt, IsOrderOfBox, MayHave, RacesAt, RacesIn}
pub use Rattle.lit_solve.specs.Internal.Observation.{AreFirstValues, IsObservation, IsObservedAt, IsValueObserved, part_with}
pub use Rattle.lit_solve.specs.Internal.Numbering.{digit, digits_below, place_in, share_below}
pub use Rattle.lit_solve.specs.Internal.Product.{AgreeBeside, AreDistinct, AreOpenReads, AreValuesBeside, ChangesListed, HasEachBeside}
pub use Rattle.lit_solve.specs.Internal.Product.{IsChosen, IsListed, IsNumberWithout, IsOpenRead, IsValueBeside, Observes, shares_below}
pub use Rattle.lit_solve.specs.Internal.Pruning.{HasNoCompletion, Prunes, size_of}
pub use Rattle.lit_solve.specs.Internal.ReadValues.{AddsFillings, AreFillings, HasValue, HaveEachValue, IsFilling}
pub use Rattle.lit_solve.specs.Internal.Searching.{GoesWith, HasSolutionIn, IsBranch}
pub use Rattle.lit_solve.specs.Internal.Fixpoint.{IsRestricted, IsFixpoint, IsFixpointBelow, TakesFrom}
pub use Rattle.lit_solve.specs.Internal.SoundRange.{IsSoundRange}
pub use Rattle.lit_solve.specs.Outcomes.{AddsEntries, AreNewEntries, HasEachOutcome, IsLeastEntry}
pub use Rattle.lit_solve.specs.Prospect.{IsAskedAt, IsDecidedOn, IsOfRead, IsOutcomeProspect, IsUndecidedAt, IsValueOf, outcome_by}
pub use Rattle.lit_solve.specs.Prunable.{IsPrunable, IsRefusedOn, IsRefuted}
pub use Rattle.lit_solve.specs.declared.decided.Decided.{Decided}
pub use Rattle.lit_solve.specs.declared.filling.Taken.{Taken}
pub use Rattle.lit_solve.specs.declared.frame.Frame.{Frame}
pub use Rattle.lit_solve.specs.declared.goal.Goal.{Goal}
pub use Rattle.lit_solve.specs.declared.goal.Goal.TheVariants.{Any, OfClass, Race}
pub use Rattle.lit_solve.specs.declared.product.OpenRead.{OpenRead}
pub use Rattle.lit_solve.specs.declared.read_values.Filling.{Filling}
pub use Rattle.lit_solve.specs.declared.stepping.Branch.{Branch}
pub use Rattle.lit_order.proofs.ForcedLemmas.{AreTriplesBelow, respects_forced}
pub use Rattle.lit_order.proofs.ForcingLemmas.{IsForced-grow}
pub use Rattle.lit_order.proofs.GrownLemmas.{least_of_forced, none_of_forced}
pub use Rattle.lit_order.proofs.PartLemmas.{triples_below}
pub use Rattle.lit_order.proofs.SameOrders.{IsLeastOrderOf-same, IsOrderOf-same}
pub use Rattle.lit_order.proofs.StandingLemmas.{never_before_itself, StandsBefore-through}
pub use Rattle.lit_paths.proofs.Conditions.{asks-All, asks-Any, holds-All, holds-Any, member_asks, member_holds}
pub use Rattle.lit_paths.proofs.PlanFacts.{lists-candidates}
pub use Rattle.lit_paths.proofs.OutcomeRegisterSteps.{names_from-within}
pub use Rattle.lit_paths.proofs.Products.{product-known, slice_get-drop}
pub use Rattle.lit_paths.proofs.Rising.{nat_cmp-less, nat_cmp-same, slice_cmp-same, slice_get-map-found}
pub use Rattle.lit_paths.proofs.Totals.{before_all}
unfoldable pub use Rattle.lit_paths.specs.Event.{HasSameRange}
pub use Rattle.lit_rel.proofs.ByteReadLemmas.{reads_rise}
pub use Rattle.lit_rel.proofs.ChainLemmas.{Chain-append, Chain-same}
pub use Rattle.lit_rel.proofs.GrowthLemmas.{Grows-from}
pub use Rattle.lit_rel.proofs.GuardedByteLemmas.{false_of}
pub use Rattle.lit_rel.proofs.OwnByteLemmas.{only, only_its}
pub use Rattle.lit_rel.proofs.PlaceLemmas.{place-left, place-middle, place-push, refill-set}
pub use Rattle.lit_rel.proofs.RaceLemmas.{HasDataRaceOf-iff, HasDataRaceOf-wider, same_range_back}
pub use Rattle.lit_rel.proofs.RowLemmas.{WithPair-within}
pub use Rattle.lit_rel.proofs.ReadingLemmas.{write_known}
pub use Rattle.lit_rel.proofs.SameRelations.{between_by, coherent_read_by}
pub use Rattle.lit_rel.proofs.SetLemmas.{event_or_not, split_less, split_less_yet, within_le}
pub use Rattle.lit_rel.proofs.ValueLemmas.{length-stored, stored}
pub use Rattle.lit_solve.specs.DataRace.{CanFillFrom, CanRaceIn, HasSourceOf, IsOrderedIn, MayRaceIn}
pub use Rattle.lit_valid.proofs.CompletionLemmas.{example, example_paths, example_valid, its_outcome, not_broken}
pub use Rattle.lit_valid.specs.Class.{is_of_class}
pub use Rattle.lit_valid.specs.declared.class.Class.{Class}
pub use Rattle.std.proofs.lemmas.Result.{on_ok_weaker}
pub use Rattle.std.specs.List.{list_all, list_any, range_with_len, refill, zip}
pub use Rattle.std.specs.List.Sorted.{IsPermutation}
pub use mathlib.Core.Path.{fun_ext}
pub use Rattle.std.proofs.Common.{◌&&◌, ◌*◌, ◌+◌, ◌++◌, ◌-◌, ◌<◌, ◌==◌, [], ◌^◌, ap, ap₂, arith, below_more, Bool, cond, drop, eq-eqb}
pub use Rattle.std.proofs.Common.{false, filter, get_or, Global, inl, inr, length, length-append, length-set, List, map, None, not, Option}
pub use Rattle.std.proofs.Common.{refl, rules, set, Some, subst, suc, sym, take, true, Vec, zero, ◌||◌, ℕ, ◌↔◌, ◌∙◌, ◌∷◌, ◌≡◌, ◌≢◌, ◌≤◌}
pub use Rattle.std.proofs.Common.{◌⊎◌, ⊎_elim}
pub use Rattle.std.proofs.Math.Nat.{mul-le-mul_left, mul-le-mul_right, pow-le-pow_right, two-pow-succ}
pub use Rattle.std.proofs.lemmas.Bool.{cases_eq, cases_lt, cases_order, false≢true, le-ltb, ne_eqb, or_parts}
pub use Rattle.std.proofs.lemmas.Bool.Decides.{nat_tests}
pub use Rattle.std.proofs.lemmas.Grind.{common_steps, pow_more, same_number_lists}
pub use Rattle.std.proofs.lemmas.List.{append-nil, append_assoc, drop-map, drop_all, drop_more, get_or-map, get_or-set_other}
pub use Rattle.std.proofs.lemmas.List.{get_or-set_same, get_or_past, length-map, length-take-le, length_push, nil_from_length, take_all}
pub use Rattle.std.proofs.lemmas.List.{take_more}
pub use Rattle.std.proofs.lemmas.List.Elements.{same_from_all_zip}
pub use Rattle.std.proofs.lemmas.List.Folds.{list_all_at, list_any-append, list_any_at}
pub use Rattle.std.proofs.lemmas.List.FromFn.{get_or-map-range_with_len, length-map-range_with_len}
pub use Rattle.std.proofs.lemmas.List.Sorted.{All-permutation, Contains-permutation}
pub use Rattle.std.proofs.lemmas.List.Sums.{sum-map, sum_by-set}
pub use Rattle.std.proofs.lemmas.Nat.Bits.{bit_at_above}
pub use Rattle.std.proofs.lemmas.Option.{get_or_from_slice_get, none-some, same_Some, slice_get-get_or, slice_get_within}
pub use Rattle.std.specs.Cmp.Lexicographic.{slice_cmp}
pub use Rattle.std.specs.Int.{bit_at, to_le_bytes, w32}
pub use Rattle.std.specs.Option.{is_some, option_or, unwrap_or}
pub use Rattle.std.specs.Ordering.{nat_cmp, ordering_then}
pub use Rattle.std.specs.Prelude.{IfNone, IfSome, if◌then◌else◌, IsTrue, MatchBool, MatchOption, slice_get, slice_index, slice_index_or}
pub use Rattle.std.specs.Prelude.{slice_set}
pub use Rattle.std.specs.declared.cmp.Ordering.{Ordering}
pub use Rattle.std.specs.declared.cmp.Ordering.TheVariants.{Equal, Greater, Less}
