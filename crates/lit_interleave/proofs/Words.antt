-- The words that the proofs of this crate speak in, of the library, of the crates below and of its own specs: passed on to all of them.
pub use Rattle.lit_interleave.specs.InTurn.{accesses, HasExecution, made_at_end, made_by_each, made_in_turn, makers_of, next_maker}
pub use Rattle.lit_interleave.specs.InTurn.{statement_accesses}
pub use Rattle.lit_interleave.specs.Interleaving.{access_or, after_each, after_end, after_statement, after_turn, beginning, Contents}
pub use Rattle.lit_interleave.specs.Interleaving.{ending, found_by, from_access, from_access_in, interleaved, joined_statements}
pub use Rattle.lit_interleave.specs.Interleaving.{left_behind, Moment, number_in, Progress, progress_of, with_number}
pub use Rattle.lit_interleave.specs.Internal.Runners.{ChoosesPart, is_access, joined_all}
pub use Rattle.lit_interleave.specs.Sequential.{IsLastWrite, IsSequential}
pub use Rattle.lit_order.specs.MemoryOrder.{IsListOfAll, IsMemoryOrder, StandsBefore}
pub use Rattle.lit_paths.proofs.EventFacts.{window-in_block}
pub use Rattle.lit_paths.proofs.EventLists.{length-init_events}
pub use Rattle.lit_paths.proofs.OutcomeRegisterSteps.{range_more}
pub use Rattle.lit_paths.proofs.PathSteps.{length-slice_set}
pub use Rattle.lit_paths.proofs.Placed.{order-other}
pub use Rattle.lit_paths.proofs.Products.{slice_get-drop, slice_get_left, slice_get_right}
pub use Rattle.lit_paths.proofs.Rising.{slice_get-map-found, slice_get-map-known}
pub use Rattle.lit_paths.specs.ByteReads.{byte_reads}
pub use Rattle.lit_paths.specs.Members.{IsCandidate, IsStatementWalk, IsWalk, AreSources}
pub use Rattle.lit_paths.specs.Choice.{events_of}
pub use Rattle.lit_paths.specs.Event.{does_read, does_write, event_at, HasByte, init_event, init_events, no_event, payload_at}
unfoldable pub use Rattle.lit_paths.specs.Event.{HasSameRange}
pub use Rattle.lit_paths.specs.Execution.{Execution, execution_events, execution_outcome, IsCandidateExecution}
pub use Rattle.lit_paths.specs.Outcome.{outcome_of}
pub use Rattle.lit_paths.specs.Path.{access_event, compare_exchange_event, CompareExchangeMet, decisions_on, ExchangeMet, first_byte, IfMet}
pub use Rattle.lit_paths.specs.Path.{LoadMet, Path, payload_of, Step, StoreMet}
pub use Rattle.lit_paths.specs.Refusal.{accesses_on}
pub use Rattle.lit_paths.specs.Run.{AgreesWith, compares, IsRun, Run, run_path}
pub use Rattle.lit_paths.specs.declared.event.Event.{Event}
pub use Rattle.lit_syntax.proofs.TreeViews.{if_views}
pub use Rattle.lit_syntax.specs.Litmus.{statement_of, statements_of}
pub use Rattle.lit_syntax.specs.Syntax.{Agent, agent_of, AreStatementsIn, CompareExchange, End, Exchange, If, is_in_block, IsLitmus}
pub use Rattle.lit_syntax.specs.Syntax.{IsStatementIn, Litmus, Load, Statement, Statements, Store, Then, Uint16, Uint32, Window}
pub use Rattle.lit_syntax.specs.Syntax.{window_size}
pub use Rattle.lit_syntax.specs.declared.limits.TheConstants.{REGISTERS}
pub use Rattle.lit_syntax.specs.declared.syntax.Stmt.{Stmt}
pub use Rattle.lit_rel.proofs.OwnByteLemmas.{only_its}
pub use Rattle.lit_rel.proofs.SourceLemmas.{take_from}
pub use Rattle.lit_rel.specs.AgentOrder.{IsAgentOrdered}
pub use Rattle.lit_rel.specs.Coherent.{HasCoherentReads}
pub use Rattle.lit_rel.specs.Forbidden.{IsAfterSource, IsBeforeRead, IsBetweenSynchronized}
pub use Rattle.lit_rel.specs.HappensBefore.{Chain, HappensBefore, IsMadeBefore, StepBy}
pub use Rattle.lit_rel.specs.ByteReadList.{AreOfEvents}
pub use Rattle.lit_rel.specs.ReadsFrom.{composed, ReadsByteFrom, value_of}
pub use Rattle.lit_rel.specs.TearFree.{HasTearFreeReads}
pub use Rattle.lit_valid.proofs.RunLemmas.{maps, no_run}
pub use Rattle.lit_valid.proofs.Takings.{read_numbers-accesses, taken_each, taken_together}
pub use Rattle.lit_valid.specs.ValidExecution.{HasValidChosenReads, IsValidExecution, read_numbers_from}
pub use Rattle.std.proofs.Common.{◌+◌, ◌++◌, ◌-◌, ◌<◌, ◌==◌, [], ap, append-nil, append_assoc, ap₂, arith, Bool, cond, drop, eq-eqb, false}
pub use Rattle.std.proofs.Common.{filter, flat_map, get_or, inl, inr, length, length-append, length-drop, List, map, None, Option, refl}
pub use Rattle.std.proofs.Common.{Some, subst, suc, sym, take, true, zero, zero-add, zip, ℕ, ◌∙◌, ◌∷◌, ◌≡◌, ◌≢◌, ◌≤◌, ◌⊎◌}
pub use Rattle.std.proofs.Math.Bool.{beq}
pub use Rattle.std.proofs.lemmas.Bool.{and_from, and_parts, cases_eq, cases_lt, cases_order, false≢true, le-leb, leb-true, lt-leb, lt-ltb}
pub use Rattle.std.proofs.lemmas.Bool.{ltb-true}
pub use Rattle.std.proofs.lemmas.Bool.Decides.{nat_tests}
pub use Rattle.std.proofs.lemmas.List.{drop_all, get_or-append-add, get_or-append_right, get_or-drop, get_or-map, get_or-replicate}
pub use Rattle.std.proofs.lemmas.List.{get_or-set_other, get_or-set_same, get_or-take, get_or_append_left, get_or_default, get_or_past}
pub use Rattle.std.proofs.lemmas.List.{length-map, length-replicate, length-take, length-take-le, map-append, same_lists, take-append-le}
pub use Rattle.std.proofs.lemmas.List.{take-map, take_all, take_more}
pub use Rattle.std.proofs.lemmas.List.Concat.{get_or-flat_map}
pub use Rattle.std.proofs.lemmas.List.Edits.{length-paste}
pub use Rattle.std.proofs.lemmas.List.Elements.{filter-append}
pub use Rattle.std.proofs.lemmas.List.Folds.{length-flat_map-take}
pub use Rattle.std.proofs.lemmas.List.FromFn.{get_or-map-range_with_len, get_or-range_with_len, length-map-range_with_len}
pub use Rattle.std.proofs.lemmas.List.FromFn.{length-range_with_len}
pub use Rattle.std.proofs.lemmas.Option.{get_or_from_slice_get, none-some, same_Some, slice_get-get_or, slice_get_within}
pub use Rattle.std.specs.Borrow.{Bor}
pub use Rattle.std.specs.List.{range_with_len}
pub use Rattle.std.specs.Prelude.{◌&&◌, All, if◌then◌else◌, IsTrue, nat_le, nat_lt, not, replicate, slice_get, slice_index, slice_index_or}
pub use Rattle.std.specs.Prelude.{slice_set}
