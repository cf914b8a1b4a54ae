-- The words that the proofs of this crate speak in, of the library, of the crates below and of its own specs: passed on to all of them.
pub use Rattle.indexmap.specs.IndexMap.{insert_entry}
pub use Rattle.lit_interleave.specs.InTurn.{HasExecution}
pub use Rattle.lit_interleave.specs.Interleaving.{interleaved}
pub use Rattle.lit_order.specs.MemoryOrder.{IsLeastMemoryOrder}
pub use Rattle.lit_paths.proofs.Rising.{slice_get-map-known}
pub use Rattle.lit_paths.specs.ByteReads.{byte_reads}
pub use Rattle.lit_paths.specs.Choice.{Choice, choices_of}
pub use Rattle.lit_paths.specs.Members.{AreSources}
pub use Rattle.lit_paths.specs.Execution.{Execution, execution_choice, execution_events, execution_outcome}
pub use Rattle.lit_paths.specs.Path.{Path}
pub use Rattle.lit_paths.specs.Plan.{choices_before, combination_at, HasSources, IsOfCombination}
pub use Rattle.lit_paths.specs.Run.{run_path}
pub use Rattle.lit_syntax.proofs.ListLemmas.{all_weaker}
pub use Rattle.lit_syntax.specs.Syntax.{Litmus}
pub use Rattle.lit_rel.specs.declared.event_set.EventSet.{EventSet}
pub use Rattle.lit_search.specs.Collected.{Collected, HasTaken}
pub use Rattle.lit_search.specs.Examples.{entries_in}
pub use Rattle.lit_search.specs.FirstOfClass.{HasNoneOf, IsFirstOf}
pub use Rattle.lit_search.specs.Found.{report_of}
pub use Rattle.lit_search.specs.Reported.{IsReported}
pub use Rattle.lit_search.specs.Internal.Boxed.{AreOfRange, HasNoneBefore, IsOfBox, IsOfFirst}
pub use Rattle.lit_search.specs.Internal.Gained.{Gains, GoesOn, IsLeastOf}
pub use Rattle.lit_search.specs.Internal.Merged.{heads_cmp, lesser, merged}
pub use Rattle.lit_search.specs.Internal.Packed.{IsPacked, packed}
pub use Rattle.lit_search.specs.Internal.Ranks.{are_same, AreRanks, IsRank, IsRanked, rank_cmp, rank_key}
pub use Rattle.lit_search.specs.Internal.Risen.{risen}
pub use Rattle.lit_search.specs.Internal.Shown.{shown_entry}
pub use Rattle.lit_search.specs.Merge.{AreMerged, HasInEither, IsMerge}
pub use Rattle.lit_search.specs.Ranked.{joined_entries, ranked_entry}
pub use Rattle.lit_search.specs.Report.{AreEntries, Entry, entry_at, example_cmp, HasEntry, in_either, in_none, in_range, IsEntry}
pub use Rattle.lit_search.specs.Report.{IsReport, outcome_cmp, Report}
pub use Rattle.lit_search.specs.declared.found.Found.TheInside.{Inside}
pub use Rattle.lit_search.specs.declared.found.ranking.Rank.{Rank}
pub use Rattle.lit_solve.proofs.CompletionLemmas.{events_same}
pub use Rattle.lit_solve.proofs.EntryLemmas.{outcome_stays}
pub use Rattle.lit_solve.proofs.LexLemmas.{never_both_less}
pub use Rattle.lit_solve.proofs.RangeLemmas.{sources_are, sources_rise}
pub use Rattle.lit_solve.specs.Box.{Box, box_with, LiesIn}
pub use Rattle.lit_solve.specs.Boxes.{AreDomainsIn, boxes_events, boxes_len, BoxesModel, LiesInBox}
pub use Rattle.lit_solve.specs.Completion.{HasSolution, IsCompletion, IsLeastSolution}
pub use Rattle.lit_solve.specs.Outcomes.{AddsEntries, AreNewEntries, HasEachOutcome, IsLeastEntry}
pub use Rattle.lit_valid.proofs.RunLemmas.{maps}
pub use Rattle.lit_valid.specs.Class.{is_of_class}
pub use Rattle.lit_valid.specs.Entry.{HasOutcome}
pub use Rattle.lit_valid.specs.Gives.{Gives, GivesRace, HasLeastOrder}
pub use Rattle.lit_valid.specs.Laws.{Laws}
pub use Rattle.lit_valid.specs.ValidExecution.{IsValidExecution}
pub use Rattle.lit_valid.specs.declared.class.Class.{Class}
pub use Rattle.std.proofs.Common.{◌*◌, ◌+◌, ◌++◌, ◌-◌, ◌<◌, [], ◌^◌, ap, append-nil, append_assoc, ap₂, arith, Bool, cond, drop, false}
pub use Rattle.std.proofs.Common.{get_or, inl, inr, length, length-append, List, map, None, Option, refl, rules, Some, subst, suc, sym}
pub use Rattle.std.proofs.Common.{take, true, zero, ◌||◌, ℕ, ◌↔◌, ◌∙◌, ◌∷◌, ◌≡◌, ◌≢◌, ◌≤◌, ◌⊎◌}
pub use Rattle.std.proofs.Math.Nat.{le-mul_of_pos_right, mul-le-mul_right, one-le-pow, pow-le-pow_right, pow-suc, pow-succ', suc-mul}
pub use Rattle.std.proofs.Math.Seq.{take-append_seam, take-suc}
pub use Rattle.std.proofs.lemmas.Bool.{and_from, and_parts, cases_lt, cases_order, false≢true, le-leb, leb-true, lt-leb, lt-ltb, ltb-true}
pub use Rattle.std.proofs.lemmas.Bool.{or_left, or_right}
pub use Rattle.std.proofs.lemmas.Cmp.{nat_list_eq_equiv}
pub use Rattle.std.proofs.lemmas.Fn.{always_returns_same}
pub use Rattle.std.proofs.lemmas.Grind.{flat_map-append}
pub use Rattle.std.proofs.lemmas.List.{drop_all, drop_more, get_or-append-add, get_or_append_left, get_or_past, length-map, map-append}
pub use Rattle.std.proofs.lemmas.List.{nil_from_length, take-map, take_all}
pub use Rattle.std.proofs.lemmas.List.Elements.{All-map, All-push}
pub use Rattle.std.proofs.lemmas.List.Sorted.{All-permutation, Contains-permutation, IsPermutation-map, IsPermutation-sym, ranks_by}
pub use Rattle.std.proofs.lemmas.List.Sorted.{sorted_far}
pub use Rattle.std.proofs.lemmas.Map.Keys.{IsDistinct-IsPermutation}
pub use Rattle.std.proofs.lemmas.Map.Lookups.{exact_bytes}
pub use Rattle.std.proofs.lemmas.Option.{get_or_from_slice_get, none-some, same_Some, slice_get-get_or, slice_get-map, slice_get_within}
pub use Rattle.std.proofs.lemmas.Result.{IfOk-weaker}
pub use Rattle.std.specs.Box.{boxed_slice_items}
pub use Rattle.std.specs.Cmp.{IsTotalOrder, nat_cmp_is}
pub use Rattle.std.specs.Cmp.Lexicographic.{nat_list_cmp_total, pointwise, same_text, slice_cmp, texts_ties}
pub use Rattle.std.specs.Cmp.Rules.{comparing}
pub use Rattle.std.specs.List.{AllByRecursion}
unfoldable pub use Rattle.std.specs.List.{IsDistinct}
pub use Rattle.std.specs.List.Sorted.{IsPermutation, IsSortedBy}
unfoldable pub use Rattle.std.specs.List.Sorted.{IsStrictlySortedBy}
pub use Rattle.std.specs.Map.{keys_of, lookup}
pub use Rattle.std.specs.Option.{option_map, option_to_list}
pub use Rattle.std.specs.Ordering.{is_eq, is_gt, is_lt, match_ordering, nat_cmp, on, ordering_reverse, ordering_then, then_cmp}
pub use Rattle.std.specs.Prelude.{All, is_some, IsFalse, IsTrue, nat_eq, nat_le, nat_lt, slice_get, slice_index_or}
pub use Rattle.std.specs.Vec.Iter.{into_iter_items}
pub use Rattle.std.specs.declared.cmp.Ordering.{Ordering}
pub use native.Mathlib.Numerals.{unary_clauses}
pub use Rattle.std.specs.declared.cmp.Ordering.TheVariants.{Equal, Greater, Less}
