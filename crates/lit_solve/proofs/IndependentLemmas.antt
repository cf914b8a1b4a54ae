-- A box with independent reads and a box within it: as long as each read can still be filled, the relations stay the same, and its reads
-- stay independent.
use Rattle.lit_solve.proofs.Words.{◌<◌, Any, AreCoherentSources, AreOfEvents, AreSourcesIn, arith, Box, box_events, box_with, byte_read_at}
use Rattle.lit_solve.proofs.Words.{byte_reads, CanFill, cases_eq, coherent_read_by, Event, EventSet, Execution, false≢true, FillsAll}
use Rattle.lit_solve.proofs.Words.{HappensBeforeIn, HasEmptyDomain, HasEvent, HasNoCompletion, HasSolution, HasSource, IfNone, IfSome}
use Rattle.lit_solve.proofs.Words.{inl, inr, is_some, IsBox, IsCompletion, IsFilled, IsForbiddenIn, IsIndependent, IsLeaf}
use Rattle.lit_solve.proofs.Words.{IsOrderOf-same, IsTrue, IsWithin, length, LieOn, List, None, Option, refl}
use Rattle.lit_solve.proofs.Words.{slice_get, Some, subst, sym, ℕ, ◌↔◌, ◌∙◌, ◌≡◌}
use Rattle.lit_solve.proofs.DescendingLemmas.{alone_stays}
use Rattle.lit_solve.proofs.DomainLemmas.{pruned_at, pruned_within, none_empty_at, source_other}
use Rattle.lit_solve.proofs.FillLemmas.{before_back, forbidden_back, grows_in}
use Rattle.lit_solve.proofs.LeafLemmas.{IsFilledReadByRead}
use Rattle.lit_solve.proofs.PruningLemmas.{read_here}
use Rattle.lit_solve.proofs.TogetherLemmas.{on_read, replaced, replaced_fill, replaced_lie, replaced_own}

-- there is a completion
pub independent_solution : (box : Box) → IsIndependent box → IsFilledReadByRead box → HasSolution box Any
independent_solution box is law = grind arith

-- so a leaf, of which it is known whether its reads are independent or it has no completion, has one exactly in the first case
pub leaf_decided : {A : Type 0} (box : Box) → IsFilledReadByRead box → (found : Option A) → IfSome found (λ _. IsIndependent box)
    → IfNone found (HasNoCompletion box) → IsTrue (is_some found) ↔ HasSolution box Any
leaf_decided box law None _ none = ((λ never. absurd (false≢true never)), (λ solution. absurd (none solution.0 solution.1.completes)))
leaf_decided box law (Some _) independent _ = ((λ _. independent_solution box independent law), (λ _. refl))

-- sources that lie in the box and fill each read are those of a completion
pub completes_with : (box : Box) → IsIndependent box → IsFilledReadByRead box → (sources : List ℕ) → AreSourcesIn box sources
    → ((r : ℕ) → r < length (box_events box) → IsFilled box r sources) → (x : Execution) × IsCompletion box x × (x.sources ≡ sources)
completes_with box is law sources lie filled = (law sources is.is_box is.leaf is.coherent is.acyclic lie).1 (filled, is.unwritten, is.ordered)

module _ (box : Box) (is : IsIndependent box) (domains : List EventSet) (within : IsWithin (box_with (box.test, box.combination) domains) box)
    (some : ¬ HasEmptyDomain (box_with (box.test, box.combination) domains)) (fills : FillsAll (box_with (box.test, box.combination) domains)) where
  abbrev part : Box
  part = box_with (box.test, box.combination) domains

  abbrev events : List Event
  events = box_events box

  -- sources that lie in the part lie in the box
  lie_out : AreSourcesIn box fills.sources
  lie_out = record { sourced = fills.lie.sourced; within = λ k w at. within.domains k w (fills.lie.within k w at) }

  before_out : (a d : ℕ) → HappensBeforeIn part a d → HappensBeforeIn box a d
  before_out a d h = before_back box fills.sources lie_out is.leaf a d ((grows_in part fills.sources fills.lie).happens_before a d h)

  forbidden_out : (w q v : ℕ) → IsForbiddenIn part w q v → IsForbiddenIn box w q v
  forbidden_out w q v f = forbidden_back box fills.sources lie_out is.leaf w q v ((grows_in part fills.sources fills.lie).forbidden w q v f)

  leaf_part : IsLeaf part
  leaf_part k below = elim (is.leaf k below) [
    | inl one ↦ inl (one.0, alone_stays part box within some k one.0 below one.1)
    | inr idle ↦ inr (λ q b w at there. idle q b w at (within.domains k w there))
  ]

  coherent_part : AreCoherentSources part
  coherent_part k q b w at there =
      coherent_read_by events (HappensBeforeIn box) (HappensBeforeIn part) before_out q b w (is.coherent k q b w at (within.domains k w there))

  box_part : IsBox part
  box_part = record {
    litmus = is.is_box.litmus;
    known = is.is_box.known;
    candidates = λ k r b w at there. is.is_box.candidates k r b w at (within.domains k w there);
  }

  pub independent_within : IsIndependent part
  independent_within = record {
    is_box = box_part;
    some = some;
    leaf = leaf_part;
    coherent = coherent_part;
    acyclic = λ e h. is.acyclic e (before_out e e h);
    unwritten = is.unwritten;
    ordered = (
      is.ordered.0,
      IsOrderOf-same (length events) (length events) (HappensBeforeIn box) (HappensBeforeIn part) (IsForbiddenIn box) (IsForbiddenIn part) refl before_out
          forbidden_out is.ordered.0 is.ordered.1,
    );
    filled = fills;
  }

-- ---- one domain restricted, and its read can be filled
module _ (box : Box) (of_events : AreOfEvents (box_events box)) (is : IsIndependent box) (place : ℕ) (left : EventSet) (room : place < length box.domains)
    (inside : place < length (byte_reads (box_events box))) (within : (w : ℕ) → HasEvent left w → HasSource box place w)
    (some : (w : ℕ) × HasEvent left w) (fills : CanFill (pruned_at box place left) (byte_read_at (box_events box) place).0) where
  abbrev pruned : Box
  pruned = pruned_at box place left

  abbrev reads : List Event
  reads = box_events box

  abbrev r : ℕ
  r = (byte_read_at reads place).0

  inner : IsWithin (pruned_at box place left) box
  inner = pruned_within box place left room within

  pruned_some : ¬ HasEmptyDomain (pruned_at box place left)
  pruned_some = none_empty_at box place left room is.some some

  -- sources that fill each read: for the restricted read those that fill it there, and for the others those of the box
  own_lie : LieOn box r fills.0
  own_lie = on_read box r fills.0 (record { sourced = fills.1.sourced; within = λ k w at. inner.domains k w (fills.1.within k w at) })

  abbrev all_sources : List ℕ
  all_sources = replaced box of_events r fills.0 is.filled.sources own_lie is.filled.lie

  all_lie : AreSourcesIn box all_sources
  all_lie = replaced_lie box of_events r fills.0 is.filled.sources own_lie is.filled.lie

  pruned_lie : AreSourcesIn pruned all_sources
  pruned_lie = record {
    sourced = all_lie.sourced;
    within = λ k w at. elim (cases_eq k place) [
      | inl same ↦
          let here : slice_get all_sources place ≡ Some w = subst (λ (j : ℕ). slice_get all_sources j ≡ Some w) same at in
          let agrees = replaced_own box of_events r fills.0 is.filled.sources own_lie is.filled.lie place (byte_read_at reads place).1
          (read_here reads place inside) in
          subst (λ (j : ℕ). HasSource pruned j w) (sym same) (fills.1.within place w (sym agrees ∙ here))
      | inr other ↦ source_other box place left room k w other (all_lie.within k w at)
    ];
  }

  all_filled : (q : ℕ) → q < length reads → IsFilled box q all_sources
  all_filled =
      replaced_fill box of_events r fills.0 is.filled.sources own_lie is.filled.lie
      (record { tear_free = fills.2.tear_free; guards = fills.2.guards }) is.filled.each

  pruned_fills : FillsAll pruned
  pruned_fills = record {
    sources = all_sources;
    lie = pruned_lie;
    each = λ q known. let filled = all_filled q known in record { tear_free = filled.tear_free; guards = filled.guards };
  }

  pub independent_part : IsIndependent pruned
  independent_part = independent_within box is pruned.domains inner pruned_some pruned_fills
