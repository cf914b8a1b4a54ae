-- The domains of the box of an attempt, byte read by byte read.
use Rattle.std.proofs.Common.{◌≡◌, ◌↔◌, ℕ, ◌+◌, ◌<◌, List, Some, arith, get_or, length, subst}
use Rattle.std.specs.Prelude.{slice_get, slice_index_or, slice_set}
use Rattle.std.proofs.lemmas.Bool.{cases_eq}
use Rattle.std.proofs.lemmas.List.{get_or-set_other, get_or-set_same}
use Rattle.std.proofs.lemmas.Option.{get_or_from_slice_get, slice_get-get_or, slice_get_within}
use Rattle.lit_syntax.specs.Syntax.{IsLitmus, Litmus}
use Rattle.lit_paths.specs.ByteReads.{byte_reads}
use Rattle.lit_paths.specs.Choice.{combinations_of}
use Rattle.lit_paths.specs.Members.{AreSources}
use Rattle.lit_paths.specs.declared.limits.TheConstants.{BYTE_READ_LIMIT}
use Rattle.lit_rel.specs.declared.event_set.EventSet.{EventSet}
use Rattle.lit_rel.specs.EventSet.{HasEvent, no_events}
use Rattle.lit_solve.specs.Box.{IsBox, box_with, events_on}
use Rattle.lit_why.specs.Refutation.{IsAttemptBox}

-- the domains of the first byte reads have what holds of their sources
pub record AreFirstFor (reads : List (ℕ × ℕ)) (sources : List ℕ) (holds : ℕ × ℕ → ℕ → ℕ → Type 0) (domains : List EventSet)
    (place : ℕ) : Type 0 where
  pub len : length domains ≡ BYTE_READ_LIMIT
  pub each : (k r b v w : ℕ) → k < place → slice_get reads k ≡ Some (r, b) → slice_get sources k ≡ Some v
      → HasEvent (slice_index_or domains k no_events) w ↔ holds (r, b) v w

-- one more
pub first_more : (reads : List (ℕ × ℕ)) (sources : List ℕ) (holds : ℕ × ℕ → ℕ → ℕ → Type 0) (sets : List EventSet) (place : ℕ)
    (set : EventSet) → place < length sets
    → ((k r b v w : ℕ) → k < place → slice_get reads k ≡ Some (r, b) → slice_get sources k ≡ Some v
    → HasEvent (slice_index_or sets k no_events) w ↔ holds (r, b) v w)
    → ((w : ℕ) → HasEvent set w ↔ holds (slice_index_or reads place (0, 0)) (slice_index_or sources place 0) w)
    → (k r b v w : ℕ) → k < place + 1 → slice_get reads k ≡ Some (r, b) → slice_get sources k ≡ Some v
    → HasEvent (slice_index_or (slice_set sets place set) k no_events) w ↔ holds (r, b) v w
first_more reads sources holds sets place set room before here k r b v w below at at_source =
    grind (arith, cases_eq, get_or-set_other, get_or-set_same, get_or_from_slice_get)

pub attempt_is_box : (c : Litmus × ℕ) (sources : List ℕ) (domains : List EventSet) → IsLitmus c.0 → c.1 < length (combinations_of c.0)
    → AreSources (events_on c) sources → IsAttemptBox c sources domains → IsBox (box_with c domains)
attempt_is_box c sources domains litmus known are is = record {
  litmus = litmus;
  known = known;
  candidates = λ k r b w at there.
      let inside : k < length sources = omega (arith, slice_get_within (byte_reads (events_on c)) k (r, b) at, are.one_each) in
      ((is k r b (get_or sources k 0) w at (slice_get-get_or sources k 0 inside)).0 there).0;
}

pub attempt_same : (p q : Litmus × ℕ) (sources others : List ℕ) (domains : List EventSet) → q ≡ p → others ≡ sources
    → IsAttemptBox q others domains → IsAttemptBox p sources domains
attempt_same p q sources others domains same same_too is =
    subst (λ (ws : List ℕ). IsAttemptBox p ws domains) same_too (subst (λ (x : Litmus × ℕ). IsAttemptBox x others domains) same is)
