-- Observed values: the value of a read from bytes that are decided one after the other, and the outcomes of the parts of a box.
use Rattle.lit_solve.proofs.Words.{◌*◌, ◌+◌, ◌++◌, ◌<◌, [], ◌^◌, ap, ap₂, AreSourcesIn, arith, Box, box_events, byte_read_at, byte_reads}
use Rattle.lit_solve.proofs.Words.{bytes_taken, composed, drop, Event, Execution, execution_outcome, get_or, get_or-map, HasSource, IsBox}
use Rattle.lit_solve.proofs.Words.{IsCompletion, IsValueObserved, IsValueOf, its_outcome, Laws, length, length-map, List, map}
use Rattle.lit_solve.proofs.Words.{names_from-within, names_of, observed_read, observed_value, part_with, reads_on, Decided, refl}
use Rattle.lit_solve.proofs.Words.{slice_get, slice_get-drop, slice_get-get_or, Some, stored_for, suc, sym, take, take_all, take_more}
use Rattle.lit_solve.proofs.Words.{Taken, value_of, zero, ℕ, ◌∙◌, ◌∷◌, ◌≡◌, ◌≢◌, ◌≤◌}
use Rattle.lit_solve.specs.declared.decided.Decided.TheVariants.{Known, Open}
use Rattle.lit_solve.proofs.CompletionLemmas.{completes, part_of}
use Rattle.lit_solve.proofs.FillLemmas.{sources_lie}
use Rattle.lit_solve.proofs.FillingLemmas.{no_more, same_number, taken_other}
use Rattle.lit_solve.proofs.ReadByteLemmas.{drop_at, read_there}

-- the bytes of a read from a byte read on compose, with those taken before, its value
abbrev pub IsComposedOn : Box → (r k : ℕ) → Taken → Type 0
IsComposedOn box r k taken =
    (sources : List ℕ) → AreSourcesIn box sources
    → value_of (box_events box) sources r
    ≡ taken.value + 256 ^ taken.bytes * composed (bytes_taken (box_events box) (reads_on (box_events box) k) (drop k sources) r)

module _ (box : Box) (r : ℕ) where
  abbrev events : List Event
  events = box_events box

  abbrev reads : List (ℕ × ℕ)
  reads = byte_reads events

  -- the byte reads before the first of the read have none of it
  none_before : (k : ℕ) (sources : List ℕ) → k ≤ length reads → length sources ≡ length reads
      → ((j q b : ℕ) → j < k → slice_get reads j ≡ Some (q, b) → q < r)
      → bytes_taken events reads sources r ≡ bytes_taken events (drop k reads) (drop k sources) r
  none_before zero sources within long before = refl
  none_before (suc k) sources within long before =
      let p = byte_read_at events k in
      let at : slice_get reads k ≡ Some p = slice_get-get_or reads k (0, 0) (omega (arith, within)) in
      let w = get_or sources k 0 in
      let source : slice_get sources k ≡ Some w = slice_get-get_or sources k 0 (omega (arith, within, long)) in
      let other : p.0 ≢ r = λ same. omega (arith, before k p.0 p.1 (omega arith) at, same) in
      let next : k + 1 ≡ suc k = omega arith in
      none_before k sources (omega (arith, within)) long (λ j q b less there. before j q b (omega (arith, less)) there)
      ∙ ap (λ (ps : List (ℕ × ℕ)). bytes_taken events ps (drop k sources) r) (drop_at reads k p at)
      ∙ ap (λ (ws : List ℕ). bytes_taken events (p ∷ drop (k + 1) reads) ws r) (drop_at sources k w source)
      ∙ taken_other events p (drop (k + 1) reads) w (drop (k + 1) sources) r other
      ∙ ap (λ (n : ℕ). bytes_taken events (drop n reads) (drop n sources) r) next

  pub composed_first : (k : ℕ) (taken : Taken) → k ≤ length reads → ((j q b : ℕ) → j < k → slice_get reads j ≡ Some (q, b) → q < r)
      → taken.value ≡ 0 → taken.bytes ≡ 0 → IsComposedOn box r k taken
  composed_first k taken within before value bytes sources lie = grind (arith, none_before)

  -- one more byte: all sources store the same
  pub composed_next : (k w : ℕ) (taken next : Taken) → k < length reads → (byte_read_at events k).0 ≡ r
      → ((v : ℕ) → HasSource box k v → stored_for box k v ≡ stored_for box k w)
      → next.value ≡ taken.value + 256 ^ taken.bytes * stored_for box k w → next.bytes ≡ taken.bytes + 1
      → IsComposedOn box r k taken → IsComposedOn box r (k + 1) next
  composed_next k w taken next within is matching value bytes so_far sources lie =
      let b = (byte_read_at events k).1 in
      let at : slice_get reads k ≡ Some (r, b) = read_there events k r within is in
      let v = get_or sources k 0 in
      let source : slice_get sources k ≡ Some v = slice_get-get_or sources k 0 (omega (arith, within, lie.sourced.one_each)) in
      let rest = composed (bytes_taken events (drop (k + 1) reads) (drop (k + 1) sources) r) in
      so_far sources lie
      ∙ ap (λ (ps : List (ℕ × ℕ)). taken.value + 256 ^ taken.bytes * composed (bytes_taken events ps (drop k sources) r)) (drop_at reads k (r, b) at)
      ∙ ap (λ (ws : List ℕ). taken.value + 256 ^ taken.bytes * composed (bytes_taken events ((r, b) ∷ drop (k + 1) reads) ws r))
      (drop_at sources k v source)
      ∙ sym (same_number box r (r, b) (drop (k + 1) reads) (λ _. ⊥) taken.value taken.bytes v (drop (k + 1) sources) refl)
      ∙ ap (λ (byte : ℕ). (taken.value + 256 ^ taken.bytes * byte) + 256 ^ (taken.bytes + 1) * rest) (matching v (lie.within k v source))
      ∙ ap (λ (n : ℕ). n + 256 ^ (taken.bytes + 1) * rest) (sym value)
      ∙ ap (λ (n : ℕ). next.value + 256 ^ n * rest) (sym bytes)

  -- no more bytes
  pub composed_last : (k : ℕ) (taken : Taken) → ((j b : ℕ) → k ≤ j → slice_get reads j ≢ Some (r, b)) → IsComposedOn box r k taken
      → (sources : List ℕ) → AreSourcesIn box sources → value_of events sources r ≡ taken.value
  composed_last k taken none so_far sources lie =
      so_far sources lie
      ∙ no_more box r (drop k reads) (λ _. ⊥) taken.value taken.bytes (drop k sources)
      (λ i b at. none (k + i) b (omega arith) (sym (slice_get-drop k i reads) ∙ at))

-- ---- registers
-- a register that observes a read has its value
pub observed_by_read : (box : Box) (name : ℕ × ℕ) (r : ℕ) (value : Decided ℕ) → Some r ≡ observed_read box.test box.combination name → IsValueOf box r value
    → IsValueObserved box name value
observed_by_read box name r (Known value) holds is = λ sources lie.
    ap (observed_value (part_with box sources)) (sym holds) ∙ is sources lie
observed_by_read box name r (Open k) holds (undecided, own) = (undecided, (name, sym holds ∙ ap (λ (q : ℕ). Some q) (sym own)))

module _ (box : Box) (entered : IsBox box) (laws : Laws) (x : Execution) (is : IsCompletion box x) where
  -- what a register has at the end of the completion
  abbrev pub observed_in : ℕ × ℕ → ℕ
  observed_in name = observed_value (part_with box x.sources) (observed_read box.test box.combination name)

  pub outcome_is : execution_outcome box.test x ≡ map observed_in (names_of box.test)
  outcome_is =
      its_outcome (part_of box x.sources) x (completes box x is) laws (record { litmus = entered.litmus; known = entered.known })
      (names_from-within box.test.agents)

  pub length_outcome : length (execution_outcome box.test x) ≡ length (names_of box.test)
  length_outcome = ap (λ (vs : List ℕ). length vs) outcome_is ∙ length-map (names_of box.test) observed_in

  -- one value more
  pub value_more : (values more : List ℕ) (name : ℕ × ℕ) (value : ℕ) → length values < length (names_of box.test)
      → name ≡ get_or (names_of box.test) (length values) (0, 0) → values ≡ take (length values) (execution_outcome box.test x)
      → IsValueObserved box name (Known value) → more ≡ values ++ value ∷ [] → more ≡ take (length values + 1) (execution_outcome box.test x)
  value_more values more name value inside at so_far observed_is grown =
      let outcome = execution_outcome box.test x in
      let within : length values < length outcome = omega (arith, inside, length_outcome) in
      let is : value ≡ get_or outcome (length values) 0 = sym (observed_is x.sources (sources_lie box x is)) ∙ ap observed_in at
      ∙ sym (get_or-map observed_in (names_of box.test) (length values) (0, 0) 0 inside)
      ∙ sym (ap (λ (vs : List ℕ). get_or vs (length values) 0) outcome_is) in
      grown ∙ ap₂ (λ (xs : List ℕ) (v : ℕ). xs ++ v ∷ []) so_far is ∙ sym (take_more outcome (length values) 0 within)

  -- all values
  pub all_values : (values : List ℕ) → length (names_of box.test) ≤ length values → values ≡ take (length values) (execution_outcome box.test x)
      → execution_outcome box.test x ≡ values
  all_values values all first = grind (arith, length_outcome, take_all)
