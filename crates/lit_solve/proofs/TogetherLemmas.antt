-- Sources put together: each byte read takes what a list of sources of its own read has there.
use Rattle.lit_solve.proofs.Words.{[], ◌+◌, ◌<◌, ◌==◌, ◌∙◌, ◌∷◌, ◌≡◌, ◌≢◌, ◌≤◌, ◌⊎◌, ap, AreOfEvents, AreSources, AreSourcesIn, arith, Bool}
use Rattle.lit_solve.proofs.Words.{Box, box_events, byte_read_at, byte_reads, CanFill, cases_eq, cases_lt, cond, Event, false, filter}
use Rattle.lit_solve.proofs.Words.{get_or, get_or_from_slice_get, inl, inr, IsFilled, IsNotGreaterOn, length, LieOn, List, nat_tests}
use Rattle.lit_solve.proofs.Words.{none-some, refl, same_Some, slice_get, slice_get-get_or, slice_get_within, Some, subst, suc, sym}
use Rattle.lit_solve.proofs.Words.{value_of, zero, zip, ℕ}

-- ---- a read goes by its own bytes alone
-- the byte reads of one read, each with its source
of_read : ℕ → List (ℕ × ℕ) → List ℕ → List ((ℕ × ℕ) × ℕ)
of_read r reads sources = filter (λ p. p.0.0 == r) (zip reads sources)

of_read-same : (r : ℕ) (reads : List (ℕ × ℕ)) (sources others : List ℕ) → length sources ≡ length reads → length others ≡ length reads
    → ((i b : ℕ) → slice_get reads i ≡ Some (r, b) → slice_get sources i ≡ slice_get others i) → of_read r reads sources ≡ of_read r reads others
unfolding of_read
of_read-same r [] sources others long other_long agree = refl
of_read-same r (p ∷ reads) [] others long other_long agree = absurd (omega (arith, long))
of_read-same r (p ∷ reads) (v ∷ sources) [] long other_long agree = absurd (omega (arith, other_long))
of_read-same r (p ∷ reads) (v ∷ sources) (o ∷ others) long other_long agree =
    by (cases_eq p.0 r) (of_read-same r reads sources others (omega (arith, long)) (omega (arith, other_long)) (λ i b at. agree (suc i) b at))
  where
    by : (p.0 ≡ r) ⊎ (p.0 ≢ r) → of_read r reads sources ≡ of_read r reads others
        → of_read r (p ∷ reads) (v ∷ sources) ≡ of_read r (p ∷ reads) (o ∷ others)
    by (inl is) later =
        let head : v ≡ o = same_Some v o (agree 0 p.1 (ap (λ (k : ℕ). Some (k, p.1)) is)) in
        ap (λ (w : ℕ). cond (p.0 == r) ((p, w) ∷ of_read r reads sources) (of_read r reads sources)) head
        ∙ ap (λ (qs : List ((ℕ × ℕ) × ℕ)). cond (p.0 == r) ((p, o) ∷ qs) qs) later
    by (inr other) later =
        let no_test : (p.0 == r) ≡ false = grind (arith, nat_tests) in
        ap (λ (t : Bool). cond t ((p, v) ∷ of_read r reads sources) (of_read r reads sources)) no_test
        ∙ later
        ∙ sym (ap (λ (t : Bool). cond t ((p, o) ∷ of_read r reads others) (of_read r reads others)) no_test)

-- two lists of sources have the same source for each byte of read r
abbrev pub AgreeOn : List Event → ℕ → List ℕ → List ℕ → Type 0
AgreeOn events r sources others = (k b : ℕ) → slice_get (byte_reads events) k ≡ Some (r, b) → slice_get sources k ≡ slice_get others k

pub value_agrees : (events : List Event) (r : ℕ) (sources others : List ℕ) → AreSources events sources → AreSources events others
    → AgreeOn events r sources others → value_of events sources r ≡ value_of events others r
unfolding of_read
value_agrees events r sources others sourced other_sourced agree = grind (arith, of_read-same)

pub agree_or : (events : List Event) (r : ℕ) (sources others : List ℕ) → AreSources events others → AgreeOn events r sources others → (k b : ℕ)
    → slice_get (byte_reads events) k ≡ Some (r, b) → get_or sources k 0 ≡ get_or others k 0
agree_or events r sources others sourced agree k b at =
    get_or_from_slice_get sources k (get_or others k 0) 0
    (agree k b at ∙ slice_get-get_or others k 0 (omega (arith, sourced.one_each, slice_get_within (byte_reads events) k (r, b) at)))

pub not_greater_same : (events : List Event) (r : ℕ) (sources others more : List ℕ)
    → ((k b : ℕ) → slice_get (byte_reads events) k ≡ Some (r, b) → get_or sources k 0 ≡ get_or others k 0) → IsNotGreaterOn events r others more
    → IsNotGreaterOn events r sources more
not_greater_same events r sources others more same most k b at before =
    let here = same k b at in
    let less = most k b at (λ j d earlier there. before j d earlier there ∙ same j d there) in
    omega (arith, here, less)

-- what fills a read does so beside any sources of other reads
pub fills_as_well : (box : Box) (r : ℕ) (sources others : List ℕ) → AreSources (box_events box) sources → AreSources (box_events box) others
    → AgreeOn (box_events box) r sources others → IsFilled box r sources → IsFilled box r others
fills_as_well box r sources others sourced other_sourced agree filled = grind (arith, value_agrees)

-- sources that lie in the box do so for each read
pub on_read : (box : Box) (r : ℕ) (sources : List ℕ) → AreSourcesIn box sources → LieOn box r sources
on_read box r sources lie = record { sourced = lie.sourced; within = λ k b w at source. lie.within k w source }

-- ---- a list for each read
module _ (box : Box) (chosen : ℕ → List ℕ) where
  abbrev events : List Event
  events = box_events box

  -- the sources of byte reads, of which the first has the place k, each as the list of its read has it
  abbrev pub together_from : ℕ → List (ℕ × ℕ) → List ℕ
  together_from k [] = []
  together_from k (p ∷ reads) = get_or (chosen p.0) k 0 ∷ together_from (k + 1) reads

  abbrev pub together : List ℕ
  together = together_from 0 (byte_reads events)

  length-together_from : (k : ℕ) (reads : List (ℕ × ℕ)) → length (together_from k reads) ≡ length reads
  length-together_from k [] = refl
  length-together_from k (p ∷ reads) = ap suc (length-together_from (k + 1) reads)

  together_from-at : (k i : ℕ) (reads : List (ℕ × ℕ)) (p : ℕ × ℕ) → slice_get reads i ≡ Some p
      → slice_get (together_from k reads) i ≡ Some (get_or (chosen p.0) (k + i) 0)
  together_from-at k i [] p at = absurd (none-some p at)
  together_from-at k zero (q ∷ reads) p at =
      let next : k ≡ k + 0 = omega arith in
      ap (λ (x : ℕ × ℕ). Some (get_or (chosen x.0) k 0)) (same_Some q p at) ∙ ap (λ (j : ℕ). Some (get_or (chosen p.0) j 0)) next
  together_from-at k (suc i) (q ∷ reads) p at =
      let next : (k + 1) + i ≡ k + suc i = omega arith in
      together_from-at (k + 1) i reads p at ∙ ap (λ (j : ℕ). Some (get_or (chosen p.0) j 0)) next

  module _ (of_events : AreOfEvents events) (lie : (r : ℕ) → r < length events → LieOn box r (chosen r)) where
    pub together_agrees : (r : ℕ) → r < length events → AgreeOn events r together (chosen r)
    together_agrees r known k b at =
        let inside : k < length (chosen r) = omega (arith, (lie r known).sourced.one_each, slice_get_within (byte_reads events) k (r, b) at) in
        let next : 0 + k ≡ k = omega arith in
        together_from-at 0 k (byte_reads events) (r, b) at
        ∙ ap (λ (j : ℕ). Some (get_or (chosen r) j 0)) next
        ∙ sym (slice_get-get_or (chosen r) k 0 inside)

    pub together_lies : AreSourcesIn box together
    together_lies = record {
      sourced = record {
        one_each = length-together_from 0 (byte_reads events);
        each = λ k r b w at source.
            let known : r < length events = of_events.known k r b at in
            (lie r known).sourced.each k r b w at (sym (together_agrees r known k b at) ∙ source);
      };
      within = λ k w source.
          let inside : k < length (byte_reads events) = omega (arith, length-together_from 0 (byte_reads events), slice_get_within together k w source) in
          let read = byte_read_at events k in
          let at : slice_get (byte_reads events) k ≡ Some read = slice_get-get_or (byte_reads events) k (0, 0) inside in
          let known : read.0 < length events = of_events.known k read.0 read.1 at in
          (lie read.0 known).within k read.1 w at (sym (together_agrees read.0 known k read.1 at) ∙ source);
    }

    pub together_fills : ((r : ℕ) → r < length events → IsFilled box r (chosen r)) → (r : ℕ) → r < length events → IsFilled box r together
    together_fills filled r known =
        fills_as_well box r (chosen r) together (lie r known).sourced together_lies.sourced (λ k b at. sym (together_agrees r known k b at)) (filled r known)

-- ---- two lists: one for some reads, and one for the others
module _ (box : Box) (of_events : AreOfEvents (box_events box)) (given : ℕ → Type 0) (given_or_not : (r : ℕ) → given r ⊎ ¬ given r) (own base : List ℕ)
    (own_lie : (r : ℕ) → given r → LieOn box r own) (base_lie : (r : ℕ) → ¬ given r → LieOn box r base) where
  choose : (r : ℕ) → given r ⊎ ¬ given r → List ℕ
  choose r (inl is) = own
  choose r (inr other) = base

  chosen : ℕ → List ℕ
  chosen r = choose r (given_or_not r)

  chosen_own : (r : ℕ) → given r → chosen r ≡ own
  unfolding choose chosen
  chosen_own r is = grind (arith, given_or_not)

  chosen_base : (r : ℕ) → ¬ given r → chosen r ≡ base
  unfolding choose chosen
  chosen_base r other = grind (arith, given_or_not)

  chosen_lie : (r : ℕ) → r < length (box_events box) → LieOn box r (chosen r)
  chosen_lie r known = elim (given_or_not r) [
    | inl is ↦ subst (LieOn box r) (sym (chosen_own r is)) (own_lie r is)
    | inr other ↦ subst (LieOn box r) (sym (chosen_base r other)) (base_lie r other)
  ]

  pub joined : List ℕ
  joined = together box chosen

  pub joined_lie : AreSourcesIn box joined
  unfolding joined
  joined_lie = together_lies box chosen of_events chosen_lie

  pub joined_own : (r : ℕ) → r < length (box_events box) → given r → AgreeOn (box_events box) r joined own
  unfolding joined
  joined_own r known is = subst (AgreeOn (box_events box) r joined) (chosen_own r is) (together_agrees box chosen of_events chosen_lie r known)

  pub joined_base : (r : ℕ) → r < length (box_events box) → ¬ given r → AgreeOn (box_events box) r joined base
  unfolding joined
  joined_base r known other = subst (AgreeOn (box_events box) r joined) (chosen_base r other) (together_agrees box chosen of_events chosen_lie r known)

  pub joined_fill : ((r : ℕ) → given r → IsFilled box r own) → ((r : ℕ) → r < length (box_events box) → ¬ given r → IsFilled box r base) → (r : ℕ)
      → r < length (box_events box) → IsFilled box r joined
  unfolding joined
  joined_fill own_filled base_filled =
      together_fills box chosen of_events chosen_lie (λ r known. elim (given_or_not r) [
        | inl is ↦ subst (IsFilled box r) (sym (chosen_own r is)) (own_filled r is)
        | inr other ↦ subst (IsFilled box r) (sym (chosen_base r other)) (base_filled r known other)
      ])

-- ---- other sources for one read
module _ (box : Box) (of_events : AreOfEvents (box_events box)) (r : ℕ) (own base : List ℕ) (lie : LieOn box r own) (base_in : AreSourcesIn box base) where
  is_read : (q : ℕ) → (q ≡ r) ⊎ (q ≢ r)
  is_read q = cases_eq q r

  read_lies : (q : ℕ) → q ≡ r → LieOn box q own
  read_lies q same = subst (λ (p : ℕ). LieOn box p own) (sym same) lie

  others_lie : (q : ℕ) → q ≢ r → LieOn box q base
  others_lie q other = on_read box q base base_in

  pub replaced : List ℕ
  replaced = joined box of_events (λ q. q ≡ r) is_read own base read_lies others_lie

  pub replaced_lie : AreSourcesIn box replaced
  unfolding replaced
  replaced_lie = joined_lie box of_events (λ q. q ≡ r) is_read own base read_lies others_lie

  pub replaced_own : AgreeOn (box_events box) r replaced own
  unfolding replaced
  replaced_own k b at = joined_own box of_events (λ q. q ≡ r) is_read own base read_lies others_lie r (of_events.known k r b at) refl k b at

  pub replaced_base : (q : ℕ) → q ≢ r → AgreeOn (box_events box) q replaced base
  unfolding replaced
  replaced_base q other k b at =
      joined_base box of_events (λ p. p ≡ r) is_read own base read_lies others_lie q (of_events.known k q b at) other k b at

  pub replaced_fill : IsFilled box r own → ((q : ℕ) → q < length (box_events box) → IsFilled box q base) → (q : ℕ) → q < length (box_events box)
      → IsFilled box q replaced
  unfolding replaced
  replaced_fill filled others =
      joined_fill box of_events (λ q. q ≡ r) is_read own base read_lies others_lie
      (λ q same. subst (λ (p : ℕ). IsFilled box p own) (sym same) filled) (λ q known other. others q known)

-- ---- where each read can be filled
module _ (box : Box) (of_events : AreOfEvents (box_events box)) (fills : (r : ℕ) → r < length (box_events box) → CanFill box r) where
  pick : (r : ℕ) → (r < length (box_events box)) ⊎ (length (box_events box) ≤ r) → List ℕ
  pick r (inl known) = (fills r known).0
  pick r (inr past) = []

  picked : ℕ → List ℕ
  picked r = pick r (cases_lt r (length (box_events box)))

  pick_fills : (r : ℕ) → r < length (box_events box) → AreSourcesIn box (picked r) × IsFilled box r (picked r)
  unfolding pick picked
  pick_fills r known = grind (arith, cases_lt)

  picked_lie : (r : ℕ) → r < length (box_events box) → LieOn box r (picked r)
  picked_lie r known = on_read box r (picked r) (pick_fills r known).0

  pub filled_together : (sources : List ℕ) × AreSourcesIn box sources × ((r : ℕ) → r < length (box_events box) → IsFilled box r sources)
  filled_together = (
    together box picked,
    together_lies box picked of_events picked_lie,
    together_fills box picked of_events picked_lie (λ r known. (pick_fills r known).1),
  )
