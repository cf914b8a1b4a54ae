-- What follows from the invariant of a plan.
use Rattle.std.proofs.Common.{◌≡◌, ◌⊎◌, ℕ, zero, suc, ◌+◌, ◌-◌, ◌<◌, ◌≤◌, List, [], ◌∷◌, length, flat_map, take, get_or, arith, sym, ap, ◌∙◌, subst, add-one, length-append, inl, inr}
use Rattle.std.specs.Prelude.{slice_index}
use Rattle.std.specs.List.Sorted.{IsNonDecreasingBy}
use Rattle.std.proofs.lemmas.Bool.{cases_lt}
use Rattle.std.proofs.lemmas.List.FromFn.{length-map-range_with_len, get_or-map-range_with_len}
use Rattle.std.proofs.lemmas.Option.{slice_get-get_or}
use Rattle.lit_syntax.specs.Syntax.{Litmus, IsLitmus}
use Rattle.lit_paths.specs.declared.limits.TheConstants.{COMBINATION_LIMIT, CHOICE_LIMIT}
use Rattle.lit_paths.specs.Choice.{sources_of, combinations_of, choices_of, choices_on, candidates_of}
use Rattle.lit_paths.specs.declared.planning.Plan.TheInside.{Inside}
use Rattle.lit_paths.specs.Path.{Step}
use Rattle.lit_paths.specs.Plan.{events_in, choices_before, walk_in, AreEventsIn, IsOfCombination, IsWalkIn}
use Rattle.lit_paths.specs.Members.{ListsCandidates}
use Rattle.lit_paths.specs.declared.event.Event.{Event}
use Rattle.lit_paths.specs.Event.{no_event}
use Rattle.lit_paths.specs.Internal.Planned.{IsPlanned}
use Rattle.lit_paths.specs.Internal.Totals.{totals_below}
use Rattle.lit_paths.proofs.AgentPaths.{count_of-some}
use Rattle.lit_paths.proofs.CombinedPaths.{count_of-combinations, path_at, walk_in-walks}
use Rattle.lit_paths.proofs.PathSteps.{length-guards_on, guards_reads, holds_reads}
use Rattle.lit_paths.proofs.Placed.{agent-stands}
use Rattle.lit_paths.proofs.EventFacts.{are_events}
use Rattle.lit_paths.proofs.Candidates.{candidates_of-known, candidates_of-found, candidates_from-rising}
use Rattle.lit_paths.proofs.Totals.{before_more, before_all, before_le, some_choice, of_combination}

-- ---- totals rise
joined_mono : {A B : Type 0} (f : A → List B) (xs : List A) (i j : ℕ) → i ≤ j → length (flat_map f (take i xs)) ≤ length (flat_map f (take j xs))
joined_mono f xs zero j le = omega arith
joined_mono f [] (suc i) zero le = omega arith
joined_mono f [] (suc i) (suc j) le = omega arith
joined_mono f (x ∷ xs) (suc i) zero le = absurd (omega (arith, le))
joined_mono f (x ∷ xs) (suc i) (suc j) le =
    omega (arith, length-append (f x) (flat_map f (take i xs)), length-append (f x) (flat_map f (take j xs)), joined_mono f xs i j (omega (arith, le)))

pub before_mono : (t : Litmus) (i j : ℕ) → i ≤ j → choices_before t i ≤ choices_before t j
before_mono t i j le = joined_mono (choices_on t.bytes) (combinations_of t) i j le

pub length-totals : (t : Litmus) (count : ℕ) → length (totals_below t count) ≡ count
length-totals t count = length-map-range_with_len (λ c. choices_before t (c + 1)) 0 count

pub totals-at : (t : Litmus) (count c d : ℕ) → c < count → get_or (totals_below t count) c d ≡ choices_before t (c + 1)
totals-at t count c d inside = get_or-map-range_with_len (λ k. choices_before t (k + 1)) 0 count c c d inside (omega arith)

pub totals-rise : (t : Litmus) (count : ℕ) → IsNonDecreasingBy (λ (x : ℕ). x) (totals_below t count)
totals-rise t count i j d le inside =
    let there : j < count = omega (arith, inside, length-totals t count) in
    omega (arith, totals-at t count i d (omega (arith, le, there)), totals-at t count j d there, before_mono t (i + 1) (j + 1) (omega (arith, le)))

-- a choice with one of a combination's numbers is of it
pub of_numbered : (t : Litmus) (n c : ℕ) → c < length (combinations_of t) → choices_before t c ≤ n → n < choices_before t (c + 1) → IsOfCombination t n c
of_numbered t n c known low high =
    let place : ℕ = n - choices_before t c in
    let within : place < length (sources_of (events_in t c)) = omega (arith, low, high, before_more t c known) in
    of_combination t c n (get_or (sources_of (events_in t c)) place []) known low high (slice_get-get_or (sources_of (events_in t c)) place [] within)

-- the choice with a number is one of a combination's
pub record IsFound (t : Litmus) (n c : ℕ) : Type 0 where
  pub known : c < length (combinations_of t)
  pub low : choices_before t c ≤ n
  pub high : n < choices_before t (c + 1)

-- ---- the plan of a test
module _ (p : Inside) (is : IsPlanned p) where
  abbrev t : Litmus
  t = p.paths

  abbrev totals : List ℕ
  totals = p.totals.items

  pub planned-few : length (combinations_of t) ≤ COMBINATION_LIMIT
  planned-few = omega (arith, is.limits.short.few, count_of-combinations t)

  pub planned-some : 1 ≤ length (combinations_of t)
  planned-some = omega (arith, count_of-some t.agents, count_of-combinations t)

  pub planned-length : length totals ≡ length (combinations_of t)
  planned-length = ap (λ ns. length ns) is.all_totals ∙ length-totals t (length (combinations_of t))

  pub planned-at : (c d : ℕ) → c < length (combinations_of t) → get_or totals c d ≡ choices_before t (c + 1)
  planned-at c d inside = ap (λ ns. get_or ns c d) is.all_totals ∙ totals-at t (length (combinations_of t)) c d inside

  pub planned-rise : IsNonDecreasingBy (λ (x : ℕ). x) totals
  planned-rise = subst (λ (ns : List ℕ). IsNonDecreasingBy (λ (x : ℕ). x) ns) (sym is.all_totals) (totals-rise t (length (combinations_of t)))

  pub planned-events : (c : ℕ) → c < length (combinations_of t) → AreEventsIn t.bytes (events_in t c)
  planned-events c known = are_events t c is.limits.litmus is.limits.short.short known

  pub planned-total : choices_before t (length (combinations_of t)) ≡ length (choices_of t)
  planned-total = before_all t (length (combinations_of t)) (omega arith)

  pub planned-below : (c : ℕ) → choices_before t c ≤ CHOICE_LIMIT
  planned-below c = omega (arith, before_le t c, is.few_choices)

  pub planned-end : (c : ℕ) → c < length (combinations_of t) → 1 ≤ choices_before t (c + 1)
  planned-end c known = omega (arith, some_choice t.bytes (events_in t c) (planned-events c known), before_more t c known)

  -- the combination that a binary search finds
  found-known : (n c : ℕ) → n < length (choices_of t) → c ≤ length totals → ((k : ℕ) → k < c → slice_index totals k ≤ n) → c < length (combinations_of t)
  found-known n c known bound earlier =
      let last : ℕ = length (combinations_of t) - 1 in
      let at : get_or totals last 0 ≡ choices_before t (last + 1) = planned-at last 0 (omega (arith, planned-some)) in
      let same : choices_before t (last + 1) ≡ choices_before t (length (combinations_of t)) = ap (choices_before t) (omega (arith, planned-some)) in
      let step : (last < c) → ⊥ = λ past. absurd (omega (arith, earlier last past, at, same, planned-total, known)) in
      let decided : (last < c) ⊎ (c ≤ last) = cases_lt last c in
      elim decided [ inl past ↦ absurd (step past) | inr below ↦ omega (arith, below, planned-some) ]

  found-low : (n c : ℕ) → c ≤ length (combinations_of t) → ((k : ℕ) → k < c → slice_index totals k ≤ n) → choices_before t c ≤ n
  found-low n zero bound earlier = omega arith
  found-low n (suc k) bound earlier =
      omega (arith, earlier k (omega arith), planned-at k 0 (omega (arith, bound)), ap (choices_before t) (add-one k))

  found-high : (n c : ℕ) → c < length (combinations_of t) → ((k : ℕ) → c ≤ k → k < length totals → n < slice_index totals k) → n < choices_before t (c + 1)
  found-high n c known later = omega (arith, later c (omega arith) (omega (arith, known, planned-length)), planned-at c 0 known)

  pub found : (n c : ℕ) (ends : List ℕ) (test : Litmus) → ends ≡ totals → t ≡ test → n < length (choices_of test) → c ≤ length ends
      → ((k : ℕ) → k < c → slice_index ends k ≤ n) → ((k : ℕ) → c ≤ k → k < length ends → n < slice_index ends k) → IsFound test n c
  found n c ends test same shown inside bound earlier later =
      subst (λ (u : Litmus). n < length (choices_of u) → IsFound u n c) shown
      (subst
      (λ (ns : List ℕ). c ≤ length ns → ((k : ℕ) → k < c → slice_index ns k ≤ n) → ((k : ℕ) → c ≤ k → k < length ns → n < slice_index ns k) → n < length (choices_of t) → IsFound t n c)
      (sym same) from_totals bound earlier later)
      inside
    where
      from_totals : c ≤ length totals → ((k : ℕ) → k < c → slice_index totals k ≤ n) → ((k : ℕ) → c ≤ k → k < length totals → n < slice_index totals k) → n < length (choices_of t) → IsFound t n c
      from_totals bound earlier later inside =
          let known : c < length (combinations_of t) = found-known n c inside bound earlier in
          record { known = known; low = found-low n c (omega (arith, known)) earlier; high = found-high n c known later }

-- ---- the walk of an agent in a combination
pub walk_in-known : (t : Litmus) (c agent : ℕ) → IsLitmus t → c < length (combinations_of t) → agent < length t.agents → IsWalkIn t c agent (walk_in t c agent)
walk_in-known t c agent litmus known inside =
    let steps : List Step = walk_in t c agent in
    let stands = agent-stands t c agent known inside in
    record {
      said = litmus.bodies agent inside;
      walked = walk_in-walks t c agent known inside;
      listed = path_at t c agent known inside;
      one_guard_each = length-guards_on steps;
      guards_reads = λ k place test at on. guards_reads agent steps k place test at on;
      holds_reads = λ r place at. holds_reads agent steps r place at;
      within = stands.within;
      numbered = λ place within. stands.each place no_event within;
    }

pub lists-candidates : (events : List Event) (r b : ℕ) → ListsCandidates events r b (candidates_of events (r, b))
lists-candidates events r b = record {
  only = λ k w at. candidates_of-known events r b k w at;
  all = λ w is. candidates_of-found events r b w is;
  rising = λ i j v w less here there. candidates_from-rising (r, b) 0 events i j v w less here there;
}
