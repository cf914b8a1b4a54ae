-- How many choices the combinations have, one after the other, and which choice has a number.
use Rattle.std.proofs.Common.{◌≡◌, ℕ, Bool, zero, suc, true, false, drop, ◌+◌, ◌-◌, ◌<◌, ◌≤◌, List, [], ◌∷◌, ◌++◌, length, map, flat_map, take, get_or, slice_get, Some, arith, refl, sym, ap, ◌∙◌, subst, add-one, length-append}
use Rattle.std.proofs.lemmas.List.{length-drop, length-map, take_all}
use Rattle.std.proofs.lemmas.Option.{slice_get-get_or, slice_get_within, same_Some}
use Rattle.lit_syntax.specs.Syntax.{Litmus}
use Rattle.lit_paths.specs.declared.event.Event.{Event}
use Rattle.lit_paths.specs.Event.{event_at, init_event, no_event, does_read, does_write}
use Rattle.lit_paths.specs.declared.limits.TheConstants.{CANDIDATE_LIMIT}
use Rattle.lit_paths.specs.Path.{Path}
use Rattle.lit_paths.specs.ByteReads.{byte_reads, pair_of}
use Rattle.lit_paths.specs.Choice.{Choice, candidates_of, is_candidate, sources_of, combinations_of, choices_on, choices_of, product}
use Rattle.lit_paths.specs.Members.{AreSources}
use Rattle.lit_paths.specs.Plan.{combination_at, events_in, choices_before, AreEventsIn, IsOfCombination, HasSources}
use Rattle.lit_paths.proofs.Products.{slice_get_left, slice_get_right, product-some, AreSome-map}
use Rattle.lit_paths.proofs.Rising.{slice_get-map-found}
use Rattle.lit_paths.proofs.ByteReads.{byte_reads-known}
use Rattle.lit_paths.proofs.Candidates.{candidates_from, candidates_from-candidate, candidates_from-other, candidates_of-found, is_candidate-parts, length-candidates_from}
use Rattle.lit_paths.proofs.ChoiceLists.{events_on, choice_on, AreSources-sources_of}
use Rattle.lit_paths.specs.declared.byte_reads.ByteRead.{ByteRead}
use Rattle.lit_paths.specs.Execution.{execution_choice}
use Rattle.lit_paths.specs.declared.combination.Combination.TheInside.{Inside}
use Rattle.lit_paths.specs.Internal.CandidateLists.{candidates_for, candidate_lists}
use Rattle.lit_paths.specs.Internal.Entered.{IsEntered}
use Rattle.lit_paths.proofs.PathLists.{combinations_of-known}
use Rattle.lit_paths.proofs.RunPaths.{runs-on_paths}
use Rattle.lit_paths.proofs.WaySteps.{candidate_lists-are}

-- ---- lists joined end to end
joined_more : {A B : Type 0} (f : A → List B) (xs : List A) (c : ℕ) (d : A) → c < length xs
    → length (flat_map f (take (suc c) xs)) ≡ length (flat_map f (take c xs)) + length (f (get_or xs c d))
joined_more f [] c d inside = absurd (omega (arith, inside))
joined_more f (x ∷ xs) zero d inside = omega (arith, length-append (f x) [])
joined_more f (x ∷ xs) (suc c) d inside =
    omega (
      arith,
      length-append (f x) (flat_map f (take (suc c) xs)),
      length-append (f x) (flat_map f (take c xs)),
      joined_more f xs c d (omega (arith, inside)),
    )

joined_at : {A B : Type 0} (f : A → List B) (xs : List A) (c n : ℕ) (d : A) → c < length xs → length (flat_map f (take c xs)) ≤ n → n < length (flat_map f (take (suc c) xs))
    → slice_get (flat_map f xs) n ≡ slice_get (f (get_or xs c d)) (n - length (flat_map f (take c xs)))
joined_at f [] c n d inside low high = absurd (omega (arith, inside))
joined_at f (x ∷ xs) zero n d inside low high =
    slice_get_left (f x) (flat_map f xs) n (omega (arith, high, length-append (f x) []))
    ∙ ap (λ k. slice_get (f x) k) (let e : n ≡ n - 0 = omega arith in e)
joined_at f (x ∷ xs) (suc c) n d inside low high =
    let first : ℕ = length (f x) in
    let split = length-append (f x) (flat_map f (take c xs)) in
    let next = length-append (f x) (flat_map f (take (suc c) xs)) in
    slice_get_right (f x) (flat_map f xs) n (n - first) (omega (arith, low, split))
    ∙ joined_at f xs c (n - first) d (omega (arith, inside)) (omega (arith, low, split)) (omega (arith, high, next, low, split))
    ∙ ap (λ k. slice_get (f (get_or xs c d)) k) (let e : (n - first) - length (flat_map f (take c xs)) ≡ n - length (f x ++ flat_map f (take c xs)) = omega (arith, split, low) in e)

joined_le : {A B : Type 0} (f : A → List B) (xs : List A) (c : ℕ) → length (flat_map f (take c xs)) ≤ length (flat_map f xs)
joined_le f [] zero = omega arith
joined_le f [] (suc c) = omega arith
joined_le f (x ∷ xs) zero = omega arith
joined_le f (x ∷ xs) (suc c) =
    omega (arith, joined_le f xs c, length-append (f x) (flat_map f (take c xs)), length-append (f x) (flat_map f xs))

-- ---- the choices of the combinations
length-choices_on : (bytes : ℕ) (paths : List Path) → length (choices_on bytes paths) ≡ length (sources_of (events_on bytes paths))
length-choices_on bytes paths = length-map (sources_of (events_on bytes paths)) (choice_on paths)

pub before_more : (t : Litmus) (c : ℕ) → c < length (combinations_of t) → choices_before t (c + 1) ≡ choices_before t c + length (sources_of (events_in t c))
before_more t c known =
    ap (choices_before t) (add-one c) ∙ joined_more (choices_on t.bytes) (combinations_of t) c [] known
    ∙ ap (λ n. choices_before t c + n) (length-choices_on t.bytes (combination_at t c))

pub before_le : (t : Litmus) (c : ℕ) → choices_before t c ≤ length (choices_of t)
unfolding choices_of
before_le t c = joined_le (choices_on t.bytes) (combinations_of t) c

pub before_all : (t : Litmus) (c : ℕ) → length (combinations_of t) ≤ c → choices_before t c ≡ length (choices_of t)
unfolding choices_of
before_all t c past = ap (λ ps. length (flat_map (choices_on t.bytes) ps)) (take_all c (combinations_of t) past)

pub choice_in : (t : Litmus) (c n : ℕ) (sources : List ℕ) → c < length (combinations_of t) → choices_before t c ≤ n → n < choices_before t (c + 1)
    → slice_get (sources_of (events_in t c)) (n - choices_before t c) ≡ Some sources
    → slice_get (choices_of t) n ≡ Some (choice_on (combination_at t c) sources)
unfolding choices_of
choice_in t c n sources known low high at =
    joined_at (choices_on t.bytes) (combinations_of t) c n [] known low (omega (arith, high, ap (choices_before t) (add-one c)))
    ∙ slice_get-map-found (choice_on (combination_at t c)) (sources_of (events_in t c)) (n - choices_before t c) sources at

-- ---- each byte read has a candidate: the event that makes the byte
pub some_candidate : (bytes : ℕ) (events : List Event) (i r b : ℕ) → AreEventsIn bytes events → slice_get (byte_reads events) i ≡ Some (r, b) → 1 ≤ length (candidates_of events (r, b))
some_candidate bytes events i r b are at =
    let read = byte_reads-known events i r b at in
    let inside : b < bytes = omega (arith, are.in_block r read.0, read.2.1) in
    let made : event_at events b ≡ init_event b = are.making b inside in
    let found = candidates_of-found events r b b (record {
      known = omega (arith, inside, are.made);
      writes = ap (λ (e : Event). does_write e.kind) made;
      in_range = (omega (arith, ap (λ (e : Event). e.first) made), omega (arith, ap (λ (e : Event). e.first) made, ap (λ (e : Event). e.size) made));
      other = λ same. let clash : false ≡ true = sym (ap (λ (e : Event). does_read e.kind) made) ∙ ap (λ k. does_read (event_at events k).kind) same ∙ read.1 in cc;
    }) in
    omega (arith, slice_get_within (candidates_of events (r, b)) found.0 b found.1)

pub ways-some : (bytes : ℕ) (events : List Event) (reads : List ByteRead) (i : ℕ) (read : ByteRead) → AreEventsIn bytes events → map pair_of reads ≡ byte_reads events
    → slice_get reads i ≡ Some read → 1 ≤ length (candidates_for events read)
ways-some bytes events reads i read are same at =
    some_candidate bytes events i read.read read.byte are (ap (λ ps. slice_get ps i) (sym same) ∙ slice_get-map-found pair_of reads i read at)

-- ---- each byte read has few candidates: the event that makes the byte, and accesses
-- of the events from number n on, behind the one that makes the byte
few-behind : (bytes : ℕ) (events : List Event) (r b k n : ℕ) → AreEventsIn bytes events → n + k ≡ bytes → b < n → length (candidates_from (r, b) n (drop n events)) ≤ length events - bytes
few-behind bytes events r b zero n are here low = omega (arith, here, length-candidates_from (r, b) n (drop n events), length-drop n events)
few-behind bytes events r b (suc k) n are here low =
    let inside : n < length events = omega (arith, here, are.made) in
    let made : event_at events n ≡ init_event n = are.making n (omega (arith, here)) in
    let by : (v : Bool) → is_candidate r b (n, event_at events n) ≡ v → length (candidates_from (r, b) n (drop n events)) ≤ length events - bytes
    = λ v. elim v as (λ v. is_candidate r b (n, event_at events n) ≡ v → length (candidates_from (r, b) n (drop n events)) ≤ length events - bytes) [
      | true ↦ λ test. absurd (omega (arith, low, (is_candidate-parts r b n (event_at events n) test).1, ap (λ (e : Event). e.first) made))
      | false ↦ λ test. omega (
        arith,
        ap (λ ws. length ws) (candidates_from-other (r, b) events n no_event inside test),
        few-behind bytes events r b k (n + 1) are (omega (arith, here)) (omega (arith, low)),
      )
    ] in
    by (is_candidate r b (n, event_at events n)) refl

few-from : (bytes : ℕ) (events : List Event) (r b k n : ℕ) → AreEventsIn bytes events → n + k ≡ bytes → length (candidates_from (r, b) n (drop n events)) ≤ (length events - bytes) + 1
few-from bytes events r b zero n are here = omega (arith, here, length-candidates_from (r, b) n (drop n events), length-drop n events)
few-from bytes events r b (suc k) n are here =
    let inside : n < length events = omega (arith, here, are.made) in
    let made : event_at events n ≡ init_event n = are.making n (omega (arith, here)) in
    let by : (v : Bool) → is_candidate r b (n, event_at events n) ≡ v → length (candidates_from (r, b) n (drop n events)) ≤ (length events - bytes) + 1
    = λ v. elim v as (λ v. is_candidate r b (n, event_at events n) ≡ v → length (candidates_from (r, b) n (drop n events)) ≤ (length events - bytes) + 1) [
      | true ↦ λ test.
          let parts = is_candidate-parts r b n (event_at events n) test in
          let low : b < n + 1 = omega (arith, parts.2, ap (λ (e : Event). e.first) made, ap (λ (e : Event). e.size) made) in
          omega (
            arith,
            ap (λ ws. length ws) (candidates_from-candidate (r, b) events n no_event inside test),
            few-behind bytes events r b k (n + 1) are (omega (arith, here)) low,
          )
      | false ↦ λ test. omega (
        arith,
        ap (λ ws. length ws) (candidates_from-other (r, b) events n no_event inside test),
        few-from bytes events r b k (n + 1) are (omega (arith, here)),
      )
    ] in
    by (is_candidate r b (n, event_at events n)) refl

pub few_candidates : (bytes : ℕ) (events : List Event) (read : ByteRead) → AreEventsIn bytes events → length (candidates_for events read) ≤ CANDIDATE_LIMIT
few_candidates bytes events read are = omega (arith, few-from bytes events read.read read.byte bytes 0 are (omega arith), are.few_accesses)

-- ---- the choice with a number, by its combination

pub of_combination : (t : Litmus) (c n : ℕ) (sources : List ℕ) → c < length (combinations_of t) → choices_before t c ≤ n → n < choices_before t (c + 1)
    → slice_get (sources_of (events_in t c)) (n - choices_before t c) ≡ Some sources → IsOfCombination t n c
of_combination t c n sources known low high at =
    let listed = choice_in t c n sources known low high at in
    record {
      choice = choice_on (combination_at t c) sources;
      listed = listed;
      known = known;
      decided = refl;
      sourced = AreSources-sources_of (events_in t c) (n - choices_before t c) sources at;
      on_paths = λ x is chosen.
          runs-on_paths t (combination_at t c) x (combinations_of-known t c (combination_at t c) (slice_get-get_or (combinations_of t) c [] known)) is
          (ap (λ (k : Choice). k.decisions) (same_Some (choice_on (combination_at t c) sources) (execution_choice x) (sym listed ∙ chosen)));
    }

pub has_sources : (t : Litmus) (c n : ℕ) (sources : List ℕ) → c < length (combinations_of t) → choices_before t c ≤ n → n < choices_before t (c + 1)
    → slice_get (sources_of (events_in t c)) (n - choices_before t c) ≡ Some sources → HasSources t n sources
has_sources t c n sources known low high at = record { choice = choice_on (combination_at t c) sources; listed = choice_in t c n sources known low high at; same = refl }

-- a combination has a choice
pub some_choice : (bytes : ℕ) (events : List Event) → AreEventsIn bytes events → 1 ≤ length (sources_of events)
some_choice bytes events are =
    product-some (map (candidates_of events) (byte_reads events))
    (AreSome-map (candidates_of events) (byte_reads events) (λ i read at. some_candidate bytes events i read.0 read.1 are at))

-- ---- what an entered combination has of its choices
module _ (x : Inside) (is : IsEntered x) where
  abbrev t : Litmus
  t = x.paths.now

  abbrev c : ℕ
  c = x.number

  abbrev lists : List (List ℕ)
  lists = candidate_lists x.formed.combination_paths.events.items x.formed.reads.items

  pub entered_lists : lists ≡ map (candidates_of (events_in t c)) (byte_reads (events_in t c))
  entered_lists =
      candidate_lists-are x.formed.combination_paths.events.items x.formed.reads.items is.formed.all_reads
      ∙ ap (λ (es : List Event). map (candidates_of es) (byte_reads es)) is.formed.combination_paths.events

  pub entered_count : length (product lists) ≡ length (sources_of (events_in t c))
  entered_count = ap (λ (ws : List (List ℕ)). length (product ws)) entered_lists

  pub entered_end : x.first + x.total ≡ choices_before t (c + 1)
  entered_end = omega (arith, is.before, is.formed.whole, before_more t c is.known, entered_count)

  pub entered_first : x.first < length (choices_of t)
  entered_first =
      let sound = subst (λ (es : List Event). AreEventsIn t.bytes es) is.formed.combination_paths.events is.formed.sound in
      omega (arith, is.before, some_choice t.bytes (events_in t c) sound, before_more t c is.known, before_le t (c + 1))

  entered_at : (n : ℕ) (sources : List ℕ) → slice_get (product lists) (n - x.first) ≡ Some sources → slice_get (sources_of (events_in t c)) (n - choices_before t c) ≡ Some sources
  entered_at n sources at =
      ap (λ (ws : List (List ℕ)). slice_get (product ws) (n - choices_before t c)) (sym entered_lists)
      ∙ ap (λ f. slice_get (product lists) (n - f)) (sym is.before) ∙ at

  -- the same, where the combination is seen as a pair
  module _ (p : Litmus × ℕ) (view : (t, c) ≡ p) (n : ℕ) (low : choices_before p.0 p.1 ≤ n) (high : n < choices_before p.0 (p.1 + 1)) where
    seen_low : choices_before t c ≤ n
    seen_low = omega (arith, low, ap (λ (q : Litmus × ℕ). choices_before q.0 q.1) view)

    seen_high : n < choices_before t (c + 1)
    seen_high = omega (arith, high, ap (λ (q : Litmus × ℕ). choices_before q.0 (q.1 + 1)) view)

    pub seen_place : n - x.first < length (product lists)
    seen_place = omega (arith, is.before, seen_low, seen_high, before_more t c is.known, entered_count)

    pub seen_first : x.first ≤ n
    seen_first = omega (arith, is.before, seen_low)

    pub seen_listed : (sources : List ℕ) → slice_get (product lists) (n - x.first) ≡ Some sources → HasSources p.0 n sources
    seen_listed sources at =
        subst (λ (q : Litmus × ℕ). HasSources q.0 n sources) view (has_sources t c n sources is.known seen_low seen_high (entered_at n sources at))

    pub seen_of : (sources : List ℕ) → slice_get (product lists) (n - x.first) ≡ Some sources → IsOfCombination p.0 n p.1
    seen_of sources at =
        subst (λ (q : Litmus × ℕ). IsOfCombination q.0 n q.1) view (of_combination t c n sources is.known seen_low seen_high (entered_at n sources at))

    pub seen_sourced : (sources : List ℕ) → slice_get (product lists) (n - x.first) ≡ Some sources → AreSources (events_in p.0 p.1) sources
    seen_sourced sources at =
        subst (λ (q : Litmus × ℕ). AreSources (events_in q.0 q.1) sources) view
        (AreSources-sources_of (events_in t c) (n - choices_before t c) sources (entered_at n sources at))
