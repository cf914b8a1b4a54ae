-- What an entered combination saves, for each agent and each byte read.
use Rattle.std.proofs.Common.{◌≡◌, ℕ, suc, ◌+◌, ◌*◌, ◌<◌, ◌≤◌, List, [], ◌∷◌, length, map, drop, get_or, slice_get, Some, arith, sym, ap, ◌∙◌, subst, add-one}
use Rattle.std.specs.List.{range_with_len}
use Rattle.std.proofs.lemmas.List.{length-map, get_or-map, drop-map}
use Rattle.std.proofs.lemmas.List.FromFn.{length-map-range_with_len, get_or-map-range_with_len}
use Rattle.std.proofs.lemmas.Option.{slice_get-get_or}
use Rattle.arrayvec.specs.ArrayVec.{ArrayVec}
use Rattle.lit_syntax.specs.Syntax.{Litmus}
use Rattle.lit_paths.specs.declared.combination.Combination.TheInside.{Inside}
use Rattle.lit_paths.specs.declared.event.Event.{Event}
use Rattle.lit_paths.specs.ByteReads.{byte_reads, byte_read_at}
use Rattle.lit_paths.specs.Choice.{product, candidates_of}
use Rattle.lit_paths.specs.Numbers.{length_product, ways_from}
use Rattle.lit_paths.specs.Plan.{events_in, AreEventsIn}
use Rattle.lit_paths.specs.Members.{ListsCandidates}
use Rattle.lit_paths.specs.Internal.CandidateLists.{ways_after}
use Rattle.lit_paths.specs.Internal.Entered.{IsEntered}
use Rattle.lit_paths.proofs.Digits.{later_ways}
use Rattle.lit_paths.proofs.PlanFacts.{lists-candidates}
use Rattle.lit_paths.proofs.Products.{length-product, product-some, AreSome-map, slice_get-drop}
use Rattle.lit_paths.proofs.Totals.{entered_lists, some_candidate}
use Rattle.lit_paths.proofs.WaySteps.{ways_after-at, length-ways_after}

-- ---- what is saved for each agent
pub agent_here : (t : Litmus) (c : ℕ) (p : Litmus × ℕ) → (t, c) ≡ p → (agent : ℕ) → agent < length p.0.agents → agent < length t.agents
agent_here t c p view agent inside = omega (arith, inside, ap (λ (q : Litmus × ℕ). length q.0.agents) view)

pub saved_length : (f : ℕ → ℕ) (t : Litmus) (c : ℕ) (p : Litmus × ℕ) → (t, c) ≡ p → (saved : List ℕ) (agent : ℕ) → saved ≡ map f (range_with_len 0 (length t.agents))
    → agent < length p.0.agents → agent < length saved
saved_length f t c p view saved agent is inside =
    omega (arith, agent_here t c p view agent inside, ap (λ (ns : List ℕ). length ns) is, length-map-range_with_len f 0 (length t.agents))

pub saved_at : (f : ℕ → ℕ) (t : Litmus) (c : ℕ) (p : Litmus × ℕ) → (t, c) ≡ p → (saved : List ℕ) (agent : ℕ) → saved ≡ map f (range_with_len 0 (length t.agents))
    → agent < length p.0.agents → get_or saved agent 0 ≡ f agent
saved_at f t c p view saved agent is inside =
    ap (λ (ns : List ℕ). get_or ns agent 0) is ∙ get_or-map-range_with_len f 0 (length t.agents) agent agent 0 (agent_here t c p view agent inside) (omega arith)

-- ---- what is saved for each byte read
pub length_product-is : (xss : List (List ℕ)) → length (product xss) ≡ length_product xss
length_product-is [] = omega arith
length_product-is (xs ∷ rest) = length-product xs rest ∙ ap (λ n. length xs * n) (length_product-is rest)

pub ways_from-later : (events : List Event) (k : ℕ) → later_ways (map (candidates_of events) (byte_reads events)) k ≡ ways_from events (k + 1)
ways_from-later events k =
    ap (λ (ws : List (List ℕ)). length (product ws)) (drop-map (candidates_of events) (suc k) (byte_reads events))
    ∙ length_product-is (map (candidates_of events) (drop (suc k) (byte_reads events)))
    ∙ ap (ways_from events) (sym (add-one k))

-- each list of candidates has a member
length-product-some : (events : List Event) (reads : List (ℕ × ℕ)) (k : ℕ) → ((i : ℕ) (read : ℕ × ℕ) → slice_get reads i ≡ Some read → 1 ≤ length (candidates_of events read))
    → 1 ≤ length (product (map (candidates_of events) (drop k reads)))
length-product-some events reads k each =
    product-some (map (candidates_of events) (drop k reads)) (AreSome-map (candidates_of events) (drop k reads) (λ i read at. each (k + i) read (sym (slice_get-drop k i reads) ∙ at)))

module _ (x : Inside) (is : IsEntered x) (p : Litmus × ℕ) (view : (x.paths.now, x.number) ≡ p) (place : ℕ) (inside : place < length (byte_reads (events_in p.0 p.1))) where
  abbrev all : List Event
  all = events_in x.paths.now x.number

  same_events : all ≡ events_in p.0 p.1
  same_events = ap (λ (q : Litmus × ℕ). events_in q.0 q.1) view

  read_here : place < length (byte_reads all)
  read_here = omega (arith, inside, ap (λ (es : List Event). length (byte_reads es)) same_events)

  abbrev lists : List (List ℕ)
  lists = map (candidates_of all) (byte_reads all)

  list_known : place < length lists
  list_known = omega (arith, read_here, length-map (byte_reads all) (candidates_of all))

  pub later_length : (saved : List ℕ) → saved ≡ x.formed.ways.later.items → place < length saved
  later_length saved is_saved =
      omega (
        arith,
        list_known,
        ap (λ (ns : List ℕ). length ns) (is_saved ∙ is.formed.all_later),
        ap (λ (ws : List (List ℕ)). length (ways_after ws)) (entered_lists x is),
        length-ways_after lists,
      )

  pub later_at : (saved : List ℕ) → saved ≡ x.formed.ways.later.items → get_or saved place 0 ≡ ways_from (events_in p.0 p.1) (place + 1)
  later_at saved is_saved =
      ap (λ (ns : List ℕ). get_or ns place 0) (is_saved ∙ is.formed.all_later ∙ ap (λ (ws : List (List ℕ)). ways_after ws) (entered_lists x is))
      ∙ ways_after-at lists place 0 list_known ∙ ways_from-later all place ∙ ap (λ (es : List Event). ways_from es (place + 1)) same_events

  pub later_some : (saved : List ℕ) → saved ≡ x.formed.ways.later.items → 1 ≤ get_or saved place 0
  later_some saved is_saved =
      let whole = length-product-some all (byte_reads all) (suc place) (λ i read at. some_candidate x.paths.now.bytes all i read.0 read.1 sound at) in
      omega (arith, whole, later_at saved is_saved, ap (λ (es : List Event). ways_from es (place + 1)) same_events, ways_from-later all place, ap (λ (ws : List (List ℕ)). length (product ws)) (drop-map (candidates_of all) (suc place) (byte_reads all)))
    where
      sound : AreEventsIn x.paths.now.bytes all
      sound = subst (λ (es : List Event). AreEventsIn x.paths.now.bytes es) is.formed.combination_paths.events is.formed.sound

  -- the saved list of candidates
  module _ (saved : List (ArrayVec ℕ)) (is_saved : saved ≡ x.formed.ways.candidates.items) where
    lists_are : map (λ (v : ArrayVec ℕ). v.items) saved ≡ lists
    lists_are = ap (λ (vs : List (ArrayVec ℕ)). map (λ v. v.items) vs) is_saved ∙ is.formed.all_candidates ∙ entered_lists x is

    pub list_length : place < length saved
    list_length = omega (arith, list_known, ap (λ (ws : List (List ℕ)). length ws) lists_are, length-map saved (λ (v : ArrayVec ℕ). v.items))

    here : (v : ArrayVec ℕ) (shown : List ℕ) → v ≡ get_or saved place v → shown ≡ v.items → shown ≡ candidates_of all (byte_read_at all place)
    here v shown at is_shown =
        let none : List ℕ = [] in
        is_shown ∙ ap (λ (w : ArrayVec ℕ). w.items) at ∙ sym (get_or-map (λ (w : ArrayVec ℕ). w.items) saved place v none list_length)
        ∙ ap (λ (ws : List (List ℕ)). get_or ws place none) lists_are
        ∙ get_or-map (candidates_of all) (byte_reads all) place (0, 0) none read_here

    pub list_value : (v : ArrayVec ℕ) (shown : List ℕ) → v ≡ get_or saved place v → shown ≡ v.items → shown ≡ candidates_of (events_in p.0 p.1) (byte_read_at (events_in p.0 p.1) place)
    list_value v shown at is_shown = here v shown at is_shown ∙ ap (λ (es : List Event). candidates_of es (byte_read_at es place)) same_events

    pub list_lists : (v : ArrayVec ℕ) (shown : List ℕ) → v ≡ get_or saved place v → shown ≡ v.items
        → ListsCandidates (events_in p.0 p.1) (byte_read_at (events_in p.0 p.1) place).0 (byte_read_at (events_in p.0 p.1) place).1 shown
    list_lists v shown at is_shown =
        let es : List Event = events_in p.0 p.1 in
        subst (λ (ws : List ℕ). ListsCandidates es (byte_read_at es place).0 (byte_read_at es place).1 ws) (sym (list_value v shown at is_shown))
        (lists-candidates es (byte_read_at es place).0 (byte_read_at es place).1)

    pub list_some : (v : ArrayVec ℕ) (shown : List ℕ) → v ≡ get_or saved place v → shown ≡ v.items → 1 ≤ length shown
    list_some v shown at is_shown =
        let read : ℕ × ℕ = byte_read_at all place in
        let some : 1 ≤ length (candidates_of all read) =
        some_candidate x.paths.now.bytes all place read.0 read.1 (subst (λ (es : List Event). AreEventsIn x.paths.now.bytes es) is.formed.combination_paths.events is.formed.sound)
        (slice_get-get_or (byte_reads all) place (0, 0) read_here) in
        omega (arith, some, ap (λ (ws : List ℕ). length ws) (here v shown at is_shown))
