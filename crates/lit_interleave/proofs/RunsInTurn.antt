-- The execution of an interleaving: the runs of its agents, and the last writers before each read. It is valid.
use Rattle.lit_interleave.proofs.Words.{◌&&◌, ◌+◌, ◌++◌, ◌<◌, [], accesses_on, agent_of, AgreesWith, All, ap, append_assoc, ap₂}
use Rattle.lit_interleave.proofs.Words.{AreOfEvents, arith, beginning, cases_lt, decisions_on, does_read, End, ending, Event, event_at}
use Rattle.lit_interleave.proofs.Words.{events_of, Execution, execution_events, execution_outcome, false, filter-append, flat_map, get_or}
use Rattle.lit_interleave.proofs.Words.{get_or-map, get_or-map-range_with_len, get_or_from_slice_get, get_or_past, HasExecution}
use Rattle.lit_interleave.proofs.Words.{HasValidChosenReads, if◌then◌else◌, inl, inr, interleaved, IsCandidateExecution, IsLitmus}
use Rattle.lit_interleave.proofs.Words.{IsMemoryOrder, IsRun, IsSequential, IsValidExecution, IsWalk, length, length-append, length-map}
use Rattle.lit_interleave.proofs.Words.{length-map-range_with_len, List, Litmus, makers_of, map, maps, no_run, None, Option, outcome_of}
use Rattle.lit_interleave.proofs.Words.{Path, Progress, progress_of, range_with_len, read_numbers-accesses, read_numbers_from, refl}
use Rattle.lit_interleave.proofs.Words.{replicate, Run, run_path, same_lists, slice_get, slice_get-map-found, slice_get-map-known}
use Rattle.lit_interleave.proofs.Words.{slice_get_right, slice_get_within, Some, subst, sym, take, take-append-le, take-map, take_all}
use Rattle.lit_interleave.proofs.Words.{taken_each, taken_together, true, value_of, ℕ, ◌∙◌, ◌∷◌, ◌≡◌, ◌≤◌}
use Rattle.lit_paths.specs.Path.{events_on}
use Rattle.lit_paths.proofs.ChoiceLists.{sources_of-iff}
use Rattle.lit_paths.proofs.PathLists.{walks_of-iff}
use Rattle.lit_interleave.proofs.ActLemmas.{after_event, found_at, found_in_turn, is_owned_by, same_agent}
use Rattle.lit_interleave.proofs.FutureLemmas.{Future, ending_agents, no_progress, own_events, interleaving_future}
use Rattle.lit_interleave.proofs.MomentLemmas.{at_first}
use Rattle.lit_interleave.proofs.TimeLemmas.{IsTimeline, order_in_turn, owners_in_turn, AreAccessesOf, accesses_of, retained_at, number_in_lists, own_at, owner_is, start_in, timeline}
use Rattle.lit_interleave.proofs.WriterLemmas.{are_sources, sequential, sources_in_turn, block_after, value_found}

block_more : (block : List ℕ) (es : List Event) (e : Event) → block_after block (es ++ e ∷ []) ≡ after_event e (block_after block es)
block_more block [] e = refl
block_more block (x ∷ es) e = block_more (after_event x block) es e

module _ (t : Litmus) (schedule : List ℕ) (litmus : IsLitmus t) (future : Future (beginning t) (ending t schedule) (λ agent. 0) (makers_of t schedule)) where
  abbrev pub acts : List Event
  acts = future.acts

  abbrev count : ℕ
  count = length t.agents

  abbrev pub run_of : ℕ → Run
  run_of i = record {
    values = found_in_turn i (replicate t.bytes 0) acts;
    decisions = decisions_on (future.course i).steps;
    events = own_events i acts;
    registers = (progress_of (ending t schedule) i).registers;
  }

  abbrev pub runs : List Run
  runs = map run_of (range_with_len 0 count)

  abbrev pub lists : List (List Event)
  lists = map (λ run. run.events) runs

  run_at : (i : ℕ) → i < count → get_or runs i no_run ≡ run_of i
  run_at i lt = get_or-map-range_with_len run_of 0 count i i no_run lt (let e : 0 + i ≡ i = omega arith in e)

  all_runs : length runs ≡ count
  all_runs = length-map-range_with_len run_of 0 count

  all_lists : length lists ≡ count
  all_lists = length-map runs (λ run. run.events) ∙ all_runs

  -- ---- the runs
  begun : (i : ℕ) → i < count → progress_of (beginning t) i ≡ at_first (agent_of t i)
  begun i lt = get_or-map at_first t.agents i (record { name = []; body = End }) no_progress lt

  walked : (i : ℕ) → i < count → IsWalk (agent_of t i).body (future.course i).steps
  walked i lt = subst (λ (p : Progress). IsWalk p.left (future.course i).steps) (begun i lt) (future.course i).walked

  is_run : (i : ℕ) → i < count → IsRun i (agent_of t i).body (run_of i)
  is_run i lt =
      let c = future.course i in
      let same : events_on i 0 c.steps ≡ own_events i acts = sym c.own in
      record {
        steps = c.steps;
        walked = (walks_of-iff (agent_of t i).body c.steps).1 (walked i lt);
        taken = ap (λ (es : List Event). record { decisions = decisions_on c.steps; events = es }) same;
        agrees = subst (λ (p : Progress). AgreesWith c.steps p.registers (run_of i).values (progress_of (ending t schedule) i).registers)
            (begun i lt) c.agrees;
      }

  -- ---- the acts as a timeline
  own : (i : ℕ) → i < length lists → get_or lists i [] ≡ own_events i acts
  own i lt =
      let inside : i < count = omega (arith, lt, all_lists) in
      get_or-map (λ (run : Run). run.events) runs i no_run [] (omega (arith, inside, all_runs)) ∙ ap (λ (run : Run). run.events) (run_at i inside)

  made : (i : ℕ) → i < length lists → AreAccessesOf t.bytes i 0 (own_events i acts)
  made i lt =
      let inside : i < count = omega (arith, lt, all_lists) in
      subst (AreAccessesOf t.bytes i 0) (sym (future.course i).own) (accesses_of t.bytes i (agent_of t i).body (future.course i).steps (litmus.bodies i inside) (walked i inside))

  no_more : (i : ℕ) → count ≤ i → own_events i acts ≡ []
  no_more i past =
      let c = future.course i in
      let ended : progress_of (beginning t) i ≡ no_progress = get_or_past (beginning t).agents i no_progress
      (omega (arith, past, length-map t.agents at_first)) in
      let none : c.steps ≡ [] = subst (λ (p : Progress). IsWalk p.left c.steps) ended c.walked in
      c.own ∙ ap (events_on i 0) none

  owned : (k : ℕ) (e : Event) → slice_get acts k ≡ Some e → (i : ℕ) × (i < length lists) × (e.owner ≡ Some i)
  owned k e at =
      let maker = slice_get-map-known (λ (agent : ℕ). Some agent) (makers_of t schedule) k e.owner
      (ap (λ (os : List (Option ℕ)). slice_get os k) (sym future.made_by) ∙ slice_get-map-found (λ (x : Event). x.owner) acts k e at) in
      let i = maker.0 in
      elim (cases_lt i count) [
        | inl lt ↦ (i, omega (arith, all_lists), sym maker.2)
        | inr past ↦
            let there = retained_at (λ (x : Event). is_owned_by i x.owner) acts k e at (ap (is_owned_by i) (sym maker.2) ∙ same_agent i) in
            let inside = slice_get_within (own_events i acts) (length (own_events i (take k acts))) e there in
            absurd (omega (arith, inside, ap (λ (es : List Event). length es) (no_more i past)))
      ]

  abbrev pub events : List Event
  events = events_of t.bytes lists

  abbrev pub number : Event → ℕ
  number = number_in_lists t.bytes lists

  pub in_time : IsTimeline t.bytes events acts number
  in_time = timeline t.bytes acts lists own made owned

  abbrev pub sources : List ℕ
  sources = sources_in_turn t.bytes events acts number in_time

  abbrev pub order : List ℕ
  order = order_in_turn t.bytes acts number

  abbrev pub execution : Execution
  execution = record { runs = runs; sources = sources }

  -- ---- what the reads of a run take
  abbrev value : ℕ → ℕ
  value = value_of events sources

  taken_in_turn : (i : ℕ) → i < count → (before rest : List Event) → acts ≡ before ++ rest
      → found_in_turn i (block_after (replicate t.bytes 0) before) rest ≡ map value (read_numbers_from ((t.bytes + start_in lists i) + length (own_events i before)) (own_events i rest))
  taken_in_turn i lt before [] is = refl
  taken_in_turn i lt before (e ∷ es) is =
      let k = length before in
      let at : slice_get acts k ≡ Some e = ap (λ (xs : List Event). slice_get xs k) is ∙ slice_get_right before (e ∷ es) k 0
      (let e : k ≡ length before + 0 = omega arith in e) in
      let front : take k acts ≡ before = ap (take k) is ∙ take-append-le k before (e ∷ es) (omega arith)
      ∙ take_all k before (omega arith) in
      let block = block_after (replicate t.bytes 0) before in
      let base = t.bytes + start_in lists i in
      let n = base + length (own_events i before) in
      let found = found_in_turn i (after_event e block) es in
      let later : ℕ → List ℕ = λ m. map value (read_numbers_from m (own_events i es)) in
      let next = base + length (own_events i (before ++ e ∷ [])) in
      let long : length (own_events i (before ++ e ∷ [])) ≡ length (own_events i before) + length (own_events i (e ∷ [])) =
      ap (λ (xs : List Event). length xs) (filter-append (λ (x : Event). is_owned_by i x.owner) before (e ∷ []))
      ∙ length-append (own_events i before) (own_events i (e ∷ [])) in
      let again : found ≡ later next = ap (λ (b : List ℕ). found_in_turn i b es) (sym (block_more (replicate t.bytes 0) before e))
      ∙ taken_in_turn i lt (before ++ e ∷ []) es (is ∙ sym (append_assoc before (e ∷ []) es)) in
      (elim (is_owned_by i e.owner) as (λ o. is_owned_by i e.owner ≡ o → (if o && does_read e.kind then found_at e block ∷ found else found)
      ≡ map value (read_numbers_from n (if o then e ∷ own_events i es else own_events i es))) [
        | false ↦ λ h. let same : next ≡ n = omega (arith, rw h at long) in again ∙ ap later same
        | true ↦ λ h.
            let mine = own_at t.bytes acts lists own made owned k e i (omega (arith, all_lists)) at (owner_is i e.owner h) in
            let same : next ≡ n + 1 = omega (arith, rw h at long) in
            (elim (does_read e.kind) as (λ r. does_read e.kind ≡ r → (if r then found_at e block ∷ found else found)
            ≡ map value (if r then n ∷ read_numbers_from (n + 1) (own_events i es) else read_numbers_from (n + 1) (own_events i es))) [
              | false ↦ λ reads. again ∙ ap later same
              | true ↦ λ reads. ap₂ (λ (v : ℕ) (vs : List ℕ). v ∷ vs)
                  (ap (λ (xs : List Event). found_at e (block_after (replicate t.bytes 0) xs)) (sym front)
                  ∙ sym (value_found t.bytes events acts number in_time k e at reads)
                  ∙ ap value (mine.numbered ∙ ap (λ (xs : List Event). base + length (own_events i xs)) front)) (again ∙ ap later same)
            ]) refl
      ]) refl

  starts : (i : ℕ) → start_in lists i ≡ length (accesses_on (take i (map run_path runs)))
  starts i =
      ap (λ (ess : List (List Event)). length (flat_map (λ (es : List Event). es) ess))
      (take-map (λ (run : Run). run.events) i runs ∙ sym (maps run_path (λ (path : Path). path.events) (take i runs)) ∙ ap (map (λ (path : Path). path.events)) (sym (take-map run_path i runs)))

  which : (i : ℕ) (run : Run) → slice_get runs i ≡ Some run → (i < count) × (run_of i ≡ run)
  which i run at =
      let lt : i < count = omega (arith, slice_get_within runs i run at, all_runs) in
      (lt, sym (run_at i lt) ∙ get_or_from_slice_get runs i run no_run at)

  pub chosen_reads : HasValidChosenReads t execution
  chosen_reads =
      taken_together value t.bytes runs (taken_each value t.bytes runs (λ i run at.
      let w = which i run at in
      subst (λ (r : Run). r.values ≡ map value (read_numbers_from (t.bytes + length (accesses_on (take i (map run_path runs)))) r.events)) w.1
      (taken_in_turn i w.0 [] acts refl
      ∙ ap (λ (m : ℕ). map value (read_numbers_from m (own_events i acts))) (let e : (t.bytes + start_in lists i) + 0 ≡ t.bytes + length (accesses_on (take i (map run_path runs))) = omega (arith, starts i) in e))))
      ∙ sym (ap (map value) (read_numbers-accesses t.bytes (flat_map (λ (es : List Event). es) lists)))

  -- ---- the execution
  pub candidate : AreOfEvents events → IsCandidateExecution t execution
  candidate of = record {
    one_each = all_runs;
    each = λ i run at. let w = which i run at in subst (IsRun i (agent_of t i).body) w.1 (is_run i w.0);
    sourced = (sources_of-iff events sources).1 (are_sources t.bytes events acts number in_time of);
  }

  pub one_order : AreOfEvents events → IsSequential events sources order
  one_order of = sequential t.bytes events acts number in_time of

  pub its_outcome : execution_outcome t execution ≡ interleaved t schedule
  its_outcome =
      let agents = (ending t schedule).agents in
      let long : length agents ≡ count = ending_agents t schedule in
      ap (outcome_of t)
      (same_lists (map (λ (run : Run). run.registers) runs) (map (λ (p : Progress). p.registers) agents)
      (length-map runs (λ (run : Run). run.registers) ∙ all_runs ∙ sym long ∙ sym (length-map agents (λ (p : Progress). p.registers))) (λ k d inside.
      let lt : k < count = omega (arith, inside, all_runs, length-map runs (λ (run : Run). run.registers)) in
      get_or-map (λ (run : Run). run.registers) runs k no_run d (omega (arith, lt, all_runs))
      ∙ ap (λ (run : Run). run.registers) (run_at k lt)
      ∙ sym (get_or-map (λ (p : Progress). p.registers) agents k no_progress d (omega (arith, lt, long)))))

  pub in_turn : map (λ e. (event_at events e).owner) order ≡ replicate t.bytes None ++ map (λ agent. Some agent) (makers_of t schedule)
  in_turn = owners_in_turn t.bytes events acts number in_time ∙ ap (λ (os : List (Option ℕ)). replicate t.bytes None ++ os) future.made_by

-- ---- each schedule has a valid execution
pub has_execution : ((events : List Event) → AreOfEvents events)
    → ((t : Litmus) (x : Execution) (order : List ℕ) → IsCandidateExecution t x → HasValidChosenReads t x → IsSequential (execution_events t x) x.sources order
    → IsValidExecution t x × IsMemoryOrder (execution_events t x) x.sources order)
    → (t : Litmus) (schedule : List ℕ) → IsLitmus t → All (λ agent. agent < length t.agents) schedule → HasExecution t schedule
has_execution of law t schedule litmus known =
    let future = interleaving_future t schedule known (λ agent. 0) in
    let x = execution t schedule litmus future in
    let list = order t schedule litmus future in
    let is = of (events t schedule litmus future) in
    let both = law t x list (candidate t schedule litmus future is) (chosen_reads t schedule litmus future) (one_order t schedule litmus future is) in (
      x,
      list,
      record {
        valid = both.0;
        result = its_outcome t schedule litmus future;
        sequential = one_order t schedule litmus future is;
        ordered = both.1;
        in_turn = in_turn t schedule litmus future;
      },
    )
