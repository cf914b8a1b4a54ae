-- The events of a choice are those of its combination, and their owners are agents of the test.
use Rattle.std.proofs.Common.{◌≡◌, ℕ, zero, suc, ◌+◌, ◌<◌, Bool, true, false, cond, List, [], ◌∷◌, length, map, Some, refl, sym, ap, subst, ◌∙◌, arith}
use Rattle.std.specs.Prelude.{All, IfSome, find, slice_get}
use Rattle.std.specs.Option.{unwrap_or}
use Rattle.std.specs.List.{AllByRecursion, flat_map, range_with_len}
use Rattle.std.specs.Cmp.Lexicographic.{slice_cmp}
use Rattle.std.specs.Ordering.{nat_cmp, is_eq}
use Rattle.std.specs.declared.cmp.Ordering.{Ordering}
use Rattle.std.specs.declared.cmp.Ordering.TheVariants.{Less, Equal}
use Rattle.std.proofs.lemmas.List.Elements.{All-from_recursion}
use Rattle.std.proofs.lemmas.Option.{slice_get-get_or, slice_get_within}
use Rattle.lit_syntax.specs.Syntax.{Litmus, Window}
use Rattle.lit_paths.specs.declared.event.Event.{Event}
use Rattle.lit_paths.specs.Event.{init_event, init_events}
use Rattle.lit_paths.specs.Path.{Path, Step, LoadMet, StoreMet, ExchangeMet, CompareExchangeMet, IfMet, compare_exchange_event, events_on}
use Rattle.lit_paths.specs.Run.{Run, run_path}
use Rattle.lit_paths.specs.Choice.{Choice, choices_of, combinations_of, events_of}
use Rattle.lit_paths.specs.Members.{IsChoice, ListsCombinations}
use Rattle.lit_paths.specs.Execution.{Execution, execution_events, execution_choice, IsCandidateExecution}
use Rattle.lit_paths.specs.Plan.{HasSources, IsOfCombination, combination_at, events_in}
use Rattle.lit_report.specs.ChoiceEvents.{choice_at, choice_events}
use Rattle.lit_paths.proofs.RunPaths.{runs-on_paths}
use Rattle.lit_paths.proofs.Rising.{slice_cmp-same, nat_cmp-same}
use Rattle.lit_syntax.proofs.ListLemmas.{all_both}
use Rattle.lit_report.proofs.EntryFacts.{choice_at-is}

-- ---- the combination with some decisions
abbrev decisions_of : List Path → List (List ℕ)
decisions_of paths = map (λ path. path.decisions) paths

abbrev compared : List (List ℕ) → List (List ℕ) → Ordering
compared a b = slice_cmp (slice_cmp nat_cmp) a b

abbrev is_chosen : List (List ℕ) → List Path → Bool
is_chosen decisions paths = is_eq (compared (decisions_of paths) decisions)

compared-same : (ds : List (List ℕ)) → compared ds ds ≡ Equal
compared-same ds = slice_cmp-same (slice_cmp nat_cmp) (slice_cmp-same nat_cmp nat_cmp-same) ds

found_with : (combinations : List (List Path)) (c : ℕ) (paths : List Path) → slice_get combinations c ≡ Some paths
    → ((i : ℕ) (a : List Path) → i < c → slice_get combinations i ≡ Some a → compared (decisions_of a) (decisions_of paths) ≡ Less)
    → find (is_chosen (decisions_of paths)) combinations ≡ Some paths
found_with [] c paths at earlier = absurd (let e = at in cc)
found_with (p ∷ ps) zero paths at earlier =
    let same : p ≡ paths = (let e : Some p ≡ Some paths = at in cc) in
    ap (λ (o : Ordering). cond (is_eq o) (Some p) (find (is_chosen (decisions_of paths)) ps))
    (ap (λ (q : List Path). compared (decisions_of q) (decisions_of paths)) same ∙ compared-same (decisions_of paths)) ∙ ap Some same
found_with (p ∷ ps) (suc c) paths at earlier =
    ap (λ (o : Ordering). cond (is_eq o) (Some p) (find (is_chosen (decisions_of paths)) ps)) (earlier 0 p (omega arith) refl)
    ∙ found_with ps c paths at (λ i a less here. earlier (suc i) a (omega (arith, less)) here)

pub choice_events-are : (t : Litmus) (n c : ℕ) → ListsCombinations t → (of : IsOfCombination t n c) → choice_events t of.choice ≡ events_in t c
choice_events-are t n c lists of =
    let paths = combination_at t c in
    let at : slice_get (combinations_of t) c ≡ Some paths = slice_get-get_or (combinations_of t) c [] of.known in
    ap (λ ds. events_of t.bytes (map (λ (path : Path). path.events) (unwrap_or (find (is_chosen ds) (combinations_of t)) []))) (sym of.decided)
    ∙ ap (λ found. events_of t.bytes (map (λ (path : Path). path.events) (unwrap_or found []))) (found_with (combinations_of t) c paths at (λ i a less here. lists.rising i c a paths less here at))

maps : (f : Path → List Event) (runs : List Run) → map f (map run_path runs) ≡ map (λ run. f (run_path run)) runs
maps f [] = refl
maps f (r ∷ rs) = ap (λ ess. f (run_path r) ∷ ess) (maps f rs)

-- the executions of the choice have the combination's events
pub executed : (t : Litmus) (n c : ℕ) → IsOfCombination t n c → (x : Execution) → IsCandidateExecution t x → slice_get (choices_of t) n ≡ Some (execution_choice x) → execution_events t x ≡ events_in t c
executed t n c of x candidate at =
    ap (events_of t.bytes) (sym (maps (λ path. path.events) x.runs) ∙ ap (map (λ (path : Path). path.events)) (of.on_paths x candidate at))

-- and so has each candidate execution that has the choice
pub chosen_events : (t : Litmus) → ListsCombinations t → (x : Execution) → IsCandidateExecution t x → IsChoice t (execution_choice x)
    → choice_events t (execution_choice x) ≡ execution_events t x
chosen_events t lists x candidate chosen =
    let paths = chosen.paths in
    let at = lists.all paths chosen.combined in
    let on : map run_path x.runs ≡ paths = runs-on_paths t paths x chosen.combined candidate chosen.decided in
    ap (λ ds. events_of t.bytes (map (λ (path : Path). path.events) (unwrap_or (find (is_chosen ds) (combinations_of t)) []))) (sym chosen.decided)
    ∙ ap (λ found. events_of t.bytes (map (λ (path : Path). path.events) (unwrap_or found [])))
    (found_with (combinations_of t) at.0 paths at.1 (λ i a less here. lists.rising i at.0 a paths less here at.1))
    ∙ ap (λ (ps : List Path). events_of t.bytes (map (λ (path : Path). path.events) ps)) (sym on)
    ∙ ap (events_of t.bytes) (maps (λ path. path.events) x.runs)

-- ---- the owners of events
-- the event's owner, where it has one, is one of so many agents
abbrev pub IsOwned : ℕ → Event → Type 0
IsOwned agents e = IfSome e.owner (λ agent. agent < agents)

made_owned : (agents low count : ℕ) → AllByRecursion (IsOwned agents) (map init_event (range_with_len low count))
made_owned agents low zero = tt
made_owned agents low (suc count) = (tt, made_owned agents (low + 1) count)

exchange_owned : (agents owner place : ℕ) (window : Window) (index value : ℕ) (succeeds : Bool) → owner < agents → IsOwned agents (compare_exchange_event owner place window index value succeeds)
exchange_owned agents owner place window index value true lt = lt
exchange_owned agents owner place window index value false lt = lt

steps_owned : (agents owner place : ℕ) (steps : List Step) → owner < agents → AllByRecursion (IsOwned agents) (events_on owner place steps)
steps_owned agents owner place [] lt = tt
steps_owned agents owner place (LoadMet reg window index atomic ∷ steps) lt = (lt, steps_owned agents owner (place + 1) steps lt)
steps_owned agents owner place (StoreMet window index value atomic ∷ steps) lt = (lt, steps_owned agents owner (place + 1) steps lt)
steps_owned agents owner place (ExchangeMet reg window index value ∷ steps) lt = (lt, steps_owned agents owner (place + 1) steps lt)
steps_owned agents owner place (CompareExchangeMet reg window index expected value succeeds ∷ steps) lt = (exchange_owned agents owner place window index value succeeds lt, steps_owned agents owner (place + 1) steps lt)
steps_owned agents owner place (IfMet reg equal value holds ∷ steps) lt = steps_owned agents owner place steps lt

paths_owned : (agents : ℕ) (paths : List Path) → ((i : ℕ) (path : Path) → slice_get paths i ≡ Some path → AllByRecursion (IsOwned agents) path.events)
    → AllByRecursion (IsOwned agents) (flat_map (λ es. es) (map (λ path. path.events) paths))
paths_owned agents [] each = tt
paths_owned agents (p ∷ ps) each =
    all_both (IsOwned agents) p.events (flat_map (λ es. es) (map (λ (path : Path). path.events) ps)) (each 0 p refl) (paths_owned agents ps (λ i path at. each (suc i) path at))

pub events_owned : (t : Litmus) (c : ℕ) → ListsCombinations t → c < length (combinations_of t) → All (IsOwned (length t.agents)) (events_in t c)
events_owned t c lists known =
    let combined = lists.only c (combination_at t c) (slice_get-get_or (combinations_of t) c [] known) in
    All-from_recursion (IsOwned (length t.agents)) (events_in t c)
    (all_both (IsOwned (length t.agents)) (init_events t.bytes) _ (made_owned (length t.agents) 0 t.bytes)
    (paths_owned (length t.agents) (combination_at t c) (λ i path at.
    let is = combined.each i path at in
    let inside : i < length t.agents = omega (arith, combined.one_each, slice_get_within (combination_at t c) i path at) in
    subst (λ (p : Path). AllByRecursion (IsOwned (length t.agents)) p.events) is.taken (steps_owned (length t.agents) i 0 is.steps inside))))

-- ---- an entered combination of the test's plan
pub entered_is : (plan : Litmus) (entered : Litmus × ℕ) → entered.0 ≡ plan → entered ≡ (plan, entered.1)
entered_is plan entered same = ap (λ (t : Litmus). (t, entered.1)) same

pub of_plan : (plan : Litmus) (n : ℕ) (entered : Litmus × ℕ) → entered.0 ≡ plan → IsOfCombination entered.0 n entered.1 → IsOfCombination plan n entered.1
of_plan plan n entered same of = let P : Litmus → Type 0 = λ t. IsOfCombination t n entered.1 in subst P same of

module _ (plan test : Litmus) (n c : ℕ) (entered : Litmus × ℕ) (events : List Event) (same : plan ≡ test) (is : entered ≡ (plan, c)) (made : events ≡ events_in entered.0 entered.1) (of : IsOfCombination plan n c) where
  pub entered_events : events ≡ events_in plan c
  entered_events = made ∙ ap (λ (e : Litmus × ℕ). events_in e.0 e.1) is

  pub entered_owned : ListsCombinations plan → All (IsOwned (length test.agents)) events
  entered_owned lists =
      subst (λ (t : Litmus). All (IsOwned (length t.agents)) events) same
      (subst (λ (es : List Event). All (IsOwned (length plan.agents)) es) (sym entered_events) (events_owned plan c lists of.known))

  pub entered_choice : ListsCombinations plan → events ≡ choice_events test (choice_at test n)
  entered_choice lists =
      entered_events ∙ sym (choice_events-are plan n c lists of) ∙ ap (choice_events plan) (sym (choice_at-is plan n of.choice of.listed))
      ∙ ap (λ (t : Litmus). choice_events t (choice_at t n)) same

  pub entered_sources : (items sources : List ℕ) → HasSources entered.0 n items → sources ≡ items → sources ≡ (choice_at test n).sources
  entered_sources items sources has as_items =
      let here : HasSources plan n items = subst (λ (e : Litmus × ℕ). HasSources e.0 n items) is has in
      as_items ∙ sym here.same ∙ ap (λ (ch : Choice). ch.sources) (sym (choice_at-is plan n here.choice here.listed)) ∙ ap (λ (t : Litmus). (choice_at t n).sources) same
