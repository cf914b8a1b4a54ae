-- Guards of a path, and the values that its registers observe, from the values that its reads take.
use Rattle.std.proofs.Common.{◌≡◌, ◌≢◌, ℕ, zero, suc, ◌+◌, ◌<◌, ◌==◌, ◌&&◌, Bool, true, false, cond, Option, Some, None, List, [], ◌∷◌, length, map, get_or, zip, refl, sym, ap, subst, ◌∙◌, arith, eq-eqb}
use Rattle.std.specs.Prelude.{IsTrue, slice_get, slice_index, slice_index_or}
use Rattle.std.specs.List.{list_all, range_with_len}
use Rattle.std.proofs.lemmas.Bool.Decides.{nat_tests}
use Rattle.std.proofs.lemmas.List.Folds.{list_all_at}
use Rattle.std.proofs.lemmas.Option.{slice_get_within, get_or_from_slice_get}
use Rattle.lit_syntax.specs.declared.limits.TheConstants.{REGISTERS}
use Rattle.lit_syntax.specs.Syntax.{Litmus, Window, agent_of}
use Rattle.lit_paths.specs.declared.event.Event.{Event}
use Rattle.lit_paths.specs.declared.path.Tested.{Tested}
use Rattle.lit_paths.specs.Event.{does_read, event_at}
use Rattle.lit_paths.specs.Path.{Path, Step, LoadMet, StoreMet, ExchangeMet, CompareExchangeMet, IfMet, events_on, path_on, compare_exchange_event}
use Rattle.lit_paths.specs.PathModel.{IsReadAt, last_read, guards_on}
use Rattle.lit_paths.specs.Plan.{IsWalkIn, combination_at, events_in, first_event, path_in, walk_in}
use Rattle.lit_paths.specs.Run.{Run, compares}
use Rattle.lit_paths.specs.Told.{TellsRuns, chosen_on, is_true_of, read_places, value_at, value_on}
use Rattle.lit_rel.specs.Broken.{number_on}
use Rattle.lit_rel.specs.ReadsFrom.{value_of}
use Rattle.lit_valid.specs.ValidExecution.{read_numbers_from}
use Rattle.lit_valid.specs.Internal.GivenRuns.{HasGivenRun, IsGivenRun, path_at, taken_by}
use Rattle.lit_valid.specs.PartOutcome.{observed_read, observed_value}

-- each read takes one value
pub length-taken : (value : ℕ → ℕ) (n : ℕ) (es : List Event) → length (map value (read_numbers_from n es)) ≡ length (read_places es)
length-taken value n [] = refl
length-taken value n (e ∷ es) = by (does_read e.kind) (length-taken value (n + 1) es)
  where
    by : (b : Bool) → length (map value (read_numbers_from (n + 1) es)) ≡ length (read_places es)
        → length (map value (cond b (n ∷ read_numbers_from (n + 1) es) (read_numbers_from (n + 1) es))) ≡ length (cond b (e.place ∷ read_places es) (read_places es))
    by true rest = ap suc rest
    by false rest = rest

-- the path of a walk
pub path_walked : (t : Litmus) (c agent : ℕ) (steps : List Step) → IsWalkIn t c agent steps → path_at t c agent ≡ path_on agent steps
path_walked t c agent steps is = get_or_from_slice_get (combination_at t c) agent (path_on agent steps) _ is.listed

-- ---- values by place
-- the events have places from this one on
abbrev ArePlaced : ℕ → List Event → Type 0
ArePlaced place [] = Unit {0}
ArePlaced place (e ∷ es) = (e.place ≡ place) × ArePlaced (place + 1) es

placed-exchange : (owner place : ℕ) (window : Window) (index value : ℕ) (succeeds : Bool) → (compare_exchange_event owner place window index value succeeds).place ≡ place
placed-exchange owner place window index value true = refl
placed-exchange owner place window index value false = refl

placed-on : (owner place : ℕ) (steps : List Step) → ArePlaced place (events_on owner place steps)
placed-on owner place [] = tt
placed-on owner place (LoadMet reg window index atomic ∷ steps) = (refl, placed-on owner (place + 1) steps)
placed-on owner place (StoreMet window index value atomic ∷ steps) = (refl, placed-on owner (place + 1) steps)
placed-on owner place (ExchangeMet reg window index value ∷ steps) = (refl, placed-on owner (place + 1) steps)
placed-on owner place (CompareExchangeMet reg window index expected value succeeds ∷ steps) = (placed-exchange owner place window index value succeeds, placed-on owner (place + 1) steps)
placed-on owner place (IfMet reg equal value holds ∷ steps) = placed-on owner place steps

module _ (value : ℕ → ℕ) where
  -- the values of the reads of these events, each with its place
  abbrev placed_values : ℕ → List Event → List (ℕ × ℕ)
  placed_values n es = zip (read_places es) (map value (read_numbers_from n es))

  value_there : (n place k : ℕ) (es : List Event) → ArePlaced place es → k < length es → IsTrue (does_read (event_at es k).kind) → value_at (placed_values n es) (place + k) ≡ value (n + k)
  value_there n place k [] placed inside reads = absurd (omega (arith, inside))
  value_there n place zero (e ∷ es) placed inside reads =
      ap (λ (b : Bool). value_at (zip (cond b (e.place ∷ read_places es) (read_places es)) (map value (cond b (n ∷ read_numbers_from (n + 1) es) (read_numbers_from (n + 1) es)))) (place + 0)) reads
      ∙ ap (λ (b : Bool). cond b (value n) (value_at (placed_values (n + 1) es) (place + 0))) (eq-eqb e.place (place + 0) (omega (arith, placed.0)))
      ∙ ap value (let e : n ≡ n + 0 = omega arith in e)
  value_there n place (suc k) (e ∷ es) placed inside reads =
      by (does_read e.kind) (ap (λ (p : ℕ). value_at (placed_values (n + 1) es) p) (let same : place + suc k ≡ (place + 1) + k = omega arith in same)
      ∙ value_there (n + 1) (place + 1) k es placed.1 (omega (arith, inside)) reads ∙ ap value (let same : (n + 1) + k ≡ n + suc k = omega arith in same))
    where
      not_here : (e.place == (place + suc k)) ≡ false
      not_here = let at : e.place ≡ place = placed.0 in let other : e.place ≢ place + suc k = λ same. absurd (omega (arith, at, same)) in grind (arith, nat_tests)

      by : (b : Bool) → value_at (placed_values (n + 1) es) (place + suc k) ≡ value (n + suc k)
          → value_at (zip (cond b (e.place ∷ read_places es) (read_places es)) (map value (cond b (n ∷ read_numbers_from (n + 1) es) (read_numbers_from (n + 1) es)))) (place + suc k) ≡ value (n + suc k)
      by true rest = ap (λ b. cond b (value n) (value_at (placed_values (n + 1) es) (place + suc k))) not_here ∙ rest
      by false rest = rest

index-map : (f : Option ℕ → ℕ) → f None ≡ 0 → (xs : List (Option ℕ)) (k : ℕ) → slice_index (map f xs) k ≡ f (slice_index_or xs k None)
index-map f none [] k = sym none
index-map f none (x ∷ xs) zero = refl
index-map f none (x ∷ xs) (suc k) = index-map f none xs k

-- what a map of a range has at a place, where it has something
index-range : (f : ℕ → Option ℕ) (low count k v : ℕ) → slice_index_or (map f (range_with_len low count)) k None ≡ Some v → f (low + k) ≡ Some v
index-range f low zero k v at = absurd (let e = at in cc)
index-range f low (suc count) zero v at = ap f (let e : low + 0 ≡ low = omega arith in e) ∙ at
index-range f low (suc count) (suc k) v at = ap f (let e : low + suc k ≡ (low + 1) + k = omega arith in e) ∙ index-range f (low + 1) count k v at

-- whether a guard is true of a run that is given what its reads take
abbrev pub holds : Litmus → ℕ → ℕ → List ℕ → Tested → Bool
holds t c agent sources test = compares test.equal (observed_value (record { test = t; combination = c; sources = sources }) (number_on (first_event t c agent) test.on)) test.value

-- ---- the runs of an agent on its path
module _ (t : Litmus) (c agent : ℕ) (sources : List ℕ) (walk : IsWalkIn t c agent (walk_in t c agent))
    (tells : TellsRuns agent (agent_of t agent).body (path_on agent (walk_in t c agent)) (path_in t c agent)) where
  abbrev steps : List Step
  steps = walk_in t c agent

  abbrev chosen : List (ℕ × ℕ)
  chosen = chosen_on (path_at t c agent).events (taken_by t c sources agent)

  -- what the read at a place takes
  taken_there : (place : Option ℕ) → ((k : ℕ) → place ≡ Some k → IsReadAt (path_on agent steps).events k)
      → value_on chosen place ≡ observed_value (record { test = t; combination = c; sources = sources }) (number_on (first_event t c agent) place)
  taken_there None reads = refl
  taken_there (Some k) reads =
      let same : path_at t c agent ≡ path_on agent steps = path_walked t c agent steps walk in
      let is : IsReadAt (path_at t c agent).events k = subst (λ (p : Path). IsReadAt p.events k) (sym same) (reads k refl) in
      let placed : ArePlaced 0 (path_at t c agent).events = subst (λ (p : Path). ArePlaced 0 p.events) (sym same) (placed-on agent 0 steps) in
      ap (λ (p : ℕ). value_at chosen p) (let e : k ≡ 0 + k = omega arith in e)
      ∙ value_there (value_of (events_in t c) sources) (first_event t c agent) 0 k (path_at t c agent).events placed is.0 is.1

  guard_there : (k : ℕ) (test : Tested) → slice_get (guards_on steps) k ≡ Some test → is_true_of chosen test ≡ holds t c agent sources test
  guard_there k test at = ap (λ (v : ℕ). compares test.equal v test.value) (taken_there test.on (λ place on. walk.guards_reads k place test at on))

  -- a run on the path
  on_walk : (run : Run) → IsGivenRun t c sources agent run → (record { decisions = run.decisions; events = run.events }) ≡ path_on agent steps
  on_walk run given = given.on_path ∙ path_walked t c agent steps walk

  chosen_of : (run : Run) → IsGivenRun t c sources agent run → chosen_on (path_on agent steps).events run.values ≡ chosen
  chosen_of run given = ap (λ (p : Path). chosen_on p.events run.values) (sym (path_walked t c agent steps walk)) ∙ ap (λ (vs : List ℕ). chosen_on (path_at t c agent).events vs) given.given

  -- of such a run each guard is true
  pub true_of_run : (run : Run) → IsGivenRun t c sources agent run → (k : ℕ) (test : Tested) → slice_get (guards_on steps) k ≡ Some test → holds t c agent sources test ≡ true
  true_of_run run given k test at =
      let all : list_all (is_true_of chosen) (guards_on steps) ≡ true = ap (λ (vs : List (ℕ × ℕ)). list_all (is_true_of vs) (guards_on steps)) (sym (chosen_of run given)) ∙ tells.true_of run given.is_run (on_walk run given) in
      by (is_true_of chosen test) refl all
    where
      by : (b : Bool) → is_true_of chosen test ≡ b → list_all (is_true_of chosen) (guards_on steps) ≡ true → holds t c agent sources test ≡ true
      by true is all = sym (guard_there k test at) ∙ is
      by false is all =
          let inside : k < length (guards_on steps) = slice_get_within (guards_on steps) k test at in
          let here : is_true_of chosen (get_or (guards_on steps) k test) ≡ false = ap (is_true_of chosen) (get_or_from_slice_get (guards_on steps) k test test at) ∙ is in
          absurd (let e : true ≡ false = sym all ∙ list_all_at (is_true_of chosen) (guards_on steps) k test inside here in cc)

  -- if each guard is true, there is such a run
  pub run_where_true : ((k : ℕ) (test : Tested) → slice_get (guards_on steps) k ≡ Some test → holds t c agent sources test ≡ true) → HasGivenRun t c sources agent
  run_where_true each =
      let es = (path_on agent steps).events in
      let same : path_on agent steps ≡ path_at t c agent = sym (path_walked t c agent steps walk) in
      let values = taken_by t c sources agent in
      let long : length values ≡ length (read_places es) = length-taken (value_of (events_in t c) sources) (first_event t c agent) (path_at t c agent).events ∙ ap (λ (p : Path). length (read_places p.events)) (sym same) in
      let all : list_all (is_true_of (chosen_on es values)) (guards_on steps) ≡ true =
      ap (λ (p : Path). list_all (is_true_of (chosen_on p.events values)) (guards_on steps)) same ∙ every (is_true_of chosen) (guards_on steps) (λ k test at. guard_there k test at ∙ each k test at) in
      (_, record { is_run = tells.run values long all; on_path = same; given = refl })
    where
      every : (p : Tested → Bool) (ts : List Tested) → ((k : ℕ) (test : Tested) → slice_get ts k ≡ Some test → p test ≡ true) → list_all p ts ≡ true
      every p [] each = refl
      every p (test ∷ ts) each = ap (λ (b : Bool). b && list_all p ts) (each 0 test refl) ∙ every p ts (λ k other at. each (suc k) other at)

  -- what a register has at the end of such a run
  pub observed_by_run : (run : Run) (reg : ℕ) → IsGivenRun t c sources agent run → slice_index run.registers reg ≡ observed_value (record { test = t; combination = c; sources = sources }) (observed_read t c (agent, reg))
  observed_by_run run reg given =
      let lasts : List (Option ℕ) = (path_in t c agent).last in
      ap (λ (rs : List ℕ). slice_index rs reg) (tells.observed run given.is_run (on_walk run given) ∙ ap (λ (vs : List (ℕ × ℕ)). map (value_on vs) lasts) (chosen_of run given))
      ∙ index-map (value_on chosen) refl lasts reg
      ∙ taken_there (slice_index_or lasts reg None) (λ k at. walk.holds_reads (0 + reg) k (index-range (last_read steps) 0 REGISTERS reg k at))
