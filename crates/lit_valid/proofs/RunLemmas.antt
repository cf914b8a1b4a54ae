-- Runs on the paths of a combination, whose reads are given what they take from the sources.
use Rattle.std.proofs.Common.{◌≡◌, ℕ, ◌+◌, ◌<◌, List, [], ◌∷◌, length, map, take, get_or, Some, refl, sym, ap, ◌∙◌}
use Rattle.std.specs.Prelude.{slice_get}
use Rattle.std.specs.List.{flat_map}
use Rattle.std.proofs.lemmas.List.{get_or-map}
use Rattle.std.proofs.lemmas.Option.{slice_get_within, get_or_from_slice_get}
use Rattle.lit_syntax.specs.Syntax.{Litmus, agent_of}
use Rattle.lit_paths.specs.declared.event.Event.{Event}
use Rattle.lit_paths.specs.Path.{Path}
use Rattle.lit_paths.specs.Plan.{combination_at, events_in, first_event}
use Rattle.lit_paths.specs.Refusal.{accesses_on}
use Rattle.lit_paths.specs.Run.{Run, IsRun, run_path}
use Rattle.lit_rel.specs.ReadsFrom.{value_of}
use Rattle.lit_valid.specs.ValidExecution.{read_numbers_from}
use Rattle.lit_valid.specs.Laws.{ChooseForEachRead}
use Rattle.lit_valid.specs.Internal.GivenRuns.{AreGivenRuns, path_at}
use Rattle.lit_valid.proofs.Takings.{AreTaken, AreCounted, taken_apart, taken_together, taken_at, taken_each, counted_each, read_numbers-accesses}

abbrev pub no_run : Run
no_run = record { values = []; decisions = []; events = []; registers = [] }

abbrev pub no_path : Path
no_path = record { decisions = []; events = [] }

pub maps : {A B C : Type 0} (f : A → B) (g : B → C) (xs : List A) → map g (map f xs) ≡ map (λ x. g (f x)) xs
maps f g [] = refl
maps f g (x ∷ xs) = ap (λ ys. g (f x) ∷ ys) (maps f g xs)

module _ (t : Litmus) (c : ℕ) (runs : List Run) (on_paths : map run_path runs ≡ combination_at t c) where
  pub made : map (λ run. run.events) runs ≡ map (λ path. path.events) (combination_at t c)
  made = sym (maps run_path (λ (path : Path). path.events) runs) ∙ ap (map (λ (path : Path). path.events)) on_paths

  path_is : (i : ℕ) (run : Run) → slice_get runs i ≡ Some run → run_path run ≡ path_at t c i
  path_is i run at =
      let inside : i < length runs = slice_get_within runs i run at in
      ap run_path (sym (get_or_from_slice_get runs i run no_run at)) ∙ sym (get_or-map run_path runs i no_run no_path inside)
      ∙ ap (λ (ps : List Path). get_or ps i no_path) on_paths

  module _ (sources : List ℕ) where
    abbrev value : ℕ → ℕ
    value = value_of (events_in t c) sources

    -- the reads of all agents
    reads_are : map value (read_numbers_from 0 (events_in t c)) ≡ map value (read_numbers_from t.bytes (accesses_on (combination_at t c)))
    reads_are = ap (map value) (read_numbers-accesses t.bytes (accesses_on (combination_at t c)))

    -- each run is given what its reads take, where all together are
    pub given_apart : ChooseForEachRead → length runs ≡ length t.agents → ((i : ℕ) (run : Run) → slice_get runs i ≡ Some run → IsRun i (agent_of t i).body run)
        → flat_map (λ run. run.values) runs ≡ map value (read_numbers_from 0 (events_in t c)) → AreGivenRuns t c sources runs
    given_apart reads long are all =
        let counted : AreCounted value runs = counted_each value runs (λ i run at.
        reads i (agent_of t i).body run (are i run at)) in
        let taken : AreTaken value t.bytes runs = taken_apart value t.bytes runs counted
        (all ∙ reads_are ∙ ap (λ ess. map value (read_numbers_from t.bytes (flat_map (λ (es : List Event). es) ess))) (sym made)) in
        record {
          one_each = long;
          each = λ i run at. record {
            is_run = are i run at;
            on_path = path_is i run at;
            given = taken_at value t.bytes runs taken i run at
                ∙ ap (λ (ps : List Path). map value (read_numbers_from (t.bytes + length (accesses_on (take i ps))) run.events)) on_paths
                ∙ ap (λ (p : Path). map value (read_numbers_from (first_event t c i) p.events)) (path_is i run at);
          };
        }

    pub given_together : AreGivenRuns t c sources runs → flat_map (λ run. run.values) runs ≡ map value (read_numbers_from 0 (events_in t c))
    given_together given =
        taken_together value t.bytes runs (taken_each value t.bytes runs (λ i run at.
        (given.each i run at).given
        ∙ ap (λ (p : Path). map value (read_numbers_from (first_event t c i) p.events)) (sym (path_is i run at))
        ∙ ap (λ (ps : List Path). map value (read_numbers_from (t.bytes + length (accesses_on (take i ps))) run.events)) (sym on_paths)))
        ∙ ap (λ ess. map value (read_numbers_from t.bytes (flat_map (λ (es : List Event). es) ess))) made
        ∙ sym reads_are
