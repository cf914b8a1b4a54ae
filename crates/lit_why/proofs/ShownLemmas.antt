-- What the choice that is shown says of the test, and what a complete part does: some valid execution has the choice.
use Rattle.std.proofs.Common.{◌≡◌, ◌↔◌, ℕ, ◌+◌, ◌<◌, List, [], ◌∷◌, ◌++◌, Some, ap, arith, length, map, refl, subst, sym, ◌∙◌}
use Rattle.std.specs.Prelude.{IsTrue, slice_get}
use Rattle.std.proofs.lemmas.List.{append-nil, length-append}
use Rattle.std.proofs.lemmas.Option.{same_Some, slice_get_within}
use Rattle.lit_syntax.specs.Syntax.{Litmus}
use Rattle.lit_paths.specs.declared.event.Event.{Event}
use Rattle.lit_paths.specs.ByteReads.{byte_reads}
use Rattle.lit_paths.specs.Choice.{Choice, choices_of, combinations_of}
use Rattle.lit_paths.specs.Members.{AreSources}
use Rattle.lit_paths.specs.Execution.{Execution, execution_choice, execution_events, execution_outcome}
use Rattle.lit_paths.specs.Path.{Path}
use Rattle.lit_paths.specs.Plan.{HasSources, IsOfCombination, choices_before, combination_at, events_in}
use Rattle.lit_paths.specs.Run.{Run, run_path}
use Rattle.lit_paths.proofs.ChoiceLists.{execution-sources}
use Rattle.lit_paths.proofs.Totals.{before_all}
use Rattle.lit_rel.specs.DataRace.{HasDataRace}
use Rattle.lit_rel.specs.Part.{IsComplete, PartModel, part_events}
use Rattle.lit_valid.specs.declared.class.Class.{Class}
use Rattle.lit_valid.specs.Class.{GivesClass, is_of_class}
use Rattle.lit_valid.specs.Completion.{Completes, HasCompletion}
use Rattle.lit_valid.specs.Gives.{Gives, GivesRace}
use Rattle.lit_valid.specs.Laws.{Laws}
use Rattle.lit_valid.specs.ValidExecution.{IsValidExecution}
use Rattle.lit_valid.proofs.CompletionLemmas.{its_events}
use Rattle.lit_valid.proofs.RunLemmas.{maps}
use Rattle.lit_solve.specs.Goal.{MeetsGoal}
use Rattle.lit_solve.specs.declared.goal.Goal.{Goal}
use Rattle.lit_solve.specs.declared.goal.Goal.TheVariants.{OfClass, Race}
use Rattle.lit_solve.proofs.RangeLemmas.{one_sources}
use Rattle.lit_why.specs.LeastMixing.{GivesOn, HasNoneOn, IsShown}
use Rattle.lit_why.proofs.NodeLemmas.{placed}
use Rattle.lit_why.proofs.VerdictLemmas.{has_its_sources, stands}

-- an execution on the paths of a choice, with its sources, has the choice
its_choice : (t : Litmus) (n c : ℕ) (x : Execution) → IsOfCombination t n c → HasSources t n x.sources
    → map run_path x.runs ≡ combination_at t c → slice_get (choices_of t) n ≡ Some (execution_choice x)
its_choice t n c x of has on_paths =
    let same : of.choice ≡ has.choice = same_Some of.choice has.choice (sym of.listed ∙ has.listed) in
    let decisions : of.choice.decisions ≡ map (λ (run : Run). run.decisions) x.runs =
    sym of.decided ∙ ap (map (λ (path : Path). path.decisions)) (sym on_paths) ∙ maps run_path (λ (path : Path). path.decisions) x.runs in
    let sources : of.choice.sources ≡ x.sources = ap (λ (choice : Choice). choice.sources) same ∙ has.same in
    let is : of.choice ≡ execution_choice x =
    ap (λ (ds : List (List ℕ)). record { decisions = ds; sources = of.choice.sources }) decisions
    ∙ ap (λ (ws : List ℕ). record { decisions = map (λ (run : Run). run.decisions) x.runs; sources = ws }) sources in
    of.listed ∙ ap (λ (choice : Choice). Some choice) is

-- ---- what is shown
module _ (laws : Laws) (t : Litmus) (goal : Goal) (n : ℕ) (sources order : List ℕ) (shown : IsShown t goal n sources order) where
  abbrev c : ℕ
  c = shown.combination

  abbrev on_it : GivesOn t goal c sources
  on_it = shown.is_shown.mixes_least.among

  abbrev x : Execution
  x = on_it.execution

  chosen : slice_get (choices_of t) n ≡ Some (execution_choice x)
  chosen =
      its_choice t n c x (placed laws t n c sources shown.is_shown.on)
      (subst (λ (ws : List ℕ). HasSources t n ws) (sym on_it.same) shown.is_shown.on.has) on_it.on_paths

  pub shown_gives : Gives t n (execution_outcome t x)
  shown_gives = record { execution = x; valid = on_it.valid; chosen = chosen; result = refl }

  pub shown_meets : MeetsGoal t goal x
  shown_meets = on_it.meets

pub shown_class : Laws → (t : Litmus) (class : Class) (n : ℕ) (sources order : List ℕ) → IsShown t (OfClass class) n sources order
    → GivesClass t class n
shown_class laws t class n sources order shown = record {
  outcome = execution_outcome t shown.is_shown.mixes_least.among.execution;
  gives = shown_gives laws t (OfClass class) n sources order shown;
  of_class = shown_meets laws t (OfClass class) n sources order shown;
}

pub shown_race : Laws → (t : Litmus) (n : ℕ) (sources order : List ℕ) → IsShown t Race n sources order → GivesRace t n
unfolding shown_gives
shown_race laws t n sources order shown =
    let gives = shown_gives laws t Race n sources order shown in
    record {
      execution = gives.execution;
      valid = gives.valid;
      chosen = gives.chosen;
      races = shown_meets laws t Race n sources order shown;
    }

-- ---- where nothing is shown
-- a valid execution with a choice is on one of the combinations
none_on : Laws → (t : Litmus) (goal : Goal) (n : ℕ) (x : Execution) → IsValidExecution t x
    → slice_get (choices_of t) n ≡ Some (execution_choice x) → MeetsGoal t goal x → ¬ ((c : ℕ) → HasNoneOn t goal c)
none_on laws t goal n x valid chosen meets none =
    let all = length (combinations_of t) in
    let below : n < choices_before t all = omega (
      arith,
      slice_get_within (choices_of t) n (execution_choice x) chosen,
      before_all t all (omega arith),
    ) in
    let s = stands t all n below in
    let of : IsOfCombination t n s.0 = laws.placed t n s.0 s.1 s.2 s.3 in
    none s.0 x.sources (record {
      known = s.1;
      execution = x;
      valid = valid;
      on_paths = of.on_paths x valid.candidate chosen;
      meets = meets;
      same = refl;
    })

pub no_class : Laws → (t : Litmus) (class : Class) → ((c : ℕ) → HasNoneOn t (OfClass class) c) → (n : ℕ) → ¬ GivesClass t class n
no_class laws t class none n is =
    let meets : IsTrue (is_of_class t class (execution_outcome t is.gives.execution)) =
    subst (λ (o : List ℕ). IsTrue (is_of_class t class o)) (sym is.gives.result) is.of_class in
    none_on laws t (OfClass class) n is.gives.execution is.gives.valid is.gives.chosen meets none

pub no_race : Laws → (t : Litmus) → ((c : ℕ) → HasNoneOn t Race c) → (n : ℕ) → ¬ GivesRace t n
no_race laws t none n is = none_on laws t Race n is.execution is.valid is.chosen is.races none

-- ---- a complete part, which is that of a choice
module _ (part : PartModel) (n : ℕ) (of : IsOfCombination part.test n part.combination) (has : HasSources part.test n part.sources)
    (complete : IsComplete part) where
  no_rest : (x : Execution) (is : Completes part x) → x.sources ≡ part.sources
  no_rest x is =
      let events = its_events part x is in
      let enough : length x.sources ≡ length (byte_reads (events_in part.test part.combination)) =
      subst (λ (es : List Event). length x.sources ≡ length (byte_reads es)) events (execution-sources part.test x is.valid.candidate).one_each in
      is.begun ∙ none is.rest (omega (arith, enough, ap length is.begun, complete, length-append part.sources is.rest))
    where
      none : (rest : List ℕ) → length rest ≡ 0 → part.sources ++ rest ≡ part.sources
      none [] empty = append-nil part.sources
      none (w ∷ ws) empty = absurd (omega (arith, empty))

  pub completed_gives : HasCompletion part → (outcome : List ℕ) × Gives part.test n outcome
  completed_gives has_one =
      let x = has_one.0 in
      let is = has_one.1 in
      let its : HasSources part.test n x.sources = subst (λ (ws : List ℕ). HasSources part.test n ws) (sym (no_rest x is)) has in (
        execution_outcome part.test x,
        record { execution = x; valid = is.valid; chosen = its_choice part.test n part.combination x of its is.on_paths; result = refl },
      )

  pub given_completes : (outcome : List ℕ) → Gives part.test n outcome → HasCompletion part
  given_completes outcome gives =
      let x = gives.execution in
      let its : x.sources ≡ part.sources =
      one_sources part.test n x.sources part.sources (has_its_sources part.test n x gives.chosen) has in (
        x,
        record {
          valid = gives.valid;
          on_paths = of.on_paths x gives.valid.candidate gives.chosen;
          rest = [];
          begun = its ∙ sym (append-nil part.sources);
        },
      )

  pub race_of_part : GivesRace part.test n → HasDataRace (part_events part) part.sources
  race_of_part gives =
      let x = gives.execution in
      let its : x.sources ≡ part.sources =
      one_sources part.test n x.sources part.sources (has_its_sources part.test n x gives.chosen) has in
      let is : Completes part x = record {
        valid = gives.valid;
        on_paths = of.on_paths x gives.valid.candidate gives.chosen;
        rest = [];
        begun = its ∙ sym (append-nil part.sources);
      } in
      subst (λ (ws : List ℕ). HasDataRace (part_events part) ws) its
      (subst (λ (es : List Event). HasDataRace es x.sources) (its_events part x is) gives.races)
