-- Completions of a part: what is true of the part is true of them, and when there is one.
use Rattle.std.proofs.Common.{◌≡◌, ◌≢◌, ◌⊎◌, inl, inr, ℕ, zero, suc, ◌+◌, ◌<◌, Bool, true, false, Option, Some, None, List, [], ◌∷◌, ◌++◌, length, map, get_or, refl, sym, ap, subst, ◌∙◌, arith, append-nil}
use Rattle.std.specs.Prelude.{All, Contains, slice_get, slice_index}
use Rattle.std.specs.List.{flat_map}
use Rattle.std.proofs.lemmas.List.{length-map, same_lists, get_or-map, get_or_default}
use Rattle.std.proofs.lemmas.Option.{slice_get-get_or, slice_get_within, get_or_from_slice_get}
use Rattle.lit_syntax.specs.declared.limits.TheConstants.{REGISTERS}
use Rattle.lit_syntax.specs.Syntax.{IsLitmus, Litmus, agent_of}
use Rattle.lit_paths.specs.declared.event.Event.{Event}
use Rattle.lit_paths.specs.declared.path.Tested.{Tested}
use Rattle.lit_paths.specs.ByteReads.{byte_reads}
use Rattle.lit_paths.specs.Choice.{combinations_of, events_of, sources_of}
use Rattle.lit_paths.specs.Members.{AreSources}
use Rattle.lit_paths.specs.Execution.{Execution, execution_events, execution_outcome}
use Rattle.lit_paths.specs.Outcome.{names_of}
use Rattle.lit_paths.specs.Path.{path_on}
use Rattle.lit_paths.specs.Plan.{combination_at, first_event, path_in, walk_in}
use Rattle.lit_paths.specs.Run.{Run, compares, run_path}
use Rattle.lit_paths.specs.Told.{TellsRuns}
use Rattle.lit_paths.proofs.ChoiceLists.{sources_of-iff}
use Rattle.lit_rel.specs.Broken.{HasBrokenRelations, HasFalseGuard, HasFalseGuardOn, IsBroken, number_on}
use Rattle.lit_rel.specs.Coherent.{HasCoherentReads, IsCoherentRead}
use Rattle.lit_rel.specs.Growth.{GrowWithBytes, IsGivenWhole, ValuesStay}
use Rattle.lit_rel.specs.HappensBefore.{HappensBefore}
use Rattle.lit_rel.specs.Part.{PartModel, part_events, with_sources}
use Rattle.lit_rel.specs.ReadsFrom.{value_of}
use Rattle.lit_rel.specs.TearFree.{HasTearFreeReads}
use Rattle.lit_order.specs.MemoryOrder.{IsMemoryOrder}
use Rattle.lit_valid.specs.Completion.{Completes, IsOnCombination}
use Rattle.lit_valid.specs.ValidExecution.{IsValidExecution, read_numbers_from}
use Rattle.lit_valid.specs.Internal.GivenRuns.{AreGivenRuns, HasGivenRun, IsGivenRun}
use Rattle.lit_valid.specs.Laws.{ChooseForEachRead, Laws}
use Rattle.lit_valid.specs.PartOutcome.{part_outcome, observed_value}
use Rattle.lit_valid.proofs.ObservedLemmas.{observed_by_run, holds, run_where_true, true_of_run}
use Rattle.lit_valid.proofs.RunLemmas.{given_apart, given_together, made, no_path, no_run}
use Rattle.lit_valid.proofs.Takings.{gathered}

-- ---- laws of the crates below
-- an agent's runs, by the laws
pub tells_of : Laws → (t : Litmus) (c agent : ℕ) → IsLitmus t → c < length (combinations_of t) → agent < length t.agents
    → TellsRuns agent (agent_of t agent).body (path_on agent (walk_in t c agent)) (path_in t c agent)
tells_of laws t c agent litmus known inside =
    let walk = laws.walked t c agent litmus known inside in
    laws.tell t.bytes agent (agent_of t agent).body (walk_in t c agent) walk.said walk.walked

-- ---- what completes a part
module _ (part : PartModel) (x : Execution) (is : Completes part x) where
  pub its_events : execution_events part.test x ≡ part_events part
  its_events = ap (events_of part.test.bytes) (made part.test part.combination x.runs is.on_paths)

  -- what holds of its events and sources, by those of the part
  pub carried : (P : List Event → List ℕ → Type 0) → P (execution_events part.test x) x.sources → P (part_events part) (part.sources ++ is.rest)
  carried P p = subst (λ (ws : List ℕ). P (part_events part) ws) is.begun (subst (λ (es : List Event). P es x.sources) its_events p)

  its_runs : ChooseForEachRead → AreGivenRuns part.test part.combination x.sources x.runs
  its_runs choose =
      given_apart part.test part.combination x.runs is.on_paths x.sources choose is.valid.candidate.one_each is.valid.candidate.each
      (subst (λ (es : List Event). flat_map (λ run. run.values) x.runs ≡ map (value_of es x.sources) (read_numbers_from 0 es)) its_events is.valid.chosen_reads)

  -- its memory-orders respect what the part has
  pub order_respected : GrowWithBytes → (order : List ℕ) → IsMemoryOrder (execution_events part.test x) x.sources order
      → IsMemoryOrder (part_events part) part.sources order
  order_respected grow order o =
      let grows = grow.lists (part_events part) part.sources is.rest in
      let here : IsMemoryOrder (part_events part) (part.sources ++ is.rest) order = carried (λ es ws. IsMemoryOrder es ws order) o in
      record {
        complete = here.complete;
        keeps = λ a d h. here.keeps a d (grows.happens_before a d h);
        avoids = λ w r v f. here.avoids w r v (grows.forbidden w r v f);
      }

  -- the part's relations are not broken
  relations_whole : GrowWithBytes → ¬ HasBrokenRelations part
  relations_whole grow (inl cycle) =
      let grows = grow.lists (part_events part) part.sources is.rest in
      carried (λ es ws. (e : ℕ) → ¬ HappensBefore es ws e e) is.valid.no_cycle cycle.0 (grows.happens_before cycle.0 cycle.0 cycle.1)
  relations_whole grow (inr (inl bad)) =
      let grows = grow.lists (part_events part) part.sources is.rest in
      bad.incoherent (grows.coherent (carried HasCoherentReads is.valid.coherent_reads) bad.read bad.byte bad.source bad.is_given)
  relations_whole grow (inr (inr torn)) =
      let grows = grow.lists (part_events part) part.sources is.rest in
      torn.two_sources (grows.tear_free (carried HasTearFreeReads is.valid.tear_free_reads) torn.read torn.source torn.other torn.first torn.second)

  -- each guard is true of its sources
  its_guards : Laws → IsLitmus part.test → part.combination < length (combinations_of part.test)
      → (agent k : ℕ) (test : Tested) → agent < length part.test.agents
      → slice_get (path_in part.test part.combination agent).tests k ≡ Some test → holds part.test part.combination agent x.sources test ≡ true
  its_guards laws litmus known agent k test inside at =
      let runs = its_runs laws.choose in
      let there : agent < length x.runs = omega (arith, runs.one_each, inside) in
      let run = get_or x.runs agent no_run in
      true_of_run part.test part.combination agent x.sources (laws.walked part.test part.combination agent litmus known inside)
      (tells_of laws part.test part.combination agent litmus known inside) run (runs.each agent run (slice_get-get_or x.runs agent no_run there)) k test at

  -- a read whose bytes are all given has the value that the part gives it
  pub value_stays : ValuesStay → (place : Option ℕ) → ((r : ℕ) → place ≡ Some r → IsGivenWhole (part_events part) part.sources r)
      → observed_value (with_sources part x.sources) place ≡ observed_value part place
  value_stays stay None whole = refl
  value_stays stay (Some r) whole =
      ap (λ (ws : List ℕ). value_of (part_events part) ws r) is.begun ∙ stay (part_events part) part.sources is.rest r (whole r refl)

  guards_true : Laws → ValuesStay → IsOnCombination part → ¬ HasFalseGuard part
  guards_true laws stay entered (inl bad) =
      let true_there = its_guards laws entered.litmus entered.known bad.agent bad.place bad.test bad.known bad.at_place in
      let value : observed_value (with_sources part x.sources) (number_on (first_event part.test part.combination bad.agent) bad.test.on) ≡ 0 =
      ap (λ (p : Option ℕ). observed_value (with_sources part x.sources) p) bad.asks in
      absurd (let e : true ≡ false = sym true_there ∙ ap (λ (v : ℕ). compares bad.test.equal v bad.test.value) value ∙ bad.is_false in cc)
  guards_true laws stay entered (inr (r, whole, bad)) =
      let true_there = its_guards laws entered.litmus entered.known bad.agent bad.place bad.test bad.known bad.at_place in
      let place = number_on (first_event part.test part.combination bad.agent) bad.test.on in
      let value : observed_value (with_sources part x.sources) place ≡ value_of (part_events part) part.sources r =
      value_stays stay place (λ q at. let e : Some q ≡ Some r = sym at ∙ bad.asks in let same : r ≡ q = cc in
      subst (λ (p : ℕ). IsGivenWhole (part_events part) part.sources p) same whole)
      ∙ ap (λ (p : Option ℕ). observed_value part p) bad.asks in
      absurd (let e : true ≡ false = sym true_there ∙ ap (λ (v : ℕ). compares bad.test.equal v bad.test.value) value ∙ bad.is_false in cc)

  pub not_broken : Laws → GrowWithBytes → ValuesStay → IsOnCombination part → ¬ IsBroken part
  not_broken laws grow stay entered (inl bad) = relations_whole grow bad
  not_broken laws grow stay entered (inr bad) = guards_true laws stay entered bad

  -- its outcome has the values that registers observe by its sources
  pub its_outcome : Laws → IsOnCombination part → All (λ name. (name.0 < length part.test.agents) × (name.1 < REGISTERS)) (names_of part.test)
      → execution_outcome part.test x ≡ part_outcome (with_sources part x.sources)
  its_outcome laws entered named =
      let runs = its_runs laws.choose in
      same_maps (names_of part.test) (λ k name at.
      let inside : k < length (names_of part.test) = slice_get_within (names_of part.test) k name at in
      let is_name : get_or (names_of part.test) k name ≡ name = get_or_from_slice_get (names_of part.test) k name name at in
      let known : name.0 < length part.test.agents = subst (λ (n : ℕ × ℕ). n.0 < length part.test.agents) is_name (named k name inside).0 in
      let there : name.0 < length x.runs = omega (arith, runs.one_each, known) in
      let run = get_or x.runs name.0 no_run in
      ap (λ (rs : List ℕ). slice_index rs name.1) (get_or-map (λ (q : Run). q.registers) x.runs name.0 no_run [] there)
      ∙ observed_by_run part.test part.combination name.0 x.sources (laws.walked part.test part.combination name.0 entered.litmus entered.known known)
      (tells_of laws part.test part.combination name.0 entered.litmus entered.known known) run name.1
      (runs.each name.0 run (slice_get-get_or x.runs name.0 no_run there)))
    where
      same_maps : {f g : ℕ × ℕ → ℕ} (ns : List (ℕ × ℕ)) → ((k : ℕ) (name : ℕ × ℕ) → slice_get ns k ≡ Some name → f name ≡ g name) → map f ns ≡ map g ns
      same_maps [] same = refl
      same_maps {f} {g} (n ∷ ns) same =
          ap (λ (v : ℕ). v ∷ map f ns) (same 0 n refl) ∙ ap (λ (vs : List ℕ). g n ∷ vs) (same_maps ns (λ k name at. same (suc k) name at))

-- ---- an execution of a complete part that is not broken
module _ (part : PartModel) (entered : IsOnCombination part) (laws : Laws) (sourced : AreSources (part_events part) part.sources) (whole : ¬ IsBroken part) where
  abbrev t : Litmus
  t = part.test

  abbrev c : ℕ
  c = part.combination

  all_given : (r : ℕ) → IsGivenWhole (part_events part) part.sources r
  all_given r i b at = omega (arith, slice_get_within (byte_reads (part_events part)) i (r, b) at, sourced.one_each)

  true_here : (agent k : ℕ) (test : Tested) → agent < length t.agents → slice_get (path_in t c agent).tests k ≡ Some test
      → holds t c agent part.sources test ≡ true
  true_here agent k test inside at = by (number_on (first_event t c agent) test.on) refl (holds t c agent part.sources test) refl
    where
      false_guard : (place : Option ℕ) → number_on (first_event t c agent) test.on ≡ place → holds t c agent part.sources test ≡ false
          → HasFalseGuardOn t c place (observed_value part place)
      false_guard place asks is = record {
        agent = agent;
        known = inside;
        place = k;
        test = test;
        at_place = at;
        asks = asks;
        is_false = ap (λ (p : Option ℕ). compares test.equal (observed_value part p) test.value) (sym asks) ∙ is;
      }

      by : (place : Option ℕ) → number_on (first_event t c agent) test.on ≡ place → (b : Bool) → holds t c agent part.sources test ≡ b
          → holds t c agent part.sources test ≡ true
      by place asks true is = is
      by None asks false is = absurd (whole (inr (inl (false_guard None asks is))))
      by (Some r) asks false is = absurd (whole (inr (inr (r, all_given r, false_guard (Some r) asks is))))

  pub each_run : (agent : ℕ) → agent < length t.agents → HasGivenRun t c part.sources agent
  each_run agent inside =
      run_where_true t c agent part.sources (laws.walked t c agent entered.litmus entered.known inside)
      (tells_of laws t c agent entered.litmus entered.known inside)
      (λ k test at. true_here agent k test inside at)

  abbrev pub found : (rs : List Run) × (length rs ≡ length t.agents)
      × ((i : ℕ) (run : Run) → slice_get rs i ≡ Some run → IsGivenRun t c part.sources (0 + i) run)
  found = gathered (IsGivenRun t c part.sources) 0 (length t.agents) (λ i inside. let one = each_run i inside in
      (one.0, subst (λ k. IsGivenRun t c part.sources k one.0) (let e : i ≡ 0 + i = omega arith in e) one.1))

  given : AreGivenRuns t c part.sources found.0
  given = record {
    one_each = found.1;
    each = λ i run at. subst (λ k. IsGivenRun t c part.sources k run) (let e : 0 + i ≡ i = omega arith in e) (found.2 i run at);
  }

  abbrev pub example : Execution
  example = record { runs = found.0; sources = part.sources }

  pub example_paths : map run_path example.runs ≡ combination_at t c
  example_paths =
      let long : length example.runs ≡ length (combination_at t c) =
      found.1 ∙ sym ((laws.listed t).only c (combination_at t c) (slice_get-get_or (combinations_of t) c [] entered.known)).one_each in
      same_lists _ _ (length-map example.runs run_path ∙ long) (λ k d inside.
      let here : k < length example.runs = omega (arith, inside, length-map example.runs run_path) in
      let there : k < length (combination_at t c) = omega (arith, here, long) in
      get_or-map run_path example.runs k no_run d here
      ∙ (given.each k (get_or example.runs k no_run) (slice_get-get_or example.runs k no_run here)).on_path
      ∙ get_or_default (combination_at t c) k no_path d there)

  -- how the part's events lead to the example's own
  to_example : (P : List Event → Type 0) → P (part_events part) → P (execution_events t example)
  to_example P p = subst P (sym (ap (events_of t.bytes) (made t c example.runs example_paths))) p

  no_cycle : (e : ℕ) → ¬ HappensBefore (part_events part) part.sources e e
  no_cycle e before = whole (inl (inl (e, before)))

  coherent : HasCoherentReads (part_events part) part.sources
  coherent r b w is = record {
    not_later = λ before. bad (λ ok. ok.not_later before);
    not_hidden = λ v hides. bad (λ ok. ok.not_hidden v hides);
  }
    where
      bad : ¬ ¬ IsCoherentRead (part_events part) (HappensBefore (part_events part) part.sources) r b w
      bad hidden = whole (inl (inr (inl (record { read = r; byte = b; source = w; is_given = is; incoherent = hidden }))))

  tear_free : HasTearFreeReads (part_events part) part.sources
  tear_free r w v first second =
      let decided : (v ≡ w) ⊎ (v ≢ w) = nat_cases v w in
      elim decided [
        | inl same ↦ same
        | inr other ↦
            absurd (whole (inl (inr (inr (record { read = r; source = w; other = v; first = first; second = second; two_sources = other })))))
      ]
    where
      nat_cases : (a b : ℕ) → (a ≡ b) ⊎ (a ≢ b)
      nat_cases zero zero = inl refl
      nat_cases zero (suc b) = inr (λ e. absurd (omega (arith, e)))
      nat_cases (suc a) zero = inr (λ e. absurd (omega (arith, e)))
      nat_cases (suc a) (suc b) = by (nat_cases a b)
        where
          by : (a ≡ b) ⊎ (a ≢ b) → (suc a ≡ suc b) ⊎ (suc a ≢ suc b)
          by (inl e) = inl (ap suc e)
          by (inr other) = inr (λ e. other (omega (arith, e)))

  pub example_valid : (order : List ℕ) → IsMemoryOrder (part_events part) part.sources order → IsValidExecution t example
  example_valid order ordered = record {
    candidate = record {
      one_each = found.1;
      each = λ i run at. (given.each i run at).is_run;
      sourced = to_example (λ es. Contains (sources_of es) part.sources) ((sources_of-iff (part_events part) part.sources).1 sourced);
    };
    no_cycle = to_example (λ es. (e : ℕ) → ¬ HappensBefore es part.sources e e) no_cycle;
    chosen_reads = to_example (λ es. flat_map (λ run. run.values) example.runs ≡ map (value_of es part.sources) (read_numbers_from 0 es))
        (given_together t c example.runs example_paths part.sources given);
    coherent_reads = to_example (λ es. HasCoherentReads es part.sources) coherent;
    tear_free_reads = to_example (λ es. HasTearFreeReads es part.sources) tear_free;
    ordered = (order, to_example (λ es. IsMemoryOrder es part.sources order) ordered);
  }

  pub example_completes : (order : List ℕ) → IsMemoryOrder (part_events part) part.sources order → Completes part example
  example_completes order ordered = record { valid = example_valid order ordered; on_paths = example_paths; rest = []; begun = sym (append-nil part.sources) }
