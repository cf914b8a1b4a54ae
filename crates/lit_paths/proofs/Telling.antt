-- The guards and registers of a path, by its steps, are those that it has once it is built, and are true of its runs.
use Rattle.std.proofs.Common.{◌≡◌, ℕ, zero, suc, ◌+◌, ◌≤◌, ◌==◌, Bool, true, false, not, if◌then◌else◌, Option, Some, None, List, [], ◌∷◌, length, map, replicate, arith, refl, sym, ap, ◌∙◌, subst}
use Rattle.std.specs.Prelude.{slice_set, slice_index, slice_index_or}
use Rattle.std.specs.List.{list_all, zip}
use Rattle.std.proofs.lemmas.Bool.{and_from, and_parts, eq-eqb, ne_eqb}
use Rattle.lit_syntax.specs.declared.limits.TheConstants.{REGISTERS}
use Rattle.lit_syntax.specs.Syntax.{Statements, AreStatementsIn}
use Rattle.lit_paths.specs.declared.event.Event.{Event}
use Rattle.lit_paths.specs.declared.path.Tested.{Tested}
use Rattle.lit_paths.specs.Path.{Path, Step, LoadMet, StoreMet, ExchangeMet, CompareExchangeMet, IfMet, compare_exchange_event, events_on, path_on}
use Rattle.lit_paths.specs.Members.{IsWalk}
use Rattle.lit_paths.specs.PathModel.{PathModel, asked, path_model}
use Rattle.lit_paths.specs.Run.{Run, IsRun, AgreesWith, compares, run_path}
use Rattle.lit_paths.specs.Told.{read_places, chosen_on, value_at, value_on, is_true_of, TellsRuns}
use Rattle.lit_paths.proofs.Walks.{walk-decided}
use Rattle.lit_paths.proofs.PathLists.{run-path, walks_of-iff}
use Rattle.lit_paths.proofs.PathSteps.{guards_from, last_from, path_model-tests, path_model-last, walk-registers}

-- ---- registers
map-set : (f : Option ℕ → ℕ) (xs : List (Option ℕ)) (i : ℕ) (x : Option ℕ) → map f (slice_set xs i x) ≡ slice_set (map f xs) i (f x)
map-set f [] i x = refl
map-set f (y ∷ xs) zero x = refl
map-set f (y ∷ xs) (suc i) x = ap (λ ys. f y ∷ ys) (map-set f xs i x)

observed-index : (chosen : List (ℕ × ℕ)) (last : List (Option ℕ)) (reg : ℕ) → slice_index (map (value_on chosen) last) reg ≡ value_on chosen (slice_index_or last reg None)
observed-index chosen [] reg = refl
observed-index chosen (x ∷ xs) zero = refl
observed-index chosen (x ∷ xs) (suc i) = observed-index chosen xs i

-- ---- the value of each place
abbrev pub Looks : List (ℕ × ℕ) → List (ℕ × ℕ) → Type 0
Looks chosen [] = Unit {0}
Looks chosen (p ∷ ps) = (value_at chosen p.0 ≡ p.1) × Looks chosen ps

abbrev pub AreFrom : ℕ → List (ℕ × ℕ) → Type 0
AreFrom n [] = Unit {0}
AreFrom n (p ∷ ps) = (n ≤ p.0) × AreFrom (p.0 + 1) ps

from-lower : (n m : ℕ) (ps : List (ℕ × ℕ)) → m ≤ n → AreFrom n ps → AreFrom m ps
from-lower n m [] le h = tt
from-lower n m (p ∷ ps) le h = (omega (arith, h.0), h.1)

looks-behind : (p : ℕ × ℕ) (ps qs : List (ℕ × ℕ)) → AreFrom (p.0 + 1) qs → Looks ps qs → Looks (p ∷ ps) qs
looks-behind p ps [] from looks = tt
looks-behind p ps (q ∷ qs) from looks =
    let other : p.0 == q.0 ≡ false = ne_eqb p.0 q.0 (λ same. absurd (omega (arith, same, from.0))) in
    (ap (λ b. if b then p.1 else value_at ps q.0) other ∙ looks.0, looks-behind p ps qs (from-lower (q.0 + 1) (p.0 + 1) qs (omega (arith, from.0)) from.1) looks.1)

looks-all : (n : ℕ) (ps : List (ℕ × ℕ)) → AreFrom n ps → Looks ps ps
looks-all n [] from = tt
looks-all n (p ∷ ps) from =
    (ap (λ b. if b then p.1 else value_at ps p.0) (eq-eqb p.0 p.0 refl), looks-behind p ps ps from.1 (looks-all (p.0 + 1) ps from.1))

-- the pairs of one place more
zip-from : (n : ℕ) (places values : List ℕ) → ((vs : List ℕ) → AreFrom (n + 1) (zip places vs)) → AreFrom n (zip (n ∷ places) values)
zip-from n places [] later = tt
zip-from n places (v ∷ values) later = (omega arith, later values)

pub places-from : (owner place : ℕ) (steps : List Step) (values : List ℕ) → AreFrom place (chosen_on (events_on owner place steps) values)
places-from owner place [] values = tt
places-from owner place (LoadMet reg window index atomic ∷ steps) values = zip-from place (read_places (events_on owner (place + 1) steps)) values (λ vs. places-from owner (place + 1) steps vs)
places-from owner place (StoreMet window index value atomic ∷ steps) values =
    from-lower (place + 1) place (chosen_on (events_on owner (place + 1) steps) values) (omega arith) (places-from owner (place + 1) steps values)
places-from owner place (ExchangeMet reg window index value ∷ steps) values = zip-from place (read_places (events_on owner (place + 1) steps)) values (λ vs. places-from owner (place + 1) steps vs)
places-from owner place (CompareExchangeMet reg window index expected value true ∷ steps) values = zip-from place (read_places (events_on owner (place + 1) steps)) values (λ vs. places-from owner (place + 1) steps vs)
places-from owner place (CompareExchangeMet reg window index expected value false ∷ steps) values = zip-from place (read_places (events_on owner (place + 1) steps)) values (λ vs. places-from owner (place + 1) steps vs)
places-from owner place (IfMet reg equal value holds ∷ steps) values = places-from owner place steps values

-- the places of what a compareExchange and later steps read: it reads, whether it succeeds or not
compare_exchange-places : (owner place : ℕ) (window : _) (index value : ℕ) (succeeds : Bool) (es : List Event)
    → read_places (compare_exchange_event owner place window index value succeeds ∷ es) ≡ place ∷ read_places es
compare_exchange-places owner place window index value true es = refl
compare_exchange-places owner place window index value false es = refl

-- ---- decisions and tests
-- the comparison is as decided exactly where what is asked is so
asked-true : (equal holds : Bool) (a b : ℕ) → holds ≡ compares equal a b → compares (asked equal holds) a b ≡ true
asked-true true true a b h = sym h
asked-true false true a b h = sym h
asked-true true false a b h = ap not (sym h)
asked-true false false a b h = twice (a == b) (sym h)
  where
    twice : (t : Bool) → not t ≡ false → t ≡ true
    twice true h = refl
    twice false h = cc

other : (t : Bool) → not t ≡ true → false ≡ t
other true h = h
other false h = refl

asked-from : (equal holds : Bool) (a b : ℕ) → compares (asked equal holds) a b ≡ true → holds ≡ compares equal a b
asked-from true true a b h = sym h
asked-from false true a b h = sym h
asked-from true false a b h = other (a == b) h
asked-from false false a b h = ap not (sym h)

succeeds-true : (succeeds : Bool) (a b : ℕ) → succeeds ≡ (a == b) → compares succeeds a b ≡ true
succeeds-true true a b h = sym h
succeeds-true false a b h = ap not (sym h)

succeeds-from : (succeeds : Bool) (a b : ℕ) → compares succeeds a b ≡ true → succeeds ≡ (a == b)
succeeds-from true a b h = sym h
succeeds-from false a b h = other (a == b) h

-- a chosen value, before those that follow
front-value : (owner place : ℕ) (reads : List ℕ) (value : ℕ) (others values : List ℕ) (chosen : List (ℕ × ℕ)) → values ≡ value ∷ others
    → Looks chosen (zip (place ∷ reads) values) → (value_at chosen place ≡ value) × Looks chosen (zip reads others)
front-value owner place reads value others values chosen is looks = subst (λ (vs : List ℕ). Looks chosen (zip (place ∷ reads) vs)) is looks

-- the registers after a read
observed-more : (chosen : List (ℕ × ℕ)) (last : List (Option ℕ)) (before : List ℕ) (reg place value : ℕ) → before ≡ map (value_on chosen) last → value_at chosen place ≡ value
    → slice_set before reg value ≡ map (value_on chosen) (slice_set last reg (Some place))
observed-more chosen last before reg place value observed at =
    ap (λ (rs : List ℕ). slice_set rs reg value) observed
    ∙ ap (λ v. slice_set (map (value_on chosen) last) reg v) (sym at)
    ∙ sym (map-set (value_on chosen) last reg (Some place))

-- what agreement with values tells
pub record Agreed (chosen : List (ℕ × ℕ)) (tests : List Tested) (last : List (Option ℕ)) (reads values after : List ℕ) : Type 0 where
  pub true_of : list_all (is_true_of chosen) tests ≡ true
  pub observed : after ≡ map (value_on chosen) last
  pub one_each : length values ≡ length reads

pub agrees-tells : (owner place : ℕ) (steps : List Step) (chosen : List (ℕ × ℕ)) (last : List (Option ℕ)) (before values after : List ℕ)
    → before ≡ map (value_on chosen) last → Looks chosen (chosen_on (events_on owner place steps) values) → AgreesWith steps before values after
    → Agreed chosen (guards_from place last steps) (last_from place last steps) (read_places (events_on owner place steps)) values after
agrees-tells owner place [] chosen last before values after observed looks agrees =
    record { true_of = refl; observed = agrees.1 ∙ observed; one_each = ap (λ vs. length vs) agrees.0 }
agrees-tells owner place (LoadMet reg window index atomic ∷ steps) chosen last before values after observed looks agrees =
    let value : ℕ = agrees.0 in
    let others : List ℕ = agrees.1 in
    let reads : List ℕ = read_places (events_on owner (place + 1) steps) in
    let here = front-value owner place reads value others values chosen agrees.2 looks in
    let rest = agrees-tells owner (place + 1) steps chosen (slice_set last reg (Some place)) (slice_set before reg value) others after (observed-more chosen last before reg place value observed here.0) here.1 agrees.3 in
    record { true_of = rest.true_of; observed = rest.observed; one_each = ap (λ vs. length vs) agrees.2 ∙ ap suc rest.one_each }
agrees-tells owner place (StoreMet window index stored atomic ∷ steps) chosen last before values after observed looks agrees =
    agrees-tells owner (place + 1) steps chosen last before values after observed looks agrees
agrees-tells owner place (ExchangeMet reg window index stored ∷ steps) chosen last before values after observed looks agrees =
    let value : ℕ = agrees.0 in
    let others : List ℕ = agrees.1 in
    let reads : List ℕ = read_places (events_on owner (place + 1) steps) in
    let here = front-value owner place reads value others values chosen agrees.2 looks in
    let rest = agrees-tells owner (place + 1) steps chosen (slice_set last reg (Some place)) (slice_set before reg value) others after (observed-more chosen last before reg place value observed here.0) here.1 agrees.3 in
    record { true_of = rest.true_of; observed = rest.observed; one_each = ap (λ vs. length vs) agrees.2 ∙ ap suc rest.one_each }
agrees-tells owner place (CompareExchangeMet reg window index expected stored succeeds ∷ steps) chosen last before values after observed looks agrees =
    let value : ℕ = agrees.0 in
    let others : List ℕ = agrees.1 in
    let reads : List ℕ = read_places (events_on owner (place + 1) steps) in
    let places = compare_exchange-places owner place window index stored succeeds (events_on owner (place + 1) steps) in
    let here = front-value owner place reads value others values chosen agrees.2 (subst (λ (ps : List ℕ). Looks chosen (zip ps values)) places looks) in
    let rest = agrees-tells owner (place + 1) steps chosen (slice_set last reg (Some place)) (slice_set before reg value) others after (observed-more chosen last before reg place value observed here.0) here.1 agrees.4 in
    record {
      true_of = and_from _ _ (succeeds-true succeeds (value_at chosen place) expected (agrees.3 ∙ ap (λ v. v == expected) (sym here.0))) rest.true_of;
      observed = rest.observed;
      one_each = ap (λ vs. length vs) agrees.2 ∙ ap suc rest.one_each ∙ sym (ap (λ ps. length ps) places);
    }
agrees-tells owner place (IfMet reg equal value holds ∷ steps) chosen last before values after observed looks agrees =
    let rest = agrees-tells owner place steps chosen last before values after observed looks agrees.1 in
    let now : slice_index before reg ≡ value_on chosen (slice_index_or last reg None) = ap (λ (rs : List ℕ). slice_index rs reg) observed ∙ observed-index chosen last reg in
    record {
      true_of = and_from _ _ (asked-true equal holds (value_on chosen (slice_index_or last reg None)) value (agrees.0 ∙ ap (λ v. compares equal v value) now)) rest.true_of;
      observed = rest.observed;
      one_each = rest.one_each;
    }

-- agreement from what is told
pub tells-agrees : (owner place : ℕ) (steps : List Step) (chosen : List (ℕ × ℕ)) (last : List (Option ℕ)) (before values : List ℕ)
    → before ≡ map (value_on chosen) last → Looks chosen (chosen_on (events_on owner place steps) values) → length values ≡ length (read_places (events_on owner place steps))
    → list_all (is_true_of chosen) (guards_from place last steps) ≡ true → AgreesWith steps before values (map (value_on chosen) (last_from place last steps))
tells-agrees owner place [] chosen last before [] observed looks one_each true_of = (refl, sym observed)
tells-agrees owner place [] chosen last before (v ∷ values) observed looks one_each true_of = absurd (omega (arith, one_each))
tells-agrees owner place (LoadMet reg window index atomic ∷ steps) chosen last before [] observed looks one_each true_of = absurd (omega (arith, one_each))
tells-agrees owner place (LoadMet reg window index atomic ∷ steps) chosen last before (v ∷ values) observed looks one_each true_of =
    (v, values, refl, tells-agrees owner (place + 1) steps chosen (slice_set last reg (Some place)) (slice_set before reg v) values (observed-more chosen last before reg place v observed looks.0) looks.1 (omega (arith, one_each)) true_of)
tells-agrees owner place (StoreMet window index stored atomic ∷ steps) chosen last before values observed looks one_each true_of =
    tells-agrees owner (place + 1) steps chosen last before values observed looks one_each true_of
tells-agrees owner place (ExchangeMet reg window index stored ∷ steps) chosen last before [] observed looks one_each true_of = absurd (omega (arith, one_each))
tells-agrees owner place (ExchangeMet reg window index stored ∷ steps) chosen last before (v ∷ values) observed looks one_each true_of =
    (v, values, refl, tells-agrees owner (place + 1) steps chosen (slice_set last reg (Some place)) (slice_set before reg v) values (observed-more chosen last before reg place v observed looks.0) looks.1 (omega (arith, one_each)) true_of)
tells-agrees owner place (CompareExchangeMet reg window index expected stored succeeds ∷ steps) chosen last before [] observed looks one_each true_of =
    absurd (omega (arith, one_each, ap (λ ps. length ps) (compare_exchange-places owner place window index stored succeeds (events_on owner (place + 1) steps))))
tells-agrees owner place (CompareExchangeMet reg window index expected stored succeeds ∷ steps) chosen last before (v ∷ values) observed looks one_each true_of =
    let places = compare_exchange-places owner place window index stored succeeds (events_on owner (place + 1) steps) in
    let here : (value_at chosen place ≡ v) × Looks chosen (zip (read_places (events_on owner (place + 1) steps)) values) = subst (λ (ps : List ℕ). Looks chosen (zip ps (v ∷ values))) places looks in
    let both = and_parts (compares succeeds (value_at chosen place) expected) (list_all (is_true_of chosen) (guards_from (place + 1) (slice_set last reg (Some place)) steps)) true_of in (
      v,
      values,
      refl,
      succeeds-from succeeds (value_at chosen place) expected both.0 ∙ ap (λ x. x == expected) here.0,
      tells-agrees owner (place + 1) steps chosen (slice_set last reg (Some place)) (slice_set before reg v) values (observed-more chosen last before reg place v observed here.0) here.1
          (omega (arith, one_each, ap (λ ps. length ps) places)) both.1,
    )
tells-agrees owner place (IfMet reg equal value holds ∷ steps) chosen last before values observed looks one_each true_of =
    let now : slice_index before reg ≡ value_on chosen (slice_index_or last reg None) = ap (λ (rs : List ℕ). slice_index rs reg) observed ∙ observed-index chosen last reg in
    let both = and_parts (compares (asked equal holds) (value_on chosen (slice_index_or last reg None)) value) (list_all (is_true_of chosen) (guards_from place last steps)) true_of in (
      asked-from equal holds (value_on chosen (slice_index_or last reg None)) value both.0 ∙ ap (λ v. compares equal v value) (sym now),
      tells-agrees owner place steps chosen last before values observed looks one_each both.1,
    )

-- ---- the whole of a walk
zeros : (chosen : List (ℕ × ℕ)) (n : ℕ) → replicate n 0 ≡ map (value_on chosen) (replicate n None)
zeros chosen zero = refl
zeros chosen (suc n) = ap (λ rs. 0 ∷ rs) (zeros chosen n)

abbrev whole : ℕ → List Step → PathModel
whole owner steps = record { events = events_on owner 0 steps; tests = guards_from 0 (replicate REGISTERS None) steps; last = last_from 0 (replicate REGISTERS None) steps }

run-agreed : (owner : ℕ) (ss : Statements) (steps : List Step) → IsWalk ss steps → (run : Run) → IsRun owner ss run → run_path run ≡ path_on owner steps
    → Agreed (chosen_on (events_on owner 0 steps) run.values) (guards_from 0 (replicate REGISTERS None) steps) (last_from 0 (replicate REGISTERS None) steps) (read_places (events_on owner 0 steps)) run.values run.registers
run-agreed owner ss steps walked run is on =
    let path = run-path owner ss run is in
    let same : path.steps ≡ steps = walk-decided ss path.steps steps path.walked walked
    (ap (λ (p : Path). p.decisions) path.taken ∙ ap (λ (p : Path). p.decisions) on) in
    let chosen = chosen_on (events_on owner 0 steps) run.values in
    agrees-tells owner 0 steps chosen (replicate REGISTERS None) (replicate REGISTERS 0) run.values run.registers (zeros chosen REGISTERS)
    (looks-all 0 chosen (places-from owner 0 steps run.values))
    (subst (λ (l : List Step). AgreesWith l (replicate REGISTERS 0) run.values run.registers) same is.agrees)

tells-whole : (owner : ℕ) (ss : Statements) (steps : List Step) → IsWalk ss steps → TellsRuns owner ss (path_on owner steps) (whole owner steps)
tells-whole owner ss steps walked = record {
  events = refl;
  run = λ values long true_of.
      let chosen = chosen_on (events_on owner 0 steps) values in
      record {
        steps = steps;
        walked = (walks_of-iff ss steps).1 walked;
        taken = refl;
        agrees = tells-agrees owner 0 steps chosen (replicate REGISTERS None) (replicate REGISTERS 0) values (zeros chosen REGISTERS)
            (looks-all 0 chosen (places-from owner 0 steps values)) long true_of;
      };
  one_each = λ run is on. (run-agreed owner ss steps walked run is on).one_each;
  true_of = λ run is on. (run-agreed owner ss steps walked run is on).true_of;
  observed = λ run is on. (run-agreed owner ss steps walked run is on).observed;
}

pub tells_runs : (bytes owner : ℕ) (ss : Statements) (steps : List Step) → AreStatementsIn bytes ss → IsWalk ss steps → TellsRuns owner ss (path_on owner steps) (path_model owner steps)
tells_runs bytes owner ss steps said walked =
    let with_guards : List Tested → PathModel = λ tests. record { events = events_on owner 0 steps; tests = tests; last = last_from 0 (replicate REGISTERS None) steps } in
    let with_last : List (Option ℕ) → PathModel = λ last. record { events = events_on owner 0 steps; tests = (path_model owner steps).tests; last = last } in
    let same : whole owner steps ≡ path_model owner steps = ap with_guards (path_model-tests steps (walk-registers bytes ss steps said walked)) ∙ ap with_last (path_model-last steps) in
    subst (λ (told : PathModel). TellsRuns owner ss (path_on owner steps) told) same (tells-whole owner ss steps walked)

pub one_value_each : (owner : ℕ) (ss : Statements) (run : Run) → IsRun owner ss run → length run.values ≡ length (read_places run.events)
one_value_each owner ss run is =
    let path = run-path owner ss run is in
    (tells-whole owner ss path.steps path.walked).one_each run is (sym path.taken) ∙ ap (λ (p : Path). length (read_places p.events)) path.taken
