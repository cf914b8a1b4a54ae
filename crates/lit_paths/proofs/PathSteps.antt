-- The guards and registers of a path, by its steps, are those that it has once it is built.
use Rattle.std.proofs.Common.{◌≡◌, ℕ, zero, suc, ◌+◌, ◌<◌, ◌==◌, Bool, true, false, if◌then◌else◌, Option, Some, None, List, [], ◌∷◌, ◌++◌, length, map, replicate, slice_get, arith, refl, sym, ap, ap₂, ◌∙◌, subst, ⊎_elim, append_assoc, append-nil, IsTrue}
use Rattle.std.specs.Prelude.{slice_set, slice_index_or}
use Rattle.std.proofs.lemmas.Bool.{cases_eq, eq-eqb, ne_eqb}
use Rattle.std.proofs.lemmas.List.{same_lists, get_or_default, get_or-set_same, get_or-set_other, length_push}
use Rattle.std.proofs.lemmas.List.FromFn.{length-map-range_with_len, get_or-map-range_with_len}
use Rattle.lit_syntax.specs.Syntax.{Statement, Statements, Load, Store, Exchange, CompareExchange, If, Then, End, IsStatementIn, AreStatementsIn}
use Rattle.std.specs.List.{range_with_len}
use Rattle.std.specs.Option.{option_or}
use Rattle.std.proofs.lemmas.Option.{same_Some}
use Rattle.lit_syntax.specs.declared.limits.TheConstants.{REGISTERS}
use Rattle.lit_paths.specs.declared.event.Event.{Event}
use Rattle.lit_paths.specs.declared.path.Tested.{Tested}
use Rattle.lit_paths.specs.Path.{Step, LoadMet, StoreMet, ExchangeMet, CompareExchangeMet, IfMet, compare_exchange_event, decisions_on, events_on, access_event}
use Rattle.lit_paths.specs.Members.{IsStatementWalk, IsWalk}
use Rattle.lit_paths.specs.Event.{does_read}
use Rattle.lit_paths.specs.PathModel.{PathModel, IsReadAt, accesses_of, access_count, reads_into, last_read_from, last_read, asked, guards_after, guards_on, path_model}
use Rattle.lit_paths.specs.Internal.PathSteps.{empty_path, with_steps}
use Rattle.lit_paths.specs.declared.event.Kind.TheVariants.{Read, Write, Modify}

-- ---- the guards and registers of steps, from a place on, where the registers hold these reads
abbrev pub guards_from : ℕ → List (Option ℕ) → List Step → List Tested
guards_from place last [] = []
guards_from place last (LoadMet reg window index atomic ∷ steps) = guards_from (place + 1) (slice_set last reg (Some place)) steps
guards_from place last (StoreMet window index value atomic ∷ steps) = guards_from (place + 1) last steps
guards_from place last (ExchangeMet reg window index value ∷ steps) = guards_from (place + 1) (slice_set last reg (Some place)) steps
guards_from place last (CompareExchangeMet reg window index expected value succeeds ∷ steps) =
    record { on = Some place; equal = succeeds; value = expected } ∷ guards_from (place + 1) (slice_set last reg (Some place)) steps
guards_from place last (IfMet reg equal value holds ∷ steps) =
    record { on = slice_index_or last reg None; equal = asked equal holds; value = value } ∷ guards_from place last steps

abbrev pub last_from : ℕ → List (Option ℕ) → List Step → List (Option ℕ)
last_from place last [] = last
last_from place last (LoadMet reg window index atomic ∷ steps) = last_from (place + 1) (slice_set last reg (Some place)) steps
last_from place last (StoreMet window index value atomic ∷ steps) = last_from (place + 1) last steps
last_from place last (ExchangeMet reg window index value ∷ steps) = last_from (place + 1) (slice_set last reg (Some place)) steps
last_from place last (CompareExchangeMet reg window index expected value succeeds ∷ steps) = last_from (place + 1) (slice_set last reg (Some place)) steps
last_from place last (IfMet reg equal value holds ∷ steps) = last_from place last steps

abbrev pub model_from : ℕ → List Event → List Tested → List (Option ℕ) → List Step → PathModel
model_from owner events tests last steps = record {
  events = events ++ events_on owner (length events) steps;
  tests = tests ++ guards_from (length events) last steps;
  last = last_from (length events) last steps;
}

-- one event in front of what the later steps make
moved : (owner : ℕ) (events : List Event) (e : Event) (tests : List Tested) (last : List (Option ℕ)) (steps : List Step)
    → model_from owner (events ++ e ∷ []) tests last steps
    ≡ record { events = events ++ e ∷ events_on owner (length events + 1) steps; tests = tests ++ guards_from (length events + 1) last steps; last = last_from (length events + 1) last steps }
moved owner events e tests last steps =
    let n : ℕ = length events + 1 in
    ap (λ (k : ℕ). record { events = (events ++ e ∷ []) ++ events_on owner k steps; tests = tests ++ guards_from k last steps; last = last_from k last steps }) (length_push events e)
    ∙ ap (λ (es : List Event). record { events = es; tests = tests ++ guards_from n last steps; last = last_from n last steps }) (append_assoc events (e ∷ []) (events_on owner n steps))

abbrev put_guards : PathModel → List Tested → PathModel
put_guards path tests = record { events = path.events; tests = tests; last = path.last }

with_steps-from : (owner : ℕ) (events : List Event) (tests : List Tested) (last : List (Option ℕ)) (steps : List Step)
    → with_steps owner (record { events = events; tests = tests; last = last }) steps ≡ model_from owner events tests last steps
with_steps-from owner events tests last [] =
    ap₂ (λ (es : List Event) (ts : List Tested). record { events = es; tests = ts; last = last }) (sym (append-nil events)) (sym (append-nil tests))
with_steps-from owner events tests last (LoadMet reg window index atomic ∷ steps) =
    let e = access_event Read owner (length events) window index 0 atomic in
    let last_now = slice_set last reg (Some (length events)) in
    with_steps-from owner (events ++ e ∷ []) tests last_now steps ∙ moved owner events e tests last_now steps
with_steps-from owner events tests last (StoreMet window index value atomic ∷ steps) =
    let e = access_event Write owner (length events) window index value atomic in
    with_steps-from owner (events ++ e ∷ []) tests last steps ∙ moved owner events e tests last steps
with_steps-from owner events tests last (ExchangeMet reg window index value ∷ steps) =
    let e = access_event Modify owner (length events) window index value true in
    let last_now = slice_set last reg (Some (length events)) in
    with_steps-from owner (events ++ e ∷ []) tests last_now steps ∙ moved owner events e tests last_now steps
with_steps-from owner events tests last (CompareExchangeMet reg window index expected value succeeds ∷ steps) =
    let e = compare_exchange_event owner (length events) window index value succeeds in
    let last_now = slice_set last reg (Some (length events)) in
    let test : Tested = record { on = Some (length events); equal = succeeds; value = expected } in
    let whole : PathModel = record { events = events ++ e ∷ events_on owner (length events + 1) steps; tests = tests; last = last_from (length events + 1) last_now steps } in
    with_steps-from owner (events ++ e ∷ []) (tests ++ test ∷ []) last_now steps ∙ moved owner events e (tests ++ test ∷ []) last_now steps
    ∙ ap (put_guards whole) (append_assoc tests (test ∷ []) (guards_from (length events + 1) last_now steps))
with_steps-from owner events tests last (IfMet reg equal value holds ∷ steps) =
    let test : Tested = record { on = slice_index_or last reg None; equal = asked equal holds; value = value } in
    with_steps-from owner events (tests ++ test ∷ []) last steps
    ∙ ap (put_guards (model_from owner events tests last steps)) (append_assoc tests (test ∷ []) (guards_from (length events) last steps))

-- ---- the steps of what a text can say have registers that there are
abbrev pub HasRegister : Step → Type 0
HasRegister (LoadMet reg window index atomic) = reg < REGISTERS
HasRegister (StoreMet window index value atomic) = Unit {0}
HasRegister (ExchangeMet reg window index value) = reg < REGISTERS
HasRegister (CompareExchangeMet reg window index expected value succeeds) = reg < REGISTERS
HasRegister (IfMet reg equal value holds) = reg < REGISTERS

abbrev pub HaveRegisters : List Step → Type 0
HaveRegisters [] = Unit {0}
HaveRegisters (step ∷ steps) = HasRegister step × HaveRegisters steps

registers-append : (a b : List Step) → HaveRegisters a → HaveRegisters b → HaveRegisters (a ++ b)
registers-append [] b p q = q
registers-append (x ∷ a) b p q = (p.0, registers-append a b p.1 q)

mutual
  statement-registers : (bytes : ℕ) (s : Statement) (steps : List Step) → IsStatementIn bytes s → IsStatementWalk s steps → HaveRegisters steps
  statement-registers bytes (Load reg window index atomic) steps said is = subst HaveRegisters (sym is) (said.0, tt)
  statement-registers bytes (Store window index value atomic) steps said is = subst HaveRegisters (sym is) (tt, tt)
  statement-registers bytes (Exchange reg window index value) steps said is = subst HaveRegisters (sym is) (said.0, tt)
  statement-registers bytes (CompareExchange reg window index expected value) steps said is = subst HaveRegisters (sym is.1) (said.0, tt)
  statement-registers bytes (If reg equal value body other) steps said is =
      ⊎_elim
      (λ arm. subst HaveRegisters (sym arm.1) (said.0, walk-registers bytes body arm.0 said.2 arm.2))
      (λ arm. subst HaveRegisters (sym arm.1) (said.0, walk-registers bytes other arm.0 said.3 arm.2))
      is

  pub walk-registers : (bytes : ℕ) (ss : Statements) (steps : List Step) → AreStatementsIn bytes ss → IsWalk ss steps → HaveRegisters steps
  walk-registers bytes End steps said is = subst HaveRegisters (sym is) tt
  walk-registers bytes (Then s ss) steps said is =
      subst HaveRegisters (sym is.2) (registers-append is.0 is.1 (statement-registers bytes s is.0 said.0 is.3) (walk-registers bytes ss is.1 said.1 is.4))

-- ---- the place of the last read
option_or-assoc : (a b c : Option ℕ) → option_or (option_or a b) c ≡ option_or a (option_or b c)
option_or-assoc None b c = refl
option_or-assoc (Some x) b c = refl

option_or-none : (a : Option ℕ) → option_or a None ≡ a
option_or-none None = refl
option_or-none (Some x) = refl

option_or-if : (b : Bool) (x : ℕ) (y z : Option ℕ) → option_or (if b then Some x else y) z ≡ (if b then Some x else option_or y z)
option_or-if true x y z = refl
option_or-if false x y z = refl

-- what a register holds after a read into one
set-index : (last : List (Option ℕ)) (reg r place : ℕ) → r < length last
    → slice_index_or (slice_set last reg (Some place)) r None ≡ (if reg == r then Some place else slice_index_or last r None)
set-index last reg r place inside =
    let none : Option ℕ = None in
    ⊎_elim
    (λ same.
    ap (λ i. slice_index_or (slice_set last i (Some place)) r none) same ∙ get_or-set_same last r (Some place) none inside
    ∙ ap (λ b. if b then Some place else slice_index_or last r none) (sym (eq-eqb reg r same)))
    (λ other.
    get_or-set_other last reg r (Some place) none (λ same. other (sym same))
    ∙ ap (λ b. if b then Some place else slice_index_or last r none) (sym (ne_eqb reg r other)))
    (cases_eq reg r)

pub length-slice_set : {A : Type 0} (xs : List A) (i : ℕ) (x : A) → length (slice_set xs i x) ≡ length xs
length-slice_set [] i x = refl
length-slice_set (y ∷ xs) zero x = refl
length-slice_set (y ∷ xs) (suc i) x = ap suc (length-slice_set xs i x)

length-last_from : (place : ℕ) (last : List (Option ℕ)) (steps : List Step) → length (last_from place last steps) ≡ length last
length-last_from place last [] = refl
length-last_from place last (LoadMet reg window index atomic ∷ steps) = length-last_from (place + 1) (slice_set last reg (Some place)) steps ∙ length-slice_set last reg (Some place)
length-last_from place last (StoreMet window index value atomic ∷ steps) = length-last_from (place + 1) last steps
length-last_from place last (ExchangeMet reg window index value ∷ steps) = length-last_from (place + 1) (slice_set last reg (Some place)) steps ∙ length-slice_set last reg (Some place)
length-last_from place last (CompareExchangeMet reg window index expected value succeeds ∷ steps) = length-last_from (place + 1) (slice_set last reg (Some place)) steps ∙ length-slice_set last reg (Some place)
length-last_from place last (IfMet reg equal value holds ∷ steps) = length-last_from place last steps

-- a read into a register, and then later steps
read_then : (place reg r : ℕ) (last : List (Option ℕ)) (steps : List Step) → r < length last
    → option_or (last_read_from (place + 1) steps r) (slice_index_or (slice_set last reg (Some place)) r None)
    ≡ option_or (option_or (last_read_from (place + 1) steps r) (if reg == r then Some place else None)) (slice_index_or last r None)
read_then place reg r last steps inside =
    let none : Option ℕ = None in
    ap (λ o. option_or (last_read_from (place + 1) steps r) o) (set-index last reg r place inside ∙ sym (option_or-if (reg == r) place none (slice_index_or last r None)))
    ∙ sym (option_or-assoc (last_read_from (place + 1) steps r) (if reg == r then Some place else None) (slice_index_or last r None))

other_then : (place next r : ℕ) (last : List (Option ℕ)) (steps : List Step) → next ≡ place
    → option_or (last_read_from place steps r) (slice_index_or last r None) ≡ option_or (option_or (last_read_from next steps r) None) (slice_index_or last r None)
other_then place next r last steps same =
    ap (λ n. option_or (last_read_from n steps r) (slice_index_or last r None)) (sym same)
    ∙ ap (λ o. option_or o (slice_index_or last r None)) (sym (option_or-none (last_read_from next steps r)))

last_from-at : (place : ℕ) (last : List (Option ℕ)) (steps : List Step) (r : ℕ) → r < length last
    → slice_index_or (last_from place last steps) r None ≡ option_or (last_read_from place steps r) (slice_index_or last r None)
last_from-at place last [] r inside = refl
last_from-at place last (LoadMet reg window index atomic ∷ steps) r inside =
    last_from-at (place + 1) (slice_set last reg (Some place)) steps r (omega (arith, inside, length-slice_set last reg (Some place))) ∙ read_then place reg r last steps inside
last_from-at place last (StoreMet window index value atomic ∷ steps) r inside = last_from-at (place + 1) last steps r inside ∙ other_then (place + 1) (place + 1) r last steps refl
last_from-at place last (ExchangeMet reg window index value ∷ steps) r inside =
    last_from-at (place + 1) (slice_set last reg (Some place)) steps r (omega (arith, inside, length-slice_set last reg (Some place))) ∙ read_then place reg r last steps inside
last_from-at place last (CompareExchangeMet reg window index expected value succeeds ∷ steps) r inside =
    last_from-at (place + 1) (slice_set last reg (Some place)) steps r (omega (arith, inside, length-slice_set last reg (Some place))) ∙ read_then place reg r last steps inside
last_from-at place last (IfMet reg equal value holds ∷ steps) r inside = last_from-at place last steps r inside ∙ other_then place (place + 0) r last steps (omega arith)

none-at : (n r : ℕ) → slice_index_or ((let none : Option ℕ = None in replicate n none)) r None ≡ None
none-at zero r = refl
none-at (suc n) zero = refl
none-at (suc n) (suc r) = none-at n r

pub path_model-last : (steps : List Step) → last_from 0 (replicate REGISTERS None) steps ≡ map (last_read steps) (range_with_len 0 REGISTERS)
path_model-last steps =
    let none : List (Option ℕ) = replicate REGISTERS None in
    let long : length (last_from 0 none steps) ≡ REGISTERS = length-last_from 0 none steps in
    same_lists _ _ (omega (arith, long, length-map-range_with_len (last_read steps) 0 REGISTERS))
    (λ r d inside.
    let within : r < REGISTERS = omega (arith, inside, long) in
    get_or_default (last_from 0 none steps) r d None inside
    ∙ last_from-at 0 none steps r (omega (arith, within))
    ∙ ap (λ o. option_or (last_read steps r) o) (none-at REGISTERS r) ∙ option_or-none (last_read steps r)
    ∙ sym (get_or-map-range_with_len (last_read steps) 0 REGISTERS r r d within (omega arith)))

-- ---- the guards
pub access_count-append : (a b : List Step) → access_count (a ++ b) ≡ access_count a + access_count b
access_count-append [] b = omega arith
access_count-append (x ∷ a) b = omega (arith, access_count-append a b)

last_read-push : (place : ℕ) (before : List Step) (step : Step) (r : ℕ)
    → last_read_from place (before ++ step ∷ []) r ≡ (if reads_into r step then Some (place + access_count before) else last_read_from place before r)
last_read-push place [] step r = ap (λ n. if reads_into r step then Some n else None) (let e : place ≡ place + 0 = omega arith in e)
last_read-push place (x ∷ before) step r =
    let next : ℕ = place + accesses_of x in
    let here : Option ℕ = if reads_into r x then Some place else None in
    ap (λ o. option_or o here) (last_read-push next before step r)
    ∙ option_or-if (reads_into r step) (next + access_count before) (last_read_from next before r) here
    ∙ ap (λ n. if reads_into r step then Some n else option_or (last_read_from next before r) here) (let e : next + access_count before ≡ place + (accesses_of x + access_count before) = omega arith in e)

-- the registers hold the last reads of these steps
pub record Reflects (before : List Step) (last : List (Option ℕ)) : Type 0 where
  pub long : length last ≡ REGISTERS
  pub each : (r : ℕ) → r < REGISTERS → slice_index_or last r None ≡ last_read before r

reflects-read : (before : List Step) (step : Step) (reg : ℕ) (last : List (Option ℕ)) → ((r : ℕ) → reads_into r step ≡ (reg == r)) → Reflects before last
    → Reflects (before ++ step ∷ []) (slice_set last reg (Some (access_count before)))
reflects-read before step reg last reads is = record {
  long = length-slice_set last reg (Some (access_count before)) ∙ is.long;
  each = λ r inside.
      set-index last reg r (access_count before) (omega (arith, inside, is.long))
      ∙ ap (λ b. if b then Some (access_count before) else slice_index_or last r None) (sym (reads r))
      ∙ ap (λ o. if reads_into r step then Some (access_count before) else o) (is.each r inside)
      ∙ ap (λ n. if reads_into r step then Some n else last_read before r) (let e : access_count before ≡ 0 + access_count before = omega arith in e)
      ∙ sym (last_read-push 0 before step r);
}

reflects-other : (before : List Step) (step : Step) (last : List (Option ℕ)) → ((r : ℕ) → reads_into r step ≡ false) → Reflects before last → Reflects (before ++ step ∷ []) last
reflects-other before step last reads is = record {
  long = is.long;
  each = λ r inside. is.each r inside ∙ sym (last_read-push 0 before step r ∙ ap (λ b. if b then Some (0 + access_count before) else last_read before r) (reads r));
}

counted : (before : List Step) (step : Step) → access_count (before ++ step ∷ []) ≡ access_count before + accesses_of step
counted before step = omega (arith, access_count-append before (step ∷ []))

guards_after-from : (before steps : List Step) (last : List (Option ℕ)) → Reflects before last → HaveRegisters steps → guards_after before steps ≡ guards_from (access_count before) last steps
guards_after-from before [] last is have = refl
guards_after-from before (LoadMet reg window index atomic ∷ steps) last is have =
    let step : Step = LoadMet reg window index atomic in
    let last_now = slice_set last reg (Some (access_count before)) in
    guards_after-from (before ++ step ∷ []) steps last_now (reflects-read before step reg last (λ r. refl) is) have.1
    ∙ ap (λ n. guards_from n last_now steps) (counted before step)
guards_after-from before (StoreMet window index value atomic ∷ steps) last is have =
    let step : Step = StoreMet window index value atomic in
    guards_after-from (before ++ step ∷ []) steps last (reflects-other before step last (λ r. refl) is) have.1
    ∙ ap (λ n. guards_from n last steps) (counted before step)
guards_after-from before (ExchangeMet reg window index value ∷ steps) last is have =
    let step : Step = ExchangeMet reg window index value in
    let last_now = slice_set last reg (Some (access_count before)) in
    guards_after-from (before ++ step ∷ []) steps last_now (reflects-read before step reg last (λ r. refl) is) have.1
    ∙ ap (λ n. guards_from n last_now steps) (counted before step)
guards_after-from before (CompareExchangeMet reg window index expected value succeeds ∷ steps) last is have =
    let step : Step = CompareExchangeMet reg window index expected value succeeds in
    let last_now = slice_set last reg (Some (access_count before)) in
    let test : Tested = record { on = Some (access_count before); equal = succeeds; value = expected } in
    ap (λ (ts : List Tested). test ∷ ts)
    (guards_after-from (before ++ step ∷ []) steps last_now (reflects-read before step reg last (λ r. refl) is) have.1
    ∙ ap (λ n. guards_from n last_now steps) (counted before step))
guards_after-from before (IfMet reg equal value holds ∷ steps) last is have =
    let step : Step = IfMet reg equal value holds in
    let test : Option ℕ → Tested = λ on. record { on = on; equal = asked equal holds; value = value } in
    ap (λ (o : Option ℕ). test o ∷ guards_after (before ++ step ∷ []) steps) (sym (is.each reg have.0))
    ∙ ap (λ (ts : List Tested). test (slice_index_or last reg None) ∷ ts)
    (guards_after-from (before ++ step ∷ []) steps last (reflects-other before step last (λ r. refl) is) have.1
    ∙ ap (λ n. guards_from n last steps) (counted before step ∙ (let e : access_count before + 0 ≡ access_count before = omega arith in e)))

pub path_model-tests : (steps : List Step) → HaveRegisters steps → guards_from 0 (replicate REGISTERS None) steps ≡ guards_on steps
path_model-tests steps have =
    let none : List Step = [] in
    sym (guards_after-from none steps (replicate REGISTERS None) (record { long = refl; each = λ r inside. none-at REGISTERS r }) have)

-- ---- a path once it is built
pub with_steps-model : (owner : ℕ) (steps : List Step) → HaveRegisters steps → with_steps owner empty_path steps ≡ path_model owner steps
with_steps-model owner steps have =
    let with_guards : List Tested → PathModel = λ tests. record { events = events_on owner 0 steps; tests = tests; last = last_from 0 (replicate REGISTERS None) steps } in
    let with_last : List (Option ℕ) → PathModel = λ last. record { events = events_on owner 0 steps; tests = guards_on steps; last = last } in
    with_steps-from owner [] [] (replicate REGISTERS None) steps ∙ ap with_guards (path_model-tests steps have) ∙ ap with_last (path_model-last steps)

-- ---- one guard for each decision
length-guards_after : (before steps : List Step) → length (guards_after before steps) ≡ length (decisions_on steps)
length-guards_after before [] = refl
length-guards_after before (LoadMet reg window index atomic ∷ steps) = length-guards_after (before ++ LoadMet reg window index atomic ∷ []) steps
length-guards_after before (StoreMet window index value atomic ∷ steps) = length-guards_after (before ++ StoreMet window index value atomic ∷ []) steps
length-guards_after before (ExchangeMet reg window index value ∷ steps) = length-guards_after (before ++ ExchangeMet reg window index value ∷ []) steps
length-guards_after before (CompareExchangeMet reg window index expected value succeeds ∷ steps) =
    ap suc (length-guards_after (before ++ CompareExchangeMet reg window index expected value succeeds ∷ []) steps)
length-guards_after before (IfMet reg equal value holds ∷ steps) = ap suc (length-guards_after (before ++ IfMet reg equal value holds ∷ []) steps)

pub length-guards_on : (steps : List Step) → length (guards_on steps) ≡ length (decisions_on steps)
length-guards_on steps = let none : List Step = [] in length-guards_after none steps

-- ---- guards and registers refer to events that read
pub length-events_on : (owner place : ℕ) (steps : List Step) → length (events_on owner place steps) ≡ access_count steps
length-events_on owner place [] = refl
length-events_on owner place (LoadMet reg window index atomic ∷ steps) = omega (arith, length-events_on owner (place + 1) steps)
length-events_on owner place (StoreMet window index value atomic ∷ steps) = omega (arith, length-events_on owner (place + 1) steps)
length-events_on owner place (ExchangeMet reg window index value ∷ steps) = omega (arith, length-events_on owner (place + 1) steps)
length-events_on owner place (CompareExchangeMet reg window index expected value succeeds ∷ steps) = omega (arith, length-events_on owner (place + 1) steps)
length-events_on owner place (IfMet reg equal value holds ∷ steps) = omega (arith, length-events_on owner place steps)

exchange-reads : (owner place : ℕ) (window : _) (index value : ℕ) (succeeds : Bool) → IsTrue (does_read (compare_exchange_event owner place window index value succeeds).kind)
exchange-reads owner place window index value true = refl
exchange-reads owner place window index value false = refl

-- one event more in front, or none
abbrev later_read : (e : Event) (es : List Event) (i : ℕ) → IsReadAt es i → IsReadAt (e ∷ es) (suc i)
later_read e es i is = (omega (arith, is.0), is.1)

-- where the last read is
abbrev pub IsLast : ℕ → ℕ → List Step → ℕ → Type 0
IsLast owner place steps q = (i : ℕ) × (q ≡ place + i) × IsReadAt (events_on owner place steps) i

last-here : (place q : ℕ) (b : Bool) (o : Option ℕ) (e : Event) (es : List Event) → IsTrue (does_read e.kind)
    → ((x : ℕ) → o ≡ Some x → (i : ℕ) × (x ≡ (place + 1) + i) × IsReadAt es i) → option_or o (if b then Some place else None) ≡ Some q → (i : ℕ) × (q ≡ place + i) × IsReadAt (e ∷ es) i
last-here place q b (Some x) e es reads later at =
    let same : x ≡ q = cc in
    let found = later x refl in
    (suc found.0, omega (arith, same, found.1), later_read e es found.0 found.2)
last-here place q true None e es reads later at = let same : place ≡ q = cc in (0, omega (arith, same), (omega arith, reads))
last-here place q false None e es reads later at = cc

pub last-at : (owner place : ℕ) (steps : List Step) (q : ℕ) (r : ℕ) → last_read_from place steps r ≡ Some q → IsLast owner place steps q
last-at owner place [] q r at = cc
last-at owner place (LoadMet reg window index atomic ∷ steps) q r at =
    last-here place q (reg == r) (last_read_from (place + 1) steps r) (access_event Read owner place window index 0 atomic) (events_on owner (place + 1) steps) refl (λ x is. let later = last-at owner (place + 1) steps x r is in (later.0, later.1, later.2)) at
last-at owner place (StoreMet window index value atomic ∷ steps) q r at =
    let later = last-at owner (place + 1) steps q r (sym (option_or-none (last_read_from (place + 1) steps r)) ∙ at) in
    (suc later.0, omega (arith, later.1), later_read (access_event Write owner place window index value atomic) (events_on owner (place + 1) steps) later.0 later.2)
last-at owner place (ExchangeMet reg window index value ∷ steps) q r at =
    last-here place q (reg == r) (last_read_from (place + 1) steps r) (access_event Modify owner place window index value true) (events_on owner (place + 1) steps) refl (λ x is. let later = last-at owner (place + 1) steps x r is in (later.0, later.1, later.2)) at
last-at owner place (CompareExchangeMet reg window index expected value succeeds ∷ steps) q r at =
    last-here place q (reg == r) (last_read_from (place + 1) steps r) (compare_exchange_event owner place window index value succeeds) (events_on owner (place + 1) steps)
    (exchange-reads owner place window index value succeeds) (λ x is. let later = last-at owner (place + 1) steps x r is in (later.0, later.1, later.2)) at
last-at owner place (IfMet reg equal value holds ∷ steps) q r at =
    let later = last-at owner (place + 0) steps q r (sym (option_or-none (last_read_from (place + 0) steps r)) ∙ at) in
    let same : place + 0 ≡ place = omega arith in
    (later.0, omega (arith, later.1), subst (λ (p : ℕ). IsReadAt (events_on owner p steps) later.0) same later.2)

pub holds_reads : (owner : ℕ) (steps : List Step) (r place : ℕ) → last_read steps r ≡ Some place → IsReadAt (events_on owner 0 steps) place
holds_reads owner steps r place at =
    let found = last-at owner 0 steps place r at in
    subst (λ (i : ℕ). IsReadAt (events_on owner 0 steps) i) (let e : found.0 ≡ place = omega (arith, found.1) in e) found.2

read-behind : (xs es : List Event) (n i : ℕ) → n ≡ length xs + i → IsReadAt es i → IsReadAt (xs ++ es) n
read-behind [] es n i same is = subst (λ (k : ℕ). IsReadAt es k) (let e : i ≡ n = omega (arith, same) in e) is
read-behind (x ∷ xs) es zero i same is = absurd (omega (arith, same))
read-behind (x ∷ xs) es (suc n) i same is = later_read x (xs ++ es) n (read-behind xs es n i (omega (arith, same)) is)

read-front : (xs es : List Event) (i : ℕ) → IsReadAt xs i → IsReadAt (xs ++ es) i
read-front [] es i is = absurd (omega (arith, is.0))
read-front (x ∷ xs) es zero is = (omega arith, is.1)
read-front (x ∷ xs) es (suc i) is = later_read x (xs ++ es) i (read-front xs es i (omega (arith, is.0), is.1))

events_on-append : (owner place : ℕ) (a b : List Step) → events_on owner place (a ++ b) ≡ events_on owner place a ++ events_on owner (place + access_count a) b
events_on-append owner place [] b = ap (λ n. events_on owner n b) (let e : place ≡ place + 0 = omega arith in e)
events_on-append owner place (LoadMet reg window index atomic ∷ a) b =
    ap (λ es. access_event Read owner place window index 0 atomic ∷ es) (events_on-append owner (place + 1) a b ∙ ap (λ n. events_on owner (place + 1) a ++ events_on owner n b) (let e : (place + 1) + access_count a ≡ place + (1 + access_count a) = omega arith in e))
events_on-append owner place (StoreMet window index value atomic ∷ a) b =
    ap (λ es. access_event Write owner place window index value atomic ∷ es) (events_on-append owner (place + 1) a b ∙ ap (λ n. events_on owner (place + 1) a ++ events_on owner n b) (let e : (place + 1) + access_count a ≡ place + (1 + access_count a) = omega arith in e))
events_on-append owner place (ExchangeMet reg window index value ∷ a) b =
    ap (λ es. access_event Modify owner place window index value true ∷ es) (events_on-append owner (place + 1) a b ∙ ap (λ n. events_on owner (place + 1) a ++ events_on owner n b) (let e : (place + 1) + access_count a ≡ place + (1 + access_count a) = omega arith in e))
events_on-append owner place (CompareExchangeMet reg window index expected value succeeds ∷ a) b =
    ap (λ es. compare_exchange_event owner place window index value succeeds ∷ es) (events_on-append owner (place + 1) a b ∙ ap (λ n. events_on owner (place + 1) a ++ events_on owner n b) (let e : (place + 1) + access_count a ≡ place + (1 + access_count a) = omega arith in e))
events_on-append owner place (IfMet reg equal value holds ∷ a) b =
    events_on-append owner place a b ∙ ap (λ n. events_on owner place a ++ events_on owner n b) (let e : place + access_count a ≡ place + (0 + access_count a) = omega arith in e)

-- what the steps before have made stands in front
among-append : (owner place : ℕ) (before steps : List Step) → IsReadAt (events_on owner 0 before ++ events_on owner (0 + access_count before) steps) place
    → IsReadAt (events_on owner 0 (before ++ steps)) place
among-append owner place before steps is = subst (λ (es : List Event). IsReadAt es place) (sym (events_on-append owner 0 before steps)) is

pushed : (owner : ℕ) (before : List Step) (step : Step) (steps : List Step) (place : ℕ) → IsReadAt (events_on owner 0 ((before ++ step ∷ []) ++ steps)) place
    → IsReadAt (events_on owner 0 (before ++ step ∷ steps)) place
pushed owner before step steps place is = subst (λ (l : List Step). IsReadAt (events_on owner 0 l) place) (append_assoc before (step ∷ []) steps) is

guards_after-reads : (owner : ℕ) (before steps : List Step) (k place : ℕ) (test : Tested) → slice_get (guards_after before steps) k ≡ Some test → test.on ≡ Some place
    → IsReadAt (events_on owner 0 (before ++ steps)) place
guards_after-reads owner before [] k place test at on = cc
guards_after-reads owner before (LoadMet reg window index atomic ∷ steps) k place test at on =
    pushed owner before (LoadMet reg window index atomic) steps place (guards_after-reads owner (before ++ LoadMet reg window index atomic ∷ []) steps k place test at on)
guards_after-reads owner before (StoreMet window index value atomic ∷ steps) k place test at on =
    pushed owner before (StoreMet window index value atomic) steps place (guards_after-reads owner (before ++ StoreMet window index value atomic ∷ []) steps k place test at on)
guards_after-reads owner before (ExchangeMet reg window index value ∷ steps) k place test at on =
    pushed owner before (ExchangeMet reg window index value) steps place (guards_after-reads owner (before ++ ExchangeMet reg window index value ∷ []) steps k place test at on)
guards_after-reads owner before (CompareExchangeMet reg window index expected value succeeds ∷ steps) zero place test at on =
    let same : record { on = Some (access_count before); equal = succeeds; value = expected } ≡ test = same_Some _ _ at in
    let here : Some (access_count before) ≡ Some place = ap (λ (m : Tested). m.on) same ∙ on in
    let is : access_count before ≡ place = cc in
    among-append owner place before (CompareExchangeMet reg window index expected value succeeds ∷ steps)
    (read-behind (events_on owner 0 before) _ place 0 (omega (arith, is, length-events_on owner 0 before)) (omega arith, exchange-reads owner (0 + access_count before) window index value succeeds))
guards_after-reads owner before (CompareExchangeMet reg window index expected value succeeds ∷ steps) (suc k) place test at on =
    pushed owner before (CompareExchangeMet reg window index expected value succeeds) steps place
    (guards_after-reads owner (before ++ CompareExchangeMet reg window index expected value succeeds ∷ []) steps k place test at on)
guards_after-reads owner before (IfMet reg equal value holds ∷ steps) zero place test at on =
    let same : record { on = last_read before reg; equal = asked equal holds; value = value } ≡ test = same_Some _ _ at in
    let here : last_read before reg ≡ Some place = ap (λ (m : Tested). m.on) same ∙ on in
    among-append owner place before (IfMet reg equal value holds ∷ steps) (read-front (events_on owner 0 before) _ place (holds_reads owner before reg place here))
guards_after-reads owner before (IfMet reg equal value holds ∷ steps) (suc k) place test at on =
    pushed owner before (IfMet reg equal value holds) steps place (guards_after-reads owner (before ++ IfMet reg equal value holds ∷ []) steps k place test at on)

pub guards_reads : (owner : ℕ) (steps : List Step) (k place : ℕ) (test : Tested) → slice_get (guards_on steps) k ≡ Some test → test.on ≡ Some place → IsReadAt (events_on owner 0 steps) place
guards_reads owner steps k place test at on = let none : List Step = [] in guards_after-reads owner none steps k place test at on
