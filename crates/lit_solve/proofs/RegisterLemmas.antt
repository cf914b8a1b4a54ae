-- A register's value in an outcome is the value of the read that it observes at the end of its agent's path.
use Rattle.lit_solve.proofs.Words.{◌&&◌, ◌+◌, ◌++◌, ◌<◌, ◌==◌, [], accesses_of, Agent, agent_of, ap, ap₂, arith, Bool, Box, cases_eq}
use Rattle.lit_solve.proofs.Words.{cases_lt, Class, CompareExchange, cond, Decided, does_read, End, eq-eqb, Event, event_at, events_in}
use Rattle.lit_solve.proofs.Words.{Exchange, Execution, execution_outcome, false, false≢true, filter, first_event}
use Rattle.lit_solve.proofs.Words.{get_or-map-range_with_len, get_or_past, If, if◌then◌else◌, inl, inr, Is, is_of_class, IsBox}
use Rattle.lit_solve.proofs.Words.{IsCompletion, IsDecided, IsOutcomeProspect, IsProspect, IsReadAt, IsReadDecided, IsStatementWalk}
use Rattle.lit_solve.proofs.Words.{IsTrue, IsWalk, IsWalkIn, its_outcome, last_read, last_read_from, Laws, length, length-map}
use Rattle.lit_solve.proofs.Words.{length-map-range_with_len, List, list_any, list_any-append, Litmus, Load, map, names_from}
use Rattle.lit_solve.proofs.Words.{names_from-within, names_in, names_of, nat_tests, ne_eqb, None, none-some, number_on, observed_read}
use Rattle.lit_solve.proofs.Words.{observed_value, OfClass, Option, option_or, or_parts, outcome_by, path_in, path_on, product-known}
use Rattle.lit_solve.proofs.Words.{range_with_len, reads_into, refl, REGISTERS, same_Some, slice_get, slice_get-get_or}
use Rattle.lit_solve.proofs.Words.{slice_index_or, Some, Statement, statement_writes, Statements, Step, Store, subst, suc, sym, Then, true}
use Rattle.lit_solve.proofs.Words.{value_in, walk_in, writes, zero, ◌||◌, ℕ, ◌∙◌, ◌∷◌, ◌≡◌, ◌≢◌, ◌≤◌, ◌⊎◌}
use Rattle.std.proofs.Common.{zip}
use Rattle.lit_solve.specs.declared.decided.Decided.TheVariants.{Known, Open}
use Rattle.lit_solve.proofs.CompletionLemmas.{completes, part_of}
use Rattle.lit_solve.proofs.FillLemmas.{sources_lie}

-- ---- a register that the text does not write
-- none of these steps reads into the register
NoneInto : ℕ → List Step → Type 0
NoneInto r [] = Unit {0}
NoneInto r (step ∷ steps) = (reads_into r step ≡ false) × NoneInto r steps

none_append : (r : ℕ) (xs ys : List Step) → NoneInto r xs → NoneInto r ys → NoneInto r (xs ++ ys)
unfolding NoneInto
none_append r [] ys none later = later
none_append r (x ∷ xs) ys none later = (none.0, none_append r xs ys none.1 later)

last_none : (r place : ℕ) (steps : List Step) → NoneInto r steps → last_read_from place steps r ≡ None
unfolding NoneInto
last_none r place [] none = refl
last_none r place (step ∷ steps) none =
    ap (λ (later : Option ℕ). option_or later (if reads_into r step then Some place else None)) (last_none r (place + accesses_of step) steps none.1)
    ∙ ap (λ (b : Bool). if b then Some place else None) none.0

mutual
  unfolding NoneInto

  statement_none : (r : ℕ) (s : Statement) (steps : List Step) → IsStatementWalk s steps → statement_writes s r ≡ false → NoneInto r steps
  statement_none r (Load reg window index atomic) steps is off = subst (NoneInto r) (sym is) (off, tt)
  statement_none r (Store window index value atomic) steps is off = subst (NoneInto r) (sym is) (refl, tt)
  statement_none r (Exchange reg window index value) steps is off = subst (NoneInto r) (sym is) (off, tt)
  statement_none r (CompareExchange reg window index expected value) steps is off = subst (NoneInto r) (sym is.1) (off, tt)
  statement_none r (If reg equal value body other) steps (inl arm) off =
      subst (NoneInto r) (sym arm.1) (refl, walk_none r body arm.0 arm.2 (or_parts (writes body r) (writes other r) off).0)
  statement_none r (If reg equal value body other) steps (inr arm) off =
      subst (NoneInto r) (sym arm.1) (refl, walk_none r other arm.0 arm.2 (or_parts (writes body r) (writes other r) off).1)

  walk_none : (r : ℕ) (ss : Statements) (steps : List Step) → IsWalk ss steps → writes ss r ≡ false → NoneInto r steps
  walk_none r End steps is off = subst (NoneInto r) (sym is) tt
  walk_none r (Then s ss) steps is off =
      let parts = or_parts (statement_writes s r) (writes ss r) off in
      subst (NoneInto r) (sym is.2) (none_append r is.0 is.1 (statement_none r s is.0 is.3 parts.0) (walk_none r ss is.1 is.4 parts.1))

-- ---- names
-- whether this is the name of a register of an agent
abbrev pub is_name : (agent reg : ℕ) → ℕ × ℕ → Bool
is_name agent reg name = (name.0 == agent) && (name.1 == reg)

-- what an outcome has for a register: 0 where it is not named
value_named : (f : ℕ × ℕ → ℕ) (names : List (ℕ × ℕ)) (agent reg : ℕ)
    → value_in (zip names (map f names)) agent reg ≡ cond (list_any (is_name agent reg) names) (f (agent, reg)) 0
value_named f [] agent reg = refl
value_named f (n ∷ names) agent reg = by (n.0 == agent) (n.1 == reg) refl refl (value_named f names agent reg)
  where
    by : (x y : Bool) → (n.0 == agent) ≡ x → (n.1 == reg) ≡ y
        → value_in (zip names (map f names)) agent reg ≡ cond (list_any (is_name agent reg) names) (f (agent, reg)) 0
        → cond (x && y) (f n) (value_in (zip names (map f names)) agent reg) ≡ cond ((x && y) || list_any (is_name agent reg) names) (f (agent, reg)) 0
    by true true is_agent is_reg rest =
        let one : n.0 ≡ agent = grind (arith, nat_tests) in
        let two : n.1 ≡ reg = grind (arith, nat_tests) in
        ap₂ (λ (a r : ℕ). f (a, r)) one two
    by true false is_agent is_reg rest = rest
    by false true is_agent is_reg rest = rest
    by false false is_agent is_reg rest = rest

either : (a b : Bool) → (a ≡ true) ⊎ (b ≡ true) → (a || b) ≡ true
either a b h = grind (arith, false≢true)

itself : (agent reg : ℕ) → is_name agent reg (agent, reg) ≡ true
itself agent reg = ap₂ (λ (x y : Bool). x && y) (eq-eqb agent agent refl) (eq-eqb reg reg refl)

-- a register that the predicate p picks is named
named_in : (p : ℕ → Bool) (n reg low count : ℕ) → low ≤ reg → reg < low + count → p reg ≡ true
    → list_any (is_name n reg) (map (λ r. (n, r)) (filter p (range_with_len low count))) ≡ true
named_in p n reg low zero least most picks = absurd (omega (arith, least, most))
named_in p n reg low (suc count) least most picks =
    by (cases_eq low reg) (λ other. named_in p n reg (low + 1) count (omega (arith, least, other)) (omega (arith, most)) picks)
  where
    rest : List (ℕ × ℕ)
    rest = map (λ r. (n, r)) (filter p (range_with_len (low + 1) count))

    later : (b : Bool) → list_any (is_name n reg) rest ≡ true
        → list_any (is_name n reg) (map (λ r. (n, r)) (cond b (low ∷ filter p (range_with_len (low + 1) count)) (filter p (range_with_len (low + 1) count)))) ≡ true
    later true h = either (is_name n reg (n, low)) (list_any (is_name n reg) rest) (inr h)
    later false h = h

    by : (low ≡ reg) ⊎ (low ≢ reg) → (low ≢ reg → list_any (is_name n reg) rest ≡ true)
        → list_any (is_name n reg) (map (λ r. (n, r)) (filter p (range_with_len low (suc count)))) ≡ true
    by (inl same) there =
        ap (λ (b : Bool). list_any (is_name n reg)
        (map (λ r. (n, r)) (cond b (low ∷ filter p (range_with_len (low + 1) count)) (filter p (range_with_len (low + 1) count)))))
        (ap p same ∙ picks)
        ∙ either (is_name n reg (n, low)) (list_any (is_name n reg) rest) (inl (ap (λ (r : ℕ). is_name n reg (n, r)) same ∙ itself n reg))
    by (inr other) there = later (p low) (there other)

named_from : (n k reg : ℕ) (agents : List Agent) (a : Agent) → slice_get agents k ≡ Some a → reg < REGISTERS → writes a.body reg ≡ true
    → list_any (is_name (n + k) reg) (names_from n agents) ≡ true
named_from n k reg [] a at known picks = absurd (none-some a at)
named_from n zero reg (x ∷ agents) a at known picks =
    let here : x ≡ a = same_Some x a at in
    let same : n + 0 ≡ n = omega arith in
    ap (λ (m : ℕ). list_any (is_name m reg) (names_from n (x ∷ agents))) same
    ∙ list_any-append (is_name n reg) (names_in n x) (names_from (n + 1) agents)
    ∙ either (list_any (is_name n reg) (names_in n x)) (list_any (is_name n reg) (names_from (n + 1) agents))
    (inl (named_in (writes x.body) n reg 0 REGISTERS (omega arith) (omega (arith, known)) (ap (λ (b : Agent). writes b.body reg) here ∙ picks)))
named_from n (suc k) reg (x ∷ agents) a at known picks =
    let same : n + suc k ≡ (n + 1) + k = omega arith in
    ap (λ (m : ℕ). list_any (is_name m reg) (names_from n (x ∷ agents))) same
    ∙ list_any-append (is_name ((n + 1) + k) reg) (names_in n x) (names_from (n + 1) agents)
    ∙ either (list_any (is_name ((n + 1) + k) reg) (names_in n x)) (list_any (is_name ((n + 1) + k) reg) (names_from (n + 1) agents))
    (inr (named_from (n + 1) k reg agents a at known picks))

-- ---- what registers observe
-- an agent that is not there has no walk
pub walk_beyond : (t : Litmus) (c agent : ℕ) → length t.agents ≤ agent → walk_in t c agent ≡ []
walk_beyond t c agent past = grind (arith, cases_lt, get_or_past, length-map, product-known, slice_get-get_or)

-- such a register observes nothing at the end of its agent's path
abbrev last_observed : (t : Litmus) (c agent reg : ℕ) → Option ℕ
last_observed t c agent reg = slice_index_or (path_in t c agent).last reg None

pub none_beyond : (t : Litmus) (c agent reg : ℕ) → REGISTERS ≤ reg → last_observed t c agent reg ≡ None
none_beyond t c agent reg past = grind (arith, get_or_past, length-map-range_with_len)

pub none_without_agent : (t : Litmus) (c agent reg : ℕ) → length t.agents ≤ agent → last_observed t c agent reg ≡ None
none_without_agent t c agent reg past = grind (arith, cases_lt, get_or-map-range_with_len, none_beyond, walk_beyond)

none_unwritten : (t : Litmus) (c agent reg : ℕ) → IsWalkIn t c agent (walk_in t c agent) → reg < REGISTERS
    → writes (agent_of t agent).body reg ≡ false → last_observed t c agent reg ≡ None
none_unwritten t c agent reg walk known off =
    get_or-map-range_with_len (last_read (walk_in t c agent)) 0 REGISTERS reg reg None known (omega arith)
    ∙ last_none reg 0 (walk_in t c agent) (walk_none reg (agent_of t agent).body (walk_in t c agent) walk.walked off)

-- a register that is not named observes nothing
none_unnamed : (t : Litmus) (c agent reg : ℕ) → (agent < length t.agents → IsWalkIn t c agent (walk_in t c agent))
    → list_any (is_name agent reg) (names_of t) ≡ false → last_observed t c agent reg ≡ None
none_unnamed t c agent reg walk unnamed = by (cases_lt agent (length t.agents)) (cases_lt reg REGISTERS)
  where
    by : (agent < length t.agents) ⊎ (length t.agents ≤ agent) → (reg < REGISTERS) ⊎ (REGISTERS ≤ reg) → last_observed t c agent reg ≡ None
    by (inr past) reg_known = none_without_agent t c agent reg past
    by (inl inside) (inr past) = none_beyond t c agent reg past
    by (inl inside) (inl known) = written (writes (agent_of t agent).body reg) refl
      where
        written : (b : Bool) → writes (agent_of t agent).body reg ≡ b → last_observed t c agent reg ≡ None
        written false is = none_unwritten t c agent reg (walk inside) known is
        written true is =
            let named : list_any (is_name (0 + agent) reg) (names_of t) ≡ true =
            named_from 0 agent reg t.agents (agent_of t agent) (slice_get-get_or t.agents agent (record { name = []; body = End }) inside) known is in
            let same : 0 + agent ≡ agent = omega arith in
            absurd (false≢true (sym unnamed ∙ subst (λ (a : ℕ). list_any (is_name a reg) (names_of t) ≡ true) same named))

-- the read that a register observes is an event of the combination that reads
pub observed_reads : (t : Litmus) (c agent reg k : ℕ) → IsWalkIn t c agent (walk_in t c agent) → reg < REGISTERS → last_observed t c agent reg ≡ Some k
    → (first_event t c agent + k < length (events_in t c)) × IsTrue (does_read (event_at (events_in t c) (first_event t c agent + k)).kind)
observed_reads t c agent reg k walk known at =
    let last : last_read (walk_in t c agent) reg ≡ Some k = sym
    (get_or-map-range_with_len (last_read (walk_in t c agent)) 0 REGISTERS reg reg None known (omega arith)) ∙ at in
    let is : IsReadAt (path_on agent (walk_in t c agent)).events k = walk.holds_reads reg k last in
    (omega (arith, is.0, walk.within), subst (λ (e : Event). IsTrue (does_read e.kind)) (sym (walk.numbered k is.0)) is.1)

-- ---- by sources, and in a completion
-- what a register has in the outcome that these sources give
pub register_observed : (laws : Laws) (box : Box) → IsBox box → (sources : List ℕ) (agent reg : ℕ)
    → value_in (zip (names_of box.test) (outcome_by box sources)) agent reg ≡ observed_value (part_of box sources)
    (observed_read box.test box.combination (agent, reg))
register_observed laws box entered sources agent reg = value_named observed_is names agent reg ∙ by (list_any (is_name agent reg) names) refl
  where
    names : List (ℕ × ℕ)
    names = names_of box.test

    observed_is : ℕ × ℕ → ℕ
    observed_is name = observed_value (part_of box sources) (observed_read box.test box.combination name)

    by : (b : Bool) → list_any (is_name agent reg) names ≡ b → cond b (observed_is (agent, reg)) 0 ≡ observed_is (agent, reg)
    by true is_named = refl
    by false unnamed =
        sym (ap (λ (last : Option ℕ). observed_value (part_of box sources) (number_on (first_event box.test box.combination agent) last))
        (none_unnamed box.test box.combination agent reg (λ inside. laws.walked box.test box.combination agent entered.litmus entered.known inside) unnamed))

-- a completion has the outcome that its sources give
pub outcome_given : (laws : Laws) (box : Box) (x : Execution) → IsBox box → IsCompletion box x
    → execution_outcome box.test x ≡ outcome_by box x.sources
outcome_given laws box x entered is =
    its_outcome (part_of box x.sources) x (completes box x is) laws (record { litmus = entered.litmus; known = entered.known })
    (names_from-within box.test.agents)

pub register_value : (laws : Laws) (box : Box) (x : Execution) → IsBox box → IsCompletion box x → (agent reg : ℕ)
    → value_in (zip (names_of box.test) (execution_outcome box.test x)) agent reg ≡ observed_value (part_of box x.sources)
    (observed_read box.test box.combination (agent, reg))
register_value laws box x entered is agent reg =
    ap (λ (outcome : List ℕ). value_in (zip (names_of box.test) outcome) agent reg) (outcome_given laws box x entered is)
    ∙ register_observed laws box entered x.sources agent reg

-- what the domains say of outcomes by sources holds of completions
pub prospect_of_completions : (laws : Laws) (box : Box) → IsBox box → (class : Class) (prospect : Decided Bool)
    → IsOutcomeProspect box class prospect → IsProspect box (OfClass class) prospect
prospect_of_completions laws box entered class (Known false) none = λ x is meets.
    false≢true (sym (none x.sources (sources_lie box x is)) ∙ ap (is_of_class box.test class) (sym (outcome_given laws box x entered is)) ∙ meets)
prospect_of_completions laws box entered class (Known true) each = λ x is.
    ap (is_of_class box.test class) (outcome_given laws box x entered is) ∙ each x.sources (sources_lie box x is)
prospect_of_completions laws box entered class (Open k) (is_undecided, asked) = is_undecided

-- ---- what is decided of a register
module _ (laws : Laws) (box : Box) (entered : IsBox box) (agent reg number : ℕ) where
  pub decided_by_read : (r : ℕ) (decided : Decided Bool) → observed_read box.test box.combination (agent, reg) ≡ Some r → IsReadDecided box r number decided
      → IsDecided box (Is agent reg true number) decided
  decided_by_read r (Known value) observed_is each = λ sources lie.
      ap (λ (n : ℕ). n == number) (register_observed laws box entered sources agent reg ∙ ap (observed_value (part_of box sources)) observed_is)
      ∙ each sources lie
  decided_by_read r (Open k) observed_is (is_undecided, own) = (
    is_undecided,
    record {
      agent = agent;
      register = reg;
      looks = ap₂ (λ (a b : Bool). a && b) (eq-eqb agent agent refl) (eq-eqb reg reg refl);
      observes = observed_is ∙ ap (λ (q : ℕ). Some q) (sym own);
    },
  )

  pub decided_unwritten : observed_read box.test box.combination (agent, reg) ≡ None → IsDecided box (Is agent reg true number) (Known (number == 0))
  decided_unwritten observed_is sources lie =
      ap (λ (n : ℕ). n == number) (register_observed laws box entered sources agent reg ∙ ap (observed_value (part_of box sources)) observed_is)
      ∙ turned (cases_eq number 0)
    where
      turned : (number ≡ 0) ⊎ (number ≢ 0) → (0 == number) ≡ (number == 0)
      turned (inl is) = eq-eqb 0 number (sym is) ∙ sym (eq-eqb number 0 is)
      turned (inr other) = ne_eqb 0 number (λ same. other (sym same)) ∙ sym (ne_eqb number 0 other)
