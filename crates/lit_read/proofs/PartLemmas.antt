-- What the parts of a draft can be, and the test that they make.
use Rattle.std.proofs.Common.{◌≡◌, ◌≢◌, ℕ, zero, suc, ◌+◌, ◌-◌, ◌<◌, ◌≤◌, Bool, true, false, cond, leb, ◌||◌, List, [], ◌∷◌, ◌++◌, length, get_or, refl, ap, sym, ◌∙◌, arith, true≢false, add-one}
use Rattle.std.specs.List.{AllByRecursion, list_any, list_all}
use Rattle.std.specs.Str.{bytes_eq}
use Rattle.std.proofs.lemmas.Bool.{leb-true, and_parts}
use Rattle.std.proofs.lemmas.Slice.Eq.{bytes_eq-Decides}
use Rattle.lit_syntax.specs.declared.limits.TheConstants.{REGISTERS, COMPARED_LIMIT, IF_LIMIT}
use Rattle.lit_syntax.specs.Syntax.{fits_window, Statement, Load, Store, Exchange, CompareExchange, If, Statements, End, Then, Agent, Litmus, writes, nesting, statement_nesting, IsStatementIn, AreStatementsIn, IsConditionOn, AreConditionsOn, IsLitmus}
use Rattle.lit_syntax.specs.Tokens.{IsWord}
use Rattle.lit_syntax.specs.Written.{Comparison, Operand, Compared, Negated, Grouped, Conjunction, Lone, Both, Written, Single, Either, operand_depths, conjunction_depths, written_depths, is_shallow}
use Rattle.lit_syntax.specs.Forms.{StatementLine, IsForm}
use Rattle.lit_read.specs.Internal.Built.{numbered}
use Rattle.lit_read.specs.Faults.{stays_in_block}
use Rattle.lit_read.specs.Spelling.{place_of, operand_value, conjunction_value, written_value, operand_values, conjunction_values}
use Rattle.lit_syntax.proofs.ListLemmas.{all_parts}
use Rattle.lit_read.proofs.DepthLemmas.{operands_count, conjunctions_count, stays_shallow}
use Rattle.lit_read.specs.Internal.State.{followed_by, body_named, is_known, are_known, AreDistinct, IsPart, AreAgentsIn, has_fitting_literals, has_small_numbers}

-- ---- lists

pub at_index : {A : Type 0} (P : A → Type 0) (xs : List A) (i : ℕ) (d : A) → i < length xs → AllByRecursion P xs → P (get_or xs i d)
at_index P [] i d lt all = absurd (omega arith)
at_index P (x ∷ xs) zero d lt all = all.0
at_index P (x ∷ xs) (suc i) d lt all = at_index P xs i d (omega arith) all.1

pub all_added : {A : Type 0} (P : A → Type 0) (xs : List A) (x : A) → AllByRecursion P xs → P x → AllByRecursion P (xs ++ x ∷ [])
all_added P [] x all last = (last, tt)
all_added P (y ∷ ys) x all last = (all.0, all_added P ys x all.1 last)

pub all_changed : {A : Type 0} (P : A → Type 0) (xs : List A) (x y : A) → (P x → P y) → AllByRecursion P (xs ++ x ∷ []) → AllByRecursion P (xs ++ y ∷ [])
all_changed P [] x y f all = (f all.0, tt)
all_changed P (z ∷ zs) x y f all = (all.0, all_changed P zs x y f all.1)

-- ---- names

pub distinct_changed : (agents : List Agent) (x y : Agent) → x.name ≡ y.name → AreDistinct (agents ++ x ∷ []) → AreDistinct (agents ++ y ∷ [])
distinct_changed [] x y same h = (tt, tt)
distinct_changed (a ∷ others) x y same h = (all_changed (λ b. a.name ≢ b.name) others x y (λ ne e. ne (e ∙ sym same)) h.0, distinct_changed others x y same h.1)

named_apart : (x y : List ℕ) → bytes_eq x y ≡ false → y ≢ x
named_apart x y e same = true≢false (sym ((bytes_eq-Decides x y).1 (sym same)) ∙ e)

pub distinct_added : (agents : List Agent) (x : Agent) → list_any (λ a. bytes_eq x.name a.name) agents ≡ false → AreDistinct agents → AreDistinct (agents ++ x ∷ [])
distinct_added [] x new h = (tt, tt)
distinct_added (a ∷ others) x new h = by (bytes_eq x.name a.name) refl new (distinct_added others x)
  where
    by : (b : Bool) → bytes_eq x.name a.name ≡ b → (b || list_any (λ a. bytes_eq x.name a.name) others) ≡ false
        → (list_any (λ a. bytes_eq x.name a.name) others ≡ false → AreDistinct others → AreDistinct (others ++ x ∷ [])) → AreDistinct ((a ∷ others) ++ x ∷ [])
    by true e g rest = absurd cc
    by false e g rest = (all_added (λ b. a.name ≢ b.name) others x h.0 (named_apart x.name a.name e), rest g h.1)

distinct_at : (agents : List Agent) (d : Agent) (i j : ℕ) → i < j → j < length agents → AreDistinct agents → (get_or agents i d).name ≢ (get_or agents j d).name
distinct_at [] d i j lt within h = absurd (omega arith)
distinct_at (a ∷ others) d i zero lt within h = absurd (omega arith)
distinct_at (a ∷ others) d zero (suc j) lt within h = at_index (λ b. a.name ≢ b.name) others j d (omega arith) h.0
distinct_at (a ∷ others) d (suc i) (suc j) lt within h = distinct_at others d i j (omega arith) (omega arith) h.1

-- ---- statements

followed_in : (bytes : ℕ) (body : Statements) (s : Statement) → AreStatementsIn bytes body → IsStatementIn bytes s → AreStatementsIn bytes (followed_by body s)
followed_in bytes End s all one = (one, tt)
followed_in bytes (Then t ts) s all one = (all.0, followed_in bytes ts s all.1 one)

nested_by : (body : Statements) (s : Statement) (n : ℕ) → nesting body ≤ n → statement_nesting s ≤ n → nesting (followed_by body s) ≤ n
nested_by End s n a b = omega (arith, b)
nested_by (Then t ts) s n a b =
    let rest : nesting (followed_by ts s) ≤ n = nested_by ts s n (omega (arith, a)) b in
    omega (arith, a)

pub part_followed : (bytes outside : ℕ) (body : Statements) (s : Statement) → IsPart bytes outside body → IsStatementIn bytes s → statement_nesting s + outside ≤ IF_LIMIT → IsPart bytes outside (followed_by body s)
part_followed bytes outside body s part one few =
    let most : nesting body ≤ IF_LIMIT - outside = omega (arith, part.1) in
    let own : statement_nesting s ≤ IF_LIMIT - outside = omega (arith, few) in
    let all : nesting (followed_by body s) ≤ IF_LIMIT - outside = nested_by body s (IF_LIMIT - outside) most own in
    (followed_in bytes body s part.0 one, omega (arith, few, all))

pub statement_in : (bytes : ℕ) (s : Statement) → IsForm (StatementLine s) → has_fitting_literals s ≡ true → stays_in_block bytes s ≡ true → IsStatementIn bytes s × (statement_nesting s ≡ 0)
unfolding IsForm
statement_in bytes (Load reg window index atomic) is fits within = ((is.0, within, is.1), refl)
statement_in bytes (Store window index value atomic) is fits within = ((within, fits, is), refl)
statement_in bytes (Exchange reg window index value) is fits within = ((is.0, within, fits, is.1), refl)
statement_in bytes (CompareExchange reg window index expected value) is fits within =
    let b = and_parts (fits_window window expected) (fits_window window value) fits in
    ((is.0, within, b.0, b.1, is.1), refl)
statement_in bytes (If reg equal value body other) is fits within = absurd is

-- ---- the condition

named_at : (name : List ℕ) (agents : List Agent) (reg : ℕ) (d : Agent) → writes (body_named name agents) reg ≡ true
    → (place_of name agents < length agents) × ((get_or agents (place_of name agents) d).body ≡ body_named name agents)
named_at name [] reg d h = absurd cc
named_at name (a ∷ others) reg d h = by (bytes_eq name a.name) h (named_at name others reg d)
  where
    by : (b : Bool) → writes (cond b a.body (body_named name others)) reg ≡ true
        → (writes (body_named name others) reg ≡ true → (place_of name others < length others) × ((get_or others (place_of name others) d).body ≡ body_named name others))
        → (cond b 0 (place_of name others + 1) < suc (length others)) × ((get_or (a ∷ others) (cond b 0 (place_of name others + 1)) d).body ≡ cond b a.body (body_named name others))
    by true g rest = (omega arith, refl)
    by false g rest = let r = rest g in (omega (arith, r.0), rw add-one r.1)

-- a comparison that is known and in range
record IsGood (agents : List Agent) (p : Comparison × ℕ) : Type 0 where
  known : is_known agents p.0 ≡ true
  in_range : leb p.0.value COMPARED_LIMIT ≡ true
  register : p.0.reg < REGISTERS

all_good : (agents : List Agent) (ps : List (Comparison × ℕ)) → list_all (λ p. is_known agents p.0) ps ≡ true → list_all (λ p. leb p.0.value COMPARED_LIMIT) ps ≡ true → AllByRecursion (λ p. p.0.reg < REGISTERS) ps → AllByRecursion (IsGood agents) ps
all_good agents [] known in_range registers = tt
all_good agents (p ∷ ps) known in_range registers =
    let k = and_parts (is_known agents p.0) (list_all (λ p. is_known agents p.0) ps) known in
    let r = and_parts (leb p.0.value COMPARED_LIMIT) (list_all (λ p. leb p.0.value COMPARED_LIMIT) ps) in_range in
    (record { known = k.0; in_range = r.0; register = registers.0 }, all_good agents ps k.1 r.1 registers.1)

module _ (t : Litmus) where
  abbrev Good : List (Comparison × ℕ) → Type 0
  Good ps = AllByRecursion (IsGood t.agents) ps

  numbered_on : (c : Comparison) (n : ℕ) → IsGood t.agents (c, n) → IsConditionOn t (numbered t.agents c)
  numbered_on c n good =
      let found = named_at c.agent t.agents c.reg (record { name = []; body = End }) good.known in
      (found.0, good.register, ap (λ (b : Statements). writes b c.reg) found.1 ∙ good.known, leb-true _ _ good.in_range)

  mutual
    operand_on : (o : Operand) (n : ℕ) → Good (operand_depths n o) → IsConditionOn t (operand_value t.agents o)
    operand_on (Compared c) n good = numbered_on c n good.0
    operand_on (Negated o) n good = operand_on o (n + 1) good
    operand_on (Grouped w) n good = written_on w (n + 1) good

    conjunction_on : (c : Conjunction) (n : ℕ) → Good (conjunction_depths n c) → IsConditionOn t (conjunction_value t.agents c)
    conjunction_on (Lone o) n good = operand_on o n good
    conjunction_on (Both o c) n good =
        (omega (arith, operands_count t.agents c), (operand_on o n ((all_parts (IsGood t.agents) (operand_depths n o) (conjunction_depths n c) good).0), operands_on c n ((all_parts (IsGood t.agents) (operand_depths n o) (conjunction_depths n c) good).1)))

    written_on : (w : Written) (n : ℕ) → Good (written_depths n w) → IsConditionOn t (written_value t.agents w)
    written_on (Single c) n good = conjunction_on c n good
    written_on (Either c w) n good =
        (omega (arith, conjunctions_count t.agents w), (conjunction_on c n ((all_parts (IsGood t.agents) (conjunction_depths n c) (written_depths n w) good).0), conjunctions_on w n ((all_parts (IsGood t.agents) (conjunction_depths n c) (written_depths n w) good).1)))

    operands_on : (c : Conjunction) (n : ℕ) → Good (conjunction_depths n c) → AreConditionsOn t (operand_values t.agents c)
    operands_on (Lone o) n good = (operand_on o n good, tt)
    operands_on (Both o c) n good = (operand_on o n ((all_parts (IsGood t.agents) (operand_depths n o) (conjunction_depths n c) good).0), operands_on c n ((all_parts (IsGood t.agents) (operand_depths n o) (conjunction_depths n c) good).1))

    conjunctions_on : (w : Written) (n : ℕ) → Good (written_depths n w) → AreConditionsOn t (conjunction_values t.agents w)
    conjunctions_on (Single c) n good = (conjunction_on c n good, tt)
    conjunctions_on (Either c w) n good = (conjunction_on c n ((all_parts (IsGood t.agents) (conjunction_depths n c) (written_depths n w) good).0), conjunctions_on w n ((all_parts (IsGood t.agents) (conjunction_depths n c) (written_depths n w) good).1))

-- agents and a condition without a fault make a test
pub is_litmus : (name : List ℕ) (bytes : ℕ) (agents : List Agent) (w : Written) → IsWord name → AreAgentsIn bytes agents → 1 ≤ length agents → AllByRecursion (λ p. p.0.reg < REGISTERS) (written_depths 0 w)
    → are_known agents w ≡ true → has_small_numbers w ≡ true → is_shallow w ≡ true → IsLitmus (record { name = name; bytes = bytes; agents = agents; check = written_value agents w })
is_litmus name bytes agents w named are some_agent registers known in_range shallow =
    let t : Litmus = record { name = name; bytes = bytes; agents = agents; check = written_value agents w } in
    let good = all_good agents (written_depths 0 w) known in_range registers in
    record {
      named = named;
      some_byte = are.some_byte;
      block = are.block;
      some_agent = some_agent;
      few_agents = are.few;
      names = λ i within. at_index (λ a. IsWord a.name) agents i (record { name = []; body = End }) within are.named;
      distinct = λ i j lt within. distinct_at agents (record { name = []; body = End }) i j lt within are.distinct;
      bodies = λ i within. (at_index (λ a. IsPart bytes 0 a.body) agents i (record { name = []; body = End }) within are.bodies).0;
      few_ifs = λ i within. omega (arith, (at_index (λ a. IsPart bytes 0 a.body) agents i (record { name = []; body = End }) within are.bodies).1);
      check = written_on t w 0 good;
      shallow = stays_shallow agents w shallow;
    }
