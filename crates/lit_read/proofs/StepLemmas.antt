-- Each step preserves the invariant of the state.
use Rattle.std.proofs.Common.{◌≡◌, ℕ, zero, suc, ◌+◌, ◌<◌, ◌≤◌, Bool, true, false, cond, eqb, ltb, leb, ◌||◌, List, [], ◌∷◌, length, Option, Some, None, Result, Ok, Err, refl, subst, arith}
use Rattle.std.specs.Prelude.{IfSome}
use Rattle.std.specs.List.{list_any}
use Rattle.std.specs.Str.{bytes_eq}
use Rattle.std.proofs.lemmas.Bool.{ltb-false, leb-false, or_parts}
use Rattle.std.proofs.lemmas.List.{length-append}
use Rattle.lit_read.specs.declared.fault.ReadKind.{ReadKind}
use Rattle.lit_read.specs.declared.fault.ReadKind.TheVariants.{BlockSize, TooManyAgents, DuplicateAgent, LiteralRange, OutOfBlock, UnknownName, TooDeep}
use Rattle.lit_syntax.specs.declared.limits.TheConstants.{BLOCK_LIMIT, AGENT_LIMIT, REGISTERS, COMPARED_LIMIT, IF_LIMIT}
use Rattle.lit_syntax.specs.Syntax.{Statement, Statements, End, Agent, statement_nesting, IsStatementIn}
use Rattle.lit_syntax.specs.Tokens.{IsWord}
use Rattle.lit_syntax.specs.Written.{Written, is_shallow}
use Rattle.lit_syntax.specs.Forms.{Form, Blank, TestLine, BytesLine, AgentLine, StatementLine, IfLine, ElseLine, EndLine, CheckLine, IsForm}
use Rattle.lit_read.specs.Faults.{stays_in_block}
use Rattle.lit_read.specs.Spelling.{written_value}
use Rattle.lit_read.specs.Internal.State.{State, Empty, Named, Sized, Open, Whole, OpenIf, followed_by, with_agent, are_known, else_open_if, else_from, ended_if, test_step, block_step, next_step, agent_step, statement_step, if_step, else_step, end_step, test_of, whole, check_step, step, IsPart, AreAgentsIn, IsState, has_fitting_literals, has_small_numbers}
use Rattle.lit_read.proofs.PartLemmas.{all_added, all_changed, distinct_changed, distinct_added, part_followed, statement_in, is_litmus}

abbrev good : State → Result State ReadKind
good s = Ok s

good_is : (s t : State) → good s ≡ good t → s ≡ t
good_is s t e = cc

above_zero : (n : ℕ) → eqb n 0 ≡ false → 1 ≤ n
above_zero zero e = absurd cc
above_zero (suc n) e = omega arith

block_preserved : (s t : State) (bytes : ℕ) → IsState s → block_step s bytes ≡ Ok t → IsState t
unfolding block_step IsState
block_preserved (Named name) t bytes is_state e = by (eqb bytes 0 || ltb BLOCK_LIMIT bytes) refl e
  where
    by : (b : Bool) → (eqb bytes 0 || ltb BLOCK_LIMIT bytes) ≡ b → cond b (Err BlockSize) (Ok (Sized name bytes)) ≡ Ok t → IsState t
    by true is h = absurd cc
    by false is h =
        let p = or_parts (eqb bytes 0) (ltb BLOCK_LIMIT bytes) is in
        let some : 1 ≤ bytes = above_zero bytes p.0 in
        subst IsState (good_is (Sized name bytes) t h) (is_state, some, ltb-false _ _ p.1)
block_preserved Empty t bytes is_state e = absurd cc
block_preserved (Sized name b) t bytes is_state e = absurd cc
block_preserved (Open name b agents agent ifs body) t bytes is_state e = absurd cc
block_preserved (Whole l) t bytes is_state e = absurd cc

added_in : (bytes : ℕ) (agents : List Agent) (next : List ℕ) → AreAgentsIn bytes agents → IsWord next → length agents < AGENT_LIMIT → list_any (λ a. bytes_eq next a.name) agents ≡ false → AreAgentsIn bytes (with_agent agents next End)
added_in bytes agents next are word room new = record {
  some_byte = are.some_byte;
  block = are.block;
  few = omega (arith, length-append agents (record { name = next; body = End } ∷ []));
  named = all_added (λ a. IsWord a.name) agents (record { name = next; body = End }) are.named word;
  distinct = distinct_added agents (record { name = next; body = End }) new are.distinct;
  bodies = all_added (λ a. IsPart bytes 0 a.body) agents (record { name = next; body = End }) are.bodies (tt, omega arith);
}

-- the agents with the last one's statements
pub filled : (bytes : ℕ) (agents : List Agent) (agent : List ℕ) (body : Statements) → AreAgentsIn bytes (with_agent agents agent End) → IsPart bytes 0 body → AreAgentsIn bytes (with_agent agents agent body)
filled bytes agents agent body are part = record {
  some_byte = are.some_byte;
  block = are.block;
  few = omega (arith, are.few, length-append agents (record { name = agent; body = End } ∷ []), length-append agents (record { name = agent; body = body } ∷ []));
  named = all_changed (λ a. IsWord a.name) agents (record { name = agent; body = End }) (record { name = agent; body = body }) (λ word. word) are.named;
  distinct = distinct_changed agents (record { name = agent; body = End }) (record { name = agent; body = body }) refl are.distinct;
  bodies = all_changed (λ a. IsPart bytes 0 a.body) agents (record { name = agent; body = End }) (record { name = agent; body = body }) (λ all. part) are.bodies;
}

next_preserved : (name : List ℕ) (bytes : ℕ) (agents : List Agent) (agent : List ℕ) (body : Statements) (next : List ℕ) (t : State) → IsWord name → IsWord next → AreAgentsIn bytes (with_agent agents agent body)
    → next_step name bytes agents agent body next ≡ Ok t → IsState t
unfolding next_step IsState
next_preserved name bytes agents agent body next t named word are e =
    by (leb AGENT_LIMIT (length agents + 1)) refl (list_any (λ a. bytes_eq next a.name) (with_agent agents agent body)) refl e
  where
    by : (b : Bool) → leb AGENT_LIMIT (length agents + 1) ≡ b → (d : Bool) → list_any (λ a. bytes_eq next a.name) (with_agent agents agent body) ≡ d
        → cond b (Err TooManyAgents) (cond d (Err DuplicateAgent) (Ok (Open name bytes (with_agent agents agent body) next [] End))) ≡ Ok t → IsState t
    by true full d known h = absurd cc
    by false full true known h = absurd cc
    by false full false known h =
        let room : length agents + 1 < AGENT_LIMIT = leb-false _ _ full in
        subst IsState (good_is (Open name bytes (with_agent agents agent body) next [] End) t h)
        (named, added_in bytes (with_agent agents agent body) next are word (omega (arith, length-append agents (record { name = agent; body = body } ∷ []))) known, tt, (tt, omega arith))

agent_preserved : (s t : State) (next : List ℕ) → IsWord next → IsState s → agent_step s next ≡ Ok t → IsState t
unfolding agent_step IsState
agent_preserved (Sized name bytes) t next word is e =
    subst IsState (good_is (Open name bytes [] next [] End) t e)
    (is.0, record { some_byte = is.1; block = is.2; few = omega arith; named = (word, tt); distinct = (tt, tt); bodies = ((tt, omega arith), tt) }, tt, (tt, omega arith))
agent_preserved (Open name bytes agents agent [] body) t next word is e = next_preserved name bytes agents agent body next t is.0 word (filled bytes agents agent body is.1 is.3) e
agent_preserved (Open name bytes agents agent (l ∷ ifs) body) t next word is e = absurd cc
agent_preserved Empty t next word is e = absurd cc
agent_preserved (Named name) t next word is e = absurd cc
agent_preserved (Whole l) t next word is e = absurd cc

statement_preserved : (s t : State) (r : Statement) → IsState s → IsForm (StatementLine r) → statement_step s r ≡ Ok t → IsState t
unfolding statement_step IsState
statement_preserved (Open name bytes agents agent ifs body) t r is form e = by (has_fitting_literals r) refl (stays_in_block bytes r) refl e
  where
    by : (b : Bool) → has_fitting_literals r ≡ b → (d : Bool) → stays_in_block bytes r ≡ d
        → cond b (cond d (Ok (Open name bytes agents agent ifs (followed_by body r))) (Err OutOfBlock)) (Err LiteralRange) ≡ Ok t → IsState t
    by true fits true within h =
        let one = statement_in bytes r form fits within in
        subst IsState (good_is (Open name bytes agents agent ifs (followed_by body r)) t h) (is.0, is.1, is.2, part_followed bytes (length ifs) body r is.3 one.0 (omega (arith, one.1, is.3.1)))
    by true fits false within h = absurd cc
    by false fits d within h = absurd cc
statement_preserved Empty t r is form e = absurd cc
statement_preserved (Named name) t r is form e = absurd cc
statement_preserved (Sized name bytes) t r is form e = absurd cc
statement_preserved (Whole l) t r is form e = absurd cc

if_preserved : (s t : State) (reg : ℕ) (equal : Bool) (value : ℕ) → IsState s → reg < REGISTERS → if_step s reg equal value ≡ Ok t → IsState t
unfolding if_step IsState
if_preserved (Open name bytes agents agent ifs body) t reg equal value is low e = by (ltb COMPARED_LIMIT value) refl (leb IF_LIMIT (length ifs)) refl e
  where
    new : OpenIf
    new = record { reg = reg; equal = equal; value = value; before = body; then_part = None }

    by : (b : Bool) → ltb COMPARED_LIMIT value ≡ b → (d : Bool) → leb IF_LIMIT (length ifs) ≡ d
        → cond b (Err LiteralRange) (cond d (Err TooDeep) (Ok (Open name bytes agents agent (record { reg = reg; equal = equal; value = value; before = body; then_part = None } ∷ ifs) End))) ≡ Ok t → IsState t
    by true large d full h = absurd cc
    by false large true full h = absurd cc
    by false large false full h =
        let room : length ifs < IF_LIMIT = leb-false _ _ full in
        let small : value ≤ COMPARED_LIMIT = ltb-false _ _ large in
        subst IsState (good_is (Open name bytes agents agent (record { reg = reg; equal = equal; value = value; before = body; then_part = None } ∷ ifs) End) t h)
        (is.0, is.1, (record { room = room; register = low; small = small; before = is.3; then_part = tt }, is.2), (tt, omega arith))
if_preserved Empty t reg equal value is low e = absurd cc
if_preserved (Named name) t reg equal value is low e = absurd cc
if_preserved (Sized name bytes) t reg equal value is low e = absurd cc
if_preserved (Whole l) t reg equal value is low e = absurd cc

else_preserved : (s t : State) → IsState s → else_step s ≡ Ok t → IsState t
unfolding else_step IsState
else_preserved (Open name bytes agents agent (l ∷ ifs) body) t is e = by l.then_part e
  where
    by : (p : Option Statements) → else_from name bytes agents agent l ifs body p ≡ Ok t → IsState t
    by (Some part) h = absurd cc
    by None h =
        subst IsState (good_is (Open name bytes agents agent (else_open_if l body ∷ ifs) End) t h)
        (is.0, is.1, (record { room = is.2.0.room; register = is.2.0.register; small = is.2.0.small; before = is.2.0.before; then_part = (is.3.0, omega (arith, is.3.1)) }, is.2.1), (tt, omega (arith, is.2.0.room)))
else_preserved (Open name bytes agents agent [] body) t is e = absurd cc
else_preserved Empty t is e = absurd cc
else_preserved (Named name) t is e = absurd cc
else_preserved (Sized name bytes) t is e = absurd cc
else_preserved (Whole l) t is e = absurd cc

ended_in : (bytes outside : ℕ) (l : OpenIf) (body : Statements) (p : Option Statements) → l.reg < REGISTERS → l.value ≤ COMPARED_LIMIT → outside < IF_LIMIT → IsPart bytes (suc outside) body → IfSome p (λ part. IsPart bytes (outside + 1) part)
    → IsStatementIn bytes (ended_if l body p) × (statement_nesting (ended_if l body p) + outside ≤ IF_LIMIT)
ended_in bytes outside l body None low small room part before = ((low, small, part.0, tt), omega (arith, part.1))
ended_in bytes outside l body (Some then_part) low small room part before = ((low, small, before.0, part.0), omega (arith, part.1, before.1))

end_preserved : (s t : State) → IsState s → end_step s ≡ Ok t → IsState t
unfolding end_step IsState
end_preserved (Open name bytes agents agent (l ∷ ifs) body) t is e =
    let one = ended_in bytes (length ifs) l body l.then_part is.2.0.register is.2.0.small is.2.0.room is.3 is.2.0.then_part in
    subst IsState (good_is (Open name bytes agents agent ifs (followed_by l.before (ended_if l body l.then_part))) t e)
    (is.0, is.1, is.2.1, part_followed bytes (length ifs) l.before (ended_if l body l.then_part) is.2.0.before one.0 one.1)
end_preserved (Open name bytes agents agent [] body) t is e = absurd cc
end_preserved Empty t is e = absurd cc
end_preserved (Named name) t is e = absurd cc
end_preserved (Sized name bytes) t is e = absurd cc
end_preserved (Whole l) t is e = absurd cc

test_preserved : (s t : State) (name : List ℕ) → IsWord name → test_step s name ≡ Ok t → IsState t
unfolding test_step IsState
test_preserved Empty t name word e = subst IsState (good_is (Named name) t e) word
test_preserved (Named n) t name word e = absurd cc
test_preserved (Sized n bytes) t name word e = absurd cc
test_preserved (Open n bytes agents agent ifs body) t name word e = absurd cc
test_preserved (Whole l) t name word e = absurd cc

pub check_preserved : (s t : State) (w : Written) → IsState s → IsForm (CheckLine w) → check_step s w ≡ Ok t → IsState t
unfolding check_step test_of IsState IsForm
check_preserved (Open name bytes agents agent [] body) t w is form e = by (has_small_numbers w) refl (are_known (with_agent agents agent body) w) refl (is_shallow w) refl e
  where
    some : (as' : List Agent) → 1 ≤ length (with_agent as' agent body)
    some [] = omega arith
    some (a ∷ others) = omega arith

    by : (x : Bool) → has_small_numbers w ≡ x → (y : Bool) → are_known (with_agent agents agent body) w ≡ y → (z : Bool) → is_shallow w ≡ z
        → whole (cond x (cond y (cond z (Ok (record { name = name; bytes = bytes; agents = with_agent agents agent body; check = written_value (with_agent agents agent body) w })) (Err TooDeep)) (Err UnknownName)) (Err LiteralRange)) ≡ Ok t → IsState t
    by true small true known true low h =
        subst IsState (good_is (Whole (record { name = name; bytes = bytes; agents = with_agent agents agent body; check = written_value (with_agent agents agent body) w })) t h)
        (is_litmus name bytes (with_agent agents agent body) w is.0 (filled bytes agents agent body is.1 is.3) (some agents) form known small low)
    by true small true known false low h = absurd cc
    by true small false known z low h = absurd cc
    by false small y known z low h = absurd cc
check_preserved (Open name bytes agents agent (l ∷ ifs) body) t w is form e = absurd cc
check_preserved Empty t w is form e = absurd cc
check_preserved (Named n) t w is form e = absurd cc
check_preserved (Sized n bytes) t w is form e = absurd cc
check_preserved (Whole l) t w is form e = absurd cc

-- the names that a form gives are words
abbrev pub HasWords : Form → Type 0
HasWords (TestLine name) = IsWord name
HasWords (AgentLine name) = IsWord name
HasWords _ = Unit {0}

pub step_preserved : (s t : State) (f : Form) → IsState s → IsForm f → HasWords f → step s f ≡ Ok t → IsState t
unfolding step IsForm
step_preserved s t Blank is form words e = subst IsState (good_is s t e) is
step_preserved s t (TestLine name) is form words e = test_preserved s t name words e
step_preserved s t (BytesLine bytes) is form words e = block_preserved s t bytes is e
step_preserved s t (AgentLine name) is form words e = agent_preserved s t name words is e
step_preserved s t (StatementLine r) is form words e = statement_preserved s t r is form e
step_preserved s t (IfLine reg equal value) is form words e = if_preserved s t reg equal value is form e
step_preserved s t ElseLine is form words e = else_preserved s t is e
step_preserved s t EndLine is form words e = end_preserved s t is e
step_preserved s t (CheckLine w) is form words e = check_preserved s t w is form e
