-- What a text can say: the limits and rules of a test.
use Rattle.std.specs.Prelude.{◌≡◌, ◌≢◌, ℕ, ◌+◌, ◌/◌, ◌^◌, ◌<◌, ◌≤◌, ◌==◌, nat_lt, nat_le, max}
use Rattle.std.specs.Prelude.{Bool, true, false, IsTrue, ◌||◌, if◌then◌else◌, [], length, slice_index_or}
use Rattle.lit_syntax.specs.declared.limits.TheConstants.{BLOCK_LIMIT, AGENT_LIMIT, REGISTERS, COMPARED_LIMIT, IF_LIMIT}
use Rattle.lit_syntax.specs.Tokens.{IsWord}
pub use Rattle.lit_syntax.specs.Trees.{Window, Uint8, Uint16, Uint32, DataView8, DataView16, DataView32, Statement}
pub use Rattle.lit_syntax.specs.Trees.{Load, Store, Exchange, CompareExchange, If, Statements, End, Then}
pub use Rattle.lit_syntax.specs.Trees.{Condition, Any, All, Not, Is, Conditions, NoMore, Also, Agent, Litmus}
use Rattle.lit_syntax.specs.Written.{is_shallow}
use Rattle.lit_syntax.specs.Parentheses.{written_of}

-- the agent with a number; past the last one, an agent with no name and no statement
abbrev pub agent_of : Litmus → ℕ → Agent
agent_of t i = slice_index_or t.agents i (record { name = []; body = End })

-- how many bytes an access has
abbrev pub window_size : Window → ℕ
window_size Uint8 = 1
window_size Uint16 = 2
window_size DataView8 = 1
window_size DataView16 = 2
window_size _ = 4

-- whether it is a DataView call
abbrev pub is_data_view : Window → Bool
is_data_view DataView8 = true
is_data_view DataView16 = true
is_data_view DataView32 = true
is_data_view _ = false

-- The whole access lies in a block of `bytes` bytes. A typed array has as many elements as fit.
abbrev pub is_in_block : ℕ → Window → ℕ → Bool
is_in_block bytes window index =
    if is_data_view window then nat_le (index + window_size window) bytes else nat_lt index (bytes / window_size window)

-- a number that the access can write
abbrev pub fits_window : Window → ℕ → Bool
fits_window window value = nat_lt value (256 ^ window_size window)

-- what a text can say in an agent, over a block of `bytes` bytes
abbrev mutual
  pub IsStatementIn : ℕ → Statement → Type 0
  IsStatementIn bytes (Load reg window index atomic) =
      (reg < REGISTERS) × IsTrue (is_in_block bytes window index) × (IsTrue atomic → is_data_view window ≡ false)
  IsStatementIn bytes (Store window index value atomic) =
      IsTrue (is_in_block bytes window index) × IsTrue (fits_window window value) × (IsTrue atomic → is_data_view window ≡ false)
  IsStatementIn bytes (Exchange reg window index value) =
      (reg < REGISTERS) × IsTrue (is_in_block bytes window index) × IsTrue (fits_window window value) × (is_data_view window ≡ false)
  IsStatementIn bytes (CompareExchange reg window index expected value) =
      (reg < REGISTERS) × IsTrue (is_in_block bytes window index) × IsTrue (fits_window window expected) × IsTrue (fits_window window value)
      × (is_data_view window ≡ false)
  IsStatementIn bytes (If reg equal value body other) =
      (reg < REGISTERS) × (value ≤ COMPARED_LIMIT) × AreStatementsIn bytes body × AreStatementsIn bytes other

  pub AreStatementsIn : ℕ → Statements → Type 0
  AreStatementsIn bytes End = Unit {0}
  AreStatementsIn bytes (Then s ss) = IsStatementIn bytes s × AreStatementsIn bytes ss

-- how many `if`s stand one in the other
abbrev mutual
  pub statement_nesting : Statement → ℕ
  statement_nesting (If reg equal value body other) = max (nesting body) (nesting other) + 1
  statement_nesting (Load reg window index atomic) = 0
  statement_nesting (Store window index value atomic) = 0
  statement_nesting (Exchange reg window index value) = 0
  statement_nesting (CompareExchange reg window index expected value) = 0

  pub nesting : Statements → ℕ
  nesting End = 0
  nesting (Then s ss) = max (statement_nesting s) (nesting ss)

-- whether a statement, or one in it, writes a register
abbrev mutual
  pub statement_writes : Statement → ℕ → Bool
  statement_writes (Load r window index atomic) reg = r == reg
  statement_writes (Store window index value atomic) reg = false
  statement_writes (Exchange r window index value) reg = r == reg
  statement_writes (CompareExchange r window index expected value) reg = r == reg
  statement_writes (If r equal value body other) reg = writes body reg || writes other reg

  -- whether one of the statements, or one in them, writes a register
  pub writes : Statements → ℕ → Bool
  writes End reg = false
  writes (Then s ss) reg = statement_writes s reg || writes ss reg

abbrev pub condition_count : Conditions → ℕ
condition_count NoMore = 0
condition_count (Also c cs) = condition_count cs + 1

-- what a text can ask of the registers of these agents; an Any or an All has two members at least
abbrev mutual
  pub IsConditionOn : Litmus → Condition → Type 0
  IsConditionOn t (Any cs) = (2 ≤ condition_count cs) × AreConditionsOn t cs
  IsConditionOn t (All cs) = (2 ≤ condition_count cs) × AreConditionsOn t cs
  IsConditionOn t (Not c) = IsConditionOn t c
  IsConditionOn t (Is agent reg equal value) =
      (agent < length t.agents) × (reg < REGISTERS) × IsTrue (writes (agent_of t agent).body reg) × (value ≤ COMPARED_LIMIT)

  pub AreConditionsOn : Litmus → Conditions → Type 0
  AreConditionsOn t NoMore = Unit {0}
  AreConditionsOn t (Also c cs) = IsConditionOn t c × AreConditionsOn t cs

-- A test that a text can say: the limits, names that are words, distinct names of agents, accesses in the block, literals
-- in range, a check on registers that are written, which is no deeper than it may be when written with no more
-- parentheses than are needed.
pub record IsLitmus (t : Litmus) : Type 0 where
  pub named : IsWord t.name
  pub some_byte : 1 ≤ t.bytes
  pub block : t.bytes ≤ BLOCK_LIMIT
  pub some_agent : 1 ≤ length t.agents
  pub few_agents : length t.agents ≤ AGENT_LIMIT
  pub names : (i : ℕ) → i < length t.agents → IsWord (agent_of t i).name
  pub distinct : (i j : ℕ) → i < j → j < length t.agents → (agent_of t i).name ≢ (agent_of t j).name
  pub bodies : (i : ℕ) → i < length t.agents → AreStatementsIn t.bytes (agent_of t i).body
  pub few_ifs : (i : ℕ) → i < length t.agents → nesting (agent_of t i).body ≤ IF_LIMIT
  pub check : IsConditionOn t t.check
  pub shallow : IsTrue (is_shallow (written_of t.agents t.check))
