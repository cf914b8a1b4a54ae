-- The number of walks, the length of the longest walk, and the limits at which counting stops.
use Rattle.std.specs.Prelude.{ℕ, ◌+◌, ◌≤◌, ◌*◌, max, IsTrue, length, List, [], ◌∷◌, slice_index_or}
use Rattle.lit_syntax.specs.declared.limits.TheConstants.{BLOCK_LIMIT}
use Rattle.lit_syntax.specs.Syntax.{Window, is_in_block, IsStatementIn, AreStatementsIn, Litmus, IsLitmus, Agent}
use Rattle.lit_syntax.specs.Syntax.{Statement, Statements, Load, Store, Exchange, CompareExchange, If, End, Then}
use Rattle.lit_paths.specs.Path.{Step, walks_of, statement_walks}
use Rattle.lit_paths.specs.declared.limits.TheConstants.{ACCESS_LIMIT, COMBINATION_LIMIT}

-- more walks than there may be combinations, and more accesses than a combination may have
abbrev pub many_walks : ℕ
many_walks = COMBINATION_LIMIT + 1

abbrev pub many_accesses : ℕ
many_accesses = ACCESS_LIMIT + 1

-- how many accesses the longest walk through a statement, or through statements, has
abbrev mutual
  pub statement_longest : Statement → ℕ
  statement_longest (Load reg window index atomic) = 1
  statement_longest (Store window index value atomic) = 1
  statement_longest (Exchange reg window index value) = 1
  statement_longest (CompareExchange reg window index expected value) = 1
  statement_longest (If reg equal value body other) = max (longest body) (longest other)

  pub longest : Statements → ℕ
  longest End = 0
  longest (Then s ss) = statement_longest s + longest ss

-- what a test can say, over some block
abbrev pub IsAccess : Window → ℕ → Type 0
IsAccess window index = (bytes : ℕ) × (bytes ≤ BLOCK_LIMIT) × IsTrue (is_in_block bytes window index)

abbrev pub IsSaid : Statement → Type 0
IsSaid s = (bytes : ℕ) × (bytes ≤ BLOCK_LIMIT) × IsStatementIn bytes s

abbrev pub AreSaid : Statements → Type 0
AreSaid ss = (bytes : ℕ) × (bytes ≤ BLOCK_LIMIT) × AreStatementsIn bytes ss

-- the walk with a number; past the last one, one of no step
abbrev pub walk_at : Statements → ℕ → List Step
walk_at ss n = slice_index_or (walks_of ss) n []

abbrev pub statement_walk_at : Statement → ℕ → List Step
statement_walk_at s n = slice_index_or (statement_walks s) n []

-- how many accesses the longest walks of agents have together
abbrev pub longest_of : List Agent → ℕ
longest_of [] = 0
longest_of (a ∷ agents) = longest a.body + longest_of agents

-- how many combinations of walks agents have
abbrev pub count_of : List Agent → ℕ
count_of [] = 1
count_of (a ∷ agents) = length (walks_of a.body) * count_of agents

-- within the limits of a plan
pub record AreShort (agents : List Agent) : Type 0 where
  pub short : longest_of agents ≤ ACCESS_LIMIT
  pub few : count_of agents ≤ COMBINATION_LIMIT

-- a test whose paths can be planned
pub record IsInLimits (t : Litmus) : Type 0 where
  pub litmus : IsLitmus t
  pub short : AreShort t.agents
