-- A condition written with no more parentheses than are needed (this project's own).
use Rattle.std.specs.Prelude.{ℕ, Bool, true, false, not, List, [], slice_index_or, filter}
use Rattle.lit_syntax.specs.declared.symbol.Symbol.TheVariants.{OpenParen, CloseParen}
use Rattle.lit_syntax.specs.Trees.{End, Condition, Conditions, Any, All, Not, Is, NoMore, Also, Agent}
use Rattle.lit_syntax.specs.Tokens.{Token, Sign}
use Rattle.lit_syntax.specs.Written.{Comparison, Operand, Compared, Negated, Grouped, Conjunction, Lone, Both, Written, Single, Either}

-- a comparison with the agent's name in place of its number
abbrev pub named : List Agent → ℕ → ℕ → Bool → ℕ → Comparison
named agents agent reg equal value =
    record { agent = (slice_index_or agents agent (record { name = []; body = End })).name; reg = reg; equal = equal; value = value }

-- A condition as it is written with parentheses round an Any that is a member of an All or Any or under a Not, round an
-- All that is a member of an All or under a Not, and nowhere else. An Any or All has two members at least.
module _ (agents : List Agent) where
  abbrev mutual
    -- under a Not, or as a member of an All
    pub operand_of : Condition → Operand
    operand_of (Is agent reg equal value) = Compared (named agents agent reg equal value)
    operand_of (Not c) = Negated (operand_of c)
    operand_of (All cs) = Grouped (Single (all_written cs))
    operand_of (Any cs) = Grouped (any_written cs)

    -- as a member of an Any
    pub conjunction_of : Condition → Conjunction
    conjunction_of (Is agent reg equal value) = Lone (Compared (named agents agent reg equal value))
    conjunction_of (Not c) = Lone (Negated (operand_of c))
    conjunction_of (All cs) = all_written cs
    conjunction_of (Any cs) = Lone (Grouped (any_written cs))

    pub all_written : Conditions → Conjunction
    all_written NoMore = Lone (Compared (named agents 0 0 true 0))
    all_written (Also c NoMore) = Lone (operand_of c)
    all_written (Also c (Also d ds)) = Both (operand_of c) (all_written (Also d ds))

    pub any_written : Conditions → Written
    any_written NoMore = Single (Lone (Compared (named agents 0 0 true 0)))
    any_written (Also c NoMore) = Single (conjunction_of c)
    any_written (Also c (Also d ds)) = Either (conjunction_of c) (any_written (Also d ds))

  abbrev pub written_of : Condition → Written
  written_of (Is agent reg equal value) = Single (Lone (Compared (named agents agent reg equal value)))
  written_of (Not c) = Single (Lone (Negated (operand_of c)))
  written_of (All cs) = Single (all_written cs)
  written_of (Any cs) = any_written cs

abbrev pub is_parenthesis : Token → Bool
is_parenthesis (Sign OpenParen) = true
is_parenthesis (Sign CloseParen) = true
is_parenthesis _ = false

-- the tokens that are no parentheses
abbrev pub without_parentheses : List Token → List Token
without_parentheses tokens = filter (λ t. not (is_parenthesis t)) tokens
