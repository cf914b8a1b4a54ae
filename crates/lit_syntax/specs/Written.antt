-- A condition as a check line has it, parentheses included (this project's own).
use Rattle.std.specs.Prelude.{ℕ, ◌+◌, nat_le, Bool, if◌then◌else◌, List, [], ◌∷◌, ◌++◌}
use Rattle.std.specs.List.{list_all}
use Rattle.lit_syntax.specs.declared.limits.TheConstants.{DEPTH_LIMIT}
use Rattle.lit_syntax.specs.declared.symbol.Symbol.TheVariants.{Same, Differs, And, Or, Not, OpenParen, CloseParen, Dot}
use Rattle.lit_syntax.specs.Tokens.{Token, Word, Number, Sign}

-- a comparison, with the agent's name
pub record Comparison : Type 0 where
  pub agent : List ℕ
  pub reg : ℕ
  pub equal : Bool
  pub value : ℕ

-- a comparison, `!` and an operand, or a condition in parentheses
mutual
  pub data Operand : Type 0 where
    Compared : Comparison → Operand
    Negated : Operand → Operand
    Grouped : Written → Operand

  -- one or more operands joined by `&&`
  pub data Conjunction : Type 0 where
    Lone : Operand → Conjunction
    Both : Operand → Conjunction → Conjunction

  -- a condition: one or more conjunctions joined by `||`
  pub data Written : Type 0 where
    Single : Conjunction → Written
    Either : Conjunction → Written → Written

-- `r0` and so on
abbrev pub register_word : ℕ → List ℕ
register_word reg = 114 ∷ (48 + reg) ∷ []

-- the tokens of an operand; a comparison is NAME.REG == NUM or NAME.REG != NUM
abbrev mutual
  pub operand_tokens : Operand → List Token
  operand_tokens (Compared c) =
      Word c.agent ∷ Sign Dot ∷ Word (register_word c.reg) ∷ Sign (if c.equal then Same else Differs) ∷ Number c.value ∷ []
  operand_tokens (Negated o) = Sign Not ∷ operand_tokens o
  operand_tokens (Grouped w) = Sign OpenParen ∷ (written_tokens w ++ Sign CloseParen ∷ [])

  -- the tokens of a conjunction
  pub conjunction_tokens : Conjunction → List Token
  conjunction_tokens (Lone o) = operand_tokens o
  conjunction_tokens (Both o c) = operand_tokens o ++ Sign And ∷ conjunction_tokens c

  -- the tokens of a condition
  pub written_tokens : Written → List Token
  written_tokens (Single c) = conjunction_tokens c
  written_tokens (Either c w) = conjunction_tokens c ++ Sign Or ∷ written_tokens w

-- The comparisons of an operand in order, each with its depth: how many `!` and `(` stand around it, beside the given ones.
abbrev mutual
  pub operand_depths : ℕ → Operand → List (Comparison × ℕ)
  operand_depths n (Compared c) = (c, n) ∷ []
  operand_depths n (Negated o) = operand_depths (n + 1) o
  operand_depths n (Grouped w) = written_depths (n + 1) w

  -- the comparisons of a conjunction in order, each with its depth
  pub conjunction_depths : ℕ → Conjunction → List (Comparison × ℕ)
  conjunction_depths n (Lone o) = operand_depths n o
  conjunction_depths n (Both o c) = operand_depths n o ++ conjunction_depths n c

  -- the comparisons of a condition in order, each with its depth
  pub written_depths : ℕ → Written → List (Comparison × ℕ)
  written_depths n (Single c) = conjunction_depths n c
  written_depths n (Either c w) = conjunction_depths n c ++ written_depths n w

-- no comparison stands too deep
abbrev pub is_shallow : Written → Bool
is_shallow w = list_all (λ p. nat_le p.1 DEPTH_LIMIT) (written_depths 0 w)
