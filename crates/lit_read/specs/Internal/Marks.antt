-- The marks of a condition, one after the other: its operators, parentheses and comparisons.
use Rattle.std.specs.Prelude.{◌≡◌, ℕ, zero, suc, ◌<◌, nat_le, Bool, true, false, if◌then◌else◌, List}
use Rattle.std.specs.Prelude.{[], ◌∷◌, ◌++◌, Option, Some, None}
use Rattle.std.specs.Option.{option_map}
use Rattle.std.specs.List.{AllByRecursion}
use Rattle.lit_syntax.specs.declared.symbol.Symbol.TheVariants.{Same, Differs, And, Or, Not, OpenParen, CloseParen, Dot}
use Rattle.lit_syntax.specs.declared.limits.TheConstants.{REGISTERS, COMPARED_LIMIT}
use Rattle.lit_syntax.specs.Tokens.{Token, Word, Number, Sign}
use Rattle.lit_syntax.specs.Written.{Comparison, Operand, Compared, Negated, Grouped, Conjunction, Lone, Both, Written}
use Rattle.lit_syntax.specs.Written.{Single, Either, register_word, written_tokens, written_depths}
use Rattle.lit_syntax.specs.Forms.{Form, CheckLine, spelled, IsForm}
use Rattle.lit_read.specs.Internal.FirstToken.{or_else}
use Rattle.lit_read.specs.Internal.FormOfTokens.{after_sign, comparison_of}

pub data Mark : Type 0 where
  Bang : Mark
  Opens : Mark
  Closes : Mark
  Joins : Mark
  Parts : Mark
  Compares : Comparison → Mark

-- NAME.REG == NUM or NAME.REG != NUM
abbrev pub comparison_tokens : Comparison → List Token
comparison_tokens c = Word c.agent ∷ Sign Dot ∷ Word (register_word c.reg) ∷ Sign (if c.equal then Same else Differs) ∷ Number c.value ∷ []

abbrev pub mark_tokens : Mark → List Token
mark_tokens Bang = Sign Not ∷ []
mark_tokens Opens = Sign OpenParen ∷ []
mark_tokens Closes = Sign CloseParen ∷ []
mark_tokens Joins = Sign And ∷ []
mark_tokens Parts = Sign Or ∷ []
mark_tokens (Compares c) = comparison_tokens c

abbrev pub IsMark : Mark → Type 0
IsMark (Compares c) = c.reg < REGISTERS
IsMark _ = Unit {0}

-- the marks of a condition
abbrev mutual
  pub operand_marks : Operand → List Mark
  operand_marks (Compared c) = Compares c ∷ []
  operand_marks (Negated o) = Bang ∷ operand_marks o
  operand_marks (Grouped w) = Opens ∷ (written_marks w ++ Closes ∷ [])

  pub conjunction_marks : Conjunction → List Mark
  conjunction_marks (Lone o) = operand_marks o
  conjunction_marks (Both o c) = operand_marks o ++ Joins ∷ conjunction_marks c

  pub written_marks : Written → List Mark
  written_marks (Single c) = conjunction_marks c
  written_marks (Either c w) = conjunction_marks c ++ Parts ∷ written_marks w

-- the mark at the front, and the tokens behind it
unfoldable pub mark_of : List Token → Option (Mark × List Token)
mark_of ts =
    or_else (option_map (λ rest. (Bang, rest)) (after_sign ts Not))
    (or_else (option_map (λ rest. (Opens, rest)) (after_sign ts OpenParen))
    (or_else (option_map (λ rest. (Closes, rest)) (after_sign ts CloseParen))
    (or_else (option_map (λ rest. (Joins, rest)) (after_sign ts And))
    (or_else (option_map (λ rest. (Parts, rest)) (after_sign ts Or)) (option_map (λ p. (Compares p.0, p.1)) (comparison_of ts))))))

abbrev pub one_less : ℕ → Option (Bool × ℕ)
one_less zero = None
one_less (suc n) = Some (true, n)

-- The state after one more mark, if that can follow: whether an operand stands last, and how many parentheses are open.
unfoldable pub follow : Bool → ℕ → Mark → Option (Bool × ℕ)
follow false n Bang = Some (false, n)
follow false n Opens = Some (false, suc n)
follow false n (Compares c) = Some (true, n)
follow true n Closes = one_less n
follow true n Joins = Some (false, n)
follow true n Parts = Some (false, n)
follow _ _ _ = None

-- the tokens are those of a condition with these marks
abbrev pub SpellsMarks : List Token → List Mark → Type 0
SpellsMarks tokens marks =
    (w : Written) × (marks ≡ written_marks w) × (tokens ≡ written_tokens w) × AllByRecursion (λ p. p.0.reg < REGISTERS) (written_depths 0 w)

abbrev pub SpellsNoCondition : List Token → Type 0
SpellsNoCondition tokens = (w : Written) → tokens ≡ written_tokens w → AllByRecursion (λ p. p.0.reg < REGISTERS) (written_depths 0 w) → ⊥

-- the tokens spell the form, and it can stand in a line
abbrev pub IsSpelling : List Token → Form → Type 0
IsSpelling tokens form = (tokens ≡ spelled form) × IsForm form

-- the tokens spell a form of this kind, a check line, or nothing
abbrev pub SpellsForm : List Token → (Form → Type 0) → Type 0
SpellsForm tokens Shows = (form : Form) × Shows form × IsSpelling tokens form

abbrev pub SpellsNoCheck : List Token → Type 0
SpellsNoCheck tokens = (w : Written) → ¬ IsSpelling tokens (CheckLine w)

abbrev pub SpellsNothing : List Token → Type 0
SpellsNothing tokens = (form : Form) → ¬ IsSpelling tokens form

-- a number compared is one that a register can hold
abbrev pub is_small : Mark → Bool
is_small (Compares c) = nat_le c.value COMPARED_LIMIT
is_small _ = true
