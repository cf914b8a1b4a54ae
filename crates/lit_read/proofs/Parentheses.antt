-- What a condition asks tells its tokens but the parentheses.
use Rattle.std.proofs.Common.{◌≡◌, ℕ, Bool, true, false, cond, not, List, [], ◌∷◌, ◌++◌, refl, ap, sym, subst, ◌∙◌}
use Rattle.std.proofs.lemmas.List.{append-nil}
use Rattle.lit_syntax.specs.declared.symbol.Symbol.{Symbol}
use Rattle.lit_syntax.specs.declared.symbol.Symbol.TheVariants.{And, Or, CloseParen}
use Rattle.lit_syntax.specs.declared.symbol.Symbol.TheVariants.{Not as Bang}
use Rattle.lit_syntax.specs.Tokens.{Token, Sign}
use Rattle.lit_syntax.specs.Syntax.{End, Condition, Conditions, Any, All, Not, Is, NoMore, Also, Litmus, IsConditionOn, AreConditionsOn, IsLitmus}
use Rattle.lit_syntax.specs.Forms.{Form}
use Rattle.lit_syntax.specs.Written.{Comparison, Operand, Compared, Negated, Grouped, Conjunction, Lone, Both, Written, Single, Either, operand_tokens, conjunction_tokens, written_tokens}
use Rattle.lit_read.specs.Internal.Marks.{comparison_tokens}
use Rattle.lit_read.specs.Spelling.{operand_value, conjunction_value, written_value, operand_values, conjunction_values, AreFormsOf}
use Rattle.lit_syntax.specs.Parentheses.{named, is_parenthesis, without_parentheses}
use Rattle.lit_read.proofs.CheckAsks.{named_there}

joined_bare : (xs ys : List Token) → without_parentheses (xs ++ ys) ≡ without_parentheses xs ++ without_parentheses ys
joined_bare [] ys = refl
joined_bare (x ∷ xs) ys =
    elim (is_parenthesis x) as (λ b. cond (not b) (x ∷ without_parentheses (xs ++ ys)) (without_parentheses (xs ++ ys)) ≡ cond (not b) (x ∷ without_parentheses xs) (without_parentheses xs) ++ without_parentheses ys)
    [ true ↦ joined_bare xs ys | false ↦ ap (λ (l : List Token). x ∷ l) (joined_bare xs ys) ]

comparison_bare : (c : Comparison) (ts : List Token) → comparison_tokens c ≡ ts → without_parentheses (comparison_tokens c) ≡ ts
comparison_bare c ts is = by c.equal refl ∙ is
  where
    by : (b : Bool) → c.equal ≡ b → without_parentheses (comparison_tokens c) ≡ comparison_tokens c
    by true e = rw e refl
    by false e = rw e refl

module _ (t : Litmus) where
  -- the tokens of a condition without parentheses, and of members with a sign before each
  abbrev mutual
    asked : Condition → List Token
    asked (Any cs) = members cs Or
    asked (All cs) = members cs And
    asked (Not c) = Sign Bang ∷ asked c
    asked (Is agent reg equal value) = comparison_tokens (named t.agents agent reg equal value)

    members : Conditions → Symbol → List Token
    members NoMore sign = []
    members (Also c cs) sign = asked c ++ signed cs sign

    signed : Conditions → Symbol → List Token
    signed NoMore sign = []
    signed (Also c cs) sign = Sign sign ∷ (asked c ++ signed cs sign)

  mutual
    operand_bare : (o : Operand) → IsConditionOn t (operand_value t.agents o) → without_parentheses (operand_tokens o) ≡ asked (operand_value t.agents o)
    operand_bare (Compared c) on =
        comparison_bare c _ (ap (λ (name : List ℕ). comparison_tokens (record { agent = name; reg = c.reg; equal = c.equal; value = c.value })) (sym (named_there c.agent t.agents (record { name = []; body = End }) on.0).0))
    operand_bare (Negated o) on = ap (λ (l : List Token). Sign Bang ∷ l) (operand_bare o on)
    operand_bare (Grouped w) on = joined_bare (written_tokens w) (Sign CloseParen ∷ []) ∙ append-nil (without_parentheses (written_tokens w)) ∙ written_bare w on

    conjunction_bare : (c : Conjunction) → IsConditionOn t (conjunction_value t.agents c) → without_parentheses (conjunction_tokens c) ≡ asked (conjunction_value t.agents c)
    conjunction_bare (Lone o) on = operand_bare o on
    conjunction_bare (Both o c) on =
        joined_bare (operand_tokens o) (Sign And ∷ conjunction_tokens c) ∙ ap (λ (l : List Token). l ++ Sign And ∷ without_parentheses (conjunction_tokens c)) (operand_bare o on.1.0)
        ∙ ap (λ (l : List Token). asked (operand_value t.agents o) ++ l) (operands_bare c on.1.1)

    operands_bare : (c : Conjunction) → AreConditionsOn t (operand_values t.agents c) → Sign And ∷ without_parentheses (conjunction_tokens c) ≡ signed (operand_values t.agents c) And
    operands_bare (Lone o) on = ap (λ (l : List Token). Sign And ∷ l) (operand_bare o on.0 ∙ sym (append-nil (asked (operand_value t.agents o))))
    operands_bare (Both o c) on =
        ap (λ (l : List Token). Sign And ∷ l)
        (joined_bare (operand_tokens o) (Sign And ∷ conjunction_tokens c) ∙ ap (λ (l : List Token). l ++ Sign And ∷ without_parentheses (conjunction_tokens c)) (operand_bare o on.0)
        ∙ ap (λ (l : List Token). asked (operand_value t.agents o) ++ l) (operands_bare c on.1))

    written_bare : (w : Written) → IsConditionOn t (written_value t.agents w) → without_parentheses (written_tokens w) ≡ asked (written_value t.agents w)
    written_bare (Single c) on = conjunction_bare c on
    written_bare (Either c w) on =
        joined_bare (conjunction_tokens c) (Sign Or ∷ written_tokens w) ∙ ap (λ (l : List Token). l ++ Sign Or ∷ without_parentheses (written_tokens w)) (conjunction_bare c on.1.0)
        ∙ ap (λ (l : List Token). asked (conjunction_value t.agents c) ++ l) (conjunctions_bare w on.1.1)

    conjunctions_bare : (w : Written) → AreConditionsOn t (conjunction_values t.agents w) → Sign Or ∷ without_parentheses (written_tokens w) ≡ signed (conjunction_values t.agents w) Or
    conjunctions_bare (Single c) on = ap (λ (l : List Token). Sign Or ∷ l) (conjunction_bare c on.0 ∙ sym (append-nil (asked (conjunction_value t.agents c))))
    conjunctions_bare (Either c w) on =
        ap (λ (l : List Token). Sign Or ∷ l)
        (joined_bare (conjunction_tokens c) (Sign Or ∷ written_tokens w) ∙ ap (λ (l : List Token). l ++ Sign Or ∷ without_parentheses (written_tokens w)) (conjunction_bare c on.0)
        ∙ ap (λ (l : List Token). asked (conjunction_value t.agents c) ++ l) (conjunctions_bare w on.1))

  check_bare : (w : Written) → IsLitmus t → t.check ≡ written_value t.agents w → without_parentheses (written_tokens w) ≡ asked t.check
  check_bare w is asks = written_bare w (subst (IsConditionOn t) asks is.check) ∙ ap asked (sym asks)

-- the check lines of one test have the same tokens but for parentheses
pub same_but_parentheses : (forms others : List Form) (t : Litmus) → IsLitmus t → (a : AreFormsOf forms t) → (b : AreFormsOf others t) → without_parentheses (written_tokens a.check) ≡ without_parentheses (written_tokens b.check)
same_but_parentheses forms others t is a b = check_bare t a.check is a.asks ∙ sym (check_bare t b.check is b.asks)
