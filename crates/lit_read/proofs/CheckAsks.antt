-- The check line of a test asks what it may.
use Rattle.std.proofs.Common.{◌≡◌, ℕ, suc, ◌+◌, ◌<◌, Bool, true, false, cond, leb, List, [], ◌∷◌, length, get_or, refl, ap, sym, subst, ◌∙◌, arith, add-one}
use Rattle.std.specs.List.{AllByRecursion}
use Rattle.std.specs.Str.{bytes_eq}
use Rattle.std.proofs.lemmas.Bool.{le-leb}
use Rattle.std.proofs.lemmas.Slice.Eq.{bytes_eq-Decides}
use Rattle.lit_syntax.specs.declared.limits.TheConstants.{REGISTERS, COMPARED_LIMIT}
use Rattle.lit_syntax.specs.Syntax.{End, writes, Agent, Litmus, IsConditionOn, AreConditionsOn, IsLitmus}
use Rattle.lit_syntax.specs.Tokens.{IsWord}
use Rattle.lit_syntax.specs.Written.{Comparison, Operand, Compared, Negated, Grouped, Conjunction, Lone, Both, Written, Single, Either, operand_depths, conjunction_depths, written_depths}
use Rattle.lit_syntax.specs.Forms.{CheckLine, IsForm}
use Rattle.lit_read.specs.Internal.Built.{numbered}
use Rattle.lit_read.specs.Spelling.{place_of, operand_value, conjunction_value, written_value, operand_values, conjunction_values}
use Rattle.lit_read.specs.Internal.State.{body_named, is_known, are_known, has_small_numbers}
use Rattle.lit_syntax.proofs.ListLemmas.{all_both, all_weaker, all_pass}
use Rattle.lit_read.proofs.CanonicalConditions.{IsWritable, AreWritable}

-- the first agent of a name
pub named_there : (name : List ℕ) (agents : List Agent) (d : Agent) → place_of name agents < length agents → ((get_or agents (place_of name agents) d).name ≡ name) × ((get_or agents (place_of name agents) d).body ≡ body_named name agents)
named_there name [] d lt = absurd (omega arith)
named_there name (a ∷ others) d lt = by (bytes_eq name a.name) refl lt (named_there name others d)
  where
    by : (b : Bool) → bytes_eq name a.name ≡ b → cond b 0 (place_of name others + 1) < suc (length others)
        → (place_of name others < length others → ((get_or others (place_of name others) d).name ≡ name) × ((get_or others (place_of name others) d).body ≡ body_named name others))
        → ((get_or (a ∷ others) (cond b 0 (place_of name others + 1)) d).name ≡ name) × ((get_or (a ∷ others) (cond b 0 (place_of name others + 1)) d).body ≡ cond b a.body (body_named name others))
    by true is lt rest = (sym ((bytes_eq-Decides name a.name).0 is), refl)
    by false is lt rest = rw add-one (rest (omega (arith, lt)))

module _ (t : Litmus) (is : IsLitmus t) where
  record IsAsked (p : Comparison × ℕ) : Type 0 where
    writable : IsWritable p.0
    known : is_known t.agents p.0 ≡ true

  abbrev AreAsked : List (Comparison × ℕ) → Type 0
  AreAsked ps = AllByRecursion IsAsked ps

  compared_asked : (c : Comparison) (n : ℕ) → IsConditionOn t (numbered t.agents c) → IsAsked (c, n)
  compared_asked c n on =
      let there = named_there c.agent t.agents (record { name = []; body = End }) on.0 in
      record { writable = record { named = subst IsWord there.0 (is.names (place_of c.agent t.agents) on.0); register = on.1; small = on.3 }; known = ap (λ b. writes b c.reg) (sym there.1) ∙ on.2 }

  mutual
    operand_asked : (o : Operand) (n : ℕ) → IsConditionOn t (operand_value t.agents o) → AreAsked (operand_depths n o)
    operand_asked (Compared c) n on = (compared_asked c n on, tt)
    operand_asked (Negated o) n on = operand_asked o (n + 1) on
    operand_asked (Grouped w) n on = written_asked w (n + 1) on

    conjunction_asked : (c : Conjunction) (n : ℕ) → IsConditionOn t (conjunction_value t.agents c) → AreAsked (conjunction_depths n c)
    conjunction_asked (Lone o) n on = operand_asked o n on
    conjunction_asked (Both o c) n on = all_both IsAsked (operand_depths n o) (conjunction_depths n c) (operand_asked o n on.1.0) (operands_asked c n on.1.1)

    operands_asked : (c : Conjunction) (n : ℕ) → AreConditionsOn t (operand_values t.agents c) → AreAsked (conjunction_depths n c)
    operands_asked (Lone o) n on = operand_asked o n on.0
    operands_asked (Both o c) n on = all_both IsAsked (operand_depths n o) (conjunction_depths n c) (operand_asked o n on.0) (operands_asked c n on.1)

    written_asked : (w : Written) (n : ℕ) → IsConditionOn t (written_value t.agents w) → AreAsked (written_depths n w)
    written_asked (Single c) n on = conjunction_asked c n on
    written_asked (Either c w) n on = all_both IsAsked (conjunction_depths n c) (written_depths n w) (conjunction_asked c n on.1.0) (conjunctions_asked w n on.1.1)

    conjunctions_asked : (w : Written) (n : ℕ) → AreConditionsOn t (conjunction_values t.agents w) → AreAsked (written_depths n w)
    conjunctions_asked (Single c) n on = conjunction_asked c n on.0
    conjunctions_asked (Either c w) n on = all_both IsAsked (conjunction_depths n c) (written_depths n w) (conjunction_asked c n on.0) (conjunctions_asked w n on.1)

  module _ (w : Written) (asks : t.check ≡ written_value t.agents w) where
    asked : AreAsked (written_depths 0 w)
    asked = written_asked w 0 (subst (IsConditionOn t) asks is.check)

    pub check_writable : AreWritable (written_depths 0 w)
    check_writable = all_weaker IsAsked (λ p. IsWritable p.0) (λ p f. f.writable) (written_depths 0 w) asked

    pub check_form : IsForm (CheckLine w)
    unfolding IsForm
    check_form = all_weaker IsAsked (λ p. p.0.reg < REGISTERS) (λ p f. f.writable.register) (written_depths 0 w) asked

    pub check_small : has_small_numbers w ≡ true
    check_small = all_pass IsAsked (λ p. leb p.0.value COMPARED_LIMIT) (λ p f. le-leb _ _ f.writable.small) (written_depths 0 w) asked

    pub check_known : are_known t.agents w ≡ true
    check_known = all_pass IsAsked (λ p. is_known t.agents p.0) (λ p f. f.known) (written_depths 0 w) asked
