-- A condition written with no more parentheses than are needed is no deeper than it is written anywhere.
use Rattle.std.proofs.Common.{◌≡◌, ℕ, ◌+◌, ◌≤◌, true, leb, List, ◌++◌, arith}
use Rattle.std.specs.List.{AllByRecursion}
use Rattle.std.proofs.lemmas.Bool.{leb-true, le-leb}
use Rattle.lit_syntax.specs.declared.limits.TheConstants.{DEPTH_LIMIT}
use Rattle.lit_syntax.specs.Syntax.{Agent, Condition, Conditions, Any, All, Not, Is, NoMore, Also, condition_count}
use Rattle.lit_syntax.specs.Written.{Comparison, Operand, Compared, Negated, Grouped, Conjunction, Lone, Both, Written, Single, Either, operand_depths, conjunction_depths, written_depths, is_shallow}
use Rattle.lit_syntax.specs.Parentheses.{operand_of, conjunction_of, all_written, any_written, written_of}
use Rattle.lit_read.specs.Spelling.{operand_value, conjunction_value, written_value, operand_values, conjunction_values}
use Rattle.lit_syntax.proofs.ListLemmas.{all_both, all_parts, all_pass, all_passed}

-- no comparison is deeper than this
abbrev AreWithin : ℕ → List (Comparison × ℕ) → Type 0
AreWithin most ps = AllByRecursion (λ p. p.1 ≤ most) ps

within_both : (most : ℕ) (xs ys : List (Comparison × ℕ)) → AreWithin most xs → AreWithin most ys → AreWithin most (xs ++ ys)
within_both most xs ys a b = all_both (λ p. p.1 ≤ most) xs ys a b

within_parts : (most : ℕ) (xs ys : List (Comparison × ℕ)) → AreWithin most (xs ++ ys) → AreWithin most xs × AreWithin most ys
within_parts most xs ys a = all_parts (λ p. p.1 ≤ most) xs ys a

mutual
  operand_lower : (o : Operand) (n most : ℕ) → AreWithin most (operand_depths (n + 1) o) → AreWithin most (operand_depths n o)
  operand_lower (Compared c) n most h = (omega (arith, h.0), tt)
  operand_lower (Negated o) n most h = operand_lower o (n + 1) most h
  operand_lower (Grouped w) n most h = written_lower w (n + 1) most h

  conjunction_lower : (c : Conjunction) (n most : ℕ) → AreWithin most (conjunction_depths (n + 1) c) → AreWithin most (conjunction_depths n c)
  conjunction_lower (Lone o) n most h = operand_lower o n most h
  conjunction_lower (Both o c) n most h =
      let parts = within_parts most (operand_depths (n + 1) o) (conjunction_depths (n + 1) c) h in
      within_both most (operand_depths n o) (conjunction_depths n c) (operand_lower o n most parts.0) (conjunction_lower c n most parts.1)

  written_lower : (w : Written) (n most : ℕ) → AreWithin most (written_depths (n + 1) w) → AreWithin most (written_depths n w)
  written_lower (Single c) n most h = conjunction_lower c n most h
  written_lower (Either c w) n most h =
      let parts = within_parts most (conjunction_depths (n + 1) c) (written_depths (n + 1) w) h in
      within_both most (conjunction_depths n c) (written_depths n w) (conjunction_lower c n most parts.0) (written_lower w n most parts.1)

module _ (agents : List Agent) where
  pub operands_count : (c : Conjunction) → 1 ≤ condition_count (operand_values agents c)
  operands_count (Lone o) = omega arith
  operands_count (Both o c) = omega arith

  pub conjunctions_count : (w : Written) → 1 ≤ condition_count (conjunction_values agents w)
  conjunctions_count (Single c) = omega arith
  conjunctions_count (Either c w) = omega arith

  tight : (c : Condition) (n most : ℕ) → AreWithin most (written_depths (n + 1) (written_of agents c)) → AreWithin most (operand_depths n (operand_of agents c))
  tight (Any cs) n most h = h
  tight (All cs) n most h = h
  tight (Not c) n most h = operand_lower (operand_of agents c) (n + 1) most h
  tight (Is agent reg equal value) n most h = (omega (arith, h.0), tt)

  loose : (c : Condition) (n most : ℕ) → AreWithin most (operand_depths n (operand_of agents c)) → AreWithin most (conjunction_depths n (conjunction_of agents c))
  loose (Any cs) n most h = h
  loose (All cs) n most h = conjunction_lower (all_written agents cs) n most h
  loose (Not c) n most h = h
  loose (Is agent reg equal value) n most h = h

  lone : (c : Condition) (n most : ℕ) → AreWithin most (conjunction_depths n (conjunction_of agents c)) → AreWithin most (written_depths n (written_of agents c))
  lone (Any cs) n most h = written_lower (any_written agents cs) n most h
  lone (All cs) n most h = h
  lone (Not c) n most h = h
  lone (Is agent reg equal value) n most h = h

  all_more : (c : Condition) (cs : Conditions) (n most : ℕ) → 1 ≤ condition_count cs → AreWithin most (operand_depths n (operand_of agents c)) → AreWithin most (conjunction_depths n (all_written agents cs))
      → AreWithin most (conjunction_depths n (all_written agents (Also c cs)))
  all_more c NoMore n most some a b = absurd (omega arith)
  all_more c (Also d ds) n most some a b = within_both most (operand_depths n (operand_of agents c)) (conjunction_depths n (all_written agents (Also d ds))) a b

  any_more : (c : Condition) (cs : Conditions) (n most : ℕ) → 1 ≤ condition_count cs → AreWithin most (conjunction_depths n (conjunction_of agents c)) → AreWithin most (written_depths n (any_written agents cs))
      → AreWithin most (written_depths n (any_written agents (Also c cs)))
  any_more c NoMore n most some a b = absurd (omega arith)
  any_more c (Also d ds) n most some a b = within_both most (conjunction_depths n (conjunction_of agents c)) (written_depths n (any_written agents (Also d ds))) a b

  mutual
    operand_within : (o : Operand) (n most : ℕ) → AreWithin most (operand_depths n o) → AreWithin most (operand_depths n (operand_of agents (operand_value agents o)))
    operand_within (Compared c) n most h = (h.0, tt)
    operand_within (Negated o) n most h = operand_within o (n + 1) most h
    operand_within (Grouped w) n most h = tight (written_value agents w) n most (written_within w (n + 1) most h)

    conjunction_within : (c : Conjunction) (n most : ℕ) → AreWithin most (conjunction_depths n c) → AreWithin most (conjunction_depths n (conjunction_of agents (conjunction_value agents c)))
    conjunction_within (Lone o) n most h = loose (operand_value agents o) n most (operand_within o n most h)
    conjunction_within (Both o c) n most h =
        let parts = within_parts most (operand_depths n o) (conjunction_depths n c) h in
        all_more (operand_value agents o) (operand_values agents c) n most (operands_count c) (operand_within o n most parts.0) (operands_within c n most parts.1)

    operands_within : (c : Conjunction) (n most : ℕ) → AreWithin most (conjunction_depths n c) → AreWithin most (conjunction_depths n (all_written agents (operand_values agents c)))
    operands_within (Lone o) n most h = operand_within o n most h
    operands_within (Both o c) n most h =
        let parts = within_parts most (operand_depths n o) (conjunction_depths n c) h in
        all_more (operand_value agents o) (operand_values agents c) n most (operands_count c) (operand_within o n most parts.0) (operands_within c n most parts.1)

    written_within : (w : Written) (n most : ℕ) → AreWithin most (written_depths n w) → AreWithin most (written_depths n (written_of agents (written_value agents w)))
    written_within (Single c) n most h = lone (conjunction_value agents c) n most (conjunction_within c n most h)
    written_within (Either c w) n most h =
        let parts = within_parts most (conjunction_depths n c) (written_depths n w) h in
        any_more (conjunction_value agents c) (conjunction_values agents w) n most (conjunctions_count w) (conjunction_within c n most parts.0) (conjunctions_within w n most parts.1)

    conjunctions_within : (w : Written) (n most : ℕ) → AreWithin most (written_depths n w) → AreWithin most (written_depths n (any_written agents (conjunction_values agents w)))
    conjunctions_within (Single c) n most h = conjunction_within c n most h
    conjunctions_within (Either c w) n most h =
        let parts = within_parts most (conjunction_depths n c) (written_depths n w) h in
        any_more (conjunction_value agents c) (conjunction_values agents w) n most (conjunctions_count w) (conjunction_within c n most parts.0) (conjunctions_within w n most parts.1)

  pub stays_shallow : (w : Written) → is_shallow w ≡ true → is_shallow (written_of agents (written_value agents w)) ≡ true
  stays_shallow w h =
      all_pass (λ p. p.1 ≤ DEPTH_LIMIT) (λ p. leb p.1 DEPTH_LIMIT) (λ p le. le-leb _ _ le) (written_depths 0 (written_of agents (written_value agents w)))
      (written_within w 0 DEPTH_LIMIT (all_passed (λ p. p.1 ≤ DEPTH_LIMIT) (λ p. leb p.1 DEPTH_LIMIT) (λ p e. leb-true _ _ e) (written_depths 0 w) h))
