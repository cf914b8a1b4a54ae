-- The canonical forms of a test are its forms.
use Rattle.std.proofs.Common.{◌≡◌, ◌≢◌, ℕ, zero, suc, ◌<◌, ◌≤◌, Bool, true, false, List, [], ◌∷◌, ◌++◌, length, get_or, inl, inr, refl, ap, sym, ◌∙◌, arith}
use Rattle.std.specs.Str.{bytes_eq}
use Rattle.std.proofs.lemmas.Slice.Eq.{bytes_eq-Decides}
use Rattle.lit_syntax.specs.Syntax.{Statement, Statements, Load, Store, Exchange, CompareExchange, If, End, Then, Condition, Conditions, Any, All, Not, Is, NoMore, Also, condition_count, Agent, Litmus, IsConditionOn, AreConditionsOn, IsLitmus}
use Rattle.lit_read.specs.Structure.{IsStatement, AreStatements, AreAgents}
use Rattle.lit_read.proofs.SpellLemmas.{HasElse}
use Rattle.lit_read.specs.Spelling.{place_of, operand_value, conjunction_value, written_value, operand_values, conjunction_values, AreFormsOf}
use Rattle.lit_read.specs.Canonical.{statement_forms, statements_forms, else_forms, agents_forms, canonical_forms}
use Rattle.lit_syntax.specs.Parentheses.{named, operand_of, conjunction_of, all_written, any_written, written_of}

-- ---- statements and agents

mutual
  statement_is : (s : Statement) → IsStatement (statement_forms s) s
  statement_is (Load r w i a) = refl
  statement_is (Store w i v a) = refl
  statement_is (Exchange r w i v) = refl
  statement_is (CompareExchange r w i e v) = refl
  statement_is (If r e v body other) = (statements_forms body, else_forms other, refl, statements_are body, else_is other)

  statements_are : (ss : Statements) → AreStatements (statements_forms ss) ss
  statements_are End = refl
  statements_are (Then s ss) = (statement_forms s, statements_forms ss, refl, statement_is s, statements_are ss)

  else_is : (ss : Statements) → HasElse (else_forms ss) ss
  else_is End = inl (refl, refl)
  else_is (Then s ss) = inr (statement_forms s ++ statements_forms ss, refl, (statement_forms s, statements_forms ss, refl, statement_is s, statements_are ss))

pub agents_are : (agents : List Agent) → AreAgents (agents_forms agents) agents
agents_are [] = refl
agents_are (a ∷ others) = (statements_forms a.body, agents_forms others, refl, statements_are a.body, agents_are others)

-- ---- names and numbers

pub differ : (a b : List ℕ) → a ≢ b → bytes_eq a b ≡ false
differ a b ne = by (bytes_eq a b) refl
  where
    by : (x : Bool) → bytes_eq a b ≡ x → x ≡ false
    by true e = absurd (ne ((bytes_eq-Decides a b).0 e))
    by false e = refl

placed : (agents : List Agent) (i : ℕ) → i < length agents → ((j k : ℕ) → j < k → k < length agents → (get_or agents j (record { name = []; body = End })).name ≢ (get_or agents k (record { name = []; body = End })).name)
    → place_of (get_or agents i (record { name = []; body = End })).name agents ≡ i
placed [] i lt apart = absurd (omega arith)
placed (a ∷ others) zero lt apart = rw ((bytes_eq-Decides a.name a.name).1 refl) refl
placed (a ∷ others) (suc i) lt apart =
    let other : bytes_eq (get_or others i (record { name = []; body = End })).name a.name ≡ false = differ _ _ (λ e. apart zero (suc i) (omega arith) lt (sym e)) in
    let rest : place_of (get_or others i (record { name = []; body = End })).name others ≡ i = placed others i (omega arith) (λ j k jk within. apart (suc j) (suc k) (omega arith) (omega arith)) in
    rw other (omega (arith, rest))

-- ---- the condition

module _ (t : Litmus) (is : IsLitmus t) where
  compared : (agent reg : ℕ) (equal : Bool) (value : ℕ) → agent < length t.agents → Is (place_of (named t.agents agent reg equal value).agent t.agents) reg equal value ≡ Is agent reg equal value
  compared agent reg equal value lt = ap (λ (n : ℕ). Is n reg equal value) (placed t.agents agent lt is.distinct)

  mutual
    operand_back : (c : Condition) → IsConditionOn t c → operand_value t.agents (operand_of t.agents c) ≡ c
    operand_back (Is agent reg equal value) on = compared agent reg equal value on.0
    operand_back (Not c) on = ap (λ (x : Condition). Not x) (operand_back c on)
    operand_back (All cs) on = all_back cs on.0 on.1
    operand_back (Any cs) on = any_back cs on.0 on.1

    conjunction_back : (c : Condition) → IsConditionOn t c → conjunction_value t.agents (conjunction_of t.agents c) ≡ c
    conjunction_back (Is agent reg equal value) on = compared agent reg equal value on.0
    conjunction_back (Not c) on = ap (λ (x : Condition). Not x) (operand_back c on)
    conjunction_back (All cs) on = all_back cs on.0 on.1
    conjunction_back (Any cs) on = any_back cs on.0 on.1

    all_back : (cs : Conditions) → 2 ≤ condition_count cs → AreConditionsOn t cs → conjunction_value t.agents (all_written t.agents cs) ≡ All cs
    all_back NoMore many on = absurd (omega arith)
    all_back (Also c NoMore) many on = absurd (omega arith)
    all_back (Also c (Also d ds)) many on =
        ap (λ (x : Condition). All (Also x (operand_values t.agents (all_written t.agents (Also d ds))))) (operand_back c on.0) ∙ ap (λ (x : Conditions). All (Also c x)) (operands_back (Also d ds) (omega arith) on.1)

    operands_back : (cs : Conditions) → 1 ≤ condition_count cs → AreConditionsOn t cs → operand_values t.agents (all_written t.agents cs) ≡ cs
    operands_back NoMore some on = absurd (omega arith)
    operands_back (Also d NoMore) some on = ap (λ (x : Condition). Also x NoMore) (operand_back d on.0)
    operands_back (Also d (Also e es)) some on =
        ap (λ (x : Condition). Also x (operand_values t.agents (all_written t.agents (Also e es)))) (operand_back d on.0) ∙ ap (λ (x : Conditions). Also d x) (operands_back (Also e es) (omega arith) on.1)

    any_back : (cs : Conditions) → 2 ≤ condition_count cs → AreConditionsOn t cs → written_value t.agents (any_written t.agents cs) ≡ Any cs
    any_back NoMore many on = absurd (omega arith)
    any_back (Also c NoMore) many on = absurd (omega arith)
    any_back (Also c (Also d ds)) many on =
        ap (λ (x : Condition). Any (Also x (conjunction_values t.agents (any_written t.agents (Also d ds))))) (conjunction_back c on.0) ∙ ap (λ (x : Conditions). Any (Also c x)) (conjunctions_back (Also d ds) (omega arith) on.1)

    conjunctions_back : (cs : Conditions) → 1 ≤ condition_count cs → AreConditionsOn t cs → conjunction_values t.agents (any_written t.agents cs) ≡ cs
    conjunctions_back NoMore some on = absurd (omega arith)
    conjunctions_back (Also d NoMore) some on = ap (λ (x : Condition). Also x NoMore) (conjunction_back d on.0)
    conjunctions_back (Also d (Also e es)) some on =
        ap (λ (x : Condition). Also x (conjunction_values t.agents (any_written t.agents (Also e es)))) (conjunction_back d on.0) ∙ ap (λ (x : Conditions). Also d x) (conjunctions_back (Also e es) (omega arith) on.1)

  pub written_back : (c : Condition) → IsConditionOn t c → written_value t.agents (written_of t.agents c) ≡ c
  written_back (Is agent reg equal value) on = compared agent reg equal value on.0
  written_back (Not c) on = ap (λ (x : Condition). Not x) (operand_back c on)
  written_back (All cs) on = all_back cs on.0 on.1
  written_back (Any cs) on = any_back cs on.0 on.1

  abbrev pub canonical_are : AreFormsOf (canonical_forms t) t
  canonical_are = record { agents = agents_forms t.agents; check = written_of t.agents t.check; parts = refl; bodies = agents_are t.agents; asks = sym (written_back t.check is.check) }
