-- Which statement makes each event of a walk (this project's own). Statements have numbers in the order in which they are
-- written: an `if` first, then those of its then-part, and then those of its else-part.
use Rattle.std.specs.Prelude.{◌≡◌, ◌⊎◌, ℕ, ◌+◌, Bool, true, false, List, [], ◌∷◌, ◌++◌}
use Rattle.lit_syntax.specs.Syntax.{Statement, Statements, Load, Store, Exchange, CompareExchange, If, End, Then}
use Rattle.lit_syntax.specs.StatementOrder.{count_with_parts, statement_count}
use Rattle.lit_paths.specs.Path.{Step, LoadMet, StoreMet, ExchangeMet, CompareExchangeMet, IfMet}

-- The steps lead through the statement with number n, or through statements of which the first has it, and these are the
-- numbers of the statements that make the events on the way, one for each, in order. An `if` makes none.
abbrev mutual
  pub AreStatementMakers : (n : ℕ) → Statement → List Step → List ℕ → Type 0
  AreStatementMakers n (Load reg window index atomic) steps makers = (steps ≡ LoadMet reg window index atomic ∷ []) × (makers ≡ n ∷ [])
  AreStatementMakers n (Store window index value atomic) steps makers =
      (steps ≡ StoreMet window index value atomic ∷ []) × (makers ≡ n ∷ [])
  AreStatementMakers n (Exchange reg window index value) steps makers =
      (steps ≡ ExchangeMet reg window index value ∷ []) × (makers ≡ n ∷ [])
  AreStatementMakers n (CompareExchange reg window index expected value) steps makers =
      (succeeds : Bool) × (steps ≡ CompareExchangeMet reg window index expected value succeeds ∷ []) × (makers ≡ n ∷ [])
  AreStatementMakers n (If reg equal value body other) steps makers =
      ((arm : List Step) × (steps ≡ IfMet reg equal value true ∷ arm) × AreMakers (n + 1) body arm makers)
      ⊎ ((arm : List Step) × (steps ≡ IfMet reg equal value false ∷ arm) × AreMakers (n + 1 + statement_count body) other arm makers)

  pub AreMakers : (n : ℕ) → Statements → List Step → List ℕ → Type 0
  AreMakers n End steps makers = (steps ≡ []) × (makers ≡ [])
  AreMakers n (Then s ss) steps makers =
      (first rest : List Step) × (early late : List ℕ) × (steps ≡ first ++ rest) × (makers ≡ early ++ late)
      × AreStatementMakers n s first early × AreMakers (n + count_with_parts s) ss rest late

-- the accesses that are met on the way, one for each event, in order
abbrev pub accesses_met : List Step → List Statement
accesses_met [] = []
accesses_met (LoadMet reg window index atomic ∷ steps) = Load reg window index atomic ∷ accesses_met steps
accesses_met (StoreMet window index value atomic ∷ steps) = Store window index value atomic ∷ accesses_met steps
accesses_met (ExchangeMet reg window index value ∷ steps) = Exchange reg window index value ∷ accesses_met steps
accesses_met (CompareExchangeMet reg window index expected value succeeds ∷ steps) =
    CompareExchange reg window index expected value ∷ accesses_met steps
accesses_met (IfMet reg equal value holds ∷ steps) = accesses_met steps
