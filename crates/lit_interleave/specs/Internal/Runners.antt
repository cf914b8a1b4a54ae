-- How far an agent has come, as the program's type `Runner` records it.
use Rattle.std.specs.Prelude.{◌≡◌, ℕ, Bool, true, false, if◌then◌else◌, Option, Some, None, List, [], ◌∷◌, slice_index}
use Rattle.std.specs.Borrow.{Bor}
use Rattle.std.specs.Coded.{Coded, code_by, coded×, coded_ℕ, coded_list}
use Rattle.std.proofs.Common.{refl}
use Rattle.lit_syntax.specs.declared.syntax.Stmt.{Stmt}
use Rattle.lit_syntax.specs.Litmus.{statement_of, statements_of}
use Rattle.lit_syntax.specs.Syntax.{AreStatementsIn, IsStatementIn, Statement, Statements, Load, Store, Exchange}
use Rattle.lit_syntax.specs.Syntax.{CompareExchange, If, End, Then}
use Rattle.lit_syntax.specs.SyntaxCodes.{coded_statements}
use Rattle.lit_paths.specs.Run.{compares}
use Rattle.lit_interleave.specs.Interleaving.{Progress, from_access, joined_statements}
use Rattle.lit_interleave.specs.declared.runner.Runner.TheInside.{Inside}

-- the remaining statements of nested lists, the innermost last, and then others
abbrev pub joined_all : List (Bor (List Stmt)) → Statements → Statements
joined_all [] others = others
joined_all (list ∷ lists) others = joined_all lists (joined_statements (statements_of list.now) others)

abbrev pub progress : Inside → Progress
progress r = record { left = joined_all r.left.items End; registers = r.registers }

-- a code, by which a proof tells two of them apart
abbrev pub coded_progress : Coded Progress
coded_progress =
    code_by (Statements × List ℕ) (coded× coded_statements (coded_list coded_ℕ)) (λ p. (p.left, p.registers))
    (λ x. record { left = x.0; registers = x.1 }) (λ _. refl)

-- whether a statement is an access
abbrev pub is_access : Statement → Bool
is_access (Load reg window index atomic) = true
is_access (Store window index value atomic) = true
is_access (Exchange reg window index value) = true
is_access (CompareExchange reg window index expected value) = true
is_access (If reg equal value body other) = false

-- the statement is an `if`, of which the registers choose this part
pub record ChoosesPart (registers : List ℕ) (s : Statement) (part : Statements) : Type 0 where
  pub reg : ℕ
  pub equal : Bool
  pub value : ℕ
  pub body : Statements
  pub other : Statements
  pub is : s ≡ If reg equal value body other
  pub chosen : part ≡ (if compares equal (slice_index registers reg) value then body else other)

-- the next access of statements, and the statements behind it, which are well-formed if the ones before are
pub record IsNextAccess (registers : List ℕ) (before : Statements) (s : Statement) (left : Statements) : Type 0 where
  pub access : is_access s ≡ true
  pub next : from_access registers before ≡ Then s left
  pub said : (bytes : ℕ) → AreStatementsIn bytes before → IsStatementIn bytes s × AreStatementsIn bytes left

-- the next access, or there is none
abbrev pub IsNextAccessOrNone : List ℕ → Statements → Option (Bor Stmt) → Statements → Type 0
IsNextAccessOrNone registers before None left = (from_access registers before ≡ End) × (left ≡ End)
IsNextAccessOrNone registers before (Some access) left = IsNextAccess registers before (statement_of access.now) left
