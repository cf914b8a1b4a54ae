-- Counting the statements of a slice, and the forms with which statements begin.
use Rattle.std.proofs.Common.{◌≡◌, ℕ, ◌+◌, ◌<◌, ◌≤◌, List, length, get_or, drop, min, arith, refl, sym, ap, ◌∙◌}
use Rattle.std.proofs.lemmas.List.{drop_more, drop_all, length-append}
use Rattle.lit_syntax.specs.declared.syntax.Stmt.{Stmt}
use Rattle.lit_syntax.specs.Litmus.{statement_of, statements_of}
use Rattle.lit_syntax.specs.Syntax.{Statement, Statements, Load, Store, Exchange, CompareExchange, If, End, Then}
use Rattle.lit_syntax.specs.StatementOrder.{count_with_parts, statement_count, statement_begun, statements_begun}

abbrev left_count : List Stmt → ℕ → ℕ
left_count xs i = statement_count (statements_of (drop i xs))

-- what is counted, with what is left, is the whole
pub record IsCounted (most : ℕ) (xs : List Stmt) (i count : ℕ) : Type 0 where
  pub few : count ≤ most
  pub whole : min (count + left_count xs i) most ≡ min (statement_count (statements_of xs)) most

pub counted_more : (most : ℕ) (xs : List Stmt) (i : ℕ) (x : Stmt) (count parts next : ℕ) → i < length xs → x ≡ get_or xs i x
    → parts ≡ min (count_with_parts (statement_of x)) most → next ≡ min (count + parts) most → IsCounted most xs i count → IsCounted most xs (i + 1) next
counted_more most xs i x count parts next inside is counted put before =
    let left : left_count xs i ≡ count_with_parts (statement_of x) + left_count xs (i + 1) =
    ap (λ l. statement_count (statements_of l)) (drop_more xs i x inside) ∙ ap (λ (s : Stmt). count_with_parts (statement_of s) + left_count xs (i + 1)) (sym is) in
    record { few = omega (arith, put); whole = omega (arith, left, counted, put, before.whole) }

pub counted_end : (most : ℕ) (xs : List Stmt) (i count : ℕ) → length xs ≤ i → IsCounted most xs i count → count ≡ min (statement_count (statements_of xs)) most
counted_end most xs i count past is =
    let none : left_count xs i ≡ 0 = ap (λ l. statement_count (statements_of l)) (drop_all i xs past) in
    omega (arith, none, is.few, is.whole)

-- ---- the forms with which they begin

mutual
  pub statement_counted : (s : Statement) → length (statement_begun s) ≡ count_with_parts s
  statement_counted (Load r w i a) = refl
  statement_counted (Store w i v a) = refl
  statement_counted (Exchange r w i v) = refl
  statement_counted (CompareExchange r w i e v) = refl
  statement_counted (If r e v body other) =
      omega (arith, length-append (statements_begun body) (statements_begun other), statements_counted body, statements_counted other)

  pub statements_counted : (ss : Statements) → length (statements_begun ss) ≡ statement_count ss
  statements_counted End = refl
  statements_counted (Then s ss) = omega (arith, length-append (statement_begun s) (statements_begun ss), statement_counted s, statements_counted ss)
