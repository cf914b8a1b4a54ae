-- The statements of a slice that are left.
use Rattle.std.proofs.Common.{◌≡◌, ℕ, ◌+◌, ◌<◌, ◌≤◌, List, length, get_or, drop, ap, sym, ◌∙◌}
use Rattle.std.proofs.lemmas.List.{drop_more, drop_all}
use Rattle.lit_syntax.specs.declared.syntax.Stmt.{Stmt}
use Rattle.lit_syntax.specs.Syntax.{Then, End}
use Rattle.lit_syntax.specs.Litmus.{statement_of, statements_of}

pub statements_left : (xs : List Stmt) (i : ℕ) (x : Stmt) → i < length xs → x ≡ get_or xs i x
    → statements_of (drop i xs) ≡ Then (statement_of x) (statements_of (drop (i + 1) xs))
statements_left xs i x inside is =
    ap statements_of (drop_more xs i x inside) ∙ ap (λ (s : Stmt). Then (statement_of s) (statements_of (drop (i + 1) xs))) (sym is)

pub statements_end : (xs : List Stmt) (i : ℕ) → length xs ≤ i → statements_of (drop i xs) ≡ End
statements_end xs i past = ap statements_of (drop_all i xs past)
