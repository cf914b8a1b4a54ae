-- What the parts of a statement and of a condition represent.
use Rattle.std.proofs.Common.{◌≡◌, ℕ, zero, suc, ◌+◌, ◌<◌, Bool, true, false, ◌||◌, List, [], ◌∷◌, length, get_or, drop, refl, ap, sym, ◌∙◌, arith, add-one}
use Rattle.std.specs.Global.{Vec}
use mathlib.Core.Former.{Count}
use Rattle.lit_syntax.specs.declared.syntax.Stmt.{Stmt, Row_of-Stmt, end_of-Stmt, more_of-Stmt, items-the_row-Stmt, items_hidden-the_row-Stmt-0}
use Rattle.lit_syntax.specs.declared.syntax.Stmt as stmt
use Rattle.lit_syntax.specs.declared.syntax.Cond.{Cond, Row_of-Cond, end_of-Cond, more_of-Cond, items-the_row-Cond, items_hidden-the_row-Cond-0}
use Rattle.lit_syntax.specs.declared.syntax.Cond as code
use Rattle.lit_syntax.specs.Syntax.{statement_writes, writes, Statements, Then, If, Conditions, Any, All, Also}
use Rattle.lit_syntax.specs.Litmus.{statement_of, part_of, statements_of, condition_of, conditions_of, conditions_view}

-- ---- a condition of several members

abbrev pub row_of : Cond → (n : Count) × Row_of-Cond n
row_of (code.Any' shape row) = (_, row)
row_of (code.All' shape row) = (_, row)
row_of (code.Not' p c) = (_, end_of-Cond)
row_of (code.Is agent reg equal value) = (_, end_of-Cond)

row_is : (n : Count) (row : Row_of-Cond n) → conditions_of row ≡ conditions_view (items-the_row-Cond n row)
row_is n end_of-Cond = refl
row_is n (more_of-Cond c rest) = ap (λ (x : Conditions). Also (condition_of c) x) (row_is _ rest)

pub all_views : (v : Vec Cond) → condition_of (code.All v) ≡ All (conditions_view v.items)
all_views v =
    let row = row_of (code.All v) in
    ap (λ (x : Conditions). All x) (row_is row.0 row.1 ∙ ap conditions_view (items_hidden-the_row-Cond-0 v))

pub any_views : (v : Vec Cond) → condition_of (code.Any v) ≡ Any (conditions_view v.items)
any_views v =
    let row = row_of (code.Any v) in
    ap (λ (x : Conditions). Any x) (row_is row.0 row.1 ∙ ap conditions_view (items_hidden-the_row-Cond-0 v))

-- ---- the two parts of an `if`

abbrev body_row : Stmt → (n : Count) × Row_of-Stmt n
body_row (stmt.If' reg equal value shape body shape_2 other) = (_, body)
body_row (stmt.Load reg view index atomic) = (_, end_of-Stmt)
body_row (stmt.Store view index value atomic) = (_, end_of-Stmt)
body_row (stmt.Exchange reg view index value) = (_, end_of-Stmt)
body_row (stmt.CompareExchange reg view index expected value) = (_, end_of-Stmt)

abbrev other_row : Stmt → (n : Count) × Row_of-Stmt n
other_row (stmt.If' reg equal value shape body shape_2 other) = (_, other)
other_row (stmt.Load reg view index atomic) = (_, end_of-Stmt)
other_row (stmt.Store view index value atomic) = (_, end_of-Stmt)
other_row (stmt.Exchange reg view index value) = (_, end_of-Stmt)
other_row (stmt.CompareExchange reg view index expected value) = (_, end_of-Stmt)

part_is : (n : Count) (row : Row_of-Stmt n) → part_of row ≡ statements_of (items-the_row-Stmt n row)
part_is n end_of-Stmt = refl
part_is n (more_of-Stmt s rest) = ap (λ (x : Statements). Then (statement_of s) x) (part_is _ rest)

pub if_views : (reg : ℕ) (equal : Bool) (value : ℕ) (b o : Vec Stmt) → statement_of (stmt.If reg equal value b o) ≡ If reg equal value (statements_of b.items) (statements_of o.items)
if_views reg equal value b o =
    let body = body_row (stmt.If reg equal value b o) in
    let other = other_row (stmt.If reg equal value b o) in
    ap (λ (x : Statements). If reg equal value x (part_of other.1)) (part_is body.0 body.1 ∙ ap statements_of (items_hidden-the_row-Stmt-0 b))
    ∙ ap (λ (x : Statements). If reg equal value (statements_of b.items) x) (part_is other.0 other.1 ∙ ap statements_of (items_hidden-the_row-Stmt-0 o))

-- ---- the remaining statements

pub writes_more : (xs : List Stmt) (i : ℕ) (d : Stmt) (reg : ℕ) → i < length xs → writes (statements_of (drop i xs)) reg ≡ (statement_writes (statement_of (get_or xs i d)) reg || writes (statements_of (drop (suc i) xs)) reg)
writes_more [] i d reg lt = absurd (omega arith)
writes_more (x ∷ xs) zero d reg lt = refl
writes_more (x ∷ xs) (suc i) d reg lt = writes_more xs i d reg (omega arith)

pub written_here : (xs : List Stmt) (i : ℕ) (x : Stmt) (reg : ℕ) (w : Bool) → i < length xs → x ≡ get_or xs i x → w ≡ statement_writes (statement_of x) reg → writes (statements_of (drop i xs)) reg ≡ writes (statements_of xs) reg
    → (w ≡ true → true ≡ writes (statements_of xs) reg) × (w ≡ false → writes (statements_of (drop (i + 1) xs)) reg ≡ writes (statements_of xs) reg)
written_here xs i x reg w lt is found so_far =
    let here : writes (statements_of xs) reg ≡ (w || writes (statements_of (drop (suc i) xs)) reg) =
    sym so_far ∙ writes_more xs i x reg lt ∙ ap (λ (s : Stmt). statement_writes (statement_of s) reg || writes (statements_of (drop (suc i) xs)) reg) (sym is) ∙ ap (λ (b : Bool). b || writes (statements_of (drop (suc i) xs)) reg) (sym found) in
    (λ e. sym (here ∙ ap (λ (b : Bool). b || writes (statements_of (drop (suc i) xs)) reg) e), λ e. rw (add-one i) (sym (here ∙ ap (λ (b : Bool). b || writes (statements_of (drop (suc i) xs)) reg) e)))
