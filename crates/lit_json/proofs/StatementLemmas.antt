-- Statements as data, one after the other, and the lines that are left behind them.
use Rattle.std.proofs.Common.{◌≡◌, ◌+◌, ℕ, List, [], ◌∷◌, Ok, Err, OnOk, drop, refl, ap, ◌∙◌, arith}
use Rattle.std.proofs.lemmas.List.{drop-drop}
use Rattle.std.specs.declared.result.Result.{Result}
use Rattle.serde_json.specs.Data.{Data, Items, item}
use Rattle.serde_json.specs.View.{items_of}
use Rattle.lit_syntax.specs.declared.syntax.Stmt.{Stmt}
use Rattle.lit_syntax.specs.Litmus.{statement_of, statements_of}
use Rattle.lit_syntax.specs.StatementOrder.{count_with_parts}
use Rattle.lit_json.specs.StatementData.{statement_data, statements_data}

-- statements as data, the first of which begins on the first of these lines
abbrev pub told : List ℕ → List Stmt → List Data
told lines [] = []
told lines (s ∷ ss) = statement_data lines (statement_of s) ∷ told (drop (count_with_parts (statement_of s)) lines) ss

pub told_all : (lines : List ℕ) (ss : List Stmt) → items_of (told lines ss) ≡ statements_data lines (statements_of ss)
told_all lines [] = refl
told_all lines (s ∷ ss) =
    ap (λ (ds : Items). item (statement_data lines (statement_of s)) ds) (told_all (drop (count_with_parts (statement_of s)) lines) ss)

-- the lines behind an `if` are those behind its parts
pub parts_left : (a b : ℕ) (lines : List ℕ) → drop b (drop a (drop 1 lines)) ≡ drop (1 + a + b) lines
parts_left a b lines =
    let same : 1 + (a + b) ≡ 1 + a + b = omega arith in
    drop-drop b a (drop 1 lines) ∙ drop-drop (a + b) 1 lines ∙ ap (λ (n : ℕ). drop n lines) same

pub when_ok : {X E : Type 0} (r : Result X E) (A : Type 0) → A → OnOk r A
when_ok (Ok x) A a = a
when_ok (Err e) A a = tt
