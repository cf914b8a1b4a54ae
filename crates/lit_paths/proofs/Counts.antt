-- Counting walks and accesses, capped at a limit.
use Rattle.std.proofs.Common.{◌≡◌, ℕ, ◌+◌, ◌*◌, ◌<◌, ◌≤◌, List, length, get_or, drop, arith, sym, ap, ◌∙◌, ⊎_elim, mul_assoc, mul-le-mul, min}
use Rattle.std.proofs.lemmas.Bool.{cases_lt}
use Rattle.lit_syntax.specs.declared.syntax.Stmt.{Stmt}
use Rattle.lit_syntax.specs.Syntax.{Statements}
use Rattle.lit_syntax.specs.Litmus.{statement_of, statements_of}
use Rattle.lit_paths.specs.Path.{walks_of, statement_walks}
use Rattle.lit_paths.specs.Internal.Walks.{longest, statement_longest}
use Rattle.lit_paths.proofs.Parts.{statements_left, statements_end}
use Rattle.lit_paths.proofs.Walks.{length-walks_of, walks_of-some, statement_walks-some}

min-high : (x k : ℕ) → k ≤ x → min x k ≡ k
min-high x k h = omega arith

min-low : (x k : ℕ) → x ≤ k → min x k ≡ x
min-low x k h = omega arith

capped_product : (k p b : ℕ) → 1 ≤ b → min (min p k * b) k ≡ min (p * b) k
capped_product k p b some =
    ⊎_elim
    (λ low. ap (λ m. min (m * b) k) (min-low p k (omega (arith, low))))
    (λ high.
    let first : k * 1 ≤ k * b = mul-le-mul (let le : k ≤ k = omega arith in le) some in
    let second : p * 1 ≤ p * b = mul-le-mul (let le : p ≤ p = omega arith in le) some in
    ap (λ m. min (m * b) k) (min-high p k high) ∙ min-high (k * b) k (omega (arith, first)) ∙ sym (min-high (p * b) k (omega (arith, second, high))))
    (cases_lt p k)

-- a factor that is capped at k changes nothing
pub capped_factor : (k a s b : ℕ) → 1 ≤ a → 1 ≤ s → 1 ≤ b → min (min (a * min s k) k * b) k ≡ min (a * (s * b)) k
capped_factor k a s b one some more =
    ⊎_elim
    (λ low. ap (λ m. min (min (a * m) k * b) k) (min-low s k (omega (arith, low))) ∙ capped_product k (a * s) b more ∙ ap (λ n. min n k) (mul_assoc a s b))
    (λ high.
    let first : 1 * k ≤ a * k = mul-le-mul one (let le : k ≤ k = omega arith in le) in
    let second : s * 1 ≤ s * b = mul-le-mul (let le : s ≤ s = omega arith in le) more in
    let third : 1 * (s * b) ≤ a * (s * b) = mul-le-mul one (let le : s * b ≤ s * b = omega arith in le) in
    let fourth : k * 1 ≤ k * b = mul-le-mul (let le : k ≤ k = omega arith in le) more in
    ap (λ m. min (min (a * m) k * b) k) (min-high s k high)
    ∙ ap (λ m. min (m * b) k) (min-high (a * k) k (omega (arith, first)))
    ∙ min-high (k * b) k (omega (arith, fourth)) ∙ sym (min-high (a * (s * b)) k (omega (arith, second, third, high))))
    (cases_lt s k)

-- how many walks the statements that are left have
abbrev pub left_count : List Stmt → ℕ → ℕ
left_count xs i = length (walks_of (statements_of (drop i xs)))

-- what is counted, with what is left, is the whole
pub record IsCounted (k : ℕ) (xs : List Stmt) (i count : ℕ) : Type 0 where
  pub some : 1 ≤ count
  pub few : count ≤ k
  pub whole : min (count * left_count xs i) k ≡ min (length (walks_of (statements_of xs))) k

pub counted_none : (k : ℕ) (xs : List Stmt) → 1 ≤ k → IsCounted k xs 0 1
counted_none k xs one = record { some = omega arith; few = one; whole = ap (λ n. min n k) (omega arith) }

pub left_more : (xs : List Stmt) (i : ℕ) (x : Stmt) → i < length xs → x ≡ get_or xs i x
    → left_count xs i ≡ length (statement_walks (statement_of x)) * left_count xs (i + 1)
left_more xs i x inside is =
    ap (λ (ss : Statements). length (walks_of ss)) (statements_left xs i x inside is) ∙ length-walks_of (statement_of x) (statements_of (drop (i + 1) xs))

pub counted_more : (k : ℕ) (xs : List Stmt) (i : ℕ) (x : Stmt) (count ways next : ℕ) → 1 ≤ k → i < length xs → x ≡ get_or xs i x
    → ways ≡ min (length (statement_walks (statement_of x))) k → next ≡ min (count * ways) k → IsCounted k xs i count → IsCounted k xs (i + 1) next
counted_more k xs i x count ways next one inside is counted put before =
    let s : ℕ = length (statement_walks (statement_of x)) in
    let rest : ℕ = left_count xs (i + 1) in
    let some : 1 ≤ s = statement_walks-some (statement_of x) in
    let later : 1 ≤ rest = walks_of-some (statements_of (drop (i + 1) xs)) in
    let put_more : next ≡ min (count * min s k) k = put ∙ ap (λ w. min (count * w) k) counted in
    let up : 1 * 1 ≤ count * min s k = mul-le-mul before.some (let le : 1 ≤ min s k = omega (arith, some, one) in le) in
    record {
      some = omega (arith, put_more, up, one);
      few = omega (arith, put_more);
      whole = ap (λ n. min (n * rest) k) put_more ∙ capped_factor k count s rest before.some some later
          ∙ ap (λ n. min (count * n) k) (sym (left_more xs i x inside is)) ∙ before.whole;
    }

pub counted_end : (k : ℕ) (xs : List Stmt) (i count : ℕ) → length xs ≤ i → IsCounted k xs i count → count ≡ min (length (walks_of (statements_of xs))) k
counted_end k xs i count past is =
    let one : left_count xs i ≡ 1 = ap (λ (ss : Statements). length (walks_of ss)) (statements_end xs i past) in
    let whole : min (count * 1) k ≡ min (length (walks_of (statements_of xs))) k = ap (λ n. min (count * n) k) (sym one) ∙ is.whole in
    omega (arith, whole, is.few)

-- ---- the longest walk
abbrev pub IsMeasured : ℕ → List Stmt → ℕ → ℕ → Type 0
IsMeasured k xs i count = min (count + longest (statements_of (drop i xs))) k ≡ min (longest (statements_of xs)) k

pub measured_more : (k : ℕ) (xs : List Stmt) (i : ℕ) (x : Stmt) (count way next : ℕ) → i < length xs → x ≡ get_or xs i x
    → way ≡ min (statement_longest (statement_of x)) k → next ≡ min (count + way) k → IsMeasured k xs i count → IsMeasured k xs (i + 1) next
measured_more k xs i x count way next inside is measured put before =
    let left : longest (statements_of (drop i xs)) ≡ statement_longest (statement_of x) + longest (statements_of (drop (i + 1) xs)) = ap longest (statements_left xs i x inside is) in
    omega (arith, left, measured, put, before)

pub measured_end : (k : ℕ) (xs : List Stmt) (i count : ℕ) → length xs ≤ i → count ≤ k → IsMeasured k xs i count → count ≡ min (longest (statements_of xs)) k
measured_end k xs i count past few is =
    let none : longest (statements_of (drop i xs)) ≡ 0 = ap longest (statements_end xs i past) in
    omega (arith, none, few, is)
