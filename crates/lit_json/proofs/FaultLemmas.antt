-- The text of a fault begins with its number.
use Rattle.std.proofs.Common.{◌≡◌, ◌<◌, ◌+◌, ◌/◌, ◌%◌, ◌++◌, ◌∷◌, [], ◌∙◌, ℕ, List, codes, ap, sym, arith}
use Rattle.std.specs.Fmt.{decimal}
use Rattle.std.proofs.lemmas.Fmt.{decimal_digit, decimal_step}

-- a number of one digit
pub below_ten : (n : ℕ) → n < 10 → (word : List ℕ) → (48 + n) ∷ 32 ∷ word ≡ decimal n ++ codes " " ++ word
below_ten n small word = ap (λ ds. ds ++ codes " " ++ word) (sym (decimal_digit n small))

-- ten and a number of one digit
pub teen : (n : ℕ) → n < 10 → (word : List ℕ) → 49 ∷ (48 + n) ∷ 32 ∷ word ≡ decimal (10 + n) ++ codes " " ++ word
teen n small word =
    let tens : (10 + n) / 10 ≡ 1 = omega arith in
    let ones : (10 + n) % 10 ≡ n = omega arith in
    let step = decimal_step (10 + n) (omega arith) (omega arith) in
    sym (ap (λ ds. ds ++ codes " " ++ word) (step ∙ ap (λ m. decimal m ++ (48 + (10 + n) % 10) ∷ []) tens ∙ ap (λ ds. ds ++ (48 + (10 + n) % 10) ∷ []) (decimal_digit 1 (omega arith)) ∙ ap (λ m. 49 ∷ (48 + m) ∷ []) ones))
