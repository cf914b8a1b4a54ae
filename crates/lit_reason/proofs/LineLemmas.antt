-- What is left of a text whose last line is removed byte by byte.
use Rattle.std.proofs.Common.{◌≡◌, ◌≢◌, ◌+◌, ◌<◌, ◌++◌, ◌∷◌, [], ℕ, zero, suc, List, Option, None, Some, length, slice_get, option_to_list, ap, ◌∙◌, append_assoc, arith}

-- these bytes stood behind what is left, one at least where there was one, and a byte 10 stands in them at the end alone
pub record IsCutOff (text left : List ℕ) : Type 0 where
  pub rest : List ℕ
  pub parts : text ≡ left ++ rest
  pub some : 0 < length text → 0 < length rest
  pub one_line : (i : ℕ) → i + 1 < length rest → slice_get rest i ≢ Some 10

-- one more byte, which is no 10
pub cut_more : (text left next : List ℕ) (last : Option ℕ) → IsCutOff text left → left ≡ next ++ option_to_list last → (last ≢ Some 10) → IsCutOff text next
cut_more text left next None cut is unlike = record { rest = cut.rest; parts = cut.parts ∙ ap (λ l. l ++ cut.rest) is ∙ append_assoc next [] cut.rest; some = cut.some; one_line = cut.one_line }
cut_more text left next (Some b) cut is unlike = record {
  rest = b ∷ cut.rest;
  parts = cut.parts ∙ ap (λ l. l ++ cut.rest) is ∙ append_assoc next (b ∷ []) cut.rest;
  some = λ few. omega arith;
  one_line = at;
}
  where
    at : (i : ℕ) → i + 1 < length (b ∷ cut.rest) → slice_get (b ∷ cut.rest) i ≢ Some 10
    at zero few there = unlike there
    at (suc i) few there = cut.one_line i (omega (arith, few)) there
