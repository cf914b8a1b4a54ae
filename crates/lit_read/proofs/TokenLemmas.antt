-- Runs of bytes and the numbers that digits stand for.
use Rattle.std.proofs.Common.{◌≡◌, ℕ, suc, ◌+◌, ◌<◌, Bool, true, false, cond, List, [], ◌∷◌, take, get_or, refl, arith, inl, inr}
use Rattle.std.specs.List.{list_all, prefix_len}
use Rattle.std.specs.Str.{IsUtf8}
use Rattle.std.proofs.lemmas.Str.{IsUtf8-from_ascii}
use Rattle.std.proofs.lemmas.Bool.{cases_lt}
use Rattle.std.proofs.lemmas.Bool.Decides.{nat_tests}
use Rattle.std.proofs.lemmas.List.{get_or_past, get_or-take}
use Rattle.std.proofs.lemmas.List.Sums.{prefix_len_passes}
use Rattle.std.proofs.lemmas.List.Folds.{length-prefix_len}
use Rattle.lit_syntax.specs.Tokens.{is_in_word}

word_byte_small : (b : ℕ) → is_in_word b ≡ true → b < 128
word_byte_small b h = grind (arith, nat_tests)

pub word_utf8 : (bytes : List ℕ) → IsUtf8 (take (prefix_len is_in_word bytes) bytes)
word_utf8 bytes = IsUtf8-from_ascii (take (prefix_len is_in_word bytes) bytes) (λ i. elim (cases_lt i (prefix_len is_in_word bytes)) [
  | inl lt ↦ rw (get_or-take (prefix_len is_in_word bytes) bytes i 0 lt) (word_byte_small (get_or bytes i 0) (prefix_len_passes is_in_word bytes i 0 lt))
  | inr le ↦ rw (get_or_past (take (prefix_len is_in_word bytes) bytes) i 0 (omega (arith, length-prefix_len is_in_word bytes))) (omega arith)
])

pub run_passes : (p : ℕ → Bool) (bytes : List ℕ) → list_all p (take (prefix_len p bytes) bytes) ≡ true
run_passes p [] = refl
run_passes p (b ∷ bs) = by (p b) refl (run_passes p bs)
  where
    by : (t : Bool) → p b ≡ t → list_all p (take (prefix_len p bs) bs) ≡ true → list_all p (take (cond t (1 + prefix_len p bs) 0) (b ∷ bs)) ≡ true
    by true e h = let one : 1 + prefix_len p bs ≡ suc (prefix_len p bs) = omega arith in rw (one, e) h
    by false e h = refl
