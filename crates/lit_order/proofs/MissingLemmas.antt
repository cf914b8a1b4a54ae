-- How many pairs a relation on the events below n has not: fewer, when one is put in.
use Rattle.std.proofs.Common.{◌≡◌, ℕ, ◌+◌, ◌*◌, ◌/◌, ◌%◌, ◌<◌, ◌≤◌, suc, zero, Bool, true, false, cond, arith, inl, inr}
use Rattle.std.proofs.lemmas.Bool.{cases_eq}
use Rattle.std.proofs.lemmas.Nat.{div-mul-add, mod-mul-add, mul-add-lt}

-- how many numbers below n fail a test
pub failing : (ℕ → Bool) → ℕ → ℕ
failing test zero = 0
failing test (suc n) = cond (test n) (failing test n) (suc (failing test n))

step-le : (b c : Bool) (x y : ℕ) → (b ≡ true → c ≡ true) → x ≤ y → cond c x (suc x) ≤ cond b y (suc y)
step-le b c x y h le = grind arith

step-lt : (b c : Bool) (x y : ℕ) → (b ≡ true → c ≡ true) → x < y → cond c x (suc x) < cond b y (suc y)
step-lt b c x y h less = grind arith

module _ (test more : ℕ → Bool) (h : (k : ℕ) → test k ≡ true → more k ≡ true) where
  failing-le : (n : ℕ) → failing more n ≤ failing test n
  unfolding failing
  failing-le zero = omega arith
  failing-le (suc n) = step-le (test n) (more n) (failing more n) (failing test n) (h n) (failing-le n)

  failing-lt : (n i : ℕ) → i < n → test i ≡ false → more i ≡ true → failing more n < failing test n
  unfolding failing
  failing-lt zero i within was is = absurd (omega arith)
  failing-lt (suc n) i within was is =
      elim (cases_eq i n) [
        | inl same ↦ let was_n = rw same at was in let is_n = rw same at is in rw (was_n, is_n) (omega (arith, failing-le n))
        | inr other ↦ step-lt (test n) (more n) (failing more n) (failing test n) (h n) (failing-lt n i (omega arith) was is)
      ]

-- the pairs that fail the test
pub missing : (ℕ → ℕ → Bool) → ℕ → ℕ
missing test n = failing (λ k. test (k / n) (k % n)) (n * n)

module _ (test more : ℕ → ℕ → Bool) (n : ℕ) (h : (a d : ℕ) → test a d ≡ true → more a d ≡ true) where
  pub missing-le : missing more n ≤ missing test n
  unfolding missing
  missing-le = failing-le (λ k. test (k / n) (k % n)) (λ k. more (k / n) (k % n)) (λ k. h (k / n) (k % n)) (n * n)

  pub missing-lt : (a d : ℕ) → a < n → d < n → test a d ≡ false → more a d ≡ true → missing more n < missing test n
  unfolding missing
  missing-lt a d in_a in_d was is =
      failing-lt (λ k. test (k / n) (k % n)) (λ k. more (k / n) (k % n)) (λ k. h (k / n) (k % n)) (n * n) (a * n + d) (mul-add-lt a n d n in_a in_d)
      (rw (div-mul-add a n d in_d, mod-mul-add a n d in_d) was) (rw (div-mul-add a n d in_d, mod-mul-add a n d in_d) is)
