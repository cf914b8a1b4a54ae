-- How many events below n a set has not.
use Rattle.std.proofs.Common.{◌≡◌, ℕ, ◌<◌, ◌≤◌, suc, zero, Bool, true, false, cond, eqb, eq-eqb, eqb-true, arith, inl, inr}
use Rattle.std.proofs.lemmas.Bool.{cases_eq, false_from_ne_true}
use Rattle.std.specs.Int.{bit_at}
use Rattle.lit_rel.specs.declared.event_set.EventSet.{EventSet}
use Rattle.lit_rel.specs.EventSet.{HasEvent}

pub events_missing : EventSet → ℕ → ℕ
events_missing set zero = 0
events_missing set (suc n) = cond (eqb (bit_at set.bits n) 1) (events_missing set n) (suc (events_missing set n))

step-most : (b : Bool) (x n : ℕ) → x ≤ n → cond b x (suc x) ≤ suc n
step-most b x n h = grind arith

step-le : (b c : Bool) (x y : ℕ) → (b ≡ true → c ≡ true) → x ≤ y → cond c x (suc x) ≤ cond b y (suc y)
step-le b c x y h le = grind arith

step-lt : (b c : Bool) (x y : ℕ) → (b ≡ true → c ≡ true) → x < y → cond c x (suc x) < cond b y (suc y)
step-lt b c x y h less = grind arith

step-some : (b : Bool) (x : ℕ) → 0 < x → 0 < cond b x (suc x)
step-some b x h = grind arith

tested : (set more : EventSet) (n : ℕ) → ((e : ℕ) → HasEvent set e → HasEvent more e) → eqb (bit_at set.bits n) 1 ≡ true → eqb (bit_at more.bits n) 1 ≡ true
tested set more n within h = eq-eqb (bit_at more.bits n) 1 (within n (eqb-true (bit_at set.bits n) 1 h))

lacking : (set : EventSet) (e : ℕ) → ¬ HasEvent set e → eqb (bit_at set.bits e) 1 ≡ false
lacking set e lacks = false_from_ne_true (eqb (bit_at set.bits e) 1) (λ h. lacks (eqb-true (bit_at set.bits e) 1 h))

pub missing-most : (set : EventSet) (n : ℕ) → events_missing set n ≤ n
unfolding events_missing
missing-most set zero = omega arith
missing-most set (suc n) = step-most (eqb (bit_at set.bits n) 1) (events_missing set n) n (missing-most set n)

missing-le : (set more : EventSet) (n : ℕ) → ((e : ℕ) → HasEvent set e → HasEvent more e) → events_missing more n ≤ events_missing set n
unfolding events_missing
missing-le set more zero within = omega arith
missing-le set more (suc n) within =
    step-le (eqb (bit_at set.bits n) 1) (eqb (bit_at more.bits n) 1) (events_missing more n) (events_missing set n) (tested set more n within) (missing-le set more n within)

-- one is missing
pub missing-some : (set : EventSet) (n e : ℕ) → e < n → ¬ HasEvent set e → 0 < events_missing set n
unfolding events_missing
missing-some set zero e known lacks = absurd (omega arith)
missing-some set (suc n) e known lacks =
    elim (cases_eq e n) [
      | inl same ↦ let was = rw same at (lacking set e lacks) in rw was (omega arith)
      | inr other ↦ step-some (eqb (bit_at set.bits n) 1) (events_missing set n) (missing-some set n e (omega arith) lacks)
    ]

-- one more is there
pub missing-fewer : (set more : EventSet) (n e : ℕ) → ((d : ℕ) → HasEvent set d → HasEvent more d) → e < n → ¬ HasEvent set e → HasEvent more e
    → events_missing more n < events_missing set n
unfolding events_missing
missing-fewer set more zero e within known lacks has = absurd (omega arith)
missing-fewer set more (suc n) e within known lacks has =
    elim (cases_eq e n) [
      | inl same ↦
          let was = rw same at (lacking set e lacks) in
          let is = rw same at (eq-eqb (bit_at more.bits e) 1 has) in
          rw (was, is) (omega (arith, missing-le set more n within))
      | inr other ↦ step-lt (eqb (bit_at set.bits n) 1) (eqb (bit_at more.bits n) 1) (events_missing more n) (events_missing set n) (tested set more n within)
          (missing-fewer set more n e within (omega arith) lacks has)
    ]
