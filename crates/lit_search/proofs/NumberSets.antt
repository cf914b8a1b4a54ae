-- Sets of numbers as predicates: ranges, and unions. For this crate and those above it.
use Rattle.lit_search.proofs.Words.{◌<◌, and_from, and_parts, Bool, false, in_range, inl, inr, IsTrue, le-leb, leb-true, lt-ltb, ltb-true}
use Rattle.lit_search.proofs.Words.{nat_le, nat_lt, refl, sym, true, ◌||◌, ℕ, ◌≡◌, ◌≤◌, ◌⊎◌}

pub either_cases : (a b : Bool) → IsTrue (a || b) → IsTrue a ⊎ IsTrue b
either_cases true b p = inl refl
either_cases false b p = inr p

pub within : (from to n : ℕ) → from ≤ n → n < to → IsTrue (in_range from to n)
within from to n low high = and_from (nat_le from n) (nat_lt n to) (le-leb from n low) (lt-ltb n to high)

pub not_below : (from to n : ℕ) → IsTrue (in_range from to n) → from ≤ n
not_below from to n h = leb-true from n (and_parts (nat_le from n) (nat_lt n to) h).0

pub before_end : (from to n : ℕ) → IsTrue (in_range from to n) → n < to
before_end from to n h = ltb-true n to (and_parts (nat_le from n) (nat_lt n to) h).1

-- two predicates that imply each other
pub same_test : (a b : Bool) → (IsTrue a → IsTrue b) → (IsTrue b → IsTrue a) → a ≡ b
same_test true b f g = sym (f refl)
same_test false true f g = absurd (let e = g refl in cc)
same_test false false f g = refl
