-- Sets of events as words: after an event is put in, of two sets together, sets of no event, and sets within another.
use Rattle.std.proofs.Common.{◌≡◌, ◌≢◌, ◌⊎◌, ℕ, ◌-◌, ◌*◌, ◌^◌, ◌%◌, ◌<◌, ◌≤◌, List, [], ◌∷◌, get_or, replicate, bit_or, inl, inr, arith, refl, subst, sym, suc, zero}
use Rattle.std.proofs.lemmas.Nat.Bits.{bit_at_or, bit_at_and, bit_at_xor, bit_at-lt, bit_at-zero, bit_at-pow_same, bit_at-pow_other, bit_at-trailing_zeros, bit_at_ones, bit_at_ones_above, same_from_bits}
use Rattle.std.proofs.lemmas.Bool.{cases_eq, cases_lt}
use Rattle.std.proofs.lemmas.Nat.{le_or_l, one_shl}
use Rattle.std.specs.Int.{bit_at}
use Rattle.lit_rel.specs.declared.event_set.EventSet.{EventSet}
use Rattle.lit_rel.specs.EventSet.{AreWithin, HasEvent, IsSplit, no_events}

-- one bit, and all bits below one, as the code computes them
pub shifted_bit : (k i : ℕ) → k < 64 → ((bit_at (1 * 2 ^ k % 2 ^ 64) i ≡ 1) × (i ≡ k)) ⊎ ((bit_at (1 * 2 ^ k % 2 ^ 64) i ≡ 0) × (i ≢ k))
shifted_bit k i within =
    rw (one_shl k 64 within) (elim (cases_eq i k) [ inl same ↦ inl (rw same (bit_at-pow_same k), same) | inr other ↦ inr (bit_at-pow_other k i other, other) ])

pub ones_bit : (k i : ℕ) → k < 64 → ((bit_at (1 * 2 ^ k % 2 ^ 64 - 1) i ≡ 1) × (i < k)) ⊎ ((bit_at (1 * 2 ^ k % 2 ^ 64 - 1) i ≡ 0) × (k ≤ i))
ones_bit k i within = rw (one_shl k 64 within) (elim (cases_lt i k) [ inl low ↦ inl (bit_at_ones k i low, low) | inr high ↦ inr (bit_at_ones_above k i high, high) ])

-- bits of words that are computed from others
pub ruleset bits = (bit_at_or, bit_at_and, bit_at_xor, bit_at-lt, bit_at-zero, shifted_bit, ones_bit)

pub zero_from_none : (word : ℕ) → ((k : ℕ) → bit_at word k ≡ 1 → ⊥) → word ≡ 0
zero_from_none word none = same_from_bits word 0 (λ k. grind (arith, none k, bit_at-lt word k, bit_at-zero k))

pub or_from_within : (a b : ℕ) → ((k : ℕ) → bit_at a k ≡ 1 → bit_at b k ≡ 1) → bit_or a b ≡ b
or_from_within a b within = same_from_bits (bit_or a b) b (λ k. grind (arith, within k, bit_at_or a b k, bit_at-lt a k, bit_at-lt b k))

-- without its least event a set is a lesser number
pub split_less : (s : EventSet) (event : ℕ) (others : EventSet) → IsSplit s event others → others.bits < s.bits
split_less s event others split =
    let joined : bit_or others.bits s.bits ≡ s.bits = or_from_within others.bits s.bits (λ k h. ((split.rest k).0 h).0) in
    let at_most : others.bits ≤ bit_or others.bits s.bits = le_or_l others.bits s.bits in
    let apart : others.bits ≡ s.bits → ⊥ = λ same. ((split.rest event).0 (subst (λ (w : ℕ). bit_at w event ≡ 1) (sym same) split.there)).1 refl in
    omega arith

-- a set within another is no greater number
pub within_le : (s other : EventSet) → ((e : ℕ) → HasEvent s e → HasEvent other e) → s.bits ≤ other.bits
within_le s other within =
    let joined : bit_or s.bits other.bits ≡ other.bits = or_from_within s.bits other.bits within in
    let at_most : s.bits ≤ bit_or s.bits other.bits = le_or_l s.bits other.bits in
    omega arith

pub split_less_yet : (s : EventSet) (event : ℕ) (others fewer : EventSet) → IsSplit s event others → ((e : ℕ) → HasEvent fewer e → HasEvent others e) → fewer.bits < s.bits
split_less_yet s event others fewer split within =
    let less : others.bits < s.bits = split_less s event others split in
    let at_most : fewer.bits ≤ others.bits = within_le fewer others within in
    omega arith

-- an event is in a set, or not
pub event_or_not : (s : EventSet) (e : ℕ) → HasEvent s e ⊎ ¬ HasEvent s e
event_or_not s e = elim (cases_eq (bit_at s.bits e) 1) [ inl in_set ↦ inl in_set | inr not_in ↦ inr not_in ]

-- every set of the list is of no event
abbrev pub AreEmpty : List EventSet → Type 0
AreEmpty [] = Unit {0}
AreEmpty (s ∷ ss) = (s.bits ≡ 0) × AreEmpty ss

-- n empty sets
pub AreEmpty-replicate : (n : ℕ) (s : EventSet) → s.bits ≡ 0 → AreEmpty (replicate n s)
AreEmpty-replicate zero s none = tt
AreEmpty-replicate (suc n) s none = (none, AreEmpty-replicate n s none)

get_or-empty : (ss : List EventSet) → AreEmpty ss → (k : ℕ) → (get_or ss k no_events).bits ≡ 0
get_or-empty [] e k = refl
get_or-empty (s ∷ ss) e zero = e.0
get_or-empty (s ∷ ss) e (suc k) = get_or-empty ss e.1 k

pub HasEvent-none : (ss : List EventSet) → AreEmpty ss → (a d : ℕ) → HasEvent (get_or ss a no_events) d → ⊥
HasEvent-none ss e a d h = absurd (omega (arith, h, bit_at-zero d, rw (get_or-empty ss e a) at h))

-- the sets of events below n alone, at first
pub AreWithin-none : (n : ℕ) (ss : List EventSet) → AreEmpty ss → AreWithin n ss
AreWithin-none n ss e = record { first_known = λ a d h. absurd (HasEvent-none ss e a d h); second_known = λ a d h. absurd (HasEvent-none ss e a d h) }
