-- When two ranges of bytes are the same set.
use Rattle.std.proofs.Common.{◌≡◌, ◌↔◌, ℕ, ◌+◌, ◌-◌, ◌<◌, ◌≤◌, ◌≢◌, arith, inl, inr}
use Rattle.std.proofs.lemmas.Bool.{cases_eq}

-- a byte is in the range of `size` bytes that begins at `first`
abbrev pub InRange : ℕ → ℕ → ℕ → Type 0
InRange first size b = (first ≤ b) × (b < first + size)

abbrev pub AreSame : ℕ → ℕ → ℕ → ℕ → Type 0
AreSame f s g t = (b : ℕ) → InRange f s b ↔ InRange g t b

pub AreSame-empty : (f s g t : ℕ) → s ≡ 0 → t ≡ 0 → AreSame f s g t
AreSame-empty f s g t hs ht b = (λ h. absurd (omega arith), λ h. absurd (omega arith))

pub AreSame-equal : (f s g t : ℕ) → f ≡ g → s ≡ t → AreSame f s g t
AreSame-equal f s g t hf hs b = (λ h. (omega arith, omega arith), λ h. (omega arith, omega arith))

pub empty_from_AreSame : (f s g t : ℕ) → s ≡ 0 → AreSame f s g t → t ≡ 0
empty_from_AreSame f s g t hs same =
    elim (cases_eq t 0) [
      | inl h ↦ h
      | inr h ↦
          let at_g : InRange f s g = (same g).1 (omega arith, omega arith) in
          absurd (omega arith)
    ]

pub first_from_AreSame : (f s g t : ℕ) → s ≢ 0 → AreSame f s g t → (f ≡ g) × (s ≡ t)
first_from_AreSame f s g t hs same =
    let at_f : InRange g t f = (same f).0 (omega arith, omega arith) in
    let at_g : InRange f s g = (same g).1 (omega arith, omega arith) in
    let at_f_end : InRange g t (f + s - 1) = (same (f + s - 1)).0 (omega arith, omega arith) in
    let at_g_end : InRange f s (g + t - 1) = (same (g + t - 1)).1 (omega arith, omega arith) in
    (omega arith, omega arith)
