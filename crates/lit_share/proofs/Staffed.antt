-- The workers of a search, as they begin and as their calls leave them.
use Rattle.std.proofs.Common.{◌≡◌, ◌++◌, ◌∙◌, ℕ, List, length, take, drop, ap, refl, sym, subst}
use Rattle.std.proofs.Math.ListN.{replicate}
use Rattle.std.proofs.Math.Seq.{take-append_seam}
use Rattle.std.proofs.lemmas.List.Elements.{All-replicate}
use Rattle.std.specs.Prelude.{All}

-- each member of a list of copies is the copy
pub all_copies : {X : Type 0} (n : ℕ) (x : X) (xs : List X) → xs ≡ replicate n x → All (λ y. y ≡ x) xs
all_copies {X} n x xs is = subst (λ (ys : List X). All (λ y. y ≡ x) ys) (sym is) (All-replicate (λ y. y ≡ x) n x refl)

-- a list over which another was written whole is that other
written_over : {X : Type 0} (old new : List X) (n : ℕ) → n ≡ length new → take n (new ++ drop (length new) old) ≡ new
written_over old new n whole = ap (λ (k : ℕ). take k (new ++ drop (length new) old)) whole ∙ take-append_seam new (drop (length new) old)

pub length_over : {X : Type 0} (old new : List X) (n : ℕ) → n ≡ length new → length (take n (new ++ drop (length new) old)) ≡ n
length_over old new n whole = ap length (written_over old new n whole) ∙ sym whole

pub all_over : {X : Type 0} (P : X → Type 0) (old new : List X) (n : ℕ) → n ≡ length new → All P new
    → All P (take n (new ++ drop (length new) old))
all_over P old new n whole all = subst (All P) (sym (written_over old new n whole)) all
