-- Lists that grow at their ends.
use Rattle.std.proofs.Common.{◌≡◌, ℕ, suc, ◌<◌, ◌≤◌, List, [], ◌∷◌, ◌++◌, length, drop, max, sym, ap, ◌∙◌, arith, append_assoc}
use Rattle.std.specs.Prelude.{All}
use Rattle.std.proofs.Math.Seq.{drop-append_seam, drop-length}
use Rattle.std.proofs.lemmas.List.{append-nil}
use Rattle.std.proofs.lemmas.List.Elements.{All-head, All-tail}
use Rattle.lit_share.specs.Drawn.{since}

-- ---- what stands behind an earlier list
pub since_none : (xs : List ℕ) → xs ≡ xs ++ since xs xs
since_none xs = sym (ap (λ l. xs ++ l) (drop-length xs) ∙ append-nil xs)

pub since_more : (xs ys zs : List ℕ) → ys ≡ xs ++ since xs ys → since xs (ys ++ zs) ≡ since xs ys ++ zs
since_more xs ys zs h = ap (drop (length xs)) (ap (λ l. l ++ zs) h ∙ append_assoc xs (since xs ys) zs) ∙ drop-append_seam xs (since xs ys ++ zs)

pub grown_more : (xs ys zs : List ℕ) → ys ≡ xs ++ since xs ys → ys ++ zs ≡ xs ++ since xs (ys ++ zs)
grown_more xs ys zs h = ap (λ l. l ++ zs) h ∙ append_assoc xs (since xs ys) zs ∙ ap (λ l. xs ++ l) (sym (since_more xs ys zs h))

-- ---- the least number above all of a list
abbrev pub above : List ℕ → ℕ
above [] = 0
above (x ∷ xs) = max (suc x) (above xs)

pub above_least : (xs : List ℕ) (n : ℕ) → All (λ m. m < n) xs → above xs ≤ n
above_least [] n all = omega arith
above_least (x ∷ xs) n all = omega (arith, All-head (λ m. m < n) x xs all, above_least xs n (All-tail (λ m. m < n) x xs all))

pub above_last : (xs : List ℕ) (n : ℕ) → n < above (xs ++ n ∷ [])
above_last [] n = omega arith
above_last (x ∷ xs) n = omega (arith, above_last xs n)
