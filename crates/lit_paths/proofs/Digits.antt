-- Which members a number takes out of the lists of a product.
use Rattle.std.proofs.Common.{◌≡◌, ℕ, zero, suc, ◌+◌, ◌*◌, ◌/◌, ◌%◌, ◌<◌, List, [], ◌∷◌, length, drop, slice_get, Some, arith, sym, ap, ◌∙◌, mul_assoc}
use Rattle.std.proofs.Math.Nat.{mul-add-div_right, mul-add-mod_self_right}
use Rattle.std.proofs.lemmas.Nat.{div-mul-add, mod-mul-add}
use Rattle.std.proofs.lemmas.Option.{slice_get_within}
use Rattle.lit_paths.specs.Choice.{product}
use Rattle.lit_paths.proofs.Products.{length-product, fronted-known, factors-positive}

-- the number of members of the product of the lists after one
abbrev pub later_ways : {A : Type 0} → List (List A) → ℕ → ℕ
later_ways xss i = length (product (drop (suc i) xss))

-- the ways of one list, of those before it and of those after it
pub ways_split : {A : Type 0} (xss : List (List A)) (i : ℕ) (xs : List A) → slice_get xss i ≡ Some xs
    → (k : ℕ) × (length (product xss) ≡ k * (length xs * later_ways xss i))
ways_split [] i xs at = cc
ways_split (ys ∷ rest) zero xs at =
    let same : ys ≡ xs = cc in
    (1, length-product ys rest ∙ ap (λ zs. length zs * length (product rest)) same ∙ omega arith)
ways_split (ys ∷ rest) (suc i) xs at =
    let later = ways_split rest i xs at in
    (length ys * later.0, length-product ys rest ∙ ap (λ n. length ys * n) later.1 ∙ sym (mul_assoc (length ys) later.0 (length xs * later_ways rest i)))

pub small_mod : (a m : ℕ) → a < m → a % m ≡ a
small_mod a m h = ap (λ n. n % m) (let e : a ≡ 0 * m + a = omega arith in e) ∙ mod-mul-add 0 m a h

-- the member of one list, in the choice of members with a number
pub digit : {A : Type 0} (xss : List (List A)) (n i : ℕ) (ys xs : List A) → slice_get (product xss) n ≡ Some ys → slice_get xss i ≡ Some xs
    → slice_get ys i ≡ slice_get xs ((n / later_ways xss i) % length xs)
digit [] n i ys xs at here = cc
digit (us ∷ rest) n zero ys xs at here =
    let same : us ≡ xs = cc in
    let from = fronted-known (product rest) us n ys at in
    let index : n / length (product rest) ≡ from.index = ap (λ m. m / length (product rest)) from.at ∙ div-mul-add from.index (length (product rest)) from.place from.within in
    ap (λ l. slice_get l 0) from.whole ∙ sym from.here
    ∙ ap (λ k. slice_get us k) (sym (ap (λ m. m % length us) index ∙ small_mod from.index (length us) (slice_get_within us from.index from.first from.here)))
    ∙ ap (λ zs. slice_get zs ((n / length (product rest)) % length zs)) same
digit (us ∷ rest) n (suc i) ys xs at here =
    let from = fronted-known (product rest) us n ys at in
    let later = later_ways rest i in
    let m : ℕ = length xs in
    let split = ways_split rest i xs here in
    let k : ℕ = split.0 in
    let whole : length (product rest) ≡ (k * m) * later = split.1 ∙ sym (mul_assoc k m later) in
    let inside : from.place < (k * m) * later = omega (arith, from.within, whole) in
    let some : 0 < later = (factors-positive (k * m) later from.place inside).1 in
    let far : n ≡ (from.index * (k * m)) * later + from.place = from.at ∙ ap (λ l. from.index * l + from.place) whole ∙ ap (λ l. l + from.place) (sym (mul_assoc from.index (k * m) later)) in
    let index : n / later ≡ from.index * (k * m) + from.place / later = ap (λ x. x / later) far ∙ mul-add-div_right some (from.index * (k * m)) from.place in
    let same : (n / later) % m ≡ (from.place / later) % m =
    ap (λ x. x % m) (index ∙ ap (λ l. l + from.place / later) (sym (mul_assoc from.index k m))) ∙ mul-add-mod_self_right (from.index * k) m (from.place / later) in
    ap (λ l. slice_get l (suc i)) from.whole ∙ digit rest from.place i from.others xs from.there here ∙ ap (λ j. slice_get xs j) (sym same)
