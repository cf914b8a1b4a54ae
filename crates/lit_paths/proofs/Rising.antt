-- Lists that rise strictly: products, and lists joined end to end.
use Rattle.std.proofs.Common.{◌≡◌, ℕ, zero, suc, ◌+◌, ◌-◌, ◌*◌, ◌<◌, List, [], ◌∷◌, ◌++◌, length, map, flat_map, slice_get, Some, Option, option_map, arith, refl, sym, ap, ap₂, ◌∙◌, subst, ⊎_elim, inl, inr, ◌⊎◌, mul-le-mul_right, cond, Bool, ◌==◌}
use Rattle.std.specs.Cmp.Lexicographic.{slice_cmp}
use Rattle.std.specs.Ordering.{nat_cmp, ordering_then}
use Rattle.std.specs.declared.cmp.Ordering.{Ordering}
use Rattle.std.specs.declared.cmp.Ordering.TheVariants.{Less, Equal, Greater}
use Rattle.std.proofs.lemmas.Bool.{cases_order, cases_lt, lt-ltb, le-ltb, eq-eqb}
use Rattle.std.proofs.lemmas.Option.{slice_get_within, slice_get-map}
use Rattle.lit_paths.specs.Choice.{product}
use Rattle.lit_paths.proofs.Products.{slice_get_left, slice_get_right, fronted-known}

-- of two places, the member at the earlier one stands so to the member at the later one
abbrev pub RisesBy : {A : Type 0} → (A → A → Type 0) → List A → Type 0
RisesBy {A} R xs = (i j : ℕ) (a b : A) → i < j → slice_get xs i ≡ Some a → slice_get xs j ≡ Some b → R a b

-- a list rises strictly
abbrev pub Rises : {A : Type 0} → (A → A → Ordering) → List A → Type 0
Rises cmp xs = RisesBy (λ a b. cmp a b ≡ Less) xs

-- where a member of a mapped list comes from
pub slice_get-map-known : {A B : Type 0} (f : A → B) (xs : List A) (k : ℕ) (y : B) → slice_get (map f xs) k ≡ Some y → (x : A) × (slice_get xs k ≡ Some x) × (f x ≡ y)
slice_get-map-known f [] k y at = cc
slice_get-map-known f (x ∷ xs) zero y at = let same : f x ≡ y = cc in (x, refl, same)
slice_get-map-known f (x ∷ xs) (suc k) y at = slice_get-map-known f xs k y at

pub slice_get-map-found : {A B : Type 0} (f : A → B) (xs : List A) (k : ℕ) (x : A) → slice_get xs k ≡ Some x → slice_get (map f xs) k ≡ Some (f x)
slice_get-map-found {A} f xs k x at = slice_get-map f xs k ∙ ap (λ (o : Option A). option_map f o) at

pub map-rises : {A B : Type 0} (R : A → A → Type 0) (S : B → B → Type 0) (f : A → B) (xs : List A) → ((a b : A) → R a b → S (f a) (f b)) → RisesBy R xs → RisesBy S (map f xs)
map-rises {A} {B} R S f xs preserves rises = λ i j a b less here there.
    let first = slice_get-map-known f xs i a here in
    let second = slice_get-map-known f xs j b there in
    let T : B → Type 0 = λ y. S y (f second.0) in
    subst (λ (y : B). S a y) second.2 (subst T first.2 (preserves first.0 second.0 (rises i j first.0 second.0 less first.1 second.1)))

pub append-rises : {A : Type 0} (R : A → A → Type 0) (xs ys : List A) → RisesBy R xs → RisesBy R ys
    → ((i j : ℕ) (a b : A) → slice_get xs i ≡ Some a → slice_get ys j ≡ Some b → R a b) → RisesBy R (xs ++ ys)
append-rises {A} R xs ys first second across = λ i j a b less here there.
    ⊎_elim
    (λ early.
    let a_at : slice_get xs i ≡ Some a = sym (slice_get_left xs ys i early) ∙ here in
    ⊎_elim
    (λ also. first i j a b less a_at (sym (slice_get_left xs ys j also) ∙ there))
    (λ past. across i (j - length xs) a b a_at (sym (slice_get_right xs ys j (j - length xs) (omega (arith, past))) ∙ there))
    (cases_lt j (length xs)))
    (λ past.
    second (i - length xs) (j - length xs) a b (omega (arith, less, past))
    (sym (slice_get_right xs ys i (i - length xs) (omega (arith, past))) ∙ here)
    (sym (slice_get_right xs ys j (j - length xs) (omega (arith, past, less))) ∙ there))
    (cases_lt i (length xs))

pub nat_cmp-less : (a b : ℕ) → a < b → nat_cmp a b ≡ Less
nat_cmp-less a b h = ap (λ (t : Bool). cond t Less (cond (a == b) Equal Greater)) (lt-ltb a b h)

pub nat_cmp-same : (a : ℕ) → nat_cmp a a ≡ Equal
nat_cmp-same a =
    ap₂ (λ (s t : Bool). cond s Less (cond t Equal Greater)) (le-ltb a a (omega arith)) (eq-eqb a a refl)

pub slice_cmp-same : {A : Type 0} (cmp : A → A → Ordering) → ((a : A) → cmp a a ≡ Equal) → (xs : List A) → slice_cmp cmp xs xs ≡ Equal
slice_cmp-same cmp same [] = refl
slice_cmp-same cmp same (x ∷ xs) = ap₂ (λ (s t : Ordering). ordering_then s t) (same x) (slice_cmp-same cmp same xs)

-- of two places in a table, the earlier one is in an earlier row, or earlier in the same row
pub places-in_rows : (n m i j p q long : ℕ) → n ≡ i * long + p → m ≡ j * long + q → p < long → q < long → n < m → (i < j) ⊎ ((i ≡ j) × (p < q))
places-in_rows n m i j p q long first second within inside less =
    ⊎_elim
    (λ same. inr (same, omega (arith, first, second, less, ap (λ k. k * long) same)))
    (λ other. ⊎_elim (λ before. inl before) (λ after.
    absurd (omega (arith, first, second, less, within, inside, mul-le-mul_right {m = j + 1} {n = i} long (omega (arith, after))))) other)
    (cases_order i j)

pub product-rises : {A : Type 0} (cmp : A → A → Ordering) → ((a : A) → cmp a a ≡ Equal) → (xss : List (List A))
    → ((i : ℕ) (xs : List A) → slice_get xss i ≡ Some xs → Rises cmp xs) → Rises (slice_cmp cmp) (product xss)
product-rises {A} cmp same [] each = λ n m ys zs less here there.
    absurd (omega (arith, less, slice_get_within (product {A = A} []) m zs there))
product-rises {A} cmp same (xs ∷ rest) each = λ n m ys zs less here there.
    let from = fronted-known (product rest) xs n ys here in
    let to = fronted-known (product rest) xs m zs there in
    let later : Rises (slice_cmp cmp) (product rest) = product-rises cmp same rest (λ i us h. each (suc i) us h) in
    ap₂ (λ (us vs : List A). slice_cmp cmp us vs) from.whole to.whole
    ∙ ⊎_elim
    (λ before. ap (λ (o : Ordering). ordering_then o (slice_cmp cmp from.others to.others)) (each 0 xs refl from.index to.index from.first to.first before from.here to.here))
    (λ row.
    let here_too : Some from.first ≡ Some to.first = sym from.here ∙ ap (λ k. slice_get xs k) row.0 ∙ to.here in
    let one : from.first ≡ to.first = cc in
    ap₂ (λ (o p : Ordering). ordering_then o p)
    (sym (ap (λ (x : A). cmp from.first x) one) ∙ same from.first)
    (later from.place to.place from.others to.others row.1 from.there to.there))
    (places-in_rows n m from.index to.index from.place to.place (length (product rest)) from.at to.at from.within to.within less)

-- ---- lists joined end to end
-- where a member of a joined list comes from
pub flat_map-known : {A B : Type 0} (f : A → List B) (xs : List A) (n : ℕ) (y : B) → slice_get (flat_map f xs) n ≡ Some y
    → (i : ℕ) × (x : A) × (j : ℕ) × (slice_get xs i ≡ Some x) × (slice_get (f x) j ≡ Some y)
flat_map-known f [] n y at = cc
flat_map-known f (x ∷ xs) n y at =
    ⊎_elim
    (λ inside. (0, x, n, refl, sym (slice_get_left (f x) (flat_map f xs) n inside) ∙ at))
    (λ past.
    let rest = flat_map-known f xs (n - length (f x)) y (sym (slice_get_right (f x) (flat_map f xs) n (n - length (f x)) (omega (arith, past))) ∙ at) in
    (suc rest.0, rest.1, rest.2, rest.3, rest.4))
    (cases_lt n (length (f x)))

pub flat_map-found : {A B : Type 0} (f : A → List B) (xs : List A) (i : ℕ) (x : A) (j : ℕ) (y : B) → slice_get xs i ≡ Some x → slice_get (f x) j ≡ Some y
    → (n : ℕ) × (slice_get (flat_map f xs) n ≡ Some y)
flat_map-found f [] i x j y here there = cc
flat_map-found {A} f (z ∷ xs) zero x j y here there =
    let same : z ≡ x = cc in
    let at : slice_get (f z) j ≡ Some y = ap (λ (u : A). slice_get (f u) j) same ∙ there in
    (j, slice_get_left (f z) (flat_map f xs) j (slice_get_within (f z) j y at) ∙ at)
flat_map-found f (z ∷ xs) (suc i) x j y here there =
    let rest = flat_map-found f xs i x j y here there in
    (length (f z) + rest.0, slice_get_right (f z) (flat_map f xs) (length (f z) + rest.0) rest.0 refl ∙ rest.1)

pub flat_map-rises : {A B : Type 0} (R : B → B → Type 0) (f : A → List B) (xs : List A)
    → ((i : ℕ) (x : A) → slice_get xs i ≡ Some x → RisesBy R (f x))
    → ((i j : ℕ) (a b : A) (p q : ℕ) (y z : B) → i < j → slice_get xs i ≡ Some a → slice_get xs j ≡ Some b → slice_get (f a) p ≡ Some y → slice_get (f b) q ≡ Some z → R y z)
    → RisesBy R (flat_map f xs)
flat_map-rises R f [] each across = λ n m y z less here there. cc
flat_map-rises {A} {B} R f (x ∷ xs) each across = λ n m y z less here there.
    let rest : RisesBy R (flat_map f xs) =
    flat_map-rises R f xs (λ i u h. each (suc i) u h) (λ i j a b p q u v l g h s t. across (suc i) (suc j) a b p q u v (omega (arith, l)) g h s t) in
    ⊎_elim
    (λ first.
    let y_at : slice_get (f x) n ≡ Some y = sym (slice_get_left (f x) (flat_map f xs) n first) ∙ here in
    ⊎_elim
    (λ second. each 0 x refl n m y z less y_at (sym (slice_get_left (f x) (flat_map f xs) m second) ∙ there))
    (λ past.
    let from = flat_map-known f xs (m - length (f x)) z (sym (slice_get_right (f x) (flat_map f xs) m (m - length (f x)) (omega (arith, past))) ∙ there) in
    across 0 (suc from.0) x from.1 n from.2 y z (omega arith) refl from.3 y_at from.4)
    (cases_lt m (length (f x))))
    (λ past.
    rest (n - length (f x)) (m - length (f x)) y z (omega (arith, less, past))
    (sym (slice_get_right (f x) (flat_map f xs) n (n - length (f x)) (omega (arith, past))) ∙ here)
    (sym (slice_get_right (f x) (flat_map f xs) m (m - length (f x)) (omega (arith, less, past))) ∙ there))
    (cases_lt n (length (f x)))
