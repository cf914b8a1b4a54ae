-- The product of lists: how many members it has, and which one a number gives.
use Rattle.std.proofs.Common.{◌≡◌, ℕ, zero, suc, ◌+◌, ◌*◌, ◌/◌, ◌<◌, ◌≤◌, List, [], ◌∷◌, ◌++◌, length, map, flat_map, slice_get, Some, option_map, arith, length-append, refl, sym, ap, ◌∙◌, take, drop, get_or, mul-le-mul, mul-le-mul_left, mul_assoc, take-append-drop, zero-mul, mul-zero, ap₂, Option, ◌-◌, ⊎_elim}
use Rattle.std.proofs.lemmas.Bool.{cases_lt}
use Rattle.std.proofs.Math.Nat.{mul-div_cancel_left}
use Rattle.std.proofs.lemmas.List.{length-map, map_more, map-append}
use Rattle.std.proofs.lemmas.Option.{slice_get-map, slice_get_within, slice_get_past, slice_get-get_or}
use Rattle.lit_paths.specs.Choice.{product}

-- each x in front of each list
abbrev pub fronted : {A : Type 0} → List (List A) → List A → List (List A)
fronted rest xs = flat_map (λ x. map (λ ys. x ∷ ys) rest) xs

pub length-fronted : {A : Type 0} (rest : List (List A)) (xs : List A) → length (fronted rest xs) ≡ length xs * length rest
length-fronted rest [] = omega arith
length-fronted rest (x ∷ xs) =
    length-append (map (λ ys. x ∷ ys) rest) (fronted rest xs)
    ∙ omega (arith, length-map rest (λ ys. x ∷ ys), length-fronted rest xs)

pub length-product : {A : Type 0} (xs : List A) (rest : List (List A)) → length (product (xs ∷ rest)) ≡ length xs * length (product rest)
length-product xs rest = length-fronted (product rest) xs

pub slice_get_left : {A : Type 0} (xs ys : List A) (i : ℕ) → i < length xs → slice_get (xs ++ ys) i ≡ slice_get xs i
slice_get_left [] ys i h = absurd (omega (arith, h))
slice_get_left (x ∷ xs) ys zero h = refl
slice_get_left (x ∷ xs) ys (suc i) h = slice_get_left xs ys i (omega (arith, h))

pub slice_get_right : {A : Type 0} (xs ys : List A) (n i : ℕ) → n ≡ length xs + i → slice_get (xs ++ ys) n ≡ slice_get ys i
slice_get_right [] ys n i h = ap (λ k. slice_get ys k) (omega (arith, h))
slice_get_right (x ∷ xs) ys zero i h = absurd (omega (arith, h))
slice_get_right (x ∷ xs) ys (suc n) i h = slice_get_right xs ys n i (omega (arith, h))

pub slice_get-drop : {A : Type 0} (i k : ℕ) (xs : List A) → slice_get (drop i xs) k ≡ slice_get xs (i + k)
slice_get-drop zero k xs = ap (λ n. slice_get xs n) (omega arith)
slice_get-drop (suc i) k [] = sym (slice_get_past [] (suc i + k) (omega arith))
slice_get-drop (suc i) k (x ∷ xs) = slice_get-drop i k xs ∙ ap (λ n. slice_get (x ∷ xs) n) (let e : suc (i + k) ≡ suc i + k = omega arith in e)

pub slice_get-fronted : {A : Type 0} (rest : List (List A)) (xs : List A) (i j n : ℕ) (x : A) (ys : List A)
    → n ≡ i * length rest + j → slice_get xs i ≡ Some x → slice_get rest j ≡ Some ys
    → slice_get (fronted rest xs) n ≡ Some (x ∷ ys)
slice_get-fronted rest [] i j n x ys e here there = cc
slice_get-fronted rest (y ∷ xs) zero j n x ys e here there =
    let inside : j < length rest = slice_get_within rest j ys there in
    let at : n ≡ j = omega (arith, e) in
    let same : y ≡ x = cc in
    ap (λ k. slice_get (fronted rest (y ∷ xs)) k) at
    ∙ slice_get_left (map (λ zs. y ∷ zs) rest) (fronted rest xs) j (omega (arith, length-map rest (λ zs. y ∷ zs)))
    ∙ slice_get-map (λ zs. y ∷ zs) rest j
    ∙ ap (λ o. option_map (λ zs. y ∷ zs) o) there
    ∙ ap (λ z. Some (z ∷ ys)) same
slice_get-fronted rest (y ∷ xs) (suc i) j n x ys e here there =
    slice_get_right (map (λ zs. y ∷ zs) rest) (fronted rest xs) n (i * length rest + j) (omega (arith, e, length-map rest (λ zs. y ∷ zs)))
    ∙ slice_get-fronted rest xs i j (i * length rest + j) x ys refl here there

-- each list has a member
abbrev pub AreSome : {A : Type 0} → List (List A) → Type 0
AreSome {A} xss = (i : ℕ) (xs : List A) → slice_get xss i ≡ Some xs → 1 ≤ length xs

pub product-some : {A : Type 0} (xss : List (List A)) → AreSome xss → 1 ≤ length (product xss)
product-some [] each = omega arith
product-some (xs ∷ rest) each =
    let here : 1 ≤ length xs = each 0 xs refl in
    let there : 1 ≤ length (product rest) = product-some rest (λ i ys h. each (suc i) ys h) in
    omega (arith, length-product xs rest, mul-le-mul here there)

pub length-product_push : {A : Type 0} (xss : List (List A)) (ys : List A) → length (product (xss ++ ys ∷ [])) ≡ length (product xss) * length ys
length-product_push [] ys = omega (arith, length-product ys [])
length-product_push (xs ∷ rest) ys =
    length-product xs (rest ++ ys ∷ []) ∙ ap (λ n. length xs * n) (length-product_push rest ys)
    ∙ sym (mul_assoc (length xs) (length (product rest)) (length ys)) ∙ ap (λ n. n * length ys) (sym (length-product xs rest))

-- more lists that have members give no fewer
pub length-product-append : {A : Type 0} (xss yss : List (List A)) → AreSome yss → length (product xss) ≤ length (product (xss ++ yss))
length-product-append [] yss each = product-some yss each
length-product-append (xs ∷ rest) yss each =
    omega (arith, length-product xs rest, length-product xs (rest ++ yss), mul-le-mul_left (length xs) (length-product-append rest yss each))

module _ {X A : Type 0} (f : X → List A) where
  -- how many choices the first lists give, one list more
  pub product_more : (xs : List X) (i : ℕ) (d : X) → i < length xs
      → length (product (map f (take (i + 1) xs))) ≡ length (product (map f (take i xs))) * length (f (get_or xs i d))
  product_more xs i d inside = ap (λ l. length (product l)) (map_more f xs i d inside) ∙ length-product_push (map f (take i xs)) (f (get_or xs i d))

  pub AreSome-map : (xs : List X) → ((i : ℕ) (x : X) → slice_get xs i ≡ Some x → 1 ≤ length (f x)) → AreSome (map f xs)
  AreSome-map [] each i ys h = cc
  AreSome-map (x ∷ xs) each zero ys h = let here : 1 ≤ length (f x) = each 0 x refl in let same : f x ≡ ys = cc in omega (arith, here, ap length same)
  AreSome-map (x ∷ xs) each (suc i) ys h = AreSome-map xs (λ j y k. each (suc j) y k) i ys h

  pub product_bound : (xs : List X) (i : ℕ) → ((i : ℕ) (x : X) → slice_get xs i ≡ Some x → 1 ≤ length (f x))
      → length (product (map f (take i xs))) ≤ length (product (map f xs))
  product_bound xs i each =
      let split : map f (take i xs) ++ map f (drop i xs) ≡ map f xs = sym (map-append f (take i xs) (drop i xs)) ∙ ap (λ l. map f l) (take-append-drop i xs) in
      let rest : AreSome (map f (drop i xs)) = AreSome-map (drop i xs) (λ k x h. each (i + k) x (sym (slice_get-drop i k xs) ∙ h)) in
      omega (arith, length-product-append (map f (take i xs)) (map f (drop i xs)) rest, ap (λ l. length (product l)) split)

pub factors-positive : (a b n : ℕ) → n < a * b → (0 < a) × (0 < b)
factors-positive zero b n h = absurd (omega (arith, h, zero-mul b))
factors-positive (suc a) zero n h = absurd (omega (arith, h, mul-zero (suc a)))
factors-positive (suc a) (suc b) n h = (omega arith, omega arith)

-- `after` places are `count` times the places of what comes next
pub next_places : (after count rest left : ℕ) → after ≡ count * rest → left < after → after / count ≡ rest
next_places after count rest left is inside =
    let some : (0 < count) × (0 < rest) = factors-positive count rest left (omega (arith, is, inside)) in
    ap (λ n. n / count) is ∙ mul-div_cancel_left rest some.0

pub next_positive : (after count rest left : ℕ) → after ≡ count * rest → left < after → 0 < after / count
next_positive after count rest left is inside =
    let some : (0 < count) × (0 < rest) = factors-positive count rest left (omega (arith, is, inside)) in
    omega (arith, next_places after count rest left is inside, some.1)

module _ {X A : Type 0} (f : X → List A) where
  pub count_step : (xs : List X) (i : ℕ) (d : X) (total count : ℕ) → i < length xs → total ≡ length (product (map f (take i xs))) → count ≡ length (f (get_or xs i d))
      → total * count ≡ length (product (map f (take (i + 1) xs)))
  count_step xs i d total count inside done one = ap₂ (λ a b. a * b) done one ∙ sym (product_more f xs i d inside)

-- where a member of `fronted` comes from
pub record ComesFrom {A : Type 0} (rest : List (List A)) (xs : List A) (n : ℕ) (zs : List A) : Type 0 where
  pub index : ℕ
  pub place : ℕ
  pub first : A
  pub others : List A
  pub at : n ≡ index * length rest + place
  pub within : place < length rest
  pub here : slice_get xs index ≡ Some first
  pub there : slice_get rest place ≡ Some others
  pub whole : zs ≡ first ∷ others

pub fronted-known : {A : Type 0} (rest : List (List A)) (xs : List A) (n : ℕ) (zs : List A) → slice_get (fronted rest xs) n ≡ Some zs → ComesFrom rest xs n zs
fronted-known rest [] n zs at = cc
fronted-known {A} rest (x ∷ xs) n zs at =
    let front = map (λ ys. x ∷ ys) rest in
    ⊎_elim
    (λ inside.
    let within : n < length rest = omega (arith, inside, length-map rest (λ ys. x ∷ ys)) in
    let others : List A = get_or rest n [] in
    let there : slice_get rest n ≡ Some others = slice_get-get_or rest n [] within in
    let same : Some (x ∷ others) ≡ Some zs = sym (slice_get_left front (fronted rest xs) n inside ∙ slice_get-map (λ ys. x ∷ ys) rest n ∙ ap (λ (o : Option (List A)). option_map (λ ys. x ∷ ys) o) there) ∙ at in
    record { index = 0; place = n; first = x; others = others; at = omega arith; within = within; here = refl; there = there; whole = cc })
    (λ past.
    let later = fronted-known rest xs (n - length front) zs (sym (slice_get_right front (fronted rest xs) n (n - length front) (omega (arith, past))) ∙ at) in
    record {
      index = suc later.index;
      place = later.place;
      first = later.first;
      others = later.others;
      at = omega (arith, later.at, past, length-map rest (λ ys. x ∷ ys));
      within = later.within;
      here = later.here;
      there = later.there;
      whole = later.whole;
    })
    (cases_lt n (length front))

-- a list with one member of each list
pub record TakesEach {A : Type 0} (xss : List (List A)) (ys : List A) : Type 0 where
  pub one_each : length ys ≡ length xss
  pub each : (i : ℕ) (xs : List A) (y : A) → slice_get xss i ≡ Some xs → slice_get ys i ≡ Some y → (k : ℕ) × (slice_get xs k ≡ Some y)

pub product-known : {A : Type 0} (xss : List (List A)) (n : ℕ) (ys : List A) → slice_get (product xss) n ≡ Some ys → TakesEach xss ys
product-known {A} [] n ys at =
    let inside = slice_get_within (product {A = A} []) n ys at in
    let first : n ≡ 0 = omega (arith, inside) in
    let same : Some [] ≡ Some ys = sym (ap (λ m. slice_get (product {A = A} []) m) first) ∙ at in
    let empty : [] ≡ ys = cc in
    record { one_each = sym (ap (λ l. length l) empty); each = λ i xs y h g. cc }
product-known {A} (xs ∷ rest) n ys at =
    let from = fronted-known (product rest) xs n ys at in
    let others = product-known rest from.place from.others from.there in
    record {
      one_each = omega (arith, ap (λ l. length l) from.whole, others.one_each);
      each = λ i. elim i as (λ m. (zs : List A) (y : A) → slice_get (xs ∷ rest) m ≡ Some zs → slice_get ys m ≡ Some y → (k : ℕ) × (slice_get zs k ≡ Some y)) [
        | zero ↦ λ zs y h g.
            let same_list : xs ≡ zs = cc in
            let first : Some from.first ≡ Some y = sym (ap (λ l. slice_get l 0) from.whole) ∙ g in
            (from.index, ap (λ l. slice_get l from.index) (sym same_list) ∙ from.here ∙ first)
        | suc m ↦ λ zs y h g. others.each m zs y h (sym (ap (λ l. slice_get l (suc m)) from.whole) ∙ g)
      ];
    }

pub product-found : {A : Type 0} (xss : List (List A)) (ys : List A) → TakesEach xss ys → (n : ℕ) × (slice_get (product xss) n ≡ Some ys)
product-found [] [] takes = (0, refl)
product-found [] (y ∷ ys) takes = absurd (omega (arith, takes.one_each))
product-found (xs ∷ rest) [] takes = absurd (omega (arith, takes.one_each))
product-found (xs ∷ rest) (y ∷ ys) takes =
    let here = takes.each 0 xs y refl refl in
    let later = product-found rest ys (record { one_each = omega (arith, takes.one_each); each = λ i zs z h g. takes.each (suc i) zs z h g }) in
    (here.0 * length (product rest) + later.0, slice_get-fronted (product rest) xs here.0 later.0 (here.0 * length (product rest) + later.0) y ys refl here.1 later.1)
