-- A list from whose front a member was taken, if it had one, and what then is still to be merged.
use Rattle.std.proofs.Common.{◌≡◌, ◌++◌, ◌+◌, ◌<◌, ◌∙◌, ℕ, List, [], ◌∷◌, length, map, Option, Some, None, ap, refl, subst, sym, arith}
use Rattle.std.specs.Prelude.{All, IfSome, OnSome}
use Rattle.std.specs.Option.{option_map, option_to_list}
use Rattle.std.proofs.lemmas.List.Elements.{All-head, All-tail}
use Rattle.std.specs.Ordering.{match_ordering}
use Rattle.std.specs.declared.cmp.Ordering.{Ordering}
use Rattle.std.specs.declared.cmp.Ordering.TheVariants.{Equal, Greater}
use Rattle.lit_search.specs.Report.{Entry, outcome_cmp}
use Rattle.lit_search.specs.Internal.Merged.{heads_cmp, lesser, merged}

module _ {K : Type 0} where
  -- what held of all holds of the one that was taken, and of the rest
  pub front_is : (P : K → Type 0) (r : Option K) (xs rest : List K) → xs ≡ option_to_list r ++ rest → All P xs → IfSome r P
  front_is P None xs rest is all = tt
  front_is P (Some x) xs rest is all = All-head P x rest (subst (All P) is all)

  pub rest_are : (P : K → Type 0) (r : Option K) (xs rest : List K) → xs ≡ option_to_list r ++ rest → All P xs → All P rest
  rest_are P None xs rest is all = subst (All P) is all
  rest_are P (Some x) xs rest is all = All-tail P x rest (subst (All P) is all)

  -- there are fewer where one was taken
  pub fewer_first : (r : Option K) (xs rest : List K) (n : ℕ) → xs ≡ option_to_list r ++ rest → OnSome r (length rest + n < length xs + n)
  fewer_first None xs rest n is = tt
  fewer_first (Some x) xs rest n is = let longer : length xs ≡ length (x ∷ rest) = ap length is in omega (arith, longer)

  pub fewer_second : (r : Option K) (xs rest : List K) (n : ℕ) → xs ≡ option_to_list r ++ rest → OnSome r (n + length rest < n + length xs)
  fewer_second None xs rest n is = tt
  fewer_second (Some x) xs rest n is = let longer : length xs ≡ length (x ∷ rest) = ap length is in omega (arith, longer)

merged-greater : (xs : List Entry) (y : Entry) (ys : List Entry) → heads_cmp xs (y ∷ ys) ≡ Greater → merged xs (y ∷ ys) ≡ y ∷ merged xs ys
merged-greater [] y ys greater = refl
merged-greater (x ∷ xs) y ys greater =
    ap (λ (o : Ordering). match_ordering o (x ∷ merged xs (y ∷ ys)) (lesser x y ∷ merged xs ys) (y ∷ merged (x ∷ xs) ys)) greater

module _ {K : Type 0} (f : K → Entry) where
  -- the first of the second list
  pub taken_greater : (xs ys rest : List K) (r : Option K) → heads_cmp (map f xs) (map f ys) ≡ Greater → ys ≡ option_to_list r ++ rest
      → merged (map f xs) (map f ys) ≡ option_to_list (option_map f r) ++ merged (map f xs) (map f rest)
  taken_greater xs ys rest None greater is = ap (λ (zs : List K). merged (map f xs) (map f zs)) is
  taken_greater xs ys rest (Some y) greater is =
      let P : List K → Type 0 = λ zs. heads_cmp (map f xs) (map f zs) ≡ Greater in
      ap (λ (zs : List K). merged (map f xs) (map f zs)) is ∙ merged-greater (map f xs) (f y) (map f rest) (subst P is greater)

  -- the lesser of two that have the same outcome
  pub taken_equal : (xs ys rest others : List K) (x y found : K) → heads_cmp (map f xs) (map f ys) ≡ Equal → xs ≡ x ∷ rest
      → ys ≡ y ∷ others → f found ≡ lesser (f x) (f y) → merged (map f xs) (map f ys) ≡ f found ∷ merged (map f rest) (map f others)
  taken_equal xs ys rest others x y found equal first second is =
      let here : heads_cmp (map f xs) (f y ∷ map f others) ≡ Equal =
      subst (λ (zs : List K). heads_cmp (map f xs) (map f zs) ≡ Equal) second equal in
      let same : outcome_cmp (f x) (f y) ≡ Equal =
      subst (λ (zs : List K). heads_cmp (map f zs) (f y ∷ map f others) ≡ Equal) first here in
      let left = map f rest in
      let right = map f others in
      let by = λ (o : Ordering). match_ordering o (f x ∷ merged left (f y ∷ right)) (lesser (f x) (f y) ∷ merged left right)
      (f y ∷ merged (f x ∷ left) right) in
      ap (λ (zs : List K). merged (map f zs) (map f ys)) first
      ∙ ap (λ (zs : List K). merged (f x ∷ left) (map f zs)) second
      ∙ ap by same
      ∙ ap (λ (e : Entry). e ∷ merged left right) (sym is)
