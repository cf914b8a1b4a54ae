-- Facts of each member of a list, and of two truth values.
use Rattle.std.proofs.Common.{◌≡◌, Bool, true, List, [], ◌∷◌, ◌++◌, refl}
use Rattle.std.specs.List.{AllByRecursion, list_all}
use Rattle.std.proofs.lemmas.Bool.{and_parts}

pub all_both : {A : Type 0} (P : A → Type 0) (xs ys : List A) → AllByRecursion P xs → AllByRecursion P ys → AllByRecursion P (xs ++ ys)
all_both P [] ys a b = b
all_both P (x ∷ xs) ys a b = (a.0, all_both P xs ys a.1 b)

pub all_parts : {A : Type 0} (P : A → Type 0) (xs ys : List A) → AllByRecursion P (xs ++ ys) → AllByRecursion P xs × AllByRecursion P ys
all_parts P [] ys a = (tt, a)
all_parts P (x ∷ xs) ys a = let parts = all_parts P xs ys a.1 in ((a.0, parts.0), parts.1)

pub all_weaker : {A : Type 0} (P Q : A → Type 0) → ((x : A) → P x → Q x) → (xs : List A) → AllByRecursion P xs → AllByRecursion Q xs
all_weaker P Q f [] a = tt
all_weaker P Q f (x ∷ xs) a = (f x a.0, all_weaker P Q f xs a.1)

pub all_pass : {A : Type 0} (P : A → Type 0) (q : A → Bool) → ((x : A) → P x → q x ≡ true) → (xs : List A) → AllByRecursion P xs → list_all q xs ≡ true
all_pass P q f [] a = refl
all_pass P q f (x ∷ xs) a = rw (f x a.0) (all_pass P q f xs a.1)

pub all_passed : {A : Type 0} (P : A → Type 0) (q : A → Bool) → ((x : A) → q x ≡ true → P x) → (xs : List A) → list_all q xs ≡ true → AllByRecursion P xs
all_passed P q f [] e = tt
all_passed P q f (x ∷ xs) e = let b = and_parts (q x) (list_all q xs) e in (f x b.0, all_passed P q f xs b.1)

pub tail_is : {A : Type 0} (x y : A) (xs ys : List A) → x ∷ xs ≡ y ∷ ys → xs ≡ ys
tail_is x y xs ys e = cc
