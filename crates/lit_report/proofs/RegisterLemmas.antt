-- The registers of an outcome, one after the other.
use Rattle.std.proofs.Common.{◌≡◌, ℕ, zero, suc, ◌+◌, ◌<◌, ◌≤◌, List, [], ◌∷◌, ◌++◌, length, take, drop, get_or, ◌-◌, codes, refl, sym, ap, ◌∙◌, append_assoc, arith}
use Rattle.std.proofs.lemmas.List.{drop_more, drop_all, take_all, length-drop, append-nil}
use Rattle.std.specs.Fmt.{decimal}
use Rattle.lit_syntax.specs.Syntax.{Litmus, agent_of}
use Rattle.lit_report.specs.EntryText.{register_text, registers_text}
use Rattle.lit_report.specs.EntryCache.{first_head, first_value, register_head}

pub registers_more : (t : Litmus) (names : List (ℕ × ℕ)) (values : List ℕ) (i : ℕ) (d : ℕ × ℕ) (v : ℕ) → i < length names → i < length values
    → registers_text t (drop i names) (drop i values) ≡ register_text t (get_or names i d, get_or values i v) ++ registers_text t (drop (i + 1) names) (drop (i + 1) values)
registers_more t names values i d v in_names in_values =
    ap (λ (xs : List (ℕ × ℕ)). registers_text t xs (drop i values)) (drop_more names i d in_names)
    ∙ ap (λ (ys : List ℕ). registers_text t (get_or names i d ∷ drop (i + 1) names) ys) (drop_more values i v in_values)

none_left : (t : Litmus) (names : List (ℕ × ℕ)) → registers_text t names [] ≡ []
none_left t [] = refl
none_left t (n ∷ names) = refl

pub registers_end : (t : Litmus) (names : List (ℕ × ℕ)) (values : List ℕ) (i : ℕ) → length values ≤ i → registers_text t (drop i names) (drop i values) ≡ []
registers_end t names values i le = ap (λ (ys : List ℕ). registers_text t (drop i names) ys) (drop_all i values le) ∙ none_left t (drop i names)

-- the first registers and the others
pub registers_split : (t : Litmus) (names : List (ℕ × ℕ)) (values : List ℕ) (n : ℕ) → registers_text t names (take n values) ++ registers_text t (drop n names) (drop n values) ≡ registers_text t names values
registers_split t names values zero = ap (λ (w : List ℕ). w ++ registers_text t names values) (none_left t names)
registers_split t [] values (suc n) = refl
registers_split t (x ∷ names) [] (suc n) = none_left t (drop n names)
registers_split t (x ∷ names) (v ∷ values) (suc n) =
    append_assoc (register_text t (x, v)) (registers_text t names (take n values)) (registers_text t (drop n names) (drop n values))
    ∙ ap (λ (w : List ℕ). register_text t (x, v) ++ w) (registers_split t names values n)

-- a register and its value
pub register_is : (t : Litmus) (name : ℕ × ℕ) (value : ℕ) → register_head t name ++ decimal value ≡ register_text t (name, value)
register_is t name value = joined (agent_of t name.0).name (decimal name.1) (decimal value)
  where
    joined : (n r v : List ℕ) → (codes " " ++ n ++ codes ".r" ++ r ++ codes "=") ++ v ≡ codes " " ++ n ++ codes ".r" ++ r ++ codes "=" ++ v
    joined n r v = simp append_assoc

-- the last register, if there is one, and its value
pub register_last : (t : Litmus) (names : List (ℕ × ℕ)) (values : List ℕ) (n : ℕ) → length values ≡ length names → n ≤ length values → length values ≤ n + 1
    → first_head t (drop n names) ++ first_value (drop n values) ≡ registers_text t (drop n names) (drop n values)
register_last t [] [] zero one le last = refl
register_last t [] [] (suc n) one le last = refl
register_last t [] (v ∷ values) n one le last = absurd (omega (arith, one))
register_last t (x ∷ names) [] n one le last = absurd (omega (arith, one))
register_last t (x ∷ []) (v ∷ []) zero one le last = register_is t x v ∙ sym (append-nil (register_text t (x, v)))
register_last t (x ∷ []) (v ∷ w ∷ values) zero one le last = absurd (omega (arith, one))
register_last t (x ∷ y ∷ names) (v ∷ values) zero one le last = absurd (omega (arith, one, last))
register_last t (x ∷ names) (v ∷ values) (suc n) one le last = register_last t names values n (omega (arith, one)) (omega (arith, le)) (omega (arith, last))

-- a list behind a place, cut at its end
pub all_behind : {A : Type 0} (xs : List A) (n : ℕ) → take (length xs - n) (drop n xs) ≡ drop n xs
all_behind xs n = take_all (length xs - n) (drop n xs) (omega (arith, length-drop n xs))
