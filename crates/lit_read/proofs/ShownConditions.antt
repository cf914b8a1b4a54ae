-- Texts of conditions, one after the other.
use Rattle.std.proofs.Common.{◌≡◌, ℕ, zero, suc, ◌+◌, ◌<◌, ◌≤◌, Bool, true, false, cond, ltb, List, [], ◌∷◌, ◌++◌, length, get_or, drop, refl, ap, sym, subst, ◌∙◌, append_assoc, arith}
use Rattle.std.specs.Prelude.{codes}
use Rattle.std.specs.Global.{Vec}
use Rattle.std.proofs.lemmas.Bool.{ltb-false}
use Rattle.std.proofs.lemmas.List.{append-nil, drop_all}
use Rattle.lit_syntax.specs.declared.syntax.Cond.{Cond}
use Rattle.lit_syntax.specs.declared.syntax.Cond as code
use Rattle.lit_syntax.specs.Syntax.{Condition, Conditions, Any, All, Not, Is, NoMore, Also, condition_count, Agent, Litmus, IsConditionOn, AreConditionsOn}
use Rattle.lit_syntax.specs.Litmus.{condition_of, conditions_view}
use Rattle.lit_syntax.specs.Parentheses.{operand_of, conjunction_of, all_written, any_written}
use Rattle.lit_read.specs.CanonicalText.{operand_text, conjunction_text, written_text}
use Rattle.lit_syntax.proofs.TreeViews.{all_views, any_views}

-- ---- members, each but the first behind a sign

module _ (shown : Condition → List ℕ) (sign : List ℕ) where
  abbrev pub later : Conditions → List ℕ
  later NoMore = []
  later (Also c cs) = sign ++ (shown c ++ later cs)

  -- the members from a place on
  abbrev pub left : ℕ → Conditions → List ℕ
  left zero NoMore = []
  left zero (Also c cs) = shown c ++ later cs
  left (suc n) cs = later cs

  from_place : (xs : List Cond) (i : ℕ) (d : Cond) → i < length xs → conditions_view (drop i xs) ≡ Also (condition_of (get_or xs i d)) (conditions_view (drop (i + 1) xs))
  from_place [] i d lt = absurd (omega arith)
  from_place (x ∷ xs) zero d lt = refl
  from_place (x ∷ xs) (suc i) d lt = let one : suc i + 1 ≡ suc (i + 1) = omega arith in rw one (from_place xs i d (omega arith))

  at_place : (i : ℕ) (c : Condition) (cs : Conditions) → left i (Also c cs) ≡ cond (ltb 0 i) sign [] ++ (shown c ++ left (i + 1) cs)
  at_place zero c cs = refl
  at_place (suc i) c cs = let one : suc i + 1 ≡ suc (suc i) = omega arith in rw (one, behind (ltb 0 (suc i)) refl) refl
    where
      behind : (b : Bool) → ltb 0 (suc i) ≡ b → b ≡ true
      behind true e = refl
      behind false e = let none : suc i ≤ 0 = ltb-false 0 (suc i) e in absurd (omega arith)

  -- one member more is written
  pub member_put : (xs : List Cond) (i : ℕ) (x : Cond) (old mid new whole : List ℕ) → i < length xs → x ≡ get_or xs i x → mid ≡ old ++ cond (ltb 0 i) sign [] → new ≡ mid ++ shown (condition_of x)
      → old ++ left i (conditions_view (drop i xs)) ≡ whole → new ++ left (i + 1) (conditions_view (drop (i + 1) xs)) ≡ whole
  member_put xs i x old mid new whole lt is between put so_far =
      let rest = left (i + 1) (conditions_view (drop (i + 1) xs)) in
      let here : left i (conditions_view (drop i xs)) ≡ cond (ltb 0 i) sign [] ++ (shown (condition_of x) ++ rest) =
      ap (left i) (from_place xs i x lt) ∙ at_place i (condition_of (get_or xs i x)) (conditions_view (drop (i + 1) xs)) ∙ ap (λ (c : Cond). cond (ltb 0 i) sign [] ++ (shown (condition_of c) ++ rest)) (sym is) in
      ap (λ (bs : List ℕ). bs ++ rest) (put ∙ ap (λ (bs : List ℕ). bs ++ shown (condition_of x)) between) ∙ append_assoc (old ++ cond (ltb 0 i) sign []) (shown (condition_of x)) rest
      ∙ append_assoc old (cond (ltb 0 i) sign []) (shown (condition_of x) ++ rest) ∙ ap (λ (bs : List ℕ). old ++ bs) (sym here) ∙ so_far

  none_left : (i : ℕ) → left i NoMore ≡ []
  none_left zero = refl
  none_left (suc i) = refl

  -- all of them are
  pub members_put : (xs : List Cond) (i : ℕ) (out whole : List ℕ) → length xs ≤ i → out ++ left i (conditions_view (drop i xs)) ≡ whole → out ≡ whole
  members_put xs i out whole past so_far = sym (ap (λ (l : List Cond). out ++ left i (conditions_view l)) (drop_all i xs past) ∙ ap (λ (bs : List ℕ). out ++ bs) (none_left i) ∙ append-nil out) ∙ so_far

module _ (agents : List Agent) where
  abbrev pub tight : Condition → List ℕ
  tight c = operand_text (operand_of agents c)

  abbrev pub loose : Condition → List ℕ
  loose c = conjunction_text (conjunction_of agents c)

  all_text : (c : Condition) (cs : Conditions) → conjunction_text (all_written agents (Also c cs)) ≡ left tight (codes " && ") 0 (Also c cs)
  all_text c NoMore = sym (append-nil (tight c))
  all_text c (Also d ds) = ap (λ (bs : List ℕ). tight c ++ (codes " && " ++ bs)) (all_text d ds)

  any_text : (c : Condition) (cs : Conditions) → written_text (any_written agents (Also c cs)) ≡ left loose (codes " || ") 0 (Also c cs)
  any_text c NoMore = sym (append-nil (loose c))
  any_text c (Also d ds) = ap (λ (bs : List ℕ). loose c ++ (codes " || " ++ bs)) (any_text d ds)

  pub all_shown : (xs : List Cond) → 1 ≤ length xs → left tight (codes " && ") 0 (conditions_view xs) ≡ conjunction_text (all_written agents (conditions_view xs))
  all_shown [] some = absurd (omega arith)
  all_shown (x ∷ xs) some = sym (all_text (condition_of x) (conditions_view xs))

  pub any_shown : (xs : List Cond) → 1 ≤ length xs → left loose (codes " || ") 0 (conditions_view xs) ≡ written_text (any_written agents (conditions_view xs))
  any_shown [] some = absurd (omega arith)
  any_shown (x ∷ xs) some = sym (any_text (condition_of x) (conditions_view xs))

-- ---- what members can be

count_is : (xs : List Cond) → condition_count (conditions_view xs) ≡ length xs
count_is [] = refl
count_is (x ∷ xs) = let same = count_is xs in omega (arith, same)

pub member_on : (t : Litmus) (xs : List Cond) (i : ℕ) (x : Cond) → i < length xs → x ≡ get_or xs i x → AreConditionsOn t (conditions_view xs) → IsConditionOn t (condition_of x)
member_on t xs i x lt is on = subst (λ (c : Cond). IsConditionOn t (condition_of c)) (sym is) (at xs i lt on)
  where
    at : (ys : List Cond) (j : ℕ) → j < length ys → AreConditionsOn t (conditions_view ys) → IsConditionOn t (condition_of (get_or ys j x))
    at [] j lt on = absurd (omega arith)
    at (y ∷ ys) zero lt on = on.0
    at (y ∷ ys) (suc j) lt on = at ys j (omega arith) on.1

-- the members of an All or an Any
abbrev pub HasMembers : Litmus → List Cond → Type 0
HasMembers t xs = (1 ≤ length xs) × AreConditionsOn t (conditions_view xs)

pub all_on : (t : Litmus) (v : Vec Cond) (c : Cond) → c ≡ code.All v → IsConditionOn t (condition_of c) → HasMembers t v.items
all_on t v c is on = let on_all = subst (λ (d : Condition). IsConditionOn t d) (ap condition_of is ∙ all_views v) on in (omega (arith, on_all.0, count_is v.items), on_all.1)

pub any_on : (t : Litmus) (v : Vec Cond) (c : Cond) → c ≡ code.Any v → IsConditionOn t (condition_of c) → HasMembers t v.items
any_on t v c is on = let on_any = subst (λ (d : Condition). IsConditionOn t d) (ap condition_of is ∙ any_views v) on in (omega (arith, on_any.0, count_is v.items), on_any.1)

-- ---- how much of a condition is left to write

abbrev mutual
  pub weight : Condition → ℕ
  weight (Any cs) = weights cs + 1
  weight (All cs) = weights cs + 1
  weight (Not c) = weight c + 1
  weight (Is agent reg equal value) = 1

  pub weights : Conditions → ℕ
  weights NoMore = 0
  weights (Also c cs) = weight c + weights cs + 1

pub member_lighter : (xs : List Cond) (i : ℕ) (x : Cond) → i < length xs → x ≡ get_or xs i x → weight (condition_of x) < weights (conditions_view xs)
member_lighter xs i x lt is = subst (λ (c : Cond). weight (condition_of c) < weights (conditions_view xs)) (sym is) (at xs i lt)
  where
    at : (ys : List Cond) (j : ℕ) → j < length ys → weight (condition_of (get_or ys j x)) < weights (conditions_view ys)
    at [] j lt = absurd (omega arith)
    at (y ∷ ys) zero lt = omega arith
    at (y ∷ ys) (suc j) lt = let more = at ys j (omega arith) in omega arith

pub all_lighter : (v : Vec Cond) (c : Cond) → c ≡ code.All v → weights (conditions_view v.items) < weight (condition_of c)
all_lighter v c is = let same : weight (condition_of c) ≡ weights (conditions_view v.items) + 1 = ap weight (ap condition_of is ∙ all_views v) in omega arith

pub any_lighter : (v : Vec Cond) (c : Cond) → c ≡ code.Any v → weights (conditions_view v.items) < weight (condition_of c)
any_lighter v c is = let same : weight (condition_of c) ≡ weights (conditions_view v.items) + 1 = ap weight (ap condition_of is ∙ any_views v) in omega arith
