-- What is asked about: reads by guards and by the condition, and what follows where these have the same values.
use Rattle.std.proofs.Common.{◌≡◌, ℕ, zero, suc, ◌+◌, ◌<◌, ◌==◌, ◌&&◌, ◌||◌, Bool, true, false, cond, List, [], ◌∷◌, Option, None, Some}
use Rattle.std.proofs.Common.{ap, ap₂, arith, eq-eqb, eqb, eqb-true, get_or, length, map, not, refl, subst, zip, ◌∙◌}
use Rattle.std.specs.List.{list_any, range_with_len}
use Rattle.std.specs.Option.{option_eq}
use Rattle.std.specs.Prelude.{IsTrue, slice_get}
use Rattle.std.proofs.lemmas.List.Folds.{list_any_at}
use Rattle.std.proofs.lemmas.List.FromFn.{get_or-range_with_len, length-range_with_len}
use Rattle.std.proofs.lemmas.Map.Keys.{any_passes_from_place}
use Rattle.lit_syntax.specs.Syntax.{All, Also, Any, Condition, Conditions, Is, Litmus, NoMore, Not}
use Rattle.lit_paths.specs.Outcome.{all_hold, any_holds, asks, holds, names_of, some_asks, value_in}
use Rattle.lit_paths.specs.Plan.{first_event, path_in}
use Rattle.lit_rel.specs.Broken.{HasFalseGuardOn, number_on}
use Rattle.lit_valid.specs.PartOutcome.{observed_read}
use Rattle.lit_why.specs.Asked.{is_asked, is_named, is_named_as, is_number, is_tested, is_tested_of}

left_true : (a b : Bool) → a ≡ true → (a || b) ≡ true
left_true true b is = refl
left_true false b is = absurd (let e = is in cc)

right_true : (a b : Bool) → b ≡ true → (a || b) ≡ true
right_true true b is = refl
right_true false b is = is

both_true : (a b : Bool) → a ≡ true → b ≡ true → (a && b) ≡ true
both_true true b is too = too
both_true false b is too = absurd (let e = is in cc)

-- ---- reads that are asked about
pub some_is : (o : Option ℕ) (r : ℕ) → option_eq eqb o (Some r) ≡ true → o ≡ Some r
some_is None r is = absurd (let e = is in cc)
some_is (Some n) r is = ap (λ (k : ℕ). Some k) (eqb-true n r is)

number_is : (number : Option ℕ) (r : ℕ) → number ≡ Some r → is_number number r ≡ true
number_is number r is = ap (λ (o : Option ℕ). is_number o r) is ∙ eq-eqb r r refl

pub tested_by_agent : (t : Litmus) (c r agent : ℕ) → agent < length t.agents → is_tested_of t c r agent ≡ true → is_tested t c r ≡ true
tested_by_agent t c r agent known is =
    let agents : List ℕ = range_with_len 0 (length t.agents) in
    list_any_at (is_tested_of t c r) agents agent 0 (omega (arith, known, length-range_with_len 0 (length t.agents)))
    (ap (is_tested_of t c r) (get_or-range_with_len 0 (length t.agents) agent 0 known ∙ (let e : 0 + agent ≡ agent = omega arith in e)) ∙ is)

none_from : (p : ℕ → Bool) (a n : ℕ) → ((i : ℕ) → i < n → p (a + i) ≡ false) → list_any p (range_with_len a n) ≡ false
none_from p a zero each = refl
none_from p a (suc n) each =
    let first : p a ≡ false = ap p (let e : a ≡ a + 0 = omega arith in e) ∙ each 0 (omega arith) in
    let later : list_any p (range_with_len (a + 1) n) ≡ false =
    none_from p (a + 1) n (λ i below. ap p (let e : a + 1 + i ≡ a + (i + 1) = omega arith in e) ∙ each (i + 1) (omega (arith, below))) in
    ap₂ (λ (x y : Bool). x || y) first later

pub tested_by_none : (t : Litmus) (c r : ℕ) → ((i : ℕ) → i < length t.agents → is_tested_of t c r i ≡ false) → is_tested t c r ≡ false
tested_by_none t c r each =
    none_from (is_tested_of t c r) 0 (length t.agents)
    (λ i below. ap (is_tested_of t c r) (let e : 0 + i ≡ i = omega arith in e) ∙ each i below)

pub named_at : (t : Litmus) (c r : ℕ) (names : List (ℕ × ℕ)) (i : ℕ) → names ≡ names_of t → i < length names
    → asks t.check (get_or names i (0, 0)).0 (get_or names i (0, 0)).1 ≡ true → observed_read t c (get_or names i (0, 0)) ≡ Some r
    → is_named t c r ≡ true
named_at t c r names i same inside asked is =
    subst (λ (all : List (ℕ × ℕ)). list_any (is_named_as t c r) all ≡ true) same
    (list_any_at (is_named_as t c r) names i (0, 0) inside
    (both_true (asks t.check (get_or names i (0, 0)).0 (get_or names i (0, 0)).1)
    (is_number (observed_read t c (get_or names i (0, 0))) r) asked (number_is _ r is)))

pub asked_by_guard : (t : Litmus) (c r value : ℕ) → HasFalseGuardOn t c (Some r) value → is_asked t c r ≡ true
asked_by_guard t c r value is =
    let here : is_tested_of t c r is.agent ≡ true =
    any_passes_from_place (λ guard. is_number (number_on (first_event t c is.agent) guard.on) r) (path_in t c is.agent).tests is.place is.test
    is.at_place (number_is _ r is.asks) in
    left_true (is_tested t c r) (is_named t c r) (tested_by_agent t c r is.agent is.known here)

pub asked_by_name : (t : Litmus) (c r : ℕ) (name : ℕ × ℕ) (k : ℕ) → slice_get (names_of t) k ≡ Some name
    → IsTrue (asks t.check name.0 name.1) → observed_read t c name ≡ Some r → is_asked t c r ≡ true
asked_by_name t c r name k at asked is =
    right_true (is_tested t c r) (is_named t c r) (any_passes_from_place (is_named_as t c r) (names_of t) k name at
    (both_true (asks t.check name.0 name.1) (is_number (observed_read t c name) r) asked (number_is _ r is)))

-- ---- a condition depends on the registers that it names
mutual
  pub holds_same : (some other : List ((ℕ × ℕ) × ℕ)) (condition : Condition)
      → ((agent reg : ℕ) → IsTrue (asks condition agent reg) → value_in some agent reg ≡ value_in other agent reg)
      → holds some condition ≡ holds other condition
  holds_same some other (Any cs) each = any_same some other cs each
  holds_same some other (All cs) each = all_same some other cs each
  holds_same some other (Not c) each = ap not (holds_same some other c each)
  holds_same some other (Is agent reg true value) each =
      ap (λ (x : ℕ). x == value) (each agent reg (both_true (agent == agent) (reg == reg) (eq-eqb _ _ refl) (eq-eqb _ _ refl)))
  holds_same some other (Is agent reg false value) each =
      ap (λ (x : ℕ). not (x == value)) (each agent reg (both_true (agent == agent) (reg == reg) (eq-eqb _ _ refl) (eq-eqb _ _ refl)))

  any_same : (some other : List ((ℕ × ℕ) × ℕ)) (cs : Conditions)
      → ((agent reg : ℕ) → IsTrue (some_asks cs agent reg) → value_in some agent reg ≡ value_in other agent reg)
      → any_holds some cs ≡ any_holds other cs
  any_same some other NoMore each = refl
  any_same some other (Also c cs) each =
      ap₂ (λ (a b : Bool). a || b)
      (holds_same some other c (λ agent reg is. each agent reg (left_true (asks c agent reg) (some_asks cs agent reg) is)))
      (any_same some other cs (λ agent reg is. each agent reg (right_true (asks c agent reg) (some_asks cs agent reg) is)))

  all_same : (some other : List ((ℕ × ℕ) × ℕ)) (cs : Conditions)
      → ((agent reg : ℕ) → IsTrue (some_asks cs agent reg) → value_in some agent reg ≡ value_in other agent reg)
      → all_hold some cs ≡ all_hold other cs
  all_same some other NoMore each = refl
  all_same some other (Also c cs) each =
      ap₂ (λ (a b : Bool). a && b)
      (holds_same some other c (λ agent reg is. each agent reg (left_true (asks c agent reg) (some_asks cs agent reg) is)))
      (all_same some other cs (λ agent reg is. each agent reg (right_true (asks c agent reg) (some_asks cs agent reg) is)))

-- a register that has the same value by two functions of names has so in two outcomes by them
pub valued_same : (names : List (ℕ × ℕ)) (f g : ℕ × ℕ → ℕ) (agent reg : ℕ)
    → ((name : ℕ × ℕ) (k : ℕ) → slice_get names k ≡ Some name → name.0 ≡ agent → name.1 ≡ reg → f name ≡ g name)
    → value_in (zip names (map f names)) agent reg ≡ value_in (zip names (map g names)) agent reg
valued_same [] f g agent reg each = refl
valued_same (name ∷ names) f g agent reg each =
    by (name.0 == agent) (name.1 == reg) refl refl
    (valued_same names f g agent reg (λ other k at is_agent is_reg. each other (suc k) at is_agent is_reg))
  where
    rest_of : (ℕ × ℕ → ℕ) → ℕ
    rest_of h = value_in (zip names (map h names)) agent reg

    by : (a b : Bool) → (name.0 == agent) ≡ a → (name.1 == reg) ≡ b → rest_of f ≡ rest_of g
        → cond (a && b) (f name) (rest_of f) ≡ cond (a && b) (g name) (rest_of g)
    by true true is_agent is_reg later = each name 0 refl (eqb-true _ _ is_agent) (eqb-true _ _ is_reg)
    by true false is_agent is_reg later = later
    by false b is_agent is_reg later = later
