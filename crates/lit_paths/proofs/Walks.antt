-- The list of the walks through statements has exactly the walks, by rising decisions, each once.
use Rattle.std.proofs.Common.{◌≡◌, ◌⊎◌, ℕ, zero, suc, ◌+◌, ◌-◌, ◌*◌, ◌<◌, ◌≤◌, Bool, true, false, List, [], ◌∷◌, ◌++◌, length, map, flat_map, slice_get, Some, arith, refl, sym, ap, ap₂, ◌∙◌, subst, inl, inr, ⊎_elim, length-append, mul-le-mul}
use Rattle.std.specs.Cmp.Lexicographic.{slice_cmp}
use Rattle.std.specs.Ordering.{nat_cmp, ordering_then}
use Rattle.std.specs.declared.cmp.Ordering.{Ordering}
use Rattle.std.specs.declared.cmp.Ordering.TheVariants.{Less}
use Rattle.std.proofs.lemmas.Bool.{cases_order, cases_lt}
use Rattle.std.proofs.lemmas.List.{length-map}
use Rattle.std.proofs.lemmas.Option.{slice_get_within}
use Rattle.lit_syntax.specs.Syntax.{Statement, Statements, Load, Store, Exchange, CompareExchange, If, End, Then}
use Rattle.lit_paths.specs.Path.{Step, LoadMet, StoreMet, ExchangeMet, CompareExchangeMet, IfMet, decision, decisions_on, statement_walks, walks_of}
use Rattle.lit_paths.specs.Members.{IsStatementWalk, IsWalk}
use Rattle.lit_paths.proofs.Products.{slice_get_left, slice_get_right}
use Rattle.lit_paths.proofs.Rising.{RisesBy, slice_get-map-known, slice_get-map-found, map-rises, append-rises, flat_map-known, flat_map-found, flat_map-rises, nat_cmp-less, nat_cmp-same}

-- ---- decisions
pub decisions_on-append : (first rest : List Step) → decisions_on (first ++ rest) ≡ decisions_on first ++ decisions_on rest
decisions_on-append [] rest = refl
decisions_on-append (LoadMet reg window index atomic ∷ steps) rest = decisions_on-append steps rest
decisions_on-append (StoreMet window index value atomic ∷ steps) rest = decisions_on-append steps rest
decisions_on-append (ExchangeMet reg window index value ∷ steps) rest = decisions_on-append steps rest
decisions_on-append (CompareExchangeMet reg window index expected value succeeds ∷ steps) rest = ap (λ ds. decision succeeds ∷ ds) (decisions_on-append steps rest)
decisions_on-append (IfMet reg equal value holds ∷ steps) rest = ap (λ ds. decision holds ∷ ds) (decisions_on-append steps rest)

-- two lists differ at some place, where the first has the lesser member
abbrev pub PartsBefore : List ℕ → List ℕ → Type 0
PartsBefore [] es = ⊥
PartsBefore (d ∷ ds) [] = ⊥
PartsBefore (d ∷ ds) (e ∷ es) = (d < e) ⊎ ((d ≡ e) × PartsBefore ds es)

pub parts-append : (ds es xs ys : List ℕ) → PartsBefore ds es → PartsBefore (ds ++ xs) (es ++ ys)
parts-append [] es xs ys h = absurd h
parts-append (d ∷ ds) [] xs ys h = absurd h
parts-append (d ∷ ds) (e ∷ es) xs ys h = elim h [ inl less ↦ inl less | inr same ↦ inr (same.0, parts-append ds es xs ys same.1) ]

pub parts-behind : (ps ds es : List ℕ) → PartsBefore ds es → PartsBefore (ps ++ ds) (ps ++ es)
parts-behind [] ds es h = h
parts-behind (p ∷ ps) ds es h = inr (refl, parts-behind ps ds es h)

pub parts-less : (ds es : List ℕ) → PartsBefore ds es → slice_cmp nat_cmp ds es ≡ Less
parts-less [] es h = absurd h
parts-less (d ∷ ds) [] h = absurd h
parts-less (d ∷ ds) (e ∷ es) h =
    elim h [
      | inl less ↦ ap (λ (o : Ordering). ordering_then o (slice_cmp nat_cmp ds es)) (nat_cmp-less d e less)
      | inr same ↦ ap₂ (λ (o p : Ordering). ordering_then o p) (ap (λ x. nat_cmp d x) (sym same.0) ∙ nat_cmp-same d) (parts-less ds es same.1)
    ]

pub parts-other : (ds : List ℕ) → PartsBefore ds ds → ⊥
parts-other [] h = h
parts-other (d ∷ ds) h = elim h [ inl less ↦ absurd (omega (arith, less)) | inr same ↦ parts-other ds same.1 ]

-- a walk parts from a later one
abbrev pub WalkBefore : List Step → List Step → Type 0
WalkBefore a b = PartsBefore (decisions_on a) (decisions_on b)

-- ---- each member of the list is a walk
mutual
  pub statement_walks-known : (s : Statement) (k : ℕ) (steps : List Step) → slice_get (statement_walks s) k ≡ Some steps → IsStatementWalk s steps
  statement_walks-known (Load reg window index atomic) zero steps at = let same : LoadMet reg window index atomic ∷ [] ≡ steps = cc in sym same
  statement_walks-known (Load reg window index atomic) (suc k) steps at = cc
  statement_walks-known (Store window index value atomic) zero steps at = let same : StoreMet window index value atomic ∷ [] ≡ steps = cc in sym same
  statement_walks-known (Store window index value atomic) (suc k) steps at = cc
  statement_walks-known (Exchange reg window index value) zero steps at = let same : ExchangeMet reg window index value ∷ [] ≡ steps = cc in sym same
  statement_walks-known (Exchange reg window index value) (suc k) steps at = cc
  statement_walks-known (CompareExchange reg window index expected value) zero steps at =
      let same : CompareExchangeMet reg window index expected value true ∷ [] ≡ steps = cc in (true, sym same)
  statement_walks-known (CompareExchange reg window index expected value) (suc zero) steps at =
      let same : CompareExchangeMet reg window index expected value false ∷ [] ≡ steps = cc in (false, sym same)
  statement_walks-known (CompareExchange reg window index expected value) (suc (suc k)) steps at = cc
  statement_walks-known (If reg equal value body other) k steps at =
      let then_part = map (λ arm. IfMet reg equal value true ∷ arm) (walks_of body) in
      let else_part = map (λ arm. IfMet reg equal value false ∷ arm) (walks_of other) in
      ⊎_elim
      (λ inside.
      let from = slice_get-map-known (λ arm. IfMet reg equal value true ∷ arm) (walks_of body) k steps (sym (slice_get_left then_part else_part k inside) ∙ at) in
      inl (from.0, sym from.2, walks_of-known body k from.0 from.1))
      (λ past.
      let from = slice_get-map-known (λ arm. IfMet reg equal value false ∷ arm) (walks_of other) (k - length then_part) steps (sym (slice_get_right then_part else_part k (k - length then_part) (omega (arith, past))) ∙ at) in
      inr (from.0, sym from.2, walks_of-known other (k - length then_part) from.0 from.1))
      (cases_lt k (length then_part))

  pub walks_of-known : (ss : Statements) (k : ℕ) (steps : List Step) → slice_get (walks_of ss) k ≡ Some steps → IsWalk ss steps
  walks_of-known End zero steps at = let none : List Step = [] in let same : none ≡ steps = cc in sym same
  walks_of-known End (suc k) steps at = cc
  walks_of-known (Then s ss) k steps at =
      let from = flat_map-known (λ first. map (λ rest. first ++ rest) (walks_of ss)) (statement_walks s) k steps at in
      let first : List Step = from.1 in
      let later = slice_get-map-known (λ rest. first ++ rest) (walks_of ss) from.2 steps from.4 in
      (first, later.0, sym later.2, statement_walks-known s from.0 first from.3, walks_of-known ss from.2 later.0 later.1)

-- ---- each walk is a member of the list
mutual
  pub statement_walks-found : (s : Statement) (steps : List Step) → IsStatementWalk s steps → (k : ℕ) × (slice_get (statement_walks s) k ≡ Some steps)
  statement_walks-found (Load reg window index atomic) steps is = (0, ap (λ x. Some x) (sym is))
  statement_walks-found (Store window index value atomic) steps is = (0, ap (λ x. Some x) (sym is))
  statement_walks-found (Exchange reg window index value) steps is = (0, ap (λ x. Some x) (sym is))
  statement_walks-found (CompareExchange reg window index expected value) steps is =
      elim is.0 as (λ b. (steps ≡ CompareExchangeMet reg window index expected value b ∷ []) → (k : ℕ) × (slice_get (statement_walks (CompareExchange reg window index expected value)) k ≡ Some steps))
      [ true ↦ λ same. (0, ap (λ x. Some x) (sym same)) | false ↦ λ same. (1, ap (λ x. Some x) (sym same)) ] is.1
  statement_walks-found (If reg equal value body other) steps is =
      let then_part = map (λ arm. IfMet reg equal value true ∷ arm) (walks_of body) in
      let else_part = map (λ arm. IfMet reg equal value false ∷ arm) (walks_of other) in
      elim is [
        | inl arm ↦
            let found = walks_of-found body arm.0 arm.2 in
            let at : slice_get then_part found.0 ≡ Some (IfMet reg equal value true ∷ arm.0) = slice_get-map-found (λ a. IfMet reg equal value true ∷ a) (walks_of body) found.0 arm.0 found.1 in
            (found.0, slice_get_left then_part else_part found.0 (slice_get_within then_part found.0 _ at) ∙ at ∙ ap (λ x. Some x) (sym arm.1))
        | inr arm ↦
            let found = walks_of-found other arm.0 arm.2 in
            let at : slice_get else_part found.0 ≡ Some (IfMet reg equal value false ∷ arm.0) = slice_get-map-found (λ a. IfMet reg equal value false ∷ a) (walks_of other) found.0 arm.0 found.1 in
            (length then_part + found.0, slice_get_right then_part else_part (length then_part + found.0) found.0 refl ∙ at ∙ ap (λ x. Some x) (sym arm.1))
      ]

  pub walks_of-found : (ss : Statements) (steps : List Step) → IsWalk ss steps → (k : ℕ) × (slice_get (walks_of ss) k ≡ Some steps)
  walks_of-found End steps is = (0, ap (λ x. Some x) (sym is))
  walks_of-found (Then s ss) steps is =
      let first : List Step = is.0 in
      let here = statement_walks-found s first is.3 in
      let later = walks_of-found ss is.1 is.4 in
      flat_map-found (λ f. map (λ rest. f ++ rest) (walks_of ss)) (statement_walks s) here.0 first later.0 steps here.1
      (slice_get-map-found (λ rest. first ++ rest) (walks_of ss) later.0 is.1 later.1 ∙ ap (λ x. Some x) (sym is.2))

-- ---- the list rises
single-rises : (steps : List Step) → RisesBy WalkBefore (steps ∷ [])
single-rises steps = λ i j a b less here there. absurd (omega (arith, less, slice_get_within (steps ∷ []) j b there))

-- of walks with the same beginning, or of those that begin with walks that part
front-rises : (first : List Step) (walks : List (List Step)) → RisesBy WalkBefore walks → RisesBy WalkBefore (map (λ rest. first ++ rest) walks)
front-rises first walks rises = map-rises WalkBefore WalkBefore (λ rest. first ++ rest) walks
    (λ a b before.
    let moved : PartsBefore (decisions_on first ++ decisions_on a) (decisions_on first ++ decisions_on b) = parts-behind (decisions_on first) (decisions_on a) (decisions_on b) before in
    subst (λ (ds : List ℕ). PartsBefore ds (decisions_on (first ++ b))) (sym (decisions_on-append first a))
    (subst (λ (ds : List ℕ). PartsBefore (decisions_on first ++ decisions_on a) ds) (sym (decisions_on-append first b)) moved))
    rises

walks-part : (a b x y : List Step) → WalkBefore a b → WalkBefore (a ++ x) (b ++ y)
walks-part a b x y before =
    subst (λ (ds : List ℕ). PartsBefore ds (decisions_on (b ++ y))) (sym (decisions_on-append a x))
    (subst (λ (ds : List ℕ). PartsBefore (decisions_on a ++ decisions_on x) ds) (sym (decisions_on-append b y))
    (parts-append (decisions_on a) (decisions_on b) (decisions_on x) (decisions_on y) before))

mutual
  pub statement_walks-rise : (s : Statement) → RisesBy WalkBefore (statement_walks s)
  statement_walks-rise (Load reg window index atomic) = single-rises _
  statement_walks-rise (Store window index value atomic) = single-rises _
  statement_walks-rise (Exchange reg window index value) = single-rises _
  statement_walks-rise (CompareExchange reg window index expected value) =
      let met : Bool → List Step = λ b. CompareExchangeMet reg window index expected value b ∷ [] in
      append-rises WalkBefore (met true ∷ []) (met false ∷ []) (single-rises (met true)) (single-rises (met false))
      (λ i j a b here there.
      let first : met true ≡ a = only i (met true) a here in
      let second : met false ≡ b = only j (met false) b there in
      subst (λ (x : List Step). WalkBefore x b) first (subst (λ (x : List Step). WalkBefore (met true) x) second (inl (omega arith))))
    where
      only : (i : ℕ) (x a : List Step) → slice_get (x ∷ []) i ≡ Some a → x ≡ a
      only zero x a at = cc
      only (suc i) x a at = cc
  statement_walks-rise (If reg equal value body other) =
      let arms : Bool → List Step → List Step = λ b arm. IfMet reg equal value b ∷ arm in
      append-rises WalkBefore (map (arms true) (walks_of body)) (map (arms false) (walks_of other))
      (map-rises WalkBefore WalkBefore (arms true) (walks_of body) (λ a b before. inr (refl, before)) (walks_of-rise body))
      (map-rises WalkBefore WalkBefore (arms false) (walks_of other) (λ a b before. inr (refl, before)) (walks_of-rise other))
      (λ i j a b here there.
      let first = slice_get-map-known (arms true) (walks_of body) i a here in
      let second = slice_get-map-known (arms false) (walks_of other) j b there in
      subst (λ (x : List Step). WalkBefore x b) first.2 (subst (λ (x : List Step). WalkBefore (arms true first.0) x) second.2 (inl (omega arith))))

  pub walks_of-rise : (ss : Statements) → RisesBy WalkBefore (walks_of ss)
  walks_of-rise End = single-rises []
  walks_of-rise (Then s ss) =
      let longer : List Step → List (List Step) = λ first. map (λ rest. first ++ rest) (walks_of ss) in
      flat_map-rises WalkBefore longer (statement_walks s) (λ i first at. front-rises first (walks_of ss) (walks_of-rise ss))
      (λ i j a b p q y z less here there first second.
      let from = slice_get-map-known (λ rest. a ++ rest) (walks_of ss) p y first in
      let to = slice_get-map-known (λ rest. b ++ rest) (walks_of ss) q z second in
      subst (λ (x : List Step). WalkBefore x z) from.2
      (subst (λ (x : List Step). WalkBefore (a ++ from.0) x) to.2 (walks-part a b from.0 to.0 (statement_walks-rise s i j a b less here there))))

-- ---- decisions determine the walk
pub walk-decided : (ss : Statements) (a b : List Step) → IsWalk ss a → IsWalk ss b → decisions_on a ≡ decisions_on b → a ≡ b
walk-decided ss a b first second same =
    let here = walks_of-found ss a first in
    let there = walks_of-found ss b second in
    ⊎_elim
    (λ one. let same_place : Some a ≡ Some b = sym here.1 ∙ ap (λ k. slice_get (walks_of ss) k) one ∙ there.1 in let is : a ≡ b = cc in is)
    (λ other. ⊎_elim
    (λ less. absurd (parts-other (decisions_on b) (subst (λ (ds : List ℕ). PartsBefore ds (decisions_on b)) same (walks_of-rise ss here.0 there.0 a b less here.1 there.1))))
    (λ more. absurd (parts-other (decisions_on b) (subst (λ (ds : List ℕ). PartsBefore (decisions_on b) ds) same (walks_of-rise ss there.0 here.0 b a more there.1 here.1))))
    other)
    (cases_order here.0 there.0)

-- ---- how many walks there are
length-joined : (firsts rests : List (List Step)) → length (flat_map (λ first. map (λ rest. first ++ rest) rests) firsts) ≡ length firsts * length rests
length-joined [] rests = omega arith
length-joined (first ∷ firsts) rests =
    length-append (map (λ rest. first ++ rest) rests) (flat_map (λ f. map (λ rest. f ++ rest) rests) firsts)
    ∙ omega (arith, length-map rests (λ rest. first ++ rest), length-joined firsts rests)

pub length-walks_of : (s : Statement) (ss : Statements) → length (walks_of (Then s ss)) ≡ length (statement_walks s) * length (walks_of ss)
length-walks_of s ss = length-joined (statement_walks s) (walks_of ss)

pub length-walks-if : (reg : ℕ) (equal : Bool) (value : ℕ) (body other : Statements)
    → length (statement_walks (If reg equal value body other)) ≡ length (walks_of body) + length (walks_of other)
length-walks-if reg equal value body other =
    length-append (map (λ arm. IfMet reg equal value true ∷ arm) (walks_of body)) (map (λ arm. IfMet reg equal value false ∷ arm) (walks_of other))
    ∙ omega (arith, length-map (walks_of body) (λ arm. IfMet reg equal value true ∷ arm), length-map (walks_of other) (λ arm. IfMet reg equal value false ∷ arm))

mutual
  pub statement_walks-some : (s : Statement) → 1 ≤ length (statement_walks s)
  statement_walks-some (Load reg window index atomic) = omega arith
  statement_walks-some (Store window index value atomic) = omega arith
  statement_walks-some (Exchange reg window index value) = omega arith
  statement_walks-some (CompareExchange reg window index expected value) = omega arith
  statement_walks-some (If reg equal value body other) = omega (arith, length-walks-if reg equal value body other, walks_of-some body)

  pub walks_of-some : (ss : Statements) → 1 ≤ length (walks_of ss)
  walks_of-some End = omega arith
  walks_of-some (Then s ss) = omega (arith, length-walks_of s ss, mul-le-mul (statement_walks-some s) (walks_of-some ss))
