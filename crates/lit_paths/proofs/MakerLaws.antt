-- What holds of the statements that make the events of a walk.
use Rattle.std.proofs.Common.{◌≡◌, ℕ, zero, suc, ◌+◌, ◌<◌, ◌≤◌, Bool, true, false, List, [], ◌∷◌, ◌++◌, length, map, slice_get, Some, inl, inr, refl, sym, ap, subst, ◌∙◌, arith, append_assoc}
use Rattle.std.specs.List.{AllByRecursion}
use Rattle.std.proofs.lemmas.List.{map-append}
use Rattle.std.proofs.lemmas.Option.{slice_get_within}
use Rattle.lit_syntax.specs.Syntax.{Statement, Statements, Load, Store, Exchange, CompareExchange, If, End, Then}
use Rattle.lit_syntax.specs.Forms.{Form, StatementLine, IfLine}
use Rattle.lit_syntax.specs.StatementOrder.{count_with_parts, statement_count, statement_begun, statements_begun}
use Rattle.lit_syntax.proofs.CountLemmas.{statement_counted, statements_counted}
use Rattle.lit_paths.specs.declared.path.Tested.{Tested}
use Rattle.lit_paths.specs.Path.{Step, LoadMet, StoreMet, ExchangeMet, CompareExchangeMet, IfMet}
use Rattle.lit_paths.specs.Members.{IsWalk}
use Rattle.lit_paths.specs.PathModel.{guards_after}
use Rattle.lit_paths.specs.StatementNumbers.{AreStatementMakers, AreMakers, accesses_met}
use Rattle.lit_paths.specs.Internal.Makers.{makers_by_guards}
use Rattle.lit_paths.proofs.MakerSteps.{found}
use Rattle.lit_paths.proofs.Products.{slice_get_left, slice_get_right}

-- ---- they rise

-- the numbers rise strictly, from low on and below high
abbrev Climb : ℕ → ℕ → List ℕ → Type 0
Climb low high [] = low ≤ high
Climb low high (m ∷ ms) = (low ≤ m) × (m < high) × Climb (m + 1) high ms

climb_from : (low first high : ℕ) (ms : List ℕ) → low ≤ first → Climb first high ms → Climb low high ms
climb_from low first high [] le h = omega (arith, le, h)
climb_from low first high (m ∷ ms) le h = (omega (arith, le, h.0), h.1, h.2)

climb_below : (low high top : ℕ) (ms : List ℕ) → high ≤ top → Climb low high ms → Climb low top ms
climb_below low high top [] le h = omega (arith, le, h)
climb_below low high top (m ∷ ms) le h = (h.0, omega (arith, le, h.1), climb_below (m + 1) high top ms le h.2)

climb_on : (low middle high : ℕ) (ms ns : List ℕ) → middle ≤ high → Climb low middle ms → Climb middle high ns → Climb low high (ms ++ ns)
climb_on low middle high [] ns le h g = climb_from low middle high ns h g
climb_on low middle high (m ∷ ms) ns le h g = (h.0, omega (arith, h.1, le), climb_on (m + 1) middle high ms ns le h.2 g)

climb_one : (n high : ℕ) (ms : List ℕ) → n < high → ms ≡ n ∷ [] → Climb n high ms
climb_one n high ms lt e = rw e (let le : n ≤ n = omega arith in let next : n + 1 ≤ high = omega (arith, lt) in (le, lt, next))

mutual
  statement_climb : (n : ℕ) (s : Statement) (steps : List Step) (ms : List ℕ) → AreStatementMakers n s steps ms → Climb n (n + count_with_parts s) ms
  statement_climb n (Load r w i a) steps ms h = climb_one n (n + 1) ms (omega arith) h.1
  statement_climb n (Store w i v a) steps ms h = climb_one n (n + 1) ms (omega arith) h.1
  statement_climb n (Exchange r w i v) steps ms h = climb_one n (n + 1) ms (omega arith) h.1
  statement_climb n (CompareExchange r w i e v) steps ms h = climb_one n (n + 1) ms (omega arith) h.2
  statement_climb n (If r e v body other) steps ms (inl h) =
      climb_below n ((n + 1) + statement_count body) (n + count_with_parts (If r e v body other)) ms (omega arith)
      (climb_from n (n + 1) ((n + 1) + statement_count body) ms (omega arith) (climb (n + 1) body h.0 ms h.2))
  statement_climb n (If r e v body other) steps ms (inr h) =
      climb_below n ((n + 1 + statement_count body) + statement_count other) (n + count_with_parts (If r e v body other)) ms (omega arith)
      (climb_from n (n + 1 + statement_count body) ((n + 1 + statement_count body) + statement_count other) ms (omega arith) (climb (n + 1 + statement_count body) other h.0 ms h.2))

  climb : (n : ℕ) (ss : Statements) (steps : List Step) (ms : List ℕ) → AreMakers n ss steps ms → Climb n (n + statement_count ss) ms
  climb n End steps ms h = rw h.1 (let le : n ≤ n + 0 = omega arith in le)
  climb n (Then s ss) steps ms h =
      let early = statement_climb n s h.0 h.2 h.6 in
      let late = climb (n + count_with_parts s) ss h.1 h.3 h.7 in
      let end : (n + count_with_parts s) + statement_count ss ≡ n + statement_count (Then s ss) = omega arith in
      rw h.5 (climb_on n (n + count_with_parts s) (n + statement_count (Then s ss)) h.2 h.3 (omega arith) early (subst (λ (m : ℕ). Climb (n + count_with_parts s) m h.3) end late))

climb_all : (low high : ℕ) (ms : List ℕ) → Climb low high ms → AllByRecursion (λ m. m < high) ms
climb_all low high [] h = tt
climb_all low high (m ∷ ms) h = (h.1, climb_all (m + 1) high ms h.2)

climb_least : (low high : ℕ) (ms : List ℕ) (i m : ℕ) → Climb low high ms → slice_get ms i ≡ Some m → low ≤ m
climb_least low high [] i m h e = absurd cc
climb_least low high (x ∷ ms) zero m h e = let same : x ≡ m = cc in omega (arith, same, h.0)
climb_least low high (x ∷ ms) (suc i) m h e = omega (arith, h.0, climb_least (x + 1) high ms i m h.2 e)

climb_rises : (low high : ℕ) (ms : List ℕ) (i j m n : ℕ) → Climb low high ms → i < j → slice_get ms i ≡ Some m → slice_get ms j ≡ Some n → m < n
climb_rises low high [] i j m n h lt e g = absurd cc
climb_rises low high (x ∷ ms) i zero m n h lt e g = absurd (omega (arith, lt))
climb_rises low high (x ∷ ms) zero (suc j) m n h lt e g = let same : x ≡ m = cc in omega (arith, same, climb_least (x + 1) high ms j n h.2 g)
climb_rises low high (x ∷ ms) (suc i) (suc j) m n h lt e g = climb_rises (x + 1) high ms i j m n h.2 (omega (arith, lt)) e g

pub makers_known : (ss : Statements) (steps : List Step) (ms : List ℕ) → AreMakers 0 ss steps ms → AllByRecursion (λ m. m < statement_count ss) ms
makers_known ss steps ms h = subst (λ (k : ℕ). AllByRecursion (λ m. m < k) ms) (let e : 0 + statement_count ss ≡ statement_count ss = omega arith in e) (climb_all 0 (0 + statement_count ss) ms (climb 0 ss steps ms h))

pub makers_rise : (n : ℕ) (ss : Statements) (steps : List Step) (ms : List ℕ) (i j m k : ℕ) → AreMakers n ss steps ms → i < j → slice_get ms i ≡ Some m → slice_get ms j ≡ Some k → m < k
makers_rise n ss steps ms i j m k h = climb_rises n (n + statement_count ss) ms i j m k (climb n ss steps ms h)

-- ---- there is one list of them

pub makers_exist : (n : ℕ) (ss : Statements) (steps : List Step) → IsWalk ss steps → (ms : List ℕ) × AreMakers n ss steps ms
makers_exist n ss steps walk =
    let none : List Tested = [] in
    ((makers_by_guards n ss (guards_after [] steps ++ none)).0, (found n ss [] steps none walk).0)

-- two walks through the same have the same makers, and go on in the same way
abbrev AreSame : List ℕ → List ℕ → List Step → List Step → Type 0
AreSame ms ns xs ys = (ms ≡ ns) × (xs ≡ ys)

decided_one_way : (r : ℕ) (q : Bool) (v : ℕ) (xs ys : List Step) → IfMet r q v true ∷ xs ≡ IfMet r q v false ∷ ys → ⊥
decided_one_way r q v xs ys e = cc

step_parts : (a b : Step) (xs ys : List Step) → a ∷ xs ≡ b ∷ ys → (a ≡ b) × (xs ≡ ys)
step_parts a b xs ys e = (cc, cc)

after_one : (n : ℕ) (a b : Step) (first others rest more : List Step) (ms ns : List ℕ) → first ≡ a ∷ [] → others ≡ b ∷ [] → ms ≡ n ∷ [] → ns ≡ n ∷ [] → first ++ rest ≡ others ++ more → AreSame ms ns rest more
after_one n a b first others rest more ms ns f o m k e =
    let both : a ∷ rest ≡ b ∷ more = ap (λ (xs : List Step). xs ++ rest) (sym f) ∙ e ∙ ap (λ (xs : List Step). xs ++ more) o in
    (m ∙ sym k, (step_parts a b rest more both).1)

mutual
  statement_once : (n : ℕ) (s : Statement) (first others rest more : List Step) (ms ns : List ℕ) → AreStatementMakers n s first ms → AreStatementMakers n s others ns → first ++ rest ≡ others ++ more
      → AreSame ms ns rest more
  statement_once n (Load r w i a) first others rest more ms ns h g e = after_one n _ _ first others rest more ms ns h.0 g.0 h.1 g.1 e
  statement_once n (Store w i v a) first others rest more ms ns h g e = after_one n _ _ first others rest more ms ns h.0 g.0 h.1 g.1 e
  statement_once n (Exchange r w i v) first others rest more ms ns h g e = after_one n _ _ first others rest more ms ns h.0 g.0 h.1 g.1 e
  statement_once n (CompareExchange r w i x v) first others rest more ms ns h g e = after_one n _ _ first others rest more ms ns h.1 g.1 h.2 g.2 e
  statement_once n (If r q v body other) first others rest more ms ns (inl h) (inl g) e =
      statements_once (n + 1) body h.0 g.0 rest more ms ns h.2 g.2 (step_parts _ _ (h.0 ++ rest) (g.0 ++ more) (ap (λ (xs : List Step). xs ++ rest) (sym h.1) ∙ e ∙ ap (λ (xs : List Step). xs ++ more) g.1)).1
  statement_once n (If r q v body other) first others rest more ms ns (inr h) (inr g) e =
      statements_once (n + 1 + statement_count body) other h.0 g.0 rest more ms ns h.2 g.2 (step_parts _ _ (h.0 ++ rest) (g.0 ++ more) (ap (λ (xs : List Step). xs ++ rest) (sym h.1) ∙ e ∙ ap (λ (xs : List Step). xs ++ more) g.1)).1
  statement_once n (If r q v body other) first others rest more ms ns (inl h) (inr g) e =
      absurd (decided_one_way r q v (h.0 ++ rest) (g.0 ++ more) (ap (λ (xs : List Step). xs ++ rest) (sym h.1) ∙ e ∙ ap (λ (xs : List Step). xs ++ more) g.1))
  statement_once n (If r q v body other) first others rest more ms ns (inr h) (inl g) e =
      absurd (decided_one_way r q v (g.0 ++ more) (h.0 ++ rest) (sym (ap (λ (xs : List Step). xs ++ rest) (sym h.1) ∙ e ∙ ap (λ (xs : List Step). xs ++ more) g.1)))

  statements_once : (n : ℕ) (ss : Statements) (first others rest more : List Step) (ms ns : List ℕ) → AreMakers n ss first ms → AreMakers n ss others ns → first ++ rest ≡ others ++ more
      → AreSame ms ns rest more
  statements_once n End first others rest more ms ns h g e = (h.1 ∙ sym g.1, ap (λ (xs : List Step). xs ++ rest) (sym h.0) ∙ e ∙ ap (λ (xs : List Step). xs ++ more) g.0)
  statements_once n (Then s ss) first others rest more ms ns h g e =
      let here : h.0 ++ (h.1 ++ rest) ≡ g.0 ++ (g.1 ++ more) =
      sym (append_assoc h.0 h.1 rest) ∙ ap (λ (xs : List Step). xs ++ rest) (sym h.4) ∙ e ∙ ap (λ (xs : List Step). xs ++ more) g.4 ∙ append_assoc g.0 g.1 more in
      let one = statement_once n s h.0 g.0 (h.1 ++ rest) (g.1 ++ more) h.2 g.2 h.6 g.6 here in
      let later = statements_once (n + count_with_parts s) ss h.1 g.1 rest more h.3 g.3 h.7 g.7 one.1 in
      (h.5 ∙ ap (λ (xs : List ℕ). xs ++ h.3) one.0 ∙ ap (λ (xs : List ℕ). g.2 ++ xs) later.0 ∙ sym g.5, later.1)

pub makers_once : (n : ℕ) (ss : Statements) (steps : List Step) (ms ns : List ℕ) → AreMakers n ss steps ms → AreMakers n ss steps ns → ms ≡ ns
makers_once n ss steps ms ns h g = (statements_once n ss steps steps [] [] ms ns h g refl).0

-- ---- they are the accesses that are met

-- the forms from a place on
abbrev HasPart : List Form → ℕ → List Form → Type 0
HasPart all n part = (k : ℕ) (f : Form) → slice_get part k ≡ Some f → slice_get all (n + k) ≡ Some f

part_before : (all : List Form) (n : ℕ) (xs ys : List Form) → HasPart all n (xs ++ ys) → HasPart all n xs
part_before all n xs ys has k f e = has k f (slice_get_left xs ys k (slice_get_within xs k f e) ∙ e)

part_behind : (all : List Form) (n m : ℕ) (xs ys : List Form) → m ≡ n + length xs → HasPart all n (xs ++ ys) → HasPart all m ys
part_behind all n m xs ys at has k f e =
    ap (λ j. slice_get all j) (let same : m + k ≡ n + (length xs + k) = omega (arith, at) in same) ∙ has (length xs + k) f (slice_get_right xs ys (length xs + k) k refl ∙ e)

at_first : (all : List Form) (n : ℕ) (f : Form) → HasPart all n (f ∷ []) → slice_get all n ≡ Some f
at_first all n f has = ap (λ j. slice_get all j) (let same : n ≡ n + 0 = omega arith in same) ∙ has 0 f refl

accesses_met-append : (a b : List Step) → accesses_met (a ++ b) ≡ accesses_met a ++ accesses_met b
accesses_met-append [] b = refl
accesses_met-append (LoadMet r w i x ∷ a) b = ap (λ (l : List Statement). Load r w i x ∷ l) (accesses_met-append a b)
accesses_met-append (StoreMet w i v x ∷ a) b = ap (λ (l : List Statement). Store w i v x ∷ l) (accesses_met-append a b)
accesses_met-append (ExchangeMet r w i v ∷ a) b = ap (λ (l : List Statement). Exchange r w i v ∷ l) (accesses_met-append a b)
accesses_met-append (CompareExchangeMet r w i e v x ∷ a) b = ap (λ (l : List Statement). CompareExchange r w i e v ∷ l) (accesses_met-append a b)
accesses_met-append (IfMet r q v x ∷ a) b = accesses_met-append a b

abbrev AreMet : List Form → List ℕ → List Step → Type 0
AreMet all ms steps = map (λ m. slice_get all m) ms ≡ map (λ s. Some (StatementLine s)) (accesses_met steps)

met_one : (all : List Form) (n : ℕ) (s : Statement) (ms : List ℕ) (steps : List Step) → HasPart all n (StatementLine s ∷ []) → ms ≡ n ∷ [] → accesses_met steps ≡ s ∷ [] → AreMet all ms steps
met_one all n s ms steps has is met =
    ap (map (λ m. slice_get all m)) is ∙ ap (λ o. o ∷ []) (at_first all n (StatementLine s) has) ∙ ap (map (λ (x : Statement). Some (StatementLine x))) (sym met)

mutual
  statement_met : (all : List Form) (n : ℕ) (s : Statement) (steps : List Step) (ms : List ℕ) → HasPart all n (statement_begun s) → AreStatementMakers n s steps ms → AreMet all ms steps
  statement_met all n (Load r w i a) steps ms has h = met_one all n (Load r w i a) ms steps has h.1 (ap accesses_met h.0)
  statement_met all n (Store w i v a) steps ms has h = met_one all n (Store w i v a) ms steps has h.1 (ap accesses_met h.0)
  statement_met all n (Exchange r w i v) steps ms has h = met_one all n (Exchange r w i v) ms steps has h.1 (ap accesses_met h.0)
  statement_met all n (CompareExchange r w i e v) steps ms has h = met_one all n (CompareExchange r w i e v) ms steps has h.2 (ap accesses_met h.1)
  statement_met all n (If r q v body other) steps ms has (inl h) =
      let parts : HasPart all (n + 1) (statements_begun body ++ statements_begun other) = part_behind all n (n + 1) (IfLine r q v ∷ []) (statements_begun body ++ statements_begun other) (omega arith) has in
      statements_met all (n + 1) body h.0 ms (part_before all (n + 1) (statements_begun body) (statements_begun other) parts) h.2 ∙ ap (λ (xs : List Step). map (λ (x : Statement). Some (StatementLine x)) (accesses_met xs)) (sym h.1)
  statement_met all n (If r q v body other) steps ms has (inr h) =
      let parts : HasPart all (n + 1) (statements_begun body ++ statements_begun other) = part_behind all n (n + 1) (IfLine r q v ∷ []) (statements_begun body ++ statements_begun other) (omega arith) has in
      statements_met all (n + 1 + statement_count body) other h.0 ms
      (part_behind all (n + 1) (n + 1 + statement_count body) (statements_begun body) (statements_begun other) (omega (arith, statements_counted body)) parts) h.2
      ∙ ap (λ (xs : List Step). map (λ (x : Statement). Some (StatementLine x)) (accesses_met xs)) (sym h.1)

  statements_met : (all : List Form) (n : ℕ) (ss : Statements) (steps : List Step) (ms : List ℕ) → HasPart all n (statements_begun ss) → AreMakers n ss steps ms → AreMet all ms steps
  statements_met all n End steps ms has h = rw (h.0, h.1) refl
  statements_met all n (Then s ss) steps ms has h =
      let early = statement_met all n s h.0 h.2 (part_before all n (statement_begun s) (statements_begun ss) has) h.6 in
      let late = statements_met all (n + count_with_parts s) ss h.1 h.3 (part_behind all n (n + count_with_parts s) (statement_begun s) (statements_begun ss) (omega (arith, statement_counted s)) has) h.7 in
      rw (h.4, h.5)
      (map-append (λ m. slice_get all m) h.2 h.3 ∙ ap (λ l. l ++ map (λ m. slice_get all m) h.3) early ∙ ap (λ l. map (λ (x : Statement). Some (StatementLine x)) (accesses_met h.0) ++ l) late
      ∙ sym (map-append (λ (x : Statement). Some (StatementLine x)) (accesses_met h.0) (accesses_met h.1)) ∙ ap (map (λ (x : Statement). Some (StatementLine x))) (sym (accesses_met-append h.0 h.1)))

pub makers_met : (ss : Statements) (steps : List Step) (ms : List ℕ) → AreMakers 0 ss steps ms → map (λ m. slice_get (statements_begun ss) m) ms ≡ map (λ s. Some (StatementLine s)) (accesses_met steps)
makers_met ss steps ms h = statements_met (statements_begun ss) 0 ss steps ms (λ k f e. ap (λ j. slice_get (statements_begun ss) j) (let same : 0 + k ≡ k = omega arith in same) ∙ e) h
