-- The statements that make the events of a walk, found by the guards of the walk.
use Rattle.std.proofs.Common.{◌≡◌, ℕ, ◌+◌, ◌-◌, ◌*◌, ◌<◌, ◌≤◌, Bool, true, false, cond, List, [], ◌∷◌, ◌++◌, length, get_or, max, inl, inr, refl, sym, ap, subst, ◌∙◌, arith, append_assoc, mul-le-mul}
use Rattle.std.proofs.lemmas.List.{append-nil, length-append}
use Rattle.std.proofs.Math.Nat.{mul-add, add-mul}
use Rattle.lit_syntax.specs.declared.syntax.Stmt.{Stmt}
use Rattle.lit_syntax.specs.Syntax.{Statement, Statements, Load, Store, Exchange, CompareExchange, If, End, Then, Litmus, agent_of}
use Rattle.lit_syntax.specs.Litmus.{statement_of, statements_of}
use Rattle.lit_syntax.specs.StatementOrder.{count_with_parts, statement_count}
use Rattle.lit_paths.specs.declared.path.Tested.{Tested}
use Rattle.lit_paths.specs.Path.{Step, IfMet, walks_of, statement_walks}
use Rattle.lit_paths.specs.Members.{IsStatementWalk, IsWalk}
use Rattle.lit_paths.specs.PathModel.{guards_at, guards_after, guards_on, asked, access_count}
use Rattle.lit_paths.specs.StatementNumbers.{AreStatementMakers, AreMakers}
use Rattle.lit_paths.specs.Internal.Makers.{asks_equal, guards_behind, holds_where, statement_makers, makers_by_guards}
use Rattle.lit_paths.specs.Internal.Walks.{longest, statement_longest, AreShort}
use Rattle.lit_paths.proofs.AgentPaths.{longest-agent_of, count-agent_of}
use Rattle.lit_paths.proofs.Parts.{statements_left, statements_end}
use Rattle.lit_paths.proofs.Stepping.{left_of}
use Rattle.lit_paths.proofs.PathSteps.{access_count-append}
use Rattle.lit_paths.proofs.Walks.{length-walks_of, length-walks-if, walks_of-some, statement_walks-some}

-- ---- what is found are the makers

guards_after-append : (before a b : List Step) → guards_after before (a ++ b) ≡ guards_after before a ++ guards_after (before ++ a) b
guards_after-append before [] b = ap (λ (xs : List Step). guards_after xs b) (sym (append-nil before))
guards_after-append before (step ∷ a) b =
    ap (λ (ts : List Tested). guards_at before step ++ ts) (guards_after-append (before ++ step ∷ []) a b ∙ ap (λ (xs : List Step). guards_after (before ++ step ∷ []) a ++ guards_after xs b) (append_assoc before (step ∷ []) a))
    ∙ sym (append_assoc (guards_at before step) (guards_after (before ++ step ∷ []) a) (guards_after (before ++ step ∷ a) b))

holds_where-asked : (equal holds : Bool) → holds_where equal (asked equal holds) ≡ holds
holds_where-asked true true = refl
holds_where-asked true false = refl
holds_where-asked false true = refl
holds_where-asked false false = refl

-- what is found, with these guards after it
abbrev AreFoundAt : ℕ → Statement → List Step → List Tested → List ℕ × List Tested → Type 0
AreFoundAt n s steps later found = AreStatementMakers n s steps found.0 × (found.1 ≡ later)

abbrev pub AreFound : ℕ → Statements → List Step → List Tested → List ℕ × List Tested → Type 0
AreFound n ss steps later found = AreMakers n ss steps found.0 × (found.1 ≡ later)

joined : (n : ℕ) (s : Statement) (ss : Statements) (steps first rest : List Step) (later guards between : List Tested) → steps ≡ first ++ rest
    → AreFoundAt n s first between (statement_makers n s guards) → AreFound (n + count_with_parts s) ss rest later (makers_by_guards (n + count_with_parts s) ss between)
    → AreFound n (Then s ss) steps later (makers_by_guards n (Then s ss) guards)
joined n s ss steps first rest later guards between split early late =
    let same : AreFound (n + count_with_parts s) ss rest later (makers_by_guards (n + count_with_parts s) ss (statement_makers n s guards).1) = rw early.1 late in
    ((first, rest, (statement_makers n s guards).0, (makers_by_guards (n + count_with_parts s) ss (statement_makers n s guards).1).0, split, refl, early.0, same.0), same.1)

mutual
  found_at : (n : ℕ) (s : Statement) (before steps : List Step) (later : List Tested) → IsStatementWalk s steps → AreFoundAt n s steps later (statement_makers n s (guards_after before steps ++ later))
  found_at n (Load r w i a) before steps later h = rw h ((refl, refl), refl)
  found_at n (Store w i v a) before steps later h = rw h ((refl, refl), refl)
  found_at n (Exchange r w i v) before steps later h = rw h ((refl, refl), refl)
  found_at n (CompareExchange r w i e v) before steps later h = rw h.1 ((h.0, refl, refl), refl)
  found_at n (If r e v body other) before steps later (inl h) = rw h.1 (rw (holds_where-asked e true) (let inner = found (n + 1) body (before ++ IfMet r e v true ∷ []) h.0 later h.2 in (inl (h.0, refl, inner.0), inner.1)))
  found_at n (If r e v body other) before steps later (inr h) = rw h.1 (rw (holds_where-asked e false) (let inner = found (n + 1 + statement_count body) other (before ++ IfMet r e v false ∷ []) h.0 later h.2 in (inr (h.0, refl, inner.0), inner.1)))

  pub found : (n : ℕ) (ss : Statements) (before steps : List Step) (later : List Tested) → IsWalk ss steps → AreFound n ss steps later (makers_by_guards n ss (guards_after before steps ++ later))
  found n End before steps later h = rw h ((refl, refl), refl)
  found n (Then s ss) before steps later h =
      let first = found_at n s before h.0 (guards_after (before ++ h.0) h.1 ++ later) h.3 in
      let rest = found (n + count_with_parts s) ss (before ++ h.0) h.1 later h.4 in
      let guards : guards_after before steps ++ later ≡ guards_after before h.0 ++ (guards_after (before ++ h.0) h.1 ++ later) =
      ap (λ (xs : List Step). guards_after before xs ++ later) h.2 ∙ ap (λ (ts : List Tested). ts ++ later) (guards_after-append before h.0 h.1) ∙ append_assoc (guards_after before h.0) (guards_after (before ++ h.0) h.1) later in
      rw guards (joined n s ss steps h.0 h.1 later (guards_after before h.0 ++ (guards_after (before ++ h.0) h.1 ++ later)) (guards_after (before ++ h.0) h.1 ++ later) h.2 first rest)

makers_found : (ss : Statements) (steps : List Step) (guards : List Tested) → IsWalk ss steps → guards ≡ guards_on steps → AreMakers 0 ss steps (makers_by_guards 0 ss guards).0
makers_found ss steps guards walk is =
    let none : List Tested = [] in
    let whole : guards_after [] steps ++ none ≡ guards = append-nil (guards_after [] steps) ∙ sym is in
    subst (λ (ts : List Tested). AreMakers 0 ss steps (makers_by_guards 0 ss ts).0) whole (found 0 ss [] steps none walk).0

-- ---- how many there are

mutual
  statement_makers_counted : (n : ℕ) (s : Statement) (steps : List Step) (ms : List ℕ) → AreStatementMakers n s steps ms → length ms ≡ access_count steps
  statement_makers_counted n (Load r w i a) steps ms h = rw (h.0, h.1) refl
  statement_makers_counted n (Store w i v a) steps ms h = rw (h.0, h.1) refl
  statement_makers_counted n (Exchange r w i v) steps ms h = rw (h.0, h.1) refl
  statement_makers_counted n (CompareExchange r w i e v) steps ms h = rw (h.1, h.2) refl
  statement_makers_counted n (If r e v body other) steps ms (inl h) = omega (arith, makers_counted (n + 1) body h.0 ms h.2, ap access_count h.1)
  statement_makers_counted n (If r e v body other) steps ms (inr h) = omega (arith, makers_counted (n + 1 + statement_count body) other h.0 ms h.2, ap access_count h.1)

  pub makers_counted : (n : ℕ) (ss : Statements) (steps : List Step) (ms : List ℕ) → AreMakers n ss steps ms → length ms ≡ access_count steps
  makers_counted n End steps ms h = rw (h.0, h.1) refl
  makers_counted n (Then s ss) steps ms h =
      let early = statement_makers_counted n s h.0 h.2 h.6 in
      let late = makers_counted (n + count_with_parts s) ss h.1 h.3 h.7 in
      omega (arith, ap access_count h.4, access_count-append h.0 h.1, ap (λ (xs : List ℕ). length xs) h.5, length-append h.2 h.3, early, late)

-- ---- how many there may be

mutual
  statement_makers_few : (n : ℕ) (s : Statement) (guards : List Tested) → length (statement_makers n s guards).0 ≤ statement_longest s
  statement_makers_few n (Load r w i a) guards = omega arith
  statement_makers_few n (Store w i v a) guards = omega arith
  statement_makers_few n (Exchange r w i v) guards = omega arith
  statement_makers_few n (CompareExchange r w i e v) guards = omega arith
  statement_makers_few n (If r e v body other) guards =
      by (holds_where e (asks_equal guards)) (makers_few (n + 1) body (guards_behind guards)) (makers_few (n + 1 + statement_count body) other (guards_behind guards))
    where
      by : (x : Bool) → length (makers_by_guards (n + 1) body (guards_behind guards)).0 ≤ longest body → length (makers_by_guards (n + 1 + statement_count body) other (guards_behind guards)).0 ≤ longest other
          → length (cond x (makers_by_guards (n + 1) body (guards_behind guards)) (makers_by_guards (n + 1 + statement_count body) other (guards_behind guards))).0 ≤ max (longest body) (longest other)
      by true then_few else_few = omega (arith, then_few)
      by false then_few else_few = omega (arith, else_few)

  makers_few : (n : ℕ) (ss : Statements) (guards : List Tested) → length (makers_by_guards n ss guards).0 ≤ longest ss
  makers_few n End guards = omega arith
  makers_few n (Then s ss) guards =
      let late = makers_few (n + count_with_parts s) ss (statement_makers n s guards).1 in
      omega (arith, length-append (statement_makers n s guards).0 (makers_by_guards (n + count_with_parts s) ss (statement_makers n s guards).1).0, statement_makers_few n s guards, late)

-- ---- one statement more

-- What is found so far, with what is found in the remaining statements, is what is found in all of them.
pub record IsFinding (xs : List Stmt) (first : ℕ) (guards : List Tested) (begun : List ℕ) (i number : ℕ) (left : List Tested) (makers : List ℕ) : Type 0 where
  pub whole : makers ++ (makers_by_guards number (left_of xs i) left).0 ≡ begun ++ (makers_by_guards first (statements_of xs) guards).0
  pub rest : (makers_by_guards number (left_of xs i) left).1 ≡ (makers_by_guards first (statements_of xs) guards).1
  pub count : number + statement_count (left_of xs i) ≡ first + statement_count (statements_of xs)
  pub room : length makers + longest (left_of xs i) ≤ length begun + longest (statements_of xs)

pub finding_begins : (xs : List Stmt) (first : ℕ) (guards : List Tested) (begun : List ℕ) → IsFinding xs first guards begun 0 first guards begun
finding_begins xs first guards begun = record { whole = refl; rest = refl; count = refl; room = omega arith }

-- a statement among those that are still to come
pub record IsNextStatement (xs : List Stmt) (i : ℕ) (s : Statement) : Type 0 where
  pub split : left_of xs i ≡ Then s (left_of xs (i + 1))
  pub count : statement_count (left_of xs i) ≡ count_with_parts s + statement_count (left_of xs (i + 1))
  pub long : longest (left_of xs i) ≡ statement_longest s + longest (left_of xs (i + 1))

pub is_next : (xs : List Stmt) (i : ℕ) (x : Stmt) → i < length xs → x ≡ get_or xs i x → IsNextStatement xs i (statement_of x)
is_next xs i x inside is = let split = statements_left xs i x inside is in record { split = split; count = ap statement_count split; long = ap longest split }

pub finding_more : (xs : List Stmt) (first : ℕ) (guards : List Tested) (begun : List ℕ) (i number : ℕ) (left : List Tested) (makers : List ℕ) (x : Stmt) (number' : ℕ) (left' : List Tested) (makers' : List ℕ)
    → i < length xs → x ≡ get_or xs i x → makers' ≡ makers ++ (statement_makers number (statement_of x) left).0 → left' ≡ (statement_makers number (statement_of x) left).1 → number' ≡ number + count_with_parts (statement_of x)
    → IsFinding xs first guards begun i number left makers → IsFinding xs first guards begun (i + 1) number' left' makers'
finding_more xs first guards begun i number left makers x number' left' makers' inside is put left_is number_is f =
    let s : Statement = statement_of x in
    let others : Statements = left_of xs (i + 1) in
    let next = is_next xs i x inside is in
    let found_left : List Tested = (statement_makers number s left).1 in
    let both : makers_by_guards number (left_of xs i) left ≡ ((statement_makers number s left).0 ++ (makers_by_guards (number + count_with_parts s) others found_left).0, (makers_by_guards (number + count_with_parts s) others found_left).1) =
    ap (λ (ss : Statements). makers_by_guards number ss left) next.split in
    let here : makers_by_guards number' others left' ≡ makers_by_guards (number + count_with_parts s) others found_left = ap (λ (n : ℕ). makers_by_guards n others left') number_is ∙ ap (λ (ts : List Tested). makers_by_guards (number + count_with_parts s) others ts) left_is in
    record {
      whole = ap (λ (p : List ℕ × List Tested). makers' ++ p.0) here ∙ ap (λ (ms : List ℕ). ms ++ (makers_by_guards (number + count_with_parts s) others found_left).0) put
          ∙ append_assoc makers (statement_makers number s left).0 (makers_by_guards (number + count_with_parts s) others found_left).0 ∙ ap (λ (p : List ℕ × List Tested). makers ++ p.0) (sym both) ∙ f.whole;
      rest = ap (λ (p : List ℕ × List Tested). p.1) here ∙ ap (λ (p : List ℕ × List Tested). p.1) (sym both) ∙ f.rest;
      count = omega (arith, number_is, next.count, f.count);
      room = omega (arith, ap (λ (ms : List ℕ). length ms) put, length-append makers (statement_makers number s left).0, statement_makers_few number s left, next.long, f.room);
    }

pub finding_ends : (xs : List Stmt) (first : ℕ) (guards : List Tested) (begun : List ℕ) (i number : ℕ) (left : List Tested) (makers : List ℕ) → length xs ≤ i → IsFinding xs first guards begun i number left makers
    → (makers ≡ begun ++ (makers_by_guards first (statements_of xs) guards).0) × (left ≡ (makers_by_guards first (statements_of xs) guards).1)
finding_ends xs first guards begun i number left makers past f =
    let none : makers_by_guards number (left_of xs i) left ≡ ([], left) = ap (λ (ss : Statements). makers_by_guards number ss left) (statements_end xs i past) in (
      sym (append-nil makers) ∙ ap (λ (p : List ℕ × List Tested). makers ++ p.0) (sym none) ∙ f.whole,
      ap (λ (p : List ℕ × List Tested). p.1) (sym none) ∙ f.rest,
    )

-- ---- the numbers fit

both_few : (a b p q c d : ℕ) → 1 ≤ a → 1 ≤ b → c + 1 ≤ a * (p + 1) → d + 1 ≤ b * (q + 1) → (c + d) + 1 ≤ (a * b) * ((p + q) + 1)
both_few a b p q c d some more early late =
    let ap_le : a * p ≤ (a * b) * p = mul-le-mul (let le : a ≤ a * b = omega (arith, mul-le-mul (let same : a ≤ a = omega arith in same) more) in le) (let le : p ≤ p = omega arith in le) in
    let bq_le : b * q ≤ (a * b) * q = mul-le-mul (let le : b ≤ a * b = omega (arith, mul-le-mul some (let same : b ≤ b = omega arith in same)) in le) (let le : q ≤ q = omega arith in le) in
    omega (arith, early, late, mul-add a p 1, mul-add b q 1, mul-add (a * b) (p + q) 1, mul-add (a * b) p q, ap_le, bq_le, sum_few a b some more)
  where
    sum_few : (x y : ℕ) → 1 ≤ x → 1 ≤ y → x + y ≤ x * y + 1
    sum_few x y one two =
        let step : (x - 1) * 1 ≤ (x - 1) * y = mul-le-mul (let le : x - 1 ≤ x - 1 = omega arith in le) two in
        let split : ((x - 1) + 1) * y ≡ (x - 1) * y + 1 * y = add-mul (x - 1) 1 y in
        let same : (x - 1) + 1 ≡ x = omega (arith, one) in
        let product : x * y ≡ (x - 1) * y + 1 * y = ap (λ n. n * y) (sym same) ∙ split in
        omega (arith, step, product, one, two)

mutual
  statement_few : (s : Statement) → count_with_parts s + 1 ≤ length (statement_walks s) * (statement_longest s + 1)
  statement_few (Load r w i a) = omega arith
  statement_few (Store w i v a) = omega arith
  statement_few (Exchange r w i v) = omega arith
  statement_few (CompareExchange r w i e v) = omega arith
  statement_few (If r e v body other) =
      let most : ℕ = max (longest body) (longest other) + 1 in
      let first : length (walks_of body) * (longest body + 1) ≤ length (walks_of body) * most = mul-le-mul (let le : length (walks_of body) ≤ length (walks_of body) = omega arith in le) (let le : longest body + 1 ≤ most = omega arith in le) in
      let second : length (walks_of other) * (longest other + 1) ≤ length (walks_of other) * most = mul-le-mul (let le : length (walks_of other) ≤ length (walks_of other) = omega arith in le) (let le : longest other + 1 ≤ most = omega arith in le) in
      let whole : length (statement_walks (If r e v body other)) * most ≡ length (walks_of body) * most + length (walks_of other) * most =
      ap (λ n. n * most) (length-walks-if r e v body other) ∙ add-mul (length (walks_of body)) (length (walks_of other)) most in
      omega (arith, statements_few body, statements_few other, first, second, whole)

  pub statements_few : (ss : Statements) → statement_count ss + 1 ≤ length (walks_of ss) * (longest ss + 1)
  statements_few End = omega arith
  statements_few (Then s ss) =
      let both = both_few (length (statement_walks s)) (length (walks_of ss)) (statement_longest s) (longest ss) (count_with_parts s) (statement_count ss) (statement_walks-some s) (walks_of-some ss) (statement_few s) (statements_few ss) in
      omega (arith, both, ap (λ n. n * (longest (Then s ss) + 1)) (length-walks_of s ss))

-- ---- an `if`, by its parts

pub found-then : (n : ℕ) (s : Statement) (reg : ℕ) (equal : Bool) (value : ℕ) (body other : Statements) (guards left : List Tested) (asked_equal holds : Bool) → s ≡ If reg equal value body other
    → asked_equal ≡ asks_equal guards → holds ≡ holds_where equal asked_equal → left ≡ guards_behind guards → holds ≡ true → statement_makers n s guards ≡ makers_by_guards (n + 1) body left
found-then n s reg equal value body other guards left asked_equal holds is asks by_asked behind so_holds =
    let so : holds_where equal (asks_equal guards) ≡ true = ap (holds_where equal) (sym asks) ∙ sym by_asked ∙ so_holds in
    ap (λ x. statement_makers n x guards) is
    ∙ ap (λ (b : Bool). cond b (makers_by_guards (n + 1) body (guards_behind guards)) (makers_by_guards (n + 1 + statement_count body) other (guards_behind guards))) so
    ∙ ap (makers_by_guards (n + 1) body) (sym behind)

pub found-else : (n next : ℕ) (s : Statement) (reg : ℕ) (equal : Bool) (value : ℕ) (body other : Statements) (guards left : List Tested) (asked_equal holds : Bool) → s ≡ If reg equal value body other
    → asked_equal ≡ asks_equal guards → holds ≡ holds_where equal asked_equal → left ≡ guards_behind guards → holds ≡ false → next ≡ n + 1 + statement_count body → statement_makers n s guards ≡ makers_by_guards next other left
found-else n next s reg equal value body other guards left asked_equal holds is asks by_asked behind so_fails next_is =
    let so : holds_where equal (asks_equal guards) ≡ false = ap (holds_where equal) (sym asks) ∙ sym by_asked ∙ so_fails in
    ap (λ x. statement_makers n x guards) is
    ∙ ap (λ (b : Bool). cond b (makers_by_guards (n + 1) body (guards_behind guards)) (makers_by_guards (n + 1 + statement_count body) other (guards_behind guards))) so
    ∙ ap (λ m. makers_by_guards m other (guards_behind guards)) (sym next_is) ∙ ap (makers_by_guards next other) (sym behind)

pub agent_few : (t : Litmus) (agent : ℕ) → agent < length t.agents → AreShort t.agents → statement_count (agent_of t agent).body < 102400
agent_few t agent inside short =
    let few : length (walks_of (agent_of t agent).body) ≤ 4096 = omega (arith, count-agent_of t agent inside, short.few) in
    let long : longest (agent_of t agent).body + 1 ≤ 25 = omega (arith, longest-agent_of t agent inside, short.short) in
    omega (arith, statements_few (agent_of t agent).body, mul-le-mul few long)

pub makers_all_found : (ss body : Statements) (steps : List Step) (guards : List Tested) (begun new : List ℕ) → begun ≡ [] → ss ≡ body → new ≡ begun ++ (makers_by_guards 0 ss guards).0 → guards ≡ guards_on steps → IsWalk body steps
    → AreMakers 0 body steps new
makers_all_found ss body steps guards begun new none same put is walk =
    let items : new ≡ (makers_by_guards 0 body guards).0 = put ∙ ap (λ (xs : List ℕ). xs ++ (makers_by_guards 0 ss guards).0) none ∙ ap (λ x. (makers_by_guards 0 x guards).0) same in
    subst (λ (ms : List ℕ). AreMakers 0 body steps ms) (sym items) (makers_found body steps guards walk is)
