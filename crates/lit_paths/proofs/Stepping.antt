-- Walking on by the number of a walk, statement by statement.
use Rattle.std.proofs.Common.{◌≡◌, ℕ, zero, suc, ◌+◌, ◌*◌, ◌/◌, ◌%◌, ◌<◌, ◌≤◌, Bool, true, false, List, [], ◌∷◌, ◌++◌, length, map, flat_map, get_or, drop, slice_get, Some, arith, refl, sym, ap, ◌∙◌, subst, min, max, mul-le-mul, div-lt_iff_lt-mul}
use Rattle.std.proofs.lemmas.List.{length-map}
use Rattle.std.proofs.lemmas.Option.{slice_get-get_or, slice_get_within, get_or_from_slice_get}
use Rattle.lit_syntax.specs.declared.syntax.Stmt.{Stmt}
use Rattle.lit_syntax.specs.Syntax.{Statement, Statements, Then, End, Load, Store, Exchange, CompareExchange, If, IsStatementIn, AreStatementsIn}
use Rattle.lit_syntax.specs.Litmus.{statement_of, statements_of}
use Rattle.lit_paths.specs.Path.{Step, IfMet, walks_of, statement_walks}
use Rattle.lit_paths.specs.PathModel.{PathModel}
use Rattle.lit_paths.specs.Internal.PathSteps.{with_step, with_steps}
use Rattle.lit_paths.specs.Internal.Walks.{IsSaid, AreSaid, longest, statement_longest, walk_at, statement_walk_at}
use Rattle.lit_paths.proofs.Products.{next_places, slice_get_left, slice_get_right}
use Rattle.lit_paths.proofs.Rising.{slice_get-map-found}
use Rattle.lit_paths.proofs.Walks.{length-walks_of, length-walks-if, walks_of-some, statement_walks-some}
use Rattle.lit_paths.proofs.Parts.{statements_left}

joined-at : (rests firsts : List (List Step)) (i j n : ℕ) (x y : List Step) → n ≡ i * length rests + j → slice_get firsts i ≡ Some x → slice_get rests j ≡ Some y
    → slice_get (flat_map (λ first. map (λ rest. first ++ rest) rests) firsts) n ≡ Some (x ++ y)
joined-at rests [] i j n x y e here there = cc
joined-at rests (z ∷ firsts) zero j n x y e here there =
    let inside : j < length rests = slice_get_within rests j y there in
    let at : n ≡ j = omega (arith, e) in
    let same : z ≡ x = cc in
    ap (λ k. slice_get (flat_map (λ first. map (λ rest. first ++ rest) rests) (z ∷ firsts)) k) at
    ∙ slice_get_left (map (λ rest. z ++ rest) rests) (flat_map (λ first. map (λ rest. first ++ rest) rests) firsts) j (omega (arith, length-map rests (λ rest. z ++ rest)))
    ∙ slice_get-map-found (λ rest. z ++ rest) rests j y there
    ∙ ap (λ (w : List Step). Some (w ++ y)) same
joined-at rests (z ∷ firsts) (suc i) j n x y e here there =
    slice_get_right (map (λ rest. z ++ rest) rests) (flat_map (λ first. map (λ rest. first ++ rest) rests) firsts) n (i * length rests + j) (omega (arith, e, length-map rests (λ rest. z ++ rest)))
    ∙ joined-at rests firsts i j (i * length rests + j) x y refl here there

-- the index of the first statement's walk
pub first_index : (s : Statement) (ss : Statements) (n : ℕ) → n < length (walks_of (Then s ss)) → n / length (walks_of ss) < length (statement_walks s)
first_index s ss n inside =
    let some : 0 < length (walks_of ss) = omega (arith, walks_of-some ss) in
    (div-lt_iff_lt-mul {k = length (walks_of ss)} {x = n} {y = length (statement_walks s)} some).1 (omega (arith, inside, length-walks_of s ss))

pub walk_at-then : (s : Statement) (ss : Statements) (n : ℕ) → n < length (walks_of (Then s ss))
    → walk_at (Then s ss) n ≡ statement_walk_at s (n / length (walks_of ss)) ++ walk_at ss (n % length (walks_of ss))
walk_at-then s ss n inside =
    let some : 0 < length (walks_of ss) = omega (arith, walks_of-some ss) in
    let index : ℕ = n / length (walks_of ss) in
    let place : ℕ = n % length (walks_of ss) in
    let within : place < length (walks_of ss) = omega (arith, some) in
    get_or_from_slice_get (walks_of (Then s ss)) n (statement_walk_at s index ++ walk_at ss place) []
    (joined-at (walks_of ss) (statement_walks s) index place n (statement_walk_at s index) (walk_at ss place) (omega (arith, some))
    (slice_get-get_or (statement_walks s) index [] (first_index s ss n inside)) (slice_get-get_or (walks_of ss) place [] within))

pub walk_at-then_part : (reg : ℕ) (equal : Bool) (value : ℕ) (body other : Statements) (n : ℕ) → n < length (walks_of body)
    → statement_walk_at (If reg equal value body other) n ≡ IfMet reg equal value true ∷ walk_at body n
walk_at-then_part reg equal value body other n inside =
    let arm : List Step → List Step = λ a. IfMet reg equal value true ∷ a in
    get_or_from_slice_get (statement_walks (If reg equal value body other)) n (arm (walk_at body n)) []
    (slice_get_left (map arm (walks_of body)) (map (λ a. IfMet reg equal value false ∷ a) (walks_of other)) n (omega (arith, inside, length-map (walks_of body) arm))
    ∙ slice_get-map-found arm (walks_of body) n (walk_at body n) (slice_get-get_or (walks_of body) n [] inside))

pub walk_at-else_part : (reg : ℕ) (equal : Bool) (value : ℕ) (body other : Statements) (n k : ℕ) → n ≡ length (walks_of body) + k → k < length (walks_of other)
    → statement_walk_at (If reg equal value body other) n ≡ IfMet reg equal value false ∷ walk_at other k
walk_at-else_part reg equal value body other n k is inside =
    let arm : List Step → List Step = λ a. IfMet reg equal value false ∷ a in
    get_or_from_slice_get (statement_walks (If reg equal value body other)) n (arm (walk_at other k)) []
    (slice_get_right (map (λ a. IfMet reg equal value true ∷ a) (walks_of body)) (map arm (walks_of other)) n k (omega (arith, is, length-map (walks_of body) (λ a. IfMet reg equal value true ∷ a)))
    ∙ slice_get-map-found arm (walks_of other) k (walk_at other k) (slice_get-get_or (walks_of other) k [] inside))

pub with_steps-append : (owner : ℕ) (path : PathModel) (a b : List Step) → with_steps owner path (a ++ b) ≡ with_steps owner (with_steps owner path a) b
with_steps-append owner path [] b = refl
with_steps-append owner path (step ∷ steps) b = with_steps-append owner (with_step owner path step) steps b

-- ---- the remaining statements
pub AreSaid-left : (xs : List Stmt) (i : ℕ) (x : Stmt) → i < length xs → x ≡ get_or xs i x → AreSaid (statements_of xs) → IsSaid (statement_of x)
AreSaid-left xs i x inside is said = (said.0, said.1, here xs i x inside is said.2)
  where
    here : (ys : List Stmt) (k : ℕ) (y : Stmt) → k < length ys → y ≡ get_or ys k y → AreStatementsIn said.0 (statements_of ys) → IsStatementIn said.0 (statement_of y)
    here [] k y inside is are = absurd (omega (arith, inside))
    here (z ∷ ys) zero y inside is are = subst (λ (w : Stmt). IsStatementIn said.0 (statement_of w)) (sym is) are.0
    here (z ∷ ys) (suc k) y inside is are = here ys k y (omega (arith, inside)) is are.1

abbrev pub left_of : List Stmt → ℕ → Statements
left_of xs i = statements_of (drop i xs)

-- Walking on from here by this number is the whole walk.
pub record IsOnWay (owner : ℕ) (xs : List Stmt) (number : ℕ) (begun : PathModel) (i left : ℕ) (path : PathModel) : Type 0 where
  pub same : with_steps owner path (walk_at (left_of xs i) left) ≡ with_steps owner begun (walk_at (statements_of xs) number)
  pub known : left < length (walks_of (left_of xs i))
  pub few : length (walks_of (left_of xs i)) ≤ length (walks_of (statements_of xs))
  pub room : length path.events + longest (left_of xs i) ≤ length begun.events + longest (statements_of xs)

-- where the walk is at a statement
pub record IsHere (xs : List Stmt) (i left later k : ℕ) (s : Statement) : Type 0 where
  pub later_is : later ≡ length (walks_of (left_of xs (i + 1)))
  pub some : 0 < later
  pub index : left / later < length (statement_walks s)
  pub few : length (statement_walks s) ≤ k
  pub count : length (walks_of (left_of xs i)) ≡ length (statement_walks s) * length (walks_of (left_of xs (i + 1)))
  pub long : longest (left_of xs i) ≡ statement_longest s + longest (left_of xs (i + 1))

-- a statement has the walks that are counted, where all statements have few
counted-here : (owner : ℕ) (xs : List Stmt) (number : ℕ) (begun : PathModel) (i left count k : ℕ) (path : PathModel) (x : Stmt)
    → i < length xs → x ≡ get_or xs i x → length (walks_of (statements_of xs)) ≤ k → count ≡ min (length (statement_walks (statement_of x))) (k + 1)
    → IsOnWay owner xs number begun i left path
    → (count ≡ length (statement_walks (statement_of x))) × (count ≤ k) × (length (walks_of (left_of xs i)) ≡ count * length (walks_of (left_of xs (i + 1))))
counted-here owner xs number begun i left count k path x inside is few counted way =
    let s : Statement = statement_of x in
    let rest : Statements = left_of xs (i + 1) in
    let whole : length (walks_of (left_of xs i)) ≡ length (statement_walks s) * length (walks_of rest) = ap (λ ss. length (walks_of ss)) (statements_left xs i x inside is) ∙ length-walks_of s rest in
    let upper : length (statement_walks s) * 1 ≤ length (statement_walks s) * length (walks_of rest) =
    mul-le-mul (let le : length (statement_walks s) ≤ length (statement_walks s) = omega arith in le) (walks_of-some rest) in
    let exact : count ≡ length (statement_walks s) = omega (arith, counted, upper, whole, few, way.few) in
    (exact, omega (arith, exact, upper, whole, few, way.few), whole ∙ ap (λ n. n * length (walks_of rest)) (sym exact))

pub here-on_way : (owner : ℕ) (xs : List Stmt) (number : ℕ) (begun : PathModel) (i left ways count k : ℕ) (path : PathModel) (x : Stmt)
    → i < length xs → x ≡ get_or xs i x → length (walks_of (statements_of xs)) ≤ k → count ≡ min (length (statement_walks (statement_of x))) (k + 1)
    → ways ≡ length (walks_of (left_of xs i)) → IsOnWay owner xs number begun i left path → IsHere xs i left (ways / count) k (statement_of x)
here-on_way owner xs number begun i left ways count k path x inside is few counted whole way =
    let s : Statement = statement_of x in
    let rest : Statements = left_of xs (i + 1) in
    let split : left_of xs i ≡ Then s rest = statements_left xs i x inside is in
    let known = counted-here owner xs number begun i left count k path x inside is few counted way in
    let later_some : 1 ≤ length (walks_of rest) = walks_of-some rest in
    let later_is : ways / count ≡ length (walks_of rest) = next_places ways count (length (walks_of rest)) 0 (whole ∙ known.2) (omega (arith, whole, way.known)) in
    record {
      later_is = later_is;
      some = omega (arith, later_is, later_some);
      index = subst (λ (m : ℕ). left / m < length (statement_walks s)) (sym later_is) (first_index s rest left (subst (λ (ss : Statements). left < length (walks_of ss)) split way.known));
      few = omega (arith, known.0, known.1);
      count = known.2 ∙ ap (λ n. n * length (walks_of rest)) known.0;
      long = ap longest split;
    }

pub on_way_more : (owner : ℕ) (xs : List Stmt) (number : ℕ) (begun : PathModel) (i left later k : ℕ) (path new : PathModel) (x : Stmt)
    → i < length xs → x ≡ get_or xs i x → IsHere xs i left later k (statement_of x)
    → new ≡ with_steps owner path (statement_walk_at (statement_of x) (left / later)) → length new.events ≤ length path.events + statement_longest (statement_of x)
    → IsOnWay owner xs number begun i left path → IsOnWay owner xs number begun (i + 1) (left % later) new
on_way_more owner xs number begun i left later k path new x inside is here walked short way =
    let s : Statement = statement_of x in
    let rest : Statements = left_of xs (i + 1) in
    let split : left_of xs i ≡ Then s rest = statements_left xs i x inside is in
    let known : left < length (walks_of (Then s rest)) = subst (λ (ss : Statements). left < length (walks_of ss)) split way.known in
    let both : walk_at (left_of xs i) left ≡ statement_walk_at s (left / later) ++ walk_at rest (left % later) =
    ap (λ ss. walk_at ss left) split ∙ walk_at-then s rest left known ∙ ap (λ m. statement_walk_at s (left / m) ++ walk_at rest (left % m)) (sym here.later_is) in
    let lower : 1 * length (walks_of rest) ≤ length (statement_walks s) * length (walks_of rest) = mul-le-mul (statement_walks-some s) (let le : length (walks_of rest) ≤ length (walks_of rest) = omega arith in le) in
    record {
      same = ap (λ t. with_steps owner t (walk_at rest (left % later))) walked
          ∙ sym (with_steps-append owner path (statement_walk_at s (left / later)) (walk_at rest (left % later)))
          ∙ ap (λ w. with_steps owner path w) (sym both) ∙ way.same;
      known = let less : left % later < later = omega (arith, here.some) in omega (arith, less, here.later_is);
      few = omega (arith, lower, here.count, way.few);
      room = omega (arith, short, here.long, way.room);
    }

-- ---- an `if`, by its parts
-- The statement is an `if` with these parts.
pub record IsIf (s : Statement) (reg : ℕ) (equal : Bool) (value : ℕ) (body other : Statements) : Type 0 where
  pub is : s ≡ If reg equal value body other
  pub count : length (statement_walks s) ≡ length (walks_of body) + length (walks_of other)
  pub long : statement_longest s ≡ max (longest body) (longest other)

pub if_known : (s : Statement) (reg : ℕ) (equal : Bool) (value : ℕ) (body other : Statements) → s ≡ If reg equal value body other → IsIf s reg equal value body other
if_known s reg equal value body other is = record {
  is = is;
  count = ap (λ x. length (statement_walks x)) is ∙ length-walks-if reg equal value body other;
  long = ap statement_longest is;
}

pub said-then : (s : Statement) (reg : ℕ) (equal : Bool) (value : ℕ) (body other : Statements) → IsIf s reg equal value body other → IsSaid s → AreSaid body
said-then s reg equal value body other known said = (said.0, said.1, (subst (λ (x : Statement). IsStatementIn said.0 x) known.is said.2).2)

pub said-else : (s : Statement) (reg : ℕ) (equal : Bool) (value : ℕ) (body other : Statements) → IsIf s reg equal value body other → IsSaid s → AreSaid other
said-else s reg equal value body other known said = (said.0, said.1, (subst (λ (x : Statement). IsStatementIn said.0 x) known.is said.2).3)

pub walked-then : (owner : ℕ) (s : Statement) (reg : ℕ) (equal : Bool) (value : ℕ) (body other : Statements) (n : ℕ) (path asked new : PathModel)
    → IsIf s reg equal value body other → n < length (walks_of body) → asked ≡ with_step owner path (IfMet reg equal value true)
    → new ≡ with_steps owner asked (walk_at body n) → new ≡ with_steps owner path (statement_walk_at s n)
walked-then owner s reg equal value body other n path asked new known inside put walked =
    walked ∙ ap (λ t. with_steps owner t (walk_at body n)) put
    ∙ ap (λ w. with_steps owner path w) (sym (walk_at-then_part reg equal value body other n inside) ∙ sym (ap (λ x. statement_walk_at x n) known.is))

pub walked-else : (owner : ℕ) (s : Statement) (reg : ℕ) (equal : Bool) (value : ℕ) (body other : Statements) (n k : ℕ) (path asked new : PathModel)
    → IsIf s reg equal value body other → n ≡ length (walks_of body) + k → k < length (walks_of other) → asked ≡ with_step owner path (IfMet reg equal value false)
    → new ≡ with_steps owner asked (walk_at other k) → new ≡ with_steps owner path (statement_walk_at s n)
walked-else owner s reg equal value body other n k path asked new known is inside put walked =
    walked ∙ ap (λ t. with_steps owner t (walk_at other k)) put
    ∙ ap (λ w. with_steps owner path w) (sym (walk_at-else_part reg equal value body other n k is inside) ∙ sym (ap (λ x. statement_walk_at x n) known.is))

-- ---- the measure of the recursion
abbrev mutual
  pub statement_size : Statement → ℕ
  statement_size (Load reg window index atomic) = 0
  statement_size (Store window index value atomic) = 0
  statement_size (Exchange reg window index value) = 0
  statement_size (CompareExchange reg window index expected value) = 0
  statement_size (If reg equal value body other) = 1 + (size_of body + size_of other)

  pub size_of : Statements → ℕ
  size_of End = 0
  size_of (Then s ss) = statement_size s + size_of ss

pub size_of-item : (xs : List Stmt) (i : ℕ) (x : Stmt) → i < length xs → x ≡ get_or xs i x → statement_size (statement_of x) ≤ size_of (statements_of xs)
size_of-item [] i x inside is = absurd (omega (arith, inside))
size_of-item (y ∷ xs) zero x inside is = omega (arith, ap (λ (z : Stmt). statement_size (statement_of z)) is)
size_of-item (y ∷ xs) (suc i) x inside is = omega (arith, size_of-item xs i x (omega (arith, inside)) is)

pub size_of-parts : (s : Statement) (reg : ℕ) (equal : Bool) (value : ℕ) (body other : Statements) → IsIf s reg equal value body other
    → statement_size s ≡ 1 + (size_of body + size_of other)
size_of-parts s reg equal value body other known = ap statement_size known.is
