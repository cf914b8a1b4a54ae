-- The remaining statements from the next access on, where an `if` is decided, and how many they are.
use Rattle.lit_interleave.proofs.Words.{◌+◌, ◌++◌, ◌<◌, [], access_or, accesses, after_statement, ap, AreStatementsIn, arith, Bool, Bor}
use Rattle.lit_interleave.proofs.Words.{ChoosesPart, compares, Contents, End, false, from_access, from_access_in, If, if◌then◌else◌}
use Rattle.lit_interleave.proofs.Words.{is_access, IsStatementIn, joined_all, joined_statements, length, List, Progress, refl, slice_index}
use Rattle.lit_interleave.proofs.Words.{Statement, statement_accesses, statement_of, Statements, statements_of, Stmt, subst, suc, sym}
use Rattle.lit_interleave.proofs.Words.{Then, true, ℕ, ◌∙◌, ◌∷◌, ◌≡◌, ◌≤◌}
use Rattle.lit_interleave.specs.Interleaving.{after}

-- ---- statements, and then others
pub joined_end : (ss : Statements) → joined_statements ss End ≡ ss
joined_end End = refl
joined_end (Then s ss) = ap (λ (x : Statements). Then s x) (joined_end ss)

pub joined_again : (a b c : Statements) → joined_statements a (joined_statements b c) ≡ joined_statements (joined_statements a b) c
joined_again End b c = refl
joined_again (Then s ss) b c = ap (λ (x : Statements). Then s x) (joined_again ss b c)

pub joined_all-more : (lists : List (Bor (List Stmt))) (list : Bor (List Stmt)) (others : Statements) → joined_all (lists ++ list ∷ []) others ≡ joined_statements (statements_of list.now) (joined_all lists others)
joined_all-more [] list others = refl
joined_all-more (l ∷ lists) list others = joined_all-more lists list (joined_statements (statements_of l.now) others)

pub said-joined : (bytes : ℕ) (a b : Statements) → AreStatementsIn bytes a → AreStatementsIn bytes b → AreStatementsIn bytes (joined_statements a b)
said-joined bytes End b p q = q
said-joined bytes (Then s ss) b p q = (p.0, said-joined bytes ss b p.1 q)

-- ---- induction on the remaining statements from the next access on
module _ (registers : List ℕ) (One : Statement → Statements → Type 0) (Each : Statements → Statements → Type 0)
    (access : (s : Statement) → is_access s ≡ true → One s (Then s End))
    (part : (reg : ℕ) (equal : Bool) (value : ℕ) (body other : Statements) (b : Bool)
    → compares equal (slice_index registers reg) value ≡ b → (left : Statements)
    → Each (if b then body else other) left → One (If reg equal value body other) left)
    (none : Each End End) (past : (s : Statement) (ss left : Statements) → One s End → Each ss left → Each (Then s ss) left)
    (first : (s : Statement) (ss : Statements) (x : Statement) (more : Statements) → One s (Then x more)
    → Each (Then s ss) (Then x (joined_statements more ss))) where
  mutual
    one_from : (s : Statement) → One s (from_access_in registers s)
    one_from (If reg equal value body other) =
        (elim (compares equal (slice_index registers reg) value) as (λ b. compares equal (slice_index registers reg) value ≡ b
        → One (If reg equal value body other) (if b then from_access registers body else from_access registers other)) [
          | true ↦ λ is. part reg equal value body other true is (from_access registers body) (each_from body)
          | false ↦ λ is. part reg equal value body other false is (from_access registers other) (each_from other)
        ]) refl
    one_from s = access s refl

    pub each_from : (ss : Statements) → Each ss (from_access registers ss)
    each_from End = none
    each_from (Then s ss) =
        (elim (from_access_in registers s) as (λ a. One s a → Each (Then s ss) (access_or a ss (from_access registers ss))) [
          | End ↦ λ p. past s ss (from_access registers ss) p (each_from ss)
          | Then x more ↦ λ p. first s ss x more p
        ]) (one_from s)

-- ---- the next access of joined_statements statements
regrouped : (a ss k x y z : Statements) → y ≡ access_or x k z → access_or a (joined_statements ss k) y ≡ access_or (access_or a ss x) k z
regrouped End ss k x y z is = is
regrouped (Then s more) ss k x y z is = ap (λ (x : Statements). Then s x) (joined_again more ss k)

pub from_access-joined : (registers : List ℕ) (a k : Statements) → from_access registers (joined_statements a k) ≡ access_or (from_access registers a) k (from_access registers k)
from_access-joined registers End k = refl
from_access-joined registers (Then s ss) k =
    regrouped (from_access_in registers s) ss k (from_access registers ss) (from_access registers (joined_statements ss k)) (from_access registers k) (from_access-joined registers ss k)

-- an access is the next one itself
pub from_access-is : (registers : List ℕ) (s : Statement) → is_access s ≡ true → from_access_in registers s ≡ Then s End
from_access-is registers (If reg equal value body other) is = absurd (let e : false ≡ true = is in cc)
from_access-is registers s is = refl

pub from_access-then : (registers : List ℕ) (s : Statement) (ss : Statements) → is_access s ≡ true → from_access registers (Then s ss) ≡ Then s ss
from_access-then registers s ss is = ap (λ (x : Statements). access_or x ss (from_access registers ss)) (from_access-is registers s is)

-- an `if` has that of the part chosen
pub from_access-part : (registers : List ℕ) (s : Statement) (part k : Statements) → ChoosesPart registers s part → from_access registers (Then s k) ≡ from_access registers (joined_statements part k)
from_access-part registers s part k c =
    rw (c.is, from_access-joined registers part k, c.chosen) (elim (compares c.equal (slice_index registers c.reg) c.value) as (λ b.
    access_or (if b then from_access registers c.body else from_access registers c.other) k (from_access registers k)
    ≡ access_or (from_access registers (if b then c.body else c.other)) k (from_access registers k)) [ true ↦ refl | false ↦ refl ])

pub said-part : (bytes : ℕ) (registers : List ℕ) (s : Statement) (part : Statements) → ChoosesPart registers s part → IsStatementIn bytes s → AreStatementsIn bytes part
said-part bytes registers s part c said =
    let h = subst (IsStatementIn bytes) c.is said in
    rw c.chosen (elim (compares c.equal (slice_index registers c.reg) c.value) as
    (λ b. AreStatementsIn bytes (if b then c.body else c.other)) [
      | true ↦ h.2
      | false ↦ h.3
    ])

-- ---- how many statements remain
abbrev mutual
  pub statement_size : Statement → ℕ
  statement_size (If reg equal value body other) = size_of body + size_of other + 2
  statement_size s = 1

  pub size_of : Statements → ℕ
  size_of End = 0
  size_of (Then s ss) = statement_size s + size_of ss

pub size_of-joined : (a b : Statements) → size_of (joined_statements a b) ≡ size_of a + size_of b
size_of-joined End b = omega arith
size_of-joined (Then s ss) b = omega (arith, size_of-joined ss b)

pub size_of-part : (registers : List ℕ) (s : Statement) (part : Statements) → ChoosesPart registers s part → size_of part + 2 ≤ statement_size s
size_of-part registers s part c = rw (c.is, c.chosen) (elim (compares c.equal (slice_index registers c.reg) c.value) as
    (λ b. size_of (if b then c.body else c.other) + 2 ≤ size_of c.body + size_of c.other + 2)
    [ true ↦ omega arith | false ↦ omega arith ])

pub size_from : (registers : List ℕ) (ss : Statements) → size_of (from_access registers ss) ≤ size_of ss
size_from registers = each_from registers (λ s left. size_of left ≤ statement_size s) (λ ss left. size_of left ≤ size_of ss)
    (λ s is. omega arith)
    (λ reg equal value body other b is left. elim b as (λ b. size_of left ≤ size_of (if b then body else other)
    → size_of left ≤ size_of body + size_of other + 2) [ true ↦ λ p. omega (arith, p) | false ↦ λ p. omega (arith, p) ])
    (omega arith)
    (λ s ss left none rest. omega (arith, rest))
    (λ s ss x more p. omega (arith, p, size_of-joined more ss))

some_size : (s : Statement) → 1 ≤ statement_size s
some_size (If reg equal value body other) = omega arith
some_size s = omega arith

-- fewer remain behind the next access
pub size_less : (registers : List ℕ) (ss : Statements) (s : Statement) (more : Statements) → from_access registers ss ≡ Then s more → size_of more < size_of ss
size_less registers ss s more is = omega (arith, size_from registers ss, ap size_of is, some_size s)

-- of lists one in the other
abbrev pub lists_size : List (Bor (List Stmt)) → ℕ
lists_size [] = 0
lists_size (list ∷ lists) = size_of (statements_of list.now) + 1 + lists_size lists

pub lists_size-more : (lists : List (Bor (List Stmt))) (list : Bor (List Stmt)) → lists_size (lists ++ list ∷ []) ≡ lists_size lists + (size_of (statements_of list.now) + 1)
lists_size-more [] list = omega arith
lists_size-more (l ∷ lists) list = omega (arith, lists_size-more lists list)

-- ---- one list taken out, and put back without its first statement
pub opened : (old rest : List (Bor (List Stmt))) (list : Bor (List Stmt)) → old ≡ rest ++ list ∷ [] → joined_all old End ≡ joined_statements (statements_of list.now) (joined_all rest End)
opened old rest list is = rw is (joined_all-more rest list End)

pub met : (old rest pushed : List (Bor (List Stmt))) (list others : Bor (List Stmt)) (first : Stmt) → old ≡ rest ++ list ∷ [] → list.now ≡ first ∷ others.now → pushed ≡ rest ++ others ∷ []
    → joined_all old End ≡ Then (statement_of first) (joined_all pushed End)
met old rest pushed list others first was is now =
    opened old rest list was ∙ ap (λ (xs : List Stmt). joined_statements (statements_of xs) (joined_all rest End)) is ∙ ap (λ (ss : Statements). Then (statement_of first) ss) (sym (opened pushed rest others now))

pub met-size : (old rest pushed : List (Bor (List Stmt))) (list others : Bor (List Stmt)) (first : Stmt) → old ≡ rest ++ list ∷ [] → list.now ≡ first ∷ others.now → pushed ≡ rest ++ others ∷ []
    → lists_size old ≡ statement_size (statement_of first) + lists_size pushed
met-size old rest pushed list others first was is now =
    omega (arith, ap lists_size was, lists_size-more rest list, ap (λ (xs : List Stmt). size_of (statements_of xs)) is, ap lists_size now, lists_size-more rest others)

pub none_left : (xs : List Stmt) → length xs ≡ 0 → statements_of xs ≡ End
none_left [] none = refl
none_left (x ∷ xs) none = absurd (omega (arith, none))

-- ---- what is said of the remaining statements
pub said_from : (bytes : ℕ) (registers : List ℕ) (ss : Statements) → AreStatementsIn bytes ss → AreStatementsIn bytes (from_access registers ss)
said_from bytes registers = each_from registers (λ s left. IsStatementIn bytes s → AreStatementsIn bytes left)
    (λ ss left. AreStatementsIn bytes ss → AreStatementsIn bytes left)
    (λ s is said. (said, tt))
    (λ reg equal value body other b is left. elim b as (λ b.
    (AreStatementsIn bytes (if b then body else other) → AreStatementsIn bytes left)
    → IsStatementIn bytes (If reg equal value body other) → AreStatementsIn bytes left)
    [ true ↦ λ p said. p said.2 | false ↦ λ p said. p said.3 ])
    (λ said. tt)
    (λ s ss left none rest said. rest said.1)
    (λ s ss x more p said. let first = p said.0 in (first.0, said-joined bytes more ss first.1 said.1))

-- ---- all remaining statements
pub after-joined : (a b : Statements) (c : Contents) → after (joined_statements a b) c ≡ after b (after a c)
after-joined End b c = refl
after-joined (Then s ss) b c = after-joined ss b (after_statement s c)

-- ---- how many accesses statements make
accesses-joined : (a b : Statements) (c : Contents) → accesses (joined_statements a b) c ≡ accesses a c + accesses b (after a c)
accesses-joined End b c = omega arith
accesses-joined (Then s ss) b c = omega (arith, accesses-joined ss b (after_statement s c))

made_itself : (s : Statement) (c : Contents) → is_access s ≡ true → accesses (Then s End) c ≡ statement_accesses s c
made_itself s c is = omega arith

-- an access, and then others
pub one_access : (s : Statement) (ss : Statements) (c : Contents) → is_access s ≡ true → accesses (Then s ss) c ≡ suc (accesses ss (after_statement s c))
one_access (If reg equal value body other) ss c is = absurd (let e : false ≡ true = is in cc)
one_access s ss c is = omega arith

-- an `if` changes nothing before the next access, and makes none
same_from : (c : Contents) (ss : Statements) → (accesses (from_access c.registers ss) c ≡ accesses ss c)
    × (after (from_access c.registers ss) c ≡ after ss c)
same_from c = each_from c.registers (λ s left. (accesses left c ≡ statement_accesses s c) × (after left c ≡ after_statement s c))
    (λ ss left. (accesses left c ≡ accesses ss c) × (after left c ≡ after ss c))
    (λ s is. (made_itself s c is, refl))
    (λ reg equal value body other b is left. rw is (elim b as (λ b.
    (accesses left c ≡ accesses (if b then body else other) c) × (after left c ≡ after (if b then body else other) c)
    → (accesses left c ≡ (if b then accesses body c else accesses other c))
    × (after left c ≡ (if b then after body c else after other c))) [
      | true ↦ λ p. p
      | false ↦ λ p. p
    ]))
    (refl, refl)
    (λ s ss left none rest. (omega (arith, rest.0, none.0, ap (accesses ss) none.1), rest.1 ∙ ap (after ss) none.1))
    (λ s ss x more p. (
      omega (arith, p.0, accesses-joined more ss (after_statement x c), ap (accesses ss) p.1),
      after-joined more ss (after_statement x c) ∙ ap (after ss) p.1,
    ))

pub after_from : (ss : Statements) (c : Contents) → after (from_access c.registers ss) c ≡ after ss c
after_from ss c = (same_from c ss).1

pub accesses_from : (ss : Statements) (c : Contents) → accesses (from_access c.registers ss) c ≡ accesses ss c
accesses_from ss c = (same_from c ss).0

-- the next access carried out, and then all statements behind it
pub after_next : (p : Progress) (block : List ℕ) (s : Statement) (left : Statements) (now : Contents) → from_access p.registers p.left ≡ Then s left
    → now ≡ after_statement s (record { block = block; registers = p.registers }) → after left now ≡ after p.left (record { block = block; registers = p.registers })
after_next p block s left now is done =
    let c : Contents = record { block = block; registers = p.registers } in
    ap (after left) done ∙ ap (λ (ss : Statements). after ss c) (sym is) ∙ after_from p.left c
