-- The condition that the marks of a condition ask.
use Rattle.std.proofs.Common.{◌≡◌, ℕ, zero, suc, ◌+◌, ◌<◌, ◌≤◌, Bool, true, false, cond, leb, ◌&&◌, List, [], ◌∷◌, ◌++◌, Result, Ok, Err, refl, ap, sym, ◌∙◌, arith, append_assoc, add-one, add-zero}
use Rattle.std.specs.List.{list_all}
use Rattle.std.proofs.lemmas.Bool.{leb-true, leb-false, and_left}
use Rattle.std.proofs.lemmas.List.{append-nil}
use Rattle.std.proofs.lemmas.List.Folds.{list_all-append}
use Rattle.lit_read.specs.declared.fault.ReadKind.{ReadKind}
use Rattle.lit_read.specs.declared.fault.ReadKind.TheVariants.{TooDeep}
use Rattle.lit_syntax.specs.declared.limits.TheConstants.{DEPTH_LIMIT}
use Rattle.lit_syntax.specs.Syntax.{Condition, Conditions, Not, NoMore, Also, Agent}
use Rattle.lit_syntax.specs.Written.{Comparison, Operand, Compared, Negated, Grouped, Conjunction, Lone, Both, Written, Single, Either, operand_depths, conjunction_depths, written_depths, is_shallow}
use Rattle.lit_read.specs.Spelling.{operand_value, conjunction_value, written_value, operand_values, conjunction_values}
use Rattle.lit_read.specs.Internal.Marks.{Mark, Bang, Opens, Closes, Joins, Parts, Compares, operand_marks, conjunction_marks, written_marks}
use Rattle.lit_read.specs.Internal.Built.{Group, Groups, pushed, negated, all_of, any_of, with_operand, asked, empty_group, begun, build_step, and_then, build, numbered}

-- ---- lists

abbrev joined : Conditions → Conditions → Conditions
joined NoMore ds = ds
joined (Also c cs) ds = Also c (joined cs ds)

joined_one : (cs : Conditions) (c : Condition) → pushed cs c ≡ joined cs (Also c NoMore)
joined_one NoMore c = refl
joined_one (Also d ds) c = ap (λ (x : Conditions). Also d x) (joined_one ds c)

joined_more : (cs : Conditions) (c : Condition) (ds : Conditions) → joined (pushed cs c) ds ≡ joined cs (Also c ds)
joined_more NoMore c ds = refl
joined_more (Also d cs) c ds = ap (λ (x : Conditions). Also d x) (joined_more cs c ds)

negated_in : (n : ℕ) (c : Condition) → negated n (Not c) ≡ Not (negated n c)
negated_in zero c = refl
negated_in (suc n) c = ap (λ (x : Condition). Not x) (negated_in n c)

-- ---- depth

abbrev shallow : Comparison × ℕ → Bool
shallow p = leb p.1 DEPTH_LIMIT

too_high : (n : ℕ) → DEPTH_LIMIT < n → leb n DEPTH_LIMIT ≡ false
too_high n lt = by (leb n DEPTH_LIMIT) refl
  where
    by : (b : Bool) → leb n DEPTH_LIMIT ≡ b → b ≡ false
    by true e = let le : n ≤ DEPTH_LIMIT = leb-true _ _ e in absurd (omega arith)
    by false e = refl

low_enough : (n : ℕ) → n ≤ DEPTH_LIMIT → leb n DEPTH_LIMIT ≡ true
low_enough n le = by (leb n DEPTH_LIMIT) refl
  where
    by : (b : Bool) → leb n DEPTH_LIMIT ≡ b → b ≡ true
    by true e = refl
    by false e = let lt : DEPTH_LIMIT < n = leb-false _ _ e in absurd (omega arith)

mutual
  operand_deep : (o : Operand) (n : ℕ) → DEPTH_LIMIT < n → list_all shallow (operand_depths n o) ≡ false
  operand_deep (Compared c) n lt = and_left (leb n DEPTH_LIMIT) true (too_high n lt)
  operand_deep (Negated o) n lt = operand_deep o (n + 1) (omega arith)
  operand_deep (Grouped w) n lt = written_deep w (n + 1) (omega arith)

  conjunction_deep : (c : Conjunction) (n : ℕ) → DEPTH_LIMIT < n → list_all shallow (conjunction_depths n c) ≡ false
  conjunction_deep (Lone o) n lt = operand_deep o n lt
  conjunction_deep (Both o c) n lt = list_all-append shallow (operand_depths n o) (conjunction_depths n c) ∙ and_left _ _ (operand_deep o n lt)

  written_deep : (w : Written) (n : ℕ) → DEPTH_LIMIT < n → list_all shallow (written_depths n w) ≡ false
  written_deep (Single c) n lt = conjunction_deep c n lt
  written_deep (Either c w) n lt = list_all-append shallow (conjunction_depths n c) (written_depths n w) ∙ and_left _ _ (conjunction_deep c n lt)

-- ---- the groups behind the marks

abbrev group : ℕ → ℕ → Conditions → Conditions → Group
group depth nots any all = record { depth = depth; nots = nots; any = any; all = all }

abbrev inside : Group → List Group → Groups
inside f outer = record { inner = f; outer = outer }

abbrev deep : Result Condition ReadKind
deep = Err TooDeep

two_tests : (a b : Bool) (x y z : Result Condition ReadKind) → z ≡ cond a x deep → x ≡ cond b y deep → z ≡ cond (a && b) y deep
two_tests true b x y z e f = e ∙ f
two_tests false b x y z e f = e

module _ (agents : List Agent) where
  -- the conjunctions before the last one, and the operands of that
  abbrev any_behind : Conditions → Written → Conditions
  any_behind any (Single c) = any
  any_behind any (Either c w) = any_behind (pushed any (conjunction_value agents c)) w

  abbrev all_behind : Written → Conditions
  all_behind (Single c) = operand_values agents c
  all_behind (Either c w) = all_behind w

  conjunction_is : (c : Conjunction) → all_of (operand_values agents c) ≡ conjunction_value agents c
  conjunction_is (Lone o) = refl
  conjunction_is (Both o (Lone p)) = refl
  conjunction_is (Both o (Both p c)) = refl

  condition_is : (w : Written) → any_of (conjunction_values agents w) ≡ written_value agents w
  condition_is (Single c) = refl
  condition_is (Either c (Single d)) = refl
  condition_is (Either c (Either d w)) = refl

  values_behind : (any : Conditions) (w : Written) → pushed (any_behind any w) (all_of (all_behind w)) ≡ joined any (conjunction_values agents w)
  values_behind any (Single c) = ap (pushed any) (conjunction_is c) ∙ joined_one any (conjunction_value agents c)
  values_behind any (Either c w) = values_behind (pushed any (conjunction_value agents c)) w ∙ joined_more any (conjunction_value agents c) (conjunction_values agents w)

  asks : (depth : ℕ) (w : Written) → asked (group depth 0 (any_behind NoMore w) (all_behind w)) ≡ written_value agents w
  asks depth w = ap any_of (values_behind NoMore w) ∙ condition_is w

  banged : (k : ℕ) (f : Group) (outer : List Group) (ms : List Mark) (x : Result Condition ReadKind) (t : Bool) → f.depth + f.nots ≡ k
      → (k < DEPTH_LIMIT → build agents (inside (group f.depth (f.nots + 1) f.any f.all) outer) ms ≡ cond t x deep) → (DEPTH_LIMIT ≤ k → t ≡ false) → build agents (inside f outer) (Bang ∷ ms) ≡ cond t x deep
  unfolding build build_step
  banged k f outer ms x t is low high = by (leb DEPTH_LIMIT (f.depth + f.nots)) refl
    where
      by : (b : Bool) → leb DEPTH_LIMIT (f.depth + f.nots) ≡ b → and_then (cond b (Err TooDeep) (Ok (inside (group f.depth (f.nots + 1) f.any f.all) outer))) (λ s. build agents s ms) ≡ cond t x deep
      by true e = let le : DEPTH_LIMIT ≤ f.depth + f.nots = leb-true _ _ e in rw (high (omega arith)) refl
      by false e = let lt : f.depth + f.nots < DEPTH_LIMIT = leb-false _ _ e in low (omega arith)

  opened : (k : ℕ) (f : Group) (outer : List Group) (ms : List Mark) (x : Result Condition ReadKind) (t : Bool) → f.depth + f.nots ≡ k
      → (k < DEPTH_LIMIT → build agents (inside (empty_group (k + 1)) (f ∷ outer)) ms ≡ cond t x deep) → (DEPTH_LIMIT ≤ k → t ≡ false) → build agents (inside f outer) (Opens ∷ ms) ≡ cond t x deep
  unfolding build build_step
  opened k f outer ms x t is low high = by (leb DEPTH_LIMIT (f.depth + f.nots)) refl
    where
      by : (b : Bool) → leb DEPTH_LIMIT (f.depth + f.nots) ≡ b → and_then (cond b (Err TooDeep) (Ok (inside (empty_group (f.depth + f.nots + 1)) (f ∷ outer)))) (λ s. build agents s ms) ≡ cond t x deep
      by true e = let le : DEPTH_LIMIT ≤ f.depth + f.nots = leb-true _ _ e in rw (high (omega arith)) refl
      by false e = let lt : f.depth + f.nots < DEPTH_LIMIT = leb-false _ _ e in ap (λ (n : ℕ). build agents (inside (empty_group (n + 1)) (f ∷ outer)) ms) is ∙ low (omega arith)

  closed_by : (depth : ℕ) (any all : Conditions) (f : Group) (outer : List Group) (ms : List Mark)
      → build agents (inside (group depth 0 any all) (f ∷ outer)) (Closes ∷ ms) ≡ build agents (inside (with_operand f (asked (group depth 0 any all))) outer) ms
  unfolding build build_step
  closed_by depth any all f outer ms = refl

  joins : (f : Group) (outer : List Group) (ms : List Mark) → build agents (inside f outer) (Joins ∷ ms) ≡ build agents (inside f outer) ms
  unfolding build build_step
  joins f outer ms = refl

  parts : (depth : ℕ) (any all : Conditions) (outer : List Group) (ms : List Mark) → build agents (inside (group depth 0 any all) outer) (Parts ∷ ms) ≡ build agents (inside (group depth 0 (pushed any (all_of all)) NoMore) outer) ms
  unfolding build build_step
  parts depth any all outer ms = refl

  compares : (c : Comparison) (f : Group) (outer : List Group) (ms : List Mark) → build agents (inside f outer) (Compares c ∷ ms) ≡ build agents (inside (with_operand f (numbered agents c)) outer) ms
  unfolding build build_step
  compares c f outer ms = refl

  negated_group : (f : Group) (c : Condition) → with_operand (group f.depth (f.nots + 1) f.any f.all) c ≡ with_operand f (Not c)
  negated_group f c = ap (λ (x : Condition). group f.depth 0 f.any (pushed f.all x)) (ap (λ (n : ℕ). negated n c) (add-one f.nots) ∙ sym (negated_in f.nots c))

  mutual
    operand_builds : (o : Operand) (f : Group) (k : ℕ) (outer : List Group) (rest : List Mark) → f.depth + f.nots ≡ k → k ≤ DEPTH_LIMIT
        → build agents (inside f outer) (operand_marks o ++ rest) ≡ cond (list_all shallow (operand_depths k o)) (build agents (inside (with_operand f (operand_value agents o)) outer) rest) deep
    operand_builds (Compared c) f k outer rest is low = compares c f outer rest ∙ sym (ap (λ b. cond (b && true) (build agents (inside (with_operand f (numbered agents c)) outer) rest) deep) (low_enough k low))
    operand_builds (Negated o) f k outer rest is low =
        banged k f outer (operand_marks o ++ rest) (build agents (inside (with_operand f (Not (operand_value agents o))) outer) rest) (list_all shallow (operand_depths (k + 1) o)) is
        (λ lt. operand_builds o (group f.depth (f.nots + 1) f.any f.all) (k + 1) outer rest (omega (arith, is)) (omega arith)
        ∙ ap (λ (g : Group). cond (list_all shallow (operand_depths (k + 1) o)) (build agents (inside g outer) rest) deep) (negated_group f (operand_value agents o)))
        (λ le. operand_deep o (k + 1) (omega arith))
    operand_builds (Grouped w) f k outer rest is low =
        opened k f outer ((written_marks w ++ Closes ∷ []) ++ rest) (build agents (inside (with_operand f (written_value agents w)) outer) rest) (list_all shallow (written_depths (k + 1) w)) is
        (λ lt. ap (build agents (inside (empty_group (k + 1)) (f ∷ outer))) (append_assoc (written_marks w) (Closes ∷ []) rest)
        ∙ written_builds w (k + 1) NoMore (f ∷ outer) (Closes ∷ rest) (omega arith)
        ∙ ap (λ (r : Result Condition ReadKind). cond (list_all shallow (written_depths (k + 1) w)) r deep)
        (closed_by (k + 1) (any_behind NoMore w) (all_behind w) f outer rest ∙ ap (λ (c : Condition). build agents (inside (with_operand f c) outer) rest) (asks (k + 1) w)))
        (λ le. written_deep w (k + 1) (omega arith))

    conjunction_builds : (c : Conjunction) (depth : ℕ) (any all : Conditions) (outer : List Group) (rest : List Mark) → depth ≤ DEPTH_LIMIT
        → build agents (inside (group depth 0 any all) outer) (conjunction_marks c ++ rest) ≡ cond (list_all shallow (conjunction_depths depth c)) (build agents (inside (group depth 0 any (joined all (operand_values agents c))) outer) rest) deep
    conjunction_builds (Lone o) depth any all outer rest low =
        operand_builds o (group depth 0 any all) depth outer rest (add-zero depth) low
        ∙ ap (λ (l : Conditions). cond (list_all shallow (operand_depths depth o)) (build agents (inside (group depth 0 any l) outer) rest) deep) (joined_one all (operand_value agents o))
    conjunction_builds (Both o c) depth any all outer rest low =
        ap (build agents (inside (group depth 0 any all) outer)) (append_assoc (operand_marks o) (Joins ∷ conjunction_marks c) rest)
        ∙ two_tests (list_all shallow (operand_depths depth o)) (list_all shallow (conjunction_depths depth c))
        (build agents (inside (group depth 0 any (pushed all (operand_value agents o))) outer) (Joins ∷ (conjunction_marks c ++ rest)))
        (build agents (inside (group depth 0 any (joined all (Also (operand_value agents o) (operand_values agents c)))) outer) rest)
        (build agents (inside (group depth 0 any all) outer) (operand_marks o ++ Joins ∷ (conjunction_marks c ++ rest)))
        (operand_builds o (group depth 0 any all) depth outer (Joins ∷ (conjunction_marks c ++ rest)) (add-zero depth) low)
        (joins (group depth 0 any (pushed all (operand_value agents o))) outer (conjunction_marks c ++ rest)
        ∙ conjunction_builds c depth any (pushed all (operand_value agents o)) outer rest low
        ∙ ap (λ (l : Conditions). cond (list_all shallow (conjunction_depths depth c)) (build agents (inside (group depth 0 any l) outer) rest) deep) (joined_more all (operand_value agents o) (operand_values agents c)))
        ∙ sym (ap (λ b. cond b (build agents (inside (group depth 0 any (joined all (Also (operand_value agents o) (operand_values agents c)))) outer) rest) deep) (list_all-append shallow (operand_depths depth o) (conjunction_depths depth c)))

    written_builds : (w : Written) (depth : ℕ) (any : Conditions) (outer : List Group) (rest : List Mark) → depth ≤ DEPTH_LIMIT
        → build agents (inside (group depth 0 any NoMore) outer) (written_marks w ++ rest) ≡ cond (list_all shallow (written_depths depth w)) (build agents (inside (group depth 0 (any_behind any w) (all_behind w)) outer) rest) deep
    written_builds (Single c) depth any outer rest low = conjunction_builds c depth any NoMore outer rest low
    written_builds (Either c w) depth any outer rest low =
        ap (build agents (inside (group depth 0 any NoMore) outer)) (append_assoc (conjunction_marks c) (Parts ∷ written_marks w) rest)
        ∙ two_tests (list_all shallow (conjunction_depths depth c)) (list_all shallow (written_depths depth w))
        (build agents (inside (group depth 0 any (operand_values agents c)) outer) (Parts ∷ (written_marks w ++ rest)))
        (build agents (inside (group depth 0 (any_behind (pushed any (conjunction_value agents c)) w) (all_behind w)) outer) rest)
        (build agents (inside (group depth 0 any NoMore) outer) (conjunction_marks c ++ Parts ∷ (written_marks w ++ rest)))
        (conjunction_builds c depth any NoMore outer (Parts ∷ (written_marks w ++ rest)) low)
        (parts depth any (operand_values agents c) outer (written_marks w ++ rest)
        ∙ ap (λ (x : Condition). build agents (inside (group depth 0 (pushed any x) NoMore) outer) (written_marks w ++ rest)) (conjunction_is c)
        ∙ written_builds w depth (pushed any (conjunction_value agents c)) outer rest low)
        ∙ sym (ap (λ b. cond b (build agents (inside (group depth 0 (any_behind (pushed any (conjunction_value agents c)) w) (all_behind w)) outer) rest) deep) (list_all-append shallow (conjunction_depths depth c) (written_depths depth w)))

  ended : (f : Group) → build agents (inside f []) [] ≡ Ok (asked f)
  unfolding build
  ended f = refl

  pub built : (w : Written) → build agents begun (written_marks w) ≡ cond (is_shallow w) (Ok (written_value agents w)) (Err TooDeep)
  built w =
      ap (build agents begun) (sym (append-nil (written_marks w))) ∙ written_builds w 0 NoMore [] [] (omega arith)
      ∙ ap (λ (r : Result Condition ReadKind). cond (is_shallow w) r deep) (ended (group 0 0 (any_behind NoMore w) (all_behind w)) ∙ ap (λ (c : Condition). Ok c) (asks 0 w))
