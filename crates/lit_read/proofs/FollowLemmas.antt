-- Marks that can follow one another, and no others, are those of a condition.
use Rattle.std.proofs.Common.{◌≡◌, ℕ, zero, suc, ◌<◌, Bool, true, false, List, [], ◌∷◌, ◌++◌, length, Option, Some, None, refl, ap, sym, ◌∙◌, arith, append_assoc}
use Rattle.std.proofs.lemmas.List.{append-nil}
use Rattle.lit_syntax.specs.Written.{Operand, Compared, Negated, Grouped, Conjunction, Lone, Both, Written, Single, Either}
use Rattle.lit_read.specs.Internal.FormOfTokens.{◌>>=◌}
use Rattle.lit_read.specs.Internal.Marks.{Mark, Bang, Opens, Closes, Joins, Parts, Compares, operand_marks, conjunction_marks, written_marks, follow}

-- the state after these marks, by `follow`, if they can follow one another
abbrev pub follow_all : Bool → ℕ → List Mark → Option (Bool × ℕ)
follow_all b n [] = Some (b, n)
follow_all b n (m ∷ ms) = follow b n m >>= λ p. follow_all p.0 p.1 ms

pub follow_all-append : (b : Bool) (n : ℕ) (ms more : List Mark) → follow_all b n (ms ++ more) ≡ (follow_all b n ms >>= λ p. follow_all p.0 p.1 more)
follow_all-append b n [] more = refl
follow_all-append b n (m ∷ ms) more = by (follow b n m) (λ c k. follow_all-append c k ms more)
  where
    by : (o : Option (Bool × ℕ)) → ((c : Bool) (k : ℕ) → follow_all c k (ms ++ more) ≡ (follow_all c k ms >>= λ p. follow_all p.0 p.1 more))
        → (o >>= λ p. follow_all p.0 p.1 (ms ++ more)) ≡ ((o >>= λ p. follow_all p.0 p.1 ms) >>= λ p. follow_all p.0 p.1 more)
    by None h = refl
    by (Some p) h = h p.0 p.1

-- ---- the marks of a condition follow one another

mutual
  unfolding follow

  pub operand_follows : (o : Operand) (n : ℕ) (rest : List Mark) → follow_all false n (operand_marks o ++ rest) ≡ follow_all true n rest
  operand_follows (Compared c) n rest = refl
  operand_follows (Negated o) n rest = operand_follows o n rest
  operand_follows (Grouped w) n rest = ap (follow_all false (suc n)) (append_assoc (written_marks w) (Closes ∷ []) rest) ∙ written_follows w (suc n) (Closes ∷ rest)

  pub conjunction_follows : (c : Conjunction) (n : ℕ) (rest : List Mark) → follow_all false n (conjunction_marks c ++ rest) ≡ follow_all true n rest
  conjunction_follows (Lone o) n rest = operand_follows o n rest
  conjunction_follows (Both o c) n rest = ap (follow_all false n) (append_assoc (operand_marks o) (Joins ∷ conjunction_marks c) rest) ∙ operand_follows o n (Joins ∷ (conjunction_marks c ++ rest)) ∙ conjunction_follows c n rest

  pub written_follows : (w : Written) (n : ℕ) (rest : List Mark) → follow_all false n (written_marks w ++ rest) ≡ follow_all true n rest
  written_follows (Single c) n rest = conjunction_follows c n rest
  written_follows (Either c w) n rest = ap (follow_all false n) (append_assoc (conjunction_marks c) (Parts ∷ written_marks w) rest) ∙ conjunction_follows c n (Parts ∷ (written_marks w ++ rest)) ∙ written_follows w n rest

pub follows_whole : (w : Written) → follow_all false 0 (written_marks w) ≡ Some (true, 0)
follows_whole w = ap (follow_all false 0) (sym (append-nil (written_marks w))) ∙ written_follows w 0 []

-- ---- marks that follow one another are those of a condition

abbrev pub whole : Option (Bool × ℕ)
whole = Some (true, 0)

-- what stands at the front, and that the marks behind it follow
record Front (A : Type 0) (marks : A → List Mark) (n : ℕ) (ms : List Mark) : Type 0 where
  part : A
  rest : List Mark
  parts : ms ≡ marks part ++ rest
  shorter : length rest < length ms
  goes_on : follow_all true n rest ≡ whole

abbrev starts_joins : List Mark → Bool
starts_joins (Joins ∷ ms) = true
starts_joins _ = false

abbrev starts_parts : List Mark → Bool
starts_parts (Parts ∷ ms) = true
starts_parts _ = false

record Loose (A : Type 0) (marks : A → List Mark) (n : ℕ) (ms : List Mark) : Type 0 where
  front : Front A marks n ms
  no_joins : starts_joins front.rest ≡ false

record Free (A : Type 0) (marks : A → List Mark) (n : ℕ) (ms : List Mark) : Type 0 where
  front : Front A marks n ms
  no_joins : starts_joins front.rest ≡ false
  no_parts : starts_parts front.rest ≡ false

abbrev count_of : Option (Bool × ℕ) → ℕ
count_of None = 0
count_of (Some p) = p.1

abbrev behind_of : Option (Bool × ℕ) → Bool
behind_of None = false
behind_of (Some p) = p.0

no_operand : (n : ℕ) → Some (false, n) ≡ whole → ⊥
no_operand n e = let same : false ≡ true = ap behind_of e in absurd cc

open_end : (n : ℕ) → Some (true, suc n) ≡ whole → ⊥
open_end n e = let same : suc n ≡ 0 = ap count_of e in omega (arith, same)

-- what stands behind a condition in a parenthesis
closes : (n : ℕ) (rest : List Mark) → starts_joins rest ≡ false → starts_parts rest ≡ false → follow_all true (suc n) rest ≡ whole → (after : List Mark) × (rest ≡ Closes ∷ after) × (follow_all true n after ≡ whole)
unfolding follow
closes n [] a b e = absurd (open_end n e)
closes n (Bang ∷ rest) a b e = absurd cc
closes n (Opens ∷ rest) a b e = absurd cc
closes n (Closes ∷ rest) a b e = (rest, refl, e)
closes n (Joins ∷ rest) a b e = absurd cc
closes n (Parts ∷ rest) a b e = absurd cc
closes n (Compares c ∷ rest) a b e = absurd cc

abbrev ToldOperands : ℕ → Type 0
ToldOperands fuel = (n : ℕ) (ms : List Mark) → length ms < fuel → follow_all false n ms ≡ whole → Front Operand operand_marks n ms

abbrev ToldConjunctions : ℕ → Type 0
ToldConjunctions fuel = (n : ℕ) (ms : List Mark) → length ms < fuel → follow_all false n ms ≡ whole → Loose Conjunction conjunction_marks n ms

abbrev ToldConditions : ℕ → Type 0
ToldConditions fuel = (n : ℕ) (ms : List Mark) → length ms < fuel → follow_all false n ms ≡ whole → Free Written written_marks n ms

operands : (fuel : ℕ) → ToldOperands fuel → ToldConditions fuel → ToldOperands (suc fuel)
unfolding follow
operands fuel before conditions n [] lt e = absurd (no_operand n e)
operands fuel before conditions n (Bang ∷ ms) lt e =
    let a = before n ms (omega arith) e in
    record { part = Negated a.part; rest = a.rest; parts = ap (λ (x : List Mark). Bang ∷ x) a.parts; shorter = omega (arith, a.shorter); goes_on = a.goes_on }
operands fuel before conditions n (Opens ∷ ms) lt e =
    let a = conditions (suc n) ms (omega arith) e in
    let b = closes n a.front.rest a.no_joins a.no_parts a.front.goes_on in
    record {
      part = Grouped a.front.part;
      rest = b.0;
      parts = ap (λ (x : List Mark). Opens ∷ x) (a.front.parts ∙ ap (λ (x : List Mark). written_marks a.front.part ++ x) b.1 ∙ sym (append_assoc (written_marks a.front.part) (Closes ∷ []) b.0));
      shorter = omega (arith, a.front.shorter, ap length b.1);
      goes_on = b.2;
    }
operands fuel before conditions n (Closes ∷ ms) lt e = absurd cc
operands fuel before conditions n (Joins ∷ ms) lt e = absurd cc
operands fuel before conditions n (Parts ∷ ms) lt e = absurd cc
operands fuel before conditions n (Compares c ∷ ms) lt e = record { part = Compared c; rest = ms; parts = refl; shorter = omega arith; goes_on = e }

lone : (n : ℕ) (ms : List Mark) → (a : Front Operand operand_marks n ms) → starts_joins a.rest ≡ false → Loose Conjunction conjunction_marks n ms
lone n ms a e = record { front = record { part = Lone a.part; rest = a.rest; parts = a.parts; shorter = a.shorter; goes_on = a.goes_on }; no_joins = e }

joined : (n : ℕ) (ms rest : List Mark) → (a : Front Operand operand_marks n ms) → a.rest ≡ Joins ∷ rest → Loose Conjunction conjunction_marks n rest → Loose Conjunction conjunction_marks n ms
joined n ms rest a is b = record {
  front = record {
    part = Both a.part b.front.part;
    rest = b.front.rest;
    parts = a.parts ∙ ap (λ (x : List Mark). operand_marks a.part ++ x) (is ∙ ap (λ (x : List Mark). Joins ∷ x) b.front.parts) ∙ sym (append_assoc (operand_marks a.part) (Joins ∷ conjunction_marks b.front.part) b.front.rest);
    shorter = omega (arith, a.shorter, ap length is, b.front.shorter);
    goes_on = b.front.goes_on;
  };
  no_joins = b.no_joins;
}

conjunctions : (fuel : ℕ) → ToldOperands (suc fuel) → ToldConjunctions fuel → ToldConjunctions (suc fuel)
unfolding follow
conjunctions fuel operand before n ms lt e = let a = operand n ms lt e in by a a.rest refl
  where
    by : (a : Front Operand operand_marks n ms) (rest : List Mark) → a.rest ≡ rest → Loose Conjunction conjunction_marks n ms
    by a [] is = lone n ms a (ap starts_joins is)
    by a (Joins ∷ rest) is = joined n ms rest a is (before n rest (omega (arith, a.shorter, ap length is)) (sym (ap (follow_all true n) is) ∙ a.goes_on))
    by a (Bang ∷ rest) is = lone n ms a (ap starts_joins is)
    by a (Opens ∷ rest) is = lone n ms a (ap starts_joins is)
    by a (Closes ∷ rest) is = lone n ms a (ap starts_joins is)
    by a (Parts ∷ rest) is = lone n ms a (ap starts_joins is)
    by a (Compares c ∷ rest) is = lone n ms a (ap starts_joins is)

single : (n : ℕ) (ms : List Mark) → (a : Loose Conjunction conjunction_marks n ms) → starts_parts a.front.rest ≡ false → Free Written written_marks n ms
single n ms a e = record { front = record { part = Single a.front.part; rest = a.front.rest; parts = a.front.parts; shorter = a.front.shorter; goes_on = a.front.goes_on }; no_joins = a.no_joins; no_parts = e }

after_or : (n : ℕ) (ms rest : List Mark) → (a : Loose Conjunction conjunction_marks n ms) → a.front.rest ≡ Parts ∷ rest → Free Written written_marks n rest → Free Written written_marks n ms
after_or n ms rest a is b = record {
  front = record {
    part = Either a.front.part b.front.part;
    rest = b.front.rest;
    parts = a.front.parts ∙ ap (λ (x : List Mark). conjunction_marks a.front.part ++ x) (is ∙ ap (λ (x : List Mark). Parts ∷ x) b.front.parts) ∙ sym (append_assoc (conjunction_marks a.front.part) (Parts ∷ written_marks b.front.part) b.front.rest);
    shorter = omega (arith, a.front.shorter, ap length is, b.front.shorter);
    goes_on = b.front.goes_on;
  };
  no_joins = b.no_joins;
  no_parts = b.no_parts;
}

conditions : (fuel : ℕ) → ToldConjunctions (suc fuel) → ToldConditions fuel → ToldConditions (suc fuel)
unfolding follow
conditions fuel conjunction before n ms lt e = let a = conjunction n ms lt e in by a a.front.rest refl
  where
    by : (a : Loose Conjunction conjunction_marks n ms) (rest : List Mark) → a.front.rest ≡ rest → Free Written written_marks n ms
    by a [] is = single n ms a (ap starts_parts is)
    by a (Parts ∷ rest) is = after_or n ms rest a is (before n rest (omega (arith, a.front.shorter, ap length is)) (sym (ap (follow_all true n) is) ∙ a.front.goes_on))
    by a (Bang ∷ rest) is = single n ms a (ap starts_parts is)
    by a (Opens ∷ rest) is = single n ms a (ap starts_parts is)
    by a (Closes ∷ rest) is = single n ms a (ap starts_parts is)
    by a (Joins ∷ rest) is = single n ms a (ap starts_parts is)
    by a (Compares c ∷ rest) is = single n ms a (ap starts_parts is)

told : (fuel : ℕ) → ToldOperands fuel × ToldConjunctions fuel × ToldConditions fuel
told zero = (λ n ms lt e. absurd (omega arith), λ n ms lt e. absurd (omega arith), λ n ms lt e. absurd (omega arith))
told (suc fuel) =
    let before = told fuel in
    let a : ToldOperands (suc fuel) = operands fuel before.0 before.2 in
    let b : ToldConjunctions (suc fuel) = conjunctions fuel a before.1 in
    (a, b, conditions fuel b before.2)

-- nothing stands behind a whole condition
ends : (rest : List Mark) → starts_joins rest ≡ false → starts_parts rest ≡ false → follow_all true 0 rest ≡ whole → rest ≡ []
unfolding follow
ends [] a b e = refl
ends (Bang ∷ rest) a b e = absurd cc
ends (Opens ∷ rest) a b e = absurd cc
ends (Closes ∷ rest) a b e = absurd cc
ends (Joins ∷ rest) a b e = absurd cc
ends (Parts ∷ rest) a b e = absurd cc
ends (Compares c ∷ rest) a b e = absurd cc

pub condition_told : (ms : List Mark) → follow_all false 0 ms ≡ whole → (w : Written) × (ms ≡ written_marks w)
condition_told ms e =
    let a = (told (suc (length ms))).2 0 ms (omega arith) e in
    (a.front.part, a.front.parts ∙ ap (λ (x : List Mark). written_marks a.front.part ++ x) (ends a.front.rest a.no_joins a.no_parts a.front.goes_on) ∙ append-nil (written_marks a.front.part))
