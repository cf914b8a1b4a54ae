-- The marks of a condition, as the reader goes along its tokens.
use Rattle.std.proofs.Common.{◌≡◌, ℕ, zero, suc, ◌+◌, ◌-◌, ◌<◌, ◌≤◌, Bool, true, false, List, [], ◌∷◌, ◌++◌, length, drop, Option, Some, None, refl, ap, sym, subst, ◌∙◌, arith, append_assoc}
use Rattle.std.specs.Option.{option_map}
use Rattle.std.specs.List.{AllByRecursion, flat_map}
use Rattle.std.proofs.Math.ListN.{drop_of_length-le}
use Rattle.std.proofs.lemmas.List.{length-append, length-drop, drop_at, drop-drop, append-nil}
use Rattle.lit_syntax.specs.declared.symbol.Symbol.{Symbol}
use Rattle.lit_syntax.specs.declared.symbol.Symbol.TheVariants.{And, Or, Not, OpenParen, CloseParen}
use Rattle.lit_syntax.specs.declared.limits.TheConstants.{REGISTERS}
use Rattle.lit_read.specs.declared.tokens.Token as code
use Rattle.lit_read.specs.Internal.Views.{token_views}
use Rattle.lit_syntax.specs.Tokens.{Token, Number, Sign}
use Rattle.lit_syntax.specs.Written.{Comparison, Operand, Compared, Negated, Grouped, Conjunction, Lone, Both, Written, Single, Either, operand_tokens, conjunction_tokens, written_tokens, operand_depths, conjunction_depths, written_depths}
use Rattle.lit_read.specs.Internal.FirstToken.{or_else}
use Rattle.lit_read.specs.Internal.FormOfTokens.{◌>>=◌, after_sign, word_of, number_of, register_of, comparison_of, comparison_row, comparison_made}
use Rattle.lit_read.specs.Internal.Marks.{Mark, Bang, Opens, Closes, Joins, Parts, Compares, mark_tokens, IsMark, operand_marks, conjunction_marks, written_marks, mark_of, follow, SpellsMarks, comparison_tokens}
use Rattle.lit_read.proofs.CutLemmas.{pair_parts}
use Rattle.lit_read.proofs.RowLemmas.{sign_is, row, along_is, register_number_again, relation_again}
use Rattle.lit_read.proofs.FollowLemmas.{follow_all, follow_all-append, follows_whole, whole, condition_told}
use Rattle.lit_syntax.proofs.ListLemmas.{all_both}

-- ---- one mark

comparison_is : (ts : List Token) (c : Comparison) (rest : List Token) → comparison_of ts ≡ Some (c, rest) → (ts ≡ comparison_tokens c ++ rest) × (c.reg < REGISTERS)
unfolding comparison_of
comparison_is ts c rest e =
    let a = along_is comparison_row ts (λ told behind. Some (comparison_made told, behind)) (c, rest) e in
    let p = pair_parts (comparison_made a.told) c a.rest rest a.is in
    subst (λ (x : Comparison). (ts ≡ comparison_tokens x ++ rest) × (x.reg < REGISTERS)) p.0 (a.parts ∙ ap (λ (x : List Token). row comparison_row a.told x) p.1, a.fits.0)

comparison_again : (c : Comparison) (rest : List Token) → c.reg < REGISTERS → comparison_of (comparison_tokens c ++ rest) ≡ Some (c, rest)
unfolding comparison_of after_sign word_of number_of register_of
comparison_again c rest h = rw (register_number_again c.reg h, relation_again c.equal (Number c.value ∷ rest))

pub mark_again : (m : Mark) (rest : List Token) → IsMark m → mark_of (mark_tokens m ++ rest) ≡ Some (m, rest)
unfolding mark_of after_sign
mark_again Bang rest is = refl
mark_again Opens rest is = refl
mark_again Closes rest is = refl
mark_again Joins rest is = refl
mark_again Parts rest is = refl
mark_again (Compares c) rest is = ap (option_map (λ p. (Compares p.0, p.1))) (comparison_again c rest is)

abbrev IsFront : List Token → Mark → List Token → Type 0
IsFront ts m rest = (ts ≡ mark_tokens m ++ rest) × IsMark m

abbrev marked : Mark → Option (List Token) → Option (Mark × List Token)
marked m o = option_map (λ rest. (m, rest)) o

sign_front : (ts : List Token) (s : Symbol) (k : Mark) → ((rest : List Token) → ts ≡ Sign s ∷ rest → IsFront ts k rest) → (o : Option (List Token)) → after_sign ts s ≡ o → (p : Option (Mark × List Token)) (m : Mark) (rest : List Token)
    → (p ≡ Some (m, rest) → IsFront ts m rest) → or_else (marked k o) p ≡ Some (m, rest) → IsFront ts m rest
sign_front ts s k front None o_is p m rest others e = others e
sign_front ts s k front (Some r) o_is p m rest others e =
    let q = pair_parts k m r rest e in
    subst (λ (x : Mark). IsFront ts x rest) q.0 (subst (λ (x : List Token). IsFront ts k x) q.1 (front r (sign_is ts s r o_is)))

abbrev compared : Option (Comparison × List Token) → Option (Mark × List Token)
compared o = option_map (λ p. (Compares p.0, p.1)) o

compared_front : (ts : List Token) (o : Option (Comparison × List Token)) → comparison_of ts ≡ o → (m : Mark) (rest : List Token) → compared o ≡ Some (m, rest) → IsFront ts m rest
compared_front ts None o_is m rest e = absurd cc
compared_front ts (Some p) o_is m rest e =
    let q = pair_parts (Compares p.0) m p.1 rest e in
    subst (λ (x : Mark). IsFront ts x rest) q.0 (subst (λ (x : List Token). IsFront ts (Compares p.0) x) q.1 (comparison_is ts p.0 p.1 o_is))

pub mark_is : (ts : List Token) (m : Mark) (rest : List Token) → mark_of ts ≡ Some (m, rest) → IsFront ts m rest
unfolding mark_of
mark_is ts m rest e =
    sign_front ts Not Bang (λ r h. (h, tt)) (after_sign ts Not) refl _ m rest
    (sign_front ts OpenParen Opens (λ r h. (h, tt)) (after_sign ts OpenParen) refl _ m rest
    (sign_front ts CloseParen Closes (λ r h. (h, tt)) (after_sign ts CloseParen) refl _ m rest
    (sign_front ts And Joins (λ r h. (h, tt)) (after_sign ts And) refl _ m rest
    (sign_front ts Or Parts (λ r h. (h, tt)) (after_sign ts Or) refl (compared (comparison_of ts)) m rest
    (compared_front ts (comparison_of ts) refl m rest))))) e

-- ---- the tokens of marks

pub tokens-append : (xs ys : List Mark) → flat_map mark_tokens (xs ++ ys) ≡ flat_map mark_tokens xs ++ flat_map mark_tokens ys
tokens-append [] ys = refl
tokens-append (x ∷ xs) ys = ap (λ (l : List Token). mark_tokens x ++ l) (tokens-append xs ys) ∙ sym (append_assoc (mark_tokens x) (flat_map mark_tokens xs) (flat_map mark_tokens ys))

mutual
  operand_spelled : (o : Operand) → operand_tokens o ≡ flat_map mark_tokens (operand_marks o)
  operand_spelled (Compared c) = refl
  operand_spelled (Negated o) = ap (λ (l : List Token). Sign Not ∷ l) (operand_spelled o)
  operand_spelled (Grouped w) = ap (λ (l : List Token). Sign OpenParen ∷ (l ++ Sign CloseParen ∷ [])) (written_spelled w) ∙ ap (λ (l : List Token). Sign OpenParen ∷ l) (sym (tokens-append (written_marks w) (Closes ∷ [])))

  conjunction_spelled : (c : Conjunction) → conjunction_tokens c ≡ flat_map mark_tokens (conjunction_marks c)
  conjunction_spelled (Lone o) = operand_spelled o
  conjunction_spelled (Both o c) =
      ap (λ (l : List Token). l ++ Sign And ∷ conjunction_tokens c) (operand_spelled o) ∙ ap (λ (l : List Token). flat_map mark_tokens (operand_marks o) ++ Sign And ∷ l) (conjunction_spelled c)
      ∙ sym (tokens-append (operand_marks o) (Joins ∷ conjunction_marks c))

  pub written_spelled : (w : Written) → written_tokens w ≡ flat_map mark_tokens (written_marks w)
  written_spelled (Single c) = conjunction_spelled c
  written_spelled (Either c w) =
      ap (λ (l : List Token). l ++ Sign Or ∷ written_tokens w) (conjunction_spelled c) ∙ ap (λ (l : List Token). flat_map mark_tokens (conjunction_marks c) ++ Sign Or ∷ l) (written_spelled w)
      ∙ sym (tokens-append (conjunction_marks c) (Parts ∷ written_marks w))

-- ---- registers

abbrev IsLow : Comparison × ℕ → Type 0
IsLow p = p.0.reg < REGISTERS

front_all : {A : Type 0} (P : A → Type 0) (xs ys : List A) → AllByRecursion P (xs ++ ys) → AllByRecursion P xs
front_all P [] ys a = tt
front_all P (x ∷ xs) ys a = (a.0, front_all P xs ys a.1)

back_all : {A : Type 0} (P : A → Type 0) (xs ys : List A) → AllByRecursion P (xs ++ ys) → AllByRecursion P ys
back_all P [] ys a = a
back_all P (x ∷ xs) ys a = back_all P xs ys a.1

mutual
  operand_low : (o : Operand) (n : ℕ) → AllByRecursion IsLow (operand_depths n o) → AllByRecursion IsMark (operand_marks o)
  operand_low (Compared c) n a = (a.0, tt)
  operand_low (Negated o) n a = (tt, operand_low o (n + 1) a)
  operand_low (Grouped w) n a = (tt, all_both IsMark (written_marks w) (Closes ∷ []) (written_low w (n + 1) a) (tt, tt))

  conjunction_low : (c : Conjunction) (n : ℕ) → AllByRecursion IsLow (conjunction_depths n c) → AllByRecursion IsMark (conjunction_marks c)
  conjunction_low (Lone o) n a = operand_low o n a
  conjunction_low (Both o c) n a =
      all_both IsMark (operand_marks o) (Joins ∷ conjunction_marks c) (operand_low o n (front_all IsLow (operand_depths n o) (conjunction_depths n c) a)) (tt, conjunction_low c n (back_all IsLow (operand_depths n o) (conjunction_depths n c) a))

  pub written_low : (w : Written) (n : ℕ) → AllByRecursion IsLow (written_depths n w) → AllByRecursion IsMark (written_marks w)
  written_low (Single c) n a = conjunction_low c n a
  written_low (Either c w) n a =
      all_both IsMark (conjunction_marks c) (Parts ∷ written_marks w) (conjunction_low c n (front_all IsLow (conjunction_depths n c) (written_depths n w) a)) (tt, written_low w n (back_all IsLow (conjunction_depths n c) (written_depths n w) a))

mutual
  low_operand : (o : Operand) (n : ℕ) → AllByRecursion IsMark (operand_marks o) → AllByRecursion IsLow (operand_depths n o)
  low_operand (Compared c) n a = (a.0, tt)
  low_operand (Negated o) n a = low_operand o (n + 1) a.1
  low_operand (Grouped w) n a = low_written w (n + 1) (front_all IsMark (written_marks w) (Closes ∷ []) a.1)

  low_conjunction : (c : Conjunction) (n : ℕ) → AllByRecursion IsMark (conjunction_marks c) → AllByRecursion IsLow (conjunction_depths n c)
  low_conjunction (Lone o) n a = low_operand o n a
  low_conjunction (Both o c) n a =
      all_both IsLow (operand_depths n o) (conjunction_depths n c) (low_operand o n (front_all IsMark (operand_marks o) (Joins ∷ conjunction_marks c) a)) (low_conjunction c n (back_all IsMark (operand_marks o) (Joins ∷ conjunction_marks c) a).1)

  pub low_written : (w : Written) (n : ℕ) → AllByRecursion IsMark (written_marks w) → AllByRecursion IsLow (written_depths n w)
  low_written (Single c) n a = low_conjunction c n a
  low_written (Either c w) n a =
      all_both IsLow (conjunction_depths n c) (written_depths n w) (low_conjunction c n (front_all IsMark (conjunction_marks c) (Parts ∷ written_marks w) a)) (low_written w n (back_all IsMark (conjunction_marks c) (Parts ∷ written_marks w) a).1)

-- ---- the marks so far

-- The tokens are those of the marks so far and the rest, and of no other marks.
pub record Marking (tokens rest : List Token) (done : List Mark) (behind : Bool) (n : ℕ) : Type 0 where
  pub parts : tokens ≡ flat_map mark_tokens done ++ rest
  pub good : AllByRecursion IsMark done
  pub followed : follow_all false 0 done ≡ Some (behind, n)
  pub only : (ms : List Mark) → AllByRecursion IsMark ms → tokens ≡ flat_map mark_tokens ms → (more : List Mark) × (ms ≡ done ++ more) × (rest ≡ flat_map mark_tokens more) × AllByRecursion IsMark more

pub marking_begins : (tokens : List Token) → Marking tokens tokens [] false 0
marking_begins tokens = record { parts = refl; good = tt; followed = refl; only = λ ms good e. (ms, refl, e, good) }

abbrev no_mark : Option (Mark × List Token)
no_mark = None

nothing_there : mark_of [] ≡ no_mark
unfolding mark_of after_sign comparison_of word_of
nothing_there = refl

pub marking_goes_on : (tokens rest after : List Token) (done : List Mark) (behind : Bool) (n : ℕ) (m : Mark) (b : Bool) (k : ℕ) → mark_of rest ≡ Some (m, after) → follow behind n m ≡ Some (b, k) → Marking tokens rest done behind n
    → Marking tokens after (done ++ m ∷ []) b k
marking_goes_on tokens rest after done behind n m b k e step so_far =
    let front = mark_is rest m after e in
    record {
      parts = so_far.parts ∙ ap (λ (l : List Token). flat_map mark_tokens done ++ l) front.0 ∙ sym (append_assoc (flat_map mark_tokens done) (mark_tokens m) after)
          ∙ ap (λ (l : List Token). l ++ after) (sym (tokens-append done (m ∷ []) ∙ ap (λ (l : List Token). flat_map mark_tokens done ++ l) (append-nil (mark_tokens m))));
      good = all_both IsMark done (m ∷ []) so_far.good (front.1, tt);
      followed = follow_all-append false 0 done (m ∷ []) ∙ ap (λ o. o >>= λ p. follow_all p.0 p.1 (m ∷ [])) so_far.followed ∙ ap (λ o. o >>= λ p. follow_all p.0 p.1 []) step;
      only = λ ms good is. let old = so_far.only ms good is in by ms old.0 old.1 old.2 old.3;
    }
  where
    by : (ms more : List Mark) → ms ≡ done ++ more → rest ≡ flat_map mark_tokens more → AllByRecursion IsMark more → (later : List Mark) × (ms ≡ (done ++ m ∷ []) ++ later) × (after ≡ flat_map mark_tokens later) × AllByRecursion IsMark later
    by ms [] is left good = absurd (let found : mark_of [] ≡ Some (m, after) = ap mark_of (sym left) ∙ e in let none : mark_of [] ≡ no_mark = nothing_there in cc)
    by ms (j ∷ more) is left good =
        let again : Some (m, after) ≡ Some (j, flat_map mark_tokens more) = sym e ∙ ap mark_of left ∙ mark_again j (flat_map mark_tokens more) good.0 in
        let p = pair_parts m j after (flat_map mark_tokens more) again in
        (more, is ∙ ap (λ (x : Mark). done ++ x ∷ more) (sym p.0) ∙ sym (append_assoc done (m ∷ []) more), p.1, good.1)

-- the marks of a condition that the tokens spell
spelled_marks : (tokens : List Token) (w : Written) → tokens ≡ written_tokens w → AllByRecursion IsLow (written_depths 0 w) → (tokens ≡ flat_map mark_tokens (written_marks w)) × AllByRecursion IsMark (written_marks w)
spelled_marks tokens w is low = (is ∙ written_spelled w, written_low w 0 low)

abbrev no_follow : Option (Bool × ℕ)
no_follow = None

follow_apart : (o : Option (Bool × ℕ)) → o ≡ no_follow → o ≡ whole → ⊥
follow_apart None e f = absurd cc
follow_apart (Some p) e f = absurd cc

-- a mark that cannot follow
pub marking_stuck : (tokens rest after : List Token) (done : List Mark) (behind : Bool) (n : ℕ) (m : Mark) → mark_of rest ≡ Some (m, after) → follow behind n m ≡ None → Marking tokens rest done behind n
    → (w : Written) → tokens ≡ written_tokens w → AllByRecursion IsLow (written_depths 0 w) → ⊥
marking_stuck tokens rest after done behind n m e step so_far w is low =
    let marks = spelled_marks tokens w is low in
    let old = so_far.only (written_marks w) marks.1 marks.0 in
    by old.0 old.1 old.2 old.3
  where
    by : (more : List Mark) → written_marks w ≡ done ++ more → rest ≡ flat_map mark_tokens more → AllByRecursion IsMark more → ⊥
    by [] whole_is left good = let found : mark_of [] ≡ Some (m, after) = ap mark_of (sym left) ∙ e in let none : mark_of [] ≡ no_mark = nothing_there in absurd cc
    by (j ∷ more) whole_is left good =
        let again : Some (m, after) ≡ Some (j, flat_map mark_tokens more) = sym e ∙ ap mark_of left ∙ mark_again j (flat_map mark_tokens more) good.0 in
        let p = pair_parts m j after (flat_map mark_tokens more) again in
        let followed : follow_all false 0 (done ++ j ∷ more) ≡ no_follow =
        follow_all-append false 0 done (j ∷ more) ∙ ap (λ o. o >>= λ q. follow_all q.0 q.1 (j ∷ more)) so_far.followed ∙ ap (λ (x : Mark). follow_all behind n (x ∷ more)) (sym p.0) ∙ ap (λ o. o >>= λ q. follow_all q.0 q.1 more) step in
        let all : follow_all false 0 (done ++ j ∷ more) ≡ whole = ap (follow_all false 0) (sym whole_is) ∙ follows_whole w in
        follow_apart (follow_all false 0 (done ++ j ∷ more)) followed all

-- the marks end where no mark is left
done_all : (tokens rest : List Token) (done : List Mark) (behind : Bool) (n : ℕ) → mark_of rest ≡ None → Marking tokens rest done behind n → (w : Written) → tokens ≡ written_tokens w → AllByRecursion IsLow (written_depths 0 w)
    → (rest ≡ []) × (Some (behind, n) ≡ whole)
done_all tokens rest done behind n e so_far w is low =
    let marks = spelled_marks tokens w is low in
    let old = so_far.only (written_marks w) marks.1 marks.0 in
    by old.0 old.1 old.2 old.3
  where
    by : (more : List Mark) → written_marks w ≡ done ++ more → rest ≡ flat_map mark_tokens more → AllByRecursion IsMark more → (rest ≡ []) × (Some (behind, n) ≡ whole)
    by [] whole_is left good = (left, sym so_far.followed ∙ ap (follow_all false 0) (sym (append-nil done)) ∙ ap (follow_all false 0) (sym whole_is) ∙ follows_whole w)
    by (j ∷ more) whole_is left good = let again : mark_of rest ≡ Some (j, flat_map mark_tokens more) = ap mark_of left ∙ mark_again j (flat_map mark_tokens more) good.0 in absurd cc

pub marking_ends : (tokens rest : List Token) (done : List Mark) (behind : Bool) (n : ℕ) → rest ≡ [] → behind ≡ true → n ≡ 0 → Marking tokens rest done behind n → SpellsMarks tokens done
marking_ends tokens rest done behind n is b_is n_is so_far =
    let followed : follow_all false 0 done ≡ whole = so_far.followed ∙ ap (λ (x : Bool). Some (x, n)) b_is ∙ ap (λ (x : ℕ). Some (true, x)) n_is in
    let told = condition_told done followed in
    (told.0, told.1, so_far.parts ∙ ap (λ (l : List Token). flat_map mark_tokens done ++ l) is ∙ append-nil (flat_map mark_tokens done) ∙ ap (flat_map mark_tokens) told.1 ∙ sym (written_spelled told.0), low_written told.0 0 (subst (AllByRecursion IsMark) told.1 so_far.good))

abbrev behind_of : Option (Bool × ℕ) → Bool
behind_of None = false
behind_of (Some p) = p.0

abbrev count_of : Option (Bool × ℕ) → ℕ
count_of None = 0
count_of (Some p) = p.1

pub marking_fails : (tokens rest : List Token) (done : List Mark) (behind : Bool) (n : ℕ) → mark_of rest ≡ None → ((rest ≡ []) → (behind ≡ true) → (n ≡ 0) → ⊥) → Marking tokens rest done behind n
    → (w : Written) → tokens ≡ written_tokens w → AllByRecursion IsLow (written_depths 0 w) → ⊥
marking_fails tokens rest done behind n e other so_far w is low =
    let all = done_all tokens rest done behind n e so_far w is low in
    other all.0 (ap behind_of all.1) (ap count_of all.1)

-- ---- places in the list of tokens

pub views_len : (xs : List code.Token) → length (token_views xs) ≡ length xs
views_len [] = refl
views_len (x ∷ xs) = ap suc (views_len xs)

views_drop : (n : ℕ) (xs : List code.Token) → token_views (drop n xs) ≡ drop n (token_views xs)
views_drop zero xs = refl
views_drop (suc n) [] = refl
views_drop (suc n) (x ∷ xs) = views_drop n xs

front_and_rest : (xs : List code.Token) (at : ℕ) (front rest : List Token) (n : ℕ) → at ≤ length xs → token_views (drop at xs) ≡ front ++ rest → n + length rest ≡ length xs
    → (n ≡ at + length front) × (token_views (drop n xs) ≡ rest)
front_and_rest xs at front rest n within parts len =
    let total : length (token_views (drop at xs)) ≡ length xs - at = views_len (drop at xs) ∙ length-drop at xs in
    let joined : length (token_views (drop at xs)) ≡ length front + length rest = ap length parts ∙ length-append front rest in
    let n_is : n ≡ at + length front = omega arith in
    let split : drop n xs ≡ drop (length front) (drop at xs) = rw n_is (sym (drop-drop (length front) at xs)) in
    (n_is, ap token_views split ∙ views_drop (length front) (drop at xs) ∙ rw parts (drop_at front rest (length front) refl))

pub mark_long : (m : Mark) → 1 ≤ length (mark_tokens m)
mark_long Bang = omega arith
mark_long Opens = omega arith
mark_long Closes = omega arith
mark_long Joins = omega arith
mark_long Parts = omega arith
mark_long (Compares c) = omega arith

-- the place behind a mark
pub record Behind (xs : List code.Token) (at : ℕ) (rest : List code.Token) : Type 0 where
  pub within : length rest ≤ length xs
  pub later : at < length xs - length rest
  pub place : token_views (drop (length xs - length rest) xs) ≡ token_views rest

behind : (xs : List code.Token) (at : ℕ) (m : Mark) (rest : List code.Token) → at ≤ length xs → mark_of (token_views (drop at xs)) ≡ Some (m, token_views rest) → Behind xs at rest
behind xs at m rest within e =
    let parts = (mark_is (token_views (drop at xs)) m (token_views rest) e).0 in
    let total : length (token_views (drop at xs)) ≡ length xs - at = views_len (drop at xs) ∙ length-drop at xs in
    let joined : length (token_views (drop at xs)) ≡ length (mark_tokens m) + length (token_views rest) = ap length parts ∙ length-append (mark_tokens m) (token_views rest) in
    let same : length (token_views rest) ≡ length rest = views_len rest in
    let long : 1 ≤ length (mark_tokens m) = mark_long m in
    let len : (length xs - length rest) + length (token_views rest) ≡ length xs = omega arith in
    let place = front_and_rest xs at (mark_tokens m) (token_views rest) (length xs - length rest) within parts len in
    record { within = omega arith; later = omega arith; place = place.1 }

pub behind_left : (xs left : List code.Token) (at : ℕ) (m : Mark) (rest : List code.Token) → left ≡ drop at xs → at ≤ length xs → Some (m, token_views rest) ≡ mark_of (token_views left) → Behind xs at rest
behind_left xs left at m rest is within e = behind xs at m rest within (rw (← is) (sym e))

pub value_behind : (xs left : List code.Token) (at : ℕ) (m : Mark) (rest : List code.Token) → left ≡ drop at xs → at ≤ length xs → Some (m, token_views rest) ≡ mark_of (token_views left)
    → Some (m, token_views (drop (length xs - length rest) xs)) ≡ mark_of (token_views (drop at xs))
value_behind xs left at m rest is within e = rw ((behind_left xs left at m rest is within e).place, ← is) e

-- ---- the marks that the loop has

pub nothing_left : (xs : List code.Token) (at : ℕ) → at ≡ length xs → token_views (drop at xs) ≡ []
nothing_left xs at is = ap token_views (drop_of_length-le xs (omega arith))

pub all_left : (xs : List code.Token) (at : ℕ) → at ≤ length xs → token_views (drop at xs) ≡ [] → at ≡ length xs
all_left xs at within e = omega (arith, views_len (drop at xs), length-drop at xs, ap length e)

same_few : (n k : ℕ) {l : ℕ} → k ≡ n → n ≤ l → k ≤ l
same_few n k e h = omega (arith, e)

pub follow_few : (behind : Bool) (n : ℕ) (m : Mark) (b : Bool) (k : ℕ) → Some (b, k) ≡ follow behind n m → k ≤ n + 1
unfolding follow
follow_few false n Bang b k e = same_few n k (ap count_of e) (omega arith)
follow_few false n Opens b k e = same_few (suc n) k (ap count_of e) (omega arith)
follow_few false n (Compares c) b k e = same_few n k (ap count_of e) (omega arith)
follow_few false n Closes b k e = absurd cc
follow_few false n Joins b k e = absurd cc
follow_few false n Parts b k e = absurd cc
follow_few true n Bang b k e = absurd cc
follow_few true n Opens b k e = absurd cc
follow_few true n (Compares c) b k e = absurd cc
follow_few true zero Closes b k e = absurd cc
follow_few true (suc n) Closes b k e = same_few n k (ap count_of e) (omega arith)
follow_few true n Joins b k e = same_few n k (ap count_of e) (omega arith)
follow_few true n Parts b k e = same_few n k (ap count_of e) (omega arith)
