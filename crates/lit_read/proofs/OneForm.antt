-- No tokens spell two forms.
use Rattle.std.proofs.Common.{◌≡◌, ℕ, ◌+◌, Bool, true, false, cond, Some, None, List, [], ◌∷◌, ◌++◌, refl, ap, sym, ◌∙◌, arith, append_assoc}
use Rattle.std.proofs.lemmas.List.{append-nil}
use Rattle.lit_syntax.specs.declared.symbol.Symbol.{Symbol}
use Rattle.lit_syntax.specs.declared.symbol.Symbol.TheVariants.{Same, Differs, And, Or, CloseParen, Dot}
use Rattle.lit_syntax.specs.Tokens.{Token, Word, Number, Sign}
use Rattle.lit_syntax.specs.Written.{Comparison, Operand, Compared, Negated, Grouped, Conjunction, Lone, Both, Written, Single, Either, register_word, operand_tokens, conjunction_tokens, written_tokens}
use Rattle.lit_syntax.specs.Forms.{Form, CheckLine, spelled}
use Rattle.lit_read.specs.Internal.Marks.{IsSpelling, comparison_tokens}
use Rattle.lit_read.specs.Faults.{is_check_line}
use Rattle.lit_read.specs.Internal.FormOfTokens.{fixed_form}
use Rattle.lit_syntax.proofs.ListLemmas.{tail_is}
use Rattle.lit_read.proofs.FormLemmas.{fixed_form_again, check_of}

-- ---- conditions

relation_from : (a b : Bool) → Sign (cond a Same Differs) ≡ Sign (cond b Same Differs) → a ≡ b
relation_from true true e = refl
relation_from false false e = refl
relation_from true false e = absurd (cc)
relation_from false true e = absurd (cc)

abbrev comparison : List ℕ → ℕ → Bool → ℕ → Comparison
comparison agent reg equal value = record { agent = agent; reg = reg; equal = equal; value = value }

row_parts : (a b : List ℕ) (r s : List ℕ) (p q : Symbol) (m n : ℕ) (xs ys : List Token) → Word a ∷ Sign Dot ∷ Word r ∷ Sign p ∷ Number m ∷ xs ≡ Word b ∷ Sign Dot ∷ Word s ∷ Sign q ∷ Number n ∷ ys
    → (a ≡ b) × (r ≡ s) × (p ≡ q) × (m ≡ n) × (xs ≡ ys)
row_parts a b r s p q m n xs ys e = (cc, cc, cc, cc, cc)

abbrev second : List ℕ → ℕ
second (a ∷ b ∷ bs) = b
second _ = 0

second_is : (r s : ℕ) → register_word r ≡ register_word s → r ≡ s
second_is r s e = let same : 48 + r ≡ 48 + s = ap second e in omega (arith, same)

comparison_once : (c d : Comparison) (xs ys : List Token) → comparison_tokens c ++ xs ≡ comparison_tokens d ++ ys → (c ≡ d) × (xs ≡ ys)
comparison_once c d xs ys e =
    let p = row_parts c.agent d.agent (register_word c.reg) (register_word d.reg) (cond c.equal Same Differs) (cond d.equal Same Differs) c.value d.value xs ys e in
    let agent : c.agent ≡ d.agent = p.0 in
    let reg : c.reg ≡ d.reg = second_is c.reg d.reg p.1 in
    let equal : c.equal ≡ d.equal = relation_from c.equal d.equal (ap (λ (s : Symbol). Sign s) p.2) in
    let value : c.value ≡ d.value = p.3 in
    (ap (λ (x : List ℕ). comparison x c.reg c.equal c.value) agent ∙ ap (λ (x : ℕ). comparison d.agent x c.equal c.value) reg ∙ ap (λ (x : Bool). comparison d.agent d.reg x c.value) equal ∙ ap (λ (x : ℕ). comparison d.agent d.reg d.equal x) value, p.4)

abbrev starts_and : List Token → Bool
starts_and (Sign And ∷ ts) = true
starts_and _ = false

abbrev starts_or : List Token → Bool
starts_or (Sign Or ∷ ts) = true
starts_or _ = false

mutual
  pub operand_once : (o p : Operand) (xs ys : List Token) → operand_tokens o ++ xs ≡ operand_tokens p ++ ys → (o ≡ p) × (xs ≡ ys)
  operand_once (Compared c) (Compared d) xs ys e = let r = comparison_once c d xs ys e in (ap (λ (x : Comparison). Compared x) r.0, r.1)
  operand_once (Compared c) (Negated p) xs ys e = absurd (cc)
  operand_once (Compared c) (Grouped w) xs ys e = absurd (cc)
  operand_once (Negated o) (Compared d) xs ys e = absurd (cc)
  operand_once (Negated o) (Negated p) xs ys e = let r = operand_once o p xs ys (tail_is _ _ _ _ e) in (ap (λ (x : Operand). Negated x) r.0, r.1)
  operand_once (Negated o) (Grouped w) xs ys e = absurd (cc)
  operand_once (Grouped w) (Compared d) xs ys e = absurd (cc)
  operand_once (Grouped w) (Negated p) xs ys e = absurd (cc)
  operand_once (Grouped w) (Grouped v) xs ys e =
      let inner : written_tokens w ++ Sign CloseParen ∷ xs ≡ written_tokens v ++ Sign CloseParen ∷ ys =
      sym (append_assoc (written_tokens w) (Sign CloseParen ∷ []) xs) ∙ tail_is _ _ _ _ e ∙ append_assoc (written_tokens v) (Sign CloseParen ∷ []) ys in
      let r = written_once w v (Sign CloseParen ∷ xs) (Sign CloseParen ∷ ys) refl refl refl refl inner in
      (ap (λ (x : Written). Grouped x) r.0, tail_is _ _ _ _ r.1)

  pub conjunction_once : (c d : Conjunction) (xs ys : List Token) → starts_and xs ≡ false → starts_and ys ≡ false → conjunction_tokens c ++ xs ≡ conjunction_tokens d ++ ys → (c ≡ d) × (xs ≡ ys)
  conjunction_once (Lone o) (Lone p) xs ys a b e = let r = operand_once o p xs ys e in (ap (λ (x : Operand). Lone x) r.0, r.1)
  conjunction_once (Lone o) (Both p d) xs ys a b e =
      let r = operand_once o p xs (Sign And ∷ (conjunction_tokens d ++ ys)) (e ∙ append_assoc (operand_tokens p) (Sign And ∷ conjunction_tokens d) ys) in
      let starts : starts_and xs ≡ true = ap starts_and r.1 in absurd cc
  conjunction_once (Both o c) (Lone p) xs ys a b e =
      let r = operand_once o p (Sign And ∷ (conjunction_tokens c ++ xs)) ys (sym (append_assoc (operand_tokens o) (Sign And ∷ conjunction_tokens c) xs) ∙ e) in
      let starts : starts_and ys ≡ true = ap starts_and (sym r.1) in absurd cc
  conjunction_once (Both o c) (Both p d) xs ys a b e =
      let r = operand_once o p (Sign And ∷ (conjunction_tokens c ++ xs)) (Sign And ∷ (conjunction_tokens d ++ ys))
      (sym (append_assoc (operand_tokens o) (Sign And ∷ conjunction_tokens c) xs) ∙ e ∙ append_assoc (operand_tokens p) (Sign And ∷ conjunction_tokens d) ys) in
      let q = conjunction_once c d xs ys a b (tail_is _ _ _ _ r.1) in
      (ap (λ (x : Operand). Both x c) r.0 ∙ ap (λ (x : Conjunction). Both p x) q.0, q.1)

  pub written_once : (w v : Written) (xs ys : List Token) → starts_and xs ≡ false → starts_and ys ≡ false → starts_or xs ≡ false → starts_or ys ≡ false → written_tokens w ++ xs ≡ written_tokens v ++ ys → (w ≡ v) × (xs ≡ ys)
  written_once (Single c) (Single d) xs ys a b g h e = let r = conjunction_once c d xs ys a b e in (ap (λ (x : Conjunction). Single x) r.0, r.1)
  written_once (Single c) (Either d v) xs ys a b g h e =
      let r = conjunction_once c d xs (Sign Or ∷ (written_tokens v ++ ys)) a refl (e ∙ append_assoc (conjunction_tokens d) (Sign Or ∷ written_tokens v) ys) in
      let starts : starts_or xs ≡ true = ap starts_or r.1 in absurd cc
  written_once (Either c w) (Single d) xs ys a b g h e =
      let r = conjunction_once c d (Sign Or ∷ (written_tokens w ++ xs)) ys refl b (sym (append_assoc (conjunction_tokens c) (Sign Or ∷ written_tokens w) xs) ∙ e) in
      let starts : starts_or ys ≡ true = ap starts_or (sym r.1) in absurd cc
  written_once (Either c w) (Either d v) xs ys a b g h e =
      let r = conjunction_once c d (Sign Or ∷ (written_tokens w ++ xs)) (Sign Or ∷ (written_tokens v ++ ys)) refl refl
      (sym (append_assoc (conjunction_tokens c) (Sign Or ∷ written_tokens w) xs) ∙ e ∙ append_assoc (conjunction_tokens d) (Sign Or ∷ written_tokens v) ys) in
      let q = written_once w v xs ys a b g h (tail_is _ _ _ _ r.1) in
      (ap (λ (x : Conjunction). Either x w) r.0 ∙ ap (λ (x : Written). Either d x) q.0, q.1)

pub one_condition : (w v : Written) → written_tokens w ≡ written_tokens v → w ≡ v
one_condition w v e = (written_once w v [] [] refl refl refl refl (append-nil (written_tokens w) ∙ e ∙ sym (append-nil (written_tokens v)))).0

-- ---- all forms

two_checks : (w v : Written) → spelled (CheckLine w) ≡ spelled (CheckLine v) → CheckLine w ≡ CheckLine v
unfolding spelled
two_checks w v e = ap (λ (x : Written). CheckLine x) (one_condition w v (tail_is _ _ _ _ e))

pub spelled_once : (f g : Form) (ts : List Token) → IsSpelling ts f → IsSpelling ts g → f ≡ g
spelled_once f g ts a b = by (is_check_line f) refl (is_check_line g) refl (sym (fixed_form_again f a.1) ∙ ap fixed_form same ∙ fixed_form_again g b.1)
  where
    same : spelled f ≡ spelled g
    same = sym a.0 ∙ b.0

    by : (x : Bool) → is_check_line f ≡ x → (y : Bool) → is_check_line g ≡ y → cond x None (Some f) ≡ cond y None (Some g) → f ≡ g
    by false e false h found = cc
    by false e true h found = absurd cc
    by true e false h found = absurd cc
    by true e true h found =
        let w = check_of f e in
        let v = check_of g h in
        w.1 ∙ two_checks w.0 v.0 (ap spelled (sym w.1) ∙ same ∙ ap spelled v.1) ∙ sym v.1
