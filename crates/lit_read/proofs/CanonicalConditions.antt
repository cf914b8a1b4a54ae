-- The check line of a test: clean, and asking what it may.
use Rattle.std.proofs.Common.{◌≡◌, ℕ, ◌+◌, ◌<◌, ◌≤◌, Bool, true, false, eqb, List, [], ◌∷◌, ◌++◌, refl, ap, sym, subst, ◌∙◌, append_assoc, arith}
use Rattle.std.specs.Prelude.{codes}
use Rattle.std.specs.List.{AllByRecursion}
use Rattle.std.specs.Char.{is_ascii_digit}
use Rattle.std.specs.Fmt.{decimal}
use Rattle.std.proofs.lemmas.Bool.Decides.{nat_tests}
use Rattle.std.proofs.lemmas.List.{append-nil}
use Rattle.lit_syntax.specs.declared.symbol.Symbol.TheVariants.{Same, Differs, And, Or, Not, OpenParen, CloseParen, Dot}
use Rattle.lit_syntax.specs.declared.limits.TheConstants.{REGISTERS, COMPARED_LIMIT}
use Rattle.lit_syntax.specs.Tokens.{Token, Sign, begins_with, begins_word, IsWord}
use Rattle.lit_syntax.specs.Written.{Comparison, Operand, Compared, Negated, Grouped, Conjunction, Lone, Both, Written, Single, Either, operand_tokens, conjunction_tokens, written_tokens, operand_depths, conjunction_depths, written_depths}
use Rattle.lit_syntax.specs.Forms.{CheckLine, spelled}
use Rattle.lit_read.specs.Internal.Marks.{comparison_tokens}
use Rattle.lit_read.specs.CanonicalText.{joined, register_text, relation_text, comparison_text, operand_text, conjunction_text, written_text, form_text}
use Rattle.lit_syntax.proofs.ListLemmas.{all_parts}
use Rattle.lit_read.proofs.CleanLines.{IsClean, clean_nil, clean_blank, word_is, clean_word, clean_sign, clean_number, clean_register, onto, onto_is}

-- ---- clean conditions

-- a comparison that a line can have
pub record IsWritable (c : Comparison) : Type 0 where
  pub named : IsWord c.agent
  pub register : c.reg < REGISTERS
  pub small : c.value ≤ COMPARED_LIMIT

abbrev pub AreWritable : List (Comparison × ℕ) → Type 0
AreWritable ps = AllByRecursion (λ p. IsWritable p.0) ps

-- no digit goes on with what is before
abbrev Stops : List ℕ → Type 0
Stops line = begins_with is_ascii_digit line ≡ false

comparison_clean : (agent : List ℕ) (reg : ℕ) (equal : Bool) (value : ℕ) {line : List ℕ} {ts : List Token} → IsWord agent → reg < REGISTERS → value ≤ COMPARED_LIMIT → Stops line → IsClean line ts
    → IsClean (comparison_text (record { agent = agent; reg = reg; equal = equal; value = value }) ++ line) (comparison_tokens (record { agent = agent; reg = reg; equal = equal; value = value }) ++ ts)
comparison_clean agent reg true value {line} {ts} is lt small ends h =
    let all : IsClean (onto (agent ∷ codes "." ∷ register_text reg ∷ codes " == " ∷ decimal value ∷ []) line) (comparison_tokens (record { agent = agent; reg = reg; equal = true; value = value }) ++ ts) =
    clean_word agent is refl (clean_sign Dot tt (clean_register reg lt refl (clean_blank (clean_sign Same tt (clean_blank (clean_number value (omega arith) ends h)))))) in
    subst (λ (l : List ℕ). IsClean l (comparison_tokens (record { agent = agent; reg = reg; equal = true; value = value }) ++ ts)) (sym (onto_is (agent ∷ codes "." ∷ register_text reg ∷ codes " == " ∷ decimal value ∷ []) line)) all
comparison_clean agent reg false value {line} {ts} is lt small ends h =
    let all : IsClean (onto (agent ∷ codes "." ∷ register_text reg ∷ codes " != " ∷ decimal value ∷ []) line) (comparison_tokens (record { agent = agent; reg = reg; equal = false; value = value }) ++ ts) =
    clean_word agent is refl (clean_sign Dot tt (clean_register reg lt refl (clean_blank (clean_sign Differs tt (clean_blank (clean_number value (omega arith) ends h)))))) in
    subst (λ (l : List ℕ). IsClean l (comparison_tokens (record { agent = agent; reg = reg; equal = false; value = value }) ++ ts)) (sym (onto_is (agent ∷ codes "." ∷ register_text reg ∷ codes " != " ∷ decimal value ∷ []) line)) all

word_no_equals : (word line : List ℕ) → IsWord word → begins_with (λ b. eqb b 61) (word ++ line) ≡ false
word_no_equals [] line is = absurd (let h = is.first in cc)
word_no_equals (b ∷ bs) line is = no_equals b is.first
  where
    no_equals : (b : ℕ) → begins_word b ≡ true → eqb b 61 ≡ false
    no_equals b h = grind (arith, nat_tests)

operand_no_equals : (o : Operand) (n : ℕ) (line : List ℕ) → AreWritable (operand_depths n o) → begins_with (λ b. eqb b 61) (operand_text o ++ line) ≡ false
operand_no_equals (Compared c) n line are =
    ap (begins_with (λ b. eqb b 61)) (append_assoc c.agent (joined (codes "." ∷ register_text c.reg ∷ relation_text c.equal ∷ decimal c.value ∷ [])) line)
    ∙ word_no_equals c.agent (joined (codes "." ∷ register_text c.reg ∷ relation_text c.equal ∷ decimal c.value ∷ []) ++ line) are.0.named
operand_no_equals (Negated o) n line are = refl
operand_no_equals (Grouped w) n line are = refl

mutual
  operand_clean : (o : Operand) (n : ℕ) (line : List ℕ) (ts : List Token) → AreWritable (operand_depths n o) → Stops line → IsClean line ts → IsClean (operand_text o ++ line) (operand_tokens o ++ ts)
  operand_clean (Compared c) n line ts are ends h = comparison_clean c.agent c.reg c.equal c.value are.0.named are.0.register are.0.small ends h
  operand_clean (Negated o) n line ts are ends h = clean_sign Not (operand_no_equals o (n + 1) line are) (operand_clean o (n + 1) line ts are ends h)
  operand_clean (Grouped w) n line ts are ends h =
      let all : IsClean (codes "(" ++ (written_text w ++ (codes ")" ++ line))) (Sign OpenParen ∷ (written_tokens w ++ Sign CloseParen ∷ ts)) =
      clean_sign OpenParen tt (written_clean w (n + 1) (codes ")" ++ line) (Sign CloseParen ∷ ts) are refl (clean_sign CloseParen tt h)) in
      subst (λ (l : List ℕ). IsClean l (operand_tokens (Grouped w) ++ ts)) (sym (onto_is (codes "(" ∷ written_text w ∷ codes ")" ∷ []) line))
      (subst (λ (us : List Token). IsClean (codes "(" ++ (written_text w ++ (codes ")" ++ line))) (Sign OpenParen ∷ us)) (sym (append_assoc (written_tokens w) (Sign CloseParen ∷ []) ts)) all)

  conjunction_clean : (c : Conjunction) (n : ℕ) (line : List ℕ) (ts : List Token) → AreWritable (conjunction_depths n c) → Stops line → IsClean line ts → IsClean (conjunction_text c ++ line) (conjunction_tokens c ++ ts)
  conjunction_clean (Lone o) n line ts are ends h = operand_clean o n line ts are ends h
  conjunction_clean (Both o c) n line ts are ends h =
      let parts = all_parts (λ (p : Comparison × ℕ). IsWritable p.0) (operand_depths n o) (conjunction_depths n c) are in
      let all : IsClean (operand_text o ++ (codes " && " ++ (conjunction_text c ++ line))) (operand_tokens o ++ Sign And ∷ (conjunction_tokens c ++ ts)) =
      operand_clean o n (codes " && " ++ (conjunction_text c ++ line)) (Sign And ∷ (conjunction_tokens c ++ ts)) parts.0 refl (clean_blank (clean_sign And tt (clean_blank (conjunction_clean c n line ts parts.1 ends h)))) in
      subst (λ (l : List ℕ). IsClean l (conjunction_tokens (Both o c) ++ ts)) (sym (onto_is (operand_text o ∷ codes " && " ∷ conjunction_text c ∷ []) line))
      (subst (λ (us : List Token). IsClean (operand_text o ++ (codes " && " ++ (conjunction_text c ++ line))) us) (sym (append_assoc (operand_tokens o) (Sign And ∷ conjunction_tokens c) ts)) all)

  written_clean : (w : Written) (n : ℕ) (line : List ℕ) (ts : List Token) → AreWritable (written_depths n w) → Stops line → IsClean line ts → IsClean (written_text w ++ line) (written_tokens w ++ ts)
  written_clean (Single c) n line ts are ends h = conjunction_clean c n line ts are ends h
  written_clean (Either c w) n line ts are ends h =
      let parts = all_parts (λ (p : Comparison × ℕ). IsWritable p.0) (conjunction_depths n c) (written_depths n w) are in
      let all : IsClean (conjunction_text c ++ (codes " || " ++ (written_text w ++ line))) (conjunction_tokens c ++ Sign Or ∷ (written_tokens w ++ ts)) =
      conjunction_clean c n (codes " || " ++ (written_text w ++ line)) (Sign Or ∷ (written_tokens w ++ ts)) parts.0 refl (clean_blank (clean_sign Or tt (clean_blank (written_clean w n line ts parts.1 ends h)))) in
      subst (λ (l : List ℕ). IsClean l (written_tokens (Either c w) ++ ts)) (sym (onto_is (conjunction_text c ∷ codes " || " ∷ written_text w ∷ []) line))
      (subst (λ (us : List Token). IsClean (conjunction_text c ++ (codes " || " ++ (written_text w ++ line))) us) (sym (append_assoc (conjunction_tokens c) (Sign Or ∷ written_tokens w) ts)) all)

pub check_clean : (w : Written) → AreWritable (written_depths 0 w) → IsClean (form_text (CheckLine w)) (spelled (CheckLine w))
unfolding spelled
check_clean w are =
    let all : IsClean (written_text w ++ []) (written_tokens w ++ []) = written_clean w 0 [] [] are refl clean_nil in
    let line : IsClean (written_text w) (written_tokens w) = subst (λ (l : List ℕ). IsClean l (written_tokens w)) (append-nil (written_text w)) (subst (λ (us : List Token). IsClean (written_text w ++ []) us) (append-nil (written_tokens w)) all) in
    clean_word (codes "check") (word_is (codes "check") refl) refl (clean_blank line)
