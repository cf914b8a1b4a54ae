-- The first line of a text, and what is left.
use Rattle.std.proofs.Common.{◌≡◌, ℕ, suc, ◌+◌, Bool, true, false, cond, not, eqb, List, [], ◌∷◌, Option, Some, None, take, drop, ◌&&◌, refl, ap, sym, ◌∙◌, arith, ◌-◌, ◌≤◌, length, ◌++◌, ◌⊎◌, inl, inr}
use Rattle.std.proofs.Math.Seq.{take-length}
use Rattle.std.specs.List.{prefix_len, list_all}
use Rattle.std.proofs.lemmas.Bool.{eqb-true}
use Rattle.std.proofs.lemmas.List.{length-append}
use Rattle.lit_read.specs.Lines.{ended_lines, is_whole_line, onto_first, lines_of, lines_from}

-- what follows the byte at the front, if anything does
abbrev pub behind : List ℕ → Option (List ℕ)
behind [] = None
behind (x ∷ []) = None
behind (x ∷ y ∷ ys) = Some (y ∷ ys)

abbrev before : List ℕ → ℕ
before text = prefix_len (λ b. not (eqb b 10)) text

pub lines_split : (text : List ℕ) → lines_of text ≡ take (prefix_len (λ b. not (eqb b 10)) text) text ∷ lines_from (behind (drop (prefix_len (λ b. not (eqb b 10)) text) text))
unfolding lines_of
lines_split [] = refl
lines_split (b ∷ []) =
    elim (eqb b 10) as (λ t. cond t ([] ∷ []) ((b ∷ []) ∷ []) ≡ take (cond (not t) (suc 0) 0) (b ∷ []) ∷ lines_from (behind (drop (cond (not t) (suc 0) 0) (b ∷ []))))
    [ true ↦ refl | false ↦ refl ]
lines_split (b ∷ c ∷ bs) = by (eqb b 10) (before (c ∷ bs)) (lines_of (c ∷ bs)) (lines_split (c ∷ bs))
  where
    by : (t : Bool) (n : ℕ) (ls : List (List ℕ)) → ls ≡ take n (c ∷ bs) ∷ lines_from (behind (drop n (c ∷ bs)))
        → cond t ([] ∷ lines_of (c ∷ bs)) (onto_first b ls) ≡ take (cond (not t) (1 + n) 0) (b ∷ c ∷ bs) ∷ lines_from (behind (drop (cond (not t) (1 + n) 0) (b ∷ c ∷ bs)))
    by true n ls h = refl
    by false n ls h = let e : 1 + n ≡ suc n = omega arith in rw e (ap (onto_first b) h)

behind_long : (xs : List ℕ) → 2 ≤ length xs → behind xs ≡ Some (take (length xs - 1) (drop 1 xs))
behind_long [] h = absurd (omega arith)
behind_long (x ∷ []) h = absurd (omega arith)
behind_long (x ∷ y ∷ ys) h =
    let e : length (x ∷ y ∷ ys) - 1 ≡ length (y ∷ ys) = omega arith in
    rw e (ap (λ (l : List ℕ). Some l) (sym (take-length (y ∷ ys))))

pub lines_split_long : (text : List ℕ) (n : ℕ) → n ≡ prefix_len (λ b. not (eqb b 10)) text → 2 ≤ length (drop n text)
    → lines_of text ≡ take n text ∷ lines_of (take (length (drop n text) - 1) (drop 1 (drop n text)))
lines_split_long text n is long = rw is (lines_split text ∙ ap (λ (o : Option (List ℕ)). take (before text) text ∷ lines_from o) (behind_long (drop (before text) text) (rw (← is) long)))

-- ---- the lines joined again

onto_ended : (b : ℕ) (ls : List (List ℕ)) → 1 ≤ length ls → ended_lines (onto_first b ls) ≡ b ∷ ended_lines ls
onto_ended b [] some = absurd (omega arith)
onto_ended b (l ∷ ls) some = refl

onto_whole : (b : ℕ) (ls : List (List ℕ)) → eqb b 10 ≡ false → list_all is_whole_line ls ≡ true → list_all is_whole_line (onto_first b ls) ≡ true
onto_whole b [] e all = rw e refl
onto_whole b (l ∷ ls) e all = rw e all

pub onto_some : (b : ℕ) (ls : List (List ℕ)) → 1 ≤ length (onto_first b ls)
onto_some b [] = omega arith
onto_some b (l ∷ ls) = omega arith

-- the text is its lines with their bytes 10, of which the last may be missing
abbrev AreJoined : List ℕ → List (List ℕ) → Type 0
AreJoined text ls = (1 ≤ length ls) × (list_all is_whole_line ls ≡ true) × ((text ≡ ended_lines ls) ⊎ (text ++ 10 ∷ [] ≡ ended_lines ls))

pub lines_joined : (text : List ℕ) → AreJoined text (lines_of text)
unfolding lines_of
lines_joined [] = (omega arith, refl, inr refl)
lines_joined (b ∷ []) = by (eqb b 10) refl
  where
    by : (t : Bool) → eqb b 10 ≡ t → AreJoined (b ∷ []) (cond t ([] ∷ []) ((b ∷ []) ∷ []))
    by true e = (omega arith, refl, inl (ap (λ (n : ℕ). n ∷ []) (eqb-true b 10 e)))
    by false e = (omega arith, rw e refl, inr refl)
lines_joined (b ∷ c ∷ bs) = by (eqb b 10) refl (lines_of (c ∷ bs)) (lines_joined (c ∷ bs))
  where
    behind_ten : (n : ℕ) (ls : List (List ℕ)) → n ≡ 10 → (c ∷ bs ≡ ended_lines ls) ⊎ ((c ∷ bs) ++ 10 ∷ [] ≡ ended_lines ls) → (n ∷ c ∷ bs ≡ ended_lines ([] ∷ ls)) ⊎ ((n ∷ c ∷ bs) ++ 10 ∷ [] ≡ ended_lines ([] ∷ ls))
    behind_ten n ls e (inl h) = inl (ap (λ (m : ℕ). m ∷ c ∷ bs) e ∙ ap (λ (l : List ℕ). 10 ∷ l) h)
    behind_ten n ls e (inr h) = inr (ap (λ (m : ℕ). m ∷ (c ∷ bs) ++ 10 ∷ []) e ∙ ap (λ (l : List ℕ). 10 ∷ l) h)

    behind_byte : (ls : List (List ℕ)) → 1 ≤ length ls → (c ∷ bs ≡ ended_lines ls) ⊎ ((c ∷ bs) ++ 10 ∷ [] ≡ ended_lines ls) → (b ∷ c ∷ bs ≡ ended_lines (onto_first b ls)) ⊎ ((b ∷ c ∷ bs) ++ 10 ∷ [] ≡ ended_lines (onto_first b ls))
    behind_byte ls some (inl h) = inl (ap (λ (l : List ℕ). b ∷ l) h ∙ sym (onto_ended b ls some))
    behind_byte ls some (inr h) = inr (ap (λ (l : List ℕ). b ∷ l) h ∙ sym (onto_ended b ls some))

    by : (t : Bool) → eqb b 10 ≡ t → (ls : List (List ℕ)) → AreJoined (c ∷ bs) ls → AreJoined (b ∷ c ∷ bs) (cond t ([] ∷ ls) (onto_first b ls))
    by true e ls h = (omega arith, h.1, behind_ten b ls (eqb-true b 10 e) h.2)
    by false e ls h = (onto_some b ls, onto_whole b ls e h.1, behind_byte ls h.0 h.2)

-- behind a byte at the front of a text that is not empty
lines_behind : (b : ℕ) (bs : List ℕ) → 1 ≤ length bs → lines_of (b ∷ bs) ≡ cond (eqb b 10) ([] ∷ lines_of bs) (onto_first b (lines_of bs))
unfolding lines_of
lines_behind b [] some = absurd (omega arith)
lines_behind b (c ∷ bs) some = refl

pub lines_ended : (text : List ℕ) → text ++ 10 ∷ [] ≡ ended_lines (lines_of (text ++ 10 ∷ []))
unfolding lines_of
lines_ended [] = refl
lines_ended (b ∷ bs) = by (eqb b 10) refl (lines_ended bs) ∙ ap ended_lines (sym (lines_behind b (bs ++ 10 ∷ []) (omega (arith, length-append bs (10 ∷ [])))))
  where
    by : (t : Bool) → eqb b 10 ≡ t → bs ++ 10 ∷ [] ≡ ended_lines (lines_of (bs ++ 10 ∷ [])) → b ∷ bs ++ 10 ∷ [] ≡ ended_lines (cond t ([] ∷ lines_of (bs ++ 10 ∷ [])) (onto_first b (lines_of (bs ++ 10 ∷ []))))
    by true e rest = ap (λ (n : ℕ). n ∷ bs ++ 10 ∷ []) (eqb-true b 10 e) ∙ ap (λ (l : List ℕ). 10 ∷ l) rest
    by false e rest = ap (λ (l : List ℕ). b ∷ l) rest ∙ sym (onto_ended b (lines_of (bs ++ 10 ∷ [])) (lines_joined (bs ++ 10 ∷ [])).0)

-- the bytes of the lines are bytes of the text
pub lines_pass : (p : ℕ → Bool) (text : List ℕ) → list_all p text ≡ true → list_all (λ l. list_all p l) (lines_of text) ≡ true
unfolding lines_of
lines_pass p [] h = refl
lines_pass p (b ∷ []) h = elim (eqb b 10) as (λ t. list_all (λ l. list_all p l) (cond t ([] ∷ []) ((b ∷ []) ∷ [])) ≡ true) [ true ↦ refl | false ↦ rw h refl ]
lines_pass p (b ∷ c ∷ bs) h = by (p b) refl h (lines_pass p (c ∷ bs)) (eqb b 10)
  where
    onto : (ls : List (List ℕ)) → p b ≡ true → list_all (λ l. list_all p l) ls ≡ true → list_all (λ l. list_all p l) (onto_first b ls) ≡ true
    onto [] e g = rw e refl
    onto (l ∷ ls) e g = rw e g

    by : (x : Bool) → p b ≡ x → (x && list_all p (c ∷ bs)) ≡ true → (list_all p (c ∷ bs) ≡ true → list_all (λ l. list_all p l) (lines_of (c ∷ bs)) ≡ true)
        → (t : Bool) → list_all (λ l. list_all p l) (cond t ([] ∷ lines_of (c ∷ bs)) (onto_first b (lines_of (c ∷ bs)))) ≡ true
    by true e g rest true = rest g
    by true e g rest false = onto (lines_of (c ∷ bs)) e (rest g)
    by false e g rest t = absurd cc
