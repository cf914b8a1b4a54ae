-- The lines that are listed from some line on.
use Rattle.std.proofs.Common.{◌≡◌, ℕ, zero, suc, ◌+◌, ◌-◌, ◌<◌, ◌≤◌, List, [], ◌∷◌, ◌++◌, length, slice_get, Option, Some, None, inl, inr, refl, sym, ap, subst, ◌∙◌, arith, append_assoc}
use Rattle.std.proofs.lemmas.Bool.{cases_lt}
use Rattle.std.proofs.lemmas.Option.{slice_get_within}
use Rattle.std.proofs.lemmas.List.{append-nil, length-append}
use Rattle.lit_read.specs.Lines.{lines_of, lines_from}
use Rattle.lit_read.specs.StatementLines.{IsStatementLine, BeginsStatement, ListsStatementLines}
use Rattle.lit_read.proofs.Progress.{lines_few}

-- exactly the lines after line n on which a statement begins, rising
pub record ListsAfter (text : List ℕ) (n : ℕ) (lines : List ℕ) : Type 0 where
  pub only : (k m : ℕ) → slice_get lines k ≡ Some m → (n < m) × IsStatementLine text m
  pub all : (m : ℕ) → n < m → IsStatementLine text m → (k : ℕ) × (slice_get lines k ≡ Some m)
  pub rising : (i j m p : ℕ) → i < j → slice_get lines i ≡ Some m → slice_get lines j ≡ Some p → m < p

pub after_none : (text lines : List ℕ) → ListsAfter text 0 lines → ListsStatementLines text lines
after_none text lines l = record { only = λ k n e. (l.only k n e).1; all = λ n is. l.all n is.counted is; rising = l.rising }

pub after_start : (text lines : List ℕ) → ListsStatementLines text lines → ListsAfter text 0 lines
after_start text lines l = record { only = λ k n e. (let is = l.only k n e in (is.counted, is)); all = λ n lt is. l.all n is; rising = l.rising }

-- ---- one line more

line_within : (text : List ℕ) (m : ℕ) → IsStatementLine text m → m ≤ length (lines_of text)
line_within text m is = omega (arith, slice_get_within (lines_of text) (m - 1) is.line is.listed, is.counted)

pub none_after : (text : List ℕ) (n : ℕ) → length (lines_of text) ≤ n → ListsAfter text n []
none_after text n past = record {
  only = λ k m e. cc;
  all = λ m lt is. absurd (omega (arith, line_within text m is));
  rising = λ i j m p lt e h. cc;
}

pub skipped : (text : List ℕ) (n : ℕ) (lines : List ℕ) → (IsStatementLine text (n + 1) → ⊥) → ListsAfter text (n + 1) lines → ListsAfter text n lines
skipped text n lines not l = record {
  only = λ k m e. (let h = l.only k m e in (omega (arith, h.0), h.1));
  all = λ m lt is. l.all m (later m lt is) is;
  rising = l.rising;
}
  where
    later : (m : ℕ) → n < m → IsStatementLine text m → n + 1 < m
    later m lt is =
        elim (cases_lt (n + 1) m) [
          | inl more ↦ more
          | inr le ↦ (
              let same : m ≡ n + 1 = omega (arith, lt, le) in
              absurd (not (subst (λ (x : ℕ). IsStatementLine text x) same is))
              )
        ]

pub added : (text : List ℕ) (n : ℕ) (lines : List ℕ) → IsStatementLine text (n + 1) → ListsAfter text (n + 1) lines → ListsAfter text n ((n + 1) ∷ lines)
added text n lines here l = record { only = only; all = all; rising = rising }
  where
    only : (k m : ℕ) → slice_get ((n + 1) ∷ lines) k ≡ Some m → (n < m) × IsStatementLine text m
    only zero m e = let same : n + 1 ≡ m = cc in (omega (arith, same), subst (λ (x : ℕ). IsStatementLine text x) same here)
    only (suc k) m e = let h = l.only k m e in (omega (arith, h.0), h.1)

    all : (m : ℕ) → n < m → IsStatementLine text m → (k : ℕ) × (slice_get ((n + 1) ∷ lines) k ≡ Some m)
    all m lt is =
        elim (cases_lt (n + 1) m) [
          | inl more ↦ (let h = l.all m more is in (suc h.0, h.1))
          | inr le ↦ (let same : n + 1 ≡ m = omega (arith, lt, le) in (0, ap (λ (x : ℕ). Some x) same))
        ]

    rising : (i j m p : ℕ) → i < j → slice_get ((n + 1) ∷ lines) i ≡ Some m → slice_get ((n + 1) ∷ lines) j ≡ Some p → m < p
    rising i zero m p lt e h = absurd (omega (arith, lt))
    rising zero (suc j) m p lt e h = let same : n + 1 ≡ m = cc in omega (arith, same, (l.only j p h).0)
    rising (suc i) (suc j) m p lt e h = l.rising i j m p (omega (arith, lt)) e h

-- ---- one line less

pub without : (text : List ℕ) (n : ℕ) (lines : List ℕ) → (IsStatementLine text (n + 1) → ⊥) → ListsAfter text n lines → ListsAfter text (n + 1) lines
without text n lines not l = record {
  only = λ k m e. (let h = l.only k m e in (later m h.0 h.1, h.1));
  all = λ m lt is. l.all m (omega (arith, lt)) is;
  rising = l.rising;
}
  where
    later : (m : ℕ) → n < m → IsStatementLine text m → n + 1 < m
    later m lt is =
        elim (cases_lt (n + 1) m) [
          | inl more ↦ more
          | inr le ↦ (
              let same : m ≡ n + 1 = omega (arith, lt, le) in
              absurd (not (subst (λ (x : ℕ). IsStatementLine text x) same is))
              )
        ]

pub first_left : (text : List ℕ) (n : ℕ) (lines : List ℕ) → IsStatementLine text (n + 1) → ListsAfter text n lines
    → (rest : List ℕ) × (lines ≡ (n + 1) ∷ rest) × ListsAfter text (n + 1) rest
first_left text n [] here l = let h = l.all (n + 1) (omega arith) here in absurd (none h.0 h.1)
  where
    none : (k : ℕ) → slice_get {X = ℕ} [] k ≡ Some (n + 1) → ⊥
    none k e = cc
first_left text n (m ∷ rest) here l = (rest, ap (λ (x : ℕ). x ∷ rest) first, record { only = only; all = all; rising = λ i j p q lt e h. l.rising (suc i) (suc j) p q (omega (arith, lt)) e h })
  where
    at : (k : ℕ) → slice_get (m ∷ rest) k ≡ Some (n + 1) → m ≡ n + 1
    at zero e = cc
    at (suc k) e = absurd (omega (arith, l.rising 0 (suc k) m (n + 1) (omega arith) refl e, (l.only 0 m refl).0))

    first : m ≡ n + 1
    first = let h = l.all (n + 1) (omega arith) here in at h.0 h.1

    only : (k p : ℕ) → slice_get rest k ≡ Some p → (n + 1 < p) × IsStatementLine text p
    only k p e = (omega (arith, first, l.rising 0 (suc k) m p (omega arith) refl e), (l.only (suc k) p e).1)

    behind : (p k : ℕ) → n + 1 < p → slice_get (m ∷ rest) k ≡ Some p → (i : ℕ) × (slice_get rest i ≡ Some p)
    behind p zero lt e = let same : m ≡ p = cc in absurd (omega (arith, lt, same, first))
    behind p (suc k) lt e = (k, e)

    all : (p : ℕ) → n + 1 < p → IsStatementLine text p → (k : ℕ) × (slice_get rest k ≡ Some p)
    all p lt is = let h = l.all p (omega (arith, lt)) is in behind p h.0 lt h.1

pub none_left : (text : List ℕ) (n : ℕ) (lines : List ℕ) → length (lines_of text) ≤ n → ListsAfter text n lines → lines ≡ []
none_left text n [] past l = refl
none_left text n (m ∷ rest) past l = let h = l.only 0 m refl in absurd (omega (arith, past, h.0, line_within text m h.1))

-- ---- where a line stands

slice_get-seam : {A : Type 0} (xs : List A) (y : A) (ys : List A) → slice_get (xs ++ y ∷ ys) (length xs) ≡ Some y
slice_get-seam [] y ys = refl
slice_get-seam (x ∷ xs) y ys = slice_get-seam xs y ys

pub line_listed : (text : List ℕ) (n : ℕ) (done : List (List ℕ)) (line : List ℕ) (ls : List (List ℕ)) → lines_of text ≡ done ++ line ∷ ls → length done ≡ n
    → slice_get (lines_of text) ((n + 1) - 1) ≡ Some line
line_listed text n done line ls split count =
    let at : (n + 1) - 1 ≡ length done = omega (arith, count) in
    rw (at, split) (slice_get-seam done line ls)

pub begun_here : (text : List ℕ) (n : ℕ) (line : List ℕ) → slice_get (lines_of text) ((n + 1) - 1) ≡ Some line → BeginsStatement line → IsStatementLine text (n + 1)
begun_here text n line listed begun = record { counted = omega arith; line = line; listed = listed; begun = begun }

pub not_begun_here : (text : List ℕ) (n : ℕ) (line : List ℕ) → slice_get (lines_of text) ((n + 1) - 1) ≡ Some line → (BeginsStatement line → ⊥) → IsStatementLine text (n + 1) → ⊥
not_begun_here text n line listed not is =
    let same : is.line ≡ line = one (sym is.listed ∙ listed) in
    not (subst (λ (l : List ℕ). BeginsStatement l) same is.begun)
  where
    one : {x y : List ℕ} → Some x ≡ Some y → x ≡ y
    one e = cc

-- ---- the lines so far

-- So many lines are read, and these are listed: with exactly those after them, they are all.
pub record IsListing (text : List ℕ) (number : ℕ) (lines : List ℕ) (rest : Option (List ℕ)) : Type 0 where
  pub done : List (List ℕ)
  pub split : lines_of text ≡ done ++ lines_from rest
  pub count : length done ≡ number
  pub whole : (tail : List ℕ) → ListsAfter text number tail → ListsStatementLines text (lines ++ tail)

pub listing_begins : (text lines : List ℕ) → lines ≡ [] → IsListing text 0 lines (Some text)
listing_begins text lines none = record { done = []; split = refl; count = refl; whole = λ tail l. rw none (after_none text tail l) }

pub listing_ends : (text : List ℕ) (number : ℕ) (lines : List ℕ) → IsListing text number lines None → ListsStatementLines text lines
listing_ends text number lines l =
    let all : length (lines_of text) ≤ number = omega (arith, ap length l.split, length-append l.done [], l.count) in
    subst (λ (xs : List ℕ). ListsStatementLines text xs) (append-nil lines) (l.whole [] (none_after text number all))

module _ (text left line : List ℕ) (number : ℕ) (lines : List ℕ) (after : Option (List ℕ)) (l : IsListing text number lines (Some left)) (is : lines_of left ≡ line ∷ lines_from after) where
  split_here : lines_of text ≡ l.done ++ line ∷ lines_from after
  split_here = l.split ∙ ap (λ (ls : List (List ℕ)). l.done ++ ls) is

  listed_here : slice_get (lines_of text) ((number + 1) - 1) ≡ Some line
  listed_here = line_listed text number l.done line (lines_from after) split_here l.count

  split_later : lines_of text ≡ (l.done ++ line ∷ []) ++ lines_from after
  split_later = split_here ∙ sym (append_assoc l.done (line ∷ []) (lines_from after))

  count_later : length (l.done ++ line ∷ []) ≡ number + 1
  count_later = omega (arith, length-append l.done (line ∷ []), l.count)

  pub number_within : number + 1 ≤ length text + 1
  number_within = omega (arith, ap length split_here, length-append l.done (line ∷ lines_from after), l.count, lines_few text)

  pub listing_passes : (next : ℕ) → next ≡ number + 1 → (BeginsStatement line → ⊥) → IsListing text next lines after
  listing_passes next is_next not = rw is_next (record {
    done = l.done ++ line ∷ [];
    split = split_later;
    count = count_later;
    whole = λ tail t. l.whole tail (skipped text number tail (not_begun_here text number line listed_here not) t);
  })

  pub listing_adds : (next : ℕ) (more : List ℕ) → next ≡ number + 1 → more ≡ lines ++ next ∷ [] → BeginsStatement line → IsListing text next more after
  listing_adds next more is_next put begun = rw (put, is_next) (record {
    done = l.done ++ line ∷ [];
    split = split_later;
    count = count_later;
    whole = λ tail t. subst (λ (xs : List ℕ). ListsStatementLines text xs) (sym (append_assoc lines ((number + 1) ∷ []) tail)) (l.whole ((number + 1) ∷ tail) (added text number tail (begun_here text number line listed_here begun) t));
  })
