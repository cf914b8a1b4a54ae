-- Lists of open reads, the registers that observe them, and values of outcomes.
use Rattle.lit_solve.proofs.Words.{[], ◌++◌, ◌+◌, ◌<◌, ◌↔◌, ◌∙◌, ◌∷◌, ◌≡◌, ◌≢◌, ◌≤◌, ◌⊎◌, ap, AreOpenReads, arith, Box, cases_eq}
use Rattle.lit_solve.proofs.Words.{ChangesListed, Filling, get_or, get_or-set_other, get_or-set_same, get_or_from_slice_get, HasValue, inl}
use Rattle.lit_solve.proofs.Words.{inr, IsListed, IsOpenRead, IsValueBeside, length, List, Litmus, names_of, none-some, observed_read}
use Rattle.lit_solve.proofs.Words.{Observes, OpenRead, Option, place-left, place-middle, place-push, refl, same_Some, slice_get}
use Rattle.lit_solve.proofs.Words.{slice_get-get_or, slice_set, Some, subst, suc, sym, zero, ℕ}

-- ---- members of a list
pub member_or_not : (xs : List ℕ) (x : ℕ) → ((i : ℕ) × (slice_get xs i ≡ Some x)) ⊎ ¬ ((i : ℕ) × (slice_get xs i ≡ Some x))
member_or_not [] x = inr (λ m. none-some x m.1)
member_or_not (y ∷ ys) x = by (cases_eq y x) (member_or_not ys x)
  where
    later : ¬ ((i : ℕ) × (slice_get ys i ≡ Some x)) → y ≢ x → (i : ℕ) → slice_get (y ∷ ys) i ≢ Some x
    later none other zero at = other (same_Some y x at)
    later none other (suc i) at = none (i, at)

    by : (y ≡ x) ⊎ (y ≢ x) → ((i : ℕ) × (slice_get ys i ≡ Some x)) ⊎ ¬ ((i : ℕ) × (slice_get ys i ≡ Some x))
        → ((i : ℕ) × (slice_get (y ∷ ys) i ≡ Some x)) ⊎ ¬ ((i : ℕ) × (slice_get (y ∷ ys) i ≡ Some x))
    by (inl same) others = inl (0, ap (λ (v : ℕ). Some v) same)
    by (inr other) (inl found) = inl (suc found.0, found.1)
    by (inr other) (inr none) = inr (λ m. later none other m.0 m.1)

-- what a register observes, by the list of names that a problem has
pub register_reads : (t : Litmus × ℕ) (names : List (ℕ × ℕ)) (now : Litmus × ℕ) (i : ℕ) (read : Option ℕ) → names ≡ names_of t.0 → t ≡ now
    → read ≡ observed_read now.0 now.1 ((get_or names i (0, 0)).0, (get_or names i (0, 0)).1)
    → observed_read now.0 now.1 (get_or (names_of now.0) i (0, 0)) ≡ read
register_reads t names now i read is view at =
    ap (λ (ns : List (ℕ × ℕ)). observed_read now.0 now.1 (get_or ns i (0, 0)))
    (sym (is ∙ ap (λ (p : Litmus × ℕ). names_of p.0) view)) ∙ sym at

-- the registers that observe a read, found one after the other
module _ (c : Litmus × ℕ) (read n : ℕ) (places : List ℕ) (are : (j : ℕ) → ((k : ℕ) × (slice_get places k ≡ Some j)) ↔ ((j < n) × Observes c read j)) where
  pub register_new : Observes c read n → (j : ℕ) → ((k : ℕ) × (slice_get (places ++ n ∷ []) k ≡ Some j)) ↔ ((j < n + 1) × Observes c read j)
  register_new observes j = (to, from)
    where
      to : (k : ℕ) × (slice_get (places ++ n ∷ []) k ≡ Some j) → (j < n + 1) × Observes c read j
      to (k, at) = elim (place-push places n k j at) [
        | inl before ↦ (let old = (are j).0 (k, before.1) in (omega (arith, old.0), old.1))
        | inr last ↦ (omega (arith, last.1), subst (Observes c read) last.1 observes)
      ]

      from : (j < n + 1) × Observes c read j → (k : ℕ) × (slice_get (places ++ n ∷ []) k ≡ Some j)
      from (below, its) = elim (cases_eq j n) [
        | inl same ↦ subst (λ (m : ℕ). (k : ℕ) × (slice_get (places ++ n ∷ []) k ≡ Some m)) (sym same) (length places, place-middle places [] n)
        | inr other ↦ (let old = (are j).1 (omega (arith, below, other), its) in (old.0, place-left places (n ∷ []) old.0 j old.1))
      ]

  pub register_other : ¬ Observes c read n → (j : ℕ) → ((k : ℕ) × (slice_get places k ≡ Some j)) ↔ ((j < n + 1) × Observes c read j)
  register_other not_its j = (
    λ member. let old = (are j).0 member in (omega (arith, old.0), old.1),
    λ its. elim (cases_eq j n) [
      | inl same ↦ absurd (not_its (subst (Observes c read) same its.1))
      | inr other ↦ (are j).1 (omega (arith, its.0, other), its.1)
    ],
  )

-- values set, one register after the other: the first n registers have the value
pub record IsSetSoFar (registers : List ℕ) (n value : ℕ) (old now : List ℕ) : Type 0 where
  pub long : length now ≡ length old
  pub own : (i j : ℕ) → i < n → slice_get registers i ≡ Some j → get_or now j 0 ≡ value
  pub others : (j : ℕ) → ¬ ((i : ℕ) × (i < n) × (slice_get registers i ≡ Some j)) → get_or now j 0 ≡ get_or old j 0

module _ (registers was : List ℕ) (i place value : ℕ) (at : slice_get registers i ≡ Some place) (inside : place < length was) where
  pub own_more : ((k j : ℕ) → k < i → slice_get registers k ≡ Some j → get_or was j 0 ≡ value) → (k j : ℕ) → k < i + 1 → slice_get registers k ≡ Some j
      → get_or (slice_set was place value) j 0 ≡ value
  own_more own k j below there = elim (cases_eq j place) [
    | inl same ↦ ap (λ (m : ℕ). get_or (slice_set was place value) m 0) same ∙ get_or-set_same was place value 0 inside
    | inr other ↦
        get_or-set_other was place j value 0 other
        ∙ own k j (elim (cases_eq k i) [
          | inl last ↦ absurd (other (same_Some j place (sym there ∙ ap (slice_get registers) last ∙ at)))
          | inr before ↦ omega (arith, below, before)
        ]) there
  ]

  pub others_more : (old : List ℕ)
      → ((j : ℕ) → ¬ ((k : ℕ) × (k < i) × (slice_get registers k ≡ Some j)) → get_or was j 0 ≡ get_or old j 0)
      → (j : ℕ) → ¬ ((k : ℕ) × (k < i + 1) × (slice_get registers k ≡ Some j)) → get_or (slice_set was place value) j 0 ≡ get_or old j 0
  others_more old others j absent =
      get_or-set_other was place j value 0 (λ same. absent (i, omega arith, at ∙ ap (λ (m : ℕ). Some m) (sym same)))
      ∙ others j (λ member. absent (member.0, omega (arith, member.1), member.2))

-- one of the values from a place on is this
pub record IsValueFrom (fillings : List Filling) (from value : ℕ) : Type 0 where
  pub place : ℕ
  pub filling : Filling
  pub later : from ≤ place
  pub is : slice_get fillings place ≡ Some filling
  pub same : filling.value ≡ value

pub value_from_first : (fillings : List Filling) (value : ℕ) → HasValue fillings value → IsValueFrom fillings 0 value
value_from_first fillings value has = record { place = has.place; filling = has.filling; later = omega arith; is = has.is; same = has.same }

-- ---- a list of reads
pub listed_more : (reads : List OpenRead) (it : OpenRead) (r : ℕ) → IsListed reads r → IsListed (reads ++ it ∷ []) r
listed_more reads it r listed = record { place = listed.place; it = listed.it; is = place-left reads (it ∷ []) listed.place listed.it listed.is; same = listed.same }

pub listed_last : (reads : List OpenRead) (it : OpenRead) → IsListed (reads ++ it ∷ []) it.read
listed_last reads it = record { place = length reads; it = it; is = place-middle reads [] it; same = refl }

pub reads_more : (box : Box) (reads : List OpenRead) (it : OpenRead) → AreOpenReads box reads → IsOpenRead box it → ¬ IsListed reads it.read
    → AreOpenReads box (reads ++ it ∷ [])
reads_more box reads it are one new = record { each = each; apart = apart }
  where
    each : (i : ℕ) (other : OpenRead) → slice_get (reads ++ it ∷ []) i ≡ Some other → IsOpenRead box other
    each i other at = elim (place-push reads it i other at) [
      | inl before ↦ are.each i other before.1
      | inr last ↦ subst (IsOpenRead box) last.1 one
    ]

    apart : (i j : ℕ) (first second : OpenRead) → i < j → slice_get (reads ++ it ∷ []) i ≡ Some first → slice_get (reads ++ it ∷ []) j ≡ Some second
        → first.read ≢ second.read
    apart i j first second less at later = elim (place-push reads it j second later) [
      | inl before ↦
          elim (place-push reads it i first at) [
            | inl first_before ↦ are.apart i j first second less first_before.1 before.1
            | inr first_last ↦ absurd (omega (arith, first_last.0, before.0, less))
          ]
      | inr last ↦
          elim (place-push reads it i first at) [
            | inl first_before ↦ (λ same. new (record {
              place = i;
              it = first;
              is = first_before.1;
              same = same ∙ sym (ap (λ (o : OpenRead). o.read) last.1);
            }))
            | inr first_last ↦ absurd (omega (arith, first_last.0, last.0, less))
          ]
    ]

pub reads_rest : (box : Box) (it : OpenRead) (reads : List OpenRead) → AreOpenReads box (it ∷ reads) → AreOpenReads box reads
reads_rest box it reads are = record {
  each = λ i other at. are.each (suc i) other at;
  apart = λ i j first second less at later. are.apart (suc i) (suc j) first second (omega (arith, less)) at later;
}

-- ---- values that change
pub changes_none : (c : Litmus × ℕ) (reads : List OpenRead) (values : List ℕ) → ChangesListed c reads values values
changes_none c reads values = record { long = refl; each = λ j below. inr refl }

pub changes_more : (c : Litmus × ℕ) (reads : List OpenRead) (old mid new : List ℕ) → ChangesListed c reads old mid → ChangesListed c reads mid new
    → ChangesListed c reads old new
changes_more c reads old mid new one two = record {
  long = two.long ∙ one.long;
  each = λ j below. elim (one.each j below) [
    | inl observed ↦ inl observed
    | inr same ↦
        elim (two.each j (omega (arith, below, one.long))) [
          | inl observed ↦ inl observed
          | inr still ↦ inr (still ∙ same)
        ]
  ];
}

pub changes_first : (box : Box) (first : OpenRead) (rest : List OpenRead) (old new : List ℕ) → IsOpenRead box first → length new ≡ length old
    → ((j : ℕ) → ¬ ((i : ℕ) × (slice_get first.registers.items i ≡ Some j)) → get_or new j 0 ≡ get_or old j 0)
    → ChangesListed (box.test, box.combination) (first ∷ rest) old new
changes_first box first rest old new open_read long others = record {
  long = long;
  each = λ j below. elim (member_or_not first.registers.items j) [
    | inl member ↦ inl (first.read, (open_read.registers j).0 member, record { place = 0; it = first; is = refl; same = refl })
    | inr absent ↦ inr (others j absent)
  ];
}

pub changes_rest : (c : Litmus × ℕ) (first : OpenRead) (rest : List OpenRead) (old new : List ℕ) → ChangesListed c rest old new
    → ChangesListed c (first ∷ rest) old new
changes_rest c first rest old new changes = record {
  long = changes.long;
  each = λ j below. elim (changes.each j below) [
    | inl observed ↦ inl (
      observed.0,
      observed.1,
      record { place = suc observed.2.place; it = observed.2.it; is = observed.2.is; same = observed.2.same },
    )
    | inr same ↦ inr same
  ];
}

-- one value more
pub values_more : (box : Box) (before now : List OpenRead) (values new : List ℕ) (value i : ℕ) → ((r : ℕ) → IsListed before r → IsListed now r)
    → length values ≡ i → ((j : ℕ) → j < i → IsValueBeside box before j (get_or values j 0)) → IsValueBeside box now i value
    → new ≡ values ++ value ∷ [] → (j : ℕ) → j < i + 1 → IsValueBeside box now j (get_or new j 0)
values_more box before now values new value i stays count each last grown j below =
    subst (λ (vs : List ℕ). IsValueBeside box now j (get_or vs j 0)) (sym grown) (by (cases_eq j i))
  where
    stay : (n : ℕ) → IsValueBeside box before j n → IsValueBeside box now j n
    stay n (inl observed) = inl (observed.0, observed.1, stays observed.0 observed.2)
    stay n (inr always) = inr always

    by : (j ≡ i) ⊎ (j ≢ i) → IsValueBeside box now j (get_or (values ++ value ∷ []) j 0)
    by (inl same) =
        subst (λ (n : ℕ). IsValueBeside box now j n)
        (sym (get_or_from_slice_get (values ++ value ∷ []) j value 0
        (ap (slice_get (values ++ value ∷ [])) (same ∙ sym count) ∙ place-middle values [] value)))
        (subst (λ (n : ℕ). IsValueBeside box now n value) (sym same) last)
    by (inr other) =
        let inside : j < length values = omega (arith, below, other, count) in
        subst (λ (n : ℕ). IsValueBeside box now j n)
        (sym (get_or_from_slice_get (values ++ value ∷ []) j (get_or values j 0) 0
        (place-left values (value ∷ []) j (get_or values j 0) (slice_get-get_or values j 0 inside))))
        (stay (get_or values j 0) (each j (omega (arith, below, other))))
