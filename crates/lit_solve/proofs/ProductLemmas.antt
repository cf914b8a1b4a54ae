-- Outcomes as a product: sources chosen for one observed read after the other, and what becomes of outcomes, of values and of the number
-- of the choice.
use Rattle.lit_solve.proofs.Words.{[], ◌+◌, ◌<◌, ◌∙◌, ◌∷◌, ◌≡◌, ◌≢◌, ◌≤◌, ◌⊎◌, AddsEntries, ap, AreOpenReads, AreValuesBeside, arith, Box}
use Rattle.lit_solve.proofs.Words.{box_events, byte_read_at, byte_reads, cases_eq, ChangesListed, choices_before, digits_below, Entry}
use Rattle.lit_solve.proofs.Words.{Event, Execution, execution_outcome, Filling, get_or, get_or-map, HasEachBeside, IsLeastOrderOfEach}
use Rattle.lit_solve.proofs.Words.{HasOutcome, HasSources, inl, inr, IsChosen, IsCompletion, IsFilled, IsIndependent, IsLeastEntry}
use Rattle.lit_solve.proofs.Words.{IsLeastFilling, IsListed, IsNotGreaterOn, IsNumberWithout, IsOfCombination, IsOpenRead, Laws, length}
use Rattle.lit_solve.proofs.Words.{Less, List, Litmus, names_of, nat_cmp, None, none-some, NumbersChoices, observed_read, observed_value}
use Rattle.lit_solve.proofs.Words.{Observes, OpenRead, Option, part_with, refl, same_number_lists, same_Some, share_below, slice_cmp}
use Rattle.lit_solve.proofs.Words.{slice_get, slice_get_within, Some, subst, sym, value_of, ℕ}
use Rattle.lit_solve.proofs.CompletionLemmas.{sourced}
use Rattle.lit_solve.proofs.EntryLemmas.{adds_stays}
use Rattle.lit_solve.proofs.FillLemmas.{filled_by, sources_lie}
use Rattle.lit_solve.proofs.LeafLemmas.{IsFilledReadByRead}
use Rattle.lit_solve.proofs.LexLemmas.{not_less_at}
use Rattle.lit_solve.proofs.NumberLemmas.{first_not_listed, listed_first, listed_in_rest, listed_rest, share_agrees, whole_has, whole_within}
use Rattle.lit_solve.proofs.ObservationLemmas.{length_outcome, observed_in, outcome_is}
use Rattle.lit_solve.proofs.OpenReadLemmas.{IsValueFrom, member_or_not}
use Rattle.lit_solve.proofs.PruningLemmas.{read_here}
use Rattle.lit_solve.proofs.ReadValuesLemmas.{fills_own, least_not_greater, moved_others, moved_to, value_there}
use Rattle.lit_solve.proofs.TogetherLemmas.{AgreeOn, agree_or, not_greater_same, value_agrees}

-- ---- outcomes of completions
module _ (laws : Laws) (box : Box) (is : IsIndependent box) where
  abbrev names : List (ℕ × ℕ)
  names = names_of box.test

  abbrev outcome_in : Execution → List ℕ
  outcome_in x = execution_outcome box.test x

  -- what a register has that observes a read
  pub outcome_at : (x : Execution) → IsCompletion box x → (r j : ℕ) → Observes (box.test, box.combination) r j
      → get_or (outcome_in x) j 0 ≡ value_of (box_events box) x.sources r
  outcome_at x completes r j observes =
      ap (λ (vs : List ℕ). get_or vs j 0) (outcome_is box is.is_box laws x completes)
      ∙ get_or-map (observed_in box is.is_box laws x completes) names j (0, 0) 0 observes.inside
      ∙ ap (observed_value (part_with box x.sources)) observes.reads

  -- or that observes none
  pub outcome_unobserved : (x : Execution) → IsCompletion box x → (j : ℕ) → j < length names
      → observed_read box.test box.combination (get_or names j (0, 0)) ≡ None → get_or (outcome_in x) j 0 ≡ 0
  outcome_unobserved x completes j inside none =
      ap (λ (vs : List ℕ). get_or vs j 0) (outcome_is box is.is_box laws x completes)
      ∙ get_or-map (observed_in box is.is_box laws x completes) names j (0, 0) 0 inside
      ∙ ap (observed_value (part_with box x.sources)) none

  -- a register that does not observe a read has the same in completions that have the same values of the other reads
  pub outcome_other : (x y : Execution) → IsCompletion box x → IsCompletion box y → (r : ℕ)
      → ((q : ℕ) → q ≢ r → value_of (box_events box) x.sources q ≡ value_of (box_events box) y.sources q) → (j : ℕ) → j < length names
      → ¬ Observes (box.test, box.combination) r j → get_or (outcome_in x) j 0 ≡ get_or (outcome_in y) j 0
  outcome_other x y is_x is_y r same j inside absent = by (observed_read box.test box.combination (get_or names j (0, 0))) refl
    where
      by : (read : Option ℕ) → observed_read box.test box.combination (get_or names j (0, 0)) ≡ read
          → get_or (outcome_in x) j 0 ≡ get_or (outcome_in y) j 0
      by None none = outcome_unobserved x is_x j inside none ∙ sym (outcome_unobserved y is_y j inside none)
      by (Some q) at =
          let observes : Observes (box.test, box.combination) q j = record { inside = inside; reads = at } in
          outcome_at x is_x q j observes
          ∙ same q (λ its. absent (subst (λ (p : ℕ). Observes (box.test, box.combination) p j) its observes))
          ∙ sym (outcome_at y is_y q j observes)

  -- ---- no read is listed
  module _ (values : List ℕ) (number : ℕ) (chosen : IsChosen box [] values number) where
    pub same_values : (x : Execution) → ChangesListed (box.test, box.combination) [] values (outcome_in x) → outcome_in x ≡ values
    same_values x changes = same_number_lists (outcome_in x) values changes.long (λ j below. elim (changes.each j (omega (arith, below, changes.long))) [
      | inl listed ↦ absurd (none-some listed.2.it listed.2.is)
      | inr same ↦ same
    ])

    module _ (numbers : NumbersChoices box.test box.combination) (of : (n : ℕ) → choices_before box.test box.combination ≤ n
        → n < choices_before box.test (box.combination + 1) → IsOfCombination box.test n box.combination) where
      abbrev best : Execution
      best = chosen.execution

      is_number : choices_before box.test box.combination + digits_below (box_events box) best.sources (length (byte_reads (box_events box))) ≡ number
      is_number = let sum = chosen.numbered best.sources (λ k r b at absent. refl) in omega (arith, sum)

      within : number < choices_before box.test (box.combination + 1)
      within =
          let below = whole_within box.test box.combination numbers best.sources (sourced box best chosen.completes) in
          omega (arith, below, is_number)

      pub chosen_entry : (order : List ℕ) → IsLeastOrderOfEach box order
          → IsLeastEntry box (record { outcome = values; choice = number; order = order })
      chosen_entry order least_order = record {
        execution = best;
        completes = chosen.completes;
        outcome = same_values best chosen.beside;
        from = omega (arith, is_number);
        to = within;
        chosen = subst (λ (n : ℕ). HasSources box.test n best.sources) is_number
            (whole_has box.test box.combination numbers best.sources (sourced box best chosen.completes)
            (subst (λ (n : ℕ). IsOfCombination box.test n box.combination) (sym is_number) (of number (omega (arith, is_number)) within)));
        least = not_less;
        ordered = least_order best chosen.completes;
      }
        where
          not_less : (x : Execution) → IsCompletion box x → outcome_in x ≡ values → slice_cmp nat_cmp x.sources best.sources ≢ Less
          not_less x completes its =
              not_less_at x.sources best.sources ((sourced box x completes).one_each ∙ sym (sourced box best chosen.completes).one_each)
              (λ k below before.
              let read = byte_read_at (box_events box) k in
              let at = read_here (box_events box) k (omega (arith, below, (sourced box x completes).one_each)) in
              chosen.least read.0 (λ listed. none-some listed.it listed.is) x completes
              (λ j observes. ap (λ (vs : List ℕ). get_or vs j 0) (its ∙ sym (same_values best chosen.beside))) k read.1 at
              (λ j d less there. before j less))

-- ---- all reads but the listed ones have their least sources
module _ (laws : Laws) (box : Box) (is : IsIndependent box) (reads : List OpenRead) (values : List ℕ) (beside : AreValuesBeside box reads values) where
  pub changes_beside : (x : Execution) → IsCompletion box x → ChangesListed (box.test, box.combination) reads values (execution_outcome box.test x)
  changes_beside x completes = record {
    long = length_outcome box is.is_box laws x completes ∙ sym beside.long;
    each = λ j below. elim (beside.each j below) [
      | inl observed ↦ inl observed
      | inr each ↦ inr (each x completes)
    ];
  }

  pub chosen_least : ((b : Box) → IsFilledReadByRead b) → (sources : List ℕ) (number : ℕ)
      → (x : Execution) × IsCompletion box x × (x.sources ≡ sources)
      → ((y : Execution) → IsCompletion box y → slice_cmp nat_cmp y.sources sources ≢ Less)
      → IsNumberWithout (box.test, box.combination) reads sources number → IsChosen box reads values number
  chosen_least law sources number some least numbered = record {
    execution = some.0;
    completes = some.1;
    beside = changes_beside some.0 some.1;
    numbered = subst (λ (s : List ℕ). IsNumberWithout (box.test, box.combination) reads s number) (sym some.2) numbered;
    least = λ r absent y completes same.
        least_not_greater laws box is law r some.0 some.1
        (λ z is_z. subst (λ (s : List ℕ). slice_cmp nat_cmp z.sources s ≢ Less) (sym some.2) (least z is_z))
        y.sources (fills_own laws box is law r y completes);
  }

-- ---- the first of the listed reads given one of its values
-- `mid` are values as the values given before have left them, and `set` these with the value at hand
pub record IsGivingFirst (box : Box) (it : OpenRead) (rest : List OpenRead) (value : ℕ) (old mid set : List ℕ) : Type 0 where
  pub laws : Laws
  pub is : IsIndependent box
  pub are : AreOpenReads box (it ∷ rest)
  pub changed : ChangesListed (box.test, box.combination) (it ∷ rest) old mid
  pub long : length set ≡ length mid
  pub own : (k j : ℕ) → slice_get it.registers.items k ≡ Some j → get_or set j 0 ≡ value
  pub others : (j : ℕ) → ¬ ((k : ℕ) × (slice_get it.registers.items k ≡ Some j)) → get_or set j 0 ≡ get_or mid j 0

module _ {box : Box} {it : OpenRead} {rest : List OpenRead} {value : ℕ} {old mid set : List ℕ} (g : IsGivingFirst box it rest value old mid set) where
  abbrev c : Litmus × ℕ
  c = (box.test, box.combination)

  abbrev events : List Event
  events = box_events box

  open_first : IsOpenRead box it
  open_first = g.are.each 0 it refl

  -- the completions that have this value of the read, and the old values beside the listed reads, have the new ones beside the rest
  pub beside_next : (x : Execution) → IsCompletion box x → value_of events x.sources it.read ≡ value
      → ChangesListed c (it ∷ rest) old (execution_outcome box.test x) → ChangesListed c rest set (execution_outcome box.test x)
  beside_next x completes has changes = record {
    long = changes.long ∙ sym g.changed.long ∙ sym g.long;
    each = λ j below.
        let inside : j < length old = omega (arith, below, g.long, g.changed.long) in
        by j (member_or_not it.registers.items j) (changes.each j inside) (g.changed.each j inside);
  }
    where
      in_rest : (j : ℕ) → ¬ ((k : ℕ) × (slice_get it.registers.items k ≡ Some j)) → (r : ℕ) × Observes c r j × IsListed (it ∷ rest) r
          → (r : ℕ) × Observes c r j × IsListed rest r
      in_rest j absent (r, observes, listed) = (
        r,
        observes,
        listed_in_rest it rest r (λ same. absent ((open_first.registers j).1 (subst (λ (q : ℕ). Observes c q j) (sym same) observes))) listed,
      )

      by : (j : ℕ) → ((k : ℕ) × (slice_get it.registers.items k ≡ Some j)) ⊎ ¬ ((k : ℕ) × (slice_get it.registers.items k ≡ Some j))
          → ((r : ℕ) × Observes c r j × IsListed (it ∷ rest) r) ⊎ (get_or (execution_outcome box.test x) j 0 ≡ get_or old j 0)
          → ((r : ℕ) × Observes c r j × IsListed (it ∷ rest) r) ⊎ (get_or mid j 0 ≡ get_or old j 0)
          → ((r : ℕ) × Observes c r j × IsListed rest r) ⊎ (get_or (execution_outcome box.test x) j 0 ≡ get_or set j 0)
      by j (inl member) outcome changed =
          inr (outcome_at g.laws box g.is x completes it.read j ((open_first.registers j).0 member) ∙ has ∙ sym (g.own member.0 j member.1))
      by j (inr absent) (inl listed) changed = inl (in_rest j absent listed)
      by j (inr absent) (inr same) (inl listed) = inl (in_rest j absent listed)
      by j (inr absent) (inr same) (inr kept) = inr (same ∙ sym kept ∙ sym (g.others j absent))

  -- each outcome with this value has an entry now
  pub seen_next : (i : ℕ) (filling : Filling) → slice_get it.fillings.items i ≡ Some filling → filling.value ≡ value → (entries new : List Entry)
      → AddsEntries box entries new → HasEachBeside box rest set new
      → ((x : Execution) → IsCompletion box x → ChangesListed c (it ∷ rest) old (execution_outcome box.test x)
      → HasOutcome entries (execution_outcome box.test x) ⊎ IsValueFrom it.fillings.items i (value_of events x.sources it.read))
      → (x : Execution) → IsCompletion box x → ChangesListed c (it ∷ rest) old (execution_outcome box.test x)
      → HasOutcome new (execution_outcome box.test x) ⊎ IsValueFrom it.fillings.items (i + 1) (value_of events x.sources it.read)
  seen_next i filling at is_value entries new adds whole seen x completes changes = elim (seen x completes changes) [
    | inl has ↦ inl (adds_stays box entries new (execution_outcome box.test x) adds has)
    | inr from ↦
        elim (cases_eq from.place i) [
          | inl here ↦
              (let same : from.filling ≡ filling = same_Some from.filling filling (sym from.is ∙ ap (slice_get it.fillings.items) here ∙ at) in
              inl (whole x completes (beside_next x completes (sym from.same ∙ ap (λ (o : Filling). o.value) same ∙ is_value) changes)))
          | inr other ↦ inr (record {
            place = from.place;
            filling = from.filling;
            later = omega (arith, from.later, other);
            is = from.is;
            same = from.same;
          })
        ]
  ]

  -- ---- the sources chosen so far, with the least ones for this value
  module _ (law : (b : Box) → IsFilledReadByRead b) (number share : ℕ) (chosen : IsChosen box (it ∷ rest) old number) (its : List ℕ)
      (least_its : IsLeastFilling box it.read value its) (share_its : share ≡ share_below events it.read its (length (byte_reads events))) where
    abbrev x : Execution
    x = chosen.execution

    filled : (q : ℕ) → q < length events → IsFilled box q x.sources
    filled q known = filled_by box x chosen.completes g.laws g.is.is_box q

    abbrev z : (y : Execution) × IsCompletion box y × AgreeOn events it.read y.sources its
    z = moved_to g.laws box g.is law it.read x.sources (sources_lie box x chosen.completes) filled its least_its.fills

    z_others : (q : ℕ) → q ≢ it.read → AgreeOn events q z.0.sources x.sources
    z_others = moved_others g.laws box g.is law it.read x.sources (sources_lie box x chosen.completes) filled its least_its.fills

    own_same : (k b : ℕ) → slice_get (byte_reads events) k ≡ Some (it.read, b) → get_or z.0.sources k 0 ≡ get_or its k 0
    own_same = agree_or events it.read z.0.sources its least_its.fills.lie.sourced z.2

    other_same : (q : ℕ) → q ≢ it.read → (k b : ℕ) → slice_get (byte_reads events) k ≡ Some (q, b) → get_or z.0.sources k 0 ≡ get_or x.sources k 0
    other_same q other = agree_or events q z.0.sources x.sources (sourced box x chosen.completes) (z_others q other)

    value_z : value_of events z.0.sources it.read ≡ value
    value_z = value_there g.laws box g.is law it.read z.0 z.1 its least_its.fills z.2 ∙ least_its.has

    outcome_z : (j : ℕ) → j < length (names_of box.test) → ¬ Observes c it.read j
        → get_or (execution_outcome box.test z.0) j 0 ≡ get_or (execution_outcome box.test x) j 0
    outcome_z =
        outcome_other g.laws box g.is z.0 x z.1 chosen.completes it.read
        (λ q other. value_agrees events q z.0.sources x.sources (sourced box z.0 z.1) (sourced box x chosen.completes) (z_others q other))

    beside_z : ChangesListed c (it ∷ rest) old (execution_outcome box.test z.0)
    beside_z = record {
      long = length_outcome box g.is.is_box g.laws z.0 z.1 ∙ sym (length_outcome box g.is.is_box g.laws x chosen.completes) ∙ chosen.beside.long;
      each = λ j below. elim (member_or_not it.registers.items j) [
        | inl member ↦ inl (it.read, (open_first.registers j).0 member, listed_first it rest)
        | inr absent ↦
            elim (chosen.beside.each j below) [
              | inl observed ↦ inl observed
              | inr same ↦ inr (outcome_z j (omega (arith, below, chosen.beside.long, length_outcome box g.is.is_box g.laws x chosen.completes))
                  (λ observes. absent ((open_first.registers j).1 observes)) ∙ same)
            ]
      ];
    }

    numbered_z : IsNumberWithout c rest z.0.sources (number + share)
    numbered_z others agree =
        let all = length (byte_reads events) in
        let sum = chosen.numbered others (λ k r b at absent.
        agree k r b at (λ listed. absent (listed_rest it rest r listed))
        ∙ other_same r (λ same. absent (subst (IsListed (it ∷ rest)) (sym same) (listed_first it rest))) k b at) in
        let own : share_below events it.read others all ≡ share_below events it.read its all =
        share_agrees events it.read its others all (omega arith)
        (λ j b at. agree j it.read b at (first_not_listed it rest g.are.apart) ∙ own_same j b at) in
        omega (arith, sum, own, share_its)

    least_z : (r : ℕ) → ¬ IsListed rest r → (y : Execution) → IsCompletion box y
        → ((j : ℕ) → Observes c r j → get_or (execution_outcome box.test y) j 0 ≡ get_or (execution_outcome box.test z.0) j 0)
        → IsNotGreaterOn events r z.0.sources y.sources
    least_z r absent y completes same = elim (cases_eq r it.read) [
      | inl its_own ↦
          (let observer = open_first.observer in
          let value_y : value_of events y.sources it.read ≡ value =
          sym (outcome_at g.laws box g.is y completes it.read observer open_first.observes)
          ∙ same observer (subst (λ (q : ℕ). Observes c q observer) (sym its_own) open_first.observes)
          ∙ outcome_at g.laws box g.is z.0 z.1 it.read observer open_first.observes
          ∙ value_z in
          subst (λ (q : ℕ). IsNotGreaterOn events q z.0.sources y.sources) (sym its_own)
          (not_greater_same events it.read z.0.sources its y.sources own_same
          (least_its.least y.sources (fills_own g.laws box g.is law it.read y completes) value_y)))
      | inr other ↦
          not_greater_same events r z.0.sources x.sources y.sources (other_same r other)
          (chosen.least r (λ listed. absent (listed_in_rest it rest r (λ is_it. other (sym is_it)) listed)) y completes
          (λ j observes. same j observes
          ∙ outcome_z j observes.inside (λ both. other (same_Some r it.read (sym observes.reads ∙ both.reads)))))
    ]

    pub chosen_next : IsChosen box rest set (number + share)
    chosen_next = record {
      execution = z.0;
      completes = z.1;
      beside = beside_next z.0 z.1 value_z beside_z;
      numbered = numbered_z;
      least = least_z;
    }

    -- the number is that of a choice, less other digits
    pub number_within : NumbersChoices box.test box.combination → number + share ≤ choices_before box.test (box.combination + 1)
    number_within numbers =
        let sum = numbered_z z.0.sources (λ k r b at absent. refl) in
        let below = whole_within box.test box.combination numbers z.0.sources (sourced box z.0 z.1) in
        omega (arith, sum, below)

-- no value is left
pub all_values_seen : (box : Box) (first : OpenRead) (rest : List OpenRead) (values : List ℕ) (n : ℕ) (entries : List Entry)
    → length first.fillings.items ≤ n
    → ((x : Execution) → IsCompletion box x → ChangesListed (box.test, box.combination) (first ∷ rest) values (execution_outcome box.test x)
    → HasOutcome entries (execution_outcome box.test x)
    ⊎ IsValueFrom first.fillings.items n (value_of (box_events box) x.sources first.read)) → HasEachBeside box (first ∷ rest) values entries
all_values_seen box first rest values n entries past seen x completes changes = elim (seen x completes changes) [
  | inl has ↦ has
  | inr from ↦ absurd (omega (arith, past, from.later, slice_get_within first.fillings.items from.place from.filling from.is))
]
