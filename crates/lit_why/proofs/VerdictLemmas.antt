-- Why refuted covers of all attempts show that no valid execution has an outcome of the class.
use Rattle.std.proofs.Common.{◌≡◌, ◌⊎◌, inl, inr, ℕ, zero, suc, ◌+◌, ◌<◌, ◌≤◌, ◌&&◌, Bool, true, false, List, [], ◌∷◌, Option, None, Some}
use Rattle.std.proofs.Common.{arith, eq-eqb, eqb-true, get_or, length, refl, subst, sym, ◌∙◌}
use Rattle.std.specs.Prelude.{IsTrue, slice_get}
use Rattle.std.proofs.lemmas.Bool.{cases_lt}
use Rattle.std.proofs.lemmas.List.{append-nil}
use Rattle.std.proofs.lemmas.Option.{slice_get_within, slice_get-get_or}
use Rattle.lit_syntax.specs.Syntax.{IsLitmus, Litmus}
use Rattle.lit_paths.specs.declared.event.Event.{Event}
use Rattle.lit_paths.specs.ByteReads.{byte_reads}
use Rattle.lit_paths.specs.Choice.{choices_of, combinations_of}
use Rattle.lit_paths.specs.Members.{AreSources}
use Rattle.lit_paths.specs.Execution.{Execution, execution_choice}
use Rattle.lit_paths.specs.Plan.{HasSources, IsOfCombination, choices_before, events_in}
use Rattle.lit_paths.proofs.OutcomeRegisterSteps.{names_from-within}
use Rattle.lit_paths.proofs.Totals.{before_all}
use Rattle.lit_rel.specs.Coherent.{IsCoherentRead}
use Rattle.lit_rel.specs.Forbidden.{IsForbidden}
use Rattle.lit_rel.specs.Growth.{Grows}
use Rattle.lit_rel.specs.HappensBefore.{HappensBefore}
use Rattle.lit_rel.specs.Part.{PartModel}
use Rattle.lit_rel.specs.ReadsFrom.{ReadsByteFrom}
use Rattle.lit_rel.proofs.GrowthLemmas.{Grows-from}
use Rattle.lit_order.specs.Forcing.{Given}
use Rattle.lit_valid.specs.declared.class.Class.{Class}
use Rattle.lit_valid.specs.Class.{GivesClass, is_of_class}
use Rattle.lit_valid.specs.Completion.{Completes, IsOnCombination}
use Rattle.lit_valid.specs.Laws.{Laws}
use Rattle.lit_valid.specs.PartOutcome.{part_outcome}
use Rattle.lit_valid.specs.ValidExecution.{IsValidExecution}
use Rattle.lit_valid.proofs.CompletionLemmas.{its_outcome, not_broken}
use Rattle.lit_solve.specs.Box.{Box, IsBox, LiesIn, box_events, box_with}
use Rattle.lit_solve.specs.Completion.{IsCompletion}
use Rattle.lit_solve.specs.Given.{GivenIn, HappensBeforeIn, IsForbiddenIn}
use Rattle.lit_solve.proofs.CompletionLemmas.{given_taken, not_refuted, order_here, sourced as its_sources, whole}
use Rattle.lit_why.specs.declared.attempt.Attempt.{Attempt}
use Rattle.lit_why.specs.declared.cases.covering.Case.{Case}
use Rattle.lit_why.specs.declared.refusals.causes.Refusal.{Refusal}
use Rattle.lit_why.specs.declared.refusals.causes.Refusal.TheVariants.{BeforeItself, FalseGuard, Incoherent, NoOrder, Torn}
use Rattle.lit_why.specs.Asked.{is_asked}
use Rattle.lit_why.specs.Attempts.{AreFirstAttempts, AreOneAttempt, IsLeastTry, IsOn, TriesClass, agree, all_agree, give_same_values, part_with}
use Rattle.lit_why.specs.Refutation.{IsCover, IsCauseIn, IsRefutation, IsRefutedAttempt, case_box}
use Rattle.lit_why.proofs.AttemptLemmas.{agree_at, agree_itself, both, one_combination}
use Rattle.lit_why.proofs.CaseLemmas.{order_by}
use Rattle.lit_solve.proofs.RangeLemmas.{one_sources}
use Rattle.lit_why.proofs.NodeLemmas.{on_sourced, placed}
use Rattle.lit_why.proofs.SameValueLemmas.{try_together}
use Rattle.lit_why.specs.declared.refusals.causes.Incoherence.{Incoherence}
use Rattle.lit_why.specs.declared.refusals.causes.Incoherence.TheVariants.{HiddenBy, ReadFirst}

-- ---- a refuted box has no completion
module _ (laws : Laws) (box : Box) (x : Execution) (is_box : IsBox box) (is : IsCompletion box x) where
  abbrev events : List Event
  events = box_events box

  grows : Grows events (GivenIn box) (ReadsByteFrom events x.sources)
  grows = Grows-from events (GivenIn box) (ReadsByteFrom events x.sources) (given_taken box x is)

  hidden : (r b w : ℕ) (cause : Incoherence) → IsCauseIn box r b w cause → ¬ IsCoherentRead events (HappensBefore events x.sources) r b w
  hidden r b w ReadFirst h c = c.not_later (grows.happens_before r w h)
  hidden r b w (HiddenBy v) h c = c.not_hidden v (record {
    writes = h.writes;
    in_range = h.in_range;
    after_source = grows.happens_before w v h.after_source;
    before_read = grows.happens_before v r h.before_read;
  })

  pub refuted_none : (refusal : Refusal) → IsRefutation box refusal → ⊥
  refuted_none (FalseGuard agent place) h = h
  refuted_none (BeforeItself event) h = not_refuted box x is laws is_box (inl (event, Given h))
  refuted_none (Incoherent r b w cause) h =
      whole box x is laws is_box (inl (inr (inl (record {
        read = r;
        byte = b;
        source = w;
        is_given = given_taken box x is r b w h.0;
        incoherent = hidden r b w cause h.1;
      }))))
  refuted_none (Torn r w v) h =
      not_refuted box x is laws is_box (inr (inr (inl (record {
        read = r;
        source = w;
        other = v;
        first = h.0;
        second = h.1;
        two_sources = λ same. h.2 (sym same);
      }))))
  refuted_none NoOrder h =
      let order = is.valid.ordered in
      h (order_by (length events) (length events) (HappensBeforeIn box) (HappensBefore events x.sources) (IsForbiddenIn box)
      (IsForbidden events x.sources) refl grows.happens_before grows.forbidden (order.0, order_here box x is order.0 order.1))

pub covered_none : Laws → (box : Box) (cases : List Case) (x : Execution) → IsCover box cases → IsCompletion box x → ⊥
covered_none laws box cases x cover is =
    let has = cover.whole x.sources (record { sourced = its_sources box x is; within = is.within }) in
    let case = cover.each has.place has.case has.at_place in
    refuted_none laws (case_box box has.case) x case.is_box (record { valid = is.valid; on_paths = is.on_paths; within = has.lies })
    has.case.refusal case.refuted

pub has_its_sources : (t : Litmus) (n : ℕ) (x : Execution) → slice_get (choices_of t) n ≡ Some (execution_choice x) → HasSources t n x.sources
has_its_sources t n x chosen = record { choice = execution_choice x; listed = chosen; same = refl }

-- ---- no choice of a refuted attempt has a valid execution
module _ (laws : Laws) (t : Litmus) (m n : ℕ) (cases : List Case) (r : IsRefutedAttempt t m cases) (one : AreOneAttempt t m n) where
  abbrev c : ℕ
  c = r.combination

  same : one.combination ≡ c
  same = one_combination t m c one.combination r.on.low r.on.high one.on_some.low one.on_some.high

  some_is : one.some ≡ r.sources
  some_is = one_sources t m one.some r.sources one.on_some.has r.on.has

  on_n : IsOn t n c one.other
  on_n = subst (λ (d : ℕ). IsOn t n d one.other) same one.on_other

  agrees : IsTrue (give_same_values t c r.sources one.other)
  agrees = subst (λ (ws : List ℕ). IsTrue (give_same_values t c ws one.other)) some_is
      (subst (λ (d : ℕ). IsTrue (give_same_values t d one.some one.other)) same one.same_values)

  pub refuted_choice : (x : Execution) → IsValidExecution t x → slice_get (choices_of t) n ≡ Some (execution_choice x) → ⊥
  refuted_choice x valid chosen = covered_none laws (box_with (t, c) r.domains) cases x r.cover (record {
    valid = valid;
    on_paths = of.on_paths x valid.candidate chosen;
    within = within;
  })
    where
      of : IsOfCombination t n c
      of = placed laws t n c one.other on_n

      its : x.sources ≡ one.other
      its = one_sources t n x.sources one.other (has_its_sources t n x chosen) one.on_other.has

      are_m : AreSources (events_in t c) r.sources
      are_m = on_sourced laws t m c r.sources r.on

      are_n : AreSources (events_in t c) one.other
      are_n = on_sourced laws t n c one.other on_n

      within_other : LiesIn (box_with (t, c) r.domains) one.other
      within_other k w at =
          let reads = byte_reads (events_in t c) in
          let inside : k < length reads = omega (arith, slice_get_within one.other k w at, are_n.one_each) in
          let read = get_or reads k (0, 0) in
          let at_read : slice_get reads k ≡ Some (read.0, read.1) = slice_get-get_or reads k (0, 0) inside in
          let at_source : slice_get r.sources k ≡ Some (get_or r.sources k 0) =
          slice_get-get_or r.sources k 0 (omega (arith, inside, are_m.one_each)) in
          (r.is_attempt k read.0 read.1 (get_or r.sources k 0) w at_read at_source).1 (
            are_n.each k read.0 read.1 w at_read at,
            agree_at (is_asked t c) (events_in t c) reads r.sources one.other agrees k (get_or r.sources k 0) w read at_read at_source at,
          )

      within : LiesIn (box_with (t, c) r.domains) x.sources
      within = subst (LiesIn (box_with (t, c) r.domains)) (sym its) within_other

-- ---- a choice whose valid execution has an outcome of the class tries it
pub stands : (t : Litmus) (k n : ℕ) → n < choices_before t k → (c : ℕ) × (c < k) × (choices_before t c ≤ n) × (n < choices_before t (c + 1))
stands t zero n high = absurd (omega (arith, high))
stands t (suc k) n high = by (cases_lt n (choices_before t k)) (stands t k n)
  where
    last : n < choices_before t (k + 1)
    last = subst (λ (j : ℕ). n < choices_before t j) (let e : suc k ≡ k + 1 = omega arith in e) high

    by : (n < choices_before t k) ⊎ (choices_before t k ≤ n)
        → (n < choices_before t k → (c : ℕ) × (c < k) × (choices_before t c ≤ n) × (n < choices_before t (c + 1)))
        → (c : ℕ) × (c < suc k) × (choices_before t c ≤ n) × (n < choices_before t (c + 1))
    by (inl less) earlier = let s = earlier less in (s.0, omega (arith, s.1), s.2, s.3)
    by (inr from) earlier = (k, omega arith, from, last)

pub gives_tries : Laws → (t : Litmus) (class : Class) (n : ℕ) → IsLitmus t → GivesClass t class n → TriesClass t class n
gives_tries laws t class n litmus gives =
    let x = gives.gives.execution in
    let chosen = gives.gives.chosen in
    let all = length (combinations_of t) in
    let below : n < choices_before t all = omega (
      arith,
      slice_get_within (choices_of t) n (execution_choice x) chosen,
      before_all t all (omega arith),
    ) in
    let s = stands t all n below in
    let c = s.0 in
    let of : IsOfCombination t n c = laws.placed t n c s.1 s.2 s.3 in
    let part : PartModel = part_with t c x.sources in
    let completes : Completes part x = record {
      valid = gives.gives.valid;
      on_paths = of.on_paths x gives.gives.valid.candidate chosen;
      rest = [];
      begun = sym (append-nil x.sources);
    } in
    let entered : IsOnCombination part = record { litmus = litmus; known = s.1 } in
    let outcome : part_outcome part ≡ gives.outcome =
    sym (its_outcome part x completes laws entered (names_from-within t.agents)) ∙ gives.gives.result in
    record {
      combination = c;
      sources = x.sources;
      on = record { known = s.1; low = s.2; high = s.3; has = has_its_sources t n x chosen };
      is_try = record {
        allowed = λ is_false. not_broken part x completes laws laws.grow laws.stay entered (inr is_false);
        of_class = subst (λ (o : List ℕ). IsTrue (is_of_class t class o)) (sym outcome) gives.of_class;
      };
    }

-- ---- attempts are classes of choices
both_true : (a b : Bool) → IsTrue a → IsTrue b → IsTrue (a && b)
both_true true b is too = too
both_true false b is too = absurd (let e = is in cc)

agree_through : (asked : Bool) (events : List Event) (byte v w y : ℕ) → IsTrue (agree asked events byte v w)
    → IsTrue (agree asked events byte w y) → IsTrue (agree asked events byte v y)
agree_through false events byte v w y first second = refl
agree_through true events byte v w y first second = eq-eqb _ _ (eqb-true _ _ second ∙ eqb-true _ _ first)

all_through : (asked : ℕ → Bool) (events : List Event) (reads : List (ℕ × ℕ)) (a b d : List ℕ) → IsTrue (all_agree asked events reads a b)
    → IsTrue (all_agree asked events reads b d) → IsTrue (all_agree asked events reads a d)
all_through asked events [] a b d first second = refl
all_through asked events (read ∷ reads) [] b d first second = absurd (let e = first in cc)
all_through asked events (read ∷ reads) (v ∷ a) [] d first second = absurd (let e = first in cc)
all_through asked events (read ∷ reads) (v ∷ a) (w ∷ b) [] first second = absurd (let e = second in cc)
all_through asked events (read ∷ reads) (v ∷ a) (w ∷ b) (y ∷ d) first second =
    let one = both (agree (asked read.0) events read.1 v w) (all_agree asked events reads a b) first in
    let two = both (agree (asked read.0) events read.1 w y) (all_agree asked events reads b d) second in
    both_true (agree (asked read.0) events read.1 v y) (all_agree asked events reads a d)
    (agree_through (asked read.0) events read.1 v w y one.0 two.0) (all_through asked events reads a b d one.1 two.1)

all_itself : (asked : ℕ → Bool) (events : List Event) (reads : List (ℕ × ℕ)) (a : List ℕ) → length a ≡ length reads
    → IsTrue (all_agree asked events reads a a)
all_itself asked events [] a long = refl
all_itself asked events (read ∷ reads) [] long = absurd (omega (arith, long))
all_itself asked events (read ∷ reads) (v ∷ a) long =
    both_true (agree (asked read.0) events read.1 v v) (all_agree asked events reads a a) (agree_itself (asked read.0) events read.1 v)
    (all_itself asked events reads a (omega (arith, long)))

pub one_through : (t : Litmus) (l m n : ℕ) → AreOneAttempt t l m → AreOneAttempt t m n → AreOneAttempt t l n
one_through t l m n first second =
    let c = first.combination in
    let same : second.combination ≡ c =
    one_combination t m c second.combination first.on_other.low first.on_other.high second.on_some.low second.on_some.high in
    let middle : second.some ≡ first.other = one_sources t m second.some first.other second.on_some.has first.on_other.has in
    let later : IsTrue (give_same_values t c first.other second.other) =
    subst (λ (ws : List ℕ). IsTrue (give_same_values t c ws second.other)) middle
    (subst (λ (d : ℕ). IsTrue (give_same_values t d second.some second.other)) same second.same_values) in
    record {
      combination = c;
      some = first.some;
      other = second.other;
      on_some = first.on_some;
      on_other = subst (λ (d : ℕ). IsOn t n d second.other) same second.on_other;
      same_values = all_through (is_asked t c) (events_in t c) (byte_reads (events_in t c)) first.some first.other second.other
          first.same_values later;
    }

pub one_itself : Laws → (t : Litmus) (class : Class) (n : ℕ) → TriesClass t class n → AreOneAttempt t n n
one_itself laws t class n tries = record {
  combination = tries.combination;
  some = tries.sources;
  other = tries.sources;
  on_some = tries.on;
  on_other = tries.on;
  same_values = all_itself (is_asked t tries.combination) (events_in t tries.combination)
      (byte_reads (events_in t tries.combination)) tries.sources (on_sourced laws t n tries.combination tries.sources tries.on).one_each;
}

-- choices that are one attempt the other way round
agree_back : (asked : Bool) (events : List Event) (byte v w : ℕ) → IsTrue (agree asked events byte v w) → IsTrue (agree asked events byte w v)
agree_back false events byte v w is = refl
agree_back true events byte v w is = eq-eqb _ _ (sym (eqb-true _ _ is))

all_back : (asked : ℕ → Bool) (events : List Event) (reads : List (ℕ × ℕ)) (a b : List ℕ) → IsTrue (all_agree asked events reads a b)
    → length b ≡ length reads → IsTrue (all_agree asked events reads b a)
all_back asked events [] a b is long = refl
all_back asked events (read ∷ reads) [] b is long = absurd (let e = is in cc)
all_back asked events (read ∷ reads) (v ∷ a) [] is long = absurd (omega (arith, long))
all_back asked events (read ∷ reads) (v ∷ a) (w ∷ b) is long =
    let one = both (agree (asked read.0) events read.1 v w) (all_agree asked events reads a b) is in
    both_true (agree (asked read.0) events read.1 w v) (all_agree asked events reads b a) (agree_back (asked read.0) events read.1 v w one.0)
    (all_back asked events reads a b one.1 (omega (arith, long)))

pub one_back : Laws → (t : Litmus) (m n : ℕ) → AreOneAttempt t m n → AreOneAttempt t n m
one_back laws t m n one = record {
  combination = one.combination;
  some = one.other;
  other = one.some;
  on_some = one.on_other;
  on_other = one.on_some;
  same_values = all_back (is_asked t one.combination) (events_in t one.combination) (byte_reads (events_in t one.combination)) one.some
      one.other one.same_values (on_sourced laws t n one.combination one.other one.on_other).one_each;
}

-- ---- the verdict
module _ (laws : Laws) (t : Litmus) (class : Class) (most : ℕ) (attempts : List Attempt) (litmus : IsLitmus t)
    (first : AreFirstAttempts t class most attempts) (few : length attempts < most)
    (each : (i : ℕ) (a : Attempt) → slice_get attempts i ≡ Some a → (cases : List Case) × IsRefutedAttempt t a.choice cases)
    (n : ℕ) (gives : GivesClass t class n) where
  tries : TriesClass t class n
  tries = gives_tries laws t class n litmus gives

  -- no choice of the attempt is its first
  not_first : (m : ℕ) → IsLeastTry t class m → AreOneAttempt t m n → ⊥
  not_first m least one = elim (first.whole m least) [
    | inl has ↦
        let cover = each has.place has.attempt has.is in
        refuted_choice laws t m n cover.0 (subst (λ (k : ℕ). IsRefutedAttempt t k cover.0) has.same cover.1) one gives.gives.execution
        gives.gives.valid gives.gives.chosen
    | inr past ↦ absurd (omega (arith, past.0, few))
  ]

  none_below : (k m : ℕ) → m < k → AreOneAttempt t m n → ⊥
  none_below zero m below one = absurd (omega (arith, below))
  none_below (suc k) m below one =
      not_first m (record {
        tries = try_together laws t class n m (one_back laws t m n one) tries;
        least = λ l less other. none_below k l (omega (arith, less, below)) (one_through t l m n other one);
      }) one

  pub never : ⊥
  never = none_below (suc n) n (omega arith) (one_itself laws t class n tries)
