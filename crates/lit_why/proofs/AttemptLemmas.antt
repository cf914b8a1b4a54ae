-- The first choices of attempts are those that try the class by representatives, on each combination in turn.
use Rattle.std.proofs.Common.{◌≡◌, ◌≢◌, ◌↔◌, ◌⊎◌, inl, inr, ℕ, zero, suc, ◌+◌, ◌<◌, ◌≤◌, ◌&&◌, Bool, true, false, List, [], ◌∷◌}
use Rattle.std.proofs.Common.{Some, arith, eq-eqb, get_or, length, length-set, map, refl, set, sym, ap, subst, ◌∙◌}
use Rattle.std.specs.Prelude.{IsTrue, slice_get}
use Rattle.std.proofs.lemmas.Bool.{cases_eq, cases_lt}
use Rattle.std.proofs.lemmas.List.{get_or-set_other, get_or-set_same}
use Rattle.std.proofs.lemmas.Option.{get_or_from_slice_get, same_Some, slice_get_within, slice_get-get_or}
use Rattle.lit_syntax.specs.Syntax.{Litmus}
use Rattle.lit_paths.specs.declared.event.Event.{Event}
use Rattle.lit_paths.specs.ByteReads.{byte_reads}
use Rattle.lit_paths.specs.Members.{IsCandidate, AreSources}
use Rattle.lit_paths.specs.Choice.{Choice, choices_of, combinations_of}
use Rattle.lit_paths.specs.Plan.{AreEventsIn, choices_before, combination_at, events_in}
use Rattle.lit_paths.proofs.PlanFacts.{before_mono}
use Rattle.lit_paths.proofs.Totals.{before_all}
use Rattle.lit_rel.specs.declared.event_set.EventSet.{EventSet}
use Rattle.lit_rel.specs.Broken.{HasFalseGuard}
use Rattle.lit_rel.specs.GuardedBytes.{RefusedBytesMakeFalse}
use Rattle.lit_valid.specs.declared.class.Class.{Class}
use Rattle.lit_valid.specs.Laws.{Laws}
use Rattle.lit_solve.specs.Box.{Box, LiesIn, box_with, events_on}
use Rattle.lit_solve.proofs.LexLemmas.{place_of_less}
use Rattle.lit_solve.proofs.RangeLemmas.{sources_rise}
use Rattle.lit_why.specs.declared.attempt.Attempt.{Attempt}
use Rattle.lit_why.specs.Attempts.{AreBefore, AreFirstAttempts, AreOneAttempt, AreRising, HasAttempt, IsLeastTry, IsOn, IsTry, agree, all_agree}
use Rattle.lit_why.specs.Attempts.{give_same_values, part_with}
use Rattle.lit_why.specs.Asked.{is_asked}
use Rattle.lit_why.specs.Internal.Added.{Adds}
use Rattle.lit_why.specs.Internal.Domains.{AreDomainsBy}
use Rattle.lit_why.specs.Internal.Trials.{IsLeastTryOn, IsRepresentative, IsStoredBefore, TriesIn}
use Rattle.lit_why.proofs.AddedLemmas.{adds_more}
use Rattle.lit_why.proofs.NodeLemmas.{on_sourced, placed, rises_at}
use Rattle.lit_solve.proofs.RangeLemmas.{one_sources}

-- ---- sources that make no difference
pub both : (a b : Bool) → IsTrue (a && b) → IsTrue a × IsTrue b
both true true is = (refl, refl)
both true false is = absurd (let e = is in cc)
both false b is = absurd (let e = is in cc)

-- at each place
pub agree_at : (asked : ℕ → Bool) (events : List Event) (reads : List (ℕ × ℕ)) (some other : List ℕ)
    → IsTrue (all_agree asked events reads some other)
    → (k v w : ℕ) (read : ℕ × ℕ) → slice_get reads k ≡ Some read → slice_get some k ≡ Some v → slice_get other k ≡ Some w
    → IsTrue (agree (asked read.0) events read.1 v w)
agree_at asked events [] some other is k v w read at at_some at_other = absurd (let e = at in cc)
agree_at asked events (r ∷ reads) [] other is k v w read at at_some at_other = absurd (let e = at_some in cc)
agree_at asked events (r ∷ reads) (x ∷ some) [] is k v w read at at_some at_other = absurd (let e = at_other in cc)
agree_at asked events (r ∷ reads) (x ∷ some) (y ∷ other) is zero v w read at at_some at_other =
    let here : IsTrue (agree (asked r.0) events r.1 x y) =
    (both (agree (asked r.0) events r.1 x y) (all_agree asked events reads some other) is).0 in
    let same_read : r ≡ read = same_Some r read at in
    let same_v : x ≡ v = same_Some x v at_some in
    let same_w : y ≡ w = same_Some y w at_other in
    subst (λ (q : ℕ × ℕ). IsTrue (agree (asked q.0) events q.1 v w)) same_read
    (subst (λ (n : ℕ). IsTrue (agree (asked r.0) events r.1 v n)) same_w
    (subst (λ (n : ℕ). IsTrue (agree (asked r.0) events r.1 n y)) same_v here))
agree_at asked events (r ∷ reads) (x ∷ some) (y ∷ other) is (suc k) v w read at at_some at_other =
    agree_at asked events reads some other
    (both (agree (asked r.0) events r.1 x y) (all_agree asked events reads some other) is).1 k v w read at at_some at_other

agree_from : (asked : ℕ → Bool) (events : List Event) (reads : List (ℕ × ℕ)) (some other : List ℕ) → length some ≡ length reads
    → length other ≡ length reads
    → ((k v w : ℕ) (read : ℕ × ℕ) → slice_get reads k ≡ Some read → slice_get some k ≡ Some v → slice_get other k ≡ Some w
    → IsTrue (agree (asked read.0) events read.1 v w)) → IsTrue (all_agree asked events reads some other)
agree_from asked events [] some other long long_other each = refl
agree_from asked events (r ∷ reads) [] other long long_other each = absurd (omega (arith, long))
agree_from asked events (r ∷ reads) (x ∷ some) [] long long_other each = absurd (omega (arith, long_other))
agree_from asked events (r ∷ reads) (x ∷ some) (y ∷ other) long long_other each =
    let later : all_agree asked events reads some other ≡ true =
    agree_from asked events reads some other (omega (arith, long)) (omega (arith, long_other))
    (λ k v w read at at_some at_other. each (suc k) v w read at at_some at_other) in
    let here : agree (asked r.0) events r.1 x y ≡ true = each 0 x y r refl refl refl in
    ap (λ (b : Bool). b && all_agree asked events reads some other) here ∙ later

-- a source makes no difference to itself
pub agree_itself : (asked : Bool) (events : List Event) (byte w : ℕ) → IsTrue (agree asked events byte w w)
agree_itself false events byte w = refl
agree_itself true events byte w = eq-eqb _ _ refl

-- ---- choices on a combination
-- a choice is on one combination
pub one_combination : (t : Litmus) (n c d : ℕ) → choices_before t c ≤ n → n < choices_before t (c + 1) → choices_before t d ≤ n
    → n < choices_before t (d + 1)
    → d ≡ c
one_combination t n c d low high low_too high_too = elim (cases_lt c d) [
  | inl less ↦ absurd (omega (arith, high, low_too, before_mono t (c + 1) d (omega (arith, less))))
  | inr not_less ↦ elim (cases_lt d c) [
    | inl more ↦ absurd (omega (arith, high_too, low, before_mono t (d + 1) c (omega (arith, more))))
    | inr not_more ↦ omega (arith, not_less, not_more)
  ]
]

-- sources are those of a choice
choice_with : Laws → (t : Litmus) (c : ℕ) (sources : List ℕ) → c < length (combinations_of t) → AreSources (events_in t c) sources
    → (n : ℕ) × IsOn t n c sources
choice_with laws t c sources known are =
    let choice : Choice = record { decisions = map (λ path. path.decisions) (combination_at t c); sources = sources } in
    let listed = (laws.chosen t).all choice (record {
      paths = combination_at t c;
      combined = (laws.listed t).only c (combination_at t c) (slice_get-get_or (combinations_of t) c [] known);
      decided = refl;
      sourced = are;
    }) in
    let numbers = laws.numbered t c known in
    let range = (numbers.whole listed.0).0 (record { choice = choice; listed = listed.1; on = refl; rest = sources; begun = refl }) in (
      listed.0,
      record {
        known = known;
        low = range.0;
        high = omega (arith, range.1, numbers.behind);
        has = record { choice = choice; listed = listed.1; same = refl };
      },
    )

module _ (laws : Laws) (refused : RefusedBytesMakeFalse) (p : Litmus × ℕ) (class : Class) (known : p.1 < length (combinations_of p.0))
    (sound : AreEventsIn p.0.bytes (events_on p)) (domains : List EventSet)
    (are_by : AreDomainsBy p (IsRepresentative p) domains) where
  abbrev t : Litmus
  t = p.0

  abbrev c : ℕ
  c = p.1

  abbrev events : List Event
  events = events_on p

  abbrev box : Box
  box = box_with p domains

  -- no lesser choice has the same values as one by representatives
  least_by : (n : ℕ) (is : TriesIn box class n) (m : ℕ) → m < n → ¬ AreOneAttempt t m n
  least_by n is m less one = never at_m on_n same_values
    where
      same : one.combination ≡ c
      same = one_combination t n c one.combination is.on.low is.on.high one.on_other.low one.on_other.high

      at_m : IsOn t m c one.some
      at_m = subst (λ (d : ℕ). IsOn t m d one.some) same one.on_some

      on_n : IsOn t n c one.other
      on_n = subst (λ (d : ℕ). IsOn t n d one.other) same one.on_other

      same_values : IsTrue (give_same_values t c one.some one.other)
      same_values = subst (λ (d : ℕ). IsTrue (give_same_values t d one.some one.other)) same one.same_values

      never : IsOn t m c one.some → IsOn t n c one.other → IsTrue (give_same_values t c one.some one.other) → ⊥
      never on_m on_n same_values =
          let a = one.some in
          let b = is.sources in
          let others : one.other ≡ b = one_sources t n one.other b on_n.has is.on.has in
          let are_a = on_sourced laws t m c a on_m in
          let are_b = on_sourced laws t n c b is.on in
          let rises = sources_rise t c m n a b (laws.chosen t) (placed laws t m c a on_m)
          (placed laws t n c b is.on) on_m.has is.on.has less in
          let place = place_of_less a b (are_a.one_each ∙ sym are_b.one_each) rises in
          let k = place.0 in
          let read = get_or (byte_reads events) k (0, 0) in
          let at_read : slice_get (byte_reads events) k ≡ Some (read.0, read.1) =
          slice_get-get_or (byte_reads events) k (0, 0) (omega (arith, place.1, are_a.one_each)) in
          let at_a : slice_get a k ≡ Some (get_or a k 0) = slice_get-get_or a k 0 place.1 in
          let at_b : slice_get b k ≡ Some (get_or b k 0) = slice_get-get_or b k 0
          (omega (arith, place.1, are_a.one_each, are_b.one_each)) in
          ((are_by k read.0 read.1 (get_or b k 0) at_read).0 (is.lies k (get_or b k 0) at_b)).least (record {
            other = get_or a k 0;
            candidate = are_a.each k read.0 read.1 (get_or a k 0) at_read at_a;
            lesser = place.2.greater place.1;
            same = agree_at (is_asked t c) events (byte_reads events) a b
                (subst (λ (ws : List ℕ). IsTrue (give_same_values t c a ws)) others same_values) k (get_or a k 0) (get_or b k 0) read
                at_read at_a at_b;
          })

  -- the sources of the first choice of an attempt are representatives
  module _ (n : ℕ) (is : IsLeastTry t class n) (sources : List ℕ) (on : IsOn t n c sources)
      (allowed : ¬ HasFalseGuard (part_with t c sources)) where
    are : AreSources events sources
    are = on_sourced laws t n c sources on

    not_before : (k r b w : ℕ) → slice_get (byte_reads events) k ≡ Some (r, b) → slice_get sources k ≡ Some w
        → ¬ IsStoredBefore p (r, b) w
    not_before k r b w at_read at before =
        let v = before.other in
        let inside : k < length sources = slice_get_within sources k w at in
        let others : List ℕ = set sources k v in
        let here : get_or others k 0 ≡ v = get_or-set_same sources k v 0 inside in
        let was : get_or sources k 0 ≡ w = get_or_from_slice_get sources k w 0 at in
        let long : length others ≡ length sources = length-set sources k v in
        let apart : (i : ℕ) → i ≢ k → get_or others i 0 ≡ get_or sources i 0 = λ i other. get_or-set_other sources k i v 0 other in
        let are_others : AreSources events others = record {
          one_each = long ∙ are.one_each;
          each = λ i q e u at_i source. elim (cases_eq i k) [
            | inl same ↦
                let pair : (r, b) ≡ (q, e) = same_Some (r, b) (q, e)
                (sym at_read ∙ ap (slice_get (byte_reads events)) (sym same) ∙ at_i) in
                let value : v ≡ u = sym here ∙ ap (λ (j : ℕ). get_or others j 0) (sym same) ∙ get_or_from_slice_get others i u 0 source in
                subst (λ (x : ℕ). IsCandidate events q e x) value
                (subst (λ (x : ℕ × ℕ). IsCandidate events x.0 x.1 v) pair before.candidate)
            | inr other ↦
                let there : i < length sources = omega (arith, slice_get_within others i u source, long) in
                let value : get_or sources i 0 ≡ u = sym (apart i other) ∙ get_or_from_slice_get others i u 0 source in
                are.each i q e u at_i (slice_get-get_or sources i 0 there ∙ ap (λ (x : ℕ). Some x) value)
          ];
        } in
        let lesser = choice_with laws t c others known are_others in
        let less : lesser.0 < n = rises_at laws t lesser.0 n c others sources lesser.1 on k (omega (arith, inside, long)) (record {
          same = λ i below. sym (apart i (omega (arith, below)));
          greater = λ _. omega (arith, here, was, before.lesser);
        }) in
        is.least lesser.0 less (record {
          combination = c;
          some = others;
          other = sources;
          on_some = lesser.1;
          on_other = on;
          same_values = agree_from (is_asked t c) events (byte_reads events) others sources are_others.one_each are.one_each
              (λ i x y read at_i at_x at_y. elim (cases_eq i k) [
                | inl same ↦
                    let pair : (r, b) ≡ read = same_Some (r, b) read (sym at_read ∙ ap (slice_get (byte_reads events)) (sym same) ∙ at_i) in
                    let value : v ≡ x = sym here ∙ ap (λ (j : ℕ). get_or others j 0) (sym same) ∙ get_or_from_slice_get others i x 0 at_x in
                    let value_too : w ≡ y = same_Some w y (sym at ∙ ap (slice_get sources) (sym same) ∙ at_y) in
                    subst (λ (q : ℕ × ℕ). IsTrue (agree (is_asked t c q.0) events q.1 x y)) pair
                    (subst (λ (u : ℕ). IsTrue (agree (is_asked t c r) events b x u)) value_too
                    (subst (λ (u : ℕ). IsTrue (agree (is_asked t c r) events b u w)) value before.same))
                | inr other ↦
                    let value : x ≡ y = sym (get_or_from_slice_get others i x 0 at_x) ∙ apart i other
                    ∙ get_or_from_slice_get sources i y 0 at_y in
                    subst (λ (u : ℕ). IsTrue (agree (is_asked t c read.0) events read.1 x u)) value
                    (agree_itself (is_asked t c read.0) events read.1 x)
              ]);
        })

    pub by_representatives : LiesIn box sources
    by_representatives k w at =
        let read = get_or (byte_reads events) k (0, 0) in
        let at_read : slice_get (byte_reads events) k ≡ Some (read.0, read.1) =
        slice_get-get_or (byte_reads events) k (0, 0) (omega (arith, slice_get_within sources k w at, are.one_each)) in
        (are_by k read.0 read.1 w at_read).1 (record {
          candidate = are.each k read.0 read.1 w at_read at;
          allowed = λ out. allowed (refused (part_with t c sources) read.0 read.1 w sound are.one_each (k, at_read, at) out);
          least = not_before k read.0 read.1 w at_read at;
        })

  pub first_by : (n : ℕ) → TriesIn box class n ↔ IsLeastTryOn t class c n
  first_by n = (
    λ is. record {
      is = record {
        tries = record { combination = c; sources = is.sources; on = is.on; is_try = is.is_try };
        least = least_by n is;
      };
      low = is.on.low;
      high = is.on.high;
    },
    λ first.
        let tries = first.is.tries in
        let same : tries.combination ≡ c = one_combination t n c tries.combination first.low first.high tries.on.low tries.on.high in
        let on : IsOn t n c tries.sources = subst (λ (d : ℕ). IsOn t n d tries.sources) same tries.on in
        let is_try : IsTry t class c tries.sources = subst (λ (d : ℕ). IsTry t class d tries.sources) same tries.is_try in
        record {
          sources = tries.sources;
          on = on;
          lies = by_representatives n first.is tries.sources on is_try.allowed;
          is_try =
              is_try;
        },
  )

-- ---- combination after combination
-- choice n is the first of an attempt, on one of the first combinations
pub record IsLeastTryBefore (t : Litmus) (class : Class) (c n : ℕ) : Type 0 where
  pub is : IsLeastTry t class n
  pub before : n < choices_before t c

pub adds_on : (t : Litmus) (class : Class) (c most : ℕ) (old mid new : List Attempt) → Adds t most (IsLeastTryBefore t class c) old mid
    → Adds t most (IsLeastTryOn t class c) mid new → Adds t most (IsLeastTryBefore t class (c + 1)) old new
adds_on t class c most old mid new before on =
    adds_more t most (IsLeastTryBefore t class c) (IsLeastTryOn t class c) (IsLeastTryBefore t class (c + 1)) old mid new before on
    (λ m n earlier here. omega (arith, earlier.before, here.low)) (λ n. (
      λ h. elim (cases_lt n (choices_before t c)) [
        | inl less ↦ inl (record { is = h.is; before = less })
        | inr from ↦ inr (record { is = h.is; low = from; high = h.before })
      ],
      λ either. elim either [
        | inl earlier ↦ record { is = earlier.is; before = omega (arith, earlier.before, before_mono t c (c + 1) (omega arith)) }
        | inr here ↦ record { is = here.is; before = here.high }
      ],
    ))

pub first_attempts : (t : Litmus) (class : Class) (c most : ℕ) (attempts : List Attempt) → length (combinations_of t) ≤ c
    → Adds t most (IsLeastTryBefore t class c) [] attempts → AreFirstAttempts t class most attempts
first_attempts t class c most attempts past adds = record {
  few = adds.few;
  each = λ i a at. let h = adds.each i a (subst (λ (xs : List Attempt). slice_get xs i ≡ Some a) adds.goes_on at) in
      record { least = h.0.is; many = h.1 };
  rising = subst AreRising (sym adds.goes_on) adds.rising;
  whole = λ n is.
      let listed = is.tries.on.has in
      let before : n < choices_before t c = omega
      (arith, slice_get_within (choices_of t) n listed.choice listed.listed, before_all t c past) in
      subst (λ (xs : List Attempt). HasAttempt xs n ⊎ ((length attempts ≡ most) × AreBefore xs n)) (sym adds.goes_on)
      (adds.whole n (record { is = is; before = before }));
}
