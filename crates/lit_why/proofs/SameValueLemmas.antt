-- Choices of one attempt try a class together: guards, and whether the outcome is in the class, depend on the values that are asked about.
use Rattle.std.proofs.Common.{◌≡◌, inl, inr, ℕ, ◌==◌, Bool, true, false, cond, List, [], ◌∷◌, Option, None, Some, arith, ap, ap₂, filter}
use Rattle.std.proofs.Common.{length, map}
use Rattle.std.proofs.Common.{refl, subst, sym, zip}
use Rattle.std.specs.Prelude.{◌||◌, IsTrue, not, slice_get}
use Rattle.std.proofs.Common.{◌∙◌, eqb-true}
use Rattle.lit_syntax.specs.Syntax.{Litmus}
use Rattle.lit_paths.specs.declared.event.Event.{Event}
use Rattle.lit_paths.specs.ByteReads.{byte_reads}
use Rattle.lit_paths.specs.Event.{event_at, payload_at}
use Rattle.lit_paths.specs.Outcome.{asks, meets, names_of}
use Rattle.lit_paths.specs.Plan.{events_in}
use Rattle.lit_rel.specs.Broken.{HasFalseGuard, HasFalseGuardOn}
use Rattle.lit_rel.specs.ReadsFrom.{composed, value_of}
use Rattle.lit_valid.specs.declared.class.Class.{Class}
use Rattle.lit_valid.specs.Class.{is_of_class}
use Rattle.lit_valid.specs.Laws.{Laws}
use Rattle.lit_valid.specs.PartOutcome.{part_outcome, observed_read, observed_value}
use Rattle.lit_valid.specs.declared.class.Class.TheVariants.{Met, Unmet}
use Rattle.lit_why.specs.Asked.{is_asked}
use Rattle.lit_why.specs.Attempts.{AreOneAttempt, IsTry, TriesClass, agree, all_agree, give_same_values, part_with}
use Rattle.lit_why.proofs.AskedLemmas.{asked_by_guard, asked_by_name, holds_same, valued_same}
use Rattle.lit_why.proofs.AttemptLemmas.{both, one_combination}
use Rattle.lit_why.proofs.NodeLemmas.{on_sourced}
use Rattle.lit_solve.proofs.RangeLemmas.{one_sources}

-- what a read takes of these bytes
abbrev taken_of : List Event → ℕ → List (ℕ × ℕ) → List ℕ → List ℕ
taken_of events r reads sources = map (λ p. payload_at (event_at events p.1) p.0.1) (filter (λ p. p.0.0 == r) (zip reads sources))

agreed : (asked same : Bool) → asked ≡ true → IsTrue (not asked || same) → IsTrue same
agreed true same is agrees = agrees
agreed false same is agrees = absurd (let e = is in cc)

taken_same : (asked : ℕ → Bool) (events : List Event) (r : ℕ) → asked r ≡ true → (reads : List (ℕ × ℕ)) (some other : List ℕ)
    → length some ≡ length reads → length other ≡ length reads
    → IsTrue (all_agree asked events reads some other) → taken_of events r reads some ≡ taken_of events r reads other
taken_same asked events r asks [] some other long long_other is = refl
taken_same asked events r asks (read ∷ reads) [] other long long_other is = absurd (omega (arith, long))
taken_same asked events r asks (read ∷ reads) (v ∷ some) [] long long_other is = absurd (omega (arith, long_other))
taken_same asked events r asks (read ∷ reads) (v ∷ some) (w ∷ other) long long_other is =
    by (read.0 == r) refl (taken_same asked events r asks reads some other (omega (arith, long)) (omega (arith, long_other)) parts.1)
  where
    parts : IsTrue (agree (asked read.0) events read.1 v w) × IsTrue (all_agree asked events reads some other)
    parts = both (agree (asked read.0) events read.1 v w) (all_agree asked events reads some other) is

    stored : (read.0 == r) ≡ true → payload_at (event_at events v) read.1 ≡ payload_at (event_at events w) read.1
    stored is_of =
        let same : read.0 ≡ r = eqb-true read.0 r is_of in
        let here : (payload_at (event_at events w) read.1 == payload_at (event_at events v) read.1) ≡ true =
        agreed (asked read.0) (payload_at (event_at events w) read.1 == payload_at (event_at events v) read.1) (ap asked same ∙ asks)
        parts.0 in
        sym (eqb-true _ _ here)

    by : (b : Bool) → (read.0 == r) ≡ b → taken_of events r reads some ≡ taken_of events r reads other
        → map (λ p. payload_at (event_at events p.1) p.0.1)
        (cond b ((read, v) ∷ filter (λ p. p.0.0 == r) (zip reads some)) (filter (λ p. p.0.0 == r) (zip reads some)))
        ≡ map (λ p. payload_at (event_at events p.1) p.0.1)
        (cond b ((read, w) ∷ filter (λ p. p.0.0 == r) (zip reads other)) (filter (λ p. p.0.0 == r) (zip reads other)))
    by true is_of later = ap₂ (λ (x : ℕ) (xs : List ℕ). x ∷ xs) (stored is_of) later
    by false is_of later = later

module _ (t : Litmus) (class : Class) (c : ℕ) (some other : List ℕ) (long : length some ≡ length (byte_reads (events_in t c)))
    (long_other : length other ≡ length (byte_reads (events_in t c))) (same_values : IsTrue (give_same_values t c some other)) where
  value_same : (r : ℕ) → is_asked t c r ≡ true → value_of (events_in t c) some r ≡ value_of (events_in t c) other r
  value_same r asks =
      ap composed (taken_same (is_asked t c) (events_in t c) r asks (byte_reads (events_in t c)) some other long long_other same_values)

  -- what a register that the condition names has at the end
  named_same : (name : ℕ × ℕ) (k : ℕ) → slice_get (names_of t) k ≡ Some name → IsTrue (asks t.check name.0 name.1)
      → observed_value (part_with t c some) (observed_read t c name) ≡ observed_value (part_with t c other) (observed_read t c name)
  named_same name k at asked = by (observed_read t c name) refl
    where
      by : (observed : Option ℕ) → observed_read t c name ≡ observed
          → observed_value (part_with t c some) observed ≡ observed_value (part_with t c other) observed
      by None is = refl
      by (Some r) is = value_same r (asked_by_name t c r name k at asked is)

  meets_same : meets t (part_outcome (part_with t c some)) ≡ meets t (part_outcome (part_with t c other))
  meets_same =
      holds_same (zip (names_of t) (part_outcome (part_with t c some))) (zip (names_of t) (part_outcome (part_with t c other))) t.check
      (λ agent reg asked. valued_same (names_of t) (λ name. observed_value (part_with t c some) (observed_read t c name))
      (λ name. observed_value (part_with t c other) (observed_read t c name)) agent reg
      (λ name k at is_agent is_reg. named_same name k at (subst (λ (a : ℕ). IsTrue (asks t.check a name.1)) (sym is_agent)
      (subst (λ (q : ℕ). IsTrue (asks t.check agent q)) (sym is_reg) asked))))

  class_same : (of : Class) → is_of_class t of (part_outcome (part_with t c some)) ≡ is_of_class t of (part_outcome (part_with t c other))
  class_same Met = meets_same
  class_same Unmet = ap not meets_same

  false_same : HasFalseGuard (part_with t c other) → HasFalseGuard (part_with t c some)
  false_same (inl unwritten) = inl unwritten
  false_same (inr (r, whole, is)) =
      inr (
        r,
        (λ i b at. omega (arith, whole i b at, long, long_other)),
        subst (λ (v : ℕ). HasFalseGuardOn t c (Some r) v) (sym (value_same r (asked_by_guard t c r _ is))) is,
      )

  try_same : IsTry t class c some → IsTry t class c other
  try_same is = record {
    allowed = λ f. is.allowed (false_same f);
    of_class = sym (class_same class) ∙ is.of_class;
  }

-- with one choice of an attempt all try the class
pub try_together : Laws → (t : Litmus) (class : Class) (m n : ℕ) → AreOneAttempt t m n → TriesClass t class m → TriesClass t class n
try_together laws t class m n one tries =
    let c = one.combination in
    let same = one_combination t m c tries.combination one.on_some.low one.on_some.high tries.on.low tries.on.high in
    let on_c : IsTry t class c tries.sources = subst (λ (d : ℕ). IsTry t class d tries.sources) same tries.is_try in
    let is_try : IsTry t class c one.some =
    subst (λ (ws : List ℕ). IsTry t class c ws) (one_sources t m tries.sources one.some tries.on.has one.on_some.has) on_c in
    record {
      combination = c;
      sources = one.other;
      on = one.on_other;
      is_try = try_same t class c one.some one.other (on_sourced laws t m c one.some one.on_some).one_each
          (on_sourced laws t n c one.other one.on_other).one_each one.same_values is_try;
    }
