-- Relations on events as tests, and how many pairs they have not.
use Rattle.std.proofs.Common.{◌≡◌, ◌⊎◌, ℕ, ◌<◌, ◌≤◌, Bool, true, ◌&&◌, ltb, eqb, eq-eqb, eqb-true, inl, inr, subst, sym, ◌∙◌}
use Rattle.std.proofs.lemmas.Bool.{cases_Bool, ltb-true, lt-ltb, and_parts, and_from, false≢true, false_from_ne_true}
use Rattle.std.specs.Prelude.{slice_index_or}
use Rattle.std.specs.Int.{bit_at}
use Rattle.lit_rel.specs.declared.rows.Rows.{Rows}
use Rattle.lit_rel.specs.EventSet.{no_events}
use Rattle.lit_rel.specs.Rows.{Holds, rows_len}
use Rattle.lit_order.proofs.MissingLemmas.{missing, missing-le, missing-lt}

-- whether rows have a pair
pub has_pair : Rows → ℕ → ℕ → Bool
has_pair rows a d = ltb a (rows_len rows) && (ltb d (rows_len rows) && eqb (bit_at (slice_index_or rows.sets a no_events).bits d) 1)

pub Holds-from_test : (rows : Rows) (a d : ℕ) → has_pair rows a d ≡ true → Holds rows a d
unfolding has_pair
Holds-from_test rows a d h =
    let first = and_parts _ _ h in
    let second = and_parts _ _ first.1 in
    record { first_known = ltb-true _ _ first.0; second_known = ltb-true _ _ second.0; marked = eqb-true _ _ second.1 }

pub test-from_Holds : (rows : Rows) (a d : ℕ) → Holds rows a d → has_pair rows a d ≡ true
unfolding has_pair
test-from_Holds rows a d h = and_from _ _ (lt-ltb _ _ h.first_known) (and_from _ _ (lt-ltb _ _ h.second_known) (eq-eqb _ _ h.marked))

pub holds_or_not : (rows : Rows) (a d : ℕ) → Holds rows a d ⊎ ¬ Holds rows a d
holds_or_not rows a d =
    elim (cases_Bool (has_pair rows a d)) [
      | inl has ↦ inl (Holds-from_test rows a d has)
      | inr has_not ↦ inr (λ h. false≢true (sym has_not ∙ test-from_Holds rows a d h))
    ]

-- how many pairs rows have not
pub pairs_missing : Rows → ℕ
pairs_missing rows = missing (has_pair rows) (rows_len rows)

pub pairs_missing-le : (rows more : Rows) → rows_len more ≡ rows_len rows → ((a d : ℕ) → Holds rows a d → Holds more a d) → pairs_missing more ≤ pairs_missing rows
unfolding pairs_missing
pairs_missing-le rows more len has =
    subst (λ (n : ℕ). missing (has_pair more) n ≤ missing (has_pair rows) (rows_len rows)) (sym len)
    (missing-le (has_pair rows) (has_pair more) (rows_len rows) (λ a d h. test-from_Holds more a d (has a d (Holds-from_test rows a d h))))

pub pairs_missing-lt : (rows more : Rows) → rows_len more ≡ rows_len rows → ((a d : ℕ) → Holds rows a d → Holds more a d) → (a d : ℕ) → ¬ Holds rows a d → Holds more a d → pairs_missing more < pairs_missing rows
unfolding pairs_missing
pairs_missing-lt rows more len has a d was is =
    subst (λ (n : ℕ). missing (has_pair more) n < missing (has_pair rows) (rows_len rows)) (sym len)
    (missing-lt (has_pair rows) (has_pair more) (rows_len rows) (λ x y h. test-from_Holds more x y (has x y (Holds-from_test rows x y h)))
    a d (rw len at is.first_known) (rw len at is.second_known) (false_from_ne_true (has_pair rows a d) (λ h. was (Holds-from_test rows a d h))) (test-from_Holds more a d is))
