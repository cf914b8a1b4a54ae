use Rattle.std.proofs.Common.{◌≡◌, ℕ, ◌<◌, true, false, nat_eq, List, Some, length, refl, sym, ap, ◌∙◌, subst, inl, inr, arith, slice_index_or}
use Rattle.std.proofs.lemmas.Bool.{cases_lt, false≢true}
use Rattle.std.proofs.lemmas.Cmp.{nat_list_eq_equiv}
use Rattle.std.proofs.lemmas.Option.{same_Some, slice_get-get_or, slice_get_within}
use Rattle.std.specs.Cmp.Lexicographic.{pointwise, same_text}
use Rattle.std.specs.List.{slice_get}
use Rattle.lit_paths.proofs.Rising.{slice_get-map-found, slice_get-map-known}
use Rattle.lit_valid.specs.Entry.{Entry}
use Rattle.lit_solve_tests.specs.declared.listed.Recorded.{Recorded}
use Rattle.lit_solve_tests.proofs.listed.ListedOutcomeTable.has.Goals as goal

-- the entry of a recorded outcome
abbrev entry_of : Recorded → Entry
entry_of row = record { outcome = row.outcome.items; choice = row.choice; order = row.order.items }

-- the row of the loop is the one at its place
here : (rows : List Recorded) (i : ℕ) (row : Recorded) → i < length rows → row ≡ slice_index_or rows i row → slice_get rows i ≡ Some row
here rows i row within is = slice_get-get_or rows i row within ∙ ap Some (sym is)

pub returns-then-eq : goal.returns-then-eq
returns-then-eq c =
    let rows = c.deref-row-items.result.now in
    let row = c.row-item.result in
    let at = here rows c.loop-row.row-index row c.loop-row-test.true c.row-item.is in
    let same_outcome : row.outcome.items ≡ c.args.outcome.now = sym c.as_slice.ensures.value ∙ same_text c.as_slice.result.now c.args.outcome.now (sym c.if-eq.true ∙ c.eq.ensures) in (
      λ _. record {
        place = c.loop-row.row-index;
        entry = entry_of row;
        is = slice_get-map-found entry_of c.args.self.now.rows.items c.loop-row.row-index row (subst (λ (xs : List Recorded). slice_get xs c.loop-row.row-index ≡ Some row) c.deref-row-items.ensures.value at);
        same = same_outcome;
      },
      λ _. refl,
    )

pub loop-row-preserved : goal.loop-row-preserved
loop-row-preserved c k row below is =
    let rows = c.deref-row-items.result.now in
    let i = c.loop-row.row-index in
    elim (cases_lt k i) [
      | inl earlier ↦ c.loop-row.invariant k row earlier is
      | inr later ↦
          let same : k ≡ i = omega arith in
          let one : row ≡ c.row-item.result = same_Some row c.row-item.result (sym is ∙ ap (slice_get rows) same ∙ here rows i c.row-item.result c.loop-row-test.true c.row-item.is) in
          (λ same_outcome. false≢true (sym c.if-eq.false ∙ c.eq.ensures ∙ subst (λ (o : List ℕ). pointwise nat_eq c.as_slice.result.now o ≡ true) (c.as_slice.ensures.value ∙ ap (λ (r : Recorded). r.outcome.items) (sym one) ∙ same_outcome) (nat_list_eq_equiv.refl c.as_slice.result.now)))
    ]

pub returns : goal.returns
returns c = (
  λ h. absurd (false≢true h),
  λ o.
      let found = slice_get-map-known entry_of c.args.self.now.rows.items o.place o.entry o.is in
      let at = subst (λ (xs : List Recorded). slice_get xs o.place ≡ Some found.0) (sym c.deref-row-items.ensures.value) found.1 in
      let within : o.place < length c.deref-row-items.result.now = slice_get_within c.deref-row-items.result.now o.place found.0 at in
      let below : o.place < c.loop-row.row-index = omega (arith, c.loop-row-test.false) in
      absurd (c.loop-row.invariant o.place found.0 below at (ap (λ e. e.outcome) found.2 ∙ o.same)),
)
