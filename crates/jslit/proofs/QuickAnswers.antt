-- The first entry of a class, and what it says of the report and of the verdict.
use Rattle.std.proofs.Common.{◌≡◌, ◌⊎◌, inl, inr, ℕ, ◌<◌, ◌≤◌, Bool, true, false, Option, Some, None, List, length, get_or, refl, sym, ap, subst, ◌∙◌, arith}
use Rattle.std.specs.Prelude.{IsTrue, is_some, not}
use Rattle.std.proofs.lemmas.Bool.{cases_lt, false≢true, cases_Bool}
use Rattle.std.proofs.lemmas.Option.{slice_get-get_or, slice_get_within, get_or_from_slice_get}
use Rattle.lit_syntax.specs.Syntax.{Litmus}
use Rattle.lit_paths.specs.Choice.{choices_of}
use Rattle.lit_paths.specs.Outcome.{meets}
use Rattle.lit_valid.specs.declared.class.Class.{Class}
use Rattle.lit_valid.specs.declared.class.Class.TheVariants.{Met, Unmet}
use Rattle.lit_valid.specs.Class.{is_of_class}
use Rattle.lit_valid.specs.Gives.{Gives, HasLeastOrder}
use Rattle.lit_search.specs.Report.{Entry, Report, HasEntry, IsEntry, IsReport, in_range}
use Rattle.lit_search.proofs.Reports.{one_order}
use Rattle.jslit.specs.QuickAnswer.{IsFirst, IsFirstEntry}
use Rattle.lit_report.specs.Verdict.{IsVerdict, verdict_of}

abbrev all_of : Litmus → ℕ → Bool
all_of t = in_range 0 (length (choices_of t))

same_entry : (a b : Entry) → a.outcome ≡ b.outcome → a.choice ≡ b.choice → a.order ≡ b.order → a ≡ b
same_entry a b outcome choice order =
    ap (λ (o : List ℕ). let e : Entry = record { outcome = o; choice = a.choice; order = a.order } in e) outcome
    ∙ ap (λ (n : ℕ). let e : Entry = record { outcome = b.outcome; choice = n; order = a.order } in e) choice
    ∙ ap (λ (w : List ℕ). let e : Entry = record { outcome = b.outcome; choice = b.choice; order = w } in e) order

-- numbers of which neither is less
same_number : (m n : ℕ) → ¬ (m < n) → ¬ (n < m) → m ≡ n
same_number m n p q = by (cases_lt m n)
  where
    by : (m < n) ⊎ (n ≤ m) → m ≡ n
    by (inl less) = absurd (p less)
    by (inr most) = at (cases_lt n m)
      where
        at : (n < m) ⊎ (m ≤ n) → m ≡ n
        at (inl less) = absurd (q less)
        at (inr least) = omega (arith, most, least)

module _ (t : Litmus) where
  -- the outcome is in the class
  pub its_class : (class : Class) (entry : Entry) → IsFirstEntry t class entry → IsTrue (is_of_class t class entry.outcome)
  its_class class entry is = subst (λ (o : List ℕ). IsTrue (is_of_class t class o)) (is.only is.first.gives.outcome is.first.gives.gives) is.first.gives.of_class

  -- the report has it
  pub first_reported : (class : Class) (entry : Entry) (report : Report) → IsFirstEntry t class entry → IsReport t (all_of t) report → HasEntry report.entries entry
  first_reported class entry report is reported =
      let found = reported.listed.whole entry.choice entry.outcome is.first.among is.gives in
      let i = found.0 in
      let e = found.1 in
      let there = reported.listed.each i e found.2 in
      let given : Gives t entry.choice e.outcome = subst (λ (o : List ℕ). Gives t entry.choice o) (sym found.3) is.gives in
      let of_class : IsTrue (is_of_class t class e.outcome) = subst (λ (o : List ℕ). IsTrue (is_of_class t class o)) (sym found.3) (its_class class entry is) in
      let choice : e.choice ≡ entry.choice =
      same_number e.choice entry.choice
      (λ less. is.first.least e.choice there.among less (record { outcome = e.outcome; gives = there.gives; of_class = of_class }))
      (λ less. there.least_choice entry.choice is.first.among less given) in
      let here : HasLeastOrder t entry.choice e.order = subst (λ (n : ℕ). HasLeastOrder t n e.order) choice there.least_order in
      let order : e.order ≡ entry.order = one_order t entry.choice entry.outcome e.order entry.order is.gives here is.least_order in
      (i, found.2 ∙ ap Some (same_entry e entry found.3 choice order))

  -- there is one for each class at most
  pub one_first : (class : Class) (a b : Option Entry) → IsFirst t class a → IsFirst t class b → a ≡ b
  one_first class None None p q = refl
  one_first class None (Some f) p q = absurd (p f.choice q.first.among q.first.gives)
  one_first class (Some e) None p q = absurd (q e.choice p.first.among p.first.gives)
  one_first class (Some e) (Some f) p q =
      let choice : f.choice ≡ e.choice =
      same_number f.choice e.choice (λ less. p.first.least f.choice q.first.among less q.first.gives) (λ less. q.first.least e.choice p.first.among less p.first.gives) in
      let given : Gives t e.choice f.outcome = subst (λ (n : ℕ). Gives t n f.outcome) choice q.gives in
      let here : HasLeastOrder t e.choice f.order = subst (λ (n : ℕ). HasLeastOrder t n f.order) choice q.least_order in
      ap Some (sym (same_entry f e (p.only f.outcome given) choice (one_order t e.choice e.outcome f.order e.order p.gives here p.least_order)))

  none_unmet : (outcome : List ℕ) → meets t outcome ≡ false → IsTrue (is_of_class t Unmet outcome)
  none_unmet outcome is = rw is refl

  module _ (report : Report) (reported : IsReport t (all_of t) report) where
    its_entry : (k : ℕ) (d : Entry) → k < length report.entries → IsEntry t (all_of t) (get_or report.entries k d)
    its_entry k d lt = reported.listed.each k (get_or report.entries k d) (slice_get-get_or report.entries k d lt)

    -- where no choice gives an outcome of the class, no entry has one
    never_of : (class : Class) → IsFirst t class None → (k : ℕ) (d : Entry) → k < length report.entries → ¬ IsTrue (is_of_class t class (get_or report.entries k d).outcome)
    never_of class none k d lt of =
        let entry = its_entry k d lt in
        none (get_or report.entries k d).choice entry.among (record { outcome = (get_or report.entries k d).outcome; gives = entry.gives; of_class = of })

    -- the first entry of a class stands in the report
    stands : (class : Class) (entry : Entry) → IsFirstEntry t class entry → (i : ℕ) × (i < length report.entries) × ((d : Entry) → get_or report.entries i d ≡ entry)
    stands class entry is =
        let found = first_reported class entry report is reported in
        (found.0, slice_get_within report.entries found.0 entry found.1, λ d. get_or_from_slice_get report.entries found.0 entry d found.1)

    not_met : (k : ℕ) (d : Entry) → k < length report.entries → IsFirst t Met None → meets t (get_or report.entries k d).outcome ≡ false
    not_met k d lt none = by (cases_Bool (meets t (get_or report.entries k d).outcome))
      where
        by : (meets t (get_or report.entries k d).outcome ≡ true) ⊎ (meets t (get_or report.entries k d).outcome ≡ false) → meets t (get_or report.entries k d).outcome ≡ false
        by (inl is) = absurd (never_of Met none k d lt is)
        by (inr is) = is

    all_met : (k : ℕ) (d : Entry) → k < length report.entries → IsFirst t Unmet None → meets t (get_or report.entries k d).outcome ≡ true
    all_met k d lt none = by (cases_Bool (meets t (get_or report.entries k d).outcome))
      where
        by : (meets t (get_or report.entries k d).outcome ≡ true) ⊎ (meets t (get_or report.entries k d).outcome ≡ false) → meets t (get_or report.entries k d).outcome ≡ true
        by (inl is) = is
        by (inr is) = absurd (never_of Unmet none k d lt (none_unmet (get_or report.entries k d).outcome is))

    -- the outcome of a class's first entry is that of an entry
    met_there : (e : Entry) → IsFirstEntry t Met e → (i : ℕ) × (i < length report.entries) × ((d : Entry) → meets t (get_or report.entries i d).outcome ≡ true)
    met_there e is = let s = stands Met e is in (s.0, s.1, λ d. ap (λ (x : Entry). meets t x.outcome) (s.2 d) ∙ its_class Met e is)

    not_true : (b : Bool) → IsTrue (not b) → b ≡ false
    not_true true is = absurd (let e : false ≡ true = is in cc)
    not_true false is = refl

    unmet_there : (e : Entry) → IsFirstEntry t Unmet e → (i : ℕ) × (i < length report.entries) × ((d : Entry) → meets t (get_or report.entries i d).outcome ≡ false)
    unmet_there e is = let s = stands Unmet e is in (s.0, s.1, λ d. ap (λ (x : Entry). meets t x.outcome) (s.2 d) ∙ not_true (meets t e.outcome) (its_class Unmet e is))

    -- the verdict is the report's
    pub quick_judged : (met unmet : Option Entry) → IsFirst t Met met → IsFirst t Unmet unmet → IsVerdict t report (verdict_of (is_some met) (is_some unmet))
    quick_judged None unmet p q = λ k d lt. not_met k d lt p
    quick_judged (Some e) None p q = let s = met_there e p in (omega (arith, s.1), λ k d lt. all_met k d lt q)
    quick_judged (Some e) (Some f) p q =
        let s = met_there e p in
        let u = unmet_there f q in
        (λ none. false≢true (sym (none s.0 e s.1) ∙ s.2 e), λ all. false≢true (sym (u.2 f) ∙ all u.0 f u.1))
