-- The value of a condition on an outcome, member by member.
use Rattle.std.proofs.Common.{◌≡◌, ℕ, ◌&&◌, ◌||◌, Bool, List, refl, ap, ◌∙◌, Vec, Global}
use Rattle.std.specs.List.{list_any, list_all}
use mathlib.Core.Former.{Count}
use Rattle.lit_syntax.specs.declared.syntax.Cond.{Cond, Row_of-Cond, end_of-Cond, more_of-Cond, items-the_row-Cond, items_hidden-the_row-Cond-0}
use Rattle.lit_syntax.specs.declared.syntax.Cond as code
use Rattle.lit_syntax.specs.Litmus.{condition_of, conditions_of}
use Rattle.lit_paths.specs.Outcome.{asks, some_asks, holds, any_holds, all_hold}
use Rattle.lit_syntax.proofs.TreeViews.{row_of}

-- whether a member of a condition holds
abbrev pub member_holds : List ((ℕ × ℕ) × ℕ) → Cond → Bool
member_holds values c = holds values (condition_of c)

module _ (values : List ((ℕ × ℕ) × ℕ)) where
  any_holds-row : (n : Count) (row : Row_of-Cond n) → any_holds values (conditions_of row) ≡ list_any (member_holds values) (items-the_row-Cond n row)
  any_holds-row n end_of-Cond = refl
  any_holds-row n (more_of-Cond c rest) = ap (λ b. holds values (condition_of c) || b) (any_holds-row _ rest)

  all_hold-row : (n : Count) (row : Row_of-Cond n) → all_hold values (conditions_of row) ≡ list_all (member_holds values) (items-the_row-Cond n row)
  all_hold-row n end_of-Cond = refl
  all_hold-row n (more_of-Cond c rest) = ap (λ b. holds values (condition_of c) && b) (all_hold-row _ rest)

  pub holds-Any : (members : Vec Cond Global) → holds values (condition_of (code.Any members)) ≡ list_any (member_holds values) members.items
  holds-Any members =
      let row = row_of (code.Any members) in
      any_holds-row row.0 row.1 ∙ ap (λ cs. list_any (member_holds values) cs) (items_hidden-the_row-Cond-0 members)

  pub holds-All : (members : Vec Cond Global) → holds values (condition_of (code.All members)) ≡ list_all (member_holds values) members.items
  holds-All members =
      let row = row_of (code.All members) in
      all_hold-row row.0 row.1 ∙ ap (λ cs. list_all (member_holds values) cs) (items_hidden-the_row-Cond-0 members)

-- ---- the registers that a condition looks at
module _ (agent reg : ℕ) where
  -- whether a member of a condition looks at the register
  abbrev pub member_asks : Cond → Bool
  member_asks c = asks (condition_of c) agent reg

  some_asks-row : (n : Count) (row : Row_of-Cond n) → some_asks (conditions_of row) agent reg ≡ list_any member_asks (items-the_row-Cond n row)
  some_asks-row n end_of-Cond = refl
  some_asks-row n (more_of-Cond c rest) = ap (λ b. asks (condition_of c) agent reg || b) (some_asks-row _ rest)

  pub asks-Any : (members : Vec Cond Global) → asks (condition_of (code.Any members)) agent reg ≡ list_any member_asks members.items
  asks-Any members =
      let row = row_of (code.Any members) in
      some_asks-row row.0 row.1 ∙ ap (λ cs. list_any member_asks cs) (items_hidden-the_row-Cond-0 members)

  pub asks-All : (members : Vec Cond Global) → asks (condition_of (code.All members)) agent reg ≡ list_any member_asks members.items
  asks-All members =
      let row = row_of (code.All members) in
      some_asks-row row.0 row.1 ∙ ap (λ cs. list_any member_asks cs) (items_hidden-the_row-Cond-0 members)
