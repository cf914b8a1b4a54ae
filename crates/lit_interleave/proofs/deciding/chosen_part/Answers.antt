use Rattle.lit_interleave.proofs.Words.{◌==◌, ap, beq, Bool, ChoosesPart, compares, false, if_views, if◌then◌else◌, not, refl, slice_index}
use Rattle.lit_interleave.proofs.Words.{statement_of, Statements, statements_of, true, ℕ, ◌∙◌, ◌≡◌}
use Rattle.lit_interleave.proofs.deciding.chosen_part.Goals as goal
use Rattle.lit_interleave.proofs.deciding.chosen_part.Goals.{After-from}

comes_out : (equal : Bool) (a b : ℕ) → compares equal a b ≡ beq (a == b) equal
comes_out true a b = elim (a == b) as (λ h. h ≡ beq h true) [ true ↦ refl | false ↦ refl ]
comes_out false a b = elim (a == b) as (λ h. not h ≡ beq h false) [ true ↦ refl | false ↦ refl ]

chosen_by : (c : After-from) (part : Statements) (chosen : Bool)
    → beq (slice_index c.args.registers.now c.from.result == c.in-If.value) c.in-If.equal ≡ chosen
    → part ≡ (if chosen then statements_of c.in-If.body.items else statements_of c.in-If.other.items)
    → ChoosesPart c.args.registers.now (statement_of c.args.statement.now) part
chosen_by c part chosen came chose = record {
  reg = c.in-If.reg;
  equal = c.in-If.equal;
  value = c.in-If.value;
  body = statements_of c.in-If.body.items;
  other = statements_of c.in-If.other.items;
  is = ap statement_of c.in-If.is ∙ if_views c.in-If.reg c.in-If.equal c.in-If.value c.in-If.body c.in-If.other;
  chosen = rw (comes_out c.in-If.equal (slice_index c.args.registers.now c.in-If.reg) c.in-If.value, ← c.from.ensures, came) chose;
}

pub returns-then-registers-from : goal.returns-then-registers-from
returns-then-registers-from c =
    chosen_by (goal.at.returns-then-registers-from c).After-from _ true c.if-registers-from.true (ap statements_of c.deref.ensures.value)

pub returns-else-registers-from : goal.returns-else-registers-from
returns-else-registers-from c =
    chosen_by (goal.at.returns-else-registers-from c).After-from _ false c.if-registers-from.false
    (ap statements_of c.deref-else-registers-from.ensures.value)
