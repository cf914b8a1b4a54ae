-- The makers of a path's events, computed from its guards: one for each decision, in order.
use Rattle.std.specs.Prelude.{ℕ, ◌+◌, Bool, true, false, not, if◌then◌else◌, List, [], ◌∷◌, ◌++◌}
use Rattle.lit_syntax.specs.Syntax.{Statement, Statements, Load, Store, Exchange, CompareExchange, If, End, Then}
use Rattle.lit_syntax.specs.StatementOrder.{count_with_parts, statement_count}
use Rattle.lit_paths.specs.declared.path.Tested.{Tested}

-- whether the first guard asks that the value equals the number, and the guards after it
abbrev pub asks_equal : List Tested → Bool
asks_equal [] = false
asks_equal (test ∷ guards) = test.equal

abbrev pub guards_behind : List Tested → List Tested
guards_behind [] = []
guards_behind (test ∷ guards) = guards

-- whether the comparison of an `if` holds where its guard asks that the value equals the number, or that it differs
abbrev pub holds_where : (equal asked : Bool) → Bool
holds_where true asked = asked
holds_where false asked = not asked

-- the numbers of the statements that make the events on the way, and the guards after those of these statements
abbrev mutual
  pub statement_makers : ℕ → Statement → List Tested → List ℕ × List Tested
  statement_makers n (Load reg window index atomic) guards = (n ∷ [], guards)
  statement_makers n (Store window index value atomic) guards = (n ∷ [], guards)
  statement_makers n (Exchange reg window index value) guards = (n ∷ [], guards)
  statement_makers n (CompareExchange reg window index expected value) guards = (n ∷ [], guards_behind guards)
  statement_makers n (If reg equal value body other) guards =
      if holds_where equal (asks_equal guards)
      then makers_by_guards (n + 1) body (guards_behind guards)
      else makers_by_guards (n + 1 + statement_count body) other (guards_behind guards)

  pub makers_by_guards : ℕ → Statements → List Tested → List ℕ × List Tested
  makers_by_guards n End guards = ([], guards)
  makers_by_guards n (Then s ss) guards = (
    (statement_makers n s guards).0 ++ (makers_by_guards (n + count_with_parts s) ss (statement_makers n s guards).1).0,
    (makers_by_guards (n + count_with_parts s) ss (statement_makers n s guards).1).1,
  )
