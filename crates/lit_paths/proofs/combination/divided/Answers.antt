use Rattle.std.proofs.Common.{◌+◌, ◌*◌, ◌%◌, ◌≡◌, ◌∙◌, ℕ, ap, arith, sym}
use Rattle.std.proofs.Math.Nat.{add-mul-mod_self_right, mod-eq_of_lt}
use Rattle.lit_paths.proofs.combination.divided.Goals as goal

pub returns-clause-rest : goal.returns-clause-rest
returns-clause-rest c =
    let rest = c.subtracting.rest in
    let sum : c.subtracting.rest + c.subtracting.quotient * c.args.by ≡ c.args.number = omega (arith, c.subtracting.invariant) in
    sym (mod-eq_of_lt (omega (arith, c.subtracting-test.false)))
    ∙ sym (add-mul-mod_self_right rest c.subtracting.quotient c.args.by)
    ∙ ap (λ (n : ℕ). n % c.args.by) sum
