use Rattle.std.proofs.Common.{◌<◌, ◌≡◌, ◌∙◌, ℕ, arith, get_or, length}
use Rattle.std.proofs.lemmas.Grind.{common_steps}
use Rattle.std.proofs.lemmas.Nat.{le_bytes_4}
use Rattle.lit_report.proofs.Putting.{HasPut-is}
use Rattle.lit_report.proofs.buffer.Buffer.put_four.Goals as goal

pub returns : goal.returns
returns g c =
    let long : length c.args.bytes ≡ 4 = omega arith in
    let small : (i : ℕ) → get_or c.args.bytes i 0 < 256 = λ i. grind (arith, common_steps) in
    HasPut-is _ _ _ _ c.put.ensures (c.to_le_bytes.ensures ∙ le_bytes_4 c.args.bytes _ long small c.from_le_bytes.ensures)
