use Rattle.std.proofs.Common.{ℕ, ◌<◌, below_more, arith}
use Rattle.std.proofs.lemmas.Bool.{false≢true}
use Rattle.lit_rel.specs.Racing.{AreApart, WritesWith}
use Rattle.lit_rel.specs.Rows.{Holds}
use Rattle.lit_rel.proofs.RaceLemmas.{racing_writes_to}
use Rattle.lit_rel.proofs.given.races.has_racing_writes.Goals as goal

pub loop-write-preserved : goal.loop-write-preserved
loop-write-preserved c =
    below_more (λ e. (d : ℕ) → d < e → WritesWith c.args.events.now e d → AreApart c.args.events.now (Holds c.args.before.now) e d → ⊥) c.loop-write.write c.loop-write.invariant
    (λ d less writes apart. false≢true (c.if-races_with_lesser.ensures.1 (d, less, writes, apart)))

pub returns : goal.returns
returns c = (
  (λ h. absurd (false≢true h)),
  (λ h.
      let found = racing_writes_to c.args.events.now (Holds c.args.before.now) h in
      absurd (c.loop-write.invariant found.0 (omega (arith, found.2, c.loop-write-test.false)) found.1 found.3 found.4 found.5)),
)
