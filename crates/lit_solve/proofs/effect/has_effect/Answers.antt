use Rattle.lit_solve.proofs.Words.{arith, HasEffect, HasEvent, inl, inr, IsTrue, ℕ, ◌↔◌, ◌≡◌, ◌⊎◌}
use Rattle.lit_solve.proofs.EffectLemmas.{effect_of_source, peer_of_effect}
use Rattle.lit_solve.proofs.FrameLemmas.{not_true}
use Rattle.lit_solve.proofs.effect.has_effect.Goals as goal

pub returns-else-has_peer_beside : goal.returns-else-has_peer_beside
returns-else-has_peer_beside c = (to, from)
  where
    two : (e : ℕ) → HasEvent c.with-both.result e ↔ ((e ≡ c.args.read) ⊎ (e ≡ c.args.source))
    two e = grind (arith, c.with-both.ensures, c.set_of-reader.ensures)

    to : IsTrue c.has_peer_beside-else-has_peer_beside.result → HasEffect c.args.events.now c.args.source c.args.read
    to h =
        effect_of_source c.args.events.now c.args.source c.args.read c.requires.source c.requires.read c.set_of-reader.result
        c.with-both.result c.set_of-reader.ensures two
        (c.has_peer_beside-else-has_peer_beside.ensures.0 h)

    from : HasEffect c.args.events.now c.args.source c.args.read → IsTrue c.has_peer_beside-else-has_peer_beside.result
    from effect =
        elim (peer_of_effect c.args.events.now c.args.source c.args.read c.requires.source c.requires.read c.set_of-reader.result
        c.with-both.result c.set_of-reader.ensures
        two effect) [
          | inl of_read ↦ absurd (not_true c.has_peer_beside.result c.if-has_peer_beside.false (c.has_peer_beside.ensures.1 of_read))
          | inr of_source ↦ c.has_peer_beside-else-has_peer_beside.ensures.1 of_source
        ]
