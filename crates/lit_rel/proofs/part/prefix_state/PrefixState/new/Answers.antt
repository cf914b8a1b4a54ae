use Rattle.std.proofs.Common.{inl, inr, refl}
use Rattle.std.proofs.lemmas.Bool.{false≢true}
use Rattle.lit_rel.proofs.PartLemmas.{broken-iff}
use Rattle.lit_rel.proofs.part.prefix_state.PrefixState.new.Goals as goal

pub returns-then-is_broken : goal.returns-then-is_broken
returns-then-is_broken c =
    let iff = broken-iff c.args.combination.now.0 c.args.combination.now.1 c.args.bytes.now c.args.before.rows c.requires.reads c.requires.before in
    let bytes = rw c.events.ensures.value at (c.if-is_broken.ensures.0 refl) in
    record { before = c.requires.before; broken = (λ _. iff.0 (inl bytes), λ _. c.if-is_broken.true) }

pub returns-else-is_broken : goal.returns-else-is_broken
returns-else-is_broken c =
    let iff = broken-iff c.args.combination.now.0 c.args.combination.now.1 c.args.bytes.now c.args.before.rows c.requires.reads c.requires.before in
    record {
      before = c.requires.before;
      broken = (
        λ h. iff.0 (inr (c.contradicts_guard-broken.ensures.0 h)),
        λ broken. elim (iff.1 broken) [
          | inl bytes ↦ absurd (false≢true (c.if-is_broken.ensures.1 (rw c.events.ensures.value bytes)))
          | inr guard ↦ c.contradicts_guard-broken.ensures.1 guard
        ],
      );
    }
