-- Representatives: the least of the candidates between which there is no difference.
use Rattle.std.proofs.Common.{◌↔◌, ℕ, ◌<◌, Bool, true, false, not, refl}
use Rattle.std.specs.Prelude.{IsTrue}
use Rattle.std.proofs.lemmas.Bool.{false≢true}
use Rattle.lit_syntax.specs.Syntax.{Litmus}
use Rattle.lit_paths.specs.Members.{IsCandidate}
use Rattle.lit_rel.specs.declared.event_set.EventSet.{EventSet}
use Rattle.lit_rel.specs.EventSet.{HasEvent}
use Rattle.lit_solve.specs.Box.{events_on}
use Rattle.lit_solve.specs.Prunable.{IsRefusedOn}
use Rattle.lit_why.specs.Asked.{is_asked}
use Rattle.lit_why.specs.Attempts.{agree}
use Rattle.lit_why.specs.Internal.Trials.{IsRepresentative}

-- a candidate that no guard refuses is a representative where no lesser candidate would make no difference
pub unless_before : (c : Litmus × ℕ) (among : EventSet) (read : ℕ × ℕ) (w : ℕ) (before : Bool)
    → ((v : ℕ) → HasEvent among v ↔ IsCandidate (events_on c) read.0 read.1 v) → HasEvent among w → ¬ IsRefusedOn c read.0 read.1 w
    → (IsTrue before ↔ ((v : ℕ) × HasEvent among v × (v < w)
    × IsTrue (agree (is_asked c.0 c.1 read.0) (events_on c) read.1 v w)))
    → IsTrue (not before) ↔ IsRepresentative c read w
unless_before c among read w true exact there allowed stored = (
  λ never. absurd (false≢true never),
  λ is. absurd (let some = stored.0 refl in
      is.least (record { other = some.0; candidate = (exact some.0).0 some.1; lesser = some.2; same = some.3 })),
)
unless_before c among read w false exact there allowed stored = (
  λ _. record {
    candidate = (exact w).0 there;
    allowed = allowed;
    least = λ before. false≢true (stored.1 (before.other, (exact before.other).1 before.candidate, before.lesser, before.same));
  },
  λ _. refl,
)
