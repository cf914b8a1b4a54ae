-- Entries recorded one after another, of a box and of its parts.
use Rattle.lit_solve.proofs.Words.{◌+◌, ◌++◌, ◌<◌, [], AddsEntries, Any, append-nil, append_assoc, AreNewEntries, arith, Box}
use Rattle.lit_solve.proofs.Words.{choices_before, common_steps, Entry, Execution, execution_outcome, HasEachOutcome, HasOutcome}
use Rattle.lit_solve.proofs.Words.{HasSources, IsCompletion, IsLeastEntry, IsLeastSolution, length, List, place-left, place-middle, refl}
use Rattle.lit_solve.proofs.Words.{subst, sym, ℕ, ◌∷◌, ◌≡◌, ◌≤◌}

-- ---- outcomes that have an entry
pub outcome_stays : (old more : List Entry) (outcome : List ℕ) → HasOutcome old outcome → HasOutcome (old ++ more) outcome
outcome_stays old more outcome has = grind (arith, place-left)

pub outcome_of_last : (old : List Entry) (entry : Entry) → HasOutcome (old ++ entry ∷ []) entry.outcome
outcome_of_last old entry = record { place = length old; entry = entry; is = place-middle old [] entry; same = refl }

-- ---- lists that go on
pub adds_none : (box : Box) (entries : List Entry) → AddsEntries box entries entries
adds_none box entries = record { added = []; goes_on = sym (append-nil entries); each = tt }

pub adds_stays : (box : Box) (old new : List Entry) (outcome : List ℕ) → AddsEntries box old new → HasOutcome old outcome → HasOutcome new outcome
adds_stays box old new outcome adds has = grind (arith, outcome_stays)

new_more : (box : Box) (old first second : List Entry) → AreNewEntries box old first → AreNewEntries box (old ++ first) second
    → AreNewEntries box old (first ++ second)
new_more box old [] second one two = subst (λ (es : List Entry). AreNewEntries box es second) (append-nil old) two
new_more box old (entry ∷ first) second one two = (
  one.0,
  one.1,
  new_more box (old ++ entry ∷ []) first second one.2
      (subst (λ (es : List Entry). AreNewEntries box es second) (sym (append_assoc old (entry ∷ []) first)) two),
)

pub adds_more : (box : Box) (old mid new : List Entry) → AddsEntries box old mid → AddsEntries box mid new → AddsEntries box old new
adds_more box old mid new one two = grind (arith, append_assoc, new_more)

pub adds_one : (box : Box) (old new : List Entry) (entry : Entry) → IsLeastEntry box entry → ¬ HasOutcome old entry.outcome
    → new ≡ old ++ entry ∷ [] → AddsEntries box old new
adds_one box old new entry least lacked goes_on = record { added = entry ∷ []; goes_on = goes_on; each = (least, lacked, tt) }

-- what is new of a part of a box is new of the box
new_out : (inner outer : Box) → ((entry : Entry) → IsLeastEntry inner entry → IsLeastEntry outer entry) → (old entries : List Entry)
    → AreNewEntries inner old entries → AreNewEntries outer old entries
new_out inner outer out old [] new = tt
new_out inner outer out old (entry ∷ entries) new =
    (out entry new.0, new.1, new_out inner outer out (old ++ entry ∷ []) entries new.2)

pub adds_out : (inner outer : Box) → ((entry : Entry) → IsLeastEntry inner entry → IsLeastEntry outer entry) → (old new : List Entry)
    → AddsEntries inner old new → AddsEntries outer old new
adds_out inner outer out old new adds = grind (arith, new_out)

-- ---- a box whose completions have one outcome
module _ (box : Box) (outcome : List ℕ) (same : (x : Execution) → IsCompletion box x → execution_outcome box.test x ≡ outcome) where
  pub each_by_one : (entries : List Entry) → HasOutcome entries outcome → HasEachOutcome box entries
  each_by_one entries has x is = subst (HasOutcome entries) (sym (same x is)) has

  -- the entry of its least completion
  pub least_entry : (sources order : List ℕ) → IsLeastSolution box Any sources order → (choice : ℕ)
      → choices_before box.test box.combination ≤ choice → choice < choices_before box.test (box.combination + 1)
      → HasSources box.test choice sources → IsLeastEntry box (record { outcome = outcome; choice = choice; order = order })
  least_entry sources order least choice from to chosen = grind arith

  pub each_recorded : (old new : List Entry) (choice : ℕ) (order : List ℕ)
      → new ≡ old ++ record { outcome = outcome; choice = choice; order = order } ∷ [] → HasEachOutcome box new
  each_recorded old new choice order is = grind (arith, common_steps, each_by_one, outcome_of_last)
