-- What a call hands out to its caller (this project's own).
use Rattle.std.specs.Prelude.{◌≡◌, ◌⊎◌, ◌++◌, ℕ, List, Some, length, take, drop}
use Rattle.jslit.specs.declared.fault.RunFault.{RunFault}
use Rattle.jslit.specs.Answer.{status_of}
use Rattle.jslit.specs.Answer.{refusal_line}
use Rattle.jslit.specs.Devices.{OfInputText}

-- The answer stands at the beginning of the room, as far as it fits; behind it the room is as it was. The count is the whole answer's.
pub record HandsOut (answer old new : List ℕ) (count : ℕ) : Type 0 where
  pub whole : count ≡ length answer
  pub placed : new ≡ take (length old) answer ++ drop (length answer) old

-- the room is as it was
abbrev pub HandsNothing : (old new : List ℕ) → (count : ℕ) → Type 0
HandsNothing old new count = (new ≡ old) × (count ≡ 0)

-- an answer of this kind
pub record HandsSome (IsAnswer : List ℕ → Type 0) (old new : List ℕ) (count : ℕ) : Type 0 where
  pub answer : List ℕ
  pub on : IsAnswer answer
  pub handed : HandsOut answer old new count

-- the line of a refusal of this kind
pub record HandsLine (IsFault : RunFault → Type 0) (old new : List ℕ) (count : ℕ) : Type 0 where
  pub fault : RunFault
  pub refusal : status_of fault ≡ 1
  pub on : IsFault fault
  pub handed : HandsOut (refusal_line fault) old new count

-- an answer on the text: on its beginning, where it is longer than a text may be
abbrev pub HandsAnswer : (IsAnswer : (text answer : List ℕ) → Type 0) → (text old new : List ℕ) → (count : ℕ) → Type 0
HandsAnswer IsAnswer text old new count = OfInputText (Some text) (λ told. HandsSome (IsAnswer told) old new count)

-- a refusal of the text, in the same sense
abbrev pub HandsRefusal : (IsFault : (text : List ℕ) → RunFault → Type 0) → (text old new : List ℕ) → (count : ℕ) → Type 0
HandsRefusal IsFault text old new count = OfInputText (Some text) (λ told. HandsLine (IsFault told) old new count)

-- what a call can give as a status
abbrev pub IsEmbedStatus : ℕ → Type 0
IsEmbedStatus n = (n ≡ 0) ⊎ (n ≡ 1) ⊎ (n ≡ 3)
