-- What a run does to the devices that it reads from and writes to.
use Rattle.std.specs.Prelude.{◌≡◌, ℕ, ◌+◌, ◌≤◌, ◌<◌, Option, IfSome, List, length, take}
use Rattle.std.specs.Io.KnownBytes.{Consumes}
use Rattle.lit_syntax.specs.declared.limits.TheConstants.{TEXT_LIMIT}
use Rattle.jslit.specs.declared.fault.RunFault.{RunFault}
use Rattle.jslit.specs.declared.fault.RunFault.TheVariants.{InputFailed, OutOfMemory}

-- Where the bytes that a reader has left are known, the text is those of them that a run reads: all, or one more than a text may have.
abbrev pub IsInputText : Option (List ℕ) → List ℕ → Type 0
IsInputText remaining text = IfSome remaining (λ bytes. text ≡ take (TEXT_LIMIT + 1) bytes)

-- there is a text that a run reads, and this holds of it
pub record OfInputText (remaining : Option (List ℕ)) (Holds : List ℕ → Type 0) : Type 0 where
  pub text : List ℕ
  pub is_input : IsInputText remaining text
  pub holds : Holds text

-- known bytes lose a beginning of at most so many
pub record ConsumesBeginning (old new : Option (List ℕ)) (limit : ℕ) : Type 0 where
  pub front : List ℕ
  pub few : length front ≤ limit
  pub consumed : Consumes old new front

-- the input's count of failures rose, or memory ran out and the count stayed
abbrev pub IsReadFailure : (before after : ℕ) → RunFault → Type 0
IsReadFailure before after InputFailed = before < after
IsReadFailure before after OutOfMemory = after ≡ before
IsReadFailure before after _ = ⊥
