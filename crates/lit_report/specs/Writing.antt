-- The state of writing a report: the bytes that the writer has, and those that wait in the buffer.
use Rattle.std.specs.Prelude.{◌≡◌, ℕ, ◌++◌, Bool, true, false, Option, List}
use Rattle.std.specs.Io.KnownBytes.{Appends}
use Rattle.lit_report.specs.declared.counted.Counted.{Counted}
use Rattle.lit_report.specs.declared.buffer.Buffer.{Buffer}
use Rattle.lit_report.specs.Counted.{device_of, failures_of, one_more}

-- known bytes grow by a beginning of these bytes
pub record AppendsBeginning (old new : Option (List ℕ)) (bytes : List ℕ) : Type 0 where
  pub front : List ℕ
  pub rest : List ℕ
  pub parts : front ++ rest ≡ bytes
  pub appended : Appends old new front

-- the bytes that the writer holds, where they are known, its count of failures, what waits, and whether a write has failed
pub record Writing : Type 0 where
  pub known : Option (List ℕ)
  pub failures : ℕ
  pub waiting : List ℕ
  pub failed : Bool

-- what waits in a buffer, and whether a write has failed
abbrev pub waiting_of : Buffer → List ℕ
waiting_of buffer = buffer.waiting

abbrev pub has_failed : Buffer → Bool
has_failed buffer = buffer.failed

abbrev pub writing_of : {W : Type 0} → (W → Option (List ℕ)) → Counted W → Buffer → Writing
writing_of contents output buffer =
    record { known = contents (device_of output); failures = failures_of output; waiting = waiting_of buffer; failed = has_failed buffer }

-- a text was put, and no write failed: it stands behind what waited, of which a beginning was written
pub record GoesOn (old new : Writing) (text : List ℕ) : Type 0 where
  pub same : new.failures ≡ old.failures
  pub front : List ℕ
  pub parts : front ++ new.waiting ≡ old.waiting ++ text
  pub appended : Appends old.known new.known front

-- a text was put, and a write failed: a beginning of what waited and of the text was written
pub record Fails (old new : Writing) (text : List ℕ) : Type 0 where
  pub count : new.failures ≡ one_more old.failures
  pub begun : AppendsBeginning old.known new.known (old.waiting ++ text)

-- nothing was written
pub record Stays (old new : Writing) : Type 0 where
  pub failed : new.failed ≡ true
  pub same : new.failures ≡ old.failures
  pub known : new.known ≡ old.known

-- from one moment to another a text was put; once a write has failed, nothing more is written
pub record HasPut (old new : Writing) (text : List ℕ) : Type 0 where
  pub going : old.failed ≡ false → new.failed ≡ false → GoesOn old new text
  pub failing : old.failed ≡ false → new.failed ≡ true → Fails old new text
  pub failed : old.failed ≡ true → Stays old new

-- the same of an output and its buffer, from one moment to another
abbrev pub HasPutOn : {W : Type 0} → (W → Option (List ℕ)) → (old new : Counted W) → (buffer new_buffer : Buffer) → (text : List ℕ) → Type 0
HasPutOn contents old new buffer new_buffer text = HasPut (writing_of contents old buffer) (writing_of contents new new_buffer) text

-- no write has failed, and the writer has the bytes that it had, and then those that waited
pub record IsFinished (old : Writing) (known : Option (List ℕ)) (failures : ℕ) : Type 0 where
  pub going : old.failed ≡ false
  pub same : failures ≡ old.failures
  pub appended : Appends old.known known old.waiting

-- a write has failed: before, or now behind a beginning of what waited
pub record IsStopped (old : Writing) (known : Option (List ℕ)) (failures : ℕ) : Type 0 where
  pub failing : old.failed ≡ false → (failures ≡ one_more old.failures) × AppendsBeginning old.known known old.waiting
  pub failed : old.failed ≡ true → (failures ≡ old.failures) × (known ≡ old.known)
