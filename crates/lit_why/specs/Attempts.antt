-- Attempts at an outcome: a combination of paths, with values of the reads that are asked about, such that the guards hold and the outcome
-- is in a class (this project's own). An attempt need not have a valid execution.
use Rattle.std.specs.Prelude.{◌≡◌, ◌⊎◌, ℕ, ◌+◌, ◌<◌, ◌≤◌, ◌==◌, ◌&&◌, ◌||◌, Bool, IsTrue, not, true, false}
use Rattle.std.specs.Prelude.{List, [], ◌∷◌, Some, filter, length, slice_get}
use Rattle.lit_syntax.specs.Syntax.{Litmus}
use Rattle.lit_paths.specs.declared.event.Event.{Event}
use Rattle.lit_paths.specs.ByteReads.{byte_reads}
use Rattle.lit_paths.specs.Choice.{combinations_of, sources_of}
use Rattle.lit_paths.specs.Event.{event_at, payload_at}
use Rattle.lit_paths.specs.Plan.{HasSources, choices_before, events_in}
use Rattle.lit_rel.specs.Broken.{HasFalseGuard}
use Rattle.lit_rel.specs.Part.{PartModel}
use Rattle.lit_valid.specs.declared.class.Class.{Class}
use Rattle.lit_valid.specs.Class.{is_of_class}
use Rattle.lit_valid.specs.PartOutcome.{part_outcome}
use Rattle.lit_why.specs.Asked.{is_asked}
use Rattle.lit_why.specs.declared.attempt.Attempt.{Attempt}

-- choice n is on combination c, with these sources
pub record IsOn (t : Litmus) (n c : ℕ) (sources : List ℕ) : Type 0 where
  pub known : c < length (combinations_of t)
  pub low : choices_before t c ≤ n
  pub high : n < choices_before t (c + 1)
  pub has : HasSources t n sources

-- a combination with these sources
abbrev pub part_with : Litmus → ℕ → List ℕ → PartModel
part_with t c sources = record { test = t; combination = c; sources = sources }

-- by these sources no guard of a path is false of the value read, and the outcome is in the class
pub record IsTry (t : Litmus) (class : Class) (c : ℕ) (sources : List ℕ) : Type 0 where
  pub allowed : ¬ HasFalseGuard (part_with t c sources)
  pub of_class : IsTrue (is_of_class t class (part_outcome (part_with t c sources)))

-- choice n tries the class
pub record TriesClass (t : Litmus) (class : Class) (n : ℕ) : Type 0 where
  pub combination : ℕ
  pub sources : List ℕ
  pub on : IsOn t n combination sources
  pub is_try : IsTry t class combination sources

-- whether two sources of a byte of a read make no difference: the read is not asked about, or they store the same byte there
abbrev pub agree : Bool → List Event → (byte v w : ℕ) → Bool
agree asked events byte v w = not asked || (payload_at (event_at events w) byte == payload_at (event_at events v) byte)

-- whether two lists of sources make no difference for any of these byte reads
abbrev pub all_agree : (ℕ → Bool) → List Event → List (ℕ × ℕ) → List ℕ → List ℕ → Bool
all_agree asked events [] some other = true
all_agree asked events (read ∷ reads) [] other = false
all_agree asked events (read ∷ reads) (v ∷ some) [] = false
all_agree asked events (read ∷ reads) (v ∷ some) (w ∷ other) =
    agree (asked read.0) events read.1 v w && all_agree asked events reads some other

-- whether two lists of sources store the same byte for each byte read of a combination that is asked about, so that each read that is
-- asked about has the same value
abbrev pub give_same_values : Litmus → ℕ → List ℕ → List ℕ → Bool
give_same_values t c some other = all_agree (is_asked t c) (events_in t c) (byte_reads (events_in t c)) some other

-- choices m and n are of one attempt: they are on one combination, and give each read that is asked about the same value
pub record AreOneAttempt (t : Litmus) (m n : ℕ) : Type 0 where
  pub combination : ℕ
  pub some : List ℕ
  pub other : List ℕ
  pub on_some : IsOn t m combination some
  pub on_other : IsOn t n combination other
  pub same_values : IsTrue (give_same_values t combination some other)

-- choice n is the first of an attempt at the class
pub record IsLeastTry (t : Litmus) (class : Class) (n : ℕ) : Type 0 where
  pub tries : TriesClass t class n
  pub least : (m : ℕ) → m < n → ¬ AreOneAttempt t m n

-- so many of the choices on the combination of choice n give each read that is asked about the value that choice n gives it
pub record HasSoMany (t : Litmus) (n count : ℕ) : Type 0 where
  pub combination : ℕ
  pub sources : List ℕ
  pub on : IsOn t n combination sources
  pub are : count ≡ length (filter (give_same_values t combination sources) (sources_of (events_in t combination)))

-- an attempt at the class, by the number of its first choice and how many choices it has
pub record IsAttempt (t : Litmus) (class : Class) (attempt : Attempt) : Type 0 where
  pub least : IsLeastTry t class attempt.choice
  pub many : HasSoMany t attempt.choice attempt.choices

-- one of the attempts has this first choice
pub record HasAttempt (attempts : List Attempt) (n : ℕ) : Type 0 where
  pub place : ℕ
  pub attempt : Attempt
  pub is : slice_get attempts place ≡ Some attempt
  pub same : attempt.choice ≡ n

-- the first choices of the attempts rise
abbrev pub AreRising : List Attempt → Type 0
AreRising attempts =
    (i j : ℕ) (a b : Attempt) → i < j → slice_get attempts i ≡ Some a → slice_get attempts j ≡ Some b → a.choice < b.choice

-- the first choice of each attempt is before choice n
abbrev pub AreBefore : List Attempt → ℕ → Type 0
AreBefore attempts n = (i : ℕ) (a : Attempt) → slice_get attempts i ≡ Some a → a.choice < n

-- The first `most` attempts at the class, in order, each once: an attempt that is missing comes after so many.
pub record AreFirstAttempts (t : Litmus) (class : Class) (most : ℕ) (attempts : List Attempt) : Type 0 where
  pub few : length attempts ≤ most
  pub each : (i : ℕ) (a : Attempt) → slice_get attempts i ≡ Some a → IsAttempt t class a
  pub rising : AreRising attempts
  pub whole : (n : ℕ) → IsLeastTry t class n → HasAttempt attempts n ⊎ ((length attempts ≡ most) × AreBefore attempts n)
