-- The test that is asked about: the text's own, or that with another condition (this project's own).
use Rattle.std.specs.Prelude.{◌≡◌, ◌≢◌, ℕ, ◌+◌, ◌<◌, List, ◌++◌, codes, length, slice_get, Some, None, IfSome}
use Rattle.lit_syntax.specs.Syntax.{Litmus}
use Rattle.lit_read.specs.CanonicalText.{canonical}
use Rattle.lit_read.specs.Spelling.{Spells}
use Rattle.lit_report.specs.EntryText.{line}
use Rattle.lit_reason.specs.declared.question.Asked.{Asked}

-- the beginning of a text up to its last line, which has some byte where the text has, and in which a byte 10 stands at the end alone
pub record IsBeforeLastLine (text front : List ℕ) : Type 0 where
  pub rest : List ℕ
  pub parts : text ≡ front ++ rest
  pub some : 0 < length text → 0 < length rest
  pub one_line : (i : ℕ) → i + 1 < length rest → slice_get rest i ≢ Some 10
  pub ends : (i : ℕ) → i + 1 ≡ length front → slice_get front i ≡ Some 10

-- the canonical text of a test with this condition in its last line, in place of the test's
pub record IsTextWith (t : Litmus) (condition text : List ℕ) : Type 0 where
  pub front : List ℕ
  pub is_front : IsBeforeLastLine (canonical t) front
  pub is : text ≡ front ++ line (codes "check " ++ condition)

-- the text spells a test; the one that is asked about is this, or the one with the other condition
pub record IsAskedAbout (text : List ℕ) (asked : Asked) (t : Litmus) : Type 0 where
  pub own : Litmus
  pub spelled : Spells text own
  pub same : asked.condition ≡ None → t ≡ own
  pub other : IfSome asked.condition (λ condition. (changed : List ℕ) × IsTextWith own condition.now changed × Spells changed t)
