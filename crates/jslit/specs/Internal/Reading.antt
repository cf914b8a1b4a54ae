-- What reading the input does, step by step.
use Rattle.std.specs.Prelude.{◌≡◌, ℕ, ◌++◌, Option, List, length}
use Rattle.std.specs.Io.KnownBytes.{Consumes, IsAtEnd}

-- so many known bytes went behind those read before, and none only at the end
pub record HasRead (old new : Option (List ℕ)) (before after : List ℕ) (taken : ℕ) : Type 0 where
  pub bytes : List ℕ
  pub consumed : Consumes old new bytes
  pub appended : after ≡ before ++ bytes
  pub count : length bytes ≡ taken
  pub end : taken ≡ 0 → IsAtEnd new
