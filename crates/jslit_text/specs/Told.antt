-- What the program prints on a text (this project's own).
use Rattle.std.specs.Prelude.{ℕ, Bool, Option, List}
use Rattle.std.specs.Io.KnownBytes.{Appends}
use Rattle.lit_json.specs.Line.{IsLineOn}

-- known bytes grew by the line on the text, which spells a test within the limits or doesn't
pub record HasTold (text : List ℕ) (allowed : Bool) (old new : Option (List ℕ)) : Type 0 where
  pub line : List ℕ
  pub on : IsLineOn text allowed line
  pub written : Appends old new line
