-- The line of JSON on a text (this project's own).
use Rattle.std.specs.Prelude.{◌≡◌, ◌≤◌, ◌++◌, ◌∷◌, [], ℕ, Bool, List, Some}
use Rattle.serde_json.specs.Data.{Data, depth}
use Rattle.serde_json.specs.Read.{max_depth, read}
use Rattle.serde_json.specs.Written.{IsInOrder}
use Rattle.lit_json.specs.Told.{Describes}

-- The JSON of what the text says, which spells a test within the limits or doesn't, and a line feed. Who reads the JSON gets that, with the
-- members in order, where it is no deeper than readers go.
pub record IsLineOn (text : List ℕ) (allowed : Bool) (answer : List ℕ) : Type 0 where
  pub version : List ℕ
  pub value : Data
  pub told : Describes version text allowed value
  pub json : List ℕ
  pub in_order : IsInOrder json value
  pub reads_back : depth value ≤ max_depth → read json ≡ Some value
  pub is : answer ≡ json ++ 10 ∷ []
