-- The first choices of each class that a place told of its pieces (this project's own).
use Rattle.std.specs.Prelude.{◌≡◌, ℕ, ◌<◌, ◌++◌, ◌⊎◌, All, Contains, length}
use Rattle.lit_desk.specs.declared.class.Class2.{Class2}
use Rattle.lit_desk.specs.declared.class.Class2.TheVariants as of_desk
use Rattle.lit_desk.specs.Desk.{PlaceLists, told_by, seen_by}
use Rattle.lit_syntax.specs.Syntax.{Litmus}
use Rattle.lit_paths.specs.Choice.{choices_of}
use Rattle.lit_valid.specs.declared.class.Class.{Class}
use Rattle.lit_valid.specs.declared.class.Class.TheVariants.{Met, Unmet}
use Rattle.lit_valid.specs.Class.{GivesClass}
use Rattle.lit_search.specs.FirstOfClass.{HasNoneOf, IsFirstOf}
use Rattle.lit_share.specs.Pieces.{in_piece, piece_start}
use Rattle.lit_share.specs.Drawn.{since}

-- the desk's class for a class of outcomes
abbrev pub desk_class : Class → Class2
desk_class Met = of_desk.Met
desk_class Unmet = of_desk.Unmet

-- the place told or saw this number in the class
abbrev pub Knows : Class → PlaceLists → ℕ → Type 0
Knows class place n = Contains (told_by (desk_class class) place) n ⊎ Contains (seen_by (desk_class class) place) n

-- Of a piece: the place told its first choice in the class, or it has none, or it begins above a number that the place
-- told or saw in the class.
abbrev pub IsHunted : Litmus → ℕ → Class → PlaceLists → ℕ → Type 0
IsHunted t cut class place piece =
    ((n : ℕ) × IsFirstOf t class (in_piece (length (choices_of t)) cut piece) n × Contains (told_by (desk_class class) place) n)
    ⊎ (HasNoneOf t class (in_piece (length (choices_of t)) cut piece) ⊎ ((n : ℕ) × (n < piece_start cut piece) × Knows class place n))

-- Since an earlier moment the place told choices of the class alone, and retains what it told and saw before.
pub record HasTold (t : Litmus) (class : Class) (before after : PlaceLists) : Type 0 where
  pub told : told_by (desk_class class) after
      ≡ told_by (desk_class class) before ++ since (told_by (desk_class class) before) (told_by (desk_class class) after)
  pub seen : seen_by (desk_class class) after
      ≡ seen_by (desk_class class) before ++ since (seen_by (desk_class class) before) (seen_by (desk_class class) after)
  pub valid : All (GivesClass t class) (since (told_by (desk_class class) before) (told_by (desk_class class) after))
