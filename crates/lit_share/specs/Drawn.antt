-- What a place at a desk drew and told since an earlier moment (this project's own).
use Rattle.std.specs.Prelude.{◌≡◌, ℕ, List, ◌++◌, length, drop}
use Rattle.lit_desk.specs.declared.class.Class2.{Class2}
use Rattle.lit_desk.specs.Desk.{PlaceLists, draws_of, told_by, seen_by}

-- what a list has behind an earlier state of it
abbrev pub since : List ℕ → List ℕ → List ℕ
since before after = drop (length before) after

-- the draws since then
abbrev pub drawn_since : PlaceLists → PlaceLists → List ℕ
drawn_since before after = since (draws_of before) (draws_of after)

-- the earlier draws are a prefix of the later ones
abbrev pub DrewOn : PlaceLists → PlaceLists → Type 0
DrewOn before after = draws_of after ≡ draws_of before ++ drawn_since before after

-- since then it told nothing and saw nothing
pub record OnlyDrew (before after : PlaceLists) : Type 0 where
  pub told : (class : Class2) → told_by class after ≡ told_by class before
  pub seen : (class : Class2) → seen_by class after ≡ seen_by class before
