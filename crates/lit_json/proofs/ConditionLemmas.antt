-- The members of a condition, as items of an array.
use Rattle.std.proofs.Common.{◌≡◌, List, [], ◌∷◌, map, refl, ap}
use Rattle.serde_json.specs.Data.{Data, Items, item}
use Rattle.serde_json.specs.View.{items_of}
use Rattle.lit_syntax.specs.Syntax.{Litmus}
use Rattle.lit_syntax.specs.declared.syntax.Cond.{Cond}
use Rattle.lit_syntax.specs.Litmus.{condition_of, conditions_view}
use Rattle.lit_json.specs.Told.{condition_data, conditions_data}

-- the condition that a value of the program stands for, as data
abbrev pub member_data : Litmus → Cond → Data
member_data t c = condition_data t (condition_of c)

pub members_told : (t : Litmus) (cs : List Cond) → items_of (map (member_data t) cs) ≡ conditions_data t (conditions_view cs)
members_told t [] = refl
members_told t (c ∷ cs) = ap (λ (ds : Items). item (member_data t c) ds) (members_told t cs)
