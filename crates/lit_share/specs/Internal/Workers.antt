-- Workers before and after their calls: notions of private contracts.
use Rattle.std.specs.Prelude.{◌≡◌, ℕ, length, All, Result, IfOk, OnOk}
use Rattle.lit_desk.specs.Desk.{DeskName, PlaceLists, IsPlaceOf, IsDone, draws_of, told_by, new_place}
use Rattle.lit_syntax.specs.Syntax.{Litmus}
use Rattle.lit_paths.specs.Choice.{choices_of}
use Rattle.lit_valid.specs.declared.class.Class.{Class}
use Rattle.lit_valid.specs.Class.{GivesClass}
use Rattle.lit_search.specs.Report.{Report, IsReport}
use Rattle.lit_share.specs.declared.fault.ShareFault.{ShareFault}
use Rattle.lit_share.specs.declared.worker.Worker.{Worker}
use Rattle.lit_share.specs.declared.worker.Worker.TheVariants.{Ready, Ended, Away}
use Rattle.lit_share.specs.Pieces.{in_pieces}
use Rattle.lit_share.specs.Hunted.{desk_class, IsHunted}

-- it has a new place of the desk
abbrev pub IsReady : {P A : Type 0} → DeskName → Worker P A → Type 0
IsReady desk (Ready worker place pass) = place ≡ new_place desk
IsReady desk (Ended place answer) = ⊥
IsReady desk Away = ⊥

-- its place drew until no piece was left, unless memory was refused, and its answer is the report of the pieces drawn
pub record IsSearched (t : Litmus) (cut : ℕ) (desk : DeskName) (place : PlaceLists) (answer : Result Report ShareFault) : Type 0 where
  pub own : IsPlaceOf desk place
  pub done : OnOk answer (IsDone place)
  pub reported : IfOk answer (IsReport t (in_pieces (length (choices_of t)) cut (draws_of place)))

abbrev pub HasSearched : {P : Type 0} → Litmus → ℕ → DeskName → Worker P (Result Report ShareFault) → Type 0
HasSearched t cut desk (Ready worker place pass) = ⊥
HasSearched t cut desk (Ended place answer) = IsSearched t cut desk place answer
HasSearched t cut desk Away = ⊥

-- its place drew until no piece was left, told in each class choices of that class alone, and hunted each piece in each class
pub record IsHuntedOut (t : Litmus) (cut : ℕ) (desk : DeskName) (place : PlaceLists) : Type 0 where
  pub own : IsPlaceOf desk place
  pub done : IsDone place
  pub valid : (class : Class) → All (GivesClass t class) (told_by (desk_class class) place)
  pub hunted : (class : Class) → All (IsHunted t cut class place) (draws_of place)

abbrev pub HasHunted : {P : Type 0} → Litmus → ℕ → DeskName → Worker P (Unit {0}) → Type 0
HasHunted t cut desk (Ready worker place pass) = ⊥
HasHunted t cut desk (Ended place answer) = IsHuntedOut t cut desk place
HasHunted t cut desk Away = ⊥
