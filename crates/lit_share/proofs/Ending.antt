-- Workers whose calls have ended, and the places that they give back.
use Rattle.std.proofs.Common.{◌≡◌, ℕ, ◌<◌, List, [], ◌∷◌, length, Result, refl, arith}
use Rattle.std.specs.Prelude.{All, Any}
use Rattle.lit_desk.specs.Desk.{DeskName, PlaceLists}
use Rattle.lit_syntax.specs.Syntax.{Litmus}
use Rattle.lit_search.specs.Report.{Report}
use Rattle.lit_share.specs.declared.fault.ShareFault.{ShareFault}
use Rattle.lit_share.specs.declared.worker.Worker.{Worker}
use Rattle.lit_share.specs.declared.worker.Worker.TheVariants.{Ready, Ended, Away}
use Rattle.lit_share.specs.Internal.Workers.{HasSearched, HasHunted}

-- ---- a worker whose call has ended has its place back
pub searched_ended : {P : Type 0} (t : Litmus) (cut : ℕ) (desk : DeskName) (w : Worker P (Result Report ShareFault)) → HasSearched t cut desk w
    → ((place : PlaceLists) (answer : Result Report ShareFault) → w ≡ Ended place answer → ⊥) → ⊥
searched_ended t cut desk (Ready worker place pass) h none = h
searched_ended t cut desk (Ended place answer) h none = none place answer refl
searched_ended t cut desk Away h none = h

pub hunted_ended : {P : Type 0} (t : Litmus) (cut : ℕ) (desk : DeskName) (w : Worker P (Unit {0})) → HasHunted t cut desk w
    → ((place : PlaceLists) (answer : Unit {0}) → w ≡ Ended place answer → ⊥) → ⊥
hunted_ended t cut desk (Ready worker place pass) h none = h
hunted_ended t cut desk (Ended place answer) h none = none place answer refl
hunted_ended t cut desk Away h none = h

-- ---- what holds of all of some places holds of one
pub any_of_all : {X : Type 0} (P : X → Type 0) (xs : List X) → 0 < length xs → All P xs → Any P xs
any_of_all P [] some all = absurd (omega arith)
any_of_all P (x ∷ xs) some all = (0, x, omega arith, refl, all 0 x (omega arith))
