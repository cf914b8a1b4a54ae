-- The first choice of a class among all, from what the places of all workers told.
use Rattle.std.proofs.Common.{◌≡◌, ◌⊎◌, inl, inr, ℕ, zero, suc, ◌+◌, ◌<◌, ◌≤◌, List, [], ◌∷◌, ◌++◌, length, Option, Some, None, refl, sym, subst, arith}
use Rattle.std.specs.Prelude.{◌↔◌, All, Any, Contains, IsTrue, MatchOption, slice_get, slice_index_or}
use Rattle.std.specs.List.{flat_map}
use Rattle.std.proofs.lemmas.Bool.{cases_lt}
use Rattle.std.proofs.lemmas.List.Elements.{All-contains, All-weaker, Contains-append_cases, Contains-append_left, Contains-append_right}
use Rattle.std.proofs.lemmas.Option.{slice_get_within}
use Rattle.lit_desk.specs.Desk.{DeskName, PlaceLists, IsDone, IsLeastOf, draws_of, told_by, seen_by, all_draws, all_told, all_seen}
use Rattle.lit_syntax.specs.Syntax.{Litmus}
use Rattle.lit_paths.specs.Choice.{choices_of}
use Rattle.lit_paths.specs.Execution.{execution_choice}
use Rattle.lit_valid.specs.declared.class.Class.{Class}
use Rattle.lit_valid.specs.Class.{GivesClass}
use Rattle.lit_search.specs.FirstOfClass.{HasNoneOf, IsFirstOf}
use Rattle.lit_valid.specs.Gives.{Gives, HasLeastOrder}
use Rattle.lit_search.specs.Report.{Entry, Report, IsReport, entry_at, in_range}
use Rattle.lit_search.proofs.NumberSets.{before_end, not_below, within}
use Rattle.lit_share.specs.Pieces.{pieces_of, in_piece, piece_start, piece_end}
use Rattle.lit_share.specs.Hunted.{desk_class, IsHunted}
use Rattle.lit_share.specs.Internal.Workers.{IsHuntedOut}
use Rattle.lit_share.proofs.Ending.{any_of_all}
use Rattle.lit_share.proofs.Cutting.{piece_at}

-- ---- lists that stand one after another
module _ {X : Type 0} (f : X → List ℕ) where
  pub record IsFrom (xs : List X) (n : ℕ) : Type 0 where
    pub from : X
    pub there : Contains xs from
    pub stands : Contains (f from) n

  none_in : (n : ℕ) → Contains {X = ℕ} [] n → ⊥
  none_in n c = omega (arith, c.1)

  pub found_in : (xs : List X) (n : ℕ) → Contains (flat_map f xs) n → IsFrom xs n
  found_in [] n c = absurd (none_in n c)
  found_in (x ∷ xs) n c = by x xs (found_in xs n) (Contains-append_cases (f x) (flat_map f xs) n c)
    where
      by : (x : X) (xs : List X) → (Contains (flat_map f xs) n → IsFrom xs n) → Contains (f x) n ⊎ Contains (flat_map f xs) n → IsFrom (x ∷ xs) n
      by x xs rest (inl here) = record { from = x; there = Contains-append_left (x ∷ []) xs x (0, omega arith, refl); stands = here }
      by x xs rest (inr later) = let r = rest later in record { from = r.from; there = Contains-append_right (x ∷ []) xs r.from r.there; stands = r.stands }

  pub stands_in : (xs : List X) (x : X) (n : ℕ) → Contains xs x → Contains (f x) n → Contains (flat_map f xs) n
  stands_in [] x n c d = absurd (omega (arith, c.1))
  stands_in (y ∷ ys) x n c d = by (stands_in ys x n) (Contains-append_cases (y ∷ []) ys x c)
    where
      by : (Contains ys x → Contains (f x) n → Contains (flat_map f ys) n) → Contains (y ∷ []) x ⊎ Contains ys x → Contains (f y ++ flat_map f ys) n
      by rest (inl one) = Contains-append_left (f y) (flat_map f ys) n (subst (λ (z : X). Contains (f z) n) (only one) d)
        where
          only : Contains (y ∷ []) x → x ≡ y
          only (k, low, is) = first k low is
            where
              first : (k : ℕ) → k < 1 → slice_index_or (y ∷ []) k x ≡ x → x ≡ y
              first zero low is = sym is
              first (suc k) low is = absurd (omega (arith, low))
      by rest (inr later) = Contains-append_right (f y) (flat_map f ys) n (rest later d)

-- ---- the first of all
module _ (t : Litmus) (cut : ℕ) (desk : DeskName) (class : Class) (places : List PlaceLists) where
  abbrev total : ℕ
  total = length (choices_of t)

  abbrev of : PlaceLists → List ℕ
  of = told_by (desk_class class)

  listed : (n : ℕ) → GivesClass t class n → n < total
  listed n g = slice_get_within (choices_of t) n (execution_choice g.gives.execution) g.gives.chosen

  -- some number told is no higher
  record IsReached (m : ℕ) : Type 0 where
    pub number : ℕ
    pub told : Contains (all_told (desk_class class) places) number
    pub below : number ≤ m

  module _ (some : 0 < cut) (hunted : All (IsHuntedOut t cut desk) places) (drawn : (i : ℕ) → i < pieces_of total cut → Contains (all_draws places) i)
      (seen : All (Contains (all_told (desk_class class) places)) (all_seen (desk_class class) places)) where
    reached : (m : ℕ) → GivesClass t class m → IsReached m
    reached m g =
        let p = piece_at total cut m some (listed m g) in
        let from = found_in draws_of places p.0 (drawn p.0 p.1) in
        let place = from.from in
        let out : IsHuntedOut t cut desk place = All-contains (IsHuntedOut t cut desk) places place hunted from.there in
        by place from.there p.0 p.2 (All-contains (IsHunted t cut class place) (draws_of place) p.0 (out.hunted class) from.stands)
      where
        by : (place : PlaceLists) → Contains places place → (i : ℕ) → IsTrue (in_piece total cut i m) → IsHunted t cut class place i → IsReached m
        by place there i inside (inl (n, first, told)) = least (cases_lt m n)
          where
            least : (m < n) ⊎ (n ≤ m) → IsReached m
            least (inl lt) = absurd (first.least m inside lt g)
            least (inr le) = record { number = n; told = stands_in of places place n there told; below = le }
        by place there i inside (inr (inl none)) = absurd (none m inside g)
        by place there i inside (inr (inr (n, below, inl told))) = record {
          number = n;
          told = stands_in of places place n there told;
          below = omega (arith, below, not_below (piece_start cut i) (piece_end total cut i) m inside);
        }
        by place there i inside (inr (inr (n, below, inr saw))) = record {
          number = n;
          told = All-contains (Contains (all_told (desk_class class) places)) (all_seen (desk_class class) places) n seen (stands_in (seen_by (desk_class class)) places place n there saw);
          below = omega (arith, below, not_below (piece_start cut i) (piece_end total cut i) m inside);
        }

    pub first_of_all : (least : Option ℕ) → IsLeastOf (all_told (desk_class class) places) least → MatchOption least (HasNoneOf t class (in_range 0 total)) (IsFirstOf t class (in_range 0 total))
    first_of_all None none = λ m inside g. let r = reached m g in none_in of r.number (subst (λ (l : List ℕ). Contains l r.number) none r.told)
    first_of_all (Some least) is =
        let from = found_in of places least is.0 in
        let out : IsHuntedOut t cut desk from.from = All-contains (IsHuntedOut t cut desk) places from.from hunted from.there in
        let gives : GivesClass t class least = All-contains (GivesClass t class) (of from.from) least (out.valid class) from.stands in
        record {
          among = within 0 total least (omega arith) (listed least gives);
          gives = gives;
          least = λ m inside lt g. let r = reached m g in absurd (omega (arith, lt, r.below, All-contains (λ n. least ≤ n) (all_told (desk_class class) places) r.number is.1 r.told));
        }

-- what `close` says of all places
pub first_told : (t : Litmus) (cut : ℕ) (desk : DeskName) (class : Class) (places : List PlaceLists) (drawn : ℕ) (least : Option ℕ) → 0 < cut → 0 < length places
    → All (IsHuntedOut t cut desk) places → (Any IsDone places → drawn ≡ pieces_of (length (choices_of t)) cut) → ((n : ℕ) → Contains (all_draws places) n ↔ (n < drawn))
    → All (Contains (all_told (desk_class class) places)) (all_seen (desk_class class) places) → IsLeastOf (all_told (desk_class class) places) least
    → MatchOption least (HasNoneOf t class (in_range 0 (length (choices_of t)))) (IsFirstOf t class (in_range 0 (length (choices_of t))))
first_told t cut desk class places drawn least cuts some hunted pieces draws seen is =
    let done = All-weaker (IsHuntedOut t cut desk) IsDone (λ place out. out.done) places hunted in
    let full = pieces (any_of_all IsDone places some done) in
    first_of_all t cut desk class places cuts hunted (λ i below. (draws i).1 (subst (λ (k : ℕ). i < k) (sym full) below)) seen least is

-- ---- the report of one choice
first_entry : (xs : List Entry) (d : Entry) → 0 < length xs → slice_get xs 0 ≡ Some (slice_index_or xs 0 d)
first_entry [] d some = absurd (omega (arith, some))
first_entry (x ∷ xs) d some = refl

pub one_entry : (t : Litmus) (n : ℕ) (outcome : List ℕ) (report : Report) → IsReport t (in_range n (n + 1)) report → Gives t n outcome
    → (0 < length report.entries) × HasLeastOrder t n (entry_at report 0).order
one_entry t n outcome report is g =
    let w = is.listed.whole n outcome (within n (n + 1) n (omega arith) (omega arith)) g in
    let inside = slice_get_within report.entries w.0 w.1 w.2 in
    let some : 0 < length report.entries = omega (arith, inside) in
    let entry = is.listed.each 0 (entry_at report 0) (first_entry report.entries _ some) in
    let same : (entry_at report 0).choice ≡ n = omega (arith, not_below n (n + 1) (entry_at report 0).choice entry.among, before_end n (n + 1) (entry_at report 0).choice entry.among) in
    (some, subst (λ (k : ℕ). HasLeastOrder t k (entry_at report 0).order) same entry.least_order)
