-- The numbers of the choices that begin with given sources, and the sources that a choice adds to them.
use Rattle.std.proofs.Common.{◌≡◌, ◌⊎◌, inl, inr, ℕ, ◌+◌, ◌-◌, ◌*◌, ◌<◌, ◌≤◌, List, [], ◌∷◌, ◌++◌, length, take, get_or, None, Some, sym, ap, ap₂, subst, ◌∙◌, arith}
use Rattle.std.specs.Prelude.{slice_get}
use Rattle.std.proofs.Math.Nat.{lt_of_mul-lt-mul_right}
use Rattle.std.proofs.Math.Seq.{get_or-append_seam}
use Rattle.std.proofs.lemmas.Bool.{cases_lt}
use Rattle.std.proofs.lemmas.List.{get_or-take, get_or_append_left, length-take-le, length_push, nil_from_length, take-append-le, take-take, take_all}
use Rattle.std.proofs.lemmas.Option.{get_or_from_slice_get, none-some, same_Some, slice_get-get_or, slice_get_within}
use Rattle.lit_syntax.specs.Syntax.{Litmus}
use Rattle.lit_paths.specs.ByteReads.{byte_reads, byte_read_at}
use Rattle.lit_paths.specs.Choice.{Choice, candidates_of, choices_of, combinations_of}
use Rattle.lit_paths.specs.Members.{AreSources}
use Rattle.lit_paths.specs.Numbers.{AreNumbered, IsBegunBy, NumbersChoices, ways_from}
use Rattle.lit_paths.specs.Plan.{HasSources, IsOfCombination, choices_before, events_in}
use Rattle.lit_paths.proofs.ChoiceNumbers.{known_by_first, rest_none, ways_split}
use Rattle.lit_report.specs.declared.choice_sources.ChoiceSources.{ChoiceSources}
use Rattle.lit_report.specs.ChoiceSources.{HoldsSources}

pub numbers_by_first : (t : Litmus) (c first : ℕ) → ((u : Litmus) (d : ℕ) → d < length (combinations_of u) → NumbersChoices u d)
    → first ≡ choices_before t c → first < length (choices_of t) → NumbersChoices t c
numbers_by_first t c first law same known = law t c (known_by_first t c first same known)

-- each choice on the combination begins with no sources
pub begun_none : (t : Litmus) (c n : ℕ) → NumbersChoices t c → choices_before t c ≤ n → n < choices_before t (c + 1) → IsBegunBy t c [] n
begun_none t c n numbers low high = (numbers.whole n).1 (low, omega (arith, high, numbers.behind))

-- no sources are held of each combination
pub holds_none : (t : Litmus) (c : ℕ) (held : ChoiceSources) → held.sources.items ≡ [] → held.lows.items ≡ [] → HoldsSources t c held
holds_none t c held none no_lows =
    let no_sources : length held.sources.items ≡ 0 = ap length none in
    let nothing : length held.lows.items ≡ 0 = ap length no_lows in
    record {
      one_each = nothing ∙ sym no_sources;
      few = omega (arith, no_sources);
      numbered = λ k inside. absurd (let past = inside in omega (arith, nothing, past));
    }

-- the first of the sources held
pub holds_first : (t : Litmus) (c k : ℕ) (held first : ChoiceSources) → HoldsSources t c held → k ≤ length held.sources.items
    → first.sources.items ≡ take k held.sources.items → first.lows.items ≡ take k held.lows.items → HoldsSources t c first
holds_first t c k held first holds few sources lows =
    let long : length first.sources.items ≡ k = ap length sources ∙ length-take-le k held.sources.items few in
    let few_lows : k ≤ length held.lows.items = omega (arith, few, holds.one_each) in
    let long_lows : length first.lows.items ≡ k = ap length lows ∙ length-take-le k held.lows.items few_lows in
    record {
      one_each = long_lows ∙ sym long;
      few = omega (arith, long, few, holds.few);
      numbered = λ j inside.
          let before : j < k = let past = inside in omega (arith, past, long_lows) in
          subst (λ (given : List ℕ). AreNumbered t c given (get_or first.lows.items j 0) (ways_from (events_in t c) (j + 1)))
          (sym (take-take (j + 1) k held.sources.items (omega (arith, before))) ∙ ap (take (j + 1)) (sym sources))
          (subst (λ (low : ℕ). AreNumbered t c (take (j + 1) held.sources.items) low (ways_from (events_in t c) (j + 1)))
          (sym (get_or-take k held.lows.items j 0 before) ∙ ap (λ (ls : List ℕ). get_or ls j 0) (sym lows))
          (holds.numbered j (omega (arith, before, few_lows))));
    }

-- a choice not before the k-th number, and not behind those that have the first k + 1 sources
pub reached : (t : Litmus) (c k n low later : ℕ) (held : ChoiceSources) → HoldsSources t c held → k < length held.lows.items
    → low ≡ get_or held.lows.items k 0 → later ≡ ways_from (events_in t c) (k + 1) → low ≤ n → n - low < later
    → IsBegunBy t c (take (k + 1) held.sources.items) n
reached t c k n low later held holds inside is_low is_later at_least less =
    (holds.numbered k inside n).1 (omega (arith, is_low, at_least), omega (arith, is_low, is_later, at_least, less))

-- all sources held begin the choices from the last number on
pub holds_all : (t : Litmus) (c low : ℕ) (held : ChoiceSources) → HoldsSources t c held
    → slice_get held.lows.items (length held.lows.items - 1) ≡ Some low
    → AreNumbered t c held.sources.items low (ways_from (events_in t c) (length held.sources.items))
holds_all t c low held holds last =
    let k : ℕ = length held.lows.items - 1 in
    let inside : k < length held.lows.items = slice_get_within held.lows.items k low last in
    let next : k + 1 ≡ length held.sources.items = omega (arith, inside, holds.one_each) in
    subst (λ (given : List ℕ). AreNumbered t c given low (ways_from (events_in t c) (length held.sources.items)))
    (take_all (k + 1) held.sources.items (omega (arith, next)))
    (subst (λ (l : ℕ). AreNumbered t c (take (k + 1) held.sources.items) l (ways_from (events_in t c) (length held.sources.items)))
    (get_or_from_slice_get held.lows.items k low 0 last)
    (subst (λ (i : ℕ). AreNumbered t c (take (k + 1) held.sources.items) (get_or held.lows.items k 0) (ways_from (events_in t c) i)) next
    (holds.numbered k inside)))

none_empty : (xs : List ℕ) → slice_get xs (length xs - 1) ≡ None → length xs ≡ 0
none_empty [] at = omega arith
none_empty (x ∷ xs) at =
    absurd (none-some (get_or (x ∷ xs) (length (x ∷ xs) - 1) 0) (sym at ∙ slice_get-get_or (x ∷ xs) (length (x ∷ xs) - 1) 0 (omega arith)))

-- where none are held, those from the first of the combination on
pub holds_all_none : (t : Litmus) (c low : ℕ) (held : ChoiceSources) → NumbersChoices t c → HoldsSources t c held
    → slice_get held.lows.items (length held.lows.items - 1) ≡ None
    → low ≡ choices_before t c → AreNumbered t c held.sources.items low (ways_from (events_in t c) (length held.sources.items))
holds_all_none t c low held numbers holds last first =
    let none : length held.lows.items ≡ 0 = none_empty held.lows.items last in
    let nothing : held.sources.items ≡ [] = nil_from_length held.sources.items (omega (arith, none, holds.one_each)) in
    subst (λ (given : List ℕ). AreNumbered t c given low (ways_from (events_in t c) (length given))) (sym nothing)
    (subst (λ (l : ℕ). AreNumbered t c [] l (ways_from (events_in t c) 0)) (sym first) numbers.whole)

-- ---- one source more: that of the candidate with this digit
module _ (t : Litmus) (c : ℕ) (numbers : NumbersChoices t c) (given : List ℕ) (place first low digit later n : ℕ) (candidates : List ℕ)
    (is_place : place ≡ length given) (is_later : later ≡ ways_from (events_in t c) (place + 1))
    (are : candidates ≡ candidates_of (events_in t c) (byte_read_at (events_in t c) place))
    (numbered : AreNumbered t c given first (ways_from (events_in t c) (length given))) (begun : IsBegunBy t c given n)
    (left : length given < length (byte_reads (events_in t c)))
    (is_low : low ≡ first + digit * later) (at_least : low ≤ n) (less : n - low < later) where
  pub digit_within : digit < length candidates
  digit_within =
      let run = (numbered n).0 begun in
      let split : ways_from (events_in t c) (length given) ≡ length candidates * later =
      ap (ways_from (events_in t c)) (sym is_place) ∙ ways_split (events_in t c) place (omega (arith, is_place, left))
      ∙ ap₂ (λ (ws : List ℕ) (k : ℕ). length ws * k) (sym are) (sym is_later) in
      let below : digit * later < length candidates * later = omega (arith, run.1, split, is_low, at_least) in
      lt_of_mul-lt-mul_right later below

  module _ (w : ℕ) (here : slice_get candidates digit ≡ Some w) where
    pub numbered_more : AreNumbered t c (given ++ w ∷ []) low (ways_from (events_in t c) (length given + 1))
    numbered_more =
        let next : ways_from (events_in t c) (length given + 1) ≡ later = ap (λ (k : ℕ). ways_from (events_in t c) (k + 1)) (sym is_place) ∙ sym is_later in
        let at : slice_get (candidates_of (events_in t c) (byte_read_at (events_in t c) (length given))) digit ≡ Some w =
        ap (λ (k : ℕ). slice_get (candidates_of (events_in t c) (byte_read_at (events_in t c) k)) digit) (sym is_place)
        ∙ ap (λ (ws : List ℕ). slice_get ws digit) (sym are) ∙ here in
        subst (λ (l : ℕ). AreNumbered t c (given ++ w ∷ []) l (ways_from (events_in t c) (length given + 1)))
        (ap (λ (k : ℕ). first + digit * k) next ∙ sym is_low)
        (numbers.next given first digit w numbered left at)

    pub begun_more : IsBegunBy t c (given ++ w ∷ []) n
    begun_more =
        let next : ways_from (events_in t c) (length given + 1) ≡ later = ap (λ (k : ℕ). ways_from (events_in t c) (k + 1)) (sym is_place) ∙ sym is_later in
        (numbered_more n).1 (at_least, omega (arith, less, next))

-- the sources held, and one more
module _ (t : Litmus) (c : ℕ) (held more : ChoiceSources) (holds : HoldsSources t c held) (w low : ℕ)
    (left : length held.sources.items < length (byte_reads (events_in t c)))
    (sources : more.sources.items ≡ held.sources.items ++ w ∷ []) (lows : more.lows.items ≡ held.lows.items ++ low ∷ [])
    (numbered : AreNumbered t c (held.sources.items ++ w ∷ []) low (ways_from (events_in t c) (length held.sources.items + 1))) where
  long : length more.sources.items ≡ length held.sources.items + 1
  long = ap length sources ∙ length_push held.sources.items w

  long_lows : length more.lows.items ≡ length held.lows.items + 1
  long_lows = ap length lows ∙ length_push held.lows.items low

  each : (k : ℕ) → (k < length held.lows.items) ⊎ (length held.lows.items ≤ k) → k < length more.lows.items
      → AreNumbered t c (take (k + 1) more.sources.items) (get_or more.lows.items k 0) (ways_from (events_in t c) (k + 1))
  each k (inl before) inside =
      subst (λ (given : List ℕ). AreNumbered t c given (get_or more.lows.items k 0) (ways_from (events_in t c) (k + 1)))
      (sym (take-append-le (k + 1) held.sources.items (w ∷ []) (omega (arith, before, holds.one_each))) ∙ ap (take (k + 1)) (sym sources))
      (subst (λ (first : ℕ). AreNumbered t c (take (k + 1) held.sources.items) first (ways_from (events_in t c) (k + 1)))
      (sym (get_or_append_left held.lows.items (low ∷ []) 0 k before) ∙ ap (λ (ls : List ℕ). get_or ls k 0) (sym lows))
      (holds.numbered k before))
  each k (inr last) inside =
      let is : length held.sources.items ≡ k = omega (arith, last, inside, long_lows, holds.one_each) in
      let is_low : length held.lows.items ≡ k = omega (arith, is, holds.one_each) in
      let whole : held.sources.items ++ w ∷ [] ≡ take (k + 1) more.sources.items =
      sym sources ∙ sym (take_all (k + 1) more.sources.items (omega (arith, long, is))) in
      let first : low ≡ get_or more.lows.items k 0 =
      sym (get_or-append_seam held.lows.items low [] 0) ∙ ap (λ (ls : List ℕ). get_or ls (length held.lows.items) 0) (sym lows)
      ∙ ap (λ (i : ℕ). get_or more.lows.items i 0) is_low in
      subst (λ (given : List ℕ). AreNumbered t c given (get_or more.lows.items k 0) (ways_from (events_in t c) (k + 1))) whole
      (subst (λ (l : ℕ). AreNumbered t c (held.sources.items ++ w ∷ []) l (ways_from (events_in t c) (k + 1))) first
      (subst (λ (i : ℕ). AreNumbered t c (held.sources.items ++ w ∷ []) low (ways_from (events_in t c) (i + 1))) is numbered))

  pub holds_more : HoldsSources t c more
  holds_more = record {
    one_each = omega (arith, long, long_lows, holds.one_each);
    few = omega (arith, long, left);
    numbered = λ k inside. each k (cases_lt k (length held.lows.items)) inside;
  }

-- ---- a source for each byte read
module _ (t : Litmus) (c n : ℕ) (sources : List ℕ) (of : IsOfCombination t n c) (is : IsBegunBy t c sources n)
    (whole : length sources ≡ length (byte_reads (events_in t c))) where
  same : is.choice ≡ of.choice
  same = same_Some is.choice of.choice (sym is.listed ∙ of.listed)

  are : is.choice.sources ≡ sources
  are =
      let long : length is.choice.sources ≡ length sources = ap (λ (ch : Choice). length ch.sources) same ∙ of.sourced.one_each ∙ sym whole in
      is.begun ∙ rest_none sources is.rest (sym long ∙ ap (λ (ws : List ℕ). length ws) is.begun)

  pub whole_has : HasSources t n sources
  whole_has = record { choice = is.choice; listed = is.listed; same = are }

  pub whole_sourced : AreSources (events_in t c) sources
  whole_sourced = subst (AreSources (events_in t c)) (ap (λ (ch : Choice). ch.sources) (sym same) ∙ are) of.sourced
