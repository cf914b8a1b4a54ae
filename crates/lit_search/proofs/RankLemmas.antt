-- Packed lists: where they differ, they compare as the lists do. And ranks of entries.
use Rattle.lit_search.proofs.Words.{◌*◌, ◌+◌, ◌++◌, ◌-◌, ◌<◌, [], ◌^◌, All-map, All-push, ap, ap₂, AreRanks, arith, cases_lt, cases_order}
use Rattle.lit_search.proofs.Words.{drop, drop_all, drop_more, Entry, entry_at, Equal, flat_map-append, get_or, get_or-append-add}
use Rattle.lit_search.proofs.Words.{get_or_append_left, get_or_from_slice_get, get_or_past, Greater, heads_cmp, inl, inr, Inside, is_lt}
use Rattle.lit_search.proofs.Words.{IsPacked, IsRank, IsRanked, IsSortedBy, joined_entries, length, length-append, length-map, Less, List}
use Rattle.lit_search.proofs.Words.{lt-leb, lt-ltb, map, map-append, merged, mul-le-mul_right, nat_cmp, nat_cmp_is, nat_list_cmp_total}
use Rattle.lit_search.proofs.Words.{None, none-some, one-le-pow, option_map, Ordering, ordering_reverse, ordering_then, outcome_cmp}
use Rattle.lit_search.proofs.Words.{packed, pow-le-pow_right, pow-suc, pow-succ', Rank, rank_cmp, ranked_entry, refl, Report, report_of}
use Rattle.lit_search.proofs.Words.{slice_cmp, slice_get, slice_get-get_or, slice_get-map, slice_get_within, slice_index_or, Some, subst}
use Rattle.lit_search.proofs.Words.{suc, suc-mul, sym, take, take-suc, zero, ℕ, ◌∙◌, ◌∷◌, ◌≡◌, ◌≢◌, ◌≤◌}

-- ---- a value more in front
pub packed-nil : (top n : ℕ) → packed top n [] ≡ 0
packed-nil top zero = refl
packed-nil top (suc n) = refl

pub packed-small : (top n x : ℕ) (xs : List ℕ) → x < top → packed top (suc n) (x ∷ xs) ≡ x * (top + 1) ^ n + packed top n xs
packed-small top n x xs below = rw (lt-ltb x top below) refl

pub packed-large : (top n x : ℕ) (xs : List ℕ) → top ≤ x → packed top (suc n) (x ∷ xs) ≡ top * (top + 1) ^ n
packed-large top n x xs above = rw (lt-leb (suc x) top (omega (arith, above))) refl

-- there is room for it
pub packed-below : (top n : ℕ) (xs : List ℕ) → packed top n xs < (top + 1) ^ n
packed-below top zero xs = omega (arith, one-le-pow zero (top + 1) (omega arith))
packed-below top (suc n) [] = omega (arith, one-le-pow (suc n) (top + 1) (omega arith))
packed-below top (suc n) (x ∷ xs) =
    let P = (top + 1) ^ n in
    let rest = packed-below top n xs in
    let all = pow-succ' (top + 1) n in
    let one_more = suc-mul top P in
    elim (cases_lt x top) [
      | inl below ↦ omega (arith, packed-small top n x xs below, rest, all, one_more, suc-mul x P, mul-le-mul_right {m = suc x} {n = top} P (omega (arith, below)))
      | inr above ↦ omega (arith, packed-large top n x xs above, one-le-pow n (top + 1) (omega arith), all, one_more)
    ]

-- ---- how they compare
not_less : (top n x y : ℕ) (xs ys : List ℕ) → y < x → packed top (suc n) (x ∷ xs) < packed top (suc n) (y ∷ ys) → ⊥
not_less top n x y xs ys less lt =
    let P = (top + 1) ^ n in
    elim (cases_lt y top) [
      | inl small ↦
          (let upper = packed-below top n ys in
          elim (cases_lt x top) [
            | inl below ↦ omega (arith, lt, packed-small top n y ys small, packed-small top n x xs below, upper, suc-mul y P, mul-le-mul_right {m = suc y} {n = x} P (omega (arith, less)))
            | inr above ↦ omega (arith, lt, packed-small top n y ys small, packed-large top n x xs above, upper, suc-mul y P, mul-le-mul_right {m = suc y} {n = top} P (omega (arith, small)))
          ])
      | inr large ↦ omega (arith, lt, packed-large top n y ys large, packed-large top n x xs (omega (arith, large, less)))
    ]

heads : (x y : ℕ) (rest o : Ordering) → o ≡ nat_cmp x y → ordering_then (nat_cmp x y) rest ≡ ordering_then o rest
heads x y rest o is = ap (λ (p : Ordering). ordering_then p rest) (sym is)

rests : (top n x y : ℕ) (xs ys : List ℕ) → x ≡ y → packed top (suc n) (x ∷ xs) < packed top (suc n) (y ∷ ys) → packed top n xs < packed top n ys
rests top n x y xs ys same lt =
    let P = (top + 1) ^ n in
    elim (cases_lt x top) [
      | inl small ↦ omega (arith, lt, packed-small top n x xs small, packed-small top n y ys (omega (arith, small, same)), ap (λ (k : ℕ). k * P) same)
      | inr large ↦ absurd (omega (arith, lt, packed-large top n x xs large, packed-large top n y ys (omega (arith, large, same))))
    ]

less : (top n : ℕ) (xs ys : List ℕ) → packed top n xs < packed top n ys → slice_cmp nat_cmp xs ys ≡ Less
less top zero xs ys lt = absurd (omega (arith, lt))
less top (suc n) [] [] lt = absurd (omega (arith, lt))
less top (suc n) [] (y ∷ ys) lt = refl
less top (suc n) (x ∷ xs) [] lt = absurd (omega (arith, lt))
less top (suc n) (x ∷ xs) (y ∷ ys) lt =
    elim (cases_order x y) [
      | inl same ↦ heads x y (slice_cmp nat_cmp xs ys) Equal (nat_cmp_is x y Equal same) ∙ less top n xs ys (rests top n x y xs ys same lt)
      | inr apart ↦ elim apart [
        | inl below ↦ heads x y (slice_cmp nat_cmp xs ys) Less (nat_cmp_is x y Less below)
        | inr further ↦ absurd (not_less top n x y xs ys further lt)
      ]
    ]

greater : (top n : ℕ) (xs ys : List ℕ) → packed top n ys < packed top n xs → slice_cmp nat_cmp xs ys ≡ Greater
greater top n xs ys lt = nat_list_cmp_total.antisymm xs ys ∙ ap ordering_reverse (less top n ys xs lt)

-- so where the numbers differ they tell how the lists compare
pub told : (top n : ℕ) (xs ys : List ℕ) (o : Ordering) → o ≡ nat_cmp (packed top n xs) (packed top n ys) → (o ≡ Equal → ⊥) → o ≡ slice_cmp nat_cmp xs ys
told top n xs ys o is unequal =
    let p = packed top n xs in
    let q = packed top n ys in
    elim (cases_order p q) [
      | inl same ↦ absurd (unequal (is ∙ sym (nat_cmp_is p q Equal same)))
      | inr apart ↦ elim apart [
        | inl below ↦ is ∙ sym (nat_cmp_is p q Less below) ∙ sym (less top n xs ys below)
        | inr further ↦ is ∙ sym (nat_cmp_is p q Greater further) ∙ sym (greater top n xs ys further)
      ]
    ]

-- ---- value by value, from the last on
pub room : (top count place : ℕ) → 0 < place → place ≤ count → (top + 1) ^ count ≤ 170141183460469231731687303715884105728 → (top + 1) * (top + 1) ^ (count - place) ≤ 170141183460469231731687303715884105728
room top count place some few fits =
    let k = count - place in
    omega (arith, pow-succ' (top + 1) k, pow-le-pow_right {n = top + 1} (omega arith) {i = suc k} {j = count} (omega (arith, some, few)), fits)

digit : (top v weight number : ℕ) → v < top → number < weight → v * weight + number < (top + 1) * weight
digit top v weight number below fits = omega (arith, fits, suc-mul v weight, suc-mul top weight, mul-le-mul_right {m = suc v} {n = top} weight (omega (arith, below)))

-- one more digit preserves the bound
pub digit_fits : (top count place v weight number : ℕ) (xs : List ℕ) → 0 < place → place ≤ count
    → (top + 1) ^ count ≤ 170141183460469231731687303715884105728 → weight ≡ (top + 1) ^ (count - place)
    → number ≡ packed top (count - place) (drop place xs) → v < top → v * weight + number < 170141183460469231731687303715884105728
digit_fits top count place v weight number xs some few fits weighs is below = omega (
  arith,
  digit top v weight number below (omega (arith, weighs, is, packed-below top (count - place) (drop place xs))),
  room top count place some few fits,
  ap (λ w. (top + 1) * w) weighs,
)

pub one_more : (top count place : ℕ) → 0 < place → place ≤ count → (top + 1) ^ (count - place) * (top + 1) ≡ (top + 1) ^ (count - (place - 1))
one_more top count place some few =
    sym (pow-suc (top + 1) (count - place)) ∙ ap (λ (k : ℕ). (top + 1) ^ k) (let e : suc (count - place) ≡ count - (place - 1) = omega (arith, some, few) in e)

pub packed-past : (top n : ℕ) (xs : List ℕ) (i : ℕ) → length xs ≤ i → packed top n (drop i xs) ≡ 0
packed-past top n xs i past = ap (packed top n) (drop_all i xs past) ∙ packed-nil top n

pub stepped : (top count place v : ℕ) (xs : List ℕ) → 0 < place → place ≤ count → place - 1 < length xs → ((d : ℕ) → v ≡ get_or xs (place - 1) d)
    → packed top (count - (place - 1)) (drop (place - 1) xs) ≡ packed top (suc (count - place)) (v ∷ drop place xs)
stepped top count place v xs some few inside each =
    ap (λ (k : ℕ). packed top k (drop (place - 1) xs)) (let e : count - (place - 1) ≡ suc (count - place) = omega (arith, some, few) in e)
    ∙ ap (packed top (suc (count - place))) (drop_more xs (place - 1) 0 inside)
    ∙ ap₂ (λ (u j : ℕ). packed top (suc (count - place)) (u ∷ drop j xs)) (sym (each 0)) (let e : place - 1 + 1 ≡ place = omega (arith, some) in e)

-- ---- ranks of entries that stand in parts, one behind the other
-- ---- the entry of a rank
pub past : (es : List Entry) (i : ℕ) → slice_get es i ≡ None → length es ≤ i
past es i h = elim (cases_lt i (length es)) [
  | inl lt ↦ absurd (none-some _ (sym h ∙ slice_get-get_or es i (record { outcome = []; choice = 0; order = [] }) lt))
  | inr le ↦ le
]

pub no_outcome : (es : List Entry) (rank : Rank) → slice_get es rank.place ≡ None → (ranked_entry es rank).outcome ≡ []
no_outcome es rank h =
    ap (λ (e : Entry). e.outcome) (get_or_past es rank.place (record { outcome = []; choice = 0; order = [] }) (past es rank.place h))

pub ranked_is : (es : List Entry) (rank : Rank) (e : Entry) → slice_get es rank.place ≡ Some e → ranked_entry es rank ≡ e
ranked_is es rank e h = get_or_from_slice_get es rank.place e (record { outcome = []; choice = 0; order = [] }) h

-- ---- all ranks, one after the other
pub one_more_each : (es : List Entry) (ranks : List Rank) (rank : Rank) (e : Entry) → rank.place ≡ length ranks → slice_get es (length ranks) ≡ Some e
    → map (ranked_entry es) ranks ≡ take (length ranks) es → map (ranked_entry es) (ranks ++ rank ∷ []) ≡ take (length (ranks ++ rank ∷ [])) es
one_more_each es ranks rank e at there each =
    let n = length ranks in
    map-append (ranked_entry es) ranks (rank ∷ [])
    ∙ ap₂ (λ (xs : List Entry) (x : Entry). xs ++ x ∷ []) each (ranked_is es rank e (ap (slice_get es) at ∙ there) ∙ sym (get_or_from_slice_get es n e e there))
    ∙ sym (take-suc es n e (slice_get_within es n e there))
    ∙ ap (λ (k : ℕ). take k es) (let s : suc n ≡ length (ranks ++ rank ∷ []) = omega (arith, length-append ranks (rank ∷ [])) in s)

pub one_more_rank : (es : List Entry) (ranks : List Rank) (rank : Rank) (e : Entry) → rank.place ≡ length ranks → slice_get es (length ranks) ≡ Some e
    → IsPacked rank.small rank.large e.outcome → AreRanks es ranks → AreRanks es (ranks ++ rank ∷ [])
one_more_rank es ranks rank e at there packed all =
    let is = ranked_is es rank e (ap (slice_get es) at ∙ there) in
    All-push (IsRank es) ranks rank all (record {
      within = omega (arith, at, slice_get_within es (length ranks) e there);
      packed = subst (λ (x : Entry). IsPacked rank.small rank.large x.outcome) (sym is) packed;
    })

-- ---- how ranks compare
then_told : (o rest c : Ordering) → (o ≢ Equal → o ≡ c) → rest ≡ c → ordering_then o rest ≡ c
then_told Less rest c h k = h (λ e. absurd cc)
then_told Equal rest c h k = k
then_told Greater rest c h k = h (λ e. absurd cc)

pub as_outcomes : (es : List Entry) (a b : Rank) → IsRank es a → IsRank es b → rank_cmp es a b ≡ outcome_cmp (ranked_entry es a) (ranked_entry es b)
as_outcomes es a b h k =
    let xs = (ranked_entry es a).outcome in
    let ys = (ranked_entry es b).outcome in
    then_told (nat_cmp a.small b.small) (ordering_then (nat_cmp a.large b.large) (slice_cmp nat_cmp xs ys)) (slice_cmp nat_cmp xs ys)
    (told 127 9 xs ys (nat_cmp a.small b.small) (ap₂ nat_cmp h.packed.by_small k.packed.by_small))
    (then_told (nat_cmp a.large b.large) (slice_cmp nat_cmp xs ys) (slice_cmp nat_cmp xs ys) (told 2147483647 4 xs ys (nat_cmp a.large b.large) (ap₂ nat_cmp h.packed.by_large k.packed.by_large)) refl)

pub sorted_by_outcome : (es : List Entry) (ranks : List Rank) → AreRanks es ranks → IsSortedBy (λ a b. is_lt (rank_cmp es a b)) ranks
    → IsSortedBy (λ a b. is_lt (outcome_cmp (ranked_entry es a) (ranked_entry es b))) ranks
sorted_by_outcome es ranks all up k d low high =
    ap is_lt (sym (as_outcomes es (slice_index_or ranks (k + 1) d) (slice_index_or ranks k d) (all (k + 1) d high) (all k d (omega (arith, high))))) ∙ up k d low high

-- ---- ranks behind more entries
abbrev pub moved : ℕ → Rank → Rank
moved count rank = record { large = rank.large; small = rank.small; place = rank.place + count }

-- ---- what is found
pub found_at : (x : Inside) (report : Report) → report_of x ≡ report → (parts : List (List Entry)) → parts ≡ x.parts.items → (place : ℕ) → place < length report.entries
    → (rank : Rank) → rank ≡ slice_index_or x.ranks.items place rank → (e : Entry) → Some e ≡ slice_get (joined_entries parts) rank.place → e ≡ entry_at report place
found_at x report view parts same place known rank is e there =
    let es = joined_entries x.parts.items in
    let within : place < length x.ranks.items = omega (arith, rw (← view) at known, length-map x.ranks.items (ranked_entry es)) in
    let here : slice_get x.ranks.items place ≡ Some rank = slice_get-get_or x.ranks.items place rank within ∙ ap Some (sym is) in
    rw (← view) (sym (get_or_from_slice_get (map (ranked_entry es) x.ranks.items) place (ranked_entry es rank)
    (record { outcome = []; choice = 0; order = [] })
    (slice_get-map (ranked_entry es) x.ranks.items place ∙ ap (option_map (ranked_entry es)) here)
    ∙ ranked_is es rank e (ap (λ (ps : List (List Entry)). slice_get (joined_entries ps) rank.place) (sym same) ∙ sym there)))

-- ---- merging
pub fronts : (es : List Entry) (xs ys : List Rank) (a b : Rank) → AreRanks es xs → AreRanks es ys → 0 < length xs → a ≡ slice_index_or xs 0 a → 0 < length ys → b ≡ slice_index_or ys 0 b
    → rank_cmp es a b ≡ heads_cmp (map (ranked_entry es) xs) (map (ranked_entry es) ys)
fronts es [] ys a b h k some is more it = absurd (omega (arith, some))
fronts es (x ∷ xs) [] a b h k some is more it = absurd (omega (arith, more))
fronts es (x ∷ xs) (y ∷ ys) a b h k some is more it = ap₂ (rank_cmp es) is it ∙ as_outcomes es x y (h 0 x some) (k 0 y more)

module _ (es more : List Entry) where
  before : (rank : Rank) → IsRank es rank → ranked_entry (es ++ more) rank ≡ ranked_entry es rank
  before rank h = get_or_append_left es more (record { outcome = []; choice = 0; order = [] }) rank.place h.within

  pub map_before : (ranks : List Rank) → AreRanks es ranks → map (ranked_entry (es ++ more)) ranks ≡ map (ranked_entry es) ranks
  map_before [] all = refl
  map_before (r ∷ rs) all = ap₂ (λ (e : Entry) (xs : List Entry). e ∷ xs) (before r (all 0 r (omega arith))) (map_before rs (λ k d lt. all (suc k) d (omega (arith, lt))))

  behind : (rank : Rank) → ranked_entry (es ++ more) (moved (length es) rank) ≡ ranked_entry more rank
  behind rank =
      let d : Entry = record { outcome = []; choice = 0; order = [] } in
      ap (λ (i : ℕ). slice_index_or (es ++ more) i d) (let e : rank.place + length es ≡ length es + rank.place = omega arith in e) ∙ get_or-append-add es more rank.place d

  rank_behind : (rank : Rank) → IsRank more rank → IsRank (es ++ more) (moved (length es) rank)
  rank_behind rank h = record {
    within = omega (arith, h.within, length-append es more);
    packed = subst (λ (e : Entry). IsPacked rank.small rank.large e.outcome) (sym (behind rank)) h.packed;
  }

  pub ranks_behind : (ranks : List Rank) → AreRanks more ranks → AreRanks (es ++ more) (map (moved (length es)) ranks)
  ranks_behind ranks all =
      All-map (IsRank (es ++ more)) (moved (length es)) ranks (λ k d lt. rank_behind (slice_index_or ranks k d) (all k d lt))

  pub map_behind : (ranks : List Rank) → map (ranked_entry (es ++ more)) (map (moved (length es)) ranks) ≡ map (ranked_entry more) ranks
  map_behind [] = refl
  map_behind (r ∷ rs) = ap₂ (λ (e : Entry) (xs : List Entry). e ∷ xs) (behind r) (map_behind rs)

-- the reports of two sets, with the parts of both
module _ (x y : Inside) (first : IsRanked x) (second : IsRanked y) (parts : List (List Entry)) (others : List Rank) (both : parts ≡ x.parts.items ++ y.parts.items) (behind : others ≡ map (moved x.count) y.ranks.items) where
  abbrev es : List Entry
  es = joined_entries x.parts.items

  abbrev more : List Entry
  more = joined_entries y.parts.items

  whole : joined_entries parts ≡ es ++ more
  whole = ap joined_entries both ∙ flat_map-append (λ (part : List Entry). part) x.parts.items y.parts.items

  theirs : others ≡ map (moved (length es)) y.ranks.items
  theirs = behind ∙ ap (λ (k : ℕ). map (moved k) y.ranks.items) first.count

  pub others_are : AreRanks (joined_entries parts) others
  others_are =
      let P : List Entry → Type 0 = λ zs. AreRanks zs others in
      subst P (sym whole) (subst (AreRanks (es ++ more)) (sym theirs) (ranks_behind es more y.ranks.items second.ranks))

  pub sum_is : x.count + y.count ≡ length (joined_entries parts)
  sum_is = omega (arith, first.count, second.count, length-append es more, ap (λ (zs : List Entry). length zs) whole)

  pub entries_are : (ranks : List Rank) → map (ranked_entry (joined_entries parts)) ranks ≡ merged (map (ranked_entry (joined_entries parts)) x.ranks.items) (map (ranked_entry (joined_entries parts)) others)
      → map (ranked_entry (joined_entries parts)) ranks ≡ merged (report_of x).entries (report_of y).entries
  entries_are ranks is =
      is
      ∙ ap₂ merged
      (ap (λ (zs : List Entry). map (ranked_entry zs) x.ranks.items) whole ∙ map_before es more x.ranks.items first.ranks)
      (ap₂ (λ (zs : List Entry) (rs : List Rank). map (ranked_entry zs) rs) whole theirs ∙ map_behind es more y.ranks.items)
