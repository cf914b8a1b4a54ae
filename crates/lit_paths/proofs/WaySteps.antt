-- The ways to choose the sources of a combination's byte reads, one read more at a time.
use Rattle.std.proofs.Common.{◌≡◌, ℕ, zero, suc, ◌+◌, ◌*◌, ◌/◌, ◌%◌, ◌<◌, ◌≤◌, List, [], ◌∷◌, ◌++◌, length, map, take, drop, get_or, slice_get, Some, Option, option_map, unwrap_or, arith, refl, sym, ap, subst, ◌∙◌, mul_assoc, append_assoc, append-nil, length-append}
use Rattle.std.proofs.Math.Nat.{add_assoc, add-mul, div-lt_iff_lt-mul, mod-lt, mul-add-div_right, mul-add-mod_self_right}
use Rattle.std.proofs.lemmas.Nat.{div-add-mod'}
use Rattle.std.proofs.lemmas.List.{map_more, drop_more, drop_all, take_all, take_more}
use Rattle.std.proofs.lemmas.Option.{slice_get-get_or, slice_get_within, slice_get-map}
use Rattle.arrayvec.specs.ArrayVec.{ArrayVec}
use Rattle.lit_paths.specs.declared.event.Event.{Event}
use Rattle.lit_paths.specs.declared.byte_reads.ByteRead.{ByteRead}
use Rattle.lit_paths.specs.ByteReads.{byte_reads, pair_of}
use Rattle.lit_paths.specs.Choice.{product, candidates_of, sources_of}
use Rattle.lit_paths.specs.Internal.CandidateLists.{candidates_for, candidate_lists, ways_after}
use Rattle.lit_paths.proofs.Products.{length-product, next_places, next_positive, factors-positive, product-known}
use Rattle.lit_paths.proofs.Digits.{later_ways, ways_split, digit, small_mod}

-- ---- the lists are those of the definition
pub candidate_lists-are : (events : List Event) (reads : List ByteRead) → map pair_of reads ≡ byte_reads events → candidate_lists events reads ≡ map (candidates_of events) (byte_reads events)
candidate_lists-are events reads same = maps reads ∙ ap (map (candidates_of events)) same
  where
    maps : (rs : List ByteRead) → candidate_lists events rs ≡ map (candidates_of events) (map pair_of rs)
    maps [] = refl
    maps (r ∷ rs) = ap (λ ws. candidates_of events (pair_of r) ∷ ws) (maps rs)

pub candidate_lists-known : (events : List Event) (reads : List ByteRead) → map pair_of reads ≡ byte_reads events → product (candidate_lists events reads) ≡ sources_of events
candidate_lists-known events reads same = ap (λ (ws : List (List ℕ)). product ws) (candidate_lists-are events reads same)

-- ---- forming them
pub record AreFormed (events : List Event) (reads : List ByteRead) (i : ℕ) (candidates : List (List ℕ)) (later : List ℕ) (left : ℕ) : Type 0 where
  pub formed : candidates ≡ candidate_lists events (take i reads)
  pub behind : later ++ ways_after (candidate_lists events (drop i reads)) ≡ ways_after (candidate_lists events reads)
  pub left_is : left ≡ length (product (candidate_lists events (drop i reads)))
  pub some : 1 ≤ left
  pub counted : length later ≡ i

pub formed_none : (events : List Event) (reads : List ByteRead) (total : ℕ) → total ≡ length (product (candidate_lists events reads)) → 1 ≤ total → AreFormed events reads 0 [] [] total
formed_none events reads total whole some = record { formed = refl; behind = refl; left_is = whole; some = some; counted = refl }

left_split : (events : List Event) (reads : List ByteRead) (i : ℕ) (d : ByteRead) → i < length reads
    → candidate_lists events (drop i reads) ≡ candidates_for events (get_or reads i d) ∷ candidate_lists events (drop (i + 1) reads)
left_split events reads i d inside = ap (candidate_lists events) (drop_more reads i d inside)

pub left_product : (events : List Event) (reads : List ByteRead) (i : ℕ) (d : ByteRead) (left : ℕ) → i < length reads → left ≡ length (product (candidate_lists events (drop i reads)))
    → left ≡ length (candidates_for events (get_or reads i d)) * length (product (candidate_lists events (drop (i + 1) reads)))
left_product events reads i d left inside is =
    is ∙ ap (λ ws. length (product ws)) (left_split events reads i d inside) ∙ length-product (candidates_for events (get_or reads i d)) (candidate_lists events (drop (i + 1) reads))

pub some_way : (events : List Event) (reads : List ByteRead) (i : ℕ) (d : ByteRead) (candidates : List (List ℕ)) (later : List ℕ) (left count : ℕ) → i < length reads
    → count ≡ length (candidates_for events (get_or reads i d)) → AreFormed events reads i candidates later left → 0 < count
some_way events reads i d candidates later left count inside counted formed =
    let split = left_product events reads i d left inside formed.left_is in
    omega (arith, counted, (factors-positive (length (candidates_for events (get_or reads i d))) (length (product (candidate_lists events (drop (i + 1) reads)))) 0 (omega (arith, split, formed.some))).0)

pub formed_more : (events : List Event) (reads : List ByteRead) (i : ℕ) (d : ByteRead) (candidates more : List (List ℕ)) (later longer : List ℕ) (left count : ℕ) → i < length reads
    → count ≡ length (candidates_for events (get_or reads i d)) → more ≡ candidates ++ candidates_for events (get_or reads i d) ∷ [] → longer ≡ later ++ (left / count) ∷ []
    → AreFormed events reads i candidates later left → AreFormed events reads (i + 1) more longer (left / count)
formed_more events reads i d candidates more later longer left count inside counted pushed put before =
    let rest : ℕ = length (product (candidate_lists events (drop (i + 1) reads))) in
    let split : left ≡ count * rest = left_product events reads i d left inside before.left_is ∙ ap (λ n. n * rest) (sym counted) in
    let within : 0 < left = omega (arith, before.some) in
    let next : left / count ≡ rest = next_places left count rest 0 split within in
    record {
      formed = pushed ∙ ap (λ (ws : List (List ℕ)). ws ++ candidates_for events (get_or reads i d) ∷ []) before.formed ∙ sym (map_more (candidates_for events) reads i d inside);
      behind = ap (λ (ls : List ℕ). ls ++ ways_after (candidate_lists events (drop (i + 1) reads))) put
          ∙ append_assoc later ((left / count) ∷ []) (ways_after (candidate_lists events (drop (i + 1) reads)))
          ∙ ap (λ n. later ++ n ∷ ways_after (candidate_lists events (drop (i + 1) reads))) next
          ∙ ap (λ (ws : List (List ℕ)). later ++ ways_after ws) (sym (left_split events reads i d inside)) ∙ before.behind;
      left_is = next;
      some = omega (arith, next_positive left count rest 0 split within);
      counted = omega (arith, ap (λ ls. length ls) put, length-append later ((left / count) ∷ []), before.counted);
    }

pub formed_all : (events : List Event) (reads : List ByteRead) (i : ℕ) (candidates : List (List ℕ)) (later : List ℕ) (left : ℕ) → length reads ≤ i
    → AreFormed events reads i candidates later left → candidates ≡ candidate_lists events reads
formed_all events reads i candidates later left past is = is.formed ∙ ap (candidate_lists events) (take_all i reads past)

pub behind_all : (events : List Event) (reads : List ByteRead) (i : ℕ) (candidates : List (List ℕ)) (later : List ℕ) (left : ℕ) → length reads ≤ i
    → AreFormed events reads i candidates later left → later ≡ ways_after (candidate_lists events reads)
behind_all events reads i candidates later left past is =
    sym (append-nil later) ∙ ap (λ (rs : List ByteRead). later ++ ways_after (candidate_lists events rs)) (sym (drop_all i reads past)) ∙ is.behind

-- ---- taking the sources of a choice
pub ways_after-at : {A : Type 0} (xss : List (List A)) (i d : ℕ) → i < length xss → get_or (ways_after xss) i d ≡ later_ways xss i
ways_after-at [] i d inside = absurd (omega (arith, inside))
ways_after-at (xs ∷ rest) zero d inside = refl
ways_after-at (xs ∷ rest) (suc i) d inside = ways_after-at rest i d (omega (arith, inside))

pub length-ways_after : {A : Type 0} (xss : List (List A)) → length (ways_after xss) ≡ length xss
length-ways_after [] = refl
length-ways_after (xs ∷ rest) = ap suc (length-ways_after rest)

-- the choice of members with a number
abbrev pub member_at : List (List ℕ) → ℕ → List ℕ
member_at xss n = get_or (product xss) n []

pub member_more : (xss : List (List ℕ)) (n i w : ℕ) (sources more xs : List ℕ) (later : ℕ) → n < length (product xss) → slice_get xss i ≡ Some xs → later ≡ later_ways xss i
    → slice_get xs (n / later % length xs) ≡ Some w → sources ≡ take i (member_at xss n) → more ≡ sources ++ w ∷ [] → more ≡ take (i + 1) (member_at xss n)
member_more xss n i w sources more xs later known here behind picked taken pushed =
    let whole : List ℕ = member_at xss n in
    let at : slice_get whole i ≡ Some w =
    digit xss n i whole xs (slice_get-get_or (product xss) n [] known) here ∙ ap (λ l. slice_get xs (n / l % length xs)) (sym behind) ∙ picked in
    let inside : i < length whole = slice_get_within whole i w at in
    let same : Some (get_or whole i 0) ≡ Some w = sym (slice_get-get_or whole i 0 inside) ∙ at in
    let value : get_or whole i 0 ≡ w = ap (λ (o : Option ℕ). unwrap_or o 0) same in
    pushed ∙ ap (λ (ws : List ℕ). ws ++ w ∷ []) taken ∙ ap (λ v. take i whole ++ v ∷ []) (sym value) ∙ sym (take_more whole i 0 inside)

pub member_all : (xss : List (List ℕ)) (n i : ℕ) (sources : List ℕ) → n < length (product xss) → length xss ≤ i → sources ≡ take i (member_at xss n)
    → slice_get (product xss) n ≡ Some sources
member_all xss n i sources known past taken =
    let at = slice_get-get_or (product xss) n [] known in
    let long = (product-known xss n (member_at xss n) at).one_each in
    at ∙ ap (λ ws. Some ws) (sym (taken ∙ take_all i (member_at xss n) (omega (arith, long, past))))

-- what is left of a choice's number after the digits of the lists before one
abbrev IsLeftOf : ℕ → ℕ → ℕ → Type 0
IsLeftOf n ways left = (taken : ℕ) × (n ≡ taken * ways + left) × (left < ways)

abbrev pub IsLeft : List (List ℕ) → ℕ → ℕ → ℕ → Type 0
IsLeft xss n i left = IsLeftOf n (length (product (drop i xss))) left

pub left_first : (xss : List (List ℕ)) (n : ℕ) → n < length (product xss) → IsLeft xss n 0 n
left_first xss n known = (0, omega arith, known)

module _ (xss : List (List ℕ)) (n i left later : ℕ) (xs : List ℕ) (is : IsLeft xss n i left) (here : slice_get xss i ≡ Some xs) (behind : later ≡ later_ways xss i) where
  split : length (product (drop i xss)) ≡ length xs * later
  split =
      let inside : i < length xss = slice_get_within xss i xs here in
      let at : get_or xss i [] ≡ xs = ap (λ (o : Option (List ℕ)). unwrap_or o []) (sym (slice_get-get_or xss i [] inside) ∙ here) in
      let next : i + 1 ≡ suc i = omega arith in
      ap (λ ws. length (product ws)) (drop_more xss i [] inside) ∙ length-product (get_or xss i []) (drop (i + 1) xss)
      ∙ ap (λ zs. length zs * length (product (drop (i + 1) xss))) at ∙ ap (λ k. length xs * length (product (drop k xss))) next ∙ ap (λ k. length xs * k) (sym behind)

  some : 0 < later
  some = (factors-positive (length xs) later left (omega (arith, is.2, split))).1

  pub index_within : left / later < length xs
  index_within = (div-lt_iff_lt-mul some).1 (omega (arith, is.2, split))

  pub index_is : n / later % length xs ≡ left / later
  index_is =
      let far : n ≡ (is.0 * length xs) * later + left = is.1 ∙ ap (λ k. is.0 * k + left) split ∙ ap (λ k. k + left) (sym (mul_assoc is.0 (length xs) later)) in
      ap (λ k. k / later % length xs) far ∙ ap (λ k. k % length xs) (mul-add-div_right some (is.0 * length xs) left) ∙ mul-add-mod_self_right is.0 (length xs) (left / later)
      ∙ small_mod (left / later) (length xs) index_within

  pub left_next : IsLeft xss n (i + 1) (left % later)
  left_next =
      let next : i + 1 ≡ suc i = omega arith in
      let ways : later ≡ length (product (drop (i + 1) xss)) = behind ∙ ap (λ k. length (product (drop k xss))) (sym next) in
      let digits : left / later * later + left % later ≡ left = div-add-mod' left later in
      let whole : n ≡ (is.0 * length xs + left / later) * later + left % later =
      is.1 ∙ ap (λ k. is.0 * k + left) split ∙ ap (λ k. k + left) (sym (mul_assoc is.0 (length xs) later)) ∙ ap (λ k. is.0 * length xs * later + k) (sym digits)
      ∙ sym (add_assoc (is.0 * length xs * later) (left / later * later) (left % later)) ∙ ap (λ k. k + left % later) (sym (add-mul (is.0 * length xs) (left / later) later)) in
      subst (λ k. IsLeftOf n k (left % later)) ways (is.0 * length xs + left / later, whole, mod-lt left some)

-- ---- of the saved lists
abbrev pub lists_of : List (ArrayVec ℕ) → List (List ℕ)
lists_of lists = map (λ list. list.items) lists

-- one of the saved lists
pub record IsWay (lists : List (ArrayVec ℕ)) (later : List ℕ) (i : ℕ) (xs : List ℕ) : Type 0 where
  pub here : slice_get (lists_of lists) i ≡ Some xs
  pub behind : get_or later i 0 ≡ later_ways (lists_of lists) i
  pub some : 1 ≤ length xs
  pub later_some : 1 ≤ get_or later i 0
  pub inside : i < length later

pub way_at : (lists : List (ArrayVec ℕ)) (later : List ℕ) (ways : List (List ℕ)) (place i : ℕ) (v : ArrayVec ℕ) (xs : List ℕ) → lists_of lists ≡ ways → later ≡ ways_after ways
    → place < length (product ways) → i < length lists → v ≡ get_or lists i v → xs ≡ v.items → IsWay lists later i xs
way_at lists later ways place i v xs same saved known inside at is =
    let all : List (List ℕ) = lists_of lists in
    let there : slice_get all i ≡ Some xs =
    slice_get-map (λ (l : ArrayVec ℕ). l.items) lists i ∙ ap (λ (o : Option (ArrayVec ℕ)). option_map (λ l. l.items) o) (slice_get-get_or lists i v inside)
    ∙ ap (λ (l : ArrayVec ℕ). Some l.items) (sym at) ∙ ap (λ ys. Some ys) (sym is) in
    let within : i < length all = slice_get_within all i xs there in
    let afters : later ≡ ways_after all = saved ∙ ap (λ (ws : List (List ℕ)). ways_after ws) (sym same) in
    let behind : get_or later i 0 ≡ later_ways all i = ap (λ ls. get_or ls i 0) afters ∙ ways_after-at all i 0 within in
    let split = ways_split all i xs there in
    let enough : place < split.0 * (length xs * later_ways all i) = omega (arith, known, ap (λ (ws : List (List ℕ)). length (product ws)) same, split.1) in
    let first : 0 < length xs * later_ways all i = (factors-positive split.0 (length xs * later_ways all i) place enough).1 in
    let both = factors-positive (length xs) (later_ways all i) 0 first in
    record {
      here = there;
      behind = behind;
      some = omega (arith, both.0);
      later_some = omega (arith, behind, both.1);
      inside = omega (arith, ap (λ ls. length ls) afters, length-ways_after all, within);
    }
