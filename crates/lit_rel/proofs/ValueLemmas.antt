-- The bytes that a read takes from its sources, from the last to the first, and the number that they compose.
use Rattle.std.proofs.Common.{◌≡◌, ◌≢◌, ℕ, suc, zero, ◌+◌, ◌-◌, ◌*◌, ◌^◌, ◌<◌, ◌≤◌, ◌==◌, List, [], ◌∷◌, length, map, filter, drop, get_or, refl, sym, ap, ◌∙◌, subst, arith, Bool, true, false, cond, eq-eqb, Some}
use Rattle.std.proofs.lemmas.Bool.Decides.{nat_tests}
use Rattle.std.proofs.lemmas.List.{drop_more, drop-map, length-map}
use Rattle.std.proofs.Math.Nat.{pow-le-pow_right}
use Rattle.std.proofs.lemmas.Option.{none-some, same_Some}
use Rattle.std.specs.List.{zip, slice_get}
use Rattle.lit_rel.specs.declared.given.SourcedByte.{SourcedByte}
use Rattle.lit_paths.specs.declared.event.Event.{Event}
use Rattle.lit_paths.specs.Event.{event_at, payload_at}
use Rattle.lit_paths.specs.ByteReads.{byte_reads}
use Rattle.lit_rel.specs.Internal.Given.{AreFirstReads, read_of, sources_of}
use Rattle.lit_rel.specs.ReadsFrom.{composed, value_of}
use Rattle.lit_rel.proofs.OwnByteLemmas.{few_own}
use Rattle.lit_rel.proofs.SourceLemmas.{read_place}

-- the read and the byte, and then the source
abbrev pub sourced : SourcedByte → (ℕ × ℕ) × ℕ
sourced p = ((p.read, p.byte), p.source)

-- the bytes are the byte reads with their sources
zip-nil : (xs : List (ℕ × ℕ)) → zip {K = ℕ × ℕ} {X = ℕ} xs [] ≡ []
zip-nil [] = refl
zip-nil (x ∷ xs) = refl

zipped : (bytes : List SourcedByte) (reads : List (ℕ × ℕ)) → ((i : ℕ) (p : SourcedByte) → slice_get bytes i ≡ Some p → slice_get reads i ≡ Some (read_of p)) → map sourced bytes ≡ zip reads (sources_of bytes)
zipped [] reads each = sym (zip-nil reads)
zipped (p ∷ ps) [] each = absurd (none-some (read_of p) (each 0 p refl))
zipped (p ∷ ps) (q ∷ qs) each =
    ap (λ (r : ℕ × ℕ). (r, p.source) ∷ map sourced ps) (sym (same_Some q (read_of p) (each 0 p refl)))
    ∙ ap (λ (rest : List ((ℕ × ℕ) × ℕ)). (q, p.source) ∷ rest) (zipped ps qs (λ i x h. each (suc i) x h))

are_sourced : (events : List Event) (bytes : List SourcedByte) → AreFirstReads events bytes → map sourced bytes ≡ zip (byte_reads events) (sources_of bytes)
are_sourced events bytes first = zipped bytes (byte_reads events) (read_place events bytes first)

-- the bytes that read r takes from the sources of these bytes
abbrev pub stored : List Event → ℕ → List SourcedByte → List ℕ
stored events r bytes = map (λ p. payload_at (event_at events p.1) p.0.1) (filter (λ p. p.0.0 == r) (map sourced bytes))

-- one byte more in front
stored-cons_same : (events : List Event) (r : ℕ) (p : SourcedByte) (ps : List SourcedByte) → p.read ≡ r → stored events r (p ∷ ps) ≡ payload_at (event_at events p.source) p.byte ∷ stored events r ps
stored-cons_same events r p ps same =
    let is_test : (p.read == r) ≡ true = eq-eqb p.read r same in
    ap (λ (b : Bool). map {A = (ℕ × ℕ) × ℕ} {B = ℕ} (λ q. payload_at (event_at events q.1) q.0.1) (cond b (sourced p ∷ filter (λ (q : (ℕ × ℕ) × ℕ). q.0.0 == r) (map sourced ps)) (filter (λ (q : (ℕ × ℕ) × ℕ). q.0.0 == r) (map sourced ps)))) is_test

-- one of another read in front
stored-cons_other : (events : List Event) (r : ℕ) (p : SourcedByte) (ps : List SourcedByte) → p.read ≢ r → stored events r (p ∷ ps) ≡ stored events r ps
stored-cons_other events r p ps other =
    let no_test : (p.read == r) ≡ false = grind (arith, nat_tests) in
    ap (λ (b : Bool). map {A = (ℕ × ℕ) × ℕ} {B = ℕ} (λ q. payload_at (event_at events q.1) q.0.1) (cond b (sourced p ∷ filter (λ (q : (ℕ × ℕ) × ℕ). q.0.0 == r) (map sourced ps)) (filter (λ (q : (ℕ × ℕ) × ℕ). q.0.0 == r) (map sourced ps)))) no_test

-- none of the first bytes is of the read
pub stored-from : (events : List Event) (r : ℕ) (bytes : List SourcedByte) (d : SourcedByte) (place : ℕ) → place ≤ length bytes → ((k : ℕ) → k < place → (get_or bytes k d).read ≢ r) → stored events r (drop place bytes) ≡ stored events r bytes
stored-from events r bytes d zero within others = refl
stored-from events r bytes d (suc place) within others =
    let before : stored events r (drop place bytes) ≡ stored events r (drop (place + 1) bytes) = ap (stored events r) (drop_more bytes place d (omega arith)) ∙ stored-cons_other events r (get_or bytes place d) (drop (place + 1) bytes) (others place (omega arith)) in
    let next : place + 1 ≡ suc place = omega arith in
    sym (before ∙ ap (λ (n : ℕ). stored events r (drop n bytes)) next) ∙ stored-from events r bytes d place (omega arith) (λ k below. others k (omega (arith, below)))

-- the number so far, and that its bytes leave room for it
pub record IsComposed (value : ℕ) (bytes : List ℕ) : Type 0 where
  pub is : value ≡ composed bytes
  pub below : value < 256 ^ length bytes

module _ (events : List Event) (r : ℕ) (bytes : List SourcedByte) (place : ℕ) (d : SourcedByte) (within : place < length bytes) where
  pub IsComposed-more : (value byte : ℕ) → (get_or bytes place d).read ≡ r → byte ≡ payload_at (event_at events (get_or bytes place d).source) (get_or bytes place d).byte → byte < 256 → IsComposed value (stored events r (drop (place + 1) bytes)) → IsComposed (256 * value + byte) (stored events r (drop place bytes))
  IsComposed-more value byte same is small c =
      let rest = stored events r (drop (place + 1) bytes) in
      let e : stored events r (drop place bytes) ≡ byte ∷ rest =
      ap (stored events r) (drop_more bytes place d within) ∙ stored-cons_same events r (get_or bytes place d) (drop (place + 1) bytes) same ∙ ap (λ (b : ℕ). b ∷ rest) (sym is) in
      subst (λ (xs : List ℕ). IsComposed (256 * value + byte) xs) (sym e) (longer rest c)
    where
      longer : (rest : List ℕ) → IsComposed value rest → IsComposed (256 * value + byte) (byte ∷ rest)
      longer rest c =
          let v_is : value ≡ composed rest = c.is in
          let v_below : value < 256 ^ length rest = c.below in
          let power : 256 ^ suc (length rest) ≡ 256 * 256 ^ length rest = omega arith in
          record { is = omega arith; below = omega arith }

-- a front has no more bytes of the read than the whole
length-filter_drop : {X : Type 0} (test : X → Bool) (k : ℕ) (xs : List X) → length (filter test (drop k xs)) ≤ length (filter test xs)
length-filter_drop test zero xs = omega arith
length-filter_drop test (suc k) [] = omega arith
length-filter_drop test (suc k) (x ∷ xs) =
    let ih : length (filter test (drop k xs)) ≤ length (filter test xs) = length-filter_drop test k xs in
    elim (test x) as (λ b. length (filter test (drop k xs)) ≤ length (cond b (x ∷ filter test xs) (filter test xs))) [ true ↦ omega arith | false ↦ ih ]

-- how many bytes a read has at the most
length-zip_reads : (r : ℕ) (reads : List (ℕ × ℕ)) (sources : List ℕ) → length (filter {X = (ℕ × ℕ) × ℕ} (λ p. p.0.0 == r) (zip reads sources)) ≤ length (filter {X = ℕ × ℕ} (λ p. p.0 == r) reads)
length-zip_reads r [] sources = omega arith
length-zip_reads r (p ∷ reads) [] = omega arith
length-zip_reads r (p ∷ reads) (w ∷ sources) =
    let ih : length (filter {X = (ℕ × ℕ) × ℕ} (λ q. q.0.0 == r) (zip reads sources)) ≤ length (filter {X = ℕ × ℕ} (λ q. q.0 == r) reads) = length-zip_reads r reads sources in
    elim (p.0 == r) as (λ b. length (cond b ((p, w) ∷ filter {X = (ℕ × ℕ) × ℕ} (λ q. q.0.0 == r) (zip reads sources)) (filter (λ q. q.0.0 == r) (zip reads sources))) ≤ length (cond b (p ∷ filter {X = ℕ × ℕ} (λ q. q.0 == r) reads) (filter (λ q. q.0 == r) reads)))
    [ true ↦ omega arith | false ↦ ih ]

-- a read takes no more bytes than it has
pub length-stored : (events : List Event) (r : ℕ) (bytes : List SourcedByte) (k : ℕ) → AreFirstReads events bytes → length (stored events r (drop k bytes)) ≤ (event_at events r).size
length-stored events r bytes k first =
    let Few : List ((ℕ × ℕ) × ℕ) → ℕ = λ xs. length (filter {X = (ℕ × ℕ) × ℕ} (λ p. p.0.0 == r) xs) in
    let mapped : length (stored events r (drop k bytes)) ≡ Few (map sourced (drop k bytes)) = length-map (filter {X = (ℕ × ℕ) × ℕ} (λ p. p.0.0 == r) (map sourced (drop k bytes))) (λ p. payload_at (event_at events p.1) p.0.1) in
    let moved : Few (map sourced (drop k bytes)) ≡ Few (drop k (map sourced bytes)) = ap Few (sym (drop-map sourced k bytes)) in
    let dropped : Few (drop k (map sourced bytes)) ≤ Few (map sourced bytes) = length-filter_drop (λ p. p.0.0 == r) k (map sourced bytes) in
    let zipped : Few (map sourced bytes) ≡ Few (zip (byte_reads events) (sources_of bytes)) = ap Few (are_sourced events bytes first) in
    let reads : Few (zip (byte_reads events) (sources_of bytes)) ≤ length (filter {X = ℕ × ℕ} (λ p. p.0 == r) (byte_reads events)) = length-zip_reads r (byte_reads events) (sources_of bytes) in
    let few : length (filter {X = ℕ × ℕ} (λ p. p.0 == r) (byte_reads events)) ≤ (event_at events r).size = few_own events r in
    omega arith

-- so the number fits, with one byte more
pub fits_after : (events : List Event) (r : ℕ) (bytes : List SourcedByte) (place : ℕ) (d : SourcedByte) (value size : ℕ) → place < length bytes → (get_or bytes place d).read ≡ r → length (stored events r (drop place bytes)) ≤ size → size ≤ 4 → IsComposed value (stored events r (drop (place + 1) bytes)) → value < 256 ^ 3
fits_after events r bytes place d value size within same few four c =
    let rest = stored events r (drop (place + 1) bytes) in
    let e : length (stored events r (drop place bytes)) ≡ suc (length rest) =
    ap length (ap (stored events r) (drop_more bytes place d within) ∙ stored-cons_same events r (get_or bytes place d) (drop (place + 1) bytes) same) in
    let three : length rest ≤ 3 = omega arith in
    let power : 256 ^ length rest ≤ 256 ^ 3 = pow-le-pow_right {n = 256} (omega arith) three in
    let below : value < 256 ^ length rest = c.below in
    omega arith

pub value_of-stored : (events : List Event) (r : ℕ) (bytes : List SourcedByte) → AreFirstReads events bytes → composed (stored events r bytes) ≡ value_of events (sources_of bytes) r
value_of-stored events r bytes first =
    ap (λ (xs : List ((ℕ × ℕ) × ℕ)). composed (map (λ p. payload_at (event_at events p.1) p.0.1) (filter (λ p. p.0.0 == r) xs))) (are_sourced events bytes first)

-- the same from the last byte down
module _ (events : List Event) (r : ℕ) (bytes : List SourcedByte) (first : AreFirstReads events bytes) (place : ℕ) (d : SourcedByte) (some_left : 0 < place) (within : place ≤ length bytes) (value : ℕ) (c : IsComposed value (stored events r (drop place bytes))) (here : (get_or bytes (place - 1) d).read ≡ r) where
  at_last : IsComposed value (stored events r (drop (place - 1 + 1) bytes))
  at_last = let back : place ≡ place - 1 + 1 = omega arith in subst (λ (n : ℕ). IsComposed value (stored events r (drop n bytes))) back c

  pub value_small : (event_at events r).size ≤ 4 → value < 256 ^ 3
  value_small four = fits_after events r bytes (place - 1) d value (event_at events r).size (omega arith) here (length-stored events r bytes (place - 1) first) four at_last

  pub IsComposed-down : (byte : ℕ) → byte ≡ payload_at (event_at events (get_or bytes (place - 1) d).source) (get_or bytes (place - 1) d).byte → byte < 256 → IsComposed (256 * value + byte) (stored events r (drop (place - 1) bytes))
  IsComposed-down byte is_byte small = IsComposed-more events r bytes (place - 1) d (omega arith) value byte here is_byte small at_last
