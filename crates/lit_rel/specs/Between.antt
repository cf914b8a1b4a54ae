-- Forbidden triples of events, stored as a set for each pair of a source and its read (this project's own).
use Rattle.std.specs.Prelude.{◌≡◌, ℕ, ◌<◌, List, Some, slice_get}
use Rattle.std.proofs.Common.{refl}
use Rattle.std.specs.Coded.{Coded, code_by, coded×, coded_ℕ, coded_list}
use Rattle.lit_rel.specs.declared.between.Pair.{Pair}
use Rattle.lit_rel.specs.EventSet.{HasEvent}

-- the number of events, and the pairs, each with the events that may not stand between the two
pub record BetweenModel : Type 0 where
  pub len : ℕ
  pub pairs : List Pair

-- codes, by which a proof tells two values apart
abbrev pub coded_pair : Coded Pair
coded_pair =
    code_by (ℕ × (ℕ × ℕ)) (coded× coded_ℕ (coded× coded_ℕ coded_ℕ)) (λ p. (p.source, (p.read, p.others.bits)))
    (λ x. record { source = x.0; read = x.1.0; others = record { bits = x.1.1 } }) (λ _. refl)

abbrev pub coded_between : Coded BetweenModel
coded_between =
    code_by (ℕ × List Pair) (coded× coded_ℕ (coded_list coded_pair)) (λ b. (b.len, b.pairs)) (λ x. record { len = x.0; pairs = x.1 })
    (λ _. refl)

-- the pair is of this source and this read
pub record IsPairOf (w r : ℕ) (pair : Pair) : Type 0 where
  pub source : pair.source ≡ w
  pub read : pair.read ≡ r

-- pairs of events below n, each source and read once
pub record ArePairsOf (n : ℕ) (pairs : List Pair) : Type 0 where
  pub source_known : (k : ℕ) (pair : Pair) → slice_get pairs k ≡ Some pair → pair.source < n
  pub read_known : (k : ℕ) (pair : Pair) → slice_get pairs k ≡ Some pair → pair.read < n
  pub once : (j k : ℕ) (p q : Pair) → slice_get pairs j ≡ Some p → slice_get pairs k ≡ Some q → IsPairOf q.source q.read p → j ≡ k

-- the triple (w, r, v), numbers below its length, is forbidden: v may not stand after w and before r
pub record Forbids (between : BetweenModel) (w r v : ℕ) : Type 0 where
  pub source_known : w < between.len
  pub read_known : r < between.len
  pub other_known : v < between.len
  pub place : ℕ
  pub pair : Pair
  pub at_place : slice_get between.pairs place ≡ Some pair
  pub is_pair : IsPairOf w r pair
  pub marked : HasEvent pair.others v
