-- What a relation says of a triple (w, r, v): whether it decides it, and which pair the triple forces.
use Rattle.std.specs.Prelude.{◌≡◌, ◌≢◌, ◌⊎◌, ℕ, ◌<◌}
use Rattle.lit_rel.specs.declared.between.Pair.{Pair}
use Rattle.lit_rel.specs.EventSet.{HasEvent}

-- where v is neither w nor r: r is before v, or v before w
abbrev pub IsDecided : (ℕ → ℕ → Type 0) → (w r v : ℕ) → Type 0
IsDecided before w r v = v ≢ w → v ≢ r → before r v ⊎ before v w

-- v is neither w nor r, and the relation puts neither r before v nor v before w
pub record IsUndecided (before : ℕ → ℕ → Type 0) (w r v : ℕ) : Type 0 where
  pub not_source : v ≢ w
  pub not_read : v ≢ r
  pub not_after : ¬ before r v
  pub not_earlier : ¬ before v w

-- the relation has what the triple forces
pub record HasForced (before : ℕ → ℕ → Type 0) (w r v : ℕ) : Type 0 where
  pub after : v ≢ w → v ≢ r → before w v → before r v
  pub earlier : v ≢ w → v ≢ r → before v r → before v w

-- the triple forces a before d, which the relation lacks: r before v, since w is before v; or v before w, since v is
-- before r
pub record Forces (before : ℕ → ℕ → Type 0) (w r v a d : ℕ) : Type 0 where
  pub not_source : v ≢ w
  pub not_read : v ≢ r
  pub new : ¬ before a d
  pub side : ((a ≡ r) × (d ≡ v) × before w v) ⊎ ((a ≡ v) × (d ≡ w) × before v r)

-- the relation decides every triple
abbrev pub AreDecided : (ℕ → ℕ → Type 0) → (ℕ → ℕ → ℕ → Type 0) → Type 0
AreDecided before forbidden = (w r v : ℕ) → forbidden w r v → IsDecided before w r v

-- the relation has what every triple forces
abbrev pub HasAllForced : (ℕ → ℕ → Type 0) → (ℕ → ℕ → ℕ → Type 0) → Type 0
HasAllForced before forbidden = (w r v : ℕ) → forbidden w r v → HasForced before w r v

-- some triple forces a before d, which the relation lacks
pub record IsForcedNext (before : ℕ → ℕ → Type 0) (forbidden : ℕ → ℕ → ℕ → Type 0) (a d : ℕ) : Type 0 where
  pub source : ℕ
  pub read : ℕ
  pub other : ℕ
  pub refused : forbidden source read other
  pub forces : Forces before source read other a d

-- v, below n, may not stand between the pair's source and read
pub record IsOtherOf (n : ℕ) (pair : Pair) (v : ℕ) : Type 0 where
  pub known : v < n
  pub marked : HasEvent pair.others v

-- some triple of the pair forces a before d, which the relation lacks
pub record IsForcedByPair (n : ℕ) (before : ℕ → ℕ → Type 0) (pair : Pair) (a d : ℕ) : Type 0 where
  pub other : ℕ
  pub is_other : IsOtherOf n pair other
  pub forces : Forces before pair.source pair.read other a d
