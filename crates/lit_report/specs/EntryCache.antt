-- The cache of what an entry can share with the one before.
use Rattle.std.specs.Prelude.{ℕ, List, [], ◌∷◌, ◌++◌, codes, drop, length}
use Rattle.std.specs.Fmt.{decimal}
use Rattle.lit_syntax.specs.Syntax.{Litmus, agent_of}
use Rattle.lit_paths.specs.declared.event.Event.{Event}
use Rattle.lit_paths.specs.Outcome.{names_of}
use Rattle.lit_paths.specs.Plan.{events_in}
use Rattle.lit_report.specs.declared.entry_cache.EntryCache.{EntryCache}
use Rattle.lit_report.specs.declared.entry_cache.CachedOutcome.{CachedOutcome}
use Rattle.lit_report.specs.declared.entry_cache.CachedOrder.{CachedOrder}
use Rattle.lit_report.specs.EntryText.{line, names_text, registers_text}
use Rattle.lit_report.specs.CachedText.{HoldsText}
use Rattle.lit_report.specs.CachedLines.{HoldsLines}
use Rattle.lit_report.specs.ChoiceSources.{HoldsSources}

-- a register of an outcome up to its value
abbrev pub register_head : Litmus → ℕ × ℕ → List ℕ
register_head t name = codes " " ++ (agent_of t name.0).name ++ codes ".r" ++ decimal name.1 ++ codes "="

-- the first of these registers up to its value, if there is one
abbrev pub first_head : Litmus → List (ℕ × ℕ) → List ℕ
first_head t [] = []
first_head t (name ∷ names) = register_head t name

-- the first of these values, if there is one
abbrev pub first_value : List ℕ → List ℕ
first_value [] = []
first_value (value ∷ values) = decimal value

-- the line of an outcome without its end, by the values of the first registers
abbrev pub outcome_text : Litmus → List (ℕ × ℕ) → List ℕ → List ℕ
outcome_text t names values = codes "outcome" ++ registers_text t names values

-- the same, up to the value of the next register
abbrev pub outcome_head : Litmus → List (ℕ × ℕ) → List ℕ → List ℕ
outcome_head t names values = outcome_text t names values ++ first_head t (drop (length values) names)

abbrev pub order_line : Litmus → List Event → List ℕ → List ℕ
order_line t events order = line (codes "  order" ++ names_text t events order)

-- the cached text is that of the values, or the order, that are saved with it
abbrev pub HoldsOutcome : Litmus → List (ℕ × ℕ) → CachedOutcome → Type 0
HoldsOutcome t names cached = HoldsText cached.text (outcome_head t names cached.values.now)

abbrev pub HoldsOrder : Litmus → List Event → CachedOrder → Type 0
HoldsOrder t events cached = HoldsText cached.text (order_line t events cached.order.now)

-- the cached sources and texts are of this test, and of this combination of its paths
pub record IsCacheOf (t : Litmus) (c : ℕ) (cache : EntryCache) : Type 0 where
  pub sources : HoldsSources t c cache.sources
  pub outcome : HoldsOutcome t (names_of t) cache.outcome
  pub lines : HoldsLines t (events_in t c) cache.lines
  pub order : HoldsOrder t (events_in t c) cache.order
