-- Parsing the marks of a condition, one after the other, with a stack of open groups.
use Rattle.std.specs.Prelude.{ℕ, zero, suc, ◌+◌, ◌≤◌, nat_le, if◌then◌else◌, List, [], ◌∷◌, Result, Ok, Err}
use Rattle.lit_read.specs.declared.fault.ReadKind.{ReadKind}
use Rattle.lit_read.specs.declared.fault.ReadKind.TheVariants.{Syntax, TooDeep}
use Rattle.lit_syntax.specs.declared.limits.TheConstants.{DEPTH_LIMIT, COMPARED_LIMIT}
use Rattle.lit_syntax.specs.Syntax.{Condition, Conditions, Any, All, Not, Is, NoMore, Also, Agent}
use Rattle.lit_syntax.specs.Written.{Comparison}
use Rattle.lit_read.specs.Spelling.{place_of}
use Rattle.lit_read.specs.Internal.Marks.{Mark, Bang, Opens, Closes, Joins, Parts, Compares}

-- The part of a parenthesized condition that is read so far: how many `!` and `(` are around it, the `!` before the next
-- operand, the conjunctions before the last `||`, and the operands behind it.
pub record Group : Type 0 where
  pub depth : ℕ
  pub nots : ℕ
  pub any : Conditions
  pub all : Conditions

-- the innermost open group, and the groups around it, the innermost first
pub record Groups : Type 0 where
  pub inner : Group
  pub outer : List Group

-- a comparison with the agent's number in place of its name
abbrev pub numbered : List Agent → Comparison → Condition
numbered agents c = Is (place_of c.agent agents) c.reg c.equal c.value

-- members with one more at the end
abbrev pub pushed : Conditions → Condition → Conditions
pushed NoMore c = Also c NoMore
pushed (Also d ds) c = Also d (pushed ds c)

abbrev pub negated : ℕ → Condition → Condition
negated zero c = c
negated (suc n) c = Not (negated n c)

-- a lone member is itself
abbrev pub all_of : Conditions → Condition
all_of NoMore = All NoMore
all_of (Also c NoMore) = c
all_of (Also c (Also d ds)) = All (Also c (Also d ds))

abbrev pub any_of : Conditions → Condition
any_of NoMore = Any NoMore
any_of (Also c NoMore) = c
any_of (Also c (Also d ds)) = Any (Also c (Also d ds))

-- a group with one more operand
abbrev pub with_operand : Group → Condition → Group
with_operand f c = record { depth = f.depth; nots = 0; any = f.any; all = pushed f.all (negated f.nots c) }

-- a group after `||`: its operands so far become a conjunction
abbrev pub after_or : Group → Group
after_or f = record { depth = f.depth; nots = f.nots; any = pushed f.any (all_of f.all); all = NoMore }

-- the condition of the whole group
abbrev pub asked : Group → Condition
asked f = any_of (pushed f.any (all_of f.all))

abbrev pub empty_group : ℕ → Group
empty_group depth = record { depth = depth; nots = 0; any = NoMore; all = NoMore }

abbrev pub begun : Groups
begun = record { inner = empty_group 0; outer = [] }

abbrev pub closed : Group → List Group → Result Groups ReadKind
closed f [] = Err Syntax
closed f (g ∷ gs) = Ok (record { inner = with_operand g (asked f); outer = gs })

unfoldable pub build_step : List Agent → Groups → Mark → Result Groups ReadKind
build_step agents s Bang =
    if nat_le DEPTH_LIMIT (s.inner.depth + s.inner.nots) then Err TooDeep
    else Ok (record {
      inner = record { depth = s.inner.depth; nots = s.inner.nots + 1; any = s.inner.any; all = s.inner.all };
      outer = s.outer;
    })
build_step agents s Opens =
    if nat_le DEPTH_LIMIT (s.inner.depth + s.inner.nots) then Err TooDeep
    else Ok (record { inner = empty_group (s.inner.depth + s.inner.nots + 1); outer = s.inner ∷ s.outer })
build_step agents s Closes = closed s.inner s.outer
build_step agents s Joins = Ok s
build_step agents s Parts = Ok (record { inner = after_or s.inner; outer = s.outer })
build_step agents s (Compares c) = Ok (record { inner = with_operand s.inner (numbered agents c); outer = s.outer })

abbrev pub and_then : {A B : Type 0} → Result A ReadKind → (A → Result B ReadKind) → Result B ReadKind
and_then (Ok x) f = f x
and_then (Err k) f = Err k

-- the condition that open groups and further marks spell
unfoldable pub build : List Agent → Groups → List Mark → Result Condition ReadKind
build agents s [] = Ok (asked s.inner)
build agents s (m ∷ ms) = and_then (build_step agents s m) (λ t. build agents t ms)

-- a mark's number is one that a register can hold
abbrev pub HasSmallNumber : Mark → Type 0
HasSmallNumber (Compares c) = c.value ≤ COMPARED_LIMIT
HasSmallNumber _ = Unit {0}
