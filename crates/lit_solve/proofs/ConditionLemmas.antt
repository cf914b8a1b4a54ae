-- The value of a condition from the values of its members, one after the other.
use Rattle.lit_solve.proofs.Words.{◌<◌, AreSourcesIn, asks-All, asks-Any, Bool, Box, Cond, Condition, condition_of, Decided, false, get_or, Global, holds}
use Rattle.lit_solve.proofs.Words.{holds-All, holds-Any, IsAskedAt, IsUndecidedAt, length, List, list_all, list_all_at, list_any, list_any_at}
use Rattle.lit_solve.proofs.Words.{looks_at, member_asks, member_holds, names_of, outcome_by, subst, true, Vec, zip, ℕ, ◌∙◌, ◌≡◌}
use Rattle.lit_solve.proofs.Words.{ap, Is, IsDecided, not}
use Rattle.lit_syntax.specs.Syntax.{Not}
use Rattle.lit_solve.specs.Internal.ConditionValues.{opposite_of}
use Rattle.lit_syntax.specs.declared.syntax.Cond as code
use Rattle.lit_solve.specs.declared.decided.Decided.TheVariants.{Known, Open}

-- the registers of the outcome by these sources, with their values
abbrev pub values_of : Box → List ℕ → List ((ℕ × ℕ) × ℕ)
values_of box sources = zip (names_of box.test) (outcome_by box sources)

-- of an Any, before these members: none of the earlier ones is true, or the value is undecided
abbrev pub IsAnyLeft : Box → Condition → List Cond → Decided Bool → Type 0
IsAnyLeft box condition left (Known false) = (sources : List ℕ) → AreSourcesIn box sources → holds (values_of box sources) condition ≡ list_any (member_holds (values_of box sources)) left
IsAnyLeft box condition left (Known true) = ⊥
IsAnyLeft box condition left (Open k) = IsUndecidedAt box k × IsAskedAt box condition k

-- of an All: each of the earlier ones is true, or the value is undecided
abbrev pub IsAllLeft : Box → Condition → List Cond → Decided Bool → Type 0
IsAllLeft box condition left (Known true) = (sources : List ℕ) → AreSourcesIn box sources → holds (values_of box sources) condition ≡ list_all (member_holds (values_of box sources)) left
IsAllLeft box condition left (Known false) = ⊥
IsAllLeft box condition left (Open k) = IsUndecidedAt box k × IsAskedAt box condition k

-- ---- members that decide alone
module _ (values : List ((ℕ × ℕ) × ℕ)) (members : Vec Cond Global) (items : List Cond) (is : items ≡ members.items) (i : ℕ) (member : Cond) (inside : i < length items) (at : member ≡ get_or items i member) where
  its_member : (met : Bool) → holds values (condition_of member) ≡ met → holds values (condition_of (get_or members.items i member)) ≡ met
  its_member met h = subst (λ (cs : List Cond). holds values (condition_of (get_or cs i member)) ≡ met) is (subst (λ (c : Cond). holds values (condition_of c) ≡ met) at h)

  within : i < length members.items
  within = subst (λ (cs : List Cond). i < length cs) is inside

  pub met_by_one : holds values (condition_of member) ≡ true → holds values (condition_of (code.Any members)) ≡ true
  met_by_one h = holds-Any values members ∙ list_any_at (member_holds values) members.items i member within (its_member true h)

  pub unmet_by_one : holds values (condition_of member) ≡ false → holds values (condition_of (code.All members)) ≡ false
  unmet_by_one h = holds-All values members ∙ list_all_at (member_holds values) members.items i member within (its_member false h)

-- ---- a register that a member looks at, the whole condition looks at
module _ (members : Vec Cond Global) (items : List Cond) (is : items ≡ members.items) (i : ℕ) (member : Cond) (inside : i < length items) (at : member ≡ get_or items i member) (box : Box) (k : ℕ) (asked : IsAskedAt box (condition_of member) k) where
  there : i < length members.items
  there = subst (λ (cs : List Cond). i < length cs) is inside

  its_looks : looks_at (condition_of (get_or members.items i member)) asked.agent asked.register ≡ true
  its_looks =
      subst (λ (cs : List Cond). looks_at (condition_of (get_or cs i member)) asked.agent asked.register ≡ true) is
      (subst (λ (c : Cond). looks_at (condition_of c) asked.agent asked.register ≡ true) at asked.looks)

  pub asked_in_any : IsAskedAt box (condition_of (code.Any members)) k
  asked_in_any = record {
    agent = asked.agent;
    register = asked.register;
    looks = asks-Any asked.agent asked.register members
        ∙ list_any_at (member_asks asked.agent asked.register) members.items i member there its_looks;
    observes = asked.observes;
  }

  pub asked_in_all : IsAskedAt box (condition_of (code.All members)) k
  asked_in_all = record {
    agent = asked.agent;
    register = asked.register;
    looks = asks-All asked.agent asked.register members
        ∙ list_any_at (member_asks asked.agent asked.register) members.items i member there its_looks;
    observes = asked.observes;
  }

-- ---- the opposite
pub negated : (box : Box) (condition : Condition) (decided : Decided Bool) → IsDecided box condition decided
    → IsDecided box (Not condition) (opposite_of decided)
negated box condition (Known value) each = λ sources lie. ap not (each sources lie)
negated box condition (Open k) (undecided, asked) =
    (undecided, record { agent = asked.agent; register = asked.register; looks = asked.looks; observes = asked.observes })

pub differs : (box : Box) (agent reg value : ℕ) (decided : Decided Bool) → IsDecided box (Is agent reg true value) decided
    → IsDecided box (Is agent reg false value) (opposite_of decided)
differs box agent reg value (Known met) each = λ sources lie. ap not (each sources lie)
differs box agent reg value (Open k) (undecided, asked) =
    (undecided, record { agent = asked.agent; register = asked.register; looks = asked.looks; observes = asked.observes })
