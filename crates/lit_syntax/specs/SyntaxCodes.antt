-- A code for each tree of `Syntax`, by which a proof tells two tests apart. It says nothing of what a test means.
use Rattle.std.specs.Prelude.{◌≡◌, ℕ, zero, suc, Bool, true, false, List}
use Rattle.std.proofs.Common.{refl, ap, ◌∙◌}
use Rattle.std.specs.Coded.{Coded, code_by, coded×, coded_ℕ, coded_list}
use base.Stored.{Gv, gnil, gnum, gcons, num}
use Rattle.lit_syntax.specs.Syntax.{Window, Uint8, Uint16, Uint32, DataView8, DataView16, DataView32}
use Rattle.lit_syntax.specs.Syntax.{Statement, Statements, Load, Store, Exchange, CompareExchange, If, End, Then}
use Rattle.lit_syntax.specs.Syntax.{Condition, Conditions, Any, All, Not, Is, NoMore, Also}
use Rattle.lit_syntax.specs.Syntax.{Agent, Litmus}

abbrev pub coded_tree : Coded Gv
coded_tree = record { code = λ x. x; inj = λ x y p. p }

abbrev pub first : Gv → Gv
first gnil = gnil
first (gnum n) = gnil
first (gcons a b) = a

abbrev pub rest : Gv → Gv
rest gnil = gnil
rest (gnum n) = gnil
rest (gcons a b) = b

abbrev pub bool_tree : Bool → Gv
bool_tree true = gnum 1
bool_tree false = gnum 0

abbrev pub bool_at : Gv → Bool
bool_at (gnum (suc n)) = true
bool_at _ = false

pub bool_back : (b : Bool) → bool_at (bool_tree b) ≡ b
bool_back true = refl
bool_back false = refl

abbrev pub window_tree : Window → Gv
window_tree Uint8 = gnum 0
window_tree Uint16 = gnum 1
window_tree Uint32 = gnum 2
window_tree DataView8 = gnum 3
window_tree DataView16 = gnum 4
window_tree DataView32 = gnum 5

abbrev pub window_number : ℕ → Window
window_number zero = Uint8
window_number (suc zero) = Uint16
window_number (suc (suc zero)) = Uint32
window_number (suc (suc (suc zero))) = DataView8
window_number (suc (suc (suc (suc zero)))) = DataView16
window_number (suc (suc (suc (suc (suc n))))) = DataView32

abbrev pub window_at : Gv → Window
window_at g = window_number (num g)

pub window_back : (w : Window) → window_at (window_tree w) ≡ w
window_back Uint8 = refl
window_back Uint16 = refl
window_back Uint32 = refl
window_back DataView8 = refl
window_back DataView16 = refl
window_back DataView32 = refl

-- a statement's tag and fields, and then its two parts
abbrev mutual
  pub statement_tree : Statement → Gv
  statement_tree (Load r w i a) =
      gcons (gcons (gnum 0) (gcons (gnum r) (gcons (window_tree w) (gcons (gnum i) (bool_tree a))))) (gcons gnil gnil)
  statement_tree (Store w i v a) =
      gcons (gcons (gnum 1) (gcons (window_tree w) (gcons (gnum i) (gcons (gnum v) (bool_tree a))))) (gcons gnil gnil)
  statement_tree (Exchange r w i v) =
      gcons (gcons (gnum 2) (gcons (gnum r) (gcons (window_tree w) (gcons (gnum i) (gnum v))))) (gcons gnil gnil)
  statement_tree (CompareExchange r w i e v) =
      gcons (gcons (gnum 3) (gcons (gnum r) (gcons (window_tree w) (gcons (gnum i) (gcons (gnum e) (gnum v)))))) (gcons gnil gnil)
  statement_tree (If r e v b o) =
      gcons (gcons (gnum 4) (gcons (gnum r) (gcons (bool_tree e) (gnum v)))) (gcons (statements_tree b) (statements_tree o))

  pub statements_tree : Statements → Gv
  statements_tree End = gnil
  statements_tree (Then s ss) = gcons (statement_tree s) (statements_tree ss)

abbrev pub statement_from : ℕ → Gv → Statements → Statements → Statement
statement_from zero f b o = Load (num (first f)) (window_at (first (rest f))) (num (first (rest (rest f)))) (bool_at (rest (rest (rest f))))
statement_from (suc zero) f b o =
    Store (window_at (first f)) (num (first (rest f))) (num (first (rest (rest f)))) (bool_at (rest (rest (rest f))))
statement_from (suc (suc zero)) f b o =
    Exchange (num (first f)) (window_at (first (rest f))) (num (first (rest (rest f)))) (num (rest (rest (rest f))))
statement_from (suc (suc (suc zero))) f b o =
    CompareExchange (num (first f)) (window_at (first (rest f))) (num (first (rest (rest f)))) (num (first (rest (rest (rest f)))))
    (num (rest (rest (rest (rest f)))))
statement_from (suc (suc (suc (suc n)))) f b o = If (num (first f)) (bool_at (first (rest f))) (num (rest (rest f))) b o

abbrev mutual
  pub statement_at : Gv → Statement
  statement_at (gcons h (gcons b o)) = statement_from (num (first h)) (rest h) (statements_at b) (statements_at o)
  statement_at _ = Load 0 Uint8 0 false

  pub statements_at : Gv → Statements
  statements_at (gcons s ss) = Then (statement_at s) (statements_at ss)
  statements_at _ = End

mutual
  pub statement_back : (s : Statement) → statement_at (statement_tree s) ≡ s
  statement_back (Load r w i a) =
      ap (λ (x : Window). Load r x i (bool_at (bool_tree a))) (window_back w) ∙ ap (λ (x : Bool). Load r w i x) (bool_back a)
  statement_back (Store w i v a) =
      ap (λ (x : Window). Store x i v (bool_at (bool_tree a))) (window_back w) ∙ ap (λ (x : Bool). Store w i v x) (bool_back a)
  statement_back (Exchange r w i v) = ap (λ (x : Window). Exchange r x i v) (window_back w)
  statement_back (CompareExchange r w i e v) = ap (λ (x : Window). CompareExchange r x i e v) (window_back w)
  statement_back (If r e v b o) =
      ap (λ (x : Bool). If r x v (statements_at (statements_tree b)) (statements_at (statements_tree o))) (bool_back e)
      ∙ ap (λ (x : Statements). If r e v x (statements_at (statements_tree o))) (statements_back b)
      ∙ ap (λ (x : Statements). If r e v b x) (statements_back o)

  pub statements_back : (ss : Statements) → statements_at (statements_tree ss) ≡ ss
  statements_back End = refl
  statements_back (Then s ss) =
      ap (λ (x : Statement). Then x (statements_at (statements_tree ss))) (statement_back s)
      ∙ ap (λ (x : Statements). Then s x) (statements_back ss)

-- a condition's tag and numbers, and then its members
abbrev mutual
  pub condition_tree : Condition → Gv
  condition_tree (Any cs) = gcons (gcons (gnum 0) gnil) (gcons (conditions_tree cs) gnil)
  condition_tree (All cs) = gcons (gcons (gnum 1) gnil) (gcons (conditions_tree cs) gnil)
  condition_tree (Not c) = gcons (gcons (gnum 2) gnil) (gcons gnil (condition_tree c))
  condition_tree (Is a r e v) = gcons (gcons (gnum 3) (gcons (gnum a) (gcons (gnum r) (gcons (bool_tree e) (gnum v))))) gnil

  pub conditions_tree : Conditions → Gv
  conditions_tree NoMore = gnil
  conditions_tree (Also c cs) = gcons (condition_tree c) (conditions_tree cs)

abbrev pub condition_from : ℕ → Conditions → Condition → Condition
condition_from zero cs c = Any cs
condition_from (suc zero) cs c = All cs
condition_from (suc (suc n)) cs c = Not c

abbrev pub comparison_from : Gv → Condition
comparison_from f = Is (num (first f)) (num (first (rest f))) (bool_at (first (rest (rest f)))) (num (rest (rest (rest f))))

abbrev mutual
  pub condition_at : Gv → Condition
  condition_at (gcons h (gcons cs c)) = condition_from (num (first h)) (conditions_at cs) (condition_at c)
  condition_at (gcons h gnil) = comparison_from (rest h)
  condition_at (gcons h (gnum n)) = comparison_from (rest h)
  condition_at gnil = Is 0 0 false 0
  condition_at (gnum n) = Is 0 0 false 0

  pub conditions_at : Gv → Conditions
  conditions_at (gcons c cs) = Also (condition_at c) (conditions_at cs)
  conditions_at gnil = NoMore
  conditions_at (gnum n) = NoMore

mutual
  pub condition_back : (c : Condition) → condition_at (condition_tree c) ≡ c
  condition_back (Any cs) = ap (λ (x : Conditions). Any x) (conditions_back cs)
  condition_back (All cs) = ap (λ (x : Conditions). All x) (conditions_back cs)
  condition_back (Not c) = ap (λ (x : Condition). Not x) (condition_back c)
  condition_back (Is a r e v) = ap (λ (x : Bool). Is a r x v) (bool_back e)

  pub conditions_back : (cs : Conditions) → conditions_at (conditions_tree cs) ≡ cs
  conditions_back NoMore = refl
  conditions_back (Also c cs) =
      ap (λ (x : Condition). Also x (conditions_at (conditions_tree cs))) (condition_back c)
      ∙ ap (λ (x : Conditions). Also c x) (conditions_back cs)

abbrev pub coded_statements : Coded Statements
coded_statements = code_by Gv coded_tree statements_tree statements_at statements_back

abbrev pub coded_condition : Coded Condition
coded_condition = code_by Gv coded_tree condition_tree condition_at condition_back

abbrev pub coded_agent : Coded Agent
coded_agent =
    code_by (List ℕ × Statements) (coded× (coded_list coded_ℕ) coded_statements) (λ a. (a.name, a.body))
    (λ p. record { name = p.0; body = p.1 }) (λ _. refl)

abbrev pub coded_litmus : Coded Litmus
coded_litmus =
    code_by
    ((List ℕ × ℕ) × (List Agent × Condition))
    (coded× (coded× (coded_list coded_ℕ) coded_ℕ) (coded× (coded_list coded_agent) coded_condition))
    (λ t. ((t.name, t.bytes), (t.agents, t.check)))
    (λ p. record { name = p.0.0; bytes = p.0.1; agents = p.1.0; check = p.1.1 })
    (λ _. refl)
