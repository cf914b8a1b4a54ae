-- The draft's parts, and what they represent.
use Rattle.std.proofs.Common.{◌≡◌, ℕ, suc, ◌+◌, ◌/◌, ◌^◌, ◌<◌, ◌≤◌, Bool, true, false, cond, ◌||◌, List, [], ◌∷◌, ◌++◌, Some, None, refl, ap, sym, ◌∙◌, arith, is_some, not, ltb, length, ◌≢◌}
use Rattle.std.specs.Prelude.{String, string_bytes}
use Rattle.std.specs.Global.{Vec, Global}
use Rattle.std.specs.List.{list_any, prefix_len, position, AllByRecursion}
use Rattle.std.proofs.lemmas.Bool.{ltb-true, leb-true}
use Rattle.std.proofs.lemmas.Slice.Eq.{bytes_eq-Decides}
use Rattle.std.specs.String.{string_eq}
use Rattle.indexmap.specs.IndexMap.{insert_entry}
use Rattle.std.specs.Map.{lookup, keys_of}
use Rattle.std.specs.Str.{bytes_eq}
use Rattle.lit_syntax.specs.declared.syntax.Stmt.{Stmt}
use Rattle.lit_syntax.specs.Syntax.{Agent, Statements, End, Then, Window, Uint8, Uint16, Uint32, DataView8, DataView16, DataView32, is_in_block, fits_window}
use Rattle.lit_syntax.specs.Litmus.{statement_of, statements_of, agent_view, agents_view}
use Rattle.lit_read.specs.Internal.State.{followed_by, with_agent, AreDistinct, body_named}
use Rattle.lit_read.specs.Spelling.{place_of}

pub statements_pushed : (body : List Stmt) (s : Stmt) → statements_of (body ++ s ∷ []) ≡ followed_by (statements_of body) (statement_of s)
statements_pushed [] s = refl
statements_pushed (t ∷ ts) s = ap (λ (ss : Statements). Then (statement_of t) ss) (statements_pushed ts s)

pub any_pushed : {A : Type 0} (p : A → Bool) (xs : List A) (x : A) → list_any p (xs ++ x ∷ []) ≡ (list_any p xs || p x)
any_pushed p [] x = elim (p x) as (λ b. (b || false) ≡ (false || b)) [ true ↦ refl | false ↦ refl ]
any_pushed p (y ∷ ys) x = elim (p y) as (λ b. (b || list_any p (ys ++ x ∷ [])) ≡ ((b || list_any p ys) || p x)) [ true ↦ refl | false ↦ any_pushed p ys x ]

pub contains_any : (name : List ℕ) (entries : List (String Global × Vec Stmt)) → is_some (lookup (λ k. bytes_eq name (string_bytes k)) entries) ≡ list_any (λ a. bytes_eq name a.name) (agents_view entries)
contains_any name [] = refl
contains_any name (e ∷ es) =
    elim (bytes_eq name (string_bytes e.0)) as (λ b. is_some (cond b (Some e.1) (lookup (λ k. bytes_eq name (string_bytes k)) es)) ≡ (b || list_any (λ a. bytes_eq name a.name) (agents_view es)))
    [ true ↦ refl | false ↦ contains_any name es ]

pub taken_before : (name : List ℕ) (entries : List (String Global × Vec Stmt)) (agent : List ℕ) (body : Statements) (b : Bool)
    → b ≡ is_some (lookup (λ k. bytes_eq name (string_bytes k)) entries) → b ≡ true → b ≡ list_any (λ a. bytes_eq name a.name) (with_agent (agents_view entries) agent body)
taken_before name entries agent body b is found =
    let e : list_any (λ a. bytes_eq name a.name) (agents_view entries) ≡ true = sym (contains_any name entries) ∙ sym is ∙ found in
    found ∙ sym (any_pushed (λ a. bytes_eq name a.name) (agents_view entries) (record { name = agent; body = body }) ∙ ap (λ (x : Bool). x || bytes_eq name agent) e)

pub taken_here : (name : List ℕ) (entries : List (String Global × Vec Stmt)) (agent : List ℕ) (body : Statements) (b c : Bool)
    → b ≡ is_some (lookup (λ k. bytes_eq name (string_bytes k)) entries) → b ≡ false → c ≡ bytes_eq name agent → c ≡ list_any (λ a. bytes_eq name a.name) (with_agent (agents_view entries) agent body)
taken_here name entries agent body b c is absent here =
    let e : list_any (λ a. bytes_eq name a.name) (agents_view entries) ≡ false = sym (contains_any name entries) ∙ sym is ∙ absent in
    here ∙ sym (any_pushed (λ a. bytes_eq name a.name) (agents_view entries) (record { name = agent; body = body }) ∙ ap (λ (x : Bool). x || bytes_eq name agent) e)

-- a new agent goes behind the others
pub new_last : (entries : List (String Global × Vec Stmt)) (agent : String Global) (body : Vec Stmt) → list_any (λ a. bytes_eq (string_bytes agent) a.name) (agents_view entries) ≡ false
    → agents_view (insert_entry string_eq entries agent body) ≡ with_agent (agents_view entries) (string_bytes agent) (statements_of body.items)
new_last [] agent body h = refl
new_last (e ∷ es) agent body h = by (bytes_eq (string_bytes agent) (string_bytes e.0)) h (new_last es agent body)
  where
    by : (b : Bool) → (b || list_any (λ a. bytes_eq (string_bytes agent) a.name) (agents_view es)) ≡ false
        → (list_any (λ a. bytes_eq (string_bytes agent) a.name) (agents_view es) ≡ false → agents_view (insert_entry string_eq es agent body) ≡ with_agent (agents_view es) (string_bytes agent) (statements_of body.items))
        → agents_view (cond b ((e.0, body) ∷ es) (e ∷ insert_entry string_eq es agent body)) ≡ with_agent (agents_view (e ∷ es)) (string_bytes agent) (statements_of body.items)
    by true g others = absurd cc
    by false g others = ap (λ (l : List Agent). agent_view (string_bytes e.0) e.1.items ∷ l) (others g)

pub body_is : (name : List ℕ) (entries : List (String Global × Vec Stmt)) (body : Vec Stmt) → lookup (λ k. bytes_eq name (string_bytes k)) entries ≡ Some body → statements_of body.items ≡ body_named name (agents_view entries)
body_is name [] body h = absurd cc
body_is name (e ∷ es) body h = by (bytes_eq name (string_bytes e.0)) h (body_is name es body)
  where
    by : (b : Bool) → cond b (Some e.1) (lookup (λ k. bytes_eq name (string_bytes k)) es) ≡ Some body
        → (lookup (λ k. bytes_eq name (string_bytes k)) es ≡ Some body → statements_of body.items ≡ body_named name (agents_view es)) → statements_of body.items ≡ cond b (statements_of e.1.items) (body_named name (agents_view es))
    by true g others = let same : body ≡ e.1 = cc in ap (λ (v : Vec Stmt). statements_of v.items) same
    by false g others = others g

pub body_absent : (name : List ℕ) (entries : List (String Global × Vec Stmt)) → is_some (lookup (λ k. bytes_eq name (string_bytes k)) entries) ≡ false → body_named name (agents_view entries) ≡ End
body_absent name [] h = refl
body_absent name (e ∷ es) h = by (bytes_eq name (string_bytes e.0)) h (body_absent name es)
  where
    by : (b : Bool) → is_some (cond b (Some e.1) (lookup (λ k. bytes_eq name (string_bytes k)) es)) ≡ false
        → (is_some (lookup (λ k. bytes_eq name (string_bytes k)) es) ≡ false → body_named name (agents_view es) ≡ End) → cond b (statements_of e.1.items) (body_named name (agents_view es)) ≡ End
    by true g others = absurd cc
    by false g others = others g

-- ---- agents with different names

last_holds : (P : Agent → Type 0) (agents : List Agent) (a : Agent) → AllByRecursion P (agents ++ a ∷ []) → P a
last_holds P [] a h = h.0
last_holds P (b ∷ bs) a h = last_holds P bs a h.1

bytes_differ : (xs ys : List ℕ) → ys ≢ xs → bytes_eq xs ys ≡ false
bytes_differ xs ys ne = by (bytes_eq xs ys) refl
  where
    by : (b : Bool) → bytes_eq xs ys ≡ b → b ≡ false
    by true e = absurd (ne (sym ((bytes_eq-Decides xs ys).0 e)))
    by false e = refl

pub last_is_new : (agents : List Agent) (agent : List ℕ) (body : Statements) → AreDistinct (with_agent agents agent body) → list_any (λ a. bytes_eq agent a.name) agents ≡ false
last_is_new [] agent body h = refl
last_is_new (a ∷ others) agent body h =
    let differs : bytes_eq agent a.name ≡ false = bytes_differ agent a.name (last_holds (λ b. a.name ≢ b.name) others (record { name = agent; body = body }) h.0) in
    rw differs (last_is_new others agent body h.1)

-- ---- accesses

pub in_block_small : (bytes : ℕ) (w : Window) (index : ℕ) → is_in_block bytes w index ≡ true → index ≤ bytes
in_block_small bytes Uint8 index e = let h : index < bytes / 1 = ltb-true _ _ e in omega arith
in_block_small bytes Uint16 index e = let h : index < bytes / 2 = ltb-true _ _ e in omega arith
in_block_small bytes Uint32 index e = let h : index < bytes / 4 = ltb-true _ _ e in omega arith
in_block_small bytes DataView8 index e = let h : index + 1 ≤ bytes = leb-true _ _ e in omega arith
in_block_small bytes DataView16 index e = let h : index + 2 ≤ bytes = leb-true _ _ e in omega arith
in_block_small bytes DataView32 index e = let h : index + 4 ≤ bytes = leb-true _ _ e in omega arith

pub fitting_small : (w : Window) (value : ℕ) → fits_window w value ≡ true → value < 2 ^ 32
fitting_small Uint8 value e = let h : value < 256 = ltb-true _ _ e in omega arith
fitting_small Uint16 value e = let h : value < 65536 = ltb-true _ _ e in omega arith
fitting_small Uint32 value e = ltb-true _ _ e
fitting_small DataView8 value e = let h : value < 256 = ltb-true _ _ e in omega arith
fitting_small DataView16 value e = let h : value < 65536 = ltb-true _ _ e in omega arith
fitting_small DataView32 value e = ltb-true _ _ e

-- ---- places

place_counts : (name : List ℕ) (entries : List (String Global × Vec Stmt)) → place_of name (agents_view entries) ≡ prefix_len (λ k. not (bytes_eq name (string_bytes k))) (keys_of entries)
place_counts name [] = refl
place_counts name (e ∷ es) =
    elim (bytes_eq name (string_bytes e.0)) as (λ b. cond b 0 (place_of name (agents_view es) + 1) ≡ cond (not b) (1 + prefix_len (λ k. not (bytes_eq name (string_bytes k))) (keys_of es)) 0)
    [ true ↦ refl | false ↦ omega (arith, place_counts name es) ]

position_counts : {A : Type 0} (p : A → Bool) (xs : List A) (i : ℕ) → position p xs ≡ Some i → i ≡ prefix_len (λ x. not (p x)) xs
position_counts p xs i = by (ltb (prefix_len (λ x. not (p x)) xs) (length xs)) (prefix_len (λ x. not (p x)) xs)
  where
    by : (b : Bool) (n : ℕ) → cond b (Some n) None ≡ Some i → i ≡ n
    by true n h = cc
    by false n h = absurd cc

pub place_is : (name : List ℕ) (entries : List (String Global × Vec Stmt)) (i : ℕ) → position (λ k. bytes_eq name (string_bytes k)) (keys_of entries) ≡ Some i → i ≡ place_of name (agents_view entries)
place_is name entries i h = position_counts (λ k. bytes_eq name (string_bytes k)) (keys_of entries) i h ∙ sym (place_counts name entries)

-- an agent that is not there has the number behind the last
pub place_absent : (name : List ℕ) (entries : List (String Global × Vec Stmt)) → is_some (lookup (λ k. bytes_eq name (string_bytes k)) entries) ≡ false → length entries ≡ place_of name (agents_view entries)
place_absent name [] h = refl
place_absent name (e ∷ es) h = by (bytes_eq name (string_bytes e.0)) h (place_absent name es)
  where
    by : (b : Bool) → is_some (cond b (Some e.1) (lookup (λ k. bytes_eq name (string_bytes k)) es)) ≡ false
        → (is_some (lookup (λ k. bytes_eq name (string_bytes k)) es) ≡ false → length es ≡ place_of name (agents_view es)) → suc (length es) ≡ cond b 0 (place_of name (agents_view es) + 1)
    by true g others = absurd cc
    by false g others = omega (arith, others g)
