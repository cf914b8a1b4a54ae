-- Reading a schedule member by member.
use Rattle.std.proofs.Common.{◌≡◌, ◌∙◌, ◌++◌, ◌∷◌, ◌+◌, ◌-◌, ◌<◌, ◌≤◌, ◌&&◌, ℕ, suc, Bool, true, false, cond, not, eqb, List, [], length, take, drop, Option, Some, None, refl, sym, ap, arith, append_assoc, codes, slice_index}
use Rattle.std.specs.Prelude.{unwrap_or}
use Rattle.std.specs.List.{All, list_all, prefix_len}
use Rattle.std.proofs.Math.Seq.{take-length}
use Rattle.std.proofs.lemmas.Bool.{eqb-true, and_parts}
use Rattle.std.proofs.lemmas.List.{append-nil, take-append-drop}
use Rattle.std.proofs.lemmas.List.Elements.{All-drop, All-get_or, All-push}
use Rattle.lit_syntax.specs.Syntax.{IsLitmus, Litmus, agent_of}
use Rattle.lit_syntax.specs.Tokens.{begins_with, begins_word, is_in_word}
use Rattle.jslit.specs.Schedule.{NamesAgents, NamesNoAgents, schedule_text}
use Rattle.jslit.specs.Internal.Scheduling.{NamesNone, behind_comma}

-- ---- text with and without turns
-- the text of a schedule, where it has a turn
abbrev pub turns_text : Litmus → List ℕ → Option (List ℕ)
turns_text t [] = None
turns_text t (agent ∷ agents) = Some (schedule_text t (agent ∷ agents))

-- a text, where it isn't empty
abbrev pub some_text : List ℕ → Option (List ℕ)
some_text [] = None
some_text (b ∷ bs) = Some (b ∷ bs)

-- a schedule is its first name and then the others
first_turn : (t : Litmus) (agent : ℕ) (agents : List ℕ) → schedule_text t (agent ∷ agents) ≡ (agent_of t agent).name ++ behind_comma (turns_text t agents)
first_turn t agent [] = sym (append-nil (agent_of t agent).name)
first_turn t agent (next ∷ agents) = append_assoc (agent_of t agent).name (codes ",") (schedule_text t (next ∷ agents))

-- ---- one member
abbrev is_no_comma : ℕ → Bool
is_no_comma b = not (eqb b 44)

no_comma : (b : ℕ) (xs : List ℕ) → (is_no_comma b && list_all is_no_comma xs) ≡ true → b ≡ 44 → ⊥
no_comma b xs whole is =
    let yes : is_no_comma b ≡ true = (and_parts (is_no_comma b) (list_all is_no_comma xs) whole).0 in
    let bad : false ≡ true = rw is at yes in
    absurd cc

same_behind : (r s : Option (List ℕ)) → behind_comma r ≡ behind_comma s → r ≡ s
same_behind None None is = refl
same_behind None (Some y) is = absurd cc
same_behind (Some x) None is = absurd cc
same_behind (Some x) (Some y) is = ap (λ (l : List ℕ). Some l) (ap (λ (l : List ℕ). drop 1 l) is)

-- a text has one first member
one_member : (u v : List ℕ) (r s : Option (List ℕ)) → list_all is_no_comma u ≡ true → list_all is_no_comma v ≡ true
    → u ++ behind_comma r ≡ v ++ behind_comma s → (u ≡ v) × (r ≡ s)
one_member [] [] r s fu fv is = (refl, same_behind r s is)
one_member [] (b ∷ v) None s fu fv is = absurd cc
one_member [] (b ∷ v) (Some x) s fu fv is = absurd (no_comma b v fv (sym (ap (λ (l : List ℕ). slice_index l 0) is)))
one_member (a ∷ u) [] r None fu fv is = absurd cc
one_member (a ∷ u) [] r (Some y) fu fv is = absurd (no_comma a u fu (ap (λ (l : List ℕ). slice_index l 0) is))
one_member (a ∷ u) (b ∷ v) r s fu fv is =
    let rest = one_member u v r s (and_parts (is_no_comma a) (list_all is_no_comma u) fu).1 (and_parts (is_no_comma b) (list_all is_no_comma v) fv).1 (ap (λ (l : List ℕ). drop 1 l) is) in
    let first : a ≡ b = ap (λ (l : List ℕ). slice_index l 0) is in
    (rw (first, rest.0) refl, rest.1)

-- what stands before the first comma has none
pub before_comma : (bytes : List ℕ) → list_all is_no_comma (take (prefix_len is_no_comma bytes) bytes) ≡ true
before_comma [] = refl
before_comma (b ∷ bs) = by (is_no_comma b) refl (before_comma bs)
  where
    by : (x : Bool) → is_no_comma b ≡ x → list_all is_no_comma (take (prefix_len is_no_comma bs) bs) ≡ true
        → list_all is_no_comma (take (cond x (1 + prefix_len is_no_comma bs) 0) (b ∷ bs)) ≡ true
    by true e rest =
        let one : 1 + prefix_len is_no_comma bs ≡ suc (prefix_len is_no_comma bs) = omega arith in
        rw (one, e) rest
    by false e rest = refl

-- and where there is a comma, it stands behind that
comma_at : (bytes : List ℕ) → 1 ≤ length (drop (prefix_len is_no_comma bytes) bytes)
    → drop (prefix_len is_no_comma bytes) bytes ≡ 44 ∷ drop 1 (drop (prefix_len is_no_comma bytes) bytes)
comma_at [] some = absurd (omega arith)
comma_at (b ∷ bs) some = by (is_no_comma b) refl (comma_at bs) some
  where
    by : (x : Bool) → is_no_comma b ≡ x
        → (1 ≤ length (drop (prefix_len is_no_comma bs) bs) → drop (prefix_len is_no_comma bs) bs ≡ 44 ∷ drop 1 (drop (prefix_len is_no_comma bs) bs))
        → 1 ≤ length (drop (cond x (1 + prefix_len is_no_comma bs) 0) (b ∷ bs))
        → drop (cond x (1 + prefix_len is_no_comma bs) 0) (b ∷ bs) ≡ 44 ∷ drop 1 (drop (cond x (1 + prefix_len is_no_comma bs) 0) (b ∷ bs))
    by true e rest some =
        let one : 1 + prefix_len is_no_comma bs ≡ suc (prefix_len is_no_comma bs) = omega arith in
        rw one (rest (rw one at some))
    by false e rest some = ap (λ (n : ℕ). n ∷ bs) (is_comma (eqb b 44) refl e)
      where
        is_comma : (y : Bool) → eqb b 44 ≡ y → not y ≡ false → b ≡ 44
        is_comma true same is = eqb-true b 44 same
        is_comma false same is = absurd cc

rest_whole : (l : List ℕ) → 1 ≤ length l → take (length l - 1) (drop 1 l) ≡ drop 1 l
rest_whole [] some = absurd (omega arith)
rest_whole (b ∷ l) some =
    let n : length (b ∷ l) - 1 ≡ length l = omega arith in
    rw n (take-length l)

pub first_member : (text : List ℕ) (n : ℕ) → n ≡ prefix_len is_no_comma text → 1 ≤ length (drop n text)
    → text ≡ take n text ++ 44 ∷ take (length (drop n text) - 1) (drop 1 (drop n text))
first_member text n is some =
    let at : drop n text ≡ 44 ∷ drop 1 (drop n text) = rw is (comma_at text (rw (← is) some)) in
    sym (take-append-drop n text) ∙ ap (λ (l : List ℕ). take n text ++ l) (at ∙ ap (λ (l : List ℕ). 44 ∷ l) (sym (rest_whole (drop n text) some)))

-- a name has no comma
in_word : (b : ℕ) → is_in_word b ≡ true → is_no_comma b ≡ true
in_word b is = by (eqb b 44) refl
  where
    by : (x : Bool) → eqb b 44 ≡ x → not x ≡ true
    by false e = refl
    by true e =
        let bad : false ≡ true = rw (eqb-true b 44 e) at is in
        absurd cc

name_whole : (name : List ℕ) → list_all is_in_word name ≡ true → list_all is_no_comma name ≡ true
name_whole [] is = refl
name_whole (b ∷ bs) is =
    let parts = and_parts (is_in_word b) (list_all is_in_word bs) is in
    rw (in_word b parts.0, name_whole bs parts.1) refl

-- ---- a schedule that is read up to a member
-- The agents read so far: they are known, with the remaining turns they make the whole, and where the whole names
-- agents, so does the rest.
pub record IsReadTo (t : Litmus) (schedule : List ℕ) (agents : List ℕ) (rest : Option (List ℕ)) : Type 0 where
  pub known : All (λ agent. agent < length t.agents) agents
  pub told : (xs : List ℕ) → turns_text t xs ≡ rest → turns_text t (agents ++ xs) ≡ some_text schedule
  pub left : (ys : List ℕ) → All (λ agent. agent < length t.agents) ys → turns_text t ys ≡ some_text schedule
      → (xs : List ℕ) × All (λ agent. agent < length t.agents) xs × (turns_text t xs ≡ rest)

-- a text that begins with a byte isn't empty
some_front : (u r w : List ℕ) → begins_with begins_word u ≡ true → w ≡ u ++ r → some_text w ≡ Some w
some_front [] r w begins is = absurd cc
some_front (b ∷ u) r w begins is = rw is refl

-- a text that names agents is that of their turns
whole_text : (t : Litmus) → IsLitmus t → (schedule ys : List ℕ) → NamesAgents t schedule ys → turns_text t ys ≡ some_text schedule
whole_text t litmus schedule [] named = rw named.is refl
whole_text t litmus schedule (y ∷ ys) named =
    let low : y < length t.agents = All-get_or (λ agent. agent < length t.agents) (y ∷ ys) 0 0 (omega arith) named.known in
    let begins = (litmus.names y low).first in
    ap (λ (l : List ℕ). Some l) (sym named.is) ∙ sym (some_front (agent_of t y).name (behind_comma (turns_text t ys)) schedule begins (named.is ∙ first_turn t y ys))

whole_of : (t : Litmus) (schedule agents : List ℕ) → turns_text t agents ≡ some_text schedule → schedule ≡ schedule_text t agents
whole_of t [] [] is = refl
whole_of t [] (agent ∷ agents) is = absurd cc
whole_of t (b ∷ bs) [] is = absurd cc
whole_of t (b ∷ bs) (agent ∷ agents) is = sym (ap (λ (o : Option (List ℕ)). unwrap_or o (b ∷ bs)) is)

-- where the rest is empty, the schedule names the agents read
pub read_whole : (t : Litmus) (schedule agents : List ℕ) → IsReadTo t schedule agents None → NamesAgents t schedule agents
read_whole t schedule agents read = record {
  known = read.known;
  is = whole_of t schedule agents (sym (ap (turns_text t) (append-nil agents)) ∙ read.told [] refl);
}

-- the names of the rest
module _ (t : Litmus) (litmus : IsLitmus t) (left member : List ℕ) (after : Option (List ℕ)) (parts : left ≡ member ++ behind_comma after) (whole : list_all is_no_comma member ≡ true) where
  -- its first agent has the member's name, and the others are named behind its comma
  first_named : (xs : List ℕ) → All (λ agent. agent < length t.agents) xs → turns_text t xs ≡ Some left
      → (x : ℕ) × (others : List ℕ) × (x < length t.agents) × ((agent_of t x).name ≡ member) × All (λ agent. agent < length t.agents) others × (turns_text t others ≡ after)
  first_named [] known is = absurd cc
  first_named (x ∷ xs) known is =
      let low : x < length t.agents = All-get_or (λ agent. agent < length t.agents) (x ∷ xs) 0 0 (omega arith) known in
      let text : schedule_text t (x ∷ xs) ≡ left = ap (λ (o : Option (List ℕ)). unwrap_or o left) is in
      let one = one_member (agent_of t x).name member (turns_text t xs) after (name_whole (agent_of t x).name (litmus.names x low).others) whole (sym (first_turn t x xs) ∙ text ∙ parts) in
      (x, xs, low, one.0, All-drop (λ agent. agent < length t.agents) 1 (x ∷ xs) known, one.1)

  pub read_more : (schedule agents : List ℕ) (agent : ℕ) → IsReadTo t schedule agents (Some left) → agent < length t.agents → (agent_of t agent).name ≡ member
      → IsReadTo t schedule (agents ++ agent ∷ []) after
  read_more schedule agents agent read low named = record {
    known = All-push (λ agent. agent < length t.agents) agents agent read.known low;
    told = λ xs is.
        let same : turns_text t (agent ∷ xs) ≡ Some left = ap (λ (l : List ℕ). Some l) (first_turn t agent xs ∙ rw (named, is) (sym parts)) in
        ap (turns_text t) (append_assoc agents (agent ∷ []) xs) ∙ read.told (agent ∷ xs) same;
    left = λ ys known is.
        let got = read.left ys known is in
        let first = first_named got.0 got.1 got.2 in
        (first.1, first.4, first.5);
  }

  -- where no agent has the member's name, the schedule names no agents
  pub names_none : (schedule agents : List ℕ) → IsReadTo t schedule agents (Some left) → NamesNone t member → NamesNoAgents t schedule
  names_none schedule agents read none ys named =
      let got = read.left ys named.known (whole_text t litmus schedule ys named) in
      let first = first_named got.0 got.1 got.2 in
      none first.0 first.2 first.3
