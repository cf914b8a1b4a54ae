-- The lines of the reads, one event after the other.
use Rattle.std.proofs.Common.{◌≡◌, ◌≢◌, ℕ, zero, suc, ◌+◌, ◌<◌, ◌≤◌, Bool, true, false, cond, eqb, List, [], ◌∷◌, ◌++◌, length, map, filter, take, drop, get_or, codes, refl, sym, ap, subst, ◌∙◌, arith, append_assoc, ne_eqb, eq-eqb}
use Rattle.std.specs.Prelude.{All}
use Rattle.std.specs.List.{AllByRecursion, flat_map, zip, range_with_len}
use Rattle.std.proofs.lemmas.List.{append-nil, length-append, length-take, length-drop, at_drop_more, drop_more, take_all, take-append-drop, take-append-le, drop-append-le}
use Rattle.std.proofs.lemmas.List.Elements.{filter-append, All-drop}
use Rattle.lit_syntax.specs.Syntax.{Litmus}
use Rattle.lit_paths.specs.declared.event.Event.{Event}
use Rattle.lit_paths.specs.Event.{does_read, event_at}
use Rattle.lit_paths.specs.ByteReads.{bytes_read_by, byte_reads_from, byte_reads}
use Rattle.lit_valid.specs.ValidExecution.{read_numbers_from}
use Rattle.lit_report.specs.EntryText.{line, event_name, names_text, source_line, from_lines}
use Rattle.lit_report.specs.ReadLine.{NoneReads, OnlyFirstReads, read_line, rest_after, lines_from, source_head, first_source_head, line_end, lines_up_to}

abbrev Pair : Type 0
Pair = (ℕ × ℕ) × ℕ

-- each pair is of a read with this property
abbrev AreOf : (ℕ → Type 0) → List Pair → Type 0
AreOf P ps = AllByRecursion (λ p. P p.0.0) ps

abbrev is_of : ℕ → Pair → Bool
is_of r p = eqb p.0.0 r

none_of : (r : ℕ) (ps : List Pair) → AreOf (λ k. k ≢ r) ps → filter (is_of r) ps ≡ []
none_of r [] h = refl
none_of r (p ∷ ps) h = rw (ne_eqb p.0.0 r h.0) (none_of r ps h.1)

all_of : (r : ℕ) (ps : List Pair) → AreOf (λ k. k ≡ r) ps → filter (is_of r) ps ≡ ps
all_of r [] h = refl
all_of r (p ∷ ps) h = rw (eq-eqb p.0.0 r h.0) (ap (λ (qs : List Pair). p ∷ qs) (all_of r ps h.1))

weaker : (P Q : ℕ → Type 0) (ps : List Pair) → ((k : ℕ) → P k → Q k) → AreOf P ps → AreOf Q ps
weaker P Q [] f h = tt
weaker P Q (p ∷ ps) f h = (f p.0.0 h.0, weaker P Q ps f h.1)

both : (P : ℕ → Type 0) (ps qs : List Pair) → AreOf P ps → AreOf P qs → AreOf P (ps ++ qs)
both P [] qs h k = k
both P (p ∷ ps) qs h k = (h.0, both P ps qs h.1 k)

-- the pairs of bytes of one event
of_event : (n first low count : ℕ) (ws : List ℕ) → AreOf (λ k. k ≡ n) (zip (map (λ i. (n, first + i)) (range_with_len low count)) ws)
of_event n first low zero ws = tt
of_event n first low (suc count) [] = tt
of_event n first low (suc count) (w ∷ ws) = (refl, of_event n first (low + 1) count ws)

of_bytes : (n : ℕ) (e : Event) (ws : List ℕ) → AreOf (λ k. k ≡ n) (zip (bytes_read_by n e) ws)
of_bytes n e ws = by (does_read e.kind)
  where
    by : (b : Bool) → AreOf (λ k. k ≡ n) (zip (cond b (map (λ i. (n, e.first + i)) (range_with_len 0 e.size)) []) ws)
    by true = of_event n e.first 0 e.size ws
    by false = tt

zip-nil : {A B : Type 0} (xs : List A) → zip xs (let ys : List B = [] in ys) ≡ []
zip-nil [] = refl
zip-nil (x ∷ xs) = refl

zip-append : (xs ys : List (ℕ × ℕ)) (ws : List ℕ) → zip (xs ++ ys) ws ≡ zip xs (take (length xs) ws) ++ zip ys (drop (length xs) ws)
zip-append [] ys ws = refl
zip-append (x ∷ xs) ys [] = sym (zip-nil ys)
zip-append (x ∷ xs) ys (w ∷ ws) = ap (λ (ps : List Pair). (x, w) ∷ ps) (zip-append xs ys ws)

from_later : (n : ℕ) (es : List Event) (ws : List ℕ) → AreOf (λ k. n ≤ k) (zip (byte_reads_from n es) ws)
from_later n [] ws = tt
from_later n (e ∷ es) ws =
    let first = weaker (λ k. k ≡ n) (λ k. n ≤ k) (zip (bytes_read_by n e) (take (length (bytes_read_by n e)) ws)) (λ k is. omega arith) (of_bytes n e (take (length (bytes_read_by n e)) ws)) in
    let others = weaker (λ k. n + 1 ≤ k) (λ k. n ≤ k) (zip (byte_reads_from (n + 1) es) (drop (length (bytes_read_by n e)) ws)) (λ k le. omega arith) (from_later (n + 1) es (drop (length (bytes_read_by n e)) ws)) in
    rw (zip-append (bytes_read_by n e) (byte_reads_from (n + 1) es) ws) (both (λ k. n ≤ k) (zip (bytes_read_by n e) (take (length (bytes_read_by n e)) ws)) (zip (byte_reads_from (n + 1) es) (drop (length (bytes_read_by n e)) ws)) first others)

length-bytes : (n first low count : ℕ) → length (map {A = ℕ} {B = ℕ × ℕ} (λ i. (n, first + i)) (range_with_len low count)) ≡ count
length-bytes n first low zero = refl
length-bytes n first low (suc count) = ap suc (length-bytes n first (low + 1) count)

seconds : (xs : List (ℕ × ℕ)) (ws : List ℕ) → length ws ≡ length xs → map (λ p. p.1) (zip xs ws) ≡ ws
seconds [] [] h = refl
seconds [] (w ∷ ws) h = absurd (omega arith)
seconds (x ∷ xs) [] h = absurd (omega arith)
seconds (x ∷ xs) (w ∷ ws) h = ap (λ (vs : List ℕ). w ∷ vs) (seconds xs ws (omega arith))

length-read_by : (n : ℕ) (e : Event) → does_read e.kind ≡ true → length (bytes_read_by n e) ≡ e.size
length-read_by n e is = rw is (length-bytes n e.first 0 e.size)

-- what is behind the event with number i
abbrev At : List Event → ℕ → Event → List Event → Type 0
At events i e es = drop i events ≡ e ∷ es

at_event : (events : List Event) (i : ℕ) (e : Event) (es : List Event) → At events i e es → event_at events i ≡ e
at_event [] zero e es is = absurd cc
at_event [] (suc i) e es is = absurd cc
at_event (x ∷ xs) zero e es is = cc
at_event (x ∷ xs) (suc i) e es is = at_event xs i e es is

at_more : (events : List Event) (i : ℕ) (e : Event) (es : List Event) → At events i e es → drop (i + 1) events ≡ es
at_more [] zero e es is = absurd cc
at_more [] (suc i) e es is = absurd cc
at_more (x ∷ xs) zero e es is = cc
at_more (x ∷ xs) (suc i) e es is = let one : suc i + 1 ≡ suc (i + 1) = omega arith in ap (λ (k : ℕ). drop k (x ∷ xs)) one ∙ at_more xs i e es is

module _ (t : Litmus) (events : List Event) where
  -- the line of a read, by pairs of bytes and sources
  abbrev line_of : List Pair → ℕ → List ℕ
  line_of ps r = source_line t events (event_at events r) (map (λ p. p.1) (filter (is_of r) ps))

  own_sources : (n : ℕ) (e : Event) (es : List Event) (ws : List ℕ) (before : List Pair) → does_read e.kind ≡ true → AreOf (λ k. k < n) before → length ws ≡ length (byte_reads_from n (e ∷ es))
      → map (λ p. p.1) (filter (is_of n) (before ++ zip (byte_reads_from n (e ∷ es)) ws)) ≡ take e.size ws
  own_sources n e es ws before reads lower long =
      let own = bytes_read_by n e in
      let size : length own ≡ e.size = length-read_by n e reads in
      let rest = byte_reads_from (n + 1) es in
      let first : filter (is_of n) before ≡ [] = none_of n before (weaker (λ k. k < n) (λ k. k ≢ n) before (λ k lt is. omega arith) lower) in
      let mid : filter (is_of n) (zip own (take (length own) ws)) ≡ zip own (take (length own) ws) = all_of n (zip own (take (length own) ws)) (of_bytes n e (take (length own) ws)) in
      let last : filter (is_of n) (zip rest (drop (length own) ws)) ≡ [] = none_of n (zip rest (drop (length own) ws)) (weaker (λ k. n + 1 ≤ k) (λ k. k ≢ n) (zip rest (drop (length own) ws)) (λ k le is. omega arith) (from_later (n + 1) es (drop (length own) ws))) in
      let whole : filter (is_of n) (before ++ zip (own ++ rest) ws) ≡ zip own (take (length own) ws) =
      ap (λ (ps : List Pair). filter (is_of n) (before ++ ps)) (zip-append own rest ws)
      ∙ filter-append (is_of n) before (zip own (take (length own) ws) ++ zip rest (drop (length own) ws))
      ∙ ap (λ (ps : List Pair). ps ++ filter (is_of n) (zip own (take (length own) ws) ++ zip rest (drop (length own) ws))) first
      ∙ filter-append (is_of n) (zip own (take (length own) ws)) (zip rest (drop (length own) ws))
      ∙ ap (λ (ps : List Pair). ps ++ filter (is_of n) (zip rest (drop (length own) ws))) mid
      ∙ ap (λ (ps : List Pair). zip own (take (length own) ws) ++ ps) last
      ∙ append-nil (zip own (take (length own) ws)) in
      ap (map (λ p. p.1)) whole
      ∙ seconds own (take (length own) ws) (omega (arith, long, length-append own rest, length-take (length own) ws))
      ∙ ap (λ (k : ℕ). take k ws) size

  regroup : (n : ℕ) (e : Event) (es : List Event) (ws : List ℕ) (before : List Pair)
      → before ++ zip (byte_reads_from n (e ∷ es)) ws ≡ (before ++ zip (bytes_read_by n e) (take (length (bytes_read_by n e)) ws)) ++ zip (byte_reads_from (n + 1) es) (drop (length (bytes_read_by n e)) ws)
  regroup n e es ws before =
      ap (λ (ps : List Pair). before ++ ps) (zip-append (bytes_read_by n e) (byte_reads_from (n + 1) es) ws)
      ∙ sym (append_assoc before (zip (bytes_read_by n e) (take (length (bytes_read_by n e)) ws)) (zip (byte_reads_from (n + 1) es) (drop (length (bytes_read_by n e)) ws)))

  none_read : (n : ℕ) (e : Event) → does_read e.kind ≡ false → length (bytes_read_by n e) ≡ 0
  none_read n e is = rw is refl

  step : (n : ℕ) (e : Event) (es : List Event) (ws : List ℕ) (ps : List Pair) (b : Bool) → does_read e.kind ≡ b → At events n e es
      → (does_read e.kind ≡ true → map (λ p. p.1) (filter (is_of n) ps) ≡ take e.size ws)
      → flat_map (line_of ps) (read_numbers_from (n + 1) es) ≡ lines_from t events es (drop (length (bytes_read_by n e)) ws)
      → flat_map (line_of ps) (cond b (n ∷ read_numbers_from (n + 1) es) (read_numbers_from (n + 1) es)) ≡ cond b (source_line t events e (take e.size ws)) [] ++ lines_from t events es (cond b (drop e.size ws) ws)
  step n e es ws ps true is at own tail =
      ap (λ (us : List ℕ). source_line t events (event_at events n) us ++ flat_map (line_of ps) (read_numbers_from (n + 1) es)) (own is)
      ∙ ap (λ (x : Event). source_line t events x (take e.size ws) ++ flat_map (line_of ps) (read_numbers_from (n + 1) es)) (at_event events n e es at)
      ∙ ap (λ (bs : List ℕ). source_line t events e (take e.size ws) ++ bs) (tail ∙ ap (λ (k : ℕ). lines_from t events es (drop k ws)) (length-read_by n e is))
  step n e es ws ps false is at own tail = tail ∙ ap (λ (k : ℕ). lines_from t events es (drop k ws)) (none_read n e is)

  lines_are : (n : ℕ) (es : List Event) (ws : List ℕ) (before : List Pair) → drop n events ≡ es → AreOf (λ k. k < n) before → length ws ≡ length (byte_reads_from n es)
      → flat_map (line_of (before ++ zip (byte_reads_from n es) ws)) (read_numbers_from n es) ≡ lines_from t events es ws
  lines_are n [] ws before at lower long = refl
  lines_are n (e ∷ es) ws before at lower long =
      let own = bytes_read_by n e in
      let rest = drop (length own) ws in
      let seen = before ++ zip own (take (length own) ws) in
      let lower' : AreOf (λ k. k < n + 1) seen = both (λ k. k < n + 1) before (zip own (take (length own) ws)) (weaker (λ k. k < n) (λ k. k < n + 1) before (λ k lt. omega arith) lower) (weaker (λ k. k ≡ n) (λ k. k < n + 1) (zip own (take (length own) ws)) (λ k is. omega arith) (of_bytes n e (take (length own) ws))) in
      let long' : length rest ≡ length (byte_reads_from (n + 1) es) = omega (arith, long, length-append own (byte_reads_from (n + 1) es), length-drop (length own) ws) in
      let tail = ap (λ (ps : List Pair). flat_map (line_of ps) (read_numbers_from (n + 1) es)) (regroup n e es ws before) ∙ lines_are (n + 1) es rest seen (at_more events n e es at) lower' long' in
      step n e es ws (before ++ zip (byte_reads_from n (e ∷ es)) ws) (does_read e.kind) refl at (λ reads. own_sources n e es ws before reads lower long) tail

  -- the lines of all reads, one event after the other
  from_lines-is : (ws : List ℕ) → length ws ≡ length (byte_reads events) → from_lines t events ws ≡ lines_from t events events ws
  from_lines-is ws long = lines_are 0 events ws [] refl tt long

  pub lines_more : (part : List Event) (i : ℕ) (d : Event) (ws : List ℕ) → i < length part → lines_from t events (drop i part) ws ≡ read_line t events (get_or part i d) ws ++ lines_from t events (drop (i + 1) part) (rest_after (get_or part i d) ws)
  lines_more part i d ws lt = at_drop_more (λ (es : List Event). lines_from t events es ws) part i d lt

-- how many sources the remaining events have
by_kind : (n : ℕ) (e : Event) (ws : List ℕ) (rest : List (ℕ × ℕ)) (b : Bool) → does_read e.kind ≡ b → length ws ≡ length (bytes_read_by n e ++ rest) → length (cond b (drop e.size ws) ws) ≡ length rest
by_kind n e ws rest true is long = omega (arith, long, length-append (bytes_read_by n e) rest, length-read_by n e is, length-drop e.size ws)
by_kind n e ws rest false is long = let none : length (bytes_read_by n e) ≡ 0 = rw is refl in omega (arith, long, length-append (bytes_read_by n e) rest)

pub left_more : (events : List Event) (i : ℕ) (d : Event) (ws : List ℕ) → i < length events → length ws ≡ length (byte_reads_from i (drop i events)) → length (rest_after (get_or events i d) ws) ≡ length (byte_reads_from (i + 1) (drop (i + 1) events))
left_more events i d ws lt long =
    let e = get_or events i d in
    by_kind i e ws (byte_reads_from (i + 1) (drop (i + 1) events)) (does_read e.kind) refl (long ∙ ap length (at_drop_more (byte_reads_from i) events i d lt))

pub room : (events : List Event) (i : ℕ) (d : Event) (ws : List ℕ) → i < length events → length ws ≡ length (byte_reads_from i (drop i events)) → does_read (get_or events i d).kind ≡ true → (get_or events i d).size ≤ length ws
room events i d ws lt long reads =
    let e = get_or events i d in
    omega (arith, long ∙ ap length (at_drop_more (byte_reads_from i) events i d lt), length-append (bytes_read_by i e) (byte_reads_from (i + 1) (drop (i + 1) events)), length-read_by i e reads)

-- the remaining sources are known, as all of them are
known_by : (n size : ℕ) (ws : List ℕ) (b : Bool) → All (λ w. w < n) ws → All (λ w. w < n) (cond b (drop size ws) ws)
known_by n size ws true h = All-drop (λ w. w < n) size ws h
known_by n size ws false h = h

pub known_after : (n : ℕ) (e : Event) (ws : List ℕ) → All (λ w. w < n) ws → All (λ w. w < n) (rest_after e ws)
known_after n e ws h = known_by n e.size ws (does_read e.kind) h

-- ---- the lines of a part of the events, and those of the others
length_by : (n m : ℕ) (e : Event) (b : Bool) → does_read e.kind ≡ b → length (bytes_read_by n e) ≡ length (bytes_read_by m e)
length_by n m e true is = length-read_by n e is ∙ sym (length-read_by m e is)
length_by n m e false is = let first : length (bytes_read_by n e) ≡ 0 = rw is refl in let second : length (bytes_read_by m e) ≡ 0 = rw is refl in first ∙ sym second

length_from : (n m : ℕ) (es : List Event) → length (byte_reads_from n es) ≡ length (byte_reads_from m es)
length_from n m [] = refl
length_from n m (e ∷ es) =
    omega (arith, length-append (bytes_read_by n e) (byte_reads_from (n + 1) es), length-append (bytes_read_by m e) (byte_reads_from (m + 1) es), length_by n m e (does_read e.kind) refl, length_from (n + 1) (m + 1) es)

length_both : (n : ℕ) (es fs : List Event) → length (byte_reads_from n (es ++ fs)) ≡ length (byte_reads_from n es) + length (byte_reads_from n fs)
length_both n [] fs = omega arith
length_both n (e ∷ es) fs =
    omega (arith, length-append (bytes_read_by n e) (byte_reads_from (n + 1) (es ++ fs)), length-append (bytes_read_by n e) (byte_reads_from (n + 1) es), length_both (n + 1) es fs, length_from (n + 1) n fs)

-- a part of the events and the others have as many bytes as all
pub length_parts : (events : List Event) (k : ℕ) → length (byte_reads events) ≡ length (byte_reads (take k events)) + length (byte_reads (drop k events))
length_parts events k = ap (λ (es : List Event). length (byte_reads es)) (sym (take-append-drop k events)) ∙ length_both 0 (take k events) (drop k events)

pub length_behind : (events : List Event) (k : ℕ) → length (byte_reads_from k (drop k events)) ≡ length (byte_reads (drop k events))
length_behind events k = length_from k 0 (drop k events)

-- as many bytes, where those of the others are counted
pub parts_long : (events : List Event) (k n size : ℕ) → n ≡ length (byte_reads events) → size ≡ length (byte_reads_from k (drop k events)) → n ≡ length (byte_reads (take k events)) + size
parts_long events k n size all behind = omega (arith, all, behind, length_parts events k, length_behind events k)

-- the last event that reads, and those behind it
none_bytes : (n : ℕ) (es : List Event) → NoneReads es → length (byte_reads_from n es) ≡ 0
none_bytes n [] none = refl
none_bytes n (e ∷ es) none = rw none.0 (none_bytes (n + 1) es none.1)

pub last_size : (events : List Event) (i : ℕ) (d : Event) → i < length events → NoneReads (drop (i + 1) events) → does_read (get_or events i d).kind ≡ true → (get_or events i d).size ≡ length (byte_reads_from i (drop i events))
last_size events i d lt none reads =
    let e = get_or events i d in
    omega (arith, none_bytes (i + 1) (drop (i + 1) events) none, ap length (at_drop_more (byte_reads_from i) events i d lt), length-append (bytes_read_by i e) (byte_reads_from (i + 1) (drop (i + 1) events)), length-read_by i e reads)

pub last_read_is : (events : List Event) (i : ℕ) (d : Event) → i < length events → NoneReads (drop (i + 1) events) → does_read (get_or events i d).kind ≡ true → OnlyFirstReads (drop i events)
last_read_is events i d lt none reads = subst OnlyFirstReads (sym (drop_more events i d lt)) (reads, none)

module _ (t : Litmus) (events : List Event) where
  line_split : (e : Event) (es : List Event) (ws us later more : List ℕ) (b : Bool) → (b ≡ true → e.size ≤ length ws)
      → lines_from t events es (cond b (drop e.size ws) ws ++ us) ≡ later ++ more
      → cond b (source_line t events e (take e.size (ws ++ us))) [] ++ lines_from t events es (cond b (drop e.size (ws ++ us)) (ws ++ us)) ≡ (cond b (source_line t events e (take e.size ws)) [] ++ later) ++ more
  line_split e es ws us later more true fit behind =
      ap (λ (own : List ℕ). source_line t events e own ++ lines_from t events es (drop e.size (ws ++ us))) (take-append-le e.size ws us (fit refl))
      ∙ ap (λ (rest : List ℕ). source_line t events e (take e.size ws) ++ lines_from t events es rest) (drop-append-le e.size ws us (fit refl))
      ∙ ap (λ (w : List ℕ). source_line t events e (take e.size ws) ++ w) behind
      ∙ sym (append_assoc (source_line t events e (take e.size ws)) later more)
  line_split e es ws us later more false fit behind = behind

  lines_split : (n : ℕ) (es fs : List Event) (ws us : List ℕ) → length ws ≡ length (byte_reads_from n es) → lines_from t events (es ++ fs) (ws ++ us) ≡ lines_from t events es ws ++ lines_from t events fs us
  lines_split n [] fs [] us long = refl
  lines_split n [] fs (w ∷ ws) us long = absurd (omega (arith, long))
  lines_split n (e ∷ es) fs ws us long =
      line_split e (es ++ fs) ws us (lines_from t events es (rest_after e ws)) (lines_from t events fs us) (does_read e.kind)
      (λ reads. omega (arith, long, length-append (bytes_read_by n e) (byte_reads_from (n + 1) es), length-read_by n e reads))
      (lines_split (n + 1) es fs (rest_after e ws) us (by_kind n e ws (byte_reads_from (n + 1) es) (does_read e.kind) refl long))

  -- the lines of a part, and of the others
  lines_both : (k : ℕ) (first last : List ℕ) → length (first ++ last) ≡ length (byte_reads events) → length first ≡ length (byte_reads (take k events))
      → lines_from t events (take k events) first ++ lines_from t events (drop k events) last ≡ from_lines t events (first ++ last)
  lines_both k first last long cut =
      sym (lines_split 0 (take k events) (drop k events) first last cut)
      ∙ ap (λ (es : List Event). lines_from t events es (first ++ last)) (take-append-drop k events)
      ∙ sym (from_lines-is t events (first ++ last) long)

-- ---- the last line, up to its sources and behind
none_lines : (t : Litmus) (events es : List Event) (ws : List ℕ) → NoneReads es → lines_from t events es ws ≡ []
none_lines t events [] ws none = refl
none_lines t events (e ∷ es) ws none = rw none.0 (none_lines t events es ws none.1)

head_and_end : (t : Litmus) (events : List Event) (e : Event) (es : List Event) (ws : List ℕ) (b : Bool) → b ≡ true → take e.size ws ≡ ws → NoneReads es
    → source_head t e ++ line (names_text t events ws) ≡ cond b (source_line t events e (take e.size ws)) [] ++ lines_from t events es (cond b (drop e.size ws) ws)
head_and_end t events e es ws true is whole none =
    sym (append_assoc (source_head t e) (names_text t events ws) (codes "\n"))
    ∙ ap (λ (w : List ℕ). w ++ codes "\n") (append_assoc (codes "  from") (codes " " ++ event_name t e) (names_text t events ws))
    ∙ ap (source_line t events e) (sym whole)
    ∙ sym (append-nil (source_line t events e (take e.size ws)))
    ∙ ap (λ (w : List ℕ). source_line t events e (take e.size ws) ++ w) (sym (none_lines t events es (drop e.size ws) none))
head_and_end t events e es ws false is whole none = absurd cc

last_line : (t : Litmus) (events es : List Event) (ws : List ℕ) → OnlyFirstReads es → length ws ≡ length (byte_reads es) → first_source_head t es ++ line_end t events es ws ≡ lines_from t events es ws
last_line t events [] ws only long = refl
last_line t events (e ∷ es) ws only long =
    head_and_end t events e es ws (does_read e.kind) only.0
    (take_all e.size ws (omega (arith, long, length-append (bytes_read_by 0 e) (byte_reads_from 1 es), length-read_by 0 e only.0, none_bytes 1 es only.1))) only.1

-- the end of a line that there is
pub line_end_is : (t : Litmus) (events es : List Event) (ws : List ℕ) → 1 ≤ length es → line (names_text t events ws) ≡ line_end t events es ws
line_end_is t events [] ws some = absurd (omega (arith, some))
line_end_is t events (e ∷ es) ws some = refl

-- the lines of a choice's reads: up to the sources of the last, and what is behind
pub lines_whole : (t : Litmus) (events : List Event) (k : ℕ) (first last : List ℕ) → length (first ++ last) ≡ length (byte_reads events) → length first ≡ length (byte_reads (take k events)) → OnlyFirstReads (drop k events)
    → lines_up_to t events k first ++ line_end t events (drop k events) last ≡ from_lines t events (first ++ last)
lines_whole t events k first last long cut only =
    append_assoc (lines_from t events (take k events) first) (first_source_head t (drop k events)) (line_end t events (drop k events) last)
    ∙ ap (λ (w : List ℕ). lines_from t events (take k events) first ++ w)
    (last_line t events (drop k events) last only (omega (arith, long, cut, length-append first last, length_parts events k)))
    ∙ lines_both t events k first last long cut
