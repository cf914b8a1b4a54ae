-- What a command's arguments for numbers give.
use Rattle.std.proofs.Common.{◌≡◌, ◌∙◌, ◌++◌, ◌||◌, ◌<◌, ◌≤◌, ◌+◌, ℕ, Bool, true, false, List, [], ◌∷◌, length, Option, Some, None, refl, sym, ap, subst, inl, inr, arith, codes}
use Rattle.std.specs.Prelude.{option_map, slice_get, unwrap_or, Ok, Result}
use Rattle.std.specs.Borrow.{Bor}
use Rattle.std.specs.List.{All, slice_index_or}
use Rattle.std.specs.Str.{bytes_eq}
use Rattle.std.specs.Str.Parse.{ParsesUnsigned, digits_value, without_leading_plus}
use Rattle.std.proofs.lemmas.Bool.{cases_lt}
use Rattle.std.proofs.lemmas.List.{get_or_append_left, get_or-append-add, length_push}
use Rattle.std.proofs.lemmas.List.Elements.{All-get_or, All-nil, All-push}
use Rattle.std.proofs.lemmas.Slice.Eq.{bytes_eq-Decides}
use Rattle.clap.specs.Words.{AddsArg, IsParsedFrom, IsUnsignedIn, ReadsOne, args_of, found_of, groups_of, matched_of, one_text, parser_of, read_as, reading_of}
use Rattle.clap.specs.Built.{NamesNoGroup}
use Rattle.clap.specs.Facts.{Entry, EntryPasses, HasReading, PassesArg, parser_of_value}
use Rattle.clap.specs.declared.builder.arg.Arg.{Arg}
use Rattle.clap.specs.declared.builder.command.Command.{Command}
use Rattle.clap.specs.declared.builder.command.Command.TheViews.{out-Command}
use Rattle.clap.specs.declared.builder.value_parser.ValueParser.TheVariants as parsers
use Rattle.clap.specs.declared.builder.value_parser.Reading.{Reading}
use Rattle.clap.specs.declared.builder.value_parser.Reading.TheVariants as readings
use Rattle.clap.specs.declared.parser.matches.ArgMatches.{ArgMatches}
use Rattle.clap.specs.declared.parser.matches.MatchedArg.{MatchedArg}
use Rattle.clap.proofs.CallerLemmas.{entry_by_id, same_rules_by_id}
use Rattle.lit_command_line.specs.Internal.Command.{ReadsNumber, TakesNumber}

-- the arguments of before stand where they stood, and the one added stands behind them
at_left : (old new : Command) (a : Arg) (added : AddsArg old a new) (j : ℕ) (none : Arg) → j < length (args_of old)
    → slice_index_or (args_of new) j none ≡ slice_index_or (args_of old) j none
at_left old new a added j none lt =
    ap (λ (l : List Arg). slice_index_or l j none) added.args ∙ get_or_append_left (args_of old) (added.arg ∷ []) none j lt

at_end : (old new : Command) (a : Arg) (added : AddsArg old a new) (j : ℕ) (none : Arg) → j ≡ length (args_of old)
    → slice_index_or (args_of new) j none ≡ added.arg
at_end old new a added j none is =
    let last : j ≡ length (args_of old) + 0 = omega arith in
    ap (λ (l : List Arg). slice_index_or l j none) added.args
    ∙ ap (λ (i : ℕ). slice_index_or (args_of old ++ added.arg ∷ []) i none) last
    ∙ get_or-append-add (args_of old) (added.arg ∷ []) 0 none

one_longer : (old new : Command) (a : Arg) (added : AddsArg old a new) → length (args_of new) ≡ length (args_of old) + 1
one_longer old new a added = ap length added.args ∙ length_push (args_of old) added.arg

-- an argument for numbers is still the only one of its name behind one of another name
pub added_other : (old new : Command) (a : Arg) (name : List ℕ) (low high : ℕ) → AddsArg old a new → bytes_eq a.id.now name ≡ false
    → TakesNumber old name low high → TakesNumber new name low high
added_other old new a name low high added other t =
    let longer = one_longer old new a added in
    let there = t.is_there in
    record {
      place = t.place;
      is_there = omega arith;
      reads = λ none. subst (λ (x : Arg). ReadsNumber x name low high) (sym (at_left old new a added t.place none t.is_there)) (t.reads none);
      alone = λ j none lt same. elim (cases_lt j (length (args_of old))) [
        | inl under ↦ t.alone j none under (subst (λ (x : Arg). bytes_eq x.id.now name ≡ true) (at_left old new a added j none under) same)
        | inr over ↦
            let last : j ≡ length (args_of old) = omega arith in
            let is_added : bytes_eq added.arg.id.now name ≡ true = subst (λ (x : Arg). bytes_eq x.id.now name ≡ true) (at_end old new a added j none last) same in
            let yes : bytes_eq a.id.now name ≡ true = rw (added.rules.id) at is_added in
            let bad : false ≡ true = sym other ∙ yes in
            absurd cc
      ];
    }

-- and it is the only one where none of before has its name
pub added_number : (old new : Command) (a : Arg) (name : List ℕ) (low high : ℕ) → AddsArg old a new → ReadsNumber a name low high
    → ((j : ℕ) (none : Arg) → j < length (args_of old) → bytes_eq (slice_index_or (args_of old) j none).id.now name ≡ true → ⊥)
    → TakesNumber new name low high
added_number old new a name low high added reads none_before =
    let longer = one_longer old new a added in
    record {
      place = length (args_of old);
      is_there = omega arith;
      reads = λ none. subst (λ (x : Arg). ReadsNumber x name low high) (sym (at_end old new a added (length (args_of old)) none refl)) (record {
        id = ap (λ (i : Bor (List ℕ)). i.now) added.rules.id ∙ reads.id;
        parser = added.rules.parser _ reads.parser;
      });
      alone = λ j none lt same. elim (cases_lt j (length (args_of old))) [
        | inl under ↦ absurd (none_before j none under (subst (λ (x : Arg). bytes_eq x.id.now name ≡ true) (at_left old new a added j none under) same))
        | inr over ↦ omega arith
      ];
    }

-- no argument has a name that none of before has, nor the one added
pub added_none : (old new : Command) (a : Arg) (name : List ℕ) → AddsArg old a new → bytes_eq a.id.now name ≡ false
    → ((j : ℕ) (none : Arg) → j < length (args_of old) → bytes_eq (slice_index_or (args_of old) j none).id.now name ≡ true → ⊥)
    → (j : ℕ) (none : Arg) → j < length (args_of new) → bytes_eq (slice_index_or (args_of new) j none).id.now name ≡ true → ⊥
added_none old new a name added other before j none lt same = elim (cases_lt j (length (args_of old))) [
  | inl under ↦ before j none under (subst (λ (x : Arg). bytes_eq x.id.now name ≡ true) (at_left old new a added j none under) same)
  | inr over ↦
      let longer = one_longer old new a added in
      let last : j ≡ length (args_of old) = omega arith in
      let is_added : bytes_eq added.arg.id.now name ≡ true = subst (λ (x : Arg). bytes_eq x.id.now name ≡ true) (at_end old new a added j none last) same in
      let yes : bytes_eq a.id.now name ≡ true = rw (added.rules.id) at is_added in
      let bad : false ≡ true = sym other ∙ yes in
      absurd cc
]

-- a command without arguments has none of any name
pub none_at_first : (command : Command) (name : List ℕ) → args_of command ≡ []
    → (j : ℕ) (none : Arg) → j < length (args_of command) → bytes_eq (slice_index_or (args_of command) j none).id.now name ≡ true → ⊥
none_at_first command name empty j none lt same =
    let bad : j < 0 = rw empty at lt in
    absurd (omega arith)

-- a command stays without arguments that count below it
pub added_local : (old new : Command) (a : Arg) → AddsArg old a new → (out-Command old).has_globals ≡ false → a.global ≡ false
    → (out-Command new).has_globals ≡ false
added_local old new a added before local =
    added.globals ∙ (ap (λ (b : Bool). b || a.global) before ∙ ap (λ (b : Bool). false || b) local)

-- and so none of its arguments names a group
pub none_ungrouped : (command : Command) → args_of command ≡ [] → NamesNoGroup command
none_ungrouped command empty = subst (All (λ (a : Arg). a.groups.items ≡ [])) (sym empty) (All-nil (λ (a : Arg). a.groups.items ≡ []))

pub added_ungrouped : (old new : Command) (a : Arg) → AddsArg old a new → NamesNoGroup old → a.groups.items ≡ [] → NamesNoGroup new
added_ungrouped old new a added before ungrouped =
    rw added.args (All-push (λ (x : Arg). x.groups.items ≡ []) (args_of old) added.arg before (added.rules.groups ∙ ungrouped))

-- each argument of this name takes a number from the one to the other
abbrev HasLimits : Command → List ℕ → ℕ → ℕ → Type 0
HasLimits built name low high = (j : ℕ) (x : Arg) → j < length (args_of built) → slice_index_or (args_of built) j x ≡ x → bytes_eq x.id.now name ≡ true
    → parser_of x ≡ parsers.Unsigned low high

-- so it is with the command that a parse builds
built_limits : (command : Command) (m : ArgMatches) (p : IsParsedFrom command m) (name : List ℕ) (low high : ℕ) → TakesNumber command name low high
    → (name ≡ codes "help" → ⊥) → (name ≡ codes "version" → ⊥) → HasLimits p.built name low high
built_limits command m p name low high t no_help no_version j x lt at same =
    let here = t.reads x in
    let is_name : (slice_index_or (args_of command) t.place x).id.now ≡ name = here.id in
    let rules = same_rules_by_id command m p t.place x t.is_there
    (λ i e under is. t.alone i e under (subst (λ (w : List ℕ). bytes_eq (slice_index_or (args_of command) i e).id.now w ≡ true) is_name is))
    (λ auto. elim auto [ inl h ↦ no_help (sym is_name ∙ h) | inr h ↦ no_version (sym is_name ∙ h) ])
    j x lt at (subst (λ (w : List ℕ). bytes_eq x.id.now w ≡ true) (sym is_name) same) in
    ap parser_of_value (rules.parser _ here.parser)

-- such an argument is read as it is written
read_as_written : (built : Command) (name : List ℕ) (low high : ℕ) → HasLimits built name low high
    → (reading : Reading) → HasReading built name reading → reading ≡ readings.AsWritten
read_as_written built name low high limits reading h =
    let parser : parser_of h.1 ≡ parsers.Unsigned low high = limits h.0 h.1 h.2 h.3 h.4.0 in
    let written : reading_of (parser_of h.1) ≡ readings.AsWritten = rw parser refl in
    rw (← h.4.1) written

-- what it takes is within its limits
taken_within : (built : Command) (name : List ℕ) (low high : ℕ) → HasLimits built name low high
    → (text : List ℕ) → PassesArg built name text → IsUnsignedIn low high text
taken_within built name low high limits text h =
    let parser : parser_of h.1 ≡ parsers.Unsigned low high = limits h.0 h.1 h.2 h.3 h.4.0 in
    rw parser at h.4.1

-- and so is the first of its values
first_within : (built : Command) (name : List ℕ) (low high : ℕ) → HasLimits built name low high
    → (reading : Reading) (values : List (Bor (List ℕ))) → reading ≡ readings.AsWritten → All (λ v. PassesArg built name v.now) values
    → (text : List ℕ) → option_map (λ s. read_as reading s.now) (slice_get values 0) ≡ Some text → IsUnsignedIn low high text
first_within built name low high limits reading [] written passes text given = absurd cc
first_within built name low high limits reading (v ∷ values) written passes text given =
    let same : Some v.now ≡ Some text = rw written at given in
    let is_text : v.now ≡ text = ap (λ (o : Option (List ℕ)). unwrap_or o text) same in
    subst (λ (w : List ℕ). IsUnsignedIn low high w) is_text
    (taken_within built name low high limits v.now (All-get_or (λ w. PassesArg built name w.now) (v ∷ values) 0 v (omega arith) passes))

-- an entry of this name has values that were taken, and is read as it is written
entry_within : (built : Command) (name : List ℕ) (low high : ℕ) → HasLimits built name low high → groups_of built ≡ [] → (name ≡ [] → ⊥)
    → (e : Entry) → e.0.now ≡ name → EntryPasses built e
    → (e.1.reading ≡ readings.AsWritten) × All (λ v. PassesArg built name v.now) e.1.vals.items
entry_within built name low high limits no_groups named e key passes = (
  elim passes.4 [
    | inl g ↦ absurd (no_group g)
    | inr h ↦ read_as_written built name low high limits e.1.reading (subst (λ (w : List ℕ). HasReading built w e.1.reading) key h)
  ],
  elim passes.0 [
    | inl g ↦ absurd (no_group g)
    | inr values ↦ subst (λ (w : List ℕ). All (λ v. PassesArg built w v.now) e.1.vals.items) key values
  ],
)
  where
    no_group : e.1.is_group ≡ true → ⊥
    no_group g = elim (passes.3 g) [
      | inl empty ↦ named (sym key ∙ empty)
      | inr lots ↦
          let bad : 0 < 0 = rw no_groups at lots in
          absurd (omega arith)
    ]

-- what is read of such an argument is a number within its limits
pub given_within : (command : Command) (m : ArgMatches) (p : IsParsedFrom command m) (name : List ℕ) (low high : ℕ) → TakesNumber command name low high
    → groups_of command ≡ [] → NamesNoGroup command → (out-Command command).has_globals ≡ false
    → (name ≡ [] → ⊥) → (name ≡ codes "help" → ⊥) → (name ≡ codes "version" → ⊥)
    → (text : List ℕ) → one_text (found_of m) name ≡ Some text → IsUnsignedIn low high text
given_within command m p name low high t no_groups ungrouped globals named no_help no_version text is =
    at_match (matched_of (found_of m) name) refl
  where
    at_entry : (x : MatchedArg) → matched_of (found_of m) name ≡ Some x
        → ((e : Entry) × (e.1 ≡ x) × (bytes_eq e.0.now name ≡ true) × EntryPasses p.built e) → IsUnsignedIn low high text
    at_entry x found got =
        let limits = built_limits command m p name low high t no_help no_version in
        let key : got.0.0.now ≡ name = (bytes_eq-Decides got.0.0.now name).0 got.2 in
        let within = entry_within p.built name low high limits ((p.from.same_groups ungrouped).1 ∙ no_groups) named got.0 key got.3 in
        let given : option_map (λ s. read_as x.reading s.now) (slice_get x.vals.items 0) ≡ Some text = rw found at is in
        first_within p.built name low high limits x.reading x.vals.items (rw got.1 at within.0) (rw got.1 at within.1) text given

    at_match : (o : Option MatchedArg) → matched_of (found_of m) name ≡ o → IsUnsignedIn low high text
    at_match None e =
        let bad : None ≡ Some text = rw e at is in
        absurd cc
    at_match (Some x) e =
        at_entry x e (entry_by_id (EntryPasses p.built) (found_of m).entries.items name x (p.parsed (p.from.globals ∙ globals)).values e)

-- and so is the number itself, or the usual one where none is given
pub number_within : (E : Type 0) (G : List ℕ → Result ℕ E → Type 0) (k low high usual : ℕ) (given : Option (List ℕ)) (o : Option ℕ)
    → (given ≡ None → o ≡ None) → ((text : List ℕ) → given ≡ Some text → ReadsOne G text o)
    → ((u : List ℕ) (r : Result ℕ E) → G u r → ParsesUnsigned k 10 u r)
    → ((text : List ℕ) → given ≡ Some text → IsUnsignedIn low high text)
    → low ≤ usual → usual ≤ high
    → (low ≤ unwrap_or o usual) × (unwrap_or o usual ≤ high)
number_within E G k low high usual given o none some only within least most = at_text given refl o refl
  where
    at_text : (text : Option (List ℕ)) → given ≡ text → (p : Option ℕ) → o ≡ p → (low ≤ unwrap_or o usual) × (unwrap_or o usual ≤ high)
    at_text text e None is = rw is (least, most)
    at_text None e (Some n) is =
        let bad : Some n ≡ None = sym is ∙ none e in
        absurd cc
    at_text (Some text) e (Some n) is =
        let read : G text (Ok n) = rw is at some text e in
        let value : n ≡ digits_value 10 (without_leading_plus text) = (only text (Ok n) read).1 in
        let bounds = within text e in
        rw (is, value) (bounds.2, bounds.3)
