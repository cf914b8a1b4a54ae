-- What `clap` makes of the words, by the command's own definition.
use Rattle.std.proofs.Common.{◌≡◌, Bool, true, false, List, [], ◌∷◌, Option, Some, None, is_some, option_map, if◌then◌else◌, Ok, Err, IfErr, refl, sym, ap, subst, inl, inr}
use Rattle.std.specs.declared.result.Result.{Result}
use Rattle.std.specs.Result.{IsErrAnd}
use Rattle.std.specs.Borrow.{Bor}
use Rattle.clap.specs.Words.{App, HasKind, HasMatchesOf, IsAmong, Kinds, Text, fault_of, found_of, is_simple_and_free, kind_of, matches_of, rows_of}
use Rattle.clap.specs.Kinds.{or_else}
use Rattle.clap.specs.declared.error.Error.{Error}
use Rattle.clap.specs.declared.error.kind.ErrorKind.{ErrorKind}
use Rattle.clap.specs.declared.error.kind.ErrorKind.TheVariants as kinds
use Rattle.clap.specs.declared.parser.matches.ArgMatches.{ArgMatches}
use Rattle.lit_command_line.specs.Words.{faults_of, is_excluded, jslit_command}

-- what is among the first kinds is among those and others
among_first : (k : ErrorKind) (first next : Kinds) → IsAmong k first → IsAmong k (or_else first next)
among_first k [] next among = absurd among
among_first k (x ∷ xs) next among = among

kind_of_first : (first next : Kinds) (e : Error) → HasKind first e → HasKind (or_else first next) e
kind_of_first first next e has = elim has [ inl memory ↦ inl memory | inr among ↦ inr (among_first (kind_of e) first next among) ]

-- an error of a parse is one of the words
pub refused_by : (a : App) (words : List Text) (e : Error) → a ≡ jslit_command → (is_simple_and_free a ≡ true → HasKind (fault_of a words) e)
    → HasKind (faults_of words) e
refused_by a words e is has =
    kind_of_first (fault_of jslit_command words) _ e (subst (λ (b : App). HasKind (fault_of b words) e) is (has (ap is_simple_and_free is)))

-- a parse that succeeds has no fault of the command's, and its matches are the command's
pub taken_by : (a : App) (words : List Text) → a ≡ jslit_command → (is_simple_and_free a ≡ true → fault_of a words ≡ []) → fault_of jslit_command words ≡ []
taken_by a words is none = subst (λ (b : App). fault_of b words ≡ []) is (none (ap is_simple_and_free is))

pub read_by : (a : App) (words : List Text) (m : ArgMatches) → a ≡ jslit_command → HasMatchesOf a words m → rows_of (found_of m) ≡ matches_of jslit_command words
read_by a words m is has = (subst (λ (b : App). HasMatchesOf b words m) is has refl).0

-- the words have no fault where the command has none, and no schedule stands with a flag of a report
with_none : (first : Kinds) (is_out : Bool) → first ≡ [] → is_out ≡ false → or_else first (if is_out then kinds.ArgumentConflict ∷ [] else []) ≡ []
with_none first is_out none alone = rw (none, alone) refl

pub asked_alone : (words : List Text) → fault_of jslit_command words ≡ [] → is_excluded (matches_of jslit_command words) ≡ false → faults_of words ≡ []
asked_alone words none alone = with_none (fault_of jslit_command words) (is_excluded (matches_of jslit_command words)) none alone

-- where the command has none, a schedule with a flag of a report is the fault
with_conflict : (first : Kinds) (is_out : Bool) (k : ErrorKind) → first ≡ [] → is_out ≡ true → k ≡ kinds.ArgumentConflict
    → IsAmong k (or_else first (if is_out then kinds.ArgumentConflict ∷ [] else []))
with_conflict first is_out k none out is = rw (none, out) (inl is)

pub excluded_by : (words : List Text) (e : Error) → fault_of jslit_command words ≡ [] → is_excluded (matches_of jslit_command words) ≡ true
    → kind_of e ≡ kinds.ArgumentConflict → HasKind (faults_of words) e
excluded_by words e none out is =
    inr (with_conflict (fault_of jslit_command words) (is_excluded (matches_of jslit_command words)) (kind_of e) none out is)

-- whether there is one, told of the texts behind references
pub some_of : (read : Option (Bor Text)) (text : Option Text) (b : Bool) → option_map (λ s. s.now) read ≡ text → b ≡ is_some read → b ≡ is_some text
some_of None text b is some = rw (← is) some
some_of (Some x) text b is some = rw (← is) some

-- an error that is handed on is the same
pub handed_on : {X : Type 0} (r : Result X Error) (e : Error) (P : Error → Type 0) → IsErrAnd r (λ x. x ≡ e) → P e → IfErr r P
handed_on (Ok x) e P is has = absurd is
handed_on (Err x) e P is has = subst P (sym is) has
