use Rattle.std.proofs.Common.{◌≡◌, ◌≤◌, ◌∙◌, ℕ, List, ap, arith, codes, is_some, map, slice_index, sym}
use Rattle.std.specs.Prelude.{unwrap_or}
use Rattle.std.specs.Str.Parse.{ParsesUnsigned, ExplainsUnsignedError, HasUnsignedDigitsIfOk}
use Rattle.clap.specs.Words.{IsParsedFrom, first_of, found_of, one_text}
use Rattle.clap.proofs.WalkLemmas.{first_value-rows}
use Rattle.lit_desk.specs.declared.limits.TheConstants.{MOST_SEATS}
use Rattle.lit_paths.specs.declared.limits.TheConstants.{CHOICE_LIMIT}
use Rattle.lit_command_line.specs.Words.{is_excluded, is_quick}
use Rattle.lit_command_line.proofs.AskedLines.{asked_alone, excluded_by, handed_on, read_by, refused_by, taken_by}
use Rattle.lit_command_line.proofs.NumberFlags.{given_within, number_within}
use Rattle.lit_command_line.proofs.words.line.Goals as goal

pub invariant_of-options : goal.invariant_of-options
invariant_of-options g c =
    let command = c.in_ok-command.ensures in
    let matches = c.in_ok-matches.matches in
    let parsed : IsParsedFrom c.in_ok-command.command matches = record { built = c.try_get_matches_from_mut.new.self; from = c.in_ok-matches.ensures.ok.0; parsed = c.in_ok-matches.ensures.ok.1 } in
    let worker_texts = given_within c.in_ok-command.command matches parsed (codes "workers") 1 MOST_SEATS command.numbers.workers command.numbers.no_groups command.numbers.ungrouped command.numbers.local
    (λ e. let bad : 119 ≡ 0 = ap (λ (l : List ℕ). slice_index l 0) e in absurd (omega arith))
    (λ e. let bad : 119 ≡ 104 = ap (λ (l : List ℕ). slice_index l 0) e in absurd (omega arith))
    (λ e. let bad : 119 ≡ 118 = ap (λ (l : List ℕ). slice_index l 0) e in absurd (omega arith)) in
    let workers : (1 ≤ unwrap_or c.get_one.result 1) × (unwrap_or c.get_one.result 1 ≤ MOST_SEATS) =
    number_within _ (λ bs r. ParsesUnsigned 64 10 bs r × ExplainsUnsignedError 10 bs r × HasUnsignedDigitsIfOk bs r) 64 1 MOST_SEATS 1 (one_text (found_of matches) (codes "workers")) c.get_one.result
    c.get_one.ensures.none c.get_one.ensures.value (λ u x read. read.0) worker_texts (omega arith) (omega arith) in
    let cut_texts = given_within c.in_ok-command.command matches parsed (codes "cut") 1 CHOICE_LIMIT command.numbers.cut command.numbers.no_groups command.numbers.ungrouped command.numbers.local
    (λ e. let bad : 99 ≡ 0 = ap (λ (l : List ℕ). slice_index l 0) e in absurd (omega arith))
    (λ e. let bad : 99 ≡ 104 = ap (λ (l : List ℕ). slice_index l 0) e in absurd (omega arith))
    (λ e. let bad : 99 ≡ 118 = ap (λ (l : List ℕ). slice_index l 0) e in absurd (omega arith)) in
    let cut : (1 ≤ unwrap_or c.get_one-2.result 4096) × (unwrap_or c.get_one-2.result 4096 ≤ CHOICE_LIMIT) =
    number_within _ (λ bs r. ParsesUnsigned 64 10 bs r × ExplainsUnsignedError 10 bs r × HasUnsignedDigitsIfOk bs r) 64 1 CHOICE_LIMIT 4096 (one_text (found_of matches) (codes "cut")) c.get_one-2.result
    c.get_one-2.ensures.none c.get_one-2.ensures.value (λ u x read. read.0) cut_texts (omega arith) (omega arith) in
    record {
      some_workers = rw c.unwrap_or-workers.ensures workers.0;
      few_workers = rw c.unwrap_or-workers.ensures workers.1;
      some_cut = rw c.unwrap_or-cut.ensures cut.0;
      small_cut = rw c.unwrap_or-cut.ensures cut.1;
    }

pub returns-in_err-matches-clause-refused : goal.returns-in_err-matches-clause-refused
returns-in_err-matches-clause-refused g c =
    let has = refused_by _ (map g.S.AsStr.text c.args.words.now) c.in_err-matches.field-0.0 c.in_ok-command.ensures.whole c.in_err-matches.ensures.kinds in
    handed_on c.from_residual-in_err-matches.result c.in_err-matches.field-0.0 _ c.from_residual-in_err-matches.ensures.1 has

pub returns-in-Some-clause-refused : goal.returns-in-Some-clause-refused
returns-in-Some-clause-refused g c =
    let words = map g.S.AsStr.text c.args.words.now in
    let whole = c.in_ok-command.ensures.whole in
    let rows = read_by _ words c.in_ok-matches.matches whole c.in_ok-matches.ensures.ok.2 in
    excluded_by words c.in_ok-error.field-0 (taken_by _ words whole c.in_ok-matches.ensures.kinds)
    (ap is_excluded (sym rows) ∙ sym c.exclusion.ensures ∙ ap is_some c.in-Some.is) c.in_ok-error.ensures.kind

pub returns-clause-asked : goal.returns-clause-asked
returns-clause-asked g c =
    let words = map g.S.AsStr.text c.args.words.now in
    let whole = c.in_ok-command.ensures.whole in
    let found = found_of c.in_ok-matches.matches in
    let rows = read_by _ words c.in_ok-matches.matches whole c.in_ok-matches.ensures.ok.2 in
    record {
      run = asked_alone words (taken_by _ words whole c.in_ok-matches.ensures.kinds) (ap is_excluded (sym rows) ∙ sym c.exclusion.ensures ∙ ap is_some c.in_default.is);
      quick = c.is_quick.ensures ∙ ap is_quick rows;
      schedule = c.get_str.ensures ∙ first_value-rows found (codes "schedule") ∙ ap (first_of (codes "schedule")) rows;
      file = c.get_str-2.ensures ∙ first_value-rows found (codes "file") ∙ ap (first_of (codes "file")) rows;
    }
