use Rattle.std.proofs.Common.{◌≡◌, ◌∙◌, ℕ, List, [], false, refl, ap, ap₂, codes}
use Rattle.std.specs.Str.{bytes_eq}
use Rattle.clap.specs.Words.{args_of, groups_of, with_rule}
use Rattle.clap.specs.Simple.{app_of_fields}
use Rattle.lit_desk.specs.declared.limits.TheConstants.{MOST_SEATS}
use Rattle.lit_paths.specs.declared.limits.TheConstants.{CHOICE_LIMIT}
use Rattle.lit_command_line.specs.Words.{with_version}
use Rattle.lit_command_line.proofs.NumberFlags.{added_local, added_none, added_number, added_other, added_ungrouped, none_at_first, none_ungrouped}
use Rattle.lit_command_line.proofs.words.command.Goals as goal

other_name : (id name other : List ℕ) → id ≡ name → bytes_eq name other ≡ false → bytes_eq id other ≡ false
other_name id name other is differs = rw is differs

pub returns-clause-numbers : goal.returns-clause-numbers
returns-clause-numbers c =
    let no_arguments : args_of c.in_ok-bare.bare ≡ [] = ap (λ f. f.args.items) c.in_ok-bare.ensures.0 ∙ ap (λ f. f.args.items) c.after_help.ensures ∙ ap (λ f. f.args.items) c.about.ensures ∙ ap (λ f. f.args.items) c.version.ensures ∙ c.new.ensures.empty.0 in
    let no_groups : groups_of c.in_ok-bare.bare ≡ [] = ap (λ f. f.groups.items) c.in_ok-bare.ensures.0 ∙ ap (λ f. f.groups.items) c.after_help.ensures ∙ ap (λ f. f.groups.items) c.about.ensures ∙ ap (λ f. f.groups.items) c.version.ensures ∙ c.new.ensures.empty.1 in
    let no_globals = ap (λ f. f.has_globals) c.in_ok-bare.ensures.0 ∙ ap (λ f. f.has_globals) c.after_help.ensures ∙ ap (λ f. f.has_globals) c.about.ensures ∙ ap (λ f. f.has_globals) c.version.ensures ∙ c.new.ensures.local in
    let first = c.in_ok-with_workers.ensures in
    let second = c.in_ok-with_cut.ensures in
    let third = c.in_ok-with_quick.ensures in
    let fourth = c.in_ok-with_schedule.ensures in
    let fifth = c.in_ok-whole.ensures in
    record {
      no_groups = fifth.groups ∙ fourth.groups ∙ third.groups ∙ second.groups ∙ first.groups ∙ no_groups;
      ungrouped =
          added_ungrouped _ _ _ fifth (added_ungrouped _ _ _ fourth (added_ungrouped _ _ _ third (added_ungrouped _ _ _ second (added_ungrouped _ _ _ first (none_ungrouped _ no_arguments)
          c.workers_flag.ensures.ungrouped) c.cut_flag.ensures.ungrouped) c.quick_flag.ensures.ungrouped) c.schedule_flag.ensures.ungrouped) c.file_argument.ensures.ungrouped;
      local =
          added_local _ _ _ fifth (added_local _ _ _ fourth (added_local _ _ _ third (added_local _ _ _ second (added_local _ _ _ first no_globals c.workers_flag.ensures.local)
          c.cut_flag.ensures.local) c.quick_flag.ensures.local) c.schedule_flag.ensures.local) c.file_argument.ensures.local;
      workers =
          added_other _ _ _ (codes "workers") 1 MOST_SEATS fifth (other_name _ (codes "file") (codes "workers") c.file_argument.ensures.id refl)
          (added_other _ _ _ (codes "workers") 1 MOST_SEATS fourth (other_name _ (codes "schedule") (codes "workers") c.schedule_flag.ensures.id refl)
          (added_other _ _ _ (codes "workers") 1 MOST_SEATS third (other_name _ (codes "quick") (codes "workers") c.quick_flag.ensures.id refl)
          (added_other _ _ _ (codes "workers") 1 MOST_SEATS second (other_name _ (codes "cut") (codes "workers") c.cut_flag.ensures.reads.id refl)
          (added_number _ _ _ (codes "workers") 1 MOST_SEATS first c.workers_flag.ensures.reads (none_at_first _ (codes "workers") no_arguments)))));
      cut =
          added_other _ _ _ (codes "cut") 1 CHOICE_LIMIT fifth (other_name _ (codes "file") (codes "cut") c.file_argument.ensures.id refl)
          (added_other _ _ _ (codes "cut") 1 CHOICE_LIMIT fourth (other_name _ (codes "schedule") (codes "cut") c.schedule_flag.ensures.id refl)
          (added_other _ _ _ (codes "cut") 1 CHOICE_LIMIT third (other_name _ (codes "quick") (codes "cut") c.quick_flag.ensures.id refl)
          (added_number _ _ _ (codes "cut") 1 CHOICE_LIMIT second c.cut_flag.ensures.reads
          (added_none _ _ _ (codes "cut") first (other_name _ (codes "workers") (codes "cut") c.workers_flag.ensures.reads.id refl) (none_at_first _ (codes "cut") no_arguments)))));
    }

pub returns-clause-whole : goal.returns-clause-whole
returns-clause-whole c =
    c.in_ok-whole.ensures.shape c.file_argument.ensures.local
    ∙ ap₂ with_rule (c.in_ok-with_schedule.ensures.shape c.schedule_flag.ensures.local
    ∙ ap₂ with_rule (c.in_ok-with_quick.ensures.shape c.quick_flag.ensures.local
    ∙ ap₂ with_rule (c.in_ok-with_cut.ensures.shape c.cut_flag.ensures.local
    ∙ ap₂ with_rule (c.in_ok-with_workers.ensures.shape c.workers_flag.ensures.local
    ∙ ap₂ with_rule (ap app_of_fields c.in_ok-bare.ensures.0 ∙ ap app_of_fields c.after_help.ensures ∙ ap app_of_fields c.about.ensures ∙ ap app_of_fields c.version.ensures ∙ ap with_version c.new.ensures.app) c.workers_flag.ensures.rule) c.cut_flag.ensures.rule) c.quick_flag.ensures.rule) c.schedule_flag.ensures.rule) c.file_argument.ensures.rule
