use Rattle.lit_valid.proofs.laws.laws_below.Goals as goal

pub returns : goal.returns
returns c = record {
  walked = c.combinations_are_walked.ensures;
  tell = c.paths_tell_their_runs.ensures;
  choose = c.runs_choose_for_each_read.ensures;
  listed = c.combinations_are_listed.ensures;
  chosen = c.choices_are_listed.ensures;
  choice = c.candidate_executions_have_choices.ensures;
  numbered = c.choices_have_numbers.ensures;
  placed = c.choices_are_on_combinations.ensures;
  grow = c.relations_grow_with_bytes.ensures;
  stay = c.values_stay.ensures;
  of_events = c.byte_reads_are_of_events.ensures;
}
