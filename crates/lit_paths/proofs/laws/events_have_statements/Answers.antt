use Rattle.lit_paths.proofs.MakerSteps.{makers_counted}
use Rattle.lit_paths.proofs.MakerLaws.{makers_exist, makers_once, makers_rise, makers_met}
use Rattle.lit_paths.proofs.laws.events_have_statements.Goals as goal

pub returns-clause-some : goal.returns-clause-some
returns-clause-some c = makers_exist

pub returns-clause-one : goal.returns-clause-one
returns-clause-one c = makers_once

pub returns-clause-one_each : goal.returns-clause-one_each
returns-clause-one_each c = makers_counted

pub returns-clause-rising : goal.returns-clause-rising
returns-clause-rising c = makers_rise

pub returns-clause-met : goal.returns-clause-met
returns-clause-met c = makers_met
