use Rattle.cj_stream.proofs.PartsLemmas.{ending-selection, kept-selection, output-selection}
use Rattle.cj_stream.proofs.laws.lines_left_out_change_nothing.Goals as goal

pub returns-clause-ending : goal.returns-clause-ending
returns-clause-ending c = ending-selection

pub returns-clause-kept : goal.returns-clause-kept
returns-clause-kept c = kept-selection

pub returns-clause-output : goal.returns-clause-output
returns-clause-output c = output-selection
