use Rattle.cj_stream.proofs.ChoiceRowLemmas.{row_apart, row_chain, row_exclude, row_extension}
use Rattle.cj_stream.proofs.row_laws.choice_rows_compute.Goals as goal

pub returns : goal.returns
returns c = record { apart = row_apart; chain = row_chain; exclude = row_exclude; extension = row_extension }
