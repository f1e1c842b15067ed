use Rattle.cityseq_c.proofs.AnswerLemmas.{attributes, between, bit, blank, record_of}
use Rattle.cityseq_c.proofs.row_laws.feature_rows_compute.Goals as goal

pub returns-clause-blank : goal.returns-clause-blank
returns-clause-blank c = blank

pub returns-clause-between : goal.returns-clause-between
returns-clause-between c = between

pub returns-clause-record_of : goal.returns-clause-record_of
returns-clause-record_of c = record_of

pub returns-clause-bits : goal.returns-clause-bits
returns-clause-bits c = bit

pub returns-clause-attributes : goal.returns-clause-attributes
returns-clause-attributes c = attributes
