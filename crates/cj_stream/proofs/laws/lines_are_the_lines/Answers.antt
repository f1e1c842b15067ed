use Rattle.cj_stream.proofs.LineLemmas.{lines-are_lines, only-lines, whole-is_whole}
use Rattle.cj_stream.proofs.laws.lines_are_the_lines.Goals as goal

pub returns-clause-are : goal.returns-clause-are
returns-clause-are c = lines-are_lines _

pub returns-clause-only : goal.returns-clause-only
returns-clause-only c = only-lines _

pub returns-clause-whole : goal.returns-clause-whole
returns-clause-whole c = whole-is_whole _
