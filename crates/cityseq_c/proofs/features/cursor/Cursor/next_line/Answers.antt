use Rattle.std.proofs.Common.{arith, length-drop, take_all}
use Rattle.cityseq_c.proofs.CursorLemmas.{passes-begun, passes-ended}
use Rattle.cityseq_c.proofs.features.cursor.Cursor.next_line.Goals as goal

pub returns-clause-passes : goal.returns-clause-passes
returns-clause-passes c =
    grind (arith, take_all, length-drop, passes-ended, passes-begun)
