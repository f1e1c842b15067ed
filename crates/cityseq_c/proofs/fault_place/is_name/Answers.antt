use Rattle.std.proofs.Common.{arith, refl}
use Rattle.std.proofs.lemmas.Str.{is_utf8-from_IsUtf8}
use Rattle.cityseq_c.proofs.QueryLemmas.{not_text}
use Rattle.cityseq_c.proofs.fault_place.is_name.Goals as goal

pub returns-in-Ok : goal.returns-in-Ok
returns-in-Ok c =
    grind (arith, is_utf8-from_IsUtf8)

pub returns-in-Err : goal.returns-in-Err
returns-in-Err c = rw (not_text _ c.args.item.now refl c.in-Err.ensures.cases.0) refl
