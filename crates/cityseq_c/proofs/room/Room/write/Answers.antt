use Rattle.std.proofs.Common.{arith}
use Rattle.std.proofs.lemmas.Slice.{drop-put_mid, take-put_mid}
use Rattle.cityseq_c.proofs.room.Room.write.Goals as goal

pub returns : goal.returns
returns c =
    grind (arith, take-put_mid, drop-put_mid)
