use Rattle.cj_stream.proofs.Ranges.{words-widened}
use Rattle.cj_stream.proofs.tally.adding.widened_words.Goals as goal

pub returns : goal.returns
returns c n word =
    words-widened _ _ _ _ _ n c.min.ensures c.max.ensures word
