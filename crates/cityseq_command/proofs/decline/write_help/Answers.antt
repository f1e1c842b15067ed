use Rattle.cityseq_command.proofs.Common.{Complete, End, channel}
use Rattle.cityseq_command.proofs.PerformLemmas.{Says-kept}
use Rattle.cityseq_command.proofs.decline.write_help.Goals as goal

pub returns : goal.returns
returns g c =
    let text = c.args.text.now in
    let said : End = c.end_of_writing-said.result in
    record {
      text = text;
      said = said;
      shown = c.show.result;
      says = Says-kept _ (channel g.W.Write.contents c.write_text.new.out) _ c.flush.ensures.bytes
          c.flush.ensures.failures text Complete said
          (c.write_text.result, c.end_of_writing-said.ensures, c.write_text.ensures);
      reports = record {
        flushed = c.flush.result;
        answered = c.flush.ensures.noted;
        end = c.show.ensures.end;
        line = record {
          whole = c.show.ensures.whole;
          front = c.show.ensures.front;
          failures = c.show.ensures.failures;
        };
      };
      status = c.status.ensures;
    }
