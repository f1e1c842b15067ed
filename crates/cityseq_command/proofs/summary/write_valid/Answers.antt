use Rattle.cityseq_command.proofs.summary.write_valid.Goals as goal

pub returns : goal.returns
returns g c = record {
  whole = rw (c.format.ensures.text, c.format-2.ensures.text) at c.write_texts.ensures.whole;
  front = rw (c.format.ensures.text, c.format-2.ensures.text) at c.write_texts.ensures.front;
  failures = c.write_texts.ensures.failures;
}
