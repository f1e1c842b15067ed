use Rattle.cj_feature.proofs.Common.{rules, spans_of}
use Rattle.cj_feature.proofs.feature.search.near.Near.mark_all.Goals as goal

pub mark_from_id-requires : goal.mark_from_id-requires
mark_from_id-requires g c =
    let ts = c.args.tokens.now.elements in (
      search rules,
      record {
        of = c.requires.scanned;
        known = λ f o j e k n s at ready. absurd (c.new.ensures k n s at ready);
        waiting = λ f j. c.new-2.ensures f c.args.line.now (spans_of ts);
        sound = c.requires.sound;
      },
    )
