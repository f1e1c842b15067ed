use Rattle.cj_stream.proofs.Common.{Err, Invalid, IsUtf8, IsUtf8-from_is_utf8, IsValidUpTo, Json, NotUtf8, ap, false, is_utf8, is_utf8-from_IsUtf8, refl, rules, subst, sym, utf8_valid_len-IsValidUpTo, ◌∙◌, ◌≡◌}
use Rattle.cj_spans.proofs.Judgements.{judgement}
use Rattle.cj_stream.proofs.VerdictLemmas.{verdict-bytes, verdict-json, ok-tree, ok-verdict, syntax-refused, deep-refused, not_text, syntax-unspelled, deep-unspelled}
use Rattle.cj_stream.proofs.LineLemmas.{not_true}
use Rattle.cj_spans.specs.declared.fault.LineFault.TheVariants.{Syntax, TooDeep}
use Rattle.cj_stream.proofs.judge.judge.Goals as goal

pub returns-in-Ok-clause-says : goal.returns-in-Ok-clause-says
returns-in-Ok-clause-says c = λ rules number header le same not_blank.
    let text : IsUtf8 c.args.content.now = c.scan_reserved.ensures.utf8 (λ i e. cc) in
    let answer =
    rw c.in-Ok.is at (c.scan_reserved.ensures.judged (judgement c.args.content.now c.args.opened.now.limit) text) in
    rw (verdict-json rules number header c.args.content.now le text not_blank, same)
    (ok-verdict rules number header (judgement c.args.content.now c.args.opened.now.limit) c.in-Ok.field-0 answer)

pub returns-in-Ok-clause-holds : goal.returns-in-Ok-clause-holds
returns-in-Ok-clause-holds c =
    let text : IsUtf8 c.args.content.now = c.scan_reserved.ensures.utf8 (λ i e. cc) in
    record {
      text = is_utf8-from_IsUtf8 c.args.content.now text;
      count = search rules;
      peak = search rules;
      closed = search rules;
      opened_peak = search rules;
    }

pub returns-in-Ok-clause-tree : goal.returns-in-Ok-clause-tree
returns-in-Ok-clause-tree c =
    let text : IsUtf8 c.args.content.now = c.scan_reserved.ensures.utf8 (λ i e. cc) in
    let tree = c.in-Ok.ensures.tree in
    let answer =
    rw c.in-Ok.is at (c.scan_reserved.ensures.judged (judgement c.args.content.now c.args.opened.now.limit) text) in
    let found =
    ok-tree (judgement c.args.content.now c.args.opened.now.limit) c.in-Ok.field-0 tree.0 tree.1.only answer in
    record {
      tokens_of =
          record {
            tree = tree.0;
            json = tree.1.json;
            shown = tree.1.shown;
            count = tree.1.count;
            linked = tree.1.linked;
          };
      json = subst (Json c.args.content.now) (sym found.0) tree.1.json;
    }

pub returns-in-Err-NotUtf8-clause-says : goal.returns-in-Err-NotUtf8-clause-says
returns-in-Err-NotUtf8-clause-says c = λ rules number header le same not_blank.
    let place : IsValidUpTo c.args.content.now c.in-Err-NotUtf8.place =
    (c.scan_reserved.ensures.not_utf8 c.in-Err-NotUtf8.place).0
    (c.in-Err-NotUtf8.is ∙ ap Err c.in-Err-NotUtf8.field-0-is) in
    verdict-bytes rules number header c.args.content.now le (not_text c.args.content.now c.in-Err-NotUtf8.place place)
    ∙ ap (λ i. Invalid i NotUtf8) (utf8_valid_len-IsValidUpTo c.args.content.now c.in-Err-NotUtf8.place place)

pub returns-in-Err-Syntax-clause-says : goal.returns-in-Err-Syntax-clause-says
returns-in-Err-Syntax-clause-says c = λ rules number header le same not_blank.
    let is : c.scan_reserved.result ≡ Err (Syntax c.in-Err-Syntax.place) = c.in-Err-Syntax.is
    ∙ ap Err c.in-Err-Syntax.field-0-is in
    let text : IsUtf8 c.args.content.now =
    c.scan_reserved.ensures.utf8 (λ i f. cc) in
    let answer =
    rw is at (c.scan_reserved.ensures.judged (judgement c.args.content.now c.args.opened.now.limit) text) in
    rw (verdict-json rules number header c.args.content.now le text not_blank, same)
    (syntax-refused rules number header (judgement c.args.content.now c.args.opened.now.limit) c.in-Err-Syntax.place
    answer)

pub returns-in-Err-TooDeep-clause-says : goal.returns-in-Err-TooDeep-clause-says
returns-in-Err-TooDeep-clause-says c = λ rules number header le same not_blank.
    let is : c.scan_reserved.result ≡ Err (TooDeep c.in-Err-TooDeep.place) = c.in-Err-TooDeep.is
    ∙ ap Err c.in-Err-TooDeep.field-0-is in
    let text : IsUtf8 c.args.content.now =
    c.scan_reserved.ensures.utf8 (λ i f. cc) in
    let answer =
    rw is at (c.scan_reserved.ensures.judged (judgement c.args.content.now c.args.opened.now.limit) text) in
    rw (verdict-json rules number header c.args.content.now le text not_blank, same)
    (deep-refused rules number header (judgement c.args.content.now c.args.opened.now.limit) c.in-Err-TooDeep.place
    answer)

pub returns-in-Err-NotUtf8-clause-unread : goal.returns-in-Err-NotUtf8-clause-unread
returns-in-Err-NotUtf8-clause-unread c =
    let place : IsValidUpTo c.args.content.now c.in-Err-NotUtf8.place =
    (c.scan_reserved.ensures.not_utf8 c.in-Err-NotUtf8.place).0
    (c.in-Err-NotUtf8.is ∙ ap Err c.in-Err-NotUtf8.field-0-is) in
    let bytes : is_utf8 c.args.content.now ≡ false =
    not_true (is_utf8 c.args.content.now)
    (λ y. not_text c.args.content.now c.in-Err-NotUtf8.place place
    (IsUtf8-from_is_utf8 c.args.content.now y)) in
    rw bytes refl

pub returns-in-Err-Syntax-clause-unread : goal.returns-in-Err-Syntax-clause-unread
returns-in-Err-Syntax-clause-unread c =
    let is : c.scan_reserved.result ≡ Err (Syntax c.in-Err-Syntax.place) = c.in-Err-Syntax.is
    ∙ ap Err c.in-Err-Syntax.field-0-is in
    let text : IsUtf8 c.args.content.now =
    c.scan_reserved.ensures.utf8 (λ i f. cc) in
    let answer =
    rw is at (c.scan_reserved.ensures.judged (judgement c.args.content.now c.args.opened.now.limit) text) in
    rw (is_utf8-from_IsUtf8 c.args.content.now text) (syntax-unspelled (judgement c.args.content.now
    c.args.opened.now.limit) c.in-Err-Syntax.place answer)

pub returns-in-Err-TooDeep-clause-unread : goal.returns-in-Err-TooDeep-clause-unread
returns-in-Err-TooDeep-clause-unread c =
    let is : c.scan_reserved.result ≡ Err (TooDeep c.in-Err-TooDeep.place) = c.in-Err-TooDeep.is
    ∙ ap Err c.in-Err-TooDeep.field-0-is in
    let text : IsUtf8 c.args.content.now =
    c.scan_reserved.ensures.utf8 (λ i f. cc) in
    let answer =
    rw is at (c.scan_reserved.ensures.judged (judgement c.args.content.now c.args.opened.now.limit) text) in
    rw (is_utf8-from_IsUtf8 c.args.content.now text) (deep-unspelled (judgement c.args.content.now
    c.args.opened.now.limit) c.in-Err-TooDeep.place answer)
