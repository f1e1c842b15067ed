use Rattle.std.proofs.Common.{◌+◌, ◌∙◌, ap, length, nat_eq, sym}
use Rattle.std.proofs.lemmas.List.Splits.{length-slice_split}
use Rattle.cityseq_c.proofs.QueryLemmas.{items-some}
use Rattle.cityseq_c.proofs.memory.count_texts.Goals as goal

pub returns-else-is_empty : goal.returns-else-is_empty
returns-else-is_empty c =
    let s = c.args.text.now in
    let some = items-some s (sym c.is_empty.ensures ∙ c.if-is_empty.false) in
    ap (λ n. n + 1) c.count_lfs.ensures ∙ sym (ap length some ∙ length-slice_split (λ b. nat_eq b 10) s)
