use Rattle.cj_stream.proofs.Common.{ap, drop_more, get_or, key_at, keys_at, sym, take-map, ◌∙◌}
use Rattle.cj_stream.proofs.IdLemmas.{first_run}
use Rattle.cj_stream.proofs.query.ids.is_in_runs.Goals as goal

pub is_in_run_of-requires : goal.is_in_run_of-requires
is_in_run_of-requires c =
    let text = c.args.text.now in
    let rest = c.loop-length.rest.now in
    let n = get_or c.args.runs.now c.loop-length.length-index 0 in
    let first = drop_more c.args.runs.now c.loop-length.length-index 0 c.loop-length-test.true in
    rw (take-map (key_at text) n rest ∙ ap (keys_at text) (sym c.split_at.ensures.front)) at
    (first_run (keys_at text rest) _ _ n first c.loop-length.invariant.ordered)
