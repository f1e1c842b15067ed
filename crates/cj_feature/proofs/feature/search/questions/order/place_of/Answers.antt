use Rattle.cj_feature.proofs.Common.{IsPartitionPoint-from_clause, compare_keys, is_lt, key_in, pair_key, rules}
use Rattle.cj_feature.proofs.Questions.{parted}
use Rattle.cj_feature.proofs.feature.search.questions.order.place_of.Goals as goal

pub returns : goal.returns
returns c =
    let key = pair_key c.args.pair in
    IsPartitionPoint-from_clause (λ q. is_lt (compare_keys (key_in c.args.objects q) key)) _ _
    c.partition_point.ensures.partitioned (parted c.args.objects c.args.questions.now key c.requires)
    (λ a r q k. search rules)
