use Rattle.cj_stream.proofs.Common.{AreIndexed, Ascend, Entry, [], ap, arith, drop, keys_at, length, length-append, pieces, rules, string_bytes, subst, sym, take, take_at, vec_items, ◌++◌, ◌+◌, ◌-◌, ◌∙◌, ◌∷◌, ◌≡◌}
use Rattle.std.proofs.lemmas.List.Sorted.{length_permutation}
use Rattle.cj_stream.proofs.IdLemmas.{indexed_more, pieces_more, runs_held}
use Rattle.cj_stream.proofs.query.ids.add_entry.Goals as goal

pub join_last-count-requires : goal.join_last-count-requires
join_last-count-requires c =
    let held = runs_held _ _ _
    _ c.requires.indexed in
    omega arith

pub overflow_sub-start : goal.overflow_sub-start
overflow_sub-start c =
    let entries = vec_items c.args.entries.now in
    let held = runs_held _ _ _
    _ c.requires.indexed in
    omega (
      arith,
      ap (λ es. length es) c.put-2.ensures
          ∙ length-append entries _,
    )

pub returns-clause-added : goal.returns-clause-added
returns-clause-added c =
    let bytes = string_bytes c.args.text.now in
    let lengths = vec_items c.args.lengths.now in
    let id = c.args.id.now in
    let pushed : string_bytes c.push_str-never_fails.new.self ≡ bytes ++ id = search rules in
    let put : vec_items c.put.new.list ≡ lengths ++ length id ∷ [] = search rules in
    ap (λ t. pieces t (vec_items c.put.new.list)) pushed ∙ ap (pieces (bytes ++ id)) put
    ∙ pieces_more bytes id lengths c.requires.indexed.held

pub returns-clause-indexed : goal.returns-clause-indexed
returns-clause-indexed c =
    let bytes = string_bytes c.args.text.now in
    let lengths = vec_items c.args.lengths.now in
    let id = c.args.id.now in
    let entries = vec_items c.args.entries.now in
    let runs = vec_items c.args.runs.now in
    let left = vec_items c.join_last-count.new.runs in
    let count = c.join_last-count.result in
    let start = c.len-2.result - count in
    let sorted = c.sort_from.new.entries in
    let entry : Entry = record { number = c.tail_of_string.result; start = c.len-begin.result; end = c.len.result } in
    let more = lengths ++ length id ∷ [] in
    let pushed : string_bytes c.push_str-never_fails.new.self ≡ bytes ++ id = search rules in
    let put : vec_items c.put.new.list ≡ more = search rules in
    let base = c.as_mut_slice.ensures.value ∙ c.put-2.ensures in
    let kept = c.sort_from.ensures.kept
    ∙ ap (take start) base in
    let moved =
    rw base at c.sort_from.ensures.moved in
    let up =
    subst (λ t. Ascend (keys_at t (drop start sorted))) (c.as_str.ensures.value ∙ pushed) c.sort_from.ensures.ascends in
    let begins : c.len-begin.result ≡ length bytes = search rules in
    let ends : c.len.result ≡ length (bytes ++ id) = search rules in
    let starts : start + count ≡ length entries + 1 =
    omega (
      arith,
      runs_held bytes lengths entries runs c.requires.indexed,
      ap (λ es. length es) c.put-2.ensures
          ∙ length-append entries _,
    ) in
    let fits = length_permutation (entries ++ entry ∷ []) sorted moved
    ∙ sym (ap length c.put-2.ensures) ∙ sym c.put-2.new.list.ok.0 in
    rw pushed
    (rw put
    (subst (λ es. AreIndexed (bytes ++ id) more es (vec_items c.put-3.new.list)) (sym (take_at sorted _ _ fits))
    (rw c.put-3.ensures (indexed_more bytes id c.utf8.id lengths entries sorted runs left entry count start
    c.requires.indexed
    c.tail_of_string.ensures begins ends c.join_last-count.ensures.front c.join_last-count.ensures.count starts kept
    moved up))))
