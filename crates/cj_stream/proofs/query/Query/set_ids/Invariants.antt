use Rattle.cj_stream.proofs.Common.{Some, criteria, failed_growths_of, map, ◌≡◌}
use Rattle.cj_stream.proofs.query.Query.set_ids.Given as goal

abbrev pub invariant-loop-id : goal.invariant-loop-id
invariant-loop-id l =
    record {
      asks : criteria l.self ≡ record (criteria l.fn.self) { ids = Some (map (λ s. s.now) l.yielded) };
      growths : failed_growths_of l.self ≡ failed_growths_of l.fn.self;
    }
