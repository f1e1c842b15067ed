use Rattle.cj_stream.proofs.Common.{Some, criteria, failed_growths_of, map, ◌≡◌}
use Rattle.cj_stream.proofs.query.Query.set_lods.Given as goal

abbrev pub invariant-loop-lod : goal.invariant-loop-lod
invariant-loop-lod l =
    record {
      asks : criteria l.self ≡ record (criteria l.fn.self) { lods = Some (map (λ s. s.now) l.yielded) };
      growths : failed_growths_of l.self ≡ failed_growths_of l.fn.self;
    }
