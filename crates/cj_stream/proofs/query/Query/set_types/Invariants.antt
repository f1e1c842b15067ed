use Rattle.cj_stream.proofs.Common.{Some, criteria, drop, failed_growths_of, length, parted, true, unwrap_or, ◌≡◌}
use Rattle.cj_stream.specs.Adding.{has_extension, no_types, with_types}
use Rattle.cj_stream.proofs.query.Query.set_types.Given as goal

abbrev pub invariant-loop-name : goal.invariant-loop-name
invariant-loop-name l =
    record {
      set : criteria l.self ≡ record (criteria l.fn.self)
          { types = Some (unwrap_or (criteria l.self).types no_types) };
      growths : failed_growths_of l.self ≡ failed_growths_of l.fn.self;
      left : with_types l.extensions (drop (length l.yielded) (parted l.fn.separator l.list))
          (unwrap_or (criteria l.self).types no_types)
          ≡ with_types l.extensions (parted l.fn.separator l.list) no_types;
      more : has_extension l.extensions (drop (length l.yielded) (parted l.fn.separator l.list)) ≡ true
          → has_extension l.extensions (parted l.fn.separator l.list) ≡ true;
    }
