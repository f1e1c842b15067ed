use Rattle.cj_geometry.proofs.Common.{ap, arith, false, is_above, is_below, limit_in, members_left, members_of, members_source, name_in, names_of, source_of, sym, tree, ◌&&◌, ◌∙◌, ◌≡◌}
use Rattle.std.proofs.lemmas.Bool.{and_left, and_right}
use Rattle.cj_geometry.proofs.Rooms.{gathered_first, gathered_passed, gathered_more}
use Rattle.cj_geometry.proofs.rule.names.gather.Goals.{else-is_left-via-then-is_left+else-has_place, else-is_left-via-else-is_left}
use Rattle.cj_geometry.proofs.rule.names.gather.Goals as goal

pub loop-node-init : goal.loop-node-init
loop-node-init c =
    let s = source_of c.args.object in
    let ms = members_of (tree c.args.object) in
    let walk = c.into_iter-node-iterator.ensures.into_iter_gives in
    let all : members_left c.into_iter-node-iterator.result ≡ ms = ap members_left walk
    ∙ c.members-node-items.ensures.members in
    record {
      some = c.requires.some;
      fewer = c.requires.fewer;
      count = omega arith;
      more = λ h. cc;
      source = ap members_source walk ∙ c.members-node-items.ensures.source;
      gathered = rw all (gathered_first s (names_of ms) (limit_in s c.args.floor));
    }

pub loop-node-preserved-then-has_place : goal.loop-node-preserved-then-has_place
loop-node-preserved-then-has_place c =
    let i = c.loop-node.invariant in
    let y = c.in-Some.ensures.steps in
    let s = source_of c.args.object in
    let e : source_of c.in-Some.node ≡ s = y.4.0 ∙ i.source in
    let name = c.of-name.result in
    let r = c.put-held.ensures in
    let some = i.some in
    let fewer = i.fewer in
    record {
      some = let k = r.kept in omega arith;
      fewer = let k = r.kept in let l = r.room in omega arith;
      count = r.count.1;
      more = λ h. r.count.0;
      source = y.3 ∙ i.source;
      gathered = gathered_more _ _ _ name _ _ _ (rw e at c.of-name.ensures.name) (rw e at c.of-name.ensures.word)
          (sym c.is_left.ensures ∙ c.if-is_left.true) (sym c.has_place.ensures ∙ c.if-has_place.true) r.taken
          (rw y.0 at i.gathered);
    }

pub loop-node-preserved : goal.loop-node-preserved
loop-node-preserved c =
    let i = c.loop-node.invariant in
    let y = c.in-Some.ensures.steps in
    let s = source_of c.args.object in
    let floor = limit_in s c.args.floor in
    let ceiling = c.loop-node.held.ceiling in
    let e : source_of c.in-Some.node ≡ s = y.4.0 ∙ i.source in
    let name = c.of-name.result in
    let unwanted : is_above floor (name_in s name) && is_below (limit_in s ceiling) (name_in s name) ≡ false =
    elim c.else-is_left.branch [
      | else-is_left-via-then-is_left+else-has_place w ↦
          and_right _ _ (sym w.has_place.ensures ∙ w.if-has_place.false)
      | else-is_left-via-else-is_left w ↦
          and_left _ _ (sym c.is_left.ensures ∙ w.if-is_left.false)
    ] in
    record {
      some = i.some;
      fewer = i.fewer;
      count = i.count;
      more = i.more;
      source = y.3 ∙ i.source;
      gathered = gathered_passed _ name _ (rw e at c.of-name.ensures.name) unwanted (rw y.0 at i.gathered);
    }
