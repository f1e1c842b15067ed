use Rattle.cityseq_command.proofs.Common.{Err, List, Ok, Wrote, [], arith, channel, class_text, get_or, subst, sym, zero-add, ℕ, ◌∙◌, ◌∷◌, ◌≡◌}
use Rattle.std.proofs.lemmas.List.FromFn.{get_or-range_with_len}
use Rattle.cityseq_command.proofs.WroteLemmas.{Wrote-nothing, part-wrote, part-stops}
use Rattle.cityseq_command.proofs.summary.write_lods.Goals as goal

classes : List ℕ
classes = 0 ∷ 1 ∷ 2 ∷ 3 ∷ 4 ∷ 5 ∷ []

pub loop-class-init : goal.loop-class-init
loop-class-init g c = Wrote-nothing tt _

pub loop-class-preserved : goal.loop-class-preserved
unfolding classes
loop-class-preserved g c =
    let t = c.args.tally.now in
    let i = c.loop-class.class in
    let is : i ≡ get_or classes i 0 = sym (get_or-range_with_len 0 6 i 0 (omega arith) ∙ zero-add i) in
    let Written : ℕ → Type 0 =
    λ class. Wrote (class_text t class) (Ok tt) (channel g.W.Write.contents c.loop-class.out)
    (channel g.W.Write.contents c.write_counted.new.out) in
    let one = subst Written is (rw (c.class_name.ensures, c.by_lod.ensures) at c.in_ok-write_counted.ensures) in
    part-wrote (class_text t) classes i c.loop-class.invariant 0 (omega arith) one

pub returns-in_err-write_counted : goal.returns-in_err-write_counted
unfolding classes
returns-in_err-write_counted g c =
    let t = c.args.tally.now in
    let i = c.loop-class.class in
    let is : i ≡ get_or classes i 0 = sym (get_or-range_with_len 0 6 i 0 (omega arith) ∙ zero-add i) in
    let Failed : ℕ → Type 0 =
    λ class. Wrote (class_text t class) (Err c.in_err-write_counted.field-0.0)
    (channel g.W.Write.contents c.loop-class.out) (channel g.W.Write.contents c.write_counted.new.out) in
    let one = subst Failed is (rw (c.class_name.ensures, c.by_lod.ensures) at c.in_err-write_counted.ensures) in
    part-stops (class_text t) classes i c.loop-class.invariant c.from_residual.ensures.0 0 (omega arith) one
