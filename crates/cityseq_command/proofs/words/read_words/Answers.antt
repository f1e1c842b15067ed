use Rattle.cityseq_command.proofs.Common.{IfErr-weaker, IfOk-weaker, ap, map, program_app, refl, string_bytes, subst, true, ◌∙◌, ◌≡◌}
use Rattle.clap.specs.Words.{App, FailsBy, fault_of, is_simple, is_simple_and_free, subcommand_of, takes}
use Rattle.cityseq_command.proofs.words.read_words.Goals as goal

simple : is_simple program_app ≡ true
simple = refl

free : is_simple_and_free program_app ≡ true
free = refl

pub returns : goal.returns
returns c =
    let is = c.in_ok-program.ensures.app in
    let parse = c.try_get_matches_from in
    let words = map string_bytes c.args.words.now in
    record {
      ok = IfOk-weaker parse.result _ _
          (λ m h. (h (ap is_simple is ∙ simple)).1 ∙ ap (λ (a : App). subcommand_of a words) is) parse.ensures.matches;
      err = IfErr-weaker parse.result _ _ (λ e h t. h (ap (λ (a : App). takes a words) is ∙ t)) parse.ensures.passes;
      kinds = subst (λ (a : App). FailsBy (fault_of a words) parse.result) is
          (parse.ensures.kinds (ap is_simple_and_free is ∙ free));
    }
