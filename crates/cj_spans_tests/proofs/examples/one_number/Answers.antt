use Rattle.std.proofs.Common.{[], ◌∷◌, refl, inl, lit<, lit≤}
use Rattle.cj_spans.specs.declared.token.Kind.TheVariants.{Number}
use Rattle.cj_spans.specs.Meaning.Tree.{no_items}
use Rattle.cj_spans.specs.Meaning.Json.{padded, full_array, no_led, atom}
use Rattle.cj_spans.proofs.Sound.{no_white}
use Rattle.cj_spans_tests.proofs.examples.one_number.Goals as goal

pub returns : goal.returns
returns c =
    padded 0 0 3 3 _ (no_white _ 0)
    (full_array 0 1 2 no_items _ refl (no_led 1)
    (padded 1 1 2 2 _ (no_white _ 1)
    (atom Number 1 2 (record {
      order = lit< tt;
      within = lit≤ tt;
      spelled = record {
        minus = [];
        int = 48 ∷ [];
        frac = [];
        exp = [];
        minus_is = inl refl;
        int_is = inl (refl, refl);
        frac_is = tt;
        exp_is = tt;
        joined = refl;
      };
    }))
    (no_white _ 2))
    refl)
    (no_white _ 3)
