use Rattle.cityseq_c.proofs.Common.{Tree, ap, arith, bits, capped, class_of, feature_header, feature_tree, flat_map, get_or, get_or-replicate, length, lod_classes, object_geometries, objects_of, option_and_then, replicate, rules, ℕ, ◌<◌, ◌∙◌, ◌≡◌}
use Rattle.std.specs.Prelude.{nat_lt}
use Rattle.cj_spans.specs.Initials.{first_code_of}
use Rattle.cj_geometry.specs.Meaning.Lod.{lod}
use Rattle.cj_feature.specs.Meaning.Feature.{templates_of}
use Rattle.cityseq_c.proofs.QueryLemmas.{bits-among}
use Rattle.cityseq_c.proofs.RoomLemmas.{all-counted, capped-sum, class-small, counts-at, counts_of}
use Rattle.cityseq_c.proofs.features.record_of.tally_geometries.Goals as goal

pub returns-clause-count : goal.returns-clause-count
returns-clause-count c =
    let f = c.args.feature.now in
    let counts = c.count_lods.new.counts in
    let ns = lod_classes (feature_header f) (feature_tree f) in
    let long : length counts ≡ 6 = search rules in
    let each : (n : ℕ) → n < 6 → get_or counts n 0 ≡ capped (get_or (counts_of ns) n 0) =
    λ n low. omega (arith, c.count_lods.ensures n low, get_or-replicate {A = ℕ} 6 n 0 0 low, counts-at ns n low) in
    c.sum_of.ensures
    ∙ (capped-sum counts (counts_of ns) long each
    ∙ ap capped (all-counted (λ (g : Tree). class_of (lod (templates_of (feature_header f)) g))
    (λ g. class-small (option_and_then first_code_of (lod (templates_of (feature_header f)) g)))
    (flat_map object_geometries (objects_of (feature_tree f)))))

pub returns-clause-lods : goal.returns-clause-lods
returns-clause-lods c =
    let f = c.args.feature.now in
    let counts = c.count_lods.new.counts in
    let long : length counts ≡ 6 = search rules in
    c.bits_of.ensures
    ∙ (ap (λ k. bits (λ n. nat_lt 0 (get_or counts n 0)) k) long
    ∙ bits-among 6 (replicate 6 0) (lod_classes (feature_header f) (feature_tree f)) counts
    (λ n small. get_or-replicate {A = ℕ} 6 n 0 0 small) c.count_lods.ensures)
