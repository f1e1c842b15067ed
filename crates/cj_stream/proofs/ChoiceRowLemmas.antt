-- Worked rows of what is chosen and held at most.
use Rattle.cj_stream.proofs.Common.{Bool, Complete, Kept, List, None, Reason, Refused, Rules, Some, Tree, [], ap, by_least, chars, ended_line, ending_of, false, feature, forest, found_at, is_blank_byte, is_kept_if_valid, is_utf8, least, length, list_all, lit≤, nat_lt, not, plain_header, raw, refl, small_header, tree_of, tree_verdict, true, verdict_at, ℕ, ◌&&◌, ◌++◌, ◌∙◌, ◌∷◌, ◌≡◌, ◌≤◌, Json, IsUtf8-from_is_utf8, Judgement, LimitPair, arith, broken, contents, exact_peaks, first_content, is_utf8-from_IsUtf8, judged_nest, judged_size, max, min, nest, size, small_feature, spelled, sunk, tree_nest, tree_size, ◌+◌}
use lib.Utf8.{encode}
use Rattle.cj_spans.proofs.Judgements.{judgement, say_same}
use Rattle.cj_feature.specs.Examples.{chain, part_apart, main_part, extension}
use Rattle.cj_feature.proofs.Valid.{plain_header-valid, plain_feature-valid, chain-valid, part_apart-valid, part_apart-refused, main_part-refused, extension-refused, extension-valid, plain_feature}
use Rattle.cj_stream.specs.ChoiceRows.{choosing, ApartRow, ChainRow, ExcludeRow, ExtensionRow}
use Rattle.cj_stream.proofs.RowLemmas.{by-tree, header_tree, holds-everything, written, second-refused, two-good, open_line, IsLine, header_line, feature_line, spelled-tree}
use Rattle.cj_stream.proofs.VerdictLemmas.{verdict-json, tree-valid, tree-unasked}
use Rattle.cj_stream.specs.BoundRows.{usual, held, EmptyRow, HeaderRow, CutRow, EdgeRow, ExactRow}

-- ---- small streams of which each city object has to be reached, of which what is asked for is left out, or whose
-- types of
-- extensions are known, computed.

apart_json : Json part_apart.line part_apart.tree
unfolding forest
apart_json = spelled-tree part_apart.line _ _ _ part_apart.tree refl refl refl

apart_line : IsLine part_apart.line part_apart.tree
unfolding is_utf8 chars encode
apart_line = record { json = apart_json; shallow = lit≤ tt; is_text = IsUtf8-from_is_utf8 part_apart.line refl }

main_json : Json main_part.line main_part.tree
unfolding forest
main_json = spelled-tree main_part.line _ _ _ main_part.tree refl refl refl

main_line : IsLine main_part.line main_part.tree
unfolding is_utf8 chars encode
main_line = record { json = main_json; shallow = lit≤ tt; is_text = IsUtf8-from_is_utf8 main_part.line refl }

chain_json : Json chain.line chain.tree
unfolding forest
chain_json = spelled-tree chain.line _ _ _ chain.tree refl refl refl

chain_line : IsLine chain.line chain.tree
unfolding is_utf8 chars encode
chain_line = record { json = chain_json; shallow = lit≤ tt; is_text = IsUtf8-from_is_utf8 chain.line refl }

extension_json : Json extension.line extension.tree
unfolding forest
extension_json = spelled-tree extension.line _ _ _ extension.tree refl refl refl

extension_line : IsLine extension.line extension.tree
unfolding is_utf8 chars encode
extension_line = record { json = extension_json; shallow = lit≤ tt; is_text = IsUtf8-from_is_utf8 extension.line refl }

-- ---- one line behind the header

module _ (tree exclude extensions : Bool) where
  abbrev rules : Rules
  rules = choosing tree exclude extensions

  header_valid : (t : Tree) → verdict_at rules 1 t small_header ≡ Kept
  header_valid t =
      verdict-json _ 1 t _ (lit≤ tt) header_line.is_text refl
      ∙ by-tree plain_header header_line.json header_line.shallow rules 1 t (judgement small_header 64)
      ∙ tree-valid rules 1 t plain_header plain_header-valid refl

  module _ {c : List ℕ} {t : Tree} (line : IsLine c t) (short : length c ≤ 8388608)
      (full : nat_lt 1 2 && list_all is_blank_byte c ≡ false) where
    second : verdict_at rules 2 (tree_of 64 small_header) c ≡ tree_verdict rules 2 plain_header t
    second = rw header_tree (verdict-json _ 2 _ c short line.is_text full
        ∙ by-tree t line.json line.shallow rules 2 plain_header (judgement c 64))

    refused : (place : ℕ) (reason : Reason)
        → least None (feature plain_header t tree extensions) ≡ Some (found_at place reason)
        → (ending_of rules (ended_line small_header ∷ open_line c ∷ []) ≡ Refused 2 place reason)
        × (written rules (ended_line small_header ∷ open_line c ∷ []) ≡ raw (ended_line small_header) ++ [])
    refused place reason least_is =
        second-refused _ _ _ _ (header_valid _) refl _ []
        (second ∙ ap (by_least (is_kept_if_valid rules 2 plain_header t)) least_is)

    kept : feature plain_header t tree extensions ≡ [] → is_kept_if_valid rules 2 plain_header t ≡ true
        → (ending_of rules (ended_line small_header ∷ open_line c ∷ []) ≡ Complete)
        × (written rules (ended_line small_header ∷ open_line c ∷ []) ≡ raw (ended_line small_header) ++ (c ++ []))
    kept valid keep =
        two-good _ _ (header_valid _) _
        (second ∙ tree-valid rules 2 _ t valid keep)

    left_out : feature plain_header t tree extensions ≡ [] → is_kept_if_valid rules 2 plain_header t ≡ false
        → (ending_of rules (ended_line small_header ∷ open_line c ∷ []) ≡ Complete)
        × (written rules (ended_line small_header ∷ open_line c ∷ []) ≡ raw (ended_line small_header) ++ [])
    left_out valid leave =
        let out =
        second ∙ tree-unasked rules 2 _ t valid leave in
        rw (header_valid, out) (refl, rw (header_valid, out))

-- ---- rows

pub row_apart : ApartRow
row_apart = (
  kept _ _ _ apart_line (lit≤ tt) refl part_apart-valid
      (holds-everything _ _),
  refused _ _ _ apart_line (lit≤ tt) refl _ _
      part_apart-refused,
  refused _ _ _ apart_line (lit≤ tt) refl _ _
      part_apart-refused,
  refused _ _ _ main_line (lit≤ tt) refl _
      _ main_part-refused,
  refused _ _ _ main_line (lit≤ tt) refl _
      _ main_part-refused,
)

pub row_chain : ChainRow
row_chain = (
  kept _ _ _ chain_line (lit≤ tt) refl chain-valid
      (holds-everything _ _),
  left_out _ _ _ chain_line (lit≤ tt) refl chain-valid
      (ap not (holds-everything _ _)),
)

pub row_exclude : ExcludeRow
row_exclude = (
  left_out _ _ _ feature_line (lit≤ tt) refl
      plain_feature-valid (ap not (holds-everything _ _)),
  left_out _ _ _ apart_line (lit≤ tt) refl
      part_apart-valid (ap not (holds-everything _ _)),
)

pub row_extension : ExtensionRow
row_extension = (
  refused _ _ _ extension_line (lit≤ tt) refl _
      _ extension-refused,
  kept _ _ _ extension_line (lit≤ tt) refl
      extension-valid (holds-everything _ _),
)

-- ---- what small texts may hold at most, and what they hold, computed

pub nothing : EmptyRow
nothing = (refl, refl)

pub header : HeaderRow
header = ((refl, refl), (refl, refl), (refl, refl))

pub long : CutRow
long = ((refl, refl), (refl, refl))

pub edge : EdgeRow
edge = (
  record { bytes = lit≤ tt; tokens = lit≤ tt; depth = lit≤ tt },
  (λ b. let h = b.bytes in absurd (omega arith)),
  (λ b. let h = b.tokens in absurd (omega arith)),
  (λ b. let h = b.depth in absurd (omega arith)),
)

-- ---- what is held at most

-- the size and the nest of a line that spells this tree
module _ {b : List ℕ} {d : ℕ} (t : Tree) (json : Json b t) (shallow : nest t ≤ d) where
  measured : (j : Judgement b d) → (judged_size j ≡ size t) × (judged_nest j ≡ nest t)
  measured (spelled u k m) =
      let same = say_same (spelled u k m) (spelled t json shallow) in (ap size same, ap nest same)
  measured (broken i s m) = absurd (say_same (broken i s m) (spelled t json shallow))
  measured (sunk i s) = absurd (say_same (sunk i s) (spelled t json shallow))

-- of one line, and of two
module _ (limits : LimitPair) (s a : List ℕ) (n d : ℕ) (first : first_content s ≡ a) (size : tree_size limits a ≡ n)
    (nest : tree_nest limits a ≡ d) where
  one-line : contents s ≡ a ∷ [] → exact_peaks limits s ≡ held (length a + 0) (n + 0) (max d 0)
  one-line all = rw (all, first, size, nest)

  two-lines : (b : List ℕ) (m e : ℕ) → contents s ≡ a ∷ b ∷ [] → tree_size limits b ≡ m → tree_nest limits b ≡ e
      → exact_peaks limits s ≡ held (length a + max (min (length b) limits.line) 0) (n + max m 0) (max d (max e 0))
  two-lines b m e all more deep = rw (all, first, size, nest, more, deep)

header-held : (tree_size usual small_header ≡ 21) × (tree_nest usual small_header ≡ 3)
header-held =
    rw (is_utf8-from_IsUtf8 small_header header_line.is_text)
    (measured plain_header header_line.json header_line.shallow _)

feature-held : (tree_size usual small_feature ≡ 13) × (tree_nest usual small_feature ≡ 3)
feature-held =
    rw (is_utf8-from_IsUtf8 small_feature feature_line.is_text)
    (measured plain_feature.tree feature_line.json feature_line.shallow _)

pub exact : ExactRow
exact = (
  one-line usual small_header small_header 21 3 refl header-held.0 header-held.1 refl,
  two-lines usual (small_header ++ 10 ∷ (small_feature ++ 10 ∷ [])) small_header 21 3 refl header-held.0 header-held.1
      small_feature _ 3 refl feature-held.0 feature-held.1,
)
