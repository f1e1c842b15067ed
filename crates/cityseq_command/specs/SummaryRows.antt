-- Worked texts of `check` and `info`, which compute.
use Rattle.std.specs.Prelude.{◌≡◌, [], ◌∷◌, ◌++◌, Some, pos, negsuc, codes, replicate}
use Rattle.cj_decimal.specs.Meaning.Number.{scaled}
use Rattle.cj_stream.specs.Lines.{joined}
use Rattle.cj_stream.specs.TallySink.{Tally, no_tally}
use Rattle.cityseq_command.specs.Summary.{check_text, summary_text}

-- two buildings of whole numbers on flat land, with one geometry of class 2
abbrev pub buildings : Tally
buildings = record {
  features = 2;
  types = 0 ∷ 2 ∷ replicate 31 0;
  lods = 0 ∷ 0 ∷ 1 ∷ replicate 3 0;
  ranges = Some (pos 0, pos 1000) ∷ Some (pos 0, pos 1000) ∷ Some (pos 0, pos 0) ∷ [];
  scale = Some (replicate 3 (scaled (pos 1) (negsuc 2)));
  translate = Some (scaled (pos 1) (pos 3) ∷ scaled (pos 2) (pos 3) ∷ scaled (pos 0) (pos 0) ∷ []);
}

-- terrain, parts of tunnels and what is of extensions below the ground, with geometries of the first class and the last
abbrev pub underground : Tally
underground = record {
  features = 12;
  types = replicate 11 0 ++ 3 ∷ (replicate 20 0 ++ 40 ∷ 7 ∷ []);
  lods = 1 ∷ (replicate 4 0 ++ 20 ∷ []);
  ranges = Some (negsuc 6, negsuc 0) ∷ Some (pos 5, pos 5) ∷ Some (negsuc 99, pos 0) ∷ [];
  scale = Some (scaled (negsuc 0) (pos 0) ∷ scaled (pos 25) (negsuc 3) ∷ scaled (pos 1) (pos 2) ∷ []);
  translate = Some (scaled (negsuc 452) (negsuc 2) ∷ scaled (pos 0) (pos 0) ∷ scaled (pos 84616468) (negsuc 2) ∷ []);
}

-- the summary of the buildings
abbrev pub BuildingsRow : Type 0
BuildingsRow = summary_text 3 buildings (record { bytes = 350; tokens = 65; depth = 8 }) ≡ joined (
    codes "lines 3\n"
    ∷ codes "features 2\n"
    ∷ codes "scale 1e-3 1e-3 1e-3\n"
    ∷ codes "translate 1e3 2e3 0e0\n"
    ∷ codes "type Building 2\n"
    ∷ codes "lod 2 1\n"
    ∷ codes "x 0 1000\n"
    ∷ codes "y 0 1000\n"
    ∷ codes "z 0 0\n"
    ∷ codes "peak bytes 350\n"
    ∷ codes "peak tokens 65\n"
    ∷ codes "peak open 8\n"
    ∷ [])

-- the summary of nothing at all
abbrev pub NothingRow : Type 0
NothingRow = summary_text 0 no_tally (record { bytes = 0; tokens = 0; depth = 0 }) ≡ joined (
    codes "lines 0\n"
    ∷ codes "features 0\n"
    ∷ codes "peak bytes 0\n"
    ∷ codes "peak tokens 0\n"
    ∷ codes "peak open 0\n"
    ∷ [])

-- the summary of what is below the ground, of which as much was held as can be counted
abbrev pub UndergroundRow : Type 0
UndergroundRow = summary_text 13 underground
    (record { bytes = 18446744073709551615; tokens = 100; depth = 64 }) ≡ joined (
    codes "lines 13\n"
    ∷ codes "features 12\n"
    ∷ codes "scale -1e0 25e-4 1e2\n"
    ∷ codes "translate -453e-3 0e0 84616468e-3\n"
    ∷ codes "type TINRelief 3\n"
    ∷ codes "type TunnelPart 40\n"
    ∷ codes "type extension 7\n"
    ∷ codes "lod 0 1\n"
    ∷ codes "lod other 20\n"
    ∷ codes "x -7 -1\n"
    ∷ codes "y 5 5\n"
    ∷ codes "z -100 0\n"
    ∷ codes "peak bytes 18446744073709551615\n"
    ∷ codes "peak tokens 100\n"
    ∷ codes "peak open 64\n"
    ∷ [])

-- what `check` says of two lines, the second a feature; and of four, of which two are features, and one was refused
abbrev pub CheckRow : Type 0
CheckRow =
    (check_text 2 1 0 ≡ codes "valid lines=2 features=1\n")
    × (check_text 4 2 1 ≡ codes "invalid lines=4 features=2 refused=1\n")
