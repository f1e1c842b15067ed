-- The memory that a call asks the allocator for.
use Rattle.std.specs.Prelude.{ℕ, ◌+◌, ◌*◌, ◌/◌, List, Bool, ◌&&◌, if◌then◌else◌, nat_le, length}
use Rattle.cj_stream.specs.Tallied.{capped}
use Rattle.cityseq_c.specs.Request.{items, needed_line}
use Rattle.cityseq_c.specs.declared.request.Request.{Request}

-- what the open containers take: nothing up to 64, and else 4 for each
abbrev pub containers_bytes : ℕ → ℕ
containers_bytes depth = if nat_le depth 64 then 0 else 4 * depth

-- what two lines of a length take, the header and a later one: their bytes, 12 for each of their tokens, and the open
-- containers
abbrev pub lines_bytes : ℕ → ℕ → ℕ
lines_bytes line depth = 2 * line + 24 * ((line + depth + 1) / 2) + containers_bytes depth

-- what the texts of a query take at most, if they are asked for: 3 for each byte, 96 for each text, and 1,024
abbrev pub texts_bytes : Bool → List ℕ → ℕ
texts_bytes asked s = if asked then 3 * length s + 96 * length (items s) + 1024 else 0

-- the limits of a request are in their ranges
abbrev pub has_limits : Request → Bool
has_limits r = (nat_le 1 r.line_limit && nat_le r.line_limit 1073741824)
    && (nat_le 1 r.depth_limit && nat_le r.depth_limit 1024)

-- What a call with a request, a header and a part of these lengths takes at most; nothing where a limit is out of
-- range. Names of types take some only where types of extensions are known.
abbrev pub memory_bytes : Request → ℕ → ℕ → ℕ
memory_bytes r header part =
    if has_limits r
    then capped (lines_bytes (needed_line r.line_limit header part) r.depth_limit
    + texts_bytes r.asks_ids r.ids.now + texts_bytes (r.asks_types && r.extensions) r.types.now
    + texts_bytes r.asks_lods r.lods.now)
    else 0
