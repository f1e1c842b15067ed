-- What contracts see of bytes that are lent for an output.
use Rattle.std.specs.Prelude.{◌≡◌, ℕ, ◌+◌, ◌<◌, List, ◌++◌, drop, length, take}
use Rattle.cj_stream.specs.Items.{raw_item}
use Rattle.cj_stream.specs.Sink.{SinkContract, HasRisen}
use Rattle.cityseq_c.specs.declared.room.Room.{Room}

-- the bytes, which loan of them it is, how many of them are written, and how often a line did not fit
abbrev pub room_bytes : Room → List ℕ
room_bytes r = r.bytes.now

abbrev pub room_loan : Room → ℕ
room_loan r = r.bytes.ghost_name

abbrev pub written_of : Room → ℕ
written_of r = r.written

abbrev pub room_failures : Room → ℕ
room_failures r = r.failures

-- those that are written
abbrev pub in_room : Room → List ℕ
in_room r = take r.written r.bytes.now

-- bytes were written behind the others, and what is behind these is as it was
pub record Grows (a : Room) (bs : List ℕ) (b : Room) : Type 0 where
  pub loan : room_loan b ≡ room_loan a
  pub size : length (room_bytes b) ≡ length (room_bytes a)
  pub count : written_of b ≡ written_of a + length bs
  pub bytes : in_room b ≡ in_room a ++ bs
  pub rest : drop (written_of b) (room_bytes b) ≡ drop (written_of b) (room_bytes a)
  pub failures : room_failures b ≡ room_failures a

-- bytes did not fit, and none of them was written
pub record LeavesRoom (a : Room) (bs : List ℕ) (b : Room) : Type 0 where
  pub loan : room_loan b ≡ room_loan a
  pub bytes : room_bytes b ≡ room_bytes a
  pub count : written_of b ≡ written_of a
  pub full : length (room_bytes a) < written_of a + length bs
  pub failures : HasRisen (room_failures a) (room_failures b)

-- the same of the bytes of an item
abbrev pub room_law : SinkContract Room
room_law = record {
  takes = λ a i b. Grows a (raw_item i) b;
  leaves = λ a i b. LeavesRoom a (raw_item i) b;
  failures = room_failures;
}
