-- 02, Wish 7: "a classic pcap file: 24-byte header, little-endian, magic a1b2c3d4 hex, version 2.4, zone and accuracy 0, snap length
-- 65,535 .., link type 1, then 16 bytes before each frame, both lengths equal." docs/CAPTURE.md has its layout. Assumes nothing.
use Rattle.std.specs.Prelude.{ℕ, ◌+◌, ◌*◌, ◌-◌, List, [], ◌∷◌, ◌++◌, length, take}
use Rattle.memory.specs.Memory.{word_bytes}

-- a frame, from destination address to check sequence, with its time: "seconds and microseconds come from the caller"
pub record Captured : Type 0 where
  pub seconds : ℕ
  pub microseconds : ℕ
  pub frame : List ℕ

-- ---- the header

-- "magic a1b2c3d4 hex"
abbrev pub magic : ℕ
magic = 0xa1b2_c3d4

-- "version 2.4": the major one in two bytes, then the minor one in two
abbrev pub version : ℕ
version = 2 + 65536 * 4

-- "zone and accuracy 0"
abbrev pub zone : ℕ
zone = 0

abbrev pub accuracy : ℕ
accuracy = 0

-- "snap length 65,535"
abbrev pub snap_length : ℕ
snap_length = 65535

-- "link type 1"
abbrev pub link_type : ℕ
link_type = 1

unfoldable pub header_bytes : List ℕ
header_bytes =
    word_bytes magic ++ (word_bytes version ++ (word_bytes zone ++ (word_bytes accuracy ++ (word_bytes snap_length ++ word_bytes link_type))))

-- ---- the records

-- "Frames go without their check sequence"
unfoldable pub message : List ℕ → List ℕ
message frame = take (length frame - 4) frame

-- "16 bytes before each frame, both lengths equal": seconds, microseconds, the captured length and the original one
unfoldable pub head_bytes : ℕ → ℕ → ℕ → ℕ → List ℕ
head_bytes seconds microseconds captured original =
    word_bytes seconds ++ (word_bytes microseconds ++ (word_bytes captured ++ word_bytes original))

unfoldable pub record_bytes : Captured → List ℕ
record_bytes c =
    let n = length (message c.frame) in
    head_bytes c.seconds c.microseconds n n ++ message c.frame

unfoldable pub records_bytes : List Captured → List ℕ
records_bytes [] = []
records_bytes (c ∷ cs) = record_bytes c ++ records_bytes cs

unfoldable pub capture_bytes : List Captured → List ℕ
capture_bytes cs = header_bytes ++ records_bytes cs
