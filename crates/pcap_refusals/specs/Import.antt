-- 02, Wish 7: "A cut header, other magics, versions, link types, then, record by record, cut records and unequal lengths, then too little
-- room are refused"; zone, accuracy and snap length are "not read on import". Assumes nothing.
use Rattle.std.specs.Prelude.{ℕ, ◌+◌, ◌*◌, ◌≤◌, ◌<◌, ◌≡◌, true, false, ◌⊎◌, List, [], ◌∷◌, ◌++◌, length, take, drop}
use Rattle.memory.specs.Memory.{word}
use Rattle.pieces.specs.Pieces.{joined}
use Rattle.pcap.specs.Capture.{Captured, magic, version, link_type}
use Rattle.pcap_records.specs.Records.{cut_record, unequal_lengths, all_storable}
use Rattle.pcap_import.specs.Import.{imported_frames, events_of, import_number, import}

-- ---- when each number is given

-- the header is the one that is asked for
abbrev pub Header : List ℕ → Type 0
Header file = (24 ≤ length file) × (word file 0 ≡ magic) × (word file 4 ≡ version) × (word file 20 ≡ link_type)

-- a record that is not wrong: it has as many bytes as its captured length says behind the 16, and its lengths are equal
abbrev pub Right : List ℕ → Type 0
Right x = (length x ≡ 16 + word x 8) × (word x 8 ≡ word x 12)

abbrev pub AllRight : List (List ℕ) → Type 0
AllRight [] = Unit
AllRight (x ∷ xs) = Right x × AllRight xs

-- the first record that is wrong: all before it are right, and behind them are bytes; it is cut, or else its lengths are unequal
pub record FirstWrong (s : List ℕ) (n : ℕ) : Type 0 where
  pub before : List (List ℕ)
  pub rest : List ℕ
  pub there : joined before ++ rest ≡ s
  pub right : AllRight before
  pub some : 0 < length rest
  pub wrong : ((cut_record rest ≡ true) × (n ≡ 35)) ⊎ ((cut_record rest ≡ false) × (unequal_lengths rest ≡ true) × (n ≡ 36))

-- no record is wrong: right ones are all of the bytes
pub record NoneWrong (s : List ℕ) : Type 0 where
  pub records : List (List ℕ)
  pub there : joined records ≡ s
  pub right : AllRight records

-- too little room: a frame whose length has no 32 bits, too few bytes for the events, or fewer than 8 for each time
abbrev pub TooLittle : List Captured → ℕ → ℕ → Type 0
TooLittle cs events times =
    (all_storable cs ≡ false) ⊎ ((events < length (events_of cs)) ⊎ (times < 8 * length cs))

abbrev pub Enough : List Captured → ℕ → ℕ → Type 0
Enough cs events times = (all_storable cs ≡ true) × (length (events_of cs) ≤ events) × (8 * length cs ≤ times)

-- the situation of each number, in which it is given and no other
abbrev pub Says : List ℕ → ℕ → ℕ → Type 0
Says file events times =
    let n = import_number file events times in
    let s = drop 24 file in
    ((length file < 24) × (n ≡ 31))
    ⊎ (((24 ≤ length file) × (word file 0 ≡ magic → ⊥) × (n ≡ 32))
    ⊎ (((24 ≤ length file) × (word file 0 ≡ magic) × (word file 4 ≡ version → ⊥) × (n ≡ 33))
    ⊎ (((24 ≤ length file) × (word file 0 ≡ magic) × (word file 4 ≡ version) × (word file 20 ≡ link_type → ⊥) × (n ≡ 34))
    ⊎ ((Header file × FirstWrong s n)
    ⊎ ((Header file × NoneWrong s × TooLittle (imported_frames file) events times × (n ≡ 37))
    ⊎ (Header file × NoneWrong s × Enough (imported_frames file) events times × (n ≡ 0)))))))

abbrev pub Exactly : Type 0
Exactly = (file : List ℕ) (events times : ℕ) → Says file events times

-- a refusal gives no events and no frames, and leaves both rooms as they were
abbrev pub ChangesNothing : Type 0
ChangesNothing =
    (file events times : List ℕ)
    → let i = import file events times in
    (i.imported.number ≡ 0 → ⊥)
    → (i.imported.bytes ≡ 0) × (i.imported.frames ≡ 0) × (i.events ≡ events) × (i.times ≡ times)

-- ---- "not read on import"

-- files that are alike but for zone, accuracy and snap length, bytes 8 to 19
pub record Alike (f g : List ℕ) : Type 0 where
  pub long : length f ≡ length g
  pub front : take 8 f ≡ take 8 g
  pub rest : drop 20 f ≡ drop 20 g

-- give the same
abbrev pub NotRead : Type 0
NotRead = (f g events times : List ℕ) → Alike f g → import f events times ≡ import g events times
