-- 02, Wish 1: one pair of a burst, "start and length" in "one lent store of bytes". Assumes nothing.
use Rattle.std.specs.Prelude.{ℕ, ◌+◌, Bool, List, ltb, length, take, drop}
use Rattle.std.specs.Prelude.{if◌then◌else◌}
use Rattle.enet.specs.declared.Enet.{Enet}
use Rattle.enet.specs.Device.{Outcome, leaves}
use Rattle.enet.specs.Frames.{receive}
use Rattle.pair.specs.declared.Pair.{Pair}

abbrev pub pair : ℕ → ℕ → Pair
pair start n = record { start = start; length = n }

-- "A pair whose start plus length passes the store's end": in numbers without an upper limit; equal to the end is inside
unfoldable pub passes : List ℕ → Pair → Bool
passes store p = ltb (length store) (p.start + p.length)

-- the bytes of a pair
unfoldable pub bytes_of : List ℕ → Pair → List ℕ
bytes_of store p = take p.length (drop p.start store)

-- it "gets a new number 16 in its own place and nothing else"; a pair inside is a single receive of its bytes
unfoldable pub received : Enet → List ℕ → List ℕ → Pair → Outcome
received d m store p = if passes store p then leaves 16 d m else receive d m (bytes_of store p)
