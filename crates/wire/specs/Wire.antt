-- 01, "A frame out": the bytes that a single send puts on the wire. Assumes nothing.
use Rattle.std.specs.Prelude.{ℕ, ◌-◌, Bool, ◌&&◌, ◌||◌, List, ◌++◌, leb, ltb, length, replicate}
use Rattle.std.specs.Prelude.{if◌then◌else◌}
use Rattle.memory.specs.Memory.{store}
use Rattle.fcs.specs.CheckSequence.{check_sequence}

-- row 12: "send length under 14 or over 1,514"
unfoldable pub send_length_wrong : ℕ → Bool
send_length_wrong n = ltb n 14 || ltb 1514 n

-- "pads with zeros to 60"
abbrev pub padded : List ℕ → List ℕ
padded p = p ++ replicate (60 - length p) 0

-- ".. appends the check sequence"
unfoldable pub wire : List ℕ → List ℕ
wire p = padded p ++ check_sequence (padded p)

-- a send of an allowed length finds its room in any output that is not row 9's
unfoldable pub wire_fits : List ℕ → List ℕ → Bool
wire_fits out p = leb (length p) 1514 && leb 1518 (length out)

-- "puts 64 to 1,518 bytes at the front of the output, leaves the output's rest"
unfoldable pub wire_put : List ℕ → List ℕ → List ℕ
wire_put out p = if wire_fits out p then store out 0 (wire p) else out

-- ".. and returns their number (0 if refused)"
unfoldable pub wire_count : List ℕ → List ℕ → ℕ
wire_count out p = if wire_fits out p then length (wire p) else 0
