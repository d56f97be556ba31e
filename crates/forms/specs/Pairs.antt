-- A word as bytes: pairs of hexadecimal digits, or `-` for none. Assumes nothing.
use Rattle.std.specs.Prelude.{ℕ, ◌+◌, ◌*◌, ◌/◌, ◌%◌, Bool, true, false, not, List, [], ◌∷◌, eqb, ltb, leb, length, take}
use Rattle.std.specs.Prelude.{Option, Some, None}
use Rattle.std.specs.Prelude.{if◌then◌else◌}
use Rattle.memory.specs.Memory.{store}
use Rattle.forms.specs.Numbers.{digit}
use Rattle.words.specs.Words.{characters, is}

-- every character is a hexadecimal digit
abbrev pub all_digits : List ℕ → Bool
all_digits [] = true
all_digits (c ∷ s) = if leb 16 (digit c) then false else all_digits s

-- how many bytes a word names: "pairs of hexadecimal digits, either case, or `-` for no bytes". No line holds a longer word
unfoldable pub byte_count : List ℕ → Option ℕ
byte_count word =
    if is word (characters "-") then Some 0 else
    if eqb (length word) 0 then None else
    if ltb 4096 (length word) then None else
    if eqb (length word % 2) 1 then None else
    if not (all_digits word) then None else
    Some (length word / 2)

-- the byte of two digits. Of other characters it is some byte, which nobody asks for
unfoldable pub byte_of : ℕ → ℕ → ℕ
byte_of high low = (digit high * 16 + digit low) % 256

-- the bytes of the pairs, one after the other. A `-` has no pair
abbrev pub bytes_of : List ℕ → List ℕ
bytes_of [] = []
bytes_of (high ∷ []) = []
bytes_of (high ∷ low ∷ s) = byte_of high low ∷ bytes_of s

-- the bytes that a word names; no line names more than 2,048
abbrev pub named : List ℕ → List ℕ
named word = take 2048 (bytes_of word)

-- what decoding a word into a lent buffer gives: how many bytes the word names, and the buffer with them at its front
pub record Decoded : Type 0 where
  pub count : ℕ
  pub out : List ℕ

-- what the code's answer and the buffer at its end say together
abbrev pub decoded : ℕ → List ℕ → Decoded
decoded n out = record { count = n; out = out }

unfoldable pub decode : List ℕ → List ℕ → Decoded
decode word out = decoded (length (bytes_of word)) (store out 0 (bytes_of word))
