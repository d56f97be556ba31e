-- A record as the code puts it, and how long it is. Assumes nothing.
use Prim.Native.Nat.{ℕ, ◌+◌, ◌-◌}
use mathlib.Core.Path.{◌≡◌, refl, sym, ap, ◌∙◌}
use mathlib.Core.List.{List, [], ◌∷◌}
use Rattle.std.proofs.Common.{slice_index_or, w64}
use Rattle.std.proofs.Math.Nat.{div-div-eq-div-mul}
use Rattle.std.specs.Int.{to_le_bytes}
use native.Mathlib.Omega.{arith}
use lib.ListN.{length, length-append, length-take}
use Rattle.memory.specs.Memory.{word_bytes, store}
use Rattle.memory.proofs.Stores.{store_append}
use Rattle.pcap.specs.Capture.{Captured, header_bytes, message, head_bytes, record_bytes}

-- ---- lengths

pub length_header : length header_bytes ≡ 24
unfolding header_bytes word_bytes
length_header = refl

pub length_head : (seconds microseconds captured original : ℕ) → length (head_bytes seconds microseconds captured original) ≡ 16
unfolding head_bytes word_bytes
length_head seconds microseconds captured original = refl

pub length_message : (frame : List ℕ) → length (message frame) ≡ length frame - 4
unfolding message
length_message frame = length-take (length frame - 4) frame ∙ omega arith

pub length_record : (c : Captured) → length (record_bytes c) ≡ 16 + (length c.frame - 4)
unfolding record_bytes
length_record c =
    let n = length (message c.frame) in
    let h = head_bytes c.seconds c.microseconds n n in
    length-append h (message c.frame) ∙ omega (arith, length_head c.seconds c.microseconds n n, length_message c.frame)

-- ---- as the code puts them

-- the lowest four of a number's eight bytes
pub low_four : (n : ℕ) (b : List ℕ) → b ≡ to_le_bytes w64 n
    → (slice_index_or b 0 0 ∷ slice_index_or b 1 0 ∷ slice_index_or b 2 0 ∷ slice_index_or b 3 0 ∷ []) ≡ word_bytes n
unfolding word_bytes
low_four n b e =
    rw (e, div-div-eq-div-mul n 256 256, div-div-eq-div-mul n 65536 256) refl

pub header_put : (m m' h : List ℕ) → h ≡ header_bytes → m' ≡ store m 0 h → m' ≡ store m 0 header_bytes
header_put m m' h e p = p ∙ rw e

-- in two stores
pub record_put : (m m₁ m₂ h s : List ℕ) (at seconds microseconds : ℕ) (frame : List ℕ) → s ≡ message frame
    → h ≡ head_bytes seconds microseconds (length s) (length s) → m₁ ≡ store m at h → m₂ ≡ store m₁ (at + 16) s
    → m₂ ≡ store m at (record_bytes (record { seconds = seconds; microseconds = microseconds; frame = frame }))
unfolding record_bytes
record_put m m₁ m₂ h s at seconds microseconds frame es eh e₁ e₂ =
    let l : at + 16 ≡ at + length h = ap (λ (n : ℕ). at + n) (sym (ap length eh ∙ length_head seconds microseconds (length s) (length s))) in
    e₂ ∙ rw e₁ (store_append m at (at + 16) h s l ∙ rw (eh, es))
