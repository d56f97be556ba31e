-- Bytes enter the shift register: their bits one by one, or the eight of a byte at once and then eight clocks.
-- Assumes nothing.
use mathlib.Core.Path.{◌≡◌, refl, sym, ap, ◌∙◌}
use mathlib.Core.List.{List, [], ◌∷◌}
use Prim.Native.Nat.{ℕ, zero, suc, ◌*◌, ◌/◌, ◌%◌, ◌^◌, ◌<◌}
use native.Mathlib.Nat.{mod-lt, pow-suc, div-lt_iff_lt-mul, div-add-mod', zero-lt-suc}
use lib.Arith.{lt-one}
use lib.Bits.{bit_xor, xor_zero_r, xor_shifted, xor_comm}
use lib.ListN.{get_or}
use Rattle.half_bytes.specs.Clocks.{clock, clocks, bytes_in}
use Rattle.half_bytes.proofs.ExclusiveOr.{xor_assoc}
use Rattle.half_bytes.proofs.Clocks.{clock_over}
use Rattle.fcs.specs.Polynomial.{low_bits, wire_bits}
use Rattle.fcs.specs.ShiftRegister.{reflected, step, bits_in, byte_in}
use Rattle.fcs.proofs.Register.{low_digit}

-- one clock is a single-bit step of the register whose feedback is G(x) without x^32
step_is : (r : ℕ) → step r ≡ clock reflected r
unfolding step clock
step_is r = refl

-- the low bit enters now, or the others with it
bit_first : (r v : ℕ) → bit_xor (clock reflected (bit_xor r (v % 2))) (v / 2) ≡ clock reflected (bit_xor r v)
bit_first r v =
    xor_comm (clock reflected (bit_xor r (v % 2))) (v / 2)
    ∙ sym (clock_over reflected (v / 2) (bit_xor r (v % 2)))
    ∙ ap (clock reflected)
    (sym (xor_assoc (v / 2 * 2) r (v % 2))
    ∙ ap (λ (z : ℕ). bit_xor z (v % 2)) (xor_comm (v / 2 * 2) r)
    ∙ xor_assoc r (v / 2 * 2) (v % 2)
    ∙ ap (bit_xor r) (xor_shifted (v / 2) 1 (v % 2) (mod-lt v (zero-lt-suc 1)) ∙ div-add-mod' v 2))

-- added all at once, each bit waits in the register for the clock at which it leaves
at_once : (n r v : ℕ) → v < 2 ^ n → bits_in r (low_bits n v) ≡ clocks reflected n (bit_xor r v)
unfolding clocks
at_once zero r v h = sym (ap (bit_xor r) (lt-one h) ∙ xor_zero_r r)
at_once (suc n) r v h =
    ap (λ (x : ℕ). bits_in x (low_bits n (v / 2))) (ap (λ (d : ℕ). step (bit_xor r d)) (low_digit v) ∙ step_is (bit_xor r (v % 2)))
    ∙ at_once n (clock reflected (bit_xor r (v % 2))) (v / 2) ((div-lt_iff_lt-mul (zero-lt-suc 1)).1 (rw pow-suc at h))
    ∙ ap (clocks reflected n) (bit_first r v)

byte_at_once : (r b : ℕ) → b < 256 → byte_in r b ≡ clocks reflected 8 (bit_xor r b)
unfolding byte_in
byte_at_once r b h = at_once 8 r b h

-- the bytes of a message: all their bits, one by one
pub bytes_bits : (s : List ℕ) → ((i : ℕ) → get_or s i 0 < 256) → (r : ℕ) → bytes_in reflected r s ≡ bits_in r (wire_bits s)
unfolding byte_in
bytes_bits [] h r = refl
bytes_bits (b ∷ s) h r = ap (λ (x : ℕ). bytes_in reflected x s) (sym (byte_at_once r b (h 0))) ∙ bytes_bits s (λ i. h (suc i)) (byte_in r b)
