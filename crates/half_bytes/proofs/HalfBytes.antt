-- Four single-bit steps by an entry of the table, and eight by two entries. Assumes nothing.
use mathlib.Core.Path.{◌≡◌, refl, sym, ap, ap₂, ◌∙◌}
use mathlib.Core.List.{List}
use Prim.Native.Nat.{ℕ, zero, suc, ◌+◌, ◌*◌, ◌/◌, ◌%◌, ◌^◌, ◌<◌, ◌≤◌}
use native.Mathlib.Nat.{add-zero, add-suc, suc-add, zero-add, le_of_suc-le-suc, not-suc-le-zero, div-div-eq-div-mul}
use native.Mathlib.Omega.{arith}
use lib.Bits.{bit_xor, xor_shr, xor_mod}
use lib.ListN.{get_or}
use Rattle.half_bytes.specs.Clocks.{clock, clocks, feedback802}
use Rattle.half_bytes.specs.HalfBytes.{tabulate, half_bytes}
use Rattle.half_bytes.proofs.Clocks.{clocks_low}

-- ---- The table

-- a rule of a whole table, at each of its entries
tabulate_at : (g : ℕ → ℕ) (i n k : ℕ) → k < n → get_or (tabulate g i n) k 0 ≡ g (i + k)
tabulate_at g i zero k h = absurd (not-suc-le-zero h)
tabulate_at g i (suc n) zero h = ap g (sym (add-zero i))
tabulate_at g i (suc n) (suc k) h = tabulate_at g (suc i) n k (le_of_suc-le-suc h) ∙ ap g (suc-add i k ∙ sym (add-suc i k))

-- an entry is four single-bit steps of its index
pub entry : (f k : ℕ) → k < 16 → get_or (half_bytes f) k 0 ≡ clocks f 4 k
unfolding half_bytes
entry f k h = tabulate_at (clocks f 4) 0 16 k h ∙ ap (clocks f 4) (zero-add k)

-- The low half bytes of the entries, by computation. The lowest bit of the feedback is the sixth (x^26): when it has been added, it comes down into the low
-- half byte by the fourth step only where a 1 left at the first or the second. The next bit, the ninth (x^23), comes down to the sixth at most.
low_halves : tabulate (λ i. clocks feedback802 4 i % 16) 0 16 ≡ tabulate (λ i. i % 4 * 4) 0 16
unfolding clocks clock
low_halves = refl

low_half : (k : ℕ) → k < 16 → clocks feedback802 4 k % 16 ≡ k % 4 * 4
low_half k h =
    sym (tabulate_at (λ i. clocks feedback802 4 i % 16) 0 16 k h ∙ ap (λ (i : ℕ). clocks feedback802 4 i % 16) (zero-add k))
    ∙ ap (λ (l : List ℕ). get_or l k 0) low_halves
    ∙ tabulate_at (λ i. i % 4 * 4) 0 16 k h
    ∙ ap (λ (i : ℕ). i % 4 * 4) (zero-add k)

-- ---- A half byte, and two

-- what lies above the half byte only moves down
by_entry : (f r : ℕ) → bit_xor (r / 2 ^ 4) (get_or (half_bytes f) (r % 16) 0) ≡ clocks f 4 r
by_entry f r = ap (bit_xor (r / 2 ^ 4)) (entry f (r % 16) (omega arith)) ∙ sym (clocks_low f 4 r)

eight : (f r : ℕ) → clocks f 4 (clocks f 4 r) ≡ clocks f 8 r
unfolding clocks
eight f r = refl

module _ (x : ℕ) where
  -- the entry of the low half byte
  abbrev low : ℕ
  low = get_or (half_bytes feedback802) (x % 16) 0

  -- the register when the low half byte has left
  abbrev left : ℕ
  left = bit_xor (x / 2 ^ 4) low

  upper : left / 2 ^ 4 ≡ bit_xor (x / 2 ^ 8) (low / 2 ^ 4)
  upper = xor_shr (x / 2 ^ 4) low 4 ∙ ap (λ (z : ℕ). bit_xor z (low / 2 ^ 4)) (div-div-eq-div-mul x (2 ^ 4) (2 ^ 4))

  next : left % 16 ≡ bit_xor (x / 2 ^ 4) (x % 4 * 4) % 16
  next =
      let e : low % 16 ≡ x % 4 * 4 % 16 =
      ap (λ (z : ℕ). z % 16) (entry feedback802 (x % 16) (omega arith)) ∙ low_half (x % 16) (omega arith) ∙ omega arith in
      xor_mod (x / 2 ^ 4) low 4 ∙ ap (bit_xor (x / 2 ^ 4 % 16)) e ∙ sym (xor_mod (x / 2 ^ 4) (x % 4 * 4) 4)

  -- both half bytes, the high one's entry by an index that does not wait for the low one's
  side_by_side : bit_xor (bit_xor (x / 2 ^ 8) (low / 2 ^ 4)) (get_or (half_bytes feedback802) (bit_xor (x / 2 ^ 4) (x % 4 * 4) % 16) 0) ≡ clocks feedback802 8 x
  side_by_side =
      ap₂ (λ (y i : ℕ). bit_xor y (get_or (half_bytes feedback802) i 0)) (sym upper) (sym next)
      ∙ by_entry feedback802 left
      ∙ ap (clocks feedback802 4) (by_entry feedback802 x)
      ∙ eight feedback802 x

pub by_entries : (x : ℕ) (t : List ℕ) → t ≡ half_bytes feedback802
    → bit_xor (bit_xor (x / 2 ^ 8) (get_or t (x % 16) 0 / 2 ^ 4)) (get_or t (bit_xor (x / 2 ^ 4) (x % 4 * 4) % 16) 0) ≡ clocks feedback802 8 x
by_entries x t e = rw e (side_by_side x)
