-- Laws of the sum that the check is made of: the loop over its four quarters, the quarters together, and lists behind one another.
-- Assumes nothing.
use Prim.Native.Nat.{ℕ, suc, ◌+◌, ◌*◌, ◌%◌, ◌≤◌, ◌<◌}
use mathlib.Core.Path.{◌≡◌}
use mathlib.Core.List.{List, [], ◌∷◌, ◌++◌}
use native.Mathlib.Nat.{mul-le-mul, mul-add, add-mul, add-zero}
use native.Mathlib.Omega.{arith}
use lib.ListN.{length, get_or, take, drop, drop_of_length-le}
use lib.Seq.{length-take-le, take-add}
use Rattle.block.specs.Fields.{weighted, check_of}
use Rattle.block.proofs.Parts.{next_byte}

-- ---- Lists behind one another

weighted_append : (p : ℕ) (a b : List ℕ) → weighted p (a ++ b) ≡ weighted p a + weighted (p + length a) b
unfolding weighted
weighted_append p [] b =
    let e : p + 0 ≡ p = omega arith in
    rw e (omega arith)
weighted_append p (x ∷ a) b =
    let e : p + suc (length a) ≡ p + 1 + length a = omega arith in
    rw (e, weighted_append (p + 1) a b) (omega arith)

-- ---- The loop over the four quarters

-- what is left of them from place i on
abbrev pub left : List ℕ → List ℕ → List ℕ → List ℕ → ℕ → ℕ
left a b c d i = weighted i (drop i a) + weighted (i + 127) (drop i b) + weighted (i + 254) (drop i c) + weighted (i + 381) (drop i d)

-- ---- four bytes of one place

-- their weight there, and 127 more for each quarter before
pub four_is : (x y z t w : ℕ) → (x + y + z + t) * w + 127 * (y + z + z + t + t + t) ≡ x * w + y * (w + 127) + z * (w + 254) + t * (w + 381)
four_is x y z t w =
    omega (arith, add-mul (x + y + z) t w, add-mul (x + y) z w, add-mul x y w, mul-add y w 127, mul-add z w 254, mul-add t w 381)

pub product_small : (x w : ℕ) → x ≤ 1020 → w ≤ 127 → x * w ≤ 129540
product_small x w h l = mul-le-mul {n₂ = 1020} {m₂ = 127} h l

one_byte : (s : List ℕ) (i q : ℕ) → i < length s → weighted (i + q) (drop i s) ≡ get_or s i 0 * (i + 1 + q) + weighted (i + 1 + q) (drop (i + 1) s)
unfolding weighted
one_byte s i q h =
    let e : i + q + 1 ≡ i + 1 + q = omega arith in
    rw (next_byte s i h, e)

module _ (a b c d : List ℕ) (la : length a ≡ 127) (lb : length b ≡ 127) (lc : length c ≡ 127) (ld : length d ≡ 127) where
  pub weigh_turn : (i w sum all r : ℕ) → i < 127 → w ≡ i → sum + left a b c d i ≡ all
      → r ≡ get_or a i 0 * (w + 1) + get_or b i 0 * (w + 1 + 127) + get_or c i 0 * (w + 1 + 254) + get_or d i 0 * (w + 1 + 381)
      → sum + r + left a b c d (i + 1) ≡ all
  weigh_turn i w sum all r h v e q =
      let t = rw v at q in
      let p : weighted i (drop i a) ≡ get_or a i 0 * (i + 1) + weighted (i + 1) (drop (i + 1) a) = rw (add-zero i, add-zero (i + 1)) at (one_byte a i 0 (omega arith)) in
      omega (arith, one_byte b i 127 (omega arith), one_byte c i 254 (omega arith), one_byte d i 381 (omega arith))

  pub weigh_end : (i sum all : ℕ) → 127 ≤ i → sum + left a b c d i ≡ all → sum ≡ all
  unfolding weighted
  weigh_end i sum all h e =
      let g = rw (drop_of_length-le a {i = i} (omega arith), drop_of_length-le b {i = i} (omega arith), drop_of_length-le c {i = i} (omega arith), drop_of_length-le d {i = i} (omega arith)) at e in
      omega arith

-- ---- The quarters are the whole

-- the first n + m: the first n, and m behind them
in_two : (p n m : ℕ) (s : List ℕ) → n ≤ length s → weighted p (take (n + m) s) ≡ weighted p (take n s) + weighted (p + n) (take m (drop n s))
in_two p n m s h = rw (take-add n m s, weighted_append p (take n s) (take m (drop n s)), length-take-le n s h)

quarters : (s : List ℕ) → 508 ≤ length s
    → weighted 0 (take 508 s)
    ≡ weighted 0 (take 127 s) + weighted 127 (take 127 (drop 127 s)) + weighted 254 (take 127 (drop 254 s)) + weighted 381 (take 127 (drop 381 s))
quarters s h =
    let e₁ = in_two 0 381 127 s (omega arith) in
    let e₂ = in_two 0 254 127 s (omega arith) in
    let e₃ = in_two 0 127 127 s (omega arith) in
    omega arith

pub check_is : (s a b c d : List ℕ) (r : ℕ) → 508 ≤ length s → a ≡ take 127 (drop 0 s) → b ≡ take 127 (drop 127 s) → c ≡ take 127 (drop 254 s)
    → d ≡ take 127 (drop 381 s) → r ≡ weighted 0 a + weighted 127 b + weighted 254 c + weighted 381 d → r % 65521 ≡ check_of s
unfolding check_of
check_is s a b c d r h ea eb ec ed er = rw (er, ea, eb, ec, ed, quarters s h)
