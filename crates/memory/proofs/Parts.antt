-- Parts of a list: one that is cut short, and the numbers in one. Assumes nothing.
use Prim.Native.Nat.{ℕ, zero, suc, ◌+◌, ◌-◌, ◌≤◌}
use mathlib.Core.Path.{◌≡◌, sym, ◌∙◌}
use mathlib.Core.List.{List, [], ◌∷◌}
use native.Mathlib.Omega.{arith}
use native.Mathlib.Nat.{zero-sub, suc-sub-suc, sub-zero}
use lib.ListN.{take, drop}
use lib.Seq.{take-nil, get_or-take, get_or-drop, drop-drop}
use Rattle.memory.specs.Memory.{word}

pub drop_take : (m n : ℕ) (l : List ℕ) → drop m (take n l) ≡ take (n - m) (drop m l)
drop_take zero n l = rw (sub-zero n)
drop_take (suc m) zero l = rw (zero-sub (suc m))
drop_take (suc m) (suc n) [] = sym (take-nil (suc n - suc m))
drop_take (suc m) (suc n) (x ∷ l) = rw (suc-sub-suc n m) (drop_take m n l)

-- the number at a place of a list, from an earlier place on
pub word_from : (s : List ℕ) (p k : ℕ) → word (drop p s) k ≡ word s (p + k)
unfolding word
word_from s p k =
    let a : p + (k + 1) ≡ p + k + 1 = omega arith in
    let b : p + (k + 2) ≡ p + k + 2 = omega arith in
    let c : p + (k + 3) ≡ p + k + 3 = omega arith in
    rw (get_or-drop p s k 0, get_or-drop p s (k + 1) 0, get_or-drop p s (k + 2) 0, get_or-drop p s (k + 3) 0, a, b, c)

-- the same in a part of n bytes
module _ (s : List ℕ) (p n : ℕ) where
  pub word_in : (k : ℕ) → k + 4 ≤ n → word (take n (drop p s)) k ≡ word s (p + k)
  unfolding word
  word_in k h =
      rw (
        get_or-take n (drop p s) k 0 (omega arith),
        get_or-take n (drop p s) (k + 1) 0 (omega arith),
        get_or-take n (drop p s) (k + 2) 0 (omega arith),
        get_or-take n (drop p s) (k + 3) 0 (omega arith),
      )
      (word_from s p k)

  -- what is behind its first k bytes
  pub behind_in : (k : ℕ) → drop k (take n (drop p s)) ≡ take (n - k) (drop (p + k) s)
  behind_in k = drop_take k n (drop p s) ∙ rw (drop-drop k p s)
