-- Bytes that are put in two pieces: the ways out of the code. Assumes nothing.
use Prim.Native.Nat.{ℕ, ◌+◌, ◌-◌, ◌≤◌, ◌<◌}
use mathlib.Core.Path.{◌≡◌, refl, ◌∙◌}
use mathlib.Core.Bool.{false}
use mathlib.Core.List.{List, ◌++◌}
use native.Mathlib.Omega.{arith}
use borrow.Author.Tests.{lt-ltb, le-ltb}
use lib.Dec.{ltb}
use lib.ListN.{length, length-append}
use Rattle.memory.specs.Memory.{store}
use Rattle.memory.proofs.Stores.{store_append}
use Rattle.appending.specs.Put.{put_of, put}

module _ (l : List ℕ) (at : ℕ) (head body : List ℕ) where
  past : length l < at + (length head + length body) → put_of 0 l ≡ put l at (head ++ body)
  unfolding put
  past h =
      let t : length l < at + length (head ++ body) = simp length-append h in
      rw (lt-ltb (length l) (at + length (head ++ body)) t)

  pub none_behind : length l < at → put_of 0 l ≡ put l at (head ++ body)
  none_behind h = past (omega arith)

  pub no_head : at ≤ length l → length l - at < length head → put_of 0 l ≡ put l at (head ++ body)
  no_head g h = past (omega arith)

  pub no_body : at ≤ length l → length head ≤ length l - at → length l - at - length head < length body → put_of 0 l ≡ put l at (head ++ body)
  no_body f g h = past (omega arith)

  -- in two stores
  pub both_put : (m m' : List ℕ) → at ≤ length l → length head ≤ length l - at → length body ≤ length l - at - length head
      → m ≡ store l at head → m' ≡ store m (at + length head) body → put_of (at + length head + length body) m' ≡ put l at (head ++ body)
  unfolding put
  both_put m m' a b h p q =
      let t : at + length head + length body ≡ at + length (head ++ body) = simp length-append (omega arith) in
      let u : at + length (head ++ body) ≤ length l = rw (← t) (omega arith) in
      let v : ltb (length l) (at + length (head ++ body)) ≡ false = le-ltb (length l) (at + length (head ++ body)) u in
      let w : m' ≡ store l at (head ++ body) = q ∙ rw p (store_append l at (at + length head) head body refl) in
      rw v (λ j. record { end = t j; list = w j })
