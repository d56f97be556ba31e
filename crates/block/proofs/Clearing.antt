-- A law of the part that is filled with zeros. Assumes nothing.
use Prim.Native.Nat.{ℕ, ◌+◌, ◌-◌, ◌≤◌, ◌<◌, min}
use mathlib.Core.Path.{◌≡◌, sym, ap, ◌∙◌}
use mathlib.Core.Logic.{◌⊎◌, inl, inr}
use mathlib.Core.List.{List, ◌++◌, append_assoc}
use native.Mathlib.Omega.{arith}
use borrow.Rule.Slice.PartMut.{put_mid, Post-is}
use lib.ListN.{length, take, drop, replicate, length-replicate}
use Rattle.std.proofs.lemmas.Bool.{cases_lt}
use Rattle.std.proofs.lemmas.List.{replicate-append-replicate}
use Rattle.std.proofs.lemmas.List.Edits.{sets-eq}
use Rattle.memory.specs.Memory.{store}
use Rattle.memory.proofs.Laws.{store_out}
use Rattle.memory.proofs.Stores.{length_store, store_append}

module _ (m : List ℕ) (at n k : ℕ) (within : at < length m) where
  -- zeros behind the last that has room change nothing
  more : (o : List ℕ) → length o ≡ length m → (k ≡ n) ⊎ (k ≡ length m - at) → o ≡ store o (at + k) (replicate (n - k) 0)
  unfolding store
  more o l (inl e) = let f : n - k ≡ 0 = omega arith in rw f
  more o l (inr e) = store_out o (at + k) (replicate (n - k) 0) (omega arith)

  which : k ≡ min n (length m - at) → (k ≡ n) ⊎ (k ≡ length m - at)
  which e =
      elim (cases_lt n (length m - at)) [
        | inl h ↦ inl (omega (arith, e))
        | inr h ↦ inr (omega (arith, e))
      ]

  put : (z : List ℕ) → k ≤ length m - at → z ≡ replicate k 0 → put_mid at (at + k - at) m z ≡ store m at (replicate k 0)
  unfolding store
  put z room ez =
      let few : length {A = ℕ} (replicate k 0) ≡ k = length-replicate k 0 in
      ap (λ y. put_mid at (at + k - at) m y) ez
      ∙ ap (λ r. take at m ++ (replicate k 0 ++ r)) (Post-is at (at + k) m (omega arith) ∙ ap (λ i. drop (at + i) m) (sym few))
      ∙ sym (append_assoc (take at m) (replicate k 0) (drop (at + length (replicate {A = ℕ} k 0)) m))
      ∙ sym (sets-eq (replicate k 0) m at (omega (arith, few)))

  -- as many zeros as have room are put
  pub cleared : (z : List ℕ) → k ≡ min n (length m - at) → z ≡ replicate k 0 → put_mid at (at + k - at) m z ≡ store m at (replicate n 0)
  cleared z e ez =
      let few : length {A = ℕ} (replicate k 0) ≡ k = length-replicate k 0 in
      let all : replicate k 0 ++ replicate (n - k) 0 ≡ replicate n 0 =
      replicate-append-replicate k (n - k) 0 ∙ ap (λ i. replicate i 0) (omega (arith, e)) in
      put z (omega (arith, e)) ez
      ∙ more (store m at (replicate k 0)) (length_store m at (replicate k 0)) (which e)
      ∙ store_append m at (at + k) (replicate k 0) (replicate (n - k) 0) (omega (arith, few))
      ∙ ap (store m at) all
