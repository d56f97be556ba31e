-- Laws of the pairs in a line: the turns and the ways out of their functions. Assumes nothing.
use mathlib.Core.Path.{◌≡◌}
use mathlib.Core.Bool.{Bool, true, false, not}
use mathlib.Core.List.{List}
use Prim.Native.Nat.{ℕ, suc, ◌+◌, ◌-◌}
use native.Mathlib.Numerals.{add-one}
use native.Mathlib.Omega.{arith}
use lib.ListN.{set}
use Rattle.std.specs.Prelude.{if◌then◌else◌}
use Rattle.rules.proofs.Choices.{said_not}
use Rattle.memory.specs.Memory.{store}
use Rattle.words.specs.Words.{spaced, first, rest}
use Rattle.std.specs.Prelude.{Option, Some, None, unwrap_or}
use Rattle.forms.specs.Numbers.{decimal}
use Rattle.forms.specs.Pairs.{byte_count}
use Rattle.pair_words.specs.PairWords.{first_number, pairs_from, pairs_behind, every_other}

pub first_number_is : (s w : List ℕ) (x : Option ℕ) → w ≡ first s → x ≡ decimal w 99_999_999 → x ≡ first_number s
unfolding first_number
first_number_is s w x e h = rw (← e) h

-- ---- the pairs that are left

pub pairs_none : (left n : ℕ) (s : List ℕ) → left ≡ 0 → None ≡ pairs_from left n s
unfolding pairs_from
pairs_none left n s z = rw z

one_less : (n : ℕ) → (n ≡ 0 → ⊥) → n ≡ suc (n - 1)
one_less n z = omega arith

-- with the START's number in hand, then the LENGTH's, and whether more follows
module _ (left n : ℕ) (s : List ℕ) (z : left ≡ 0 → ⊥) (x : Option ℕ) (e : x ≡ first_number s) where
  pub pairs_start : (r : Option ℕ) → x ≡ None → r ≡ None → r ≡ pairs_from left n s
  unfolding pairs_from
  pairs_start r t h = rw (one_less left z, ← e, t) h

  module _ (v : ℕ) (t : x ≡ Some v) (s₂ : List ℕ) (cut : s₂ ≡ rest s) (x₂ : Option ℕ) (e₂ : x₂ ≡ first_number s₂) where
    pub pairs_length : (r : Option ℕ) → x₂ ≡ None → r ≡ None → r ≡ pairs_from left n s
    unfolding pairs_from
    pairs_length r t₂ h = rw (one_less left z, ← e, t, ← cut, ← e₂, t₂) h

    module _ (v₂ : ℕ) (t₂ : x₂ ≡ Some v₂) (q : Bool) (is₃ : q ≡ spaced s₂) where
      -- both are right
      a_pair : (y : Option ℕ) → y ≡ (if not (spaced s₂) then Some (n + 1) else pairs_from (left - 1) (n + 1) (rest s₂)) → y ≡ pairs_from left n s
      unfolding pairs_from
      a_pair y h = rw (one_less left z, ← e, t, ← cut, ← e₂, t₂) h

      pub pairs_last : not q ≡ true → Some (n + 1) ≡ pairs_from left n s
      pairs_last t₃ = a_pair (Some (n + 1)) (rw (said_not (spaced s₂) q true is₃ t₃))

      pub pairs_more : (s₃ : List ℕ) (y : Option ℕ) → not q ≡ false → s₃ ≡ rest s₂ → y ≡ pairs_from (left - 1) (n + 1) s₃ → y ≡ pairs_from left n s
      pairs_more s₃ y t₃ cut₂ h = a_pair y (rw (said_not (spaced s₂) q false is₃ t₃, ← cut₂) h)

-- ---- the pairs behind BYTES

module _ (s w : List ℕ) (cut : w ≡ first s) (x : Option ℕ) (e : x ≡ byte_count w) where
  pub behind_wrong : (r : Option ℕ) → x ≡ None → r ≡ None → r ≡ pairs_behind s
  unfolding pairs_behind
  behind_wrong r t h = rw (← cut, ← e, t) h

  module _ (v : ℕ) (t : x ≡ Some v) (q : Bool) (is : q ≡ spaced s) where
    pub behind_none : not q ≡ true → Some 0 ≡ pairs_behind s
    unfolding pairs_behind
    behind_none t₂ = rw (← cut, ← e, t, said_not (spaced s) q true is t₂)

    pub behind_some : (s₂ : List ℕ) (y : Option ℕ) → not q ≡ false → s₂ ≡ rest s → y ≡ pairs_from 66 0 s₂ → y ≡ pairs_behind s
    unfolding pairs_behind
    behind_some s₂ y t₂ cut₂ h = rw (← cut, ← e, t, said_not (spaced s) q false is t₂, ← cut₂) h

-- ---- every other number

pub numbers_none : (out s : List ℕ) (n at : ℕ) → n ≡ 0 → out ≡ store out at (every_other n s)
unfolding store every_other
numbers_none out s n at z = rw z

pub numbers_more : (out out' s s₂ s₃ : List ℕ) (n at v : ℕ) (x : Option ℕ) → (n ≡ 0 → ⊥) → x ≡ first_number s → v ≡ unwrap_or x 0 → s₂ ≡ rest s → s₃ ≡ rest s₂
    → out' ≡ store (set out at v) (at + 1) (every_other (n - 1) s₃) → out' ≡ store out at (every_other n s)
unfolding store every_other
numbers_more out out' s s₂ s₃ n at v x z e f cut cut₂ h = rw (one_less n z, ← e, ← f, ← cut, ← cut₂) (rw add-one at h)
