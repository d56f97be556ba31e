-- Exclusive or is associative. Assumes nothing.
use mathlib.Core.Path.{◌≡◌, refl, sym, ap₂, ◌∙◌}
use mathlib.Core.Logic.{◌⊎◌, inl, inr, ⊎_elim}
use Prim.Native.Nat.{ℕ, zero, suc, ◌+◌, ◌*◌, ◌/◌, ◌%◌, ◌<◌}
use native.Mathlib.Nat.{div-add-mod'}
use native.Mathlib.Omega.{arith}
use lib.Arith.{bin_ind}
use lib.Bits.{bit_xor, xor_shr, xor_mod}

bit : (n : ℕ) → n < 2 → (n ≡ 0) ⊎ (n ≡ 1)
bit zero h = inl refl
bit (suc zero) h = inr refl
bit (suc (suc n)) h = absurd (omega arith)

-- by the cases of three bits
bits_assoc : (a b c : ℕ) → a < 2 → b < 2 → c < 2 → bit_xor (bit_xor a b) c ≡ bit_xor a (bit_xor b c)
bits_assoc a b c ha hb hc =
    ⊎_elim (λ (p : a ≡ 0). rw p)
    (λ (p : a ≡ 1).
    ⊎_elim (λ (q : b ≡ 0). rw (p, q))
    (λ (q : b ≡ 1). ⊎_elim (λ (s : c ≡ 0). rw (p, q, s)) (λ (s : c ≡ 1). rw (p, q, s)) (bit c hc))
    (bit b hb))
    (bit a ha)

-- a number is half of it and its low bit
half : (a b : ℕ) → bit_xor a b ≡ bit_xor (a / 2) (b / 2) * 2 + bit_xor (a % 2) (b % 2)
half a b = sym (div-add-mod' (bit_xor a b) 2) ∙ ap₂ (λ (x y : ℕ). x * 2 + y) (xor_shr a b 1) (xor_mod a b 1)

pub xor_assoc : (a b c : ℕ) → bit_xor (bit_xor a b) c ≡ bit_xor a (bit_xor b c)
xor_assoc =
    bin_ind (λ (n : ℕ). (b c : ℕ) → bit_xor (bit_xor n b) c ≡ bit_xor n (bit_xor b c)) (λ b c. refl)
    (λ n ih b c.
    half (bit_xor n b) c
    ∙ ap₂ (λ (x y : ℕ). bit_xor x (c / 2) * 2 + bit_xor y (c % 2)) (xor_shr n b 1) (xor_mod n b 1)
    ∙ ap₂ (λ (x y : ℕ). x * 2 + y) (ih (b / 2) (c / 2)) (bits_assoc (n % 2) (b % 2) (c % 2) (omega arith) (omega arith) (omega arith))
    ∙ sym (half n (bit_xor b c) ∙ ap₂ (λ (x y : ℕ). bit_xor (n / 2) x * 2 + bit_xor (n % 2) y) (xor_shr b c 1) (xor_mod b c 1)))
