-- A block that is made has no fault. Assumes nothing.
use Prim.Native.Nat.{ℕ, ◌-◌, ◌≤◌}
use mathlib.Core.Path.{◌≡◌, refl, sym, ◌∙◌}
use mathlib.Core.Bool.{Bool, true, false}
use mathlib.Core.Logic.{◌⊎◌, inl, inr}
use native.Mathlib.Omega.{arith}
use borrow.Author.Tests.{eq-eqb, le-ltb}
use lib.ListN.{length}
use Rattle.block.specs.Fields.{block_number, stored_check, check_of}
use Rattle.block.specs.Faults.{used_fault, block_fault}
use Rattle.block.specs.Made.{block_of}
use Rattle.block.proofs.Ways.{used_last, used_other}
use Rattle.block_forms.specs.Forms.{MadeGood}
use Rattle.block_forms.proofs.Lists.{zeros_zero}
use Rattle.block.proofs.Blocks.{length_block}
use Rattle.block_forms.proofs.Back.{number_back, used_back, check_back, unused_back}

used_good : (last : Bool) (u : ℕ) → 1 ≤ u → u ≤ 504 → (last ≡ true) ⊎ (u ≡ 504) → used_fault last u ≡ false
used_good last u some room (inl e) = sym (used_last last u (λ q. omega arith) room e)
used_good true u some room (inr e) = sym (used_last true u (λ q. omega arith) room refl)
used_good false u some room (inr e) = sym (used_other false u (λ q. omega arith) room refl) ∙ le-ltb u 504 (omega arith)

pub made_good : MadeGood
unfolding block_fault
made_good last k d number some room full =
    rw (
      eq-eqb (length (block_of k d)) 512 (length_block k d),
      eq-eqb (block_number (block_of k d)) k (number_back k d number),
      eq-eqb (stored_check (block_of k d)) (check_of (block_of k d)) (check_back k d),
      used_back k d (omega arith),
      used_good last (length d) some room full,
      unused_back k d room,
      zeros_zero (504 - length d),
    )
