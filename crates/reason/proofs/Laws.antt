-- No frame is taken without a reason; and a packet status word fits into 32 bits, and its length and VALID read back, whatever the
-- reason. Assumes nothing.
use Prim.Native.Nat.{ℕ, ◌+◌, ◌/◌, ◌%◌, ◌^◌, ◌≤◌, ◌<◌}
use mathlib.Core.Path.{◌≡◌, refl}
use mathlib.Core.Bool.{false}
use native.Mathlib.Omega.{arith}
use borrow.Author.Tests.{ne_eqb}
use lib.Dec.{eqb}
use Rattle.std.specs.Prelude.{Option, Some, None}
use Rattle.std.specs.Option.{is_some}
use Rattle.rules.specs.Bit.{bit}
use Rattle.rules.proofs.Choices.{by_test}
use Rattle.reason.specs.declared.Reason.{Reason}
use Rattle.reason.specs.declared.Reason.TheVariants.{Own, Broadcast, Group, ReceiveAll}
use Rattle.reason.specs.Reason.{reason_number, taken}
use Rattle.reason.specs.Status.{reason_bits, delivered_status}

pub taken_is_some : (reason : Option Reason) → taken (reason_number reason) ≡ is_some reason
taken_is_some None = refl
taken_is_some (Some Own) = refl
taken_is_some (Some Broadcast) = refl
taken_is_some (Some Group) = refl
taken_is_some (Some ReceiveAll) = refl

-- a property of the reason's bits, by their values
by_bits : (P : ℕ → Type 0) (reason : ℕ) → P 0x1000_0000 → P 0x0800_0000 → P 0 → P (reason_bits reason)
by_bits P reason b g o = by_test P (eqb reason 2) _ _ (λ _. b) (λ _. by_test P (eqb reason 3) _ _ (λ _. g) (λ _. o))

pub bits_fit : (reason b : ℕ) → b ≡ reason_bits reason → b ≤ 0x1000_0000
bits_fit reason b e = rw e (by_bits (λ b. b ≤ 0x1000_0000) reason (omega arith) (omega arith) (omega arith))

-- what `status` adds up
pub status_sum : (reason n b : ℕ) → b ≡ reason_bits reason → b + n ≡ delivered_status reason n
unfolding delivered_status
status_sum reason n b e = rw e

module _ (reason n : ℕ) (short : n < 2048) where
  pub status_fits : delivered_status reason n < 0x1_0000_0000
  unfolding delivered_status
  status_fits = by_bits (λ b. b + n < 0x1_0000_0000) reason (omega arith) (omega arith) (omega arith)

  -- "the frame length", bits 10 to 0
  pub status_length : delivered_status reason n % 2048 ≡ n
  unfolding delivered_status
  status_length = by_bits (λ b. (b + n) % 2048 ≡ n) reason (omega arith) (omega arith) (omega arith)

  -- "VALID returned", bit 16
  pub status_returned : bit 16 (delivered_status reason n) ≡ false
  unfolding delivered_status
  status_returned =
      by_bits (λ b. bit 16 (b + n) ≡ false) reason
      (ne_eqb ((0x1000_0000 + n) / 2 ^ 16 % 2) 1 (λ e. omega arith))
      (ne_eqb ((0x0800_0000 + n) / 2 ^ 16 % 2) 1 (λ e. omega arith))
      (ne_eqb ((0 + n) / 2 ^ 16 % 2) 1 (λ e. omega arith))
