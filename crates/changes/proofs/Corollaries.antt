-- Single calls, by name: a byte that a call leaves. Assumes nothing.
use Prim.Native.Nat.{ℕ, ◌+◌, ◌≤◌, ◌<◌}
use mathlib.Core.Path.{◌≡◌}
use mathlib.Core.Logic.{◌⊎◌, inl, inr, ⊎_elim}
use mathlib.Core.List.{List, [], ◌∷◌}
use native.Mathlib.Omega.{arith}
use lib.ListN.{length, get_or}
use Rattle.window.specs.Window.{offset}
use Rattle.calls.specs.Calls.{Bench, grant_call, receive_call, send_call, call}
use Rattle.changes.specs.Regions.{status_word, frame_bytes, Outside}
use Rattle.changes.proofs.Nowhere.{changes_nowhere_else}

-- outside the packet status word of the descriptor at an address: before the word, or behind the descriptor
abbrev pub OutsideStatus : Bench → ℕ → ℕ → Type 0
OutsideStatus b address j = (j < offset b.device.base address + 12) ⊎ (offset b.device.base address + 16 ≤ j)

status : (b : Bench) (address j : ℕ) → OutsideStatus b address j → Outside j (status_word b address ∷ [])
status b address j h = (⊎_elim inl (λ r. inr (omega arith)) h, tt)

module _ (b : Bench) (j : ℕ) where
  pub grant_elsewhere : (address : ℕ) → OutsideStatus b address j
      → get_or (call b (grant_call address)).bench.memory j 0 ≡ get_or b.memory j 0
  grant_elsewhere address h = (changes_nowhere_else.calls b (grant_call address)).memory.bytes j (status b address j h)

  pub send_elsewhere : (output : List ℕ) → OutsideStatus b b.device.registers.tx.place j
      → get_or (call b (send_call output)).bench.memory j 0 ≡ get_or b.memory j 0
  send_elsewhere output h = (changes_nowhere_else.calls b (send_call output)).memory.bytes j (status b b.device.registers.tx.place j h)

  -- "Buffer bytes past the frame stay"
  pub receive_elsewhere : (frame : List ℕ)
      → (j < (frame_bytes b frame).from) ⊎ ((frame_bytes b frame).from + length frame ≤ j)
      → OutsideStatus b b.device.registers.rx.place j
      → get_or (call b (receive_call frame)).bench.memory j 0 ≡ get_or b.memory j 0
  receive_elsewhere frame g h = (changes_nowhere_else.calls b (receive_call frame)).memory.bytes j (g, status b b.device.registers.rx.place j h)
