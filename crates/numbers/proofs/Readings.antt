-- The part that a reading gives back is empty exactly where its number is a refusal's. Assumes nothing.
use Prim.Native.Nat.{ℕ, ◌+◌, ◌-◌, ◌≤◌}
use mathlib.Core.Path.{◌≡◌, refl, ap}
use mathlib.Core.Bool.{true, not, ◌&&◌}
use mathlib.Core.List.{List, []}
use native.Mathlib.Omega.{arith}
use lib.Dec.{eqb, leb}
use lib.ListN.{length, take, drop, length-take, length-drop}
use borrow.Author.Tests.{eqb-true, leb-true}
use Rattle.std.specs.Prelude.{if◌then◌else◌}
use Rattle.rules.proofs.Choices.{and_parts}
use Rattle.window.specs.Window.{lent, offset, in_window}
use Rattle.address.specs.Address.{aligned}
use Rattle.descriptor.specs.Descriptor.{start}
use Rattle.packet_status.specs.PacketStatus.{granted, frame_length}
use Rattle.frame.specs.Length.{length_allowed}
use Rattle.reading.specs.Reading.{shown, reading}
use Rattle.calls.specs.Looks.{reading_number_call, reading_call}
use Rattle.calls.specs.Calls.{Bench, looks, call}
use Rattle.numbers.specs.Numbers.{EmptyPart}
use Rattle.changes.proofs.Branches.{by_reading}

-- a frame that is shown has 60 bytes and more without its last four
abbrev pub frame : ℕ → List ℕ → ℕ → List ℕ
frame base m d = take (frame_length base m d - 4) (drop (offset base (start base m d)) m)

long_frame : (base window : ℕ) (m : List ℕ) (d : ℕ) → lent window m ≡ true → shown base window m d ≡ true → 60 ≤ length (frame base m d)
unfolding lent shown length_allowed in_window
long_frame base window m d l s =
    let n = frame_length base m d in
    let a = start base m d in
    let before = aligned d && in_window base window d 16 && not (granted base m d) && aligned a in
    let p = and_parts (before && length_allowed n) (in_window base window a n) s in
    let q = and_parts before (length_allowed n) p.0 in
    let sized = and_parts (leb 64 n) (leb n 1518) q.1 in
    let placed = and_parts (leb base a) (leb (a + n) (base + window)) p.1 in
    simp (length-take, length-drop) (omega (
      arith,
      eqb-true (length m) window l,
      leb-true 64 n sized.0,
      leb-true base a placed.0,
      leb-true (a + n) (base + window) placed.1,
    ))

module _ (b : Bench) (address : ℕ) where
  -- the part that is given back at a number
  abbrev pub part : ℕ → List ℕ
  part n = if eqb n 0 then frame b.device.base b.memory address else []

  pub empty_part_lem : EmptyPart (call b (looks (reading_call address))).bytes (call b (looks (reading_number_call address))).number
  unfolding reading
  empty_part_lem =
      by_reading (λ n. EmptyPart (part n) n) b.device.base b.device.window b.memory address
      (λ _ z. omega arith, λ _. refl)
      (λ _ z. omega arith, λ _. refl)
      (λ l s.
      let long = long_frame b.device.base b.device.window b.memory address l s in
      (λ e _. omega (arith, ap length e), λ h. absurd (h refl)))
