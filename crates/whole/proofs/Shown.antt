-- A frame that lies whole is what a reading gives, whatever the reason for which it was taken. Assumes nothing.
use Prim.Native.Nat.{ℕ, ◌-◌, ◌%◌}
use mathlib.Core.Path.{◌≡◌, sym, ap, ◌∙◌}
use mathlib.Core.Bool.{false}
use native.Mathlib.Omega.{arith}
use lib.ListN.{length, take, drop}
use lib.Seq.{take-take}
use Rattle.rules.specs.Bit.{bit}
use Rattle.reason.proofs.Laws.{status_length, status_returned}
use Rattle.frame.proofs.Passed.{allowed_bounds}
use Rattle.address_rule.specs.AddressRule.{address_rule}
use Rattle.window.specs.Window.{offset}
use Rattle.descriptor.specs.Descriptor.{start}
use Rattle.packet_status.specs.PacketStatus.{packet_status, granted, frame_length}
use Rattle.reading.specs.Reading.{shown, reading_number, reading}
use Rattle.whole.specs.Shown.{ShownWhole}

pub shown_whole : ShownWhole
unfolding reading reading_number shown granted frame_length
shown_whole b d frame w c =
    let most = (allowed_bounds (length frame) c.long).1 in
    let reason = address_rule b.device.registers.filter frame in
    let n : packet_status b.device.base b.memory d % 2048 ≡ length frame =
    ap (λ (v : ℕ). v % 2048) w.status ∙ status_length reason (length frame) (omega arith) in
    let r : bit 16 (packet_status b.device.base b.memory d) ≡ false =
    ap (λ (v : ℕ). bit 16 v) w.status ∙ status_returned reason (length frame) (omega arith) in
    let m = drop (offset b.device.base (start b.device.base b.memory d)) b.memory in
    rw (c.memory, c.place, c.inside, r, c.flat, n, c.long, w.inside)
    (sym (take-take (length frame - 4) (length frame) m (omega arith)) ∙ ap (take (length frame - 4)) w.bytes)
