-- Each permitted step keeps the invariant: those that bring no frame here. Assumes nothing.
use Prim.Native.Nat.{ℕ, ◌+◌, ◌<◌}
use mathlib.Core.Path.{◌≡◌, sym, subst}
use mathlib.Core.List.{List, [], ◌++◌, append-nil}
use Rattle.memory.specs.Memory.{store}
use Rattle.window.specs.Window.{holds_descriptor}
use Rattle.packet_status.specs.PacketStatus.{granted, with_packet_status}
use Rattle.enet.specs.declared.Enet.{Enet}
use Rattle.enet.specs.Frames.{grant}
use Rattle.granting.specs.Granting as plain
use Rattle.granting.specs.Granting.{grant_number}
use Rattle.rules.proofs.Choices.{by_bool}
use Rattle.calls.specs.Looks.{Look}
use Rattle.calls.specs.Calls.{Bench, Call, looks, register_write, grant_call, send_call, step_run, tick_call, call}
use Rattle.changes.specs.Regions.{regions, Outside}
use Rattle.changes.proofs.Stopped.{send_stopped, run_stopped}
use Rattle.steps.specs.Steps.{public_call, firmware_write, Progress, after_step}
use Rattle.steps.specs.Start.{Permitted}
use Rattle.steps.proofs.Places.{RingSound, desc_at}
use Rattle.steps.proofs.Held.{SameRing}
use Rattle.steps.proofs.Invariant.{Inv, InvP, SameDevice, keeps}
use Rattle.steps.proofs.Now.{lent_now}
use Rattle.steps.proofs.Same.{same_device, write_same, tick_same, same_ring, elsewhere, written_ring}
use Rattle.steps.proofs.Grants.{grant_made}

module _ {b : Bench} {n first : ℕ} {sound : RingSound b n first} (p : Progress) (i : InvP b n first sound p) where
  -- what a step leaves that grants and delivers nothing
  quiet : (e : Enet) (m : List ℕ) → SameDevice p.bench.device e → SameRing b n first sound p.bench.memory m
      → Inv b n first sound e m (p.grants ++ []) p.delivered
  quiet e m s r = rw (append-nil p.grants) (keeps s r i)

  -- the same with the memory as it was
  pub unwritten : (e : Enet) → SameDevice p.bench.device e → Inv b n first sound e p.bench.memory (p.grants ++ []) p.delivered
  unwritten e s = quiet e p.bench.memory s (same_ring b n first sound p.bench.memory)

  pub idle : Inv b n first sound p.bench.device p.bench.memory (p.grants ++ []) p.delivered
  idle = unwritten p.bench.device (same_device p.bench.device)

  left : (c : Bench) → c ≡ p.bench → Inv b n first sound c.device c.memory (p.grants ++ []) p.delivered
  left c e = subst (λ (x : Bench). Inv b n first sound x.device x.memory (p.grants ++ []) p.delivered) (sym e) idle

  -- a call that grants nothing and writes no byte of the ring's descriptors
  called : (c : Call) → SameDevice p.bench.device (call p.bench c).bench.device
      → ((k : ℕ) → k < n → (i : ℕ) → i < 16 → Outside (desc_at b first k + i) (regions p.bench c))
      → Inv b n first sound (call p.bench c).bench.device (call p.bench c).bench.memory (p.grants ++ []) p.delivered
  called c s out = quiet (call p.bench c).bench.device (call p.bench c).bench.memory s (elsewhere b n first sound p.bench c out)

  pub look_keeps : (look : Look) → InvP b n first sound (after_step p (public_call (looks look)))
  look_keeps look = called (looks look) (same_device p.bench.device) (λ k l i u. tt)

  pub write_keeps : (register value : ℕ) → Permitted b n first p (public_call (register_write register value))
      → InvP b n first sound (after_step p (public_call (register_write register value)))
  write_keeps register value permit =
      called (register_write register value) (write_same p.bench.device register value permit.registers) (λ k l i u. tt)

  pub grant_keeps : (a : ℕ) → Permitted b n first p (public_call (grant_call a)) → InvP b n first sound (after_step p (public_call (grant_call a)))
  unfolding grant plain.grant grant_number with_packet_status
  grant_keeps a permit =
      by_bool (holds_descriptor p.bench.device.base p.bench.device.window a)
      (λ e.
      by_bool (granted p.bench.device.base p.bench.memory a)
      (λ g. rw (lent_now i, e, g) idle)
      (λ g. rw (lent_now i, e, g) (grant_made i a (rw (lent_now i, e, g) at permit.grants).0 g)))
      (λ e. rw (lent_now i, e) idle)

  pub send_keeps : (output : List ℕ) → InvP b n first sound (after_step p (public_call (send_call output)))
  send_keeps output = left (call p.bench (send_call output)).bench (send_stopped p.bench i.fixed.sending output)

  pub run_keeps : (output : List ℕ) (allowance : ℕ) → InvP b n first sound (after_step p (public_call (step_run output allowance)))
  run_keeps output allowance =
      left (call p.bench (step_run output allowance)).bench (run_stopped p.bench i.fixed.sending output allowance)

  pub tick_keeps : InvP b n first sound (after_step p (public_call tick_call))
  tick_keeps = called tick_call (tick_same p.bench.device p.bench.memory) (λ k l i u. tt)

  pub firmware_keeps : (at : ℕ) (bytes : List ℕ) → Permitted b n first p (firmware_write at bytes)
      → InvP b n first sound (after_step p (firmware_write at bytes))
  firmware_keeps at bytes permit =
      quiet p.bench.device (store p.bench.memory at bytes) (same_device p.bench.device)
      (written_ring b n first sound p.bench.memory at bytes permit.bytes)
