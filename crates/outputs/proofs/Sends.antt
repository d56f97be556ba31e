-- A single send: how much it writes. Assumes nothing.
use Prim.Native.Nat.{ℕ}
use mathlib.Core.Path.{◌≡◌}
use mathlib.Core.List.{List}
use Rattle.enet.specs.declared.Enet.{Enet}
use Rattle.enet.specs.Send.{send}
use Rattle.enet.proofs.Sends.{send_written, sent_bounds}
use Rattle.calls.specs.Calls.{Bench, send_call, call, of_sending}
use Rattle.outputs.specs.Outputs.{FrontOnly, FrameSize}

pub send_front : (d : Enet) (m out : List ℕ) → FrontOnly out (of_sending (send d m out))
send_front d m out = let w = send_written d m out in record { fits = w.fits; size = w.same; rest = w.rest }

pub send_size_lem : (b : Bench) (output : List ℕ) → (call b (send_call output)).number ≡ 0 → FrameSize (call b (send_call output)).value
send_size_lem b output z = let s = sent_bounds b.device b.memory output z in record { least = s.0; most = s.1 }
