-- What a burst leaves as it was, from what its single receives leave. Assumes nothing.
use Prim.Native.Nat.{ℕ}
use mathlib.Core.Path.{◌≡◌, refl, sym, ap, ◌∙◌, subst}
use mathlib.Core.Logic.{◌≢◌}
use mathlib.Core.List.{List, [], ◌∷◌, ◌++◌}
use lib.Dec.{eqb}
use Rattle.std.specs.Prelude.{if◌then◌else◌}
use Rattle.enet.specs.declared.Enet.{Enet}
use Rattle.enet.proofs.Ways.{by_receive}
use Rattle.burst.specs.Taken.{taken, frames_inside}
use Rattle.calls.specs.Calls.{Bench, receive_call, burst_call, call}
use Rattle.inputs.specs.Receives.{after_receives}
use Rattle.inputs.proofs.Receives.{single_receives_lem}
use Rattle.changes.specs.Regions.{Region, delivery, deliveries, Outside, SameOutside}
use Rattle.enet.specs.Device.{with_counters, with_rx}
use Rattle.changes.specs.Parts.{status_of, receive_counters, ReceiveOnly, Raises, unchanged, receive_bits, StatusRaised}
use Rattle.changes.proofs.Memories.{MemoryKept, same, both, delivered_kept}
use Rattle.changes.proofs.Devices.{receive_parts}
use Rattle.changes.proofs.Statuses.{receive_status_lem}
use Rattle.changes.proofs.Statuses as statuses

-- ---- the memory

left : (rs ss : List Region) (j : ℕ) → Outside j (rs ++ ss) → Outside j rs
left [] ss j h = tt
left (r ∷ rs) ss j h = (h.0, left rs ss j h.1)

right : (rs ss : List Region) (j : ℕ) → Outside j (rs ++ ss) → Outside j ss
right [] ss j h = h
right (r ∷ rs) ss j h = right rs ss j h.1

more : (rs ss : List Region) (m n : List ℕ) → SameOutside rs m n → SameOutside (rs ++ ss) m n
more rs ss m n p = record { size = p.size; bytes = λ j h. p.bytes j (left rs ss j h) }

-- one receive writes nothing unless it delivers
one_kept : (b : Bench) (frame : List ℕ)
    → SameOutside (if eqb (call b (receive_call frame)).number 0 then delivery b frame else []) b.memory
    (call b (receive_call frame)).bench.memory
one_kept b frame =
    by_receive (λ o. SameOutside (if eqb o.number 0 then delivery b frame else []) b.memory o.memory) b.device b.memory frame
    (same _ _) (same _ _) (same _ _) (same _ _) (same _ _) (same _ _) (same _ _) (delivered_kept b _ frame)

receives_kept : (frames : List (List ℕ)) (b : Bench) → SameOutside (deliveries b frames) b.memory (after_receives b frames).memory
unfolding deliveries after_receives
receives_kept [] b = same _ _
receives_kept (frame ∷ frames) b =
    let r = call b (receive_call frame) in
    let rs = if eqb r.number 0 then delivery b frame else [] in
    both _ _ _ _ _ (right rs (deliveries r.bench frames))
    (more rs (deliveries r.bench frames) b.memory r.bench.memory (one_kept b frame))
    (receives_kept frames r.bench)

-- ---- the device

follows : (d e f : Enet) → ReceiveOnly d e → ReceiveOnly e f → ReceiveOnly d f
follows d e f p q = record {
  others = q.others ∙ ap (λ x. with_counters (with_rx (status_of x f) f.registers.rx) (receive_counters x.counters f.counters)) p.others;
  engine = record { start = q.engine.start ∙ p.engine.start; next = q.engine.next ∙ p.engine.next };
}

receives_parts : (frames : List (List ℕ)) (b : Bench) → ReceiveOnly b.device (after_receives b frames).device
unfolding after_receives
receives_parts [] b = record { others = refl; engine = record { start = refl; next = refl } }
receives_parts (frame ∷ frames) b =
    let r = call b (receive_call frame) in
    follows b.device r.bench.device (after_receives r.bench frames).device (receive_parts b.device b.memory frame) (receives_parts frames r.bench)

receives_status : (frames : List (List ℕ)) (b : Bench) → Raises receive_bits b.device.registers.isr (after_receives b frames).device.registers.isr
unfolding after_receives
receives_status [] b = unchanged
receives_status (frame ∷ frames) b =
    statuses.both (receive_status_lem b frame) (receives_status frames (call b (receive_call frame)).bench)

-- ---- the burst

module _ (b : Bench) (store starts lengths answers : List ℕ) where
  abbrev frames : List (List ℕ)
  frames = frames_inside store (taken starts lengths answers)

  end : after_receives b frames ≡ (call b (burst_call store starts lengths answers)).bench
  end = sym (single_receives_lem b store starts lengths answers).bench

  pub burst_kept : MemoryKept b (burst_call store starts lengths answers)
  burst_kept = subst (λ (e : Bench). SameOutside (deliveries b frames) b.memory e.memory) end (receives_kept frames b)

  pub burst_parts : ReceiveOnly b.device (call b (burst_call store starts lengths answers)).bench.device
  burst_parts = subst (λ (e : Bench). ReceiveOnly b.device e.device) end (receives_parts frames b)

  pub burst_status_lem : StatusRaised receive_bits b (burst_call store starts lengths answers)
  burst_status_lem = subst (λ (e : Bench). Raises receive_bits b.device.registers.isr e.device.registers.isr) end (receives_status frames b)

  -- a refused burst takes no pair
  pub burst_refused : (call b (burst_call store starts lengths answers)).number ≢ 0
      → (call b (burst_call store starts lengths answers)).bench.memory ≡ b.memory
  unfolding frames_inside after_receives
  burst_refused n =
      let r = single_receives_lem b store starts lengths answers in
      ap (λ (e : Bench). e.memory) (r.bench ∙ ap (λ ps. after_receives b (frames_inside store ps)) (r.refused n).1.0)
