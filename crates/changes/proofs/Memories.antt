-- Where each call leaves memory as it was. Assumes nothing.
use Prim.Native.Nat.{ℕ, zero, suc, ◌+◌}
use mathlib.Core.Path.{refl, ◌∙◌}
use mathlib.Core.Logic.{inl, inr, ⊎_elim}
use mathlib.Core.List.{List, [], ◌∷◌}
use native.Mathlib.Omega.{arith}
use lib.Dec.{eqb, ltb}
use lib.ListN.{length}
use borrow.Author.Tests.{eqb-false}
use Rattle.rules.proofs.Choices.{by_test}
use Rattle.memory.specs.Memory.{word_bytes, store}
use Rattle.memory.proofs.Stores.{length_word_bytes, length_store, byte_apart}
use Rattle.window.specs.Window.{offset}
use Rattle.descriptor.specs.Descriptor.{start}
use Rattle.packet_status.specs.PacketStatus.{with_packet_status}
use Rattle.receiving.specs.Receiving.{delivered}
use Rattle.enet.specs.Run.{Running, sends, run}
use Rattle.calls.specs.Calls.{Bench, Call, grant_call, receive_call, send_call, step_run, call}
use Rattle.enet.proofs.Sends.{send_unsent}
use Rattle.outputs.specs.Runs.{Stand, begins, single, further}
use Rattle.changes.specs.Regions.{Region, status_word, delivery, sent_words, regions, Outside, SameOutside}
use Rattle.enet.proofs.Ways.{by_grant, by_receive, by_send}

abbrev pub MemoryKept : Bench → Call → Type 0
MemoryKept b c = SameOutside (regions b c) b.memory (call b c).bench.memory

pub same : (rs : List Region) (m : List ℕ) → SameOutside rs m m
same rs m = record { size = refl; bytes = λ j h. refl }

-- one store
pub stored : (m : List ℕ) (at : ℕ) (s : List ℕ) (rs : List Region) → SameOutside (record { from = at; size = length s } ∷ rs) m (store m at s)
stored m at s rs = record {
  size = length_store m at s;
  bytes = λ j h. byte_apart m at s j (⊎_elim (λ l. inl (omega arith)) inr h.0);
}

-- one change behind another
pub both : (rs ss : List Region) (m n o : List ℕ) → ((j : ℕ) → Outside j rs → Outside j ss)
    → SameOutside rs m n → SameOutside ss n o → SameOutside rs m o
both rs ss m n o h p q = record { size = q.size ∙ p.size; bytes = λ j k. q.bytes j (h j k) ∙ p.bytes j k }

-- a packet status word
status_stored : (b : Bench) (m : List ℕ) (address v : ℕ) (rs : List Region)
    → SameOutside (status_word b address ∷ rs) m (with_packet_status b.device.base m address v)
unfolding with_packet_status
status_stored b m address v rs = rw (length_word_bytes v) at (stored m (offset b.device.base address + 12) (word_bytes v) rs)

pub grant_kept : (b : Bench) (address : ℕ) → MemoryKept b (grant_call address)
grant_kept b address =
    by_grant (λ o. SameOutside (status_word b address ∷ []) b.memory o.memory) b.device b.memory address
    (same _ _) (same _ _) (same _ _) (status_stored b b.memory address _ [])

-- a delivery
pub delivered_kept : (b : Bench) (reason : ℕ) (frame : List ℕ)
    → SameOutside (delivery b frame) b.memory (delivered b.device.base b.memory b.device.registers.rx.place reason frame)
unfolding delivered
delivered_kept b reason frame =
    let words = status_word b b.device.registers.rx.place ∷ [] in
    let at = offset b.device.base (start b.device.base b.memory b.device.registers.rx.place) in
    both _ words _ _ _ (λ j h. h.1)
    (stored b.memory at frame words)
    (status_stored b (store b.memory at frame) b.device.registers.rx.place _ [])

pub receive_kept : (b : Bench) (frame : List ℕ) → MemoryKept b (receive_call frame)
receive_kept b frame =
    by_receive (λ o. SameOutside (delivery b frame) b.memory o.memory) b.device b.memory frame
    (same _ _) (same _ _) (same _ _) (same _ _) (same _ _) (same _ _) (same _ _) (delivered_kept b _ frame)

pub send_kept : (b : Bench) (output : List ℕ) (rs : List Region)
    → SameOutside (status_word b b.device.registers.tx.place ∷ rs) b.memory (call b (send_call output)).bench.memory
send_kept b output rs =
    by_send (λ s. SameOutside (status_word b b.device.registers.tx.place ∷ rs) b.memory s.memory) b.device b.memory output
    (same _ _) (same _ _) (same _ _) (same _ _) (same _ _) (same _ _) (λ _ _. status_stored b b.memory b.device.registers.tx.place 0 rs)

-- the single sends of a run
abbrev RunKept : Stand → Running → Type 0
RunKept s r = SameOutside (sent_words r.steps s) s.bench.memory r.memory

sends_kept : (left : ℕ) (s : Stand) → RunKept s (sends left s.bench.device s.bench.memory s.rest)
unfolding sends
sends_kept zero s = same _ _
sends_kept (suc left) s =
    by_test (RunKept s) (eqb (single s).number 0) _ _
    (λ e. rw e (both _ _ _ _ _ (λ j h. h.1) (send_kept s.bench s.rest _) (sends_kept left (further s))))
    (λ e. rw e (rw (send_unsent s.bench.device s.bench.memory s.rest (eqb-false (single s).number 0 e)).memory (same _ _)))

pub run_kept : (b : Bench) (output : List ℕ) (allowance : ℕ) → MemoryKept b (step_run output allowance)
unfolding run
run_kept b output allowance =
    by_test (RunKept (begins b output)) (ltb 4096 allowance) _ _
    (λ _. same _ _)
    (λ _. sends_kept allowance (begins b output))
