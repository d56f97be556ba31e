-- What each function leaves, and its numbers. Assumes nothing.
use Prim.Native.Nat.{ℕ}
use mathlib.Core.Path.{◌≡◌}
use mathlib.Core.List.{List}
use Rattle.memory.specs.Memory.{store}
use Rattle.trace.specs.Reading.{Summary, reading_of, read}
use Rattle.trace_writing.specs.Writing.{Written, writing_of, write}
use Rattle.replaying.specs.Replay.{Replayed, replaying, replay}
use Rattle.trace_trial.specs.Numbers.{summary_numbers, written_numbers, replayed_numbers, left, replayed}

pub read_left : (t room next found after : List ℕ) (f : Summary) → reading_of f next ≡ read t room → after ≡ store found 0 (summary_numbers f)
    → (next ≡ (read t room).room) × (after ≡ store found 0 (summary_numbers (read t room).summary))
read_left t room next found after f e q = (rw (← e), rw (← e) q)

pub write_left : (base window : ℕ) (events room next found after : List ℕ) (w : Written) → writing_of w next ≡ write base window events room
    → after ≡ store found 0 (written_numbers w)
    → (next ≡ (write base window events room).room) × (after ≡ store found 0 (written_numbers (write base window events room).written))
write_left base window events room next found after w e q = (rw (← e), rw (← e) q)

pub replay_left : (t room memory output answers found room₁ memory₁ output₁ answers₁ found₁ l : List ℕ) (r : Replayed)
    → replaying r room₁ memory₁ output₁ answers₁ ≡ replay t room memory output answers → l ≡ replayed_numbers r → found₁ ≡ store found 0 l
    → left room₁ memory₁ output₁ answers₁ found₁ ≡ replayed t room memory output answers found
replay_left t room memory output answers found room₁ memory₁ output₁ answers₁ found₁ l r e n q = rw (← e, q, n)
