-- 02, Wish 4, of replay: it "refuses as reading does, or if the lent answer list is short, with row 1's state". Assumes nothing.
use Rattle.std.specs.Prelude.{ℕ, ◌≤◌, ◌<◌, ◌≡◌, ◌⊎◌, List, length}
use Rattle.trace.specs.Reading.{look}
use Rattle.enet.specs.Device.{reset}
use Rattle.replaying.specs.Replay.{replay_number, replay}

-- the reading's number where it refuses; else 24 exactly if there are fewer answers than events
abbrev pub Says : List ℕ → ℕ → ℕ → Type 0
Says t room answers =
    let f = look t room in
    let n = replay_number t room answers in
    ((f.number ≡ 0 → ⊥) × (n ≡ f.number))
    ⊎ (((f.number ≡ 0) × (answers < f.events) × (n ≡ 24)) ⊎ ((f.number ≡ 0) × (f.events ≤ answers) × (n ≡ 0)))

abbrev pub Exactly : Type 0
Exactly = (t : List ℕ) (room answers : ℕ) → Says t room answers

-- a refusal has row 1's state, and leaves the room, the memory, the output and the answers as they were
pub record Kept (t r m o a : List ℕ) : Type 0 where
  pub state : (replay t r m o a).replayed.device ≡ reset
  -- of a bad block its place, 0 where the reason is no block's
  pub block : (replay t r m o a).replayed.block ≡ (look t (length r)).block
  pub room : (replay t r m o a).room ≡ r
  pub memory : (replay t r m o a).memory ≡ m
  pub output : (replay t r m o a).output ≡ o
  pub answers : (replay t r m o a).answers ≡ a

abbrev pub ChangesNothing : Type 0
ChangesNothing =
    (t room memory output answers : List ℕ)
    → ((replay t room memory output answers).replayed.number ≡ 0 → ⊥)
    → Kept t room memory output answers
