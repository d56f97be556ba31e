-- 02, Wish 4, of writing: "refused exactly if its event list is not of its form in docs/, if base and length are no allowed
-- window, or if over 65,536 blocks or more room than lent is needed". Assumes nothing.
use Rattle.std.specs.Prelude.{ℕ, ◌*◌, ◌≤◌, ◌<◌, ◌≡◌, true, false, ◌⊎◌, List}
use Rattle.window.specs.Window.{window_allowed}
use Rattle.event.specs.Walk.{walk}
use Rattle.trace_writing.specs.Writing.{is_whole, needed, write_number, write}

-- the situation of each number, in which it is given and no other
abbrev pub Says : ℕ → ℕ → List ℕ → ℕ → Type 0
Says base window events room =
    let n = write_number base window events room in
    let whole = is_whole (walk events).ending in
    let allowed = window_allowed base window in
    ((whole ≡ false) × (n ≡ 25))
    ⊎ (((whole ≡ true) × (allowed ≡ false) × (n ≡ 26))
    ⊎ (((whole ≡ true) × (allowed ≡ true) × (65536 < needed events) × (n ≡ 27))
    ⊎ (((whole ≡ true) × (allowed ≡ true) × (needed events ≤ 65536) × (room < 512 * needed events) × (n ≡ 28))
    ⊎ ((whole ≡ true) × (allowed ≡ true) × (needed events ≤ 65536) × (512 * needed events ≤ room) × (n ≡ 0)))))

abbrev pub Exactly : Type 0
Exactly = (base window : ℕ) (events : List ℕ) (room : ℕ) → Says base window events room

-- a refusal makes no block and leaves the room as it was
abbrev pub ChangesNothing : Type 0
ChangesNothing =
    (base window : ℕ) (events room : List ℕ)
    → let w = write base window events room in
    (w.written.number ≡ 0 → ⊥)
    → (w.written.blocks ≡ 0) × (w.room ≡ room)
