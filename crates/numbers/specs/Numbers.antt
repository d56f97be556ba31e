-- 01, "Numbered results": which numbers a call answers. "A number is given exactly in its row's situation, in these orders."
-- Assumes nothing.
use Rattle.std.specs.Prelude.{ℕ, ◌≤◌, ◌≡◌, true, ◌≢◌, ◌↔◌, List, [], ◌∷◌}
use Rattle.enet.specs.Device.{new}
use Rattle.pair.specs.Pair.{passes}
use Rattle.calls.specs.Looks.{Look, register_read, line_read, reading_number_call, reading_call, ring_check}
use Rattle.calls.specs.Calls.{Bench, Call, looks, register_write, grant_call, receive_call, burst_call, send_call, step_run, tick_call, call}
use Rattle.inputs.specs.Receives.{EachPair}
use Rattle.changes.specs.OneOf.{one_of}

-- the numbers of a look's refusals, in the order in which they are looked for; a call with none answers 0. The number of a
-- reading "comes from a call of its own"
abbrev pub look_numbers : Look → List ℕ
look_numbers (register_read offset) = 2 ∷ []
look_numbers line_read = []
look_numbers (reading_number_call address) = 11 ∷ 13 ∷ []
look_numbers (reading_call address) = []
look_numbers (ring_check number first) = []

-- a receive: "11, 3, 4, 5, 6, 7 for the descriptor, 8, 7 for the buffer"
abbrev pub receive_numbers : List ℕ
receive_numbers = 11 ∷ 3 ∷ 4 ∷ 5 ∷ 6 ∷ 7 ∷ 8 ∷ 7 ∷ []

-- one pair of a burst: 16, or a receive's (02, Wish 1)
abbrev pub pair_numbers : List ℕ
pair_numbers = 16 ∷ receive_numbers

-- a single send: "11, 9, 3, 7 for the descriptor, 8, 7 for the buffer, 12"
abbrev pub send_numbers : List ℕ
send_numbers = 11 ∷ 9 ∷ 3 ∷ 7 ∷ 8 ∷ 7 ∷ 12 ∷ []

-- and those of any call
abbrev pub numbers : Call → List ℕ
numbers (looks look) = look_numbers look
numbers (register_write offset value) = 2 ∷ 15 ∷ []
numbers (grant_call address) = 11 ∷ 13 ∷ 14 ∷ []
numbers (receive_call frame) = receive_numbers
numbers (burst_call store starts lengths answers) = 16 ∷ []
numbers (send_call output) = send_numbers
numbers (step_run output allowance) = 10 ∷ send_numbers
-- 02, Wish 9: "refused only by 11"
numbers tick_call = 11 ∷ []

-- the greatest number that a call on the bench answers
abbrev pub greatest : ℕ
greatest = 16

-- 11 and 13, "reading: empty part", exactly then: a part, and the number of its reading
abbrev pub EmptyPart : List ℕ → ℕ → Type 0
EmptyPart part n = (part ≡ []) ↔ (n ≢ 0)

pub record NumbersOf : Type 0 where
  pub of_new : (base window : ℕ) → one_of (new base window).number (0 ∷ 1 ∷ []) ≡ true
  pub of_call : (b : Bench) (c : Call) → one_of (call b c).number (0 ∷ numbers c) ≡ true
  pub small : (b : Bench) (c : Call) → (call b c).number ≤ greatest
  -- each pair of a burst that is not refused, and 16 "exactly in its row's situation"; of a whole burst that situation is the
  -- test of its definition
  pub of_pair : EachPair (λ store p before after n. one_of n (0 ∷ pair_numbers) ≡ true)
  pub sixteen : EachPair (λ store p before after n. (n ≡ 16) ↔ (passes store p ≡ true))
  pub empty_part : (b : Bench) (address : ℕ)
      → EmptyPart (call b (looks (reading_call address))).bytes (call b (looks (reading_number_call address))).number
