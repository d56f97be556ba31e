-- 02, Wish 1: a burst as the single receives that it makes. Assumes nothing.
use Rattle.std.specs.Prelude.{ℕ, suc, ◌<◌, ◌≡◌, true, false, ◌≢◌, List, [], ◌∷◌, length, get_or, take, drop}
use Rattle.std.specs.Prelude.{if◌then◌else◌}
use Rattle.pair.specs.declared.Pair.{Pair}
use Rattle.pair.specs.Pair.{pair, passes, bytes_of}
use Rattle.burst.specs.Taken.{taken, frames_inside}
use Rattle.calls.specs.Calls.{Bench, receive_call, burst_call, Result, call}

-- single receives of these frames, one behind the other: the bench that they leave ..
unfoldable pub after_receives : Bench → List (List ℕ) → Bench
after_receives b [] = b
after_receives b (frame ∷ frames) = after_receives (call b (receive_call frame)).bench frames

-- .. and their answers
unfoldable pub receive_answers : Bench → List (List ℕ) → List ℕ
receive_answers b [] = []
receive_answers b (frame ∷ frames) =
    (call b (receive_call frame)).number ∷ receive_answers (call b (receive_call frame)).bench frames

-- an answer for each pair: "A pair whose start plus length passes the store's end gets a new number 16 in its own place", and
-- one inside the next of these answers
unfoldable pub placed : List ℕ → List Pair → List ℕ → List ℕ
placed store [] answers = []
placed store (p ∷ ps) answers =
    if passes store p then 16 ∷ placed store ps answers else get_or answers 0 0 ∷ placed store ps (drop 1 answers)

-- "State, window and answers equal those of single receives." Of a burst that takes these pairs of the store, and whose answer
-- list was so before
pub record SingleReceives (b : Bench) (store : List ℕ) (pairs : List Pair) (before : List ℕ) (r : Result) : Type 0 where
  pub bench : r.bench ≡ after_receives b (frames_inside store pairs)
  pub answers : r.answers ≡ receive_answers b (frames_inside store pairs)
  pub done : r.number ≡ 0 → r.list ≡ placed store pairs (receive_answers b (frames_inside store pairs))
  -- ".. refuses the whole call with 16, changing nothing": it takes no pair, so that `bench` above says b
  pub refused : r.number ≢ 0 → (r.number ≡ 16) × ((pairs ≡ []) × (r.list ≡ before))

-- every burst: "one receive for each pair inside the store, a refused burst .. none"
abbrev pub BurstReceives : Type 0
BurstReceives =
    (b : Bench) (store starts lengths answers : List ℕ)
    → SingleReceives b store (taken starts lengths answers) answers (call b (burst_call store starts lengths answers))

-- ---- pair by pair

-- the bench that the first k pairs leave, and so the one that pair k meets, counted from 0
abbrev pub after_pairs : Bench → List ℕ → List Pair → ℕ → Bench
after_pairs b store pairs k = after_receives b (frames_inside store (take k pairs))

-- a pair of the store that meets one bench, leaves another and gets the answer n
pub record PairAnswered (store : List ℕ) (p : Pair) (before after : Bench) (n : ℕ) : Type 0 where
  -- "A pair whose start plus length passes the store's end gets a new number 16 in its own place and nothing else"
  pub past : passes store p ≡ true → (n ≡ 16) × (after ≡ before)
  -- a pair inside is a single receive of its bytes
  pub inside : passes store p ≡ false
      → (n ≡ (call before (receive_call (bytes_of store p))).number) × (after ≡ (call before (receive_call (bytes_of store p))).bench)

-- what is claimed of every pair of every burst that is not refused: of the store, the pair, the bench that it meets, the one that
-- it leaves, and its answer
abbrev pub EachPair : (List ℕ → Pair → Bench → Bench → ℕ → Type 0) → Type 0
EachPair P =
    (b : Bench) (store starts lengths answers : List ℕ) → (call b (burst_call store starts lengths answers)).number ≡ 0
    → (k : ℕ) → k < length (taken starts lengths answers)
    → P store (get_or (taken starts lengths answers) k (pair 0 0)) (after_pairs b store (taken starts lengths answers) k)
    (after_pairs b store (taken starts lengths answers) (suc k)) (get_or (call b (burst_call store starts lengths answers)).list k 0)

abbrev pub PairByPair : Type 0
PairByPair = EachPair PairAnswered
