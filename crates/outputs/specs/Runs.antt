-- 01, "A frame out": a step run as the single sends that it makes, "one behind the other into the remaining output". Assumes nothing.
use Rattle.std.specs.Prelude.{ℕ, zero, suc, ◌≤◌, ◌<◌, ◌≡◌, List, [], ◌++◌, length, take, drop}
use Rattle.calls.specs.Calls.{Bench, send_call, Result, call}

-- where a run stands between two single sends: the bench, the steps made, the bytes written and the remaining output
pub record Stand : Type 0 where
  pub bench : Bench
  pub steps : ℕ
  pub written : List ℕ
  pub rest : List ℕ

abbrev pub begins : Bench → List ℕ → Stand
begins b output = record { bench = b; steps = 0; written = []; rest = output }

-- the single send that comes next
abbrev pub single : Stand → Result
single s = call s.bench (send_call s.rest)

-- where the run stands after it
abbrev pub further : Stand → Stand
further s = record {
  bench = (single s).bench;
  steps = suc s.steps;
  written = s.written ++ take (single s).value (single s).bytes;
  rest = drop (single s).value (single s).bytes;
}

-- after k single sends
abbrev pub after : ℕ → Stand → Stand
after zero s = s
after (suc k) s = after k (further s)

-- what a run gives that ends there with the last answer n
abbrev pub ended : ℕ → Stand → Result
ended n s = record {
  number = n;
  bench = s.bench;
  value = length s.written;
  steps = s.steps;
  bytes = s.written ++ s.rest;
  answers = [];
  list = [];
}

-- "until one does not send or the allowance is used. It returns the steps made, the last unsuccessful one counted, the bytes
-- written and the last answer. Its result equals that many single sends"
pub record SingleSends (b : Bench) (output : List ℕ) (allowance : ℕ) (r : Result) : Type 0 where
  pub gives : r ≡ ended r.number (after r.steps (begins b output))
  pub sent : (k : ℕ) → suc k < r.steps → (single (after k (begins b output))).number ≡ 0
  pub last : (k : ℕ) → suc k ≡ r.steps → (single (after k (begins b output))).number ≡ r.number
  pub none : r.steps ≡ 0 → r.number ≡ 0
  pub within : r.steps ≤ allowance
  pub used : r.number ≡ 0 → r.steps ≡ allowance
