-- What each function answers, as laws of its definition. Assumes nothing.
use Prim.Native.Nat.{ℕ, ◌+◌, ◌≤◌, ◌<◌}
use mathlib.Core.Path.{◌≡◌}
use native.Mathlib.Omega.{arith}
use borrow.Author.Tests.{lt-ltb, le-ltb, eq-eqb, ne_eqb}
use Rattle.counters.specs.declared.Counters.{Counters}
use Rattle.counters.specs.Counters.{made, stop, one_more, after_receive, after_send}

-- ---- one event more

pub below_stop : (n : ℕ) → n < stop → n + 1 ≡ one_more n
unfolding one_more
below_stop n h = rw (lt-ltb n stop h)

pub at_stop : (n : ℕ) → stop ≤ n → stop ≡ one_more n
unfolding one_more
at_stop n h = rw (le-ltb n stop h)

-- ---- after a receive, and a send

module _ (n : ℕ) (c : Counters) where
  pub receive_delivers : (k : ℕ) → n ≡ 0 → k ≡ one_more c.delivered
      → made k c.lost c.sent c.ticks ≡ after_receive n c
  receive_delivers k z e = rw (eq-eqb n 0 z, e)

  pub receive_loses : (k : ℕ) → n ≡ 8 → k ≡ one_more c.lost
      → made c.delivered k c.sent c.ticks ≡ after_receive n c
  receive_loses k z e = rw (ne_eqb n 0 (λ s. omega arith), eq-eqb n 8 z, e)

  pub send_sends : (k : ℕ) → n ≡ 0 → k ≡ one_more c.sent → made c.delivered c.lost k 0 ≡ after_send n c
  send_sends k z e = rw (eq-eqb n 0 z, e)
