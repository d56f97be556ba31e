-- How a day goes on, as the code has it. Assumes nothing.
use Prim.Native.Nat.{ℕ, ◌+◌, ◌-◌, ◌^◌, ◌≤◌, ◌<◌}
use mathlib.Core.Path.{◌≡◌}
use mathlib.Core.Bool.{true}
use borrow.Author.Tests.{lt-ltb, le-ltb}
use Rattle.recording.specs.declared.Day.{Day}
use Rattle.recording.specs.Day.{more, counted, grown, overflown}

pub one_more : (n : ℕ) → n < 2 ^ 64 - 1 → n + 1 ≡ more n
unfolding more
one_more n h = rw (lt-ltb n (2 ^ 64 - 1) h)

pub no_more : (n : ℕ) → 2 ^ 64 - 1 ≤ n → n ≡ more n
unfolding more
no_more n h = rw (le-ltb n (2 ^ 64 - 1) h)

module _ (d : Day) where
  pub counted_is : (n : ℕ) → n ≡ more d.lines
      → record { begun = d.begun; base = d.base; window = d.window; bytes = d.bytes; events = d.events; lines = n; wrong = d.wrong; full = d.full } ≡ counted d
  counted_is n e = λ j. record { begun = d.begun; base = d.base; window = d.window; bytes = d.bytes; events = d.events; lines = e j; wrong = d.wrong; full = d.full }

  pub grown_is : (end n : ℕ) → n ≡ more d.events
      → record { begun = d.begun; base = d.base; window = d.window; bytes = end; events = n; lines = d.lines; wrong = d.wrong; full = d.full } ≡ grown d end
  grown_is end n e = λ j. record { begun = d.begun; base = d.base; window = d.window; bytes = end; events = e j; lines = d.lines; wrong = d.wrong; full = d.full }

  pub overflown_is : (n : ℕ) → n ≡ more d.events
      → record { begun = d.begun; base = d.base; window = d.window; bytes = d.bytes; events = n; lines = d.lines; wrong = d.wrong; full = true } ≡ overflown d
  overflown_is n e = λ j. record { begun = d.begun; base = d.base; window = d.window; bytes = d.bytes; events = e j; lines = d.lines; wrong = d.wrong; full = true }
