-- Laws of the calls that send from lent memory. Assumes nothing.
use Prim.Native.Nat.{ℕ}
use mathlib.Core.Path.{◌≡◌}
use mathlib.Core.List.{List, ◌++◌}
use lib.ListN.{take, drop}
use Rattle.enet.specs.declared.Sent.{Sent}
use Rattle.enet.specs.declared.Ran.{Ran}
use Rattle.enet.specs.Send.{sending, send as send_into}
use Rattle.enet.specs.Run.{running, run as run_into}
use Rattle.words.specs.Words.{characters}
use Rattle.text.specs.Text.{written, put}
use Rattle.reports.specs.Reports.{shown}
use Rattle.long_reports.specs.LongReports.{ran}
use Rattle.commands.specs.declared.Console.{Console}
use Rattle.commands.specs.declared.Told.{Told}
use Rattle.commands.specs.Answers.{with_device, given, tells}
use Rattle.commands.specs.Commands.{zeros, output, send, run}

-- ---- what was sent

module _ (c : Console) (m l' all out' sent t t' : List ℕ) (at end n k room : ℕ) (r : Told) where
  module _ (seen : take n m ≡ take c.lent m) (kept : drop n m ≡ drop c.lent m) (blank : all ≡ zeros 65_536) (cut : take k all ≡ take room all) where
    pub send_made : (s : Sent) → sending s l' out' ≡ send_into c.device (take n m) (take k all) → sent ≡ take s.count out'
        → written end t' ≡ put t at (shown (characters "send") s.number sent) → r ≡ record { console = with_device c s.device; end = end }
        → given r (l' ++ drop n m) t' ≡ tells (send c m (output room)) t at
    unfolding send
    send_made s e p h q =
        let f : sending s l' out' ≡ send_into c.device (take c.lent m) (output room) = rw (seen, cut, blank) at e in
        let g : written end t' ≡ put t at (shown (characters "send") s.number (take s.count out')) = rw p at h in
        rw (q, ← f) (λ j. record { console = with_device c s.device; memory = l' ++ kept j; text = g j })

    pub run_made : (allowance : ℕ) (a : Ran) → running a l' out' ≡ run_into c.device (take n m) (take k all) allowance
        → sent ≡ take a.count out' → written end t' ≡ put t at (ran (characters "run") a.number a.steps a.count sent)
        → r ≡ record { console = with_device c a.device; end = end } → given r (l' ++ drop n m) t' ≡ tells (run c m allowance (output room)) t at
    unfolding run
    run_made allowance a e p h q =
        let f : running a l' out' ≡ run_into c.device (take c.lent m) (output room) allowance = rw (seen, cut, blank) at e in
        let g : written end t' ≡ put t at (ran (characters "run") a.number a.steps a.count (take a.count out')) = rw p at h in
        rw (q, ← f) (λ j. record { console = with_device c a.device; memory = l' ++ kept j; text = g j })
