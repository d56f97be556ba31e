-- What a burst gives to C. Assumes nothing.
use Prim.Native.Nat.{ℕ}
use mathlib.Core.Path.{◌≡◌, ap, ◌∙◌}
use mathlib.Core.List.{List}
use Rattle.enet.specs.declared.Enet.{Enet}
use Rattle.enet.specs.declared.Answered.{Answered}
use Rattle.pair.specs.Turn.{bursting}
use Rattle.burst.specs.Burst.{burst_of}
use Rattle.burst_speed.specs.Bursts.{gave, of_burst}

pub burst_gave : (d e : Enet) (m store ss ns a : List ℕ) (r : Answered) (m' a' : List ℕ) → d ≡ e
    → bursting r m' a' ≡ burst_of d m store ss ns a → gave r.number m' a' ≡ of_burst (burst_of e m store ss ns a)
burst_gave d e m store ss ns a r m' a' h q = ap of_burst q ∙ ap (λ x. of_burst (burst_of x m store ss ns a)) h
