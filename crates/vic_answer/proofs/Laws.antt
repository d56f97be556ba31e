-- The lowest rank raised in a controller. Assumes nothing.
use Prim.Native.Nat.{ℕ, ◌≤◌}
use mathlib.Core.Path.{◌≡◌}
use Rattle.vic_controller.specs.declared.Controller.{Controller}
use Rattle.vic_controller.specs.Controller.{irq_status}
use Rattle.vic_rank.proofs.Laws.{lowest_within}
use Rattle.vic_answer.specs.Answer.{raised_in}

pub raised_within : (c : Controller) (i r : ℕ) → r ≡ raised_in c i → r ≤ 32
raised_within c i r e = rw e (lowest_within c.controls (irq_status c i) 16)
