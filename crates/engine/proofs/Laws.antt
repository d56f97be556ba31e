-- What polling does to an engine, as a law. Assumes nothing.
use mathlib.Core.Path.{◌≡◌}
use mathlib.Core.Bool.{true}
use Rattle.engine.specs.declared.Engine.{Engine}
use Rattle.engine.specs.Engine.{not_granted}

pub polling_looks_again : (e : Engine) → e.polling ≡ true → e ≡ not_granted e
unfolding not_granted
polling_looks_again e t = rw t
