-- The ways out of `silent`. Assumes nothing.
use Prim.Native.Nat.{ℕ}
use mathlib.Core.Path.{◌≡◌, sym, ◌∙◌}
use mathlib.Core.Bool.{Bool, true, false}
use mathlib.Core.List.{List}
use lib.Dec.{eqb}
use lib.ListN.{length, get_or}
use Rattle.script.specs.Silent.{silent}

-- an empty line says nothing, and of another the first character tells
module _ (line : List ℕ) (e : Bool) (is : e ≡ eqb (length line) 0) where
  pub silent_empty : e ≡ true → e ≡ silent line
  unfolding silent
  silent_empty t =
      let h : silent line ≡ true = rw (← is, t) in t ∙ sym h

  pub silent_first : e ≡ false → eqb (get_or line 0 0) 35 ≡ silent line
  unfolding silent
  silent_first t = rw (← is, t)
