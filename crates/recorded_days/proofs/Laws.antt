-- The ways out of the reading. Assumes nothing.
use Prim.Native.Nat.{ℕ}
use mathlib.Core.Path.{◌≡◌, refl, ◌∙◌}
use mathlib.Core.Bool.{true, false}
use mathlib.Core.List.{List}
use lib.ListN.{take, drop}
use Rattle.rules.proofs.Choices.{if_yes, if_no}
use Rattle.trace.specs.Reading.{Summary, refused, reading_of, read}
use Rattle.recorded_days.specs.declared.Loaded.{Loaded}
use Rattle.recorded_days.specs.Read.{read_loaded}

module _ (l : Loaded) (t room : List ℕ) where
  pub too_long : l.more ≡ true → reading_of (refused 23 0) room ≡ read_loaded l t room
  unfolding read_loaded
  too_long h = if_yes _ _ _ _ h refl

  pub whole_file : (p room' : List ℕ) (s : Summary) → l.more ≡ false → p ≡ take l.trace (drop 0 t) → reading_of s room' ≡ read p room
      → reading_of s room' ≡ read_loaded l t room
  unfolding read_loaded
  whole_file p room' s h e q = if_no _ _ _ _ h (q ∙ rw e)
