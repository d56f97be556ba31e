-- What the benchmark times beside each other: single receives, and one burst. Assumes nothing.
use Rattle.std.specs.Prelude.{ℕ, List}
use Rattle.enet.specs.declared.Enet.{Enet}
use Rattle.enet.specs.Frames.{receive}
use Rattle.pair.specs.Turn.{Bursting}
use Rattle.timing.specs.Timing.{Received, rounds}

-- single receives, with no grant in between
abbrev pub single_receives : ℕ → ℕ → Enet → List ℕ → List ℕ → Received
single_receives left taken d m f = rounds (λ d m. receive d m f) left taken d m

-- one burst: its number, the memory and the answers that it leaves
pub record Gave : Type 0 where
  pub number : ℕ
  pub memory : List ℕ
  pub answers : List ℕ

abbrev pub gave : ℕ → List ℕ → List ℕ → Gave
gave n m a = record { number = n; memory = m; answers = a }

abbrev pub of_burst : Bursting → Gave
of_burst b = gave b.number b.memory b.answers
