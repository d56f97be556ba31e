-- 02, Wish 1: a burst in between two of its pairs, as the code goes on from one to the next. Assumes nothing.
use Rattle.std.specs.Prelude.{ℕ, List, set}
use Rattle.enet.specs.declared.Enet.{Enet}
use Rattle.enet.specs.declared.Answered.{Answered}
use Rattle.pair.specs.declared.Pair.{Pair}
use Rattle.pair.specs.Pair.{received}

-- what a burst gives: its number, the next device, the memory and the answer list that it leaves
pub record Bursting : Type 0 where
  pub number : ℕ
  pub device : Enet
  pub memory : List ℕ
  pub answers : List ℕ

-- what the code's answer, the memory and the answer list at its end say together
abbrev pub bursting : Answered → List ℕ → List ℕ → Bursting
bursting r m a = record { number = r.number; device = r.device; memory = m; answers = a }

-- the pair at place i: its answer goes there, and the burst's number stays
unfoldable pub turn : Bursting → List ℕ → ℕ → Pair → Bursting
turn b store i p =
    let o = received b.device b.memory store p in
    record { number = b.number; device = o.device; memory = o.memory; answers = set b.answers i o.number }
