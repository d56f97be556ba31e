-- 02, Wish 8: "reading the current vector address takes the answer into service at its level then, writing it ends the last taken". The
-- ranks taken and not ended, told by these words alone, and what the pair's own list of ranks in service has to do with them.
-- Assumes nothing.
use Rattle.std.specs.Prelude.{ℕ, ◌<◌, ◌≡◌, Bool, List, [], ◌∷◌, eqb}
use Rattle.std.specs.Prelude.{if◌then◌else◌}
use Rattle.vic_service.specs.Service.{idle, taken, last_taken}
use Rattle.vic_pair.specs.declared.Vics.{Vics}
use Rattle.vic_pair.specs.declared.Which.{Which}
use Rattle.vic_pair.specs.declared.Which.TheVariants.{Vic0, Vic1}
use Rattle.vic_pair.specs.Vics.{reset}
use Rattle.vic_answer.specs.Answer.{raised_rank, answered}
use Rattle.vic.specs.Access.{came_from}
use Rattle.vic_nesting.specs.Accesses.{Access, reads, writes, after}

-- ---- the ranks taken and not ended, the last taken first

-- "writing it ends the last taken", where that came from the controller written
abbrev pub without_last : Which → List ℕ → List ℕ
without_last w [] = []
without_last w (rank ∷ l) = if came_from w rank then l else rank ∷ l

-- what an access does to them; v is the pair before it
abbrev pub told : Vics → List ℕ → Access → List ℕ
told v l (reads i Vic0 offset) = if eqb offset 0x030 then (if answered v i then raised_rank v i ∷ l else l) else l
told v l (reads i Vic1 offset) = l
told v l (writes w offset value) = if eqb offset 0x030 then without_last w l else l

-- how far a list of accesses has come: the pair, and the ranks taken and not ended
pub record Progress : Type 0 where
  pub vics : Vics
  pub ranks : List ℕ

abbrev pub begin : Progress
begin = record { vics = reset; ranks = [] }

abbrev pub next : Progress → Access → Progress
next p a = record { vics = after p.vics a; ranks = told p.vics p.ranks a }

abbrev pub run : Progress → List Access → Progress
run p [] = p
run p (a ∷ l) = run (next p a) l

-- the last of them, 64 where there is none
abbrev pub last_of : List ℕ → ℕ
last_of [] = 64
last_of (rank ∷ l) = rank

-- each was taken above all that were in service
abbrev pub Falling : List ℕ → Type 0
Falling [] = Unit {0}
Falling (rank ∷ l) = (rank < last_of l) × Falling l

-- the list of a pair that has just these in service
abbrev pub marked : List ℕ → List Bool
marked [] = idle
marked (rank ∷ l) = taken (marked l) rank

-- from reset on, after every list of accesses: the pair has in service what was taken and not ended, in strictly falling ranks, and so
-- the lowest rank in service is the last taken
pub record Tells (p : Progress) : Type 0 where
  pub service : p.vics.service ≡ marked p.ranks
  pub falling : Falling p.ranks
  pub last : last_taken p.vics.service ≡ last_of p.ranks

abbrev pub LastTaken : Type 0
LastTaken = (l : List Access) → Tells (run begin l)
