-- Every pair that a list of accesses leads to from reset has lists as long as the code's arrays and selections as wide as the code's, so
-- that the claims about the IRQ answer, the status words and FIQ hold of it. Assumes nothing.
use Rattle.std.specs.Prelude.{List}
use Rattle.vic_pair.specs.Vics.{reset}
use Rattle.vic_claims.specs.Requests.{Sized}
use Rattle.vic_nesting.specs.Accesses.{Access, after_all}

abbrev pub AlwaysSized : Type 0
AlwaysSized = (l : List Access) → Sized (after_all reset l)
