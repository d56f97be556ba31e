-- 02, Wish 8, "nesting": taking and ending in turn gives back what was in service. Assumes nothing.
use Rattle.std.specs.Prelude.{ℕ, ◌≡◌, true, List, [], ◌∷◌, ◌++◌}
use Rattle.vic_pair.specs.declared.Vics.{Vics}
use Rattle.vic_pair.specs.declared.Inputs.{Inputs}
use Rattle.vic_pair.specs.declared.Which.{Which}
use Rattle.vic_pair.specs.declared.Which.TheVariants.{Vic0}
use Rattle.vic_answer.specs.Answer.{raised_rank, answered}
use Rattle.vic.specs.Access.{came_from}
use Rattle.vic_nesting.specs.Accesses.{Access, reads, writes, after, after_all}

-- a request taken, and one ended
abbrev pub take : Inputs → Access
take i = reads i Vic0 0x030

abbrev pub end : Which → ℕ → Access
end w value = writes w 0x030 value

-- a list of accesses, from a pair on, in which each request that is taken is ended by a write of its own controller, whatever is nested
-- in between, and every other access takes and ends nothing
pub data Nested : Vics → List Access → Type 0 where
  none : (v : Vics) → Nested v []
  other : (v : Vics) (a : Access) (l : List Access) → (after v a).service ≡ v.service → Nested (after v a) l → Nested v (a ∷ l)
  served : (v : Vics) (i : Inputs) (w : Which) (value : ℕ) (inner l : List Access) → answered v i ≡ true
      → came_from w (raised_rank v i) ≡ true → Nested (after v (take i)) inner
      → Nested (after (after_all (after v (take i)) inner) (end w value)) l → Nested v (take i ∷ inner ++ end w value ∷ l)

-- every access of a list is a read or a write of a current vector address
abbrev pub AtVector : Access → Type 0
AtVector (reads i w offset) = offset ≡ 0x030
AtVector (writes w offset value) = offset ≡ 0x030

abbrev pub OnlyVectors : List Access → Type 0
OnlyVectors [] = Unit {0}
OnlyVectors (a ∷ l) = AtVector a × OnlyVectors l

pub record GivesBack : Type 0 where
  -- any nesting leaves in service what was in service
  pub nested : (v : Vics) (l : List Access) → Nested v l → (after_all v l).service ≡ v.service
  -- and one with no other access in it leaves the whole state
  pub whole : (v : Vics) (l : List Access) → Nested v l → OnlyVectors l → after_all v l ≡ v
  -- so does one taken and ended at once
  pub at_once : (v : Vics) (i : Inputs) (w : Which) (value : ℕ) → answered v i ≡ true → came_from w (raised_rank v i) ≡ true
      → after (after v (take i)) (end w value) ≡ v
  -- taking and ending touch no register
  pub take_keeps : (v : Vics) (i : Inputs) → ((after v (take i)).vic0 ≡ v.vic0) × ((after v (take i)).vic1 ≡ v.vic1)
  pub end_keeps : (v : Vics) (w : Which) (value : ℕ) → ((after v (end w value)).vic0 ≡ v.vic0) × ((after v (end w value)).vic1 ≡ v.vic1)
