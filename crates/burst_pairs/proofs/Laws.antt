-- A turn of the walk over the pairs, its end, and the walk as a whole: they are the burst's. Assumes nothing.
use Prim.Native.Nat.{ℕ, suc, ◌+◌, ◌≤◌, ◌<◌}
use mathlib.Core.Path.{◌≡◌, sym, ◌∙◌}
use mathlib.Core.Bool.{Bool, true, false}
use mathlib.Core.List.{List}
use native.Mathlib.Numerals.{add-one}
use lib.ListN.{length, drop, get_or, drop_of_length-le}
use lib.Seq.{drop-cons}
use Rattle.enet.specs.declared.Enet.{Enet}
use Rattle.pair.specs.declared.Pair.{Pair}
use Rattle.pair.specs.Turn.{Bursting, bursting, turn}
use Rattle.burst.specs.Burst.{refuses, refused, burst}
use Rattle.burst.specs.Turns.{turns_of}
use Rattle.burst.proofs.Laws.{accepts}
use Rattle.burst.proofs.Turns.{turns_step, turns_receive}

pub walk_turn : (b b' : Bursting) (store : List ℕ) (ps : List Pair) (i : ℕ) (p : Pair) → i < length ps → b' ≡ turn b store i (get_or ps i p)
    → turns_of b' store (i + 1) (drop (i + 1) ps) ≡ turns_of b store i (drop i ps)
walk_turn b b' store ps i p h e =
    rw (drop-cons ps i p h, add-one i) (turns_step b store i (get_or ps i p) (drop (suc i) ps) b' e)

pub walk_end : (b : Bursting) (store : List ℕ) (ps : List Pair) (i : ℕ) → length ps ≤ i → turns_of b store i (drop i ps) ≡ b
unfolding turns_of
walk_end b store ps i h = rw (drop_of_length-le ps h)

module _ (d : Enet) (m store : List ℕ) (ps : List Pair) (a : List ℕ) (r : Bool) (e : r ≡ refuses (length ps) (length a)) where
  pub walk_refused : r ≡ true → refused d m a ≡ burst d m store ps a
  unfolding burst
  walk_refused t = rw (← e, t)

  pub walk_is : r ≡ false → turns_of (bursting (record { number = 0; device = d }) m a) store 0 ps ≡ burst d m store ps a
  unfolding burst
  walk_is t = rw (← e, t) (turns_receive d m store ps a (accepts (length ps) (length a) (sym e ∙ t)))
