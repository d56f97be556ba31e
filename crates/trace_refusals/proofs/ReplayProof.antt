-- The number of replay, test by test. Assumes nothing.
use mathlib.Core.Logic.{inl, inr}
use lib.Dec.{eqb, ltb}
use lib.ListN.{length}
use borrow.Author.Tests.{eqb-true, eqb-false, ltb-true, ltb-false}
use Rattle.rules.proofs.Choices.{by_bool}
use Rattle.trace.specs.Reading.{look}
use Rattle.replaying.specs.Replay.{replay_number, replay}
use Rattle.trace_refusals.specs.Replay.{Exactly, ChangesNothing}

pub replay_exactly : Exactly
unfolding replay_number
replay_exactly t room answers =
    by_bool (eqb (look t room).number 0)
    (λ u.
    by_bool (ltb answers (look t room).events)
    (λ v. inr (inl (eqb-true (look t room).number 0 u, ltb-true answers (look t room).events v, rw (u, v))))
    (λ v. inr (inr (eqb-true (look t room).number 0 u, ltb-false answers (look t room).events v, rw (u, v)))))
    (λ u. inl (eqb-false (look t room).number 0 u, rw u))

pub replay_changes_nothing : ChangesNothing
unfolding replay
replay_changes_nothing t room memory output answers h =
    by_bool (eqb (replay_number t (length room) (length answers)) 0) (λ u. absurd (h (rw u)))
    (λ u. record { state = rw u; block = rw u; room = rw u; memory = rw u; output = rw u; answers = rw u })
