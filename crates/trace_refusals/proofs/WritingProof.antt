-- The number of writing, test by test. Assumes nothing.
use Prim.Native.Nat.{◌*◌}
use mathlib.Core.Logic.{inl, inr}
use lib.Dec.{eqb, ltb}
use lib.ListN.{length}
use borrow.Author.Tests.{ltb-true, ltb-false}
use Rattle.rules.proofs.Choices.{by_bool}
use Rattle.window.specs.Window.{window_allowed}
use Rattle.event.specs.Walk.{walk}
use Rattle.trace_writing.specs.Writing.{is_whole, needed, write_number, write}
use Rattle.trace_refusals.specs.Writing.{Exactly, ChangesNothing}

pub writing_exactly : Exactly
unfolding write_number
writing_exactly base window events room =
    by_bool (is_whole (walk events).ending)
    (λ w.
    by_bool (window_allowed base window)
    (λ a.
    by_bool (ltb 65536 (needed events)) (λ b. inr (inr (inl (w, a, ltb-true 65536 (needed events) b, rw (w, a, b)))))
    (λ b.
    let few = ltb-false 65536 (needed events) b in
    by_bool (ltb room (512 * needed events))
    (λ r. inr (inr (inr (inl (w, a, few, ltb-true room (512 * needed events) r, rw (w, a, b, r))))))
    (λ r. inr (inr (inr (inr (w, a, few, ltb-false room (512 * needed events) r, rw (w, a, b, r))))))))
    (λ a. inr (inl (w, a, rw (w, a)))))
    (λ w. inl (w, rw w))

pub writing_changes_nothing : ChangesNothing
unfolding write
writing_changes_nothing base window events room h =
    by_bool (eqb (write_number base window events (length room)) 0) (λ t. absurd (h (rw t))) (λ t. (rw t, rw t))
