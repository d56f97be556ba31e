-- What both passes found, by the ways out of the code. Assumes nothing.
use Prim.Native.Nat.{ℕ, ◌-◌, ◌+◌, ◌/◌}
use mathlib.Core.Path.{◌≡◌, refl}
use Rattle.std.specs.Prelude.{Result, Ok, Err}
use Rattle.answer.specs.Refusals.{refusal_number}
use Rattle.answer.proofs.Laws.{not_done}
use Rattle.event.specs.declared.Ending.{Ending}
use Rattle.event.specs.declared.Ending.TheVariants.{Whole, Cut, NoEvent}
use Rattle.stream.specs.declared.Refused.{Refused}
use Rattle.stream.specs.Blocks.{fault_of}
use Rattle.trace.specs.Passes.{verdict, events_fault}

pub stray_bad : (e : Ending) (place : ℕ) (r : Result ℕ Refused) → e ≡ NoEvent → verdict 22 ((6 + place) / 504) ≡ events_fault e place (fault_of r)
unfolding events_fault
stray_bad e place r h = rw h

pub tested_bad : (e : Ending) (place : ℕ) (r : Result ℕ Refused) (x : Refused) → (e ≡ NoEvent → ⊥) → r ≡ Err x
    → verdict (refusal_number x.refusal) x.block ≡ events_fault e place (fault_of r)
unfolding events_fault
tested_bad NoEvent place r x h q = absurd (h refl)
tested_bad Cut place r x h q = rw q (rw (not_done x.refusal))
tested_bad Whole place r x h q = rw q (rw (not_done x.refusal))

pub cut_bad : (e : Ending) (place : ℕ) (r : Result ℕ Refused) (n : ℕ) → e ≡ Cut → r ≡ Ok n → verdict 22 (n - 1) ≡ events_fault e place (fault_of r)
unfolding events_fault
cut_bad e place r n h q = rw (h, q)

pub all_right : (e : Ending) (place : ℕ) (r : Result ℕ Refused) (n : ℕ) → (e ≡ NoEvent → ⊥) → (e ≡ Cut → ⊥) → r ≡ Ok n
    → verdict 0 0 ≡ events_fault e place (fault_of r)
unfolding events_fault
all_right NoEvent place r n h k q = absurd (h refl)
all_right Cut place r n h k q = absurd (k refl)
all_right Whole place r n h k q = rw q
