-- What each look leaves if it is refused. Assumes nothing.
use mathlib.Core.Path.{◌≡◌, refl}
use mathlib.Core.Logic.{◌≢◌}
use mathlib.Core.List.{[]}
use Rattle.calls.specs.Looks.{Look, register_read, line_read, reading_number_call, reading_call, ring_check, seen, of_read, sees}
use Rattle.calls.specs.Calls.{Bench, looks, of_look}
use Rattle.changes.proofs.Branches.{by_read, by_reading}
use Rattle.refusals.specs.Rows.{effect, row}
use Rattle.refusals.specs.Refusals.{Leaves}

pub look_row : (b : Bench) (l : Look) → (sees b.device b.memory l).number ≢ 0 → Leaves b (looks l)
unfolding row
look_row b (register_read offset) =
    by_read (λ v. v.number ≢ 0 → effect (of_look b (of_read v)) ≡ row v.number (looks (register_read offset)) b) b.device offset
    (λ _. refl)
    (λ h. absurd (h refl))
look_row b line_read = λ h. absurd (h refl)
look_row b (reading_number_call address) =
    by_reading (λ n. n ≢ 0 → effect (of_look b (seen n 0 [])) ≡ row n (looks (reading_number_call address)) b)
    b.device.base b.device.window b.memory address
    (λ _. refl) (λ _. refl) (λ _ _ h. absurd (h refl))
look_row b (reading_call address) = λ h. absurd (h refl)
look_row b (ring_check number first) = λ h. absurd (h refl)
