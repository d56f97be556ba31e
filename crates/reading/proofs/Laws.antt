-- A reading, refused or not, by what its number says. Assumes nothing.
use mathlib.Core.Path.{◌≡◌, refl, sym, ◌∙◌}
use mathlib.Core.Bool.{Bool, true, false, not, true≢false, false≢true}
use mathlib.Core.List.{List, []}
use Prim.Native.Nat.{ℕ, ◌-◌, ◌≤◌}
use native.Mathlib.Omega.{arith}
use lib.ListN.{take, drop}
use borrow.Author.Tests.{not-false, ne_eqb}
use Rattle.std.specs.Prelude.{Result, Ok, Err, is_err}
use Rattle.answer.specs.declared.Refusal.{Refusal}
use Rattle.answer.specs.Refusals.{number_of}
use Rattle.answer.proofs.Laws.{not_zero}
use Rattle.rules.proofs.Choices.{and_parts, passed}
use Rattle.window.specs.Window.{lent, offset}
use Rattle.descriptor.specs.Descriptor.{start}
use Rattle.packet_status.specs.PacketStatus.{frame_length}
use Rattle.frame.proofs.Passed.{allowed_bounds}
use Rattle.reading.specs.Reading.{shown, reading_number, reading}

refused_is : (answer : Result (Unit {0}) Refusal) → is_err answer ≡ true → number_of answer ≡ 0 → ⊥
refused_is (Ok _) h = absurd (false≢true h)
refused_is (Err refusal) h = not_zero refusal

done_is : (answer : Result (Unit {0}) Refusal) → is_err answer ≡ false → number_of answer ≡ 0
done_is (Ok _) h = refl
done_is (Err refusal) h = absurd (true≢false h)

module _ (base window : ℕ) (m : List ℕ) (d : ℕ) (answer : Result (Unit {0}) Refusal) (e : number_of answer ≡ reading_number base window m d)
    (refused : Bool) (er : refused ≡ is_err answer) where
  pub reading_refused : refused ≡ true → [] ≡ reading base window m d
  unfolding reading
  reading_refused h = rw (← e, ne_eqb (number_of answer) 0 (refused_is answer (sym er ∙ h)))

  pub reading_is : refused ≡ false → (k s a : ℕ) (r : List ℕ) → k ≡ frame_length base m d → s ≡ start base m d
      → a ≡ offset base s → r ≡ take (k - 4) (drop a m) → r ≡ reading base window m d
  unfolding reading
  reading_is h k s a r p q t f = rw (← e, done_is answer (sym er ∙ h)) (rw (t, q, p) at f)

  at_least : (k : ℕ) → k ≡ frame_length base m d → 64 ≤ frame_length base m d → 4 ≤ k
  at_least k p b = omega arith

  -- a frame that is shown has its check sequence
  pub shown_long : refused ≡ false → (k : ℕ) → k ≡ frame_length base m d → 4 ≤ k
  unfolding reading_number shown
  shown_long h k p =
      let l = passed (not (lent window m)) 11 _ (omega arith) (sym e ∙ done_is answer (sym er ∙ h)) in
      let s = not-false _ (passed (not (shown base window m d)) 13 0 (omega arith) l.1).0 in
      at_least k p (allowed_bounds (frame_length base m d) (and_parts _ _ (and_parts _ _ s).0).1).0
