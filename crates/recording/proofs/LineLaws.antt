-- A line of a script, by what it is and what was before it. Assumes nothing.
use Prim.Native.Nat.{ℕ}
use mathlib.Core.Path.{◌≡◌, refl}
use mathlib.Core.Bool.{Bool, true, false, not, ◌||◌}
use mathlib.Core.List.{List}
use borrow.Author.Tests.{eq-eqb, ne_eqb}
use lib.Dec.{eqb}
use Rattle.rules.proofs.Choices.{if_yes, if_no, or_yes, or_last, or_no}
use Rattle.event.specs.Event.{register_write, grant, frame, bytes_of}
use Rattle.words.specs.Words.{rest}
use Rattle.forms.specs.Pairs.{named}
use Rattle.script.specs.declared.Call.{Call}
use Rattle.script.specs.Calls.{call_of}
use Rattle.script.specs.Silent.{silent}
use Rattle.recording.specs.declared.Day.{Day}
use Rattle.recording.specs.declared.steps.Step.{Step}
use Rattle.recording.specs.declared.steps.Step.TheVariants.{New, Poke, Write, Grant, Frame, Send, Other}
use Rattle.recording.specs.Day.{counted, failed, new}
use Rattle.recording.specs.Bytes.{poked, listed, poke, append, send_into}
use Rattle.recording.specs.Recording.{Recorded, recorded, with_image, with_list, step_of, first, later, called, take}

-- ---- by its step

module _ (d : Day) (a b : ℕ) (k : Step) (r : Day) where
  pub first_new : k ≡ New → r ≡ new d a b → r ≡ first k d a b
  first_new e h = rw e h

  pub first_poke : k ≡ Poke → r ≡ failed d → r ≡ first k d a b
  first_poke e h = rw e h

  pub first_write : k ≡ Write → r ≡ failed d → r ≡ first k d a b
  first_write e h = rw e h

  pub first_grant : k ≡ Grant → r ≡ failed d → r ≡ first k d a b
  first_grant e h = rw e h

  pub first_frame : k ≡ Frame → r ≡ failed d → r ≡ first k d a b
  first_frame e h = rw e h

  pub first_send : k ≡ Send → r ≡ failed d → r ≡ first k d a b
  first_send e h = rw e h

  pub first_other : k ≡ Other → r ≡ failed d → r ≡ first k d a b
  first_other e h = rw e h

module _ (d : Day) (m l line : List ℕ) (a b : ℕ) (k : Step) (r : Day) where
  pub later_new : k ≡ New → r ≡ failed d → recorded r m l ≡ later k d m l a b line
  later_new e h = rw e (λ j. record { day = h j; image = m; list = l })

  pub later_other : k ≡ Other → r ≡ failed d → recorded r m l ≡ later k d m l a b line
  later_other e h = rw e (λ j. record { day = h j; image = m; list = l })

  pub later_poke : (v w m' : List ℕ) → k ≡ Poke → v ≡ rest line → w ≡ rest v → poked r m' ≡ poke d m a (named w)
      → recorded r m' l ≡ later k d m l a b line
  later_poke v w m' e p q h = rw (e, ← p, ← q) (λ j. with_image (h j) l)

  module _ (l' : List ℕ) where
    pub later_write : k ≡ Write → listed r l' ≡ append d l (bytes_of (register_write a b)) → recorded r m l' ≡ later k d m l a b line
    later_write e h = rw e (λ j. with_list (h j) m)

    pub later_grant : k ≡ Grant → listed r l' ≡ append d l (bytes_of (grant a)) → recorded r m l' ≡ later k d m l a b line
    later_grant e h = rw e (λ j. with_list (h j) m)

    pub later_frame : (w : List ℕ) → k ≡ Frame → w ≡ rest line → listed r l' ≡ append d l (bytes_of (frame (named w)))
        → recorded r m l' ≡ later k d m l a b line
    later_frame w e p h = rw (e, ← p) (λ j. with_list (h j) m)

    pub later_send : k ≡ Send → listed r l' ≡ send_into d l a → recorded r m l' ≡ later k d m l a b line
    later_send e h = rw e (λ j. with_list (h j) m)

-- ---- a line

module _ (d n : Day) (m l line : List ℕ) (quiet : Bool) (e : n ≡ counted d) (s : quiet ≡ silent line) where
  passed : (silent line || not (eqb d.wrong 0)) ≡ true → recorded n m l ≡ take d m l line
  unfolding take
  passed t = rw t (λ j. record { day = e j; image = m; list = l })

  pub take_silent : quiet ≡ true → recorded n m l ≡ take d m l line
  take_silent q = passed (or_yes (silent line) (not (eqb d.wrong 0)) (rw s at q))

  pub take_behind : quiet ≡ false → (d.wrong ≡ 0 → ⊥) → recorded n m l ≡ take d m l line
  take_behind q w =
      let t : not (eqb d.wrong 0) ≡ true = rw (ne_eqb d.wrong 0 w) refl in
      passed (or_last (silent line) (not (eqb d.wrong 0)) (rw s at q) t)

  module _ (q : quiet ≡ false) (w : d.wrong ≡ 0) (call : Call) (c : call ≡ call_of line) (step : Step) (k : step ≡ step_of call.command) where
    said : (x : Recorded) → x ≡ called n m l call line → x ≡ take d m l line
    unfolding take
    said x h =
        let t : not (eqb d.wrong 0) ≡ false = rw (eq-eqb d.wrong 0 w) refl in
        rw (or_no (silent line) (not (eqb d.wrong 0)) (rw s at q) t, ← e, ← c) h

    pub take_later : (x : Recorded) → n.begun ≡ true → x ≡ later step n m l call.a call.b line → x ≡ take d m l line
    unfolding called
    take_later x t h = said x (rw (← k) (if_yes n.begun x _ _ t h))

    pub take_first : (r : Day) → n.begun ≡ false → r ≡ first step n call.a call.b → recorded r m l ≡ take d m l line
    unfolding called
    take_first r t h = said (recorded r m l) (rw (← k) (if_no n.begun (recorded r m l) _ _ t (λ j. record { day = h j; image = m; list = l })))
