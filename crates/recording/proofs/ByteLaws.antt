-- The bytes of a day, as the code stores them. Assumes nothing.
use Prim.Native.Nat.{ℕ, ◌≤◌, ◌<◌}
use mathlib.Core.Path.{◌≡◌, ap, ◌∙◌}
use mathlib.Core.Bool.{true}
use mathlib.Core.List.{List}
use borrow.Author.Tests.{eq-eqb, ne_eqb, lt-ltb, le-ltb}
use lib.ListN.{length, take}
use Rattle.event.specs.Event.{frame, send, bytes_of}
use Rattle.appending.specs.Put.{put_of, put}
use Rattle.forms.specs.Pairs.{named, decoded, decode}
use Rattle.forms.proofs.NamedLaws.{named_is}
use Rattle.recording.specs.declared.Day.{Day}
use Rattle.recording.specs.Day.{more, failed}
use Rattle.recording.specs.Bytes.{Poked, poke, listed, place, happened, append, send_into}
use Rattle.recording.proofs.DayLaws.{grown_is, overflown_is}

-- ---- the image

-- of the bytes that a word names
pub poke_named : (d : Day) (address : ℕ) (m word out out' s : List ℕ) (n : ℕ) (x : Poked) → 2048 ≡ length out → decoded n out' ≡ decode word out
    → s ≡ take n out' → x ≡ poke d m address s → x ≡ poke d m address (named word)
poke_named d address m word out out' s n x l e p h = h ∙ ap (λ (s : List ℕ). poke d m address s) (p ∙ named_is word out out' n l e)

-- ---- the event list

module _ (d : Day) (end n : ℕ) (e : n ≡ more d.events) where
  pub happened_past : end ≡ 0
      → record { begun = d.begun; base = d.base; window = d.window; bytes = d.bytes; events = n; lines = d.lines; wrong = d.wrong; full = true } ≡ happened d end
  unfolding happened
  happened_past z = rw (eq-eqb end 0 z) (overflown_is d n e)

  pub happened_there : (end ≡ 0 → ⊥)
      → record { begun = d.begun; base = d.base; window = d.window; bytes = end; events = n; lines = d.lines; wrong = d.wrong; full = d.full } ≡ happened d end
  unfolding happened
  happened_there z = rw (ne_eqb end 0 z) (grown_is d end n e)

module _ (d r : Day) (l l' : List ℕ) (at end : ℕ) (a : at ≡ place d (length l)) (h : r ≡ happened d end) where
  pub appended : (s : List ℕ) → put_of end l' ≡ put l at s → listed r l' ≡ append d l s
  unfolding append
  appended s p =
      let q : put_of end l' ≡ put l (place d (length l)) s = rw a at p in rw h (λ j. listed (happened d (q j).end) (q j).list)

  -- of a frame that a word names
  pub frame_appended : (word out out' s : List ℕ) (n : ℕ) → 2048 ≡ length out → decoded n out' ≡ decode word out → s ≡ take n out'
      → put_of end l' ≡ put l at (bytes_of (frame s)) → listed r l' ≡ append d l (bytes_of (frame (named word)))
  frame_appended word out out' s n k e q p =
      appended (bytes_of (frame s)) p ∙ ap (λ (s : List ℕ). append d l (bytes_of (frame s))) (q ∙ named_is word out out' n k e)

  pub send_appended : (room : ℕ) → 1518 ≤ room → put_of end l' ≡ put l at (bytes_of send) → listed r l' ≡ send_into d l room
  unfolding send_into
  send_appended room m p = rw (le-ltb room 1518 m) (appended (bytes_of send) p)

pub send_short : (d r : Day) (l : List ℕ) (room : ℕ) → room < 1518 → r ≡ failed d → listed r l ≡ send_into d l room
unfolding send_into
send_short d r l room h e = rw (lt-ltb room 1518 h) (λ j. record { day = e j; list = l })
