-- The bytes of an event, as the code puts them into a list. Assumes nothing.
use Prim.Native.Nat.{ℕ}
use mathlib.Core.Path.{◌≡◌, ◌∙◌}
use mathlib.Core.List.{List, [], ◌∷◌, ◌++◌, append-nil}
use lib.ListN.{length}
use Rattle.memory.specs.Memory.{word_bytes}
use Rattle.appending.specs.Put.{Put, put}
use Rattle.event.specs.Event.{Event, grant, frame, send, bytes_of}

module _ (l : List ℕ) (at : ℕ) (x : Put) where
  -- one whose bytes lie in one piece
  pub whole_put : (e : Event) (s : List ℕ) → s ≡ bytes_of e → x ≡ put l at (s ++ []) → x ≡ put l at (bytes_of e)
  whole_put e s p h = h ∙ rw (append-nil s, p)

  pub grant_put : (address : ℕ) (s : List ℕ) → s ≡ 2 ∷ word_bytes address → x ≡ put l at (s ++ []) → x ≡ put l at (bytes_of (grant address))
  unfolding bytes_of
  grant_put address s p h = whole_put (grant address) s p h

  pub frame_put : (s head : List ℕ) → head ≡ 3 ∷ word_bytes (length s) → x ≡ put l at (head ++ s) → x ≡ put l at (bytes_of (frame s))
  unfolding bytes_of
  frame_put s head p h = h ∙ rw p

  pub send_put : x ≡ put l at (4 ∷ []) → x ≡ put l at (bytes_of send)
  unfolding bytes_of
  send_put h = h
