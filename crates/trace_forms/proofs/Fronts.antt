-- An event at the front of a string of bytes: the bytes of an event are that event, and a whole event is its bytes. Assumes nothing.
use Prim.Native.Nat.{ℕ, suc, ◌+◌, ◌≤◌}
use mathlib.Core.Path.{◌≡◌, refl, sym, ap, ◌∙◌}
use mathlib.Core.Bool.{false}
use mathlib.Core.List.{List, ◌∷◌, ◌++◌, append_assoc}
use native.Mathlib.Omega.{arith}
use lib.Dec.{eqb}
use lib.ListN.{length, take, drop, length-append, length-take, length-drop, take-append-drop}
use lib.Seq.{take_at, drop-drop}
use borrow.Author.Tests.{ne_eqb, le-ltb, eqb-true, eqb-false}
use Rattle.rules.proofs.Choices.{by_bool}
use Rattle.memory.specs.Memory.{word, word_bytes}
use Rattle.block_forms.specs.Forms.{Bytes}
use Rattle.event.specs.Event.{Event, register_write, grant, frame, send, bytes_of, size}
use Rattle.event.specs.Front.{whole, frame_front, front}
use Rattle.event.specs.Sizes.{size_of}
use Rattle.event.proofs.Fronts.{whole_write, whole_grant, whole_frame, whole_send, size_fits}
use Rattle.trace_forms.specs.Events.{Storable}
use Rattle.trace_forms.proofs.Bytewise.{digits, bytes_drop, bytes_take, word_small, one_word, two_words}

-- ---- the bytes of an event are that event

pub length_bytes : (e : Event) → length (bytes_of e) ≡ size e
unfolding bytes_of word_bytes
length_bytes (register_write offset value) = refl
length_bytes (grant address) = refl
length_bytes (frame bytes) = omega arith
length_bytes send = refl

pub front_back : (e : Event) (r : List ℕ) → Storable e → front (bytes_of e ++ r) ≡ whole e
unfolding front frame_front bytes_of word word_bytes
front_back (register_write offset value) r s =
    let n = length (bytes_of (register_write offset value) ++ r) in
    rw (ne_eqb n 0 (λ q. omega arith), le-ltb n 9 (omega arith), digits offset s.0, digits value s.1)
front_back (grant address) r s =
    let n = length (bytes_of (grant address) ++ r) in
    rw (ne_eqb n 0 (λ q. omega arith), le-ltb n 5 (omega arith), digits address s)
front_back (frame bytes) r s =
    let n = length (bytes_of (frame bytes) ++ r) in
    let l = length-append bytes r in
    rw (
      ne_eqb n 0 (λ q. omega arith),
      le-ltb n 5 (omega arith),
      digits (length bytes) s.0,
      le-ltb n (5 + length bytes) (omega arith),
      take_at bytes r (length bytes) refl,
    )
front_back send r s = rw (ne_eqb (length (bytes_of send ++ r)) 0 (λ q. omega arith))

-- ---- a whole event is its bytes

pub record WholeFront (s : List ℕ) : Type 0 where
  pub event : Event
  pub is : front s ≡ whole event
  pub same : s ≡ bytes_of event ++ drop (size event) s
  pub storable : Storable event

module _ (r : List ℕ) (bytes : Bytes r) where
  -- the same from the first byte on
  write_same : 8 ≤ length r → 1 ∷ r ≡ bytes_of (register_write (word (1 ∷ r) 1) (word (1 ∷ r) 5)) ++ drop 9 (1 ∷ r)
  unfolding bytes_of word
  write_same h = ap (λ (l : List ℕ). 1 ∷ l) (two_words r bytes h)

  grant_same : 4 ≤ length r → 2 ∷ r ≡ bytes_of (grant (word (2 ∷ r) 1)) ++ drop 5 (2 ∷ r)
  unfolding bytes_of word
  grant_same h = ap (λ (l : List ℕ). 2 ∷ l) (one_word r bytes h)

  -- a frame of n bytes
  frame_same : (n : ℕ) → n ≡ word r 0 → 4 + n ≤ length r
      → 3 ∷ r ≡ bytes_of (frame (take n (drop 4 r))) ++ drop (5 + length (take n (drop 4 r))) (3 ∷ r)
  unfolding bytes_of
  frame_same n e h =
      let l : length (take n (drop 4 r)) ≡ n = simp (length-take, length-drop) (omega arith) in
      let d : 5 + n ≡ suc (4 + n) = omega arith in
      let behind : drop 4 r ≡ take n (drop 4 r) ++ drop (4 + n) r =
      sym (take-append-drop n (drop 4 r)) ∙ rw (drop-drop n 4 r) in
      rw (l, d)
      (ap (λ (a : List ℕ). 3 ∷ a)
      (one_word r bytes (omega arith)
      ∙ ap (λ (a : List ℕ). word_bytes (word r 0) ++ a) behind
      ∙ sym (append_assoc (word_bytes (word r 0)) (take n (drop 4 r)) (drop (4 + n) r))
      ∙ rw e))

module _ (x : ℕ) (r : List ℕ) (bytes : Bytes (x ∷ r)) (h : size_of (front (x ∷ r)) ≡ 0 → ⊥) where
  rest : Bytes r
  rest i = bytes (suc i)

  fits : (e : Event) → front (x ∷ r) ≡ whole e → size e ≤ suc (length r)
  fits e is = rw is at (size_fits (x ∷ r))

  a_write : x ≡ 1 → WholeFront (x ∷ r)
  a_write q =
      let is = whole_write (x ∷ r) (omega arith) h q in
      let n = fits (register_write (word (x ∷ r) 1) (word (x ∷ r) 5)) is in
      record {
        event = register_write (word (x ∷ r) 1) (word (x ∷ r) 5);
        is = is;
        same = rw q (write_same r rest (omega arith));
        storable = (word_small (x ∷ r) bytes 1, word_small (x ∷ r) bytes 5);
      }

  a_grant_lem : x ≡ 2 → WholeFront (x ∷ r)
  a_grant_lem q =
      let is = whole_grant (x ∷ r) (omega arith) h q in
      let n = fits (grant (word (x ∷ r) 1)) is in
      record {
        event = grant (word (x ∷ r) 1);
        is = is;
        same = rw q (grant_same r rest (omega arith));
        storable = word_small (x ∷ r) bytes 1;
      }

  a_frame : x ≡ 3 → WholeFront (x ∷ r)
  unfolding word
  a_frame q =
      let w = whole_frame (x ∷ r) (omega arith) h q in
      let n = w.1 in
      let l = length-take (word (x ∷ r) 1) (drop 5 (x ∷ r)) in
      let small = word_small (x ∷ r) bytes 1 in
      record {
        event = frame (take (word (x ∷ r) 1) (drop 5 (x ∷ r)));
        is = w.0;
        same = rw q (frame_same r rest (word r 0) refl (omega arith));
        storable = (omega arith, bytes_take (word (x ∷ r) 1) (drop 5 (x ∷ r)) (bytes_drop 5 (x ∷ r) bytes));
      }

  a_send_lem : eqb x 1 ≡ false → eqb x 2 ≡ false → eqb x 3 ≡ false → WholeFront (x ∷ r)
  unfolding front bytes_of
  a_send_lem a b c =
      by_bool (eqb x 4)
      (λ d.
      record {
        event = send;
        is = whole_send (x ∷ r) (omega arith) h (eqb-false x 1 a) (eqb-false x 2 b) (eqb-false x 3 c);
        same = rw (eqb-true x 4 d);
        storable = tt;
      })
      (λ d. absurd (h (rw (ne_eqb (length (x ∷ r)) 0 (λ q. omega arith), a, b, c, d))))

  pub whole_front : WholeFront (x ∷ r)
  whole_front =
      by_bool (eqb x 1) (λ t. a_write (eqb-true x 1 t))
      (λ a.
      by_bool (eqb x 2) (λ t. a_grant_lem (eqb-true x 2 t))
      (λ b. by_bool (eqb x 3) (λ t. a_frame (eqb-true x 3 t)) (λ c. a_send_lem a b c)))
