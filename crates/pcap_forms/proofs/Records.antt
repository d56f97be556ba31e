-- Records of frames that may be exported, read again. Assumes nothing.
use Prim.Native.Nat.{ℕ, ◌+◌, ◌^◌, ◌≤◌, ◌<◌}
use mathlib.Core.Path.{◌≡◌, refl, sym, ap, ap₂, ◌∙◌}
use mathlib.Core.Bool.{true}
use mathlib.Core.List.{List, [], ◌∷◌, ◌++◌, map, append_assoc}
use native.Mathlib.Omega.{arith}
use lib.ListN.{length, drop, length-append}
use borrow.Author.Tests.{lt-ltb, le-ltb, eq-eqb}
use Rattle.rules.proofs.Choices.{if_no, or_no, not_no}
use Rattle.memory.specs.Memory.{word, word_bytes}
use Rattle.fcs.specs.CheckSequence.{check_right}
use Rattle.fcs.proofs.Meaning.{right_is_closed_message}
use Rattle.trace_forms.proofs.Bytewise.{digits}
use Rattle.pieces.specs.Pieces.{pieces, sizes, joined, behind}
use Rattle.pieces.proofs.Joined.{Piece, AllPieces, apart, length_joined, all_bytes}
use Rattle.pcap.specs.Capture.{Captured, message, head_bytes, record_bytes, records_bytes}
use Rattle.pcap.proofs.Laws.{length_head, length_message}
use Rattle.pcap_export.specs.Export.{frame_fault}
use Rattle.pcap_export.proofs.Lengths.{right_frame}
use Rattle.pcap_records.specs.Records.{cut_record, unequal_lengths, record_size, record_fault, records_fault, with_check, captured_of, frames_of, storable, all_storable}
use Rattle.pcap_records.proofs.Laws.{fits}

-- a frame that may be exported, with a time that four bytes each can hold
pub record Exportable (c : Captured) : Type 0 where
  pub seconds : c.seconds < 2 ^ 32
  pub microseconds : c.microseconds < 2 ^ 32
  pub right : frame_fault c.frame ≡ 0
  pub few : length c.frame ≤ 1518

abbrev pub AllExportable : List Captured → Type 0
AllExportable [] = Unit
AllExportable (c ∷ cs) = Exportable c × AllExportable cs

-- ---- one record

-- the numbers at its front
head_words : (a b c d : ℕ) (r : List ℕ) → a < 2 ^ 32 → b < 2 ^ 32 → c < 2 ^ 32 → d < 2 ^ 32
    → (word (head_bytes a b c d ++ r) 0 ≡ a) × ((word (head_bytes a b c d ++ r) 4 ≡ b) × ((word (head_bytes a b c d ++ r) 8 ≡ c) × (word (head_bytes a b c d ++ r) 12 ≡ d)))
unfolding head_bytes word word_bytes
head_words a b c d r ha hb hc hd = (digits a ha, (digits b hb, (digits c hc, digits d hd)))

behind_head : (a b c d : ℕ) (r : List ℕ) → drop 16 (head_bytes a b c d ++ r) ≡ r
unfolding head_bytes word_bytes
behind_head a b c d r = refl

-- a frame with a right check sequence is its message with that
closed_frame : (f : List ℕ) → check_right f ≡ true → with_check (message f) ≡ f
unfolding message
closed_frame f h = sym (right_is_closed_message f h)

module _ (c : Captured) (e : Exportable c) where
  n : ℕ
  n = length (message c.frame)

  small : n < 2 ^ 32
  unfolding n
  small =
      let l = length_message c.frame in
      let f = e.few in
      omega arith

  h : List ℕ
  h = head_bytes c.seconds c.microseconds n n

  -- with anything behind it
  from_head : (r : List ℕ) → record_bytes c ++ r ≡ h ++ (message c.frame ++ r)
  unfolding record_bytes h n
  from_head r = append_assoc (head_bytes c.seconds c.microseconds (length (message c.frame)) (length (message c.frame))) (message c.frame) r

  said : (r : List ℕ) → (word (record_bytes c ++ r) 8 ≡ n) × (word (record_bytes c ++ r) 12 ≡ n)
  unfolding h
  said r =
      let w = head_words c.seconds c.microseconds n n (message c.frame ++ r) e.seconds e.microseconds small small in
      (rw (from_head r) w.1.1.0, rw (from_head r) w.1.1.1)

  long : length (record_bytes c) ≡ 16 + n
  unfolding record_bytes n
  long =
      let k = length (message c.frame) in
      length-append (head_bytes c.seconds c.microseconds k k) (message c.frame) ∙ omega (arith, length_head c.seconds c.microseconds k k)

  size_is : (r : List ℕ) → record_size (record_bytes c ++ r) ≡ length (record_bytes c)
  unfolding record_size cut_record unequal_lengths
  size_is r =
      let s = record_bytes c ++ r in
      let w = said r in
      let w8 = w.0 in
      let w12 = w.1 in
      let l = length-append (record_bytes c) r in
      let k = long in
      let cut = or_no _ _ (le-ltb (length s) 16 (omega arith)) (le-ltb (length s) (16 + word s 8) (omega arith)) in
      let same = not_no _ (eq-eqb (word s 8) (word s 12) (w8 ∙ sym w12)) in
      sym (if_no _ _ _ _ cut (if_no _ _ _ _ same (k ∙ rw w8)))

  pub record_piece : Piece record_size (record_bytes c)
  record_piece =
      let k = long in
      (size_is, λ q. omega arith)

  -- what it says is the frame with its time
  pub record_says : captured_of (record_bytes c) ≡ c
  unfolding record_bytes
  record_says =
      let k = length (message c.frame) in
      let w = head_words c.seconds c.microseconds k k (message c.frame) e.seconds e.microseconds small' small' in
      let f : with_check (drop 16 (head_bytes c.seconds c.microseconds k k ++ message c.frame)) ≡ c.frame =
      rw (behind_head c.seconds c.microseconds k k (message c.frame)) closed in
      λ i. record { seconds = w.0 i; microseconds = w.1.0 i; frame = f i }
    where
      small' : length (message c.frame) < 2 ^ 32
      small' =
          let l = length_message c.frame in
          let f = e.few in
          omega arith

      closed : with_check (message c.frame) ≡ c.frame
      closed = closed_frame c.frame (right_frame c.frame e.right).1

-- ---- all records

joins : (cs : List Captured) → joined (map record_bytes cs) ≡ records_bytes cs
unfolding records_bytes
joins [] = refl
joins (c ∷ cs) = ap (λ (l : List ℕ). record_bytes c ++ l) (joins cs)

pieces_of : (cs : List Captured) → AllExportable cs → AllPieces record_size (map record_bytes cs)
pieces_of [] a = tt
pieces_of (c ∷ cs) a = (record_piece c a.0, pieces_of cs a.1)

made_pieces : (cs : List Captured) → AllExportable cs → pieces record_size (records_bytes cs) ≡ map record_bytes cs
made_pieces cs a = rw (← joins cs) (apart record_size fits (map record_bytes cs) (pieces_of cs a))

pub made_frames : (cs : List Captured) → AllExportable cs → frames_of (records_bytes cs) ≡ cs
unfolding frames_of
made_frames cs a = ap (λ (xs : List (List ℕ)). map captured_of xs) (made_pieces cs a) ∙ all_say cs a
  where
    all_say : (cs : List Captured) → AllExportable cs → map captured_of (map record_bytes cs) ≡ cs
    all_say [] a = refl
    all_say (c ∷ cs) a = ap₂ (λ (x : Captured) (l : List Captured). x ∷ l) (record_says c a.0) (all_say cs a.1)

-- none is wrong
pub made_right : (cs : List Captured) → AllExportable cs → records_fault (records_bytes cs) ≡ 0
unfolding records_fault record_fault
made_right cs a =
    let s = records_bytes cs in
    let b = all_bytes record_size fits s in
    let k : sizes (pieces record_size s) ≡ length s = ap sizes (made_pieces cs a) ∙ sym (length_joined (map record_bytes cs)) ∙ ap length (joins cs) in
    rw (eq-eqb (length (behind record_size s)) 0 (omega arith))

pub made_storable : (cs : List Captured) → AllExportable cs → all_storable cs ≡ true
unfolding all_storable storable
made_storable [] a = refl
made_storable (c ∷ cs) a =
    let f = a.0.few in
    rw (lt-ltb (length c.frame) (2 ^ 32) (omega arith)) (made_storable cs a.1)
