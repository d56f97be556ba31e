-- A list of frames and its entries. Assumes nothing.
use Prim.Native.Nat.{ℕ, zero, suc, ◌+◌, ◌^◌, ◌≤◌, ◌<◌}
use mathlib.Core.Path.{◌≡◌, refl, sym, ap, ap₂, ◌∙◌}
use mathlib.Core.Bool.{true, not}
use mathlib.Core.List.{List, [], ◌∷◌, ◌++◌, map, append_assoc}
use native.Mathlib.Omega.{arith}
use lib.Dec.{eqb, leb}
use lib.ListN.{length, take, drop, length-append}
use borrow.Author.Tests.{le-ltb, eq-eqb, leb-true}
use Rattle.std.specs.Prelude.{if◌then◌else◌}
use Rattle.rules.proofs.Choices.{by_bool, if_no, passed, neither, and_parts, said_yes}
use Rattle.memory.specs.Memory.{word, word_bytes}
use Rattle.fcs.specs.CheckSequence.{check_right}
use Rattle.frame.specs.Length.{length_allowed}
use Rattle.block_forms.specs.Forms.{Bytes}
use Rattle.trace_forms.proofs.Bytewise.{digits, bytes_drop, bytes_take, word_small}
use Rattle.pieces.specs.Pieces.{pieces_by, pieces, sizes, joined}
use Rattle.pieces.proofs.Joined.{Piece, AllPieces, apart, length_joined}
use Rattle.pcap.specs.Capture.{Captured}
use Rattle.pcap_list.specs.Entries.{entry_head, entry_bytes, list_bytes, entry_size, entry_of, entries_of, of_its_form}
use Rattle.pcap_list.proofs.Laws.{fits}
use Rattle.pcap_export.specs.Export.{frame_fault, first_wrong}
use Rattle.pcap_forms.proofs.Records.{Exportable, AllExportable}

-- ---- the entries of a list of bytes that export does not refuse

pub few_bytes : (f : List ℕ) → frame_fault f ≡ 0 → length f ≤ 1518
unfolding frame_fault length_allowed
few_bytes f e =
    let a = passed (not (length_allowed (length f))) 4 (if not (check_right f) then 5 else 0) (omega arith) e in
    leb-true (length f) 1518 (and_parts (leb 64 (length f)) (leb (length f) 1518) (said_yes (length_allowed (length f)) _ refl a.0)).1

by_pieces : (n : ℕ) (s : List ℕ) → Bytes s → first_wrong (map entry_of (pieces_by entry_size n s)) ≡ 0 → AllExportable (map entry_of (pieces_by entry_size n s))
unfolding pieces_by first_wrong
by_pieces zero s b = λ e. tt
by_pieces (suc n) s b =
    by_bool (eqb (entry_size s) 0) (λ t. rw t (λ e. tt))
    (λ t. rw t (λ e.
    let x = take (entry_size s) s in
    let bx = bytes_take (entry_size s) s b in
    let both = neither (frame_fault (entry_of x).frame) (first_wrong (map entry_of (pieces_by entry_size n (drop (entry_size s) s)))) e in (
      record { seconds = word_small x bx 0; microseconds = word_small x bx 4; right = both.0; few = few_bytes (drop 12 x) both.0 },
      by_pieces n (drop (entry_size s) s) (bytes_drop (entry_size s) s b) both.1,
    )))

pub entries_exportable : (list : List ℕ) → Bytes list → first_wrong (entries_of list) ≡ 0 → AllExportable (entries_of list)
unfolding entries_of
entries_exportable list b e = by_pieces (length list) list b e

-- ---- a list that is made has its entries

head_words : (a b c : ℕ) (r : List ℕ) → a < 2 ^ 32 → b < 2 ^ 32 → c < 2 ^ 32
    → (word (entry_head a b c ++ r) 0 ≡ a) × ((word (entry_head a b c ++ r) 4 ≡ b) × (word (entry_head a b c ++ r) 8 ≡ c))
unfolding entry_head word word_bytes
head_words a b c r ha hb hc = (digits a ha, (digits b hb, digits c hc))

behind_head : (a b c : ℕ) (r : List ℕ) → drop 12 (entry_head a b c ++ r) ≡ r
unfolding entry_head word_bytes
behind_head a b c r = refl

length_head : (a b c : ℕ) → length (entry_head a b c) ≡ 12
unfolding entry_head word_bytes
length_head a b c = refl

module _ (c : Captured) (e : Exportable c) where
  small : length c.frame < 2 ^ 32
  small =
      let f = e.few in
      omega arith

  long : length (entry_bytes c) ≡ 12 + length c.frame
  unfolding entry_bytes
  long =
      length-append (entry_head c.seconds c.microseconds (length c.frame)) c.frame
      ∙ omega (arith, length_head c.seconds c.microseconds (length c.frame))

  said : (r : List ℕ) → word (entry_bytes c ++ r) 8 ≡ length c.frame
  unfolding entry_bytes
  said r =
      let k = length c.frame in
      let h = entry_head c.seconds c.microseconds k in
      rw (append_assoc h c.frame r) (head_words c.seconds c.microseconds k (c.frame ++ r) e.seconds e.microseconds small).1.1

  size_is : (r : List ℕ) → entry_size (entry_bytes c ++ r) ≡ length (entry_bytes c)
  unfolding entry_size
  size_is r =
      let s = entry_bytes c ++ r in
      let w = said r in
      let l = length-append (entry_bytes c) r in
      let k = long in
      sym (if_no _ _ _ _ (le-ltb (length s) 12 (omega arith)) (if_no _ _ _ _ (le-ltb (length s) (12 + word s 8) (omega arith)) (k ∙ rw w)))

  entry_piece : Piece entry_size (entry_bytes c)
  entry_piece =
      let k = long in
      (size_is, λ q. omega arith)

  entry_says : entry_of (entry_bytes c) ≡ c
  unfolding entry_bytes
  entry_says =
      let k = length c.frame in
      let w = head_words c.seconds c.microseconds k c.frame e.seconds e.microseconds small in
      let f = behind_head c.seconds c.microseconds k c.frame in
      λ i. record { seconds = w.0 i; microseconds = w.1.0 i; frame = f i }

joins : (cs : List Captured) → joined (map entry_bytes cs) ≡ list_bytes cs
unfolding list_bytes
joins [] = refl
joins (c ∷ cs) = ap (λ (l : List ℕ). entry_bytes c ++ l) (joins cs)

pieces_of : (cs : List Captured) → AllExportable cs → AllPieces entry_size (map entry_bytes cs)
pieces_of [] a = tt
pieces_of (c ∷ cs) a = (entry_piece c a.0, pieces_of cs a.1)

made_pieces : (cs : List Captured) → AllExportable cs → pieces entry_size (list_bytes cs) ≡ map entry_bytes cs
made_pieces cs a = rw (← joins cs) (apart entry_size fits (map entry_bytes cs) (pieces_of cs a))

pub made_entries : (cs : List Captured) → AllExportable cs → entries_of (list_bytes cs) ≡ cs
unfolding entries_of
made_entries cs a = ap (λ (xs : List (List ℕ)). map entry_of xs) (made_pieces cs a) ∙ all_say cs a
  where
    all_say : (cs : List Captured) → AllExportable cs → map entry_of (map entry_bytes cs) ≡ cs
    all_say [] a = refl
    all_say (c ∷ cs) a = ap₂ (λ (x : Captured) (l : List Captured). x ∷ l) (entry_says c a.0) (all_say cs a.1)

pub made_form : (cs : List Captured) → AllExportable cs → of_its_form (list_bytes cs) ≡ true
unfolding of_its_form
made_form cs a =
    eq-eqb (sizes (pieces entry_size (list_bytes cs))) (length (list_bytes cs))
    (ap sizes (made_pieces cs a) ∙ sym (length_joined (map entry_bytes cs)) ∙ ap length (joins cs))

pub made_right : (cs : List Captured) → AllExportable cs → first_wrong cs ≡ 0
unfolding first_wrong
made_right [] a = refl
made_right (c ∷ cs) a = rw a.0.right (made_right cs a.1)
