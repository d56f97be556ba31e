-- The two loops along a list, entry by entry: one tests the frames, one puts the records. Assumes nothing.
use Prim.Native.Nat.{ℕ, ◌+◌, ◌≤◌}
use mathlib.Core.Path.{◌≡◌, refl, sym, ap, ◌∙◌}
use mathlib.Core.List.{List, [], ◌∷◌, map}
use native.Mathlib.Omega.{arith}
use lib.ListN.{length, take, drop, length-drop}
use lib.Seq.{take_all}
use Rattle.rules.specs.Choice.{◌otherwise◌}
use Rattle.rules.proofs.Choices.{refused_by, neither, said_eq}
use Rattle.memory.specs.Memory.{word, store}
use Rattle.memory.proofs.Stores.{store_append, length_store}
use Rattle.pieces.specs.Pieces.{pieces, sizes}
use Rattle.pieces.proofs.Joined.{all_bytes}
use Rattle.pieces.proofs.Options.{first_piece}
use Rattle.pcap.specs.Capture.{Captured, record_bytes, records_bytes}
use Rattle.pcap_list.specs.Entries.{entry_size, entry_of, entries_of}
use Rattle.pcap_list.proofs.Laws.{fits, least}
use Rattle.pcap_export.specs.Export.{frame_fault, first_wrong}
use Rattle.pcap_export.specs.Places.{NoneWrong}
use Rattle.pcap_export.proofs.Lengths.{length_entry}

-- the entries that are left
abbrev pub ahead : List ℕ → List Captured
ahead left = map entry_of (pieces entry_size left)

module _ (left x : List ℕ) (xs : List (List ℕ)) (e : pieces entry_size left ≡ x ∷ xs) where
  -- one, and those behind it
  one_ahead : ahead left ≡ entry_of x ∷ map entry_of xs
  one_ahead = ap (λ (ys : List (List ℕ)). map entry_of ys) e

  has_head : 12 ≤ length x
  has_head =
      let f = first_piece entry_size fits left x xs e in
      let k = f.0 in
      let l = least left f.1 in
      omega arith

-- ---- what the code reads of an entry

pub frame_is : (x r : List ℕ) → r ≡ take (length x) (drop 12 x) → r ≡ (entry_of x).frame
frame_is x r e =
    let d = length-drop 12 x in
    e ∙ take_all (length x) (drop 12 x) (omega arith)

pub record_is : (m m' x f : List ℕ) (to seconds microseconds : ℕ) → seconds ≡ word x 0 → microseconds ≡ word x 4 → f ≡ (entry_of x).frame
    → m' ≡ store m to (record_bytes (record { seconds = seconds; microseconds = microseconds; frame = f }))
    → m' ≡ store m to (record_bytes (entry_of x))
record_is m m' x f to seconds microseconds es eu ef e =
    e ∙ (λ i. store m to (record_bytes (record { seconds = es i; microseconds = eu i; frame = ef i })))

-- ---- the test of the frames

abbrev pub Testing : List ℕ → List ℕ → Type 0
Testing s left = first_wrong (ahead left) ≡ first_wrong (entries_of s)

pub testing_begins : (s left : List ℕ) → left ≡ s → Testing s left
unfolding entries_of
testing_begins s left e = ap (λ (l : List ℕ). first_wrong (ahead l)) e

module _ (s left : List ℕ) (t : first_wrong (ahead left) ≡ first_wrong (entries_of s)) where
  module _ (x f : List ℕ) (xs : List (List ℕ)) (e : pieces entry_size left ≡ x ∷ xs) (n : ℕ) (ef : f ≡ (entry_of x).frame) (en : n ≡ frame_fault f) where
    this : n ≡ frame_fault (entry_of x).frame
    this = en ∙ ap frame_fault ef

    all : first_wrong (entries_of s) ≡ (frame_fault (entry_of x).frame otherwise first_wrong (map entry_of xs))
    unfolding first_wrong
    all = sym t ∙ ap first_wrong (one_ahead left x xs e)

    pub testing_finds : (n ≡ 0 → ⊥) → n ≡ first_wrong (entries_of s)
    testing_finds h = refused_by _ (first_wrong (map entry_of xs)) n this h ∙ sym all

    pub testing_on : n ≡ 0 → first_wrong (map entry_of xs) ≡ first_wrong (entries_of s)
    testing_on z =
        let passes : (frame_fault (entry_of x).frame otherwise first_wrong (map entry_of xs)) ≡ first_wrong (map entry_of xs) =
        rw (said_eq (frame_fault (entry_of x).frame) n 0 this z) in
        sym (all ∙ passes)

  pub testing_ends : pieces entry_size left ≡ [] → 0 ≡ first_wrong (entries_of s)
  unfolding first_wrong
  testing_ends none = sym (ap (λ (xs : List (List ℕ)). first_wrong (map entry_of xs)) none) ∙ t

-- ---- the records put

pub record Putting (s m : List ℕ) (at : ℕ) (left room : List ℕ) : Type 0 where
  pub fits : at + sizes (pieces entry_size left) ≤ length m
  pub long : length room ≡ length m
  -- of those that are left no frame is wrong
  pub right : first_wrong (ahead left) ≡ 0
  pub same : store room at (records_bytes (ahead left)) ≡ store m 24 (records_bytes (entries_of s))

module _ (s m : List ℕ) where
  pub putting_begins : (left : List ℕ) → left ≡ s → NoneWrong s → 24 + length s ≤ length m → Putting s m 24 left m
  unfolding entries_of
  putting_begins left e h r =
      let a = all_bytes entry_size fits s in
      rw e (record { fits = omega arith; long = refl; right = h; same = refl })

  module _ (at : ℕ) (left room : List ℕ) (p : Putting s m at left room) where
    module _ (x : List ℕ) (xs : List (List ℕ)) (e : pieces entry_size left ≡ x ∷ xs) where
      putting_fits : at + (length x + sizes xs) ≤ length m
      putting_fits = rw e at p.fits

      pub putting_room : at + length x ≤ length m
      putting_room = let f = putting_fits in omega arith

      pub putting_on : (rest next : List ℕ) → xs ≡ pieces entry_size rest → next ≡ store room at (record_bytes (entry_of x))
          → Putting s m (at + length x) rest next
      unfolding records_bytes first_wrong
      putting_on rest next er e' =
          let f = putting_fits in
          let one = one_ahead left x xs e in
          let both = neither (frame_fault (entry_of x).frame) (first_wrong (map entry_of xs)) (sym (ap first_wrong one) ∙ p.right) in
          let lr = length_entry x (has_head left x xs e) both.0 in
          let j : at + length x ≡ at + length (record_bytes (entry_of x)) = omega arith in
          let put : store next (at + length x) (records_bytes (map entry_of xs)) ≡ store room at (records_bytes (entry_of x ∷ map entry_of xs)) =
          rw e' (store_append room at (at + length x) (record_bytes (entry_of x)) (records_bytes (map entry_of xs)) j) in
          record {
            fits = rw (← er) (omega arith);
            long = ap length e' ∙ length_store room at (record_bytes (entry_of x)) ∙ p.long;
            right = rw (← er) both.1;
            same = rw (← er) (put ∙ ap (λ (cs : List Captured). store room at (records_bytes cs)) (sym one) ∙ p.same);
          }

    pub putting_ends : pieces entry_size left ≡ [] → room ≡ store m 24 (records_bytes (entries_of s))
    unfolding records_bytes store
    putting_ends none = sym (ap (λ (xs : List (List ℕ)). store room at (records_bytes (map entry_of xs))) none) ∙ p.same
