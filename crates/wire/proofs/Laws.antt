-- What `put_wire` leaves, from what its calls leave; and the length of a frame out. Assumes nothing.
use mathlib.Core.Path.{◌≡◌, refl, sym, ap, ◌∙◌}
use mathlib.Core.Bool.{Bool, true, false, not}
use mathlib.Core.List.{List, ◌++◌}
use Prim.Native.Nat.{ℕ, ◌+◌, ◌-◌, ◌≤◌}
use native.Mathlib.Omega.{arith}
use borrow.Author.Tests.{leb-true, le-leb}
use lib.Dec.{leb}
use lib.ListN.{length, take, drop, replicate, length-append, length-replicate}
use lib.Seq.{sets-eq}
use Rattle.std.proofs.lemmas.List.{take-replicate}
use Rattle.rules.proofs.Choices.{said_yes, said_no, and_parts}
use Rattle.memory.specs.Memory.{store}
use Rattle.memory.proofs.Stores.{length_store, part_back, store_append}
use Rattle.fcs.specs.CheckSequence.{check_sequence, closed}
use Rattle.fcs.proofs.Meaning.{length_sequence}
use Rattle.wire.specs.Wire.{padded, wire, wire_fits, wire_put, wire_count}

-- ---- lengths

-- zeros up to 60 bytes, and the check sequence of the padded payload
padded_is : (p : List ℕ) → padded p ≡ p ++ replicate (60 - length p) 0
padded_is p = refl

wire_is : (p : List ℕ) → wire p ≡ padded p ++ check_sequence (padded p)
unfolding wire
wire_is p = refl

pub length_padded : (p : List ℕ) → length (padded p) ≡ length p + (60 - length p)
length_padded p =
    ap length (padded_is p)
    ∙ length-append p (replicate (60 - length p) 0)
    ∙ ap (λ (n : ℕ). length p + n) (length-replicate (60 - length p) 0)

pub length_wire : (p : List ℕ) → length (wire p) ≡ length p + (60 - length p) + 4
length_wire p =
    ap length (wire_is p)
    ∙ length-append (padded p) (check_sequence (padded p))
    ∙ rw (length_padded p, length_sequence (padded p))

-- "puts 64 to 1,518 bytes": a payload of at most 1,514; the padding makes up for one that is short
pub wire_bounds : (p : List ℕ) → length p ≤ 1514 → (64 ≤ length (wire p)) × (length (wire p) ≤ 1518)
wire_bounds p high = rw (length_wire p) (omega arith, omega arith)

-- ---- stores one behind the other

take_front : (s m : List ℕ) (n : ℕ) → n ≡ length s → length s ≤ length m → take n (store m 0 s) ≡ s
take_front s m n e h = rw e (part_back m 0 s (omega arith))

store_eq : (v l : List ℕ) (i k : ℕ) → length v ≡ k → i + k ≤ length l → store l i v ≡ take i l ++ v ++ drop (i + k) l
unfolding store
store_eq v l i k n f = rw (← n) (sets-eq v l i (rw (← n) at f))

-- the check sequence written behind a store at the front
close_front : (s m : List ℕ) (k : ℕ) → k ≡ length s → k + 4 ≤ length m → closed (store m 0 s) k ≡ store m 0 (s ++ check_sequence s)
unfolding closed
close_front s m k e h =
    let l : k + 4 ≤ length (store m 0 s) = rw (length_store m 0 s) h in
    rw (le-leb (k + 4) (length (store m 0 s)) l) (
    sym (store_eq (check_sequence (take k (store m 0 s))) (store m 0 s) k 4 (length_sequence (take k (store m 0 s))) l)
    ∙ ap (λ (x : List ℕ). store (store m 0 s) k (check_sequence x)) (take_front s m k e (omega arith))
    ∙ store_append m 0 k s (check_sequence s) (omega arith))

-- ---- the ways out

-- so many of sixty zeros stored, and none where there are sixty bytes before them
pub padding : (out o : List ℕ) (n most : ℕ) → most ≡ 60 → o ≡ store out n (take (60 - n) (replicate most 0)) → o ≡ store out n (replicate (60 - n) 0)
padding out o n most m e = e ∙ ap (store out n) (take-replicate (60 - n) most 0 (omega arith))

pub no_padding : (out : List ℕ) (n : ℕ) → 60 ≤ n → out ≡ store out n (replicate (60 - n) 0)
unfolding store
no_padding out n h = let e : 60 - n ≡ 0 = omega arith in rw e

module _ (out p : List ℕ) (r : Bool) (e : r ≡ wire_fits out p) (h : not r ≡ true) where
  pub none_counted : 0 ≡ wire_count out p
  unfolding wire_count
  none_counted = rw (said_no (wire_fits out p) r e h)

  pub none_put : out ≡ wire_put out p
  unfolding wire_put
  none_put = rw (said_no (wire_fits out p) r e h)

-- what a yes of `wire_fits` says of the lengths
fits_lengths : (out p : List ℕ) → wire_fits out p ≡ true → (length p ≤ 1514) × (1518 ≤ length out)
unfolding wire_fits
fits_lengths out p h =
    let t = and_parts (leb (length p) 1514) (leb 1518 (length out)) h in (leb-true _ _ t.0, leb-true _ _ t.1)

pub all_counted : (out p : List ℕ) (r : Bool) (k : ℕ) → r ≡ wire_fits out p → not r ≡ false → k ≡ length p + (60 - length p)
    → k + 4 ≡ wire_count out p
unfolding wire_count
all_counted out p r k e h ek = rw (said_yes (wire_fits out p) r e h, length_wire p, ← ek)

pub all_put : (out p : List ℕ) (r : Bool) (o₁ o₂ o₃ : List ℕ) (k : ℕ) → r ≡ wire_fits out p → not r ≡ false
    → o₁ ≡ store out 0 p → o₂ ≡ store o₁ (length p) (replicate (60 - length p) 0) → k ≡ length p + (60 - length p) → o₃ ≡ closed o₂ k
    → o₃ ≡ wire_put out p
unfolding wire_put
all_put out p r o₁ o₂ o₃ k e h e₁ e₂ ek e₃ =
    let y = said_yes (wire_fits out p) r e h in
    let f = fits_lengths out p y in
    let f₀ = f.0 in
    let f₁ = f.1 in
    let z = replicate {A = ℕ} (60 - length p) 0 in
    let a : o₂ ≡ store out 0 (padded p) = e₂ ∙ rw e₁ (store_append out 0 (length p) p z (omega arith)) ∙ ap (store out 0) (sym (padded_is p)) in
    rw (y, e₃, a) (close_front (padded p) out k (ek ∙ sym (length_padded p)) (omega arith) ∙ ap (store out 0) (sym (wire_is p)))
