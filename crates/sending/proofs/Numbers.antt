-- The ways out of the number of a single send, and its values. Assumes nothing.
use mathlib.Core.Path.{◌≡◌, refl, sym}
use mathlib.Core.Bool.{Bool, true, false, not}
use mathlib.Core.List.{List}
use Prim.Native.Nat.{ℕ, ◌≤◌, ◌<◌}
use native.Mathlib.Omega.{arith}
use borrow.Author.Tests.{le-leb, lt-ltb, le-ltb, ltb-false}
use lib.Dec.{leb, ltb}
use lib.ListN.{length, drop, length-take}
use Rattle.std.specs.Prelude.{if◌then◌else◌}
use Rattle.rules.specs.Choice.{◌otherwise◌}
use Rattle.rules.proofs.Choices.{by_test, and_yes, or_parts, said_yes, said_no, refused_by, passed_by}
use Rattle.window.specs.Window.{lent, offset}
use Rattle.descriptor.specs.Descriptor.{count, start}
use Rattle.wire.specs.Wire.{send_length_wrong, wire_fits}
use Rattle.chain.specs.Chain.{chain_number}
use Rattle.chain.proofs.Laws.{by_chain}
use Rattle.sending.specs.Sending.{send_number, payload_at}

module _ (base window : ℕ) (running : Bool) (place : ℕ) (m : List ℕ) (room : ℕ) where
  pub not_lent_11 : lent window m ≡ false → 11 ≡ send_number base window running place m room
  unfolding send_number
  not_lent_11 l = rw l

  module _ (l : lent window m ≡ true) where
    pub short_9 : room < 1518 → 9 ≡ send_number base window running place m room
    unfolding send_number
    short_9 o = rw (l, lt-ltb room 1518 o)

    module _ (o : 1518 ≤ room) where
      pub stopped_3 : not running ≡ true → 3 ≡ send_number base window running place m room
      unfolding send_number
      stopped_3 r = rw (l, le-ltb room 1518 o, r)

      module _ (r : not running ≡ false) (n : ℕ) (en : n ≡ count base m place) where
        pub chain_first : (k : ℕ) → k ≡ chain_number base window m place n → (k ≡ 0 → ⊥) → k ≡ send_number base window running place m room
        unfolding send_number
        chain_first k ek h = rw (l, le-ltb room 1518 o, r) (refused_by _ _ k (rw en at ek) h)

        module _ (z : 0 ≡ chain_number base window m place n) (w : Bool) (ew : w ≡ send_length_wrong n) where
          pub length_12 : w ≡ true → 12 ≡ send_number base window running place m room
          unfolding send_number
          length_12 h = rw (l, le-ltb room 1518 o, r) (passed_by _ _ 0 12 (rw en at z) refl (rw (sym (rw en at ew), h)))

          pub none_0 : w ≡ false → 0 ≡ send_number base window running place m room
          unfolding send_number
          none_0 h = rw (l, le-ltb room 1518 o, r) (passed_by _ _ 0 0 (rw en at z) refl (rw (sym (rw en at ew), h)))

pub ruleset ways = (not_lent_11, short_9, stopped_3, chain_first, length_12, none_0, said_yes, said_no)

-- a property of the number, by its values; past the last test the output is long enough and the count right
pub by_send_number : (P : ℕ → Type 0) (base window : ℕ) (running : Bool) (place : ℕ) (m : List ℕ) (room : ℕ)
    → P 11 → P 9 → P 3 → P 7 → P 8 → P 12
    → (ltb room 1518 ≡ false → send_length_wrong (count base m place) ≡ false → P 0)
    → P (send_number base window running place m room)
unfolding send_number
by_send_number P base window running place m room r11 r9 r3 r7 r8 r12 r0 =
    let n = count base m place in
    by_test P (not (lent window m)) _ _ (λ _. r11) (λ _.
    by_test P (ltb room 1518) _ _ (λ _. r9) (λ o.
    by_test P (not running) _ _ (λ _. r3) (λ _.
    by_chain (λ k. P (k otherwise if send_length_wrong n then 12 else 0)) base window m place n r7 r8
    (by_test P (send_length_wrong n) 12 0 (λ _. r12) (r0 o)))))

-- a count that is not row 12's has at most 1,514 bytes
pub payload_short : (base : ℕ) (m : List ℕ) (place : ℕ) → send_length_wrong (count base m place) ≡ false → length (payload_at base m place) ≤ 1514
unfolding send_length_wrong payload_at
payload_short base m place w =
    let k = count base m place in
    let h = ltb-false 1514 k (or_parts (ltb k 14) (ltb 1514 k) w).1 in
    rw (length-take k (drop (offset base (start base m place)) m)) (omega arith)

-- what is sent finds its room in the output
pub sent_fits : (base window : ℕ) (running : Bool) (place : ℕ) (m out : List ℕ)
    → 0 ≡ send_number base window running place m (length out) → wire_fits out (payload_at base m place) ≡ true
unfolding wire_fits
sent_fits base window running place m out e =
    by_send_number (λ k. k ≡ 0 → wire_fits out (payload_at base m place) ≡ true) base window running place m (length out)
    (λ q. absurd (omega arith))
    (λ q. absurd (omega arith))
    (λ q. absurd (omega arith))
    (λ q. absurd (omega arith))
    (λ q. absurd (omega arith))
    (λ q. absurd (omega arith))
    (λ o w _.
    let p = payload_at base m place in
    and_yes (leb (length p) 1514) (leb 1518 (length out)) (le-leb (length p) 1514 (payload_short base m place w))
    (le-leb 1518 (length out) (ltb-false (length out) 1518 o)))
    (sym e)
