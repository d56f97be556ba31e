-- The bytes that a word names, as they are decoded into a room of 2,048. Assumes nothing.
use Prim.Native.Nat.{ℕ, ◌+◌, ◌≤◌, ◌<◌}
use mathlib.Core.Path.{◌≡◌, refl, sym, ap, ◌∙◌}
use mathlib.Core.List.{List}
use native.Mathlib.Omega.{arith}
use borrow.Author.Tests.{leb-true, leb-false}
use lib.Dec.{leb}
use lib.ListN.{length, take, drop, length-take, take-append-drop}
use lib.Seq.{take_all}
use Rattle.rules.proofs.Choices.{by_bool}
use Rattle.memory.specs.Memory.{store}
use Rattle.memory.proofs.Laws.{store_out}
use Rattle.memory.proofs.Stores.{length_store, part_back, store_append}
use Rattle.forms.specs.Pairs.{Decoded, bytes_of, named, decoded, decode}

-- a store over all of a list
store_over : (m u : List ℕ) → length u ≡ length m → store m 0 u ≡ u
store_over m u e =
    let b : take (length u) (store m 0 u) ≡ u = part_back m 0 u (omega arith) in
    sym (take_all (length u) (store m 0 u) (omega (arith, length_store m 0 u))) ∙ b

-- what a store at the front leaves there: the list, or as much of it as has room
store_front : (m s : List ℕ) → take (length s) (store m 0 s) ≡ take (length m) s
store_front m s =
    by_bool (leb (length s) (length m))
    (λ e.
    let l : length s ≤ length m = leb-true (length s) (length m) e in
    part_back m 0 s (omega arith) ∙ sym (take_all (length m) s l))
    (λ e.
    let l : length m < length s = leb-false (length s) (length m) e in
    let u = take (length m) s in
    let v = drop (length m) s in
    let lu : length u ≡ length m = simp length-take (omega arith) in
    let a : store (store m 0 u) (0 + length u) v ≡ store m 0 s = rw (take-append-drop (length m) s) at (store_append m 0 (0 + length u) u v refl) in
    let f : length (store m 0 u) ≤ 0 + length u = omega (arith, length_store m 0 u) in
    let o : store m 0 u ≡ store (store m 0 u) (0 + length u) v = store_out (store m 0 u) (0 + length u) v f in
    take_all (length s) (store m 0 s) (omega (arith, length_store m 0 s)) ∙ sym (o ∙ a) ∙ store_over m u lu)

pub named_is : (word out out' : List ℕ) (n : ℕ) → 2048 ≡ length out → decoded n out' ≡ decode word out → take n out' ≡ named word
unfolding decode
named_is word out out' n l e =
    let p : n ≡ length (bytes_of word) = ap (λ (x : Decoded). x.count) e in
    let q : out' ≡ store out 0 (bytes_of word) = ap (λ (x : Decoded). x.out) e in
    rw (p, q, l) (store_front out (bytes_of word))

pub named_short : (word out out' s : List ℕ) (n : ℕ) → 2048 ≡ length out → decoded n out' ≡ decode word out → s ≡ take n out' → length s ≤ 2048
named_short word out out' s n l e p = rw (p ∙ named_is word out out' n l e) (simp length-take (omega arith))
