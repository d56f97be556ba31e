-- The turns of a burst are its single receives, with their answers put into the lent list. Assumes nothing.
use Prim.Native.Nat.{ℕ, suc, ◌+◌, ◌≤◌, ◌<◌}
use mathlib.Core.Path.{◌≡◌, refl, sym, ap, ◌∙◌}
use mathlib.Core.Logic.{◌⊎◌, inl, inr}
use mathlib.Core.List.{List, [], ◌∷◌, append-nil}
use native.Mathlib.Numerals.{add-one}
use native.Mathlib.Omega.{arith}
use lib.ListN.{length, set, drop_of_length-le}
use lib.Seq.{sets, sets-eq}
use Rattle.enet.specs.declared.Enet.{Enet}
use Rattle.pair.specs.declared.Pair.{Pair}
use Rattle.pair.specs.Pair.{pair, received}
use Rattle.pair.specs.Turn.{Bursting, turn}
use Rattle.burst.specs.Burst.{receives, pairs_of}
use Rattle.burst.specs.Turns.{turns_of}

-- one turn more
pub turns_step : (b : Bursting) (store : List ℕ) (i : ℕ) (p : Pair) (ps : List Pair) (b' : Bursting) → b' ≡ turn b store i p
    → turns_of b' store (suc i) ps ≡ turns_of b store i (p ∷ ps)
unfolding turns_of
turns_step b store i p ps b' e = rw e

-- ---- the turns

-- what the pairs give, with their answers put into a list from place i on, under the number n
abbrev placed : ℕ → Bursting → List ℕ → ℕ → Bursting
placed n r a i = record { number = n; device = r.device; memory = r.memory; answers = sets a i r.answers }

turns_are : (ps : List Pair) (n : ℕ) (d : Enet) (m store a : List ℕ) (i : ℕ)
    → turns_of (record { number = n; device = d; memory = m; answers = a }) store i ps ≡ placed n (receives d m store ps) a i
unfolding turns_of turn receives
turns_are [] n d m store a i = refl
turns_are (p ∷ ps) n d m store a i =
    let o = received d m store p in turns_are ps n o.device o.memory store (set a i o.number) (suc i)

-- ---- as many answers as pairs

pub length_receives : (ps : List Pair) (d : Enet) (m store : List ℕ) → length (receives d m store ps).answers ≡ length ps
unfolding receives
length_receives [] d m store = refl
length_receives (p ∷ ps) d m store = let o = received d m store p in ap suc (length_receives ps o.device o.memory store)

pub number_receives : (ps : List Pair) (d : Enet) (m store : List ℕ) → (receives d m store ps).number ≡ 0
unfolding receives
number_receives [] d m store = refl
number_receives (p ∷ ps) d m store = refl

-- all of them, into a list of as many answers
pub turns_receive : (d : Enet) (m store : List ℕ) (ps : List Pair) (a : List ℕ) → length a ≡ length ps
    → turns_of (record { number = 0; device = d; memory = m; answers = a }) store 0 ps ≡ receives d m store ps
turns_receive d m store ps a h =
    let r = receives d m store ps in
    let l = length_receives ps d m store in
    let xs = r.answers in
    let put : sets a 0 xs ≡ xs = rw (sets-eq xs a 0 (omega arith), drop_of_length-le a {i = 0 + length xs} (omega arith), append-nil xs) in
    turns_are ps 0 d m store a 0
    ∙ (λ j. record { number = sym (number_receives ps d m store) j; device = r.device; memory = r.memory; answers = put j })

-- ---- over two lists, of which rest and rests are left

pub lists_turn : (b b' : Bursting) (store rest rests rest' rests' : List ℕ) (i j start n : ℕ) → rest ≡ start ∷ rest' → rests ≡ n ∷ rests'
    → j ≡ i + 1 → b' ≡ turn b store i (pair start n)
    → turns_of b' store j (pairs_of rest' rests') ≡ turns_of b store i (pairs_of rest rests)
unfolding pairs_of
lists_turn b b' store rest rests rest' rests' i j start n e f g h =
    rw (e, f, g, add-one i) (turns_step b store i (pair start n) (pairs_of rest' rests') b' h)

pub lists_end : (b : Bursting) (store rest rests : List ℕ) (i : ℕ) → (rest ≡ []) ⊎ (rests ≡ []) → turns_of b store i (pairs_of rest rests) ≡ b
unfolding turns_of pairs_of
lists_end b store rest rests i (inl h) = rw h
lists_end b store [] rests i (inr h) = refl
lists_end b store (x ∷ rest) rests i (inr h) = rw h
