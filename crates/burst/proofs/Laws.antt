-- The ways out of a burst over two lists, how many answers it leaves, and that the form over pairs gives the same. Assumes nothing.
use Prim.Native.Nat.{ℕ, suc, ◌≤◌, ◌<◌}
use mathlib.Core.Path.{◌≡◌, refl, sym, ap, ◌∙◌}
use mathlib.Core.Bool.{Bool, true, false, not, false≢true}
use mathlib.Core.List.{List, [], ◌∷◌, map}
use native.Mathlib.Omega.{arith}
use borrow.Author.Tests.{eq-eqb, ne_eqb, eqb-true, not-false}
use lib.Dec.{eqb, ltb}
use lib.ListN.{length, length-map}
use Rattle.rules.proofs.Choices.{by_bool}
use Rattle.enet.specs.declared.Enet.{Enet}
use Rattle.enet.specs.declared.Answered.{Answered}
use Rattle.pair.specs.declared.Pair.{Pair}
use Rattle.pair.specs.Turn.{bursting}
use Rattle.burst.specs.Burst.{refuses, refused, burst, pairs_of, uneven, burst_of}
use Rattle.burst.specs.Turns.{turns_of}
use Rattle.burst.proofs.Turns.{length_receives, turns_receive}

pub accepts : (n k : ℕ) → refuses n k ≡ false → k ≡ n
unfolding refuses
accepts n k e = by_bool (ltb 64 n) (λ f. absurd (false≢true (sym e ∙ rw f))) (λ f. eqb-true k n (not-false _ (rw f at e)))

-- ---- the ways out

length_pairs : (ss ns : List ℕ) → length ns ≡ length ss → length (pairs_of ss ns) ≡ length ss
unfolding pairs_of
length_pairs [] ns h = refl
length_pairs (s ∷ ss) [] h = absurd (omega arith)
length_pairs (s ∷ ss) (n ∷ ns) h = ap suc (length_pairs ss ns (omega arith))

module _ (d : Enet) (m store ss ns a : List ℕ) where
  pub burst_uneven : (length ns ≡ length ss → ⊥) → refused d m a ≡ burst_of d m store ss ns a
  unfolding burst_of uneven
  burst_uneven h = rw (ne_eqb (length ns) (length ss) h)

  pub burst_refused : (r : Bool) → length ns ≡ length ss → r ≡ refuses (length ss) (length a) → r ≡ true
      → refused d m a ≡ burst_of d m store ss ns a
  unfolding burst_of uneven burst
  burst_refused r h e t = rw (eq-eqb (length ns) (length ss) h, length_pairs ss ns h, ← e, t)

  pub burst_done : (r : Bool) (x : Answered) (m' a' : List ℕ) → length ns ≡ length ss → r ≡ refuses (length ss) (length a) → r ≡ false
      → bursting x m' a' ≡ turns_of (bursting (record { number = 0; device = d }) m a) store 0 (pairs_of ss ns)
      → bursting x m' a' ≡ burst_of d m store ss ns a
  unfolding burst_of uneven burst
  burst_done r x m' a' h e t q =
      let k = length_pairs ss ns h in
      let l = accepts (length ss) (length a) (sym e ∙ t) in
      rw (eq-eqb (length ns) (length ss) h, k, ← e, t) (q ∙ turns_receive d m store (pairs_of ss ns) a (omega arith))

  -- the answer list keeps its length, refused or not
  by_lists : (t u : Bool) → eqb (length ns) (length ss) ≡ t → refuses (length ss) (length a) ≡ u
      → length (burst_of d m store ss ns a).answers ≡ length a
  unfolding burst_of uneven burst
  by_lists false u e f = rw e
  by_lists true true e f = rw (e, length_pairs ss ns (eqb-true (length ns) (length ss) e), f)
  by_lists true false e f =
      let k = length_pairs ss ns (eqb-true (length ns) (length ss) e) in
      rw (e, k, f) (length_receives (pairs_of ss ns) d m store ∙ k ∙ sym (accepts (length ss) (length a) f))

  pub length_burst : length (burst_of d m store ss ns a).answers ≡ length a
  length_burst = by_lists (eqb (length ns) (length ss)) (refuses (length ss) (length a)) refl refl

-- ---- a pair list is its starts and its lengths, so that both forms of the call give the same

pairs_apart : (ps : List Pair) → pairs_of (map (λ p. p.start) ps) (map (λ p. p.length) ps) ≡ ps
unfolding pairs_of
pairs_apart [] = refl
pairs_apart (p ∷ ps) = ap (λ (qs : List Pair). p ∷ qs) (pairs_apart ps)

pub burst_apart : (d : Enet) (m store : List ℕ) (ps : List Pair) (a : List ℕ)
    → burst_of d m store (map (λ p. p.start) ps) (map (λ p. p.length) ps) a ≡ burst d m store ps a
unfolding burst_of uneven
burst_apart d m store ps a =
    rw (length-map ps (λ (p : Pair). p.length), length-map ps (λ (p : Pair). p.start), eq-eqb (length ps) (length ps) refl, pairs_apart ps)
