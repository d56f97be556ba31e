-- What holds of a burst's two ways out, beside the pairs that it takes, holds of the burst. Assumes nothing.
use Prim.Native.Nat.{ℕ, ◌≤◌}
use mathlib.Core.Path.{◌≡◌}
use mathlib.Core.List.{List, []}
use lib.ListN.{length}
use borrow.Author.Tests.{ltb-false, eqb-true}
use lib.Dec.{eqb, ltb}
use Rattle.rules.proofs.Choices.{by_bool}
use Rattle.enet.specs.declared.Enet.{Enet}
use Rattle.pair.specs.declared.Pair.{Pair}
use Rattle.pair.specs.Turn.{Bursting}
use Rattle.burst.specs.Burst.{receives, refuses, refused, burst, pairs_of, uneven, burst_of}
use Rattle.burst.specs.Taken.{taken}

module _ (P : Bursting → List Pair → Type 0) (d : Enet) (m store ss ns a : List ℕ) where
  pub by_burst : P (refused d m a) []
      → (length (pairs_of ss ns) ≤ 64 → length a ≡ length (pairs_of ss ns) → P (receives d m store (pairs_of ss ns)) (pairs_of ss ns))
      → P (burst_of d m store ss ns a) (taken ss ns a)
  unfolding burst_of burst refuses taken
  by_burst r t =
      by_bool (uneven ss ns)
      (λ e. rw e r)
      (λ e.
      by_bool (ltb 64 (length (pairs_of ss ns)))
      (λ f. rw (e, f) r)
      (λ f.
      by_bool (eqb (length a) (length (pairs_of ss ns)))
      (λ g. rw (e, f, g) (t (ltb-false 64 (length (pairs_of ss ns)) f) (eqb-true (length a) (length (pairs_of ss ns)) g)))
      (λ g. rw (e, f, g) r)))
