-- Regions that are apart, as a fact. Assumes nothing.
use mathlib.Core.Path.{◌≡◌}
use mathlib.Core.Bool.{true}
use mathlib.Core.Logic.{inl, inr, ⊎_map}
use Prim.Native.Nat.{ℕ, ◌+◌}
use lib.Dec.{leb}
use borrow.Author.Tests.{le-leb, leb-true}
use Rattle.rules.proofs.Choices.{by_bool, either}
use Rattle.memory.proofs.Stores.{Apart}
use Rattle.address.specs.Address.{apart}

module _ (a n b k : ℕ) where
  -- the test, and the fact
  pub apart_is : apart a n b k ≡ true → Apart a n b k
  unfolding apart
  apart_is e = ⊎_map (leb-true (a + n) b) (leb-true (b + k) a) (either (leb (a + n) b) (leb (b + k) a) e)

  pub apart_yes : Apart a n b k → apart a n b k ≡ true
  unfolding apart
  apart_yes (inl h) = rw (le-leb (a + n) b h)
  apart_yes (inr h) = by_bool (leb (a + n) b) (λ e. rw e) (λ e. rw (e, le-leb (b + k) a h))
