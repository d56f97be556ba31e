-- A chain stays the same chain while the first three words of its descriptors stay: sends, grants and deliveries write the fourth. Assumes nothing.
use Prim.Native.Nat.{ℕ, zero, suc, ◌+◌, ◌≤◌, ◌<◌}
use mathlib.Core.Path.{◌≡◌, sym, ap, ◌∙◌}
use mathlib.Core.List.{List}
use native.Mathlib.Omega.{arith}
use Rattle.memory.specs.Memory.{word}
use Rattle.window.specs.Window.{offset}
use Rattle.address.specs.Address.{place_of}
use Rattle.descriptor.specs.Descriptor.{count, next_enabled, start, next, next_word}
use Rattle.links.specs.Links.{follow, Chain, Ends, Closed}
use Rattle.links.proofs.Follow.{follow_zero, follow_next}

-- the control, start and next words of n descriptors
pub record SameWords (base : ℕ) (m m' : List ℕ) (n first : ℕ) : Type 0 where
  pub control : (k : ℕ) → k < n → word m' (offset base (follow base m k first)) ≡ word m (offset base (follow base m k first))
  pub start : (k : ℕ) → k < n → word m' (offset base (follow base m k first) + 4) ≡ word m (offset base (follow base m k first) + 4)
  pub next : (k : ℕ) → k < n → word m' (offset base (follow base m k first) + 8) ≡ word m (offset base (follow base m k first) + 8)

module _ {base : ℕ} {m m' : List ℕ} {n first : ℕ} (s : SameWords base m m' n first) where
  pub follow_same : (k : ℕ) → k ≤ n → follow base m' k first ≡ follow base m k first
  unfolding next next_word
  follow_same zero l = follow_zero base m' first ∙ sym (follow_zero base m first)
  follow_same (suc k) l =
      follow_next base m' k first
      ∙ ap (next base m') (follow_same k (omega arith))
      ∙ ap place_of (s.next k l)
      ∙ sym (follow_next base m k first)

  enabled_same : (k : ℕ) → k < n → next_enabled base m' (follow base m' k first) ≡ next_enabled base m (follow base m k first)
  unfolding next_enabled
  enabled_same k l = rw (follow_same k (omega arith), s.control k l)

  start_same : (k : ℕ) → k < n → start base m' (follow base m k first) ≡ start base m (follow base m k first)
  unfolding start
  start_same k l = s.start k l

  count_same : (k : ℕ) → k < n → count base m' (follow base m k first) ≡ count base m (follow base m k first)
  unfolding count
  count_same k l = rw (s.control k l)

  pub chain_same : Chain base m n first → Chain base m' n first
  chain_same c = record {
    some = c.some;
    linked = λ k l. enabled_same k (omega arith) ∙ c.linked k l;
    clear = λ i j l u ne.
        let x = c.clear i j l u ne in
        rw (follow_same i (omega arith), follow_same j (omega arith)) (record {
          descriptor = x.descriptor;
          buffer = rw (start_same j u, count_same j u) x.buffer;
        });
  }

  pub ends_same : Ends base m n first → Ends base m' n first
  ends_same e = record { chain = chain_same e.chain; last = λ k l. enabled_same k (omega arith) ∙ e.last k l }

  pub closed_same : Closed base m n first → Closed base m' n first
  closed_same c = record {
    chain = chain_same c.chain;
    last = λ k l. enabled_same k (omega arith) ∙ c.last k l;
    again = follow_same n (omega arith) ∙ c.again;
  }
