-- What calls add to the counters of frames. Assumes nothing.
use Prim.Native.Nat.{ℕ, ◌+◌}
use mathlib.Core.Path.{◌≡◌, sym, ap, ◌∙◌}
use Rattle.counters.specs.declared.Counters.{Counters}
use Rattle.counting.proofs.More.{more, more_both}

-- so many delivered, lost and sent
pub record Adds (delivered lost sent : ℕ) (c e : Counters) : Type 0 where
  pub delivered' : e.delivered ≡ more delivered c.delivered
  pub lost' : e.lost ≡ more lost c.lost
  pub sent' : e.sent ≡ more sent c.sent

-- the frames' counters as they were
pub adds_none : (c e : Counters) → e.delivered ≡ c.delivered → e.lost ≡ c.lost → e.sent ≡ c.sent → Adds 0 0 0 c e
unfolding more
adds_none c e d l s = record { delivered' = d; lost' = l; sent' = s }

-- what comes behind adds to it
pub adds_both : {a b s a₂ b₂ s₂ : ℕ} {c e f : Counters} → Adds a b s c e → Adds a₂ b₂ s₂ e f → Adds (a + a₂) (b + b₂) (s + s₂) c f
adds_both {a} {b} {s} {a₂} {b₂} {s₂} {c} {e} {f} p q = record {
  delivered' = q.delivered' ∙ ap (more a₂) p.delivered' ∙ sym (more_both a a₂ c.delivered);
  lost' = q.lost' ∙ ap (more b₂) p.lost' ∙ sym (more_both b b₂ c.lost);
  sent' = q.sent' ∙ ap (more s₂) p.sent' ∙ sym (more_both s s₂ c.sent);
}
