-- The invariant holds where a list starts. Assumes nothing.
use Prim.Native.Nat.{ℕ}
use mathlib.Core.Path.{refl, sym, ◌∙◌}
use native.Mathlib.Omega.{arith}
use native.Mathlib.Nat.{not-suc-le-zero}
use Rattle.packet_status.specs.PacketStatus.{packet_status, granted}
use Rattle.links.proofs.Follow.{follow_zero}
use Rattle.calls.specs.Calls.{Bench}
use Rattle.steps.specs.Steps.{begin}
use Rattle.steps.specs.Start.{Start}
use Rattle.steps.proofs.Places.{desc_at}
use Rattle.steps.proofs.Invariant.{InvP}

pub begin_holds : (b : Bench) (n first : ℕ) (st : Start b n first) → InvP b n first st.ring (begin b)
unfolding granted packet_status desc_at
begin_holds b n first st =
    record {
      fixed = record { base = refl; window = refl; filter = refl; receiving = st.receiving; polling = st.polling; sending = st.sending };
      place = st.place ∙ sym (follow_zero b.device.base b.memory first);
      held =
          record {
            long = refl;
            fixed = λ t k l u s. refl;
            ready = λ t l u. absurd (not-suc-le-zero u);
            spent = λ t l u. st.returned t (omega arith);
            order = omega arith;
            few = omega arith;
          };
      named = λ t l. absurd (not-suc-le-zero l);
    }
