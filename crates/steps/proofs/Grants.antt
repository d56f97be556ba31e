-- A grant is of the next place, and there is room for it. Assumes nothing.
use Prim.Native.Nat.{ℕ, ◌+◌, ◌≤◌, ◌<◌}
use mathlib.Core.Path.{◌≡◌, sym, ◌∙◌}
use mathlib.Core.Logic.{⊎_elim}
use mathlib.Core.Bool.{false, true≢false}
use mathlib.Core.List.{List, [], ◌∷◌, ◌++◌}
use native.Mathlib.Omega.{arith}
use native.Mathlib.Nat.{eq-or-lt_of_le}
use native.Mathlib.Numerals.{add-one}
use native.Mathlib.Decide.{dec_lt}
use lib.ListN.{length, get_or, length-append, get_or-append}
use lib.Seq.{get_or-append_seam}
use Rattle.memory.specs.Memory.{store_word}
use Rattle.window.specs.Window.{offset}
use Rattle.packet_status.specs.PacketStatus.{granted, granted_status}
use Rattle.enet.specs.declared.Enet.{Enet}
use Rattle.links.proofs.Sound.{round}
use Rattle.calls.specs.Calls.{Bench}
use Rattle.steps.specs.Start.{in_order}
use Rattle.steps.proofs.Places.{RingSound, desc_at}
use Rattle.steps.proofs.Held.{held_grant}
use Rattle.steps.proofs.Invariant.{Inv}
use Rattle.steps.proofs.Now.{some_now, granted_now}

module _ {b : Bench} {n first : ℕ} {sound : RingSound b n first} {d : Enet} {m gs : List ℕ} {v : ℕ} (i : Inv b n first sound d m gs v) where
  grant_room : granted d.base m (in_order b first (length gs)) ≡ false → length gs < v + n
  grant_room g = ⊎_elim (λ e. absurd (full e)) (λ l. l) (eq-or-lt_of_le i.held.few)
    where
      full : length gs ≡ v + n → ⊥
      full e =
          let s = some_now i in
          let r = round b.device.base b.device.window b.memory n first sound v in
          let f : granted d.base m (in_order b first v) ≡ false = rw (e, r) at g in
          true≢false (sym (i.held.ready v (omega arith) (omega arith)) ∙ sym (granted_now i v) ∙ f)

  pub grant_made : (a : ℕ) → a ≡ in_order b first (length gs) → granted d.base m a ≡ false
      → Inv b n first sound d (store_word m (offset d.base a + 12) granted_status) (gs ++ (a ∷ [])) v
  unfolding desc_at
  grant_made a e g =
      record {
        fixed = i.fixed;
        place = i.place;
        held = rw (at, length-append gs (a ∷ []), add-one) (held_grant b n first sound m v (length gs) i.held (grant_room (rw e at g)));
        named = λ t l. name t (dec_lt t (length gs)) (omega (arith, length-append gs (a ∷ []), l));
      }
    where
      at : offset d.base a ≡ desc_at b first (length gs)
      at = λ j. offset (i.fixed.base j) (e j)

      name : (t : ℕ) → Dec (t < length gs) → t ≤ length gs → get_or (gs ++ (a ∷ [])) t 0 ≡ in_order b first t
      name t (yes h) l = get_or-append gs (a ∷ []) 0 t h ∙ i.named t h
      name t (no h) l = let x : t ≡ length gs = omega arith in rw (x, get_or-append_seam gs a [] 0) e
