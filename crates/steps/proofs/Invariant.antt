-- The invariant of a list of steps, and what keeps it. Assumes nothing.
use Prim.Native.Nat.{ℕ, ◌<◌}
use mathlib.Core.Path.{◌≡◌, ◌∙◌}
use mathlib.Core.Bool.{Bool, true, false}
use mathlib.Core.List.{List}
use lib.ListN.{length, get_or}
use Rattle.filter.specs.declared.Filter.{Filter}
use Rattle.enet.specs.declared.Enet.{Enet}
use Rattle.receiving.specs.Receiving.{delivered}
use Rattle.calls.specs.Calls.{Bench}
use Rattle.steps.specs.Steps.{Progress}
use Rattle.steps.specs.Start.{in_order}
use Rattle.steps.proofs.Held.{Held, SameRing, held_same}
use Rattle.steps.proofs.Places.{RingSound}

-- the part of the device that no list changes: window and filter registers are those of the start b, receiving runs, with polling
-- enabled for its place, and sending does not run
pub record Fixed (b : Bench) (base₁ window₁ : ℕ) (filter₁ : Filter) (rx polling₁ tx : Bool) : Type 0 where
  pub base : base₁ ≡ b.device.base
  pub window : window₁ ≡ b.device.window
  pub filter : filter₁ ≡ b.device.registers.filter
  pub receiving : rx ≡ true
  pub polling : polling₁ ≡ true
  pub sending : tx ≡ false

-- a list that starts from b
module _ (b : Bench) (n first : ℕ) (sound : RingSound b n first) where
  -- what it has done, part by part
  pub record Inv (d : Enet) (m gs : List ℕ) (v : ℕ) : Type 0 where
    pub fixed : Fixed b d.base d.window d.registers.filter d.registers.rx.running d.registers.rx.polling d.registers.tx.running
    pub place : d.registers.rx.place ≡ in_order b first v
    pub held : Held b n first sound m v (length gs)
    pub named : (t : ℕ) → t < length gs → get_or gs t 0 ≡ in_order b first t

  abbrev pub InvP : Progress → Type 0
  InvP p = Inv p.bench.device p.bench.memory p.grants p.delivered

-- a device that is the same in all that a list relies on
pub record SameDevice (d e : Enet) : Type 0 where
  pub base : e.base ≡ d.base
  pub window : e.window ≡ d.window
  pub filter : e.registers.filter ≡ d.registers.filter
  pub receiving : e.registers.rx.running ≡ d.registers.rx.running
  pub place : e.registers.rx.place ≡ d.registers.rx.place
  pub polling : e.registers.rx.polling ≡ d.registers.rx.polling
  pub sending : e.registers.tx.running ≡ d.registers.tx.running

-- a step that changes no byte of the ring's descriptors and keeps what is fixed keeps the invariant
pub keeps : {b : Bench} {n first : ℕ} {sound : RingSound b n first} {d e : Enet} {m m' gs : List ℕ} {v : ℕ}
    → SameDevice d e → SameRing b n first sound m m' → Inv b n first sound d m gs v → Inv b n first sound e m' gs v
keeps {b} {n} {first} {sound} {d} {e} {m} {m'} {gs} {v} s r i =
    record {
      fixed = record {
        base = s.base ∙ i.fixed.base;
        window = s.window ∙ i.fixed.window;
        filter = s.filter ∙ i.fixed.filter;
        receiving = s.receiving ∙ i.fixed.receiving;
        polling = s.polling ∙ i.fixed.polling;
        sending = s.sending ∙ i.fixed.sending;
      };
      place = s.place ∙ i.place;
      held = held_same b n first sound m m' v (length gs) r i.held;
      named = i.named;
    }
