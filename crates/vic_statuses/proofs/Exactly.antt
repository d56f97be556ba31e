-- The status words input by input, and FIQ. Assumes nothing.
use Prim.Native.Nat.{ℕ, ◌-◌, ◌^◌, ◌<◌}
use mathlib.Core.Path.{◌≡◌, sym, ap, ◌∙◌}
use mathlib.Core.Bool.{Bool, true, false, not, ◌&&◌, true≢false}
use mathlib.Core.Logic.{⊎_elim}
use native.Mathlib.Omega.{arith}
use lib.Dec.{eqb}
use lib.Bits.{and_le_r}
use borrow.Author.Tests.{ne_eqb}
use Rattle.rules.specs.Bit.{bit}
use Rattle.rules.proofs.Choices.{by_bool, either}
use Rattle.vic_controller.specs.declared.Controller.{Controller}
use Rattle.vic_controller.specs.Controller.{raw_status, enabled_status, irq_status, fiq_status}
use Rattle.vic_pair.specs.declared.Vics.{Vics}
use Rattle.vic_pair.specs.declared.Inputs.{Inputs}
use Rattle.vic_pair.specs.declared.Which.{Which}
use Rattle.vic_pair.specs.declared.Which.TheVariants.{Vic0, Vic1}
use Rattle.vic_pair.specs.Vics.{fiq}
use Rattle.vic.specs.Access.{controller_of, levels_of}
use Rattle.vic_statuses.specs.Statuses.{raised_enabled, StatusExactly, Selected, SomeSelected, FiqExactly}
use Rattle.vic_statuses.proofs.Bits.{bit_and_lem, bit_or_lem, bit_left, Some, some_bit, no_bit}

-- ---- a status word

enabled_bit : (c : Controller) (i n : ℕ) → bit n (enabled_status c i) ≡ raised_enabled c i n
enabled_bit c i n = bit_and_lem n (raw_status c i) c.enable ∙ ap (λ (b : Bool). b && bit n c.enable) (bit_or_lem n i c.software)

irq_bit : (c : Controller) → c.selection < 2 ^ 16 → (i n : ℕ) → n < 16 → bit n (irq_status c i) ≡ (raised_enabled c i n && not (bit n c.selection))
irq_bit c h i n k =
    bit_and_lem n (enabled_status c i) (2 ^ 16 - 1 - c.selection)
    ∙ ap (λ (b : Bool). b && bit n (2 ^ 16 - 1 - c.selection)) (enabled_bit c i n)
    ∙ ap (λ (b : Bool). raised_enabled c i n && b) (bit_left n 16 c.selection k h)

fiq_bit : (c : Controller) (i n : ℕ) → bit n (fiq_status c i) ≡ (raised_enabled c i n && bit n c.selection)
fiq_bit c i n =
    bit_and_lem n (enabled_status c i) c.selection ∙ ap (λ (b : Bool). b && bit n c.selection) (enabled_bit c i n)

pub status_exactly : StatusExactly
status_exactly = record { of_irq = irq_bit; of_fiq = fiq_bit }

-- ---- FIQ

-- a request's bit makes its word not 0
word_set : (c : Controller) (i n : ℕ) → (raised_enabled c i n && bit n c.selection) ≡ true → eqb (fiq_status c i) 0 ≡ false
word_set c i n e =
    ne_eqb (fiq_status c i) 0 (λ (z : fiq_status c i ≡ 0). true≢false (sym e ∙ sym (fiq_bit c i n) ∙ ap (bit n) z ∙ no_bit n))

-- and a word that is not 0 has one
word_some : (c : Controller) → c.selection < 2 ^ 16 → (i : ℕ) → not (eqb (fiq_status c i) 0) ≡ true → Some 16 (fiq_status c i)
word_some c h i e =
    let l = and_le_r (enabled_status c i) c.selection in
    some_bit 16 (fiq_status c i) (omega arith) (λ (z : fiq_status c i ≡ 0). true≢false (sym e ∙ ap (λ (x : ℕ). not (eqb x 0)) z))

selected : (v : Vics) → ((w : Which) → (controller_of v w).selection < 2 ^ 16) → (i : Inputs) (w : Which)
    → not (eqb (fiq_status (controller_of v w) (levels_of i w)) 0) ≡ true → SomeSelected v i
selected v h i w e =
    let s = word_some (controller_of v w) (h w) (levels_of i w) e in
    record {
      which = w;
      input = s.place;
      selected = record { input = s.within; raised = sym (fiq_bit (controller_of v w) (levels_of i w) s.place) ∙ s.set };
    }

fiq_high_lem : (v : Vics) (i : Inputs) (w : Which) (n : ℕ) → Selected v i w n → fiq v i ≡ true
unfolding fiq
fiq_high_lem v i Vic0 n s = rw (word_set v.vic0 i.vic0 n s.raised)
fiq_high_lem v i Vic1 n s =
    by_bool (not (eqb (fiq_status v.vic0 i.vic0) 0))
    (λ e. rw e)
    (λ e. rw (e, word_set v.vic1 i.vic1 n s.raised))

fiq_only : (v : Vics) → ((w : Which) → (controller_of v w).selection < 2 ^ 16) → (i : Inputs) → fiq v i ≡ true → SomeSelected v i
unfolding fiq
fiq_only v h i e =
    ⊎_elim
    (selected v h i Vic0)
    (selected v h i Vic1)
    (either (not (eqb (fiq_status v.vic0 i.vic0) 0)) (not (eqb (fiq_status v.vic1 i.vic1) 0)) e)

pub fiq_exactly : FiqExactly
fiq_exactly = record { high = fiq_high_lem; only = fiq_only }
