-- What a refused access leaves: "value 0, nothing changed". Assumes nothing.
use Prim.Native.Nat.{ℕ}
use mathlib.Core.Path.{◌≡◌, refl, sym, ap, ◌∙◌}
use mathlib.Core.Bool.{true, false}
use mathlib.Core.Logic.{◌⊎◌, inl, inr}
use native.Mathlib.Omega.{arith}
use lib.Dec.{eqb}
use Rattle.std.specs.Prelude.{Option, Some, None}
use Rattle.rules.proofs.Choices.{by_bool}
use Rattle.vic_registers.specs.declared.Register.{Register}
use Rattle.vic_registers.specs.Access.{register_at, access_number, value_of}
use Rattle.vic_write.specs.Write.{written}
use Rattle.vic_pair.specs.declared.Vics.{Vics}
use Rattle.vic_pair.specs.declared.Inputs.{Inputs}
use Rattle.vic_pair.specs.declared.Which.{Which}
use Rattle.vic_pair.specs.declared.Which.TheVariants.{Vic0, Vic1}
use Rattle.vic_answer.specs.Answer.{answered}
use Rattle.vic.specs.Access.{ReadOutcome, WriteOutcome, controller_of, with_controller, levels_of, read_vector, write_vector, read, write}
use Rattle.vic_claims.specs.Refused.{RefusedLeaves}

-- ---- by the register

two_numbers : (a : Option Register) → (access_number a ≡ 0) ⊎ (access_number a ≡ 2)
two_numbers (Some a) = inl refl
two_numbers None = inr refl

-- only what is not modelled is refused
unmodelled : (a : Option Register) → access_number a ≡ 2 → a ≡ None
unmodelled (Some a) e = absurd (omega arith)
unmodelled None e = refl

-- ---- the current vector address is not refused

vector_read : (v : Vics) (i : Inputs) (w : Which) → (read_vector v i w).number ≡ 0
unfolding read_vector
vector_read v i Vic0 = by_bool (answered v i) (λ e. rw e) (λ e. rw e)
vector_read v i Vic1 = refl

-- ---- an access, at that offset and at any other

module _ (v : Vics) (w : Which) (o : ℕ) where
  module _ (i : Inputs) where
    read_vector_lem : eqb o 0x030 ≡ true → read v i w o ≡ read_vector v i w
    unfolding read
    read_vector_lem e = rw e

    read_other : eqb o 0x030 ≡ false
        → read v i w o ≡ record { number = access_number (register_at o); value = value_of (controller_of v w) (levels_of i w) (register_at o); vics = v }
    unfolding read
    read_other e = rw e

    read_two : ((read v i w o).number ≡ 0) ⊎ ((read v i w o).number ≡ 2)
    read_two =
        by_bool (eqb o 0x030)
        (λ e. inl (ap (λ (f : ReadOutcome). f.number) (read_vector_lem e) ∙ vector_read v i w))
        (λ e. rw (read_other e) (two_numbers (register_at o)))

    -- refused: at another offset, where nothing is modelled
    read_refused : {C : Type 0} → (read v i w o).number ≡ 2 → (eqb o 0x030 ≡ false → register_at o ≡ None → C) → C
    read_refused h f =
        by_bool (eqb o 0x030)
        (λ e. let z = ap (λ (r : ReadOutcome). r.number) (read_vector_lem e) ∙ vector_read v i w in absurd (omega arith))
        (λ e. f e (unmodelled (register_at o) (sym (ap (λ (r : ReadOutcome). r.number) (read_other e)) ∙ h)))

  module _ (x : ℕ) where
    write_vector_lem : eqb o 0x030 ≡ true → write v w o x ≡ record { number = 0; vics = write_vector v w }
    unfolding write
    write_vector_lem e = rw e

    write_other : eqb o 0x030 ≡ false
        → write v w o x ≡ record { number = access_number (register_at o); vics = with_controller v w (written (controller_of v w) (register_at o) x) }
    unfolding write
    write_other e = rw e

    write_two : ((write v w o x).number ≡ 0) ⊎ ((write v w o x).number ≡ 2)
    write_two =
        by_bool (eqb o 0x030) (λ e. inl (ap (λ (f : WriteOutcome). f.number) (write_vector_lem e))) (λ e. rw (write_other e) (two_numbers (register_at o)))

    write_refused : {C : Type 0} → (write v w o x).number ≡ 2 → (eqb o 0x030 ≡ false → register_at o ≡ None → C) → C
    write_refused h f =
        by_bool (eqb o 0x030)
        (λ e. let z = ap (λ (r : WriteOutcome). r.number) (write_vector_lem e) in absurd (omega arith))
        (λ e. f e (unmodelled (register_at o) (sym (ap (λ (r : WriteOutcome). r.number) (write_other e)) ∙ h)))

same_controller : (v : Vics) (w : Which) → with_controller v w (controller_of v w) ≡ v
same_controller v Vic0 = refl
same_controller v Vic1 = refl

pub refused_leaves : RefusedLeaves
refused_leaves =
    record {
      read_number = λ v i w o. read_two v w o i;
      write_number = λ v w o x. write_two v w o x;
      read_value = λ v i w o h.
          read_refused v w o i h
          (λ e u. ap (λ (r : ReadOutcome). r.value) (read_other v w o i e) ∙ ap (value_of (controller_of v w) (levels_of i w)) u);
      read_leaves = λ v i w o h. read_refused v w o i h (λ e u. ap (λ (r : ReadOutcome). r.vics) (read_other v w o i e));
      write_leaves = λ v w o x h.
          write_refused v w o x h
          (λ e u.
          ap (λ (r : WriteOutcome). r.vics) (write_other v w o x e)
          ∙ ap (λ (a : Option Register). with_controller v w (written (controller_of v w) a x)) u
          ∙ same_controller v w);
    }
