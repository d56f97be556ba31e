-- No access changes how long a pair's lists are. Assumes nothing.
use Prim.Native.Nat.{ℕ, ◌^◌, ◌<◌}
use mathlib.Core.Path.{◌≡◌, refl, ◌∙◌}
use mathlib.Core.Bool.{Bool, false}
use mathlib.Core.List.{List, [], ◌∷◌}
use native.Mathlib.Omega.{arith}
use lib.Dec.{eqb}
use Rattle.std.specs.Prelude.{Option, Some, None}
use lib.ListN.{length, length-set}
use Rattle.rules.proofs.Choices.{by_bool}
use Rattle.vic_controller.specs.declared.Controller.{Controller}
use Rattle.vic_registers.specs.declared.Register.{Register}
use Rattle.vic_registers.specs.declared.Register.TheVariants.{
  IrqStatus,
  FiqStatus,
  RawStatus,
  Selection,
  Enable,
  EnableClear,
  Software,
  SoftwareClear,
  Protection,
  DefaultVector,
  Address,
  Control,
}
use Rattle.vic_registers.specs.Access.{register_at}
use Rattle.vic_write.specs.Write.{written}
use Rattle.vic_service.specs.Service.{taken, ended, last_taken}
use Rattle.vic_pair.specs.declared.Vics.{Vics}
use Rattle.vic_pair.specs.declared.Which.{Which}
use Rattle.vic_pair.specs.declared.Which.TheVariants.{Vic0, Vic1}
use Rattle.vic_pair.specs.Vics.{reset}
use Rattle.vic_answer.specs.Answer.{raised_rank, answered}
use Rattle.vic.specs.Access.{controller_of, with_controller, came_from, with_service, write}
use Rattle.vic_claims.specs.Requests.{Sized}
use Rattle.vic_nesting.specs.Accesses.{Access, reads, writes, after, after_all}
use Rattle.vic_nesting.specs.Sizes.{AlwaysSized}
use Rattle.vic_nesting.proofs.Tellings.{read_takes, read_takes_none, read_looks, read_another, write_ends, ends_last, ends_nothing}

-- ---- one controller

written_sized : (c : Controller) (a : Option Register) (x : ℕ) → length (written c a x).controls ≡ length c.controls
written_sized c (Some IrqStatus) x = refl
written_sized c (Some FiqStatus) x = refl
written_sized c (Some RawStatus) x = refl
written_sized c (Some Selection) x = refl
written_sized c (Some Enable) x = refl
written_sized c (Some EnableClear) x = refl
written_sized c (Some Software) x = refl
written_sized c (Some SoftwareClear) x = refl
written_sized c (Some Protection) x = refl
written_sized c (Some DefaultVector) x = refl
written_sized c (Some (Address s)) x = refl
written_sized c (Some (Control s)) x = simp length-set
written_sized c None x = refl

written_selection : (c : Controller) (a : Option Register) (x : ℕ) → c.selection < 2 ^ 16 → (written c a x).selection < 2 ^ 16
written_selection c (Some IrqStatus) x h = h
written_selection c (Some FiqStatus) x h = h
written_selection c (Some RawStatus) x h = h
written_selection c (Some Selection) x h = omega arith
written_selection c (Some Enable) x h = h
written_selection c (Some EnableClear) x h = h
written_selection c (Some Software) x h = h
written_selection c (Some SoftwareClear) x h = h
written_selection c (Some Protection) x h = h
written_selection c (Some DefaultVector) x h = h
written_selection c (Some (Address s)) x h = h
written_selection c (Some (Control s)) x h = h
written_selection c None x h = h

-- ---- the pair

with_service_lem : (v : Vics) (s : List Bool) → length s ≡ length v.service → Sized v → Sized (with_service v s)
with_service_lem v s e z = record { controls = λ w. by_which w; service = e ∙ z.service; selection = λ w. narrow w }
  where
    by_which : (w : Which) → length (controller_of (with_service v s) w).controls ≡ 16
    by_which Vic0 = z.controls Vic0
    by_which Vic1 = z.controls Vic1

    narrow : (w : Which) → (controller_of (with_service v s) w).selection < 2 ^ 16
    narrow Vic0 = z.selection Vic0
    narrow Vic1 = z.selection Vic1

with_controller_lem : (v : Vics) (w : Which) (c : Controller) → length c.controls ≡ 16 → c.selection < 2 ^ 16 → Sized v → Sized (with_controller v w c)
with_controller_lem v Vic0 c e h z = record { controls = λ w. by_which w; service = z.service; selection = λ w. narrow w }
  where
    by_which : (w : Which) → length (controller_of (with_controller v Vic0 c) w).controls ≡ 16
    by_which Vic0 = e
    by_which Vic1 = z.controls Vic1

    narrow : (w : Which) → (controller_of (with_controller v Vic0 c) w).selection < 2 ^ 16
    narrow Vic0 = h
    narrow Vic1 = z.selection Vic1
with_controller_lem v Vic1 c e h z = record { controls = λ w. by_which w; service = z.service; selection = λ w. narrow w }
  where
    by_which : (w : Which) → length (controller_of (with_controller v Vic1 c) w).controls ≡ 16
    by_which Vic0 = z.controls Vic0
    by_which Vic1 = e

    narrow : (w : Which) → (controller_of (with_controller v Vic1 c) w).selection < 2 ^ 16
    narrow Vic0 = z.selection Vic0
    narrow Vic1 = h

write_other : (v : Vics) (w : Which) (o x : ℕ) → eqb o 0x030 ≡ false
    → (write v w o x).vics ≡ with_controller v w (written (controller_of v w) (register_at o) x)
unfolding write
write_other v w o x e = rw e

keeps : (v : Vics) → Sized v → (a : Access) → Sized (after v a)
keeps v z (reads i Vic0 o) =
    by_bool (eqb o 0x030)
    (λ u.
    by_bool (answered v i)
    (λ a. rw (read_takes v i o u a) (with_service_lem v (taken v.service (raised_rank v i)) (simp length-set) z))
    (λ a. rw (read_takes_none v i o u a) z))
    (λ u. rw (read_another v i o Vic0 u) z)
keeps v z (reads i Vic1 o) = rw (read_looks v i o) z
keeps v z (writes w o x) =
    by_bool (eqb o 0x030)
    (λ u.
    rw (write_ends v w o x u)
    (by_bool (came_from w (last_taken v.service))
    (λ c. rw (ends_last v w (last_taken v.service) refl c) (with_service_lem v (ended v.service (last_taken v.service)) (simp length-set) z))
    (λ c. rw (ends_nothing v w (last_taken v.service) refl c) z)))
    (λ u.
    rw (write_other v w o x u)
    (with_controller_lem v w (written (controller_of v w) (register_at o) x)
    (written_sized (controller_of v w) (register_at o) x ∙ z.controls w)
    (written_selection (controller_of v w) (register_at o) x (z.selection w))
    z))

at_reset : Sized reset
at_reset = record { controls = λ w. by_which w; service = refl; selection = λ w. narrow w }
  where
    by_which : (w : Which) → length (controller_of reset w).controls ≡ 16
    by_which Vic0 = refl
    by_which Vic1 = refl

    narrow : (w : Which) → (controller_of reset w).selection < 2 ^ 16
    narrow Vic0 = omega arith
    narrow Vic1 = omega arith

all : (l : List Access) (v : Vics) → Sized v → Sized (after_all v l)
all [] v z = z
all (a ∷ l) v z = all l (after v a) (keeps v z a)

pub always_sized : AlwaysSized
always_sized l = all l reset at_reset
