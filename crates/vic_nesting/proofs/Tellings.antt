-- From reset on a pair has in service what was taken and not ended, and the lowest of it is the last taken. Assumes nothing.
use Prim.Native.Nat.{ℕ, ◌<◌}
use mathlib.Core.Path.{◌≡◌, refl, ap, ◌∙◌}
use mathlib.Core.Bool.{Bool, true, false}
use mathlib.Core.List.{List, [], ◌∷◌}
use native.Mathlib.Omega.{arith}
use lib.Dec.{eqb}
use borrow.Author.Tests.{ltb-true}
use Rattle.rules.proofs.Choices.{by_bool}
use Rattle.vic_registers.specs.Access.{register_at}
use Rattle.vic_write.specs.Write.{written}
use Rattle.vic_service.specs.Service.{taken, ended, last_taken}
use Rattle.vic_pair.specs.declared.Vics.{Vics}
use Rattle.vic_pair.specs.declared.Inputs.{Inputs}
use Rattle.vic_pair.specs.declared.Which.{Which}
use Rattle.vic_pair.specs.declared.Which.TheVariants.{Vic0, Vic1}
use Rattle.vic_answer.specs.Answer.{raised_rank, answered}
use Rattle.vic.specs.Access.{controller_of, with_controller, came_from, with_service, read_vector, write_vector, read, write}
use Rattle.vic_nesting.specs.Accesses.{Access, reads, writes, after}
use Rattle.vic_nesting.specs.Taken.{without_last, told, Progress, begin, next, run, last_of, Falling, marked, Tells, LastTaken}
use Rattle.vic_nesting.proofs.Marks.{mark_back, not_marked, marked_last}

-- ---- what each access leaves

module _ (v : Vics) (i : Inputs) (o : ℕ) where
  pub read_takes : eqb o 0x030 ≡ true → answered v i ≡ true → (read v i Vic0 o).vics ≡ with_service v (taken v.service (raised_rank v i))
  unfolding read read_vector
  read_takes e a = rw (e, a)

  pub read_takes_none : eqb o 0x030 ≡ true → answered v i ≡ false → (read v i Vic0 o).vics ≡ v
  unfolding read read_vector
  read_takes_none e a = rw (e, a)

  pub read_looks : (read v i Vic1 o).vics ≡ v
  unfolding read read_vector
  read_looks = by_bool (eqb o 0x030) (λ e. rw e) (λ e. rw e)

  pub read_another : (w : Which) → eqb o 0x030 ≡ false → (read v i w o).vics ≡ v
  unfolding read
  read_another w e = rw e

module _ (v : Vics) (w : Which) where
  pub write_ends : (o x : ℕ) → eqb o 0x030 ≡ true → (write v w o x).vics ≡ write_vector v w
  unfolding write
  write_ends o x e = rw e

  kept : (c : _) → (with_controller v w c).service ≡ v.service
  kept = by_which w
    where
      by_which : (w : Which) (c : _) → (with_controller v w c).service ≡ v.service
      by_which Vic0 c = refl
      by_which Vic1 c = refl

  pub write_another : (o x : ℕ) → eqb o 0x030 ≡ false → (write v w o x).vics.service ≡ v.service
  unfolding write
  write_another o x e = rw e (kept (written (controller_of v w) (register_at o) x))

  pub ends_last : (r : ℕ) → last_taken v.service ≡ r → came_from w r ≡ true → write_vector v w ≡ with_service v (ended v.service r)
  unfolding write_vector
  ends_last r e h = rw (e, h)

  pub ends_nothing : (r : ℕ) → last_taken v.service ≡ r → came_from w r ≡ false → write_vector v w ≡ v
  unfolding write_vector
  ends_nothing r e h = rw (e, h)

-- ---- each access keeps it

tells : (v : Vics) (l : List ℕ) → v.service ≡ marked l → Falling l → Tells (record { vics = v; ranks = l })
tells v l e f = record { service = e; falling = f; last = ap last_taken e ∙ marked_last l f }

no_rank : (w : Which) → came_from w 64 ≡ false
no_rank Vic0 = refl
no_rank Vic1 = refl

wrote : (v : Vics) (l : List ℕ) → v.service ≡ marked l → Falling l → (w : Which) → Tells (record { vics = write_vector v w; ranks = without_last w l })
wrote v [] e f w =
    tells (write_vector v w) [] (ap (λ (u : Vics). u.service) (ends_nothing v w 64 (ap last_taken e ∙ marked_last [] f) (no_rank w)) ∙ e) f
wrote v (r ∷ l) e f w =
    let last : last_taken v.service ≡ r = ap last_taken e ∙ marked_last (r ∷ l) f in
    by_bool (came_from w r)
    (λ c.
    rw c
    (tells (write_vector v w) l
    (ap (λ (u : Vics). u.service) (ends_last v w r last c)
    ∙ ap (λ (s : List Bool). ended s r) e
    ∙ mark_back (marked l) r (not_marked (marked l) r (let h = f.0 in let m = marked_last l f.1 in omega arith)))
    f.1))
    (λ c. rw c (tells (write_vector v w) (r ∷ l) (ap (λ (u : Vics). u.service) (ends_nothing v w r last c) ∙ e) f))

keeps : (v : Vics) (l : List ℕ) → v.service ≡ marked l → Falling l → (a : Access) → Tells (record { vics = after v a; ranks = told v l a })
keeps v l e f (reads i Vic0 o) =
    by_bool (eqb o 0x030)
    (λ u.
    by_bool (answered v i)
    (λ a.
    let h : raised_rank v i < last_taken v.service = ltb-true (raised_rank v i) (last_taken v.service) a in
    let m : last_taken v.service ≡ last_of l = ap last_taken e ∙ marked_last l f in
    rw (u, a)
    (tells (after v (reads i Vic0 o)) (raised_rank v i ∷ l)
    (ap (λ (x : Vics). x.service) (read_takes v i o u a) ∙ ap (λ (s : List Bool). taken s (raised_rank v i)) e)
    (omega arith, f)))
    (λ a. rw (u, a) (tells (after v (reads i Vic0 o)) l (ap (λ (x : Vics). x.service) (read_takes_none v i o u a) ∙ e) f)))
    (λ u. rw u (tells (after v (reads i Vic0 o)) l (ap (λ (x : Vics). x.service) (read_another v i o Vic0 u) ∙ e) f))
keeps v l e f (reads i Vic1 o) = tells (after v (reads i Vic1 o)) l (ap (λ (x : Vics). x.service) (read_looks v i o) ∙ e) f
keeps v l e f (writes w o x) =
    by_bool (eqb o 0x030)
    (λ u. rw (u, write_ends v w o x u) (wrote v l e f w))
    (λ u. rw u (tells (after v (writes w o x)) l (write_another v w o x u ∙ e) f))

all : (l : List Access) (p : Progress) → Tells p → Tells (run p l)
all [] p t = t
all (a ∷ l) p t = all l (next p a) (keeps p.vics p.ranks t.service t.falling a)

pub last_taken_lem : LastTaken
last_taken_lem l = all l begin (tells begin.vics [] refl tt)
