-- Any nesting of takes and ends gives back what was in service. Assumes nothing.
use Prim.Native.Nat.{ℕ, ◌<◌}
use mathlib.Core.Path.{◌≡◌, refl, sym, ap, ◌∙◌}
use mathlib.Core.Bool.{Bool, true}
use mathlib.Core.List.{List, [], ◌∷◌, ◌++◌}
use borrow.Author.Tests.{ltb-true, eq-eqb}
use Rattle.rules.proofs.Choices.{by_bool}
use Rattle.vic_service.specs.Service.{taken, ended, last_taken}
use Rattle.vic_pair.specs.declared.Vics.{Vics}
use Rattle.vic_pair.specs.declared.Inputs.{Inputs}
use Rattle.vic_pair.specs.declared.Which.{Which}
use Rattle.vic_pair.specs.declared.Which.TheVariants.{Vic0, Vic1}
use Rattle.vic_answer.specs.Answer.{raised_rank, answered}
use Rattle.vic.specs.Access.{came_from, with_service}
use Rattle.vic_nesting.specs.Accesses.{Access, reads, writes, after, after_all}
use Rattle.vic_nesting.specs.Nested.{take, end, Nested, none, other, served, AtVector, OnlyVectors, GivesBack}
use Rattle.vic_nesting.proofs.Marks.{mark_back, mark_first, not_marked}
use Rattle.vic_nesting.proofs.Tellings.{read_takes, read_takes_none, read_looks, write_ends, ends_last, ends_nothing}

-- ---- one list behind another

after_append : (v : Vics) (k l : List Access) → after_all v (k ++ l) ≡ after_all (after_all v k) l
after_append v [] l = refl
after_append v (a ∷ k) l = after_append (after v a) k l

-- ---- one taken and ended

module _ (v : Vics) (i : Inputs) (a : answered v i ≡ true) where
  below : raised_rank v i < last_taken v.service
  below = ltb-true (raised_rank v i) (last_taken v.service) a

  takes : after v (take i) ≡ with_service v (taken v.service (raised_rank v i))
  takes = read_takes v i 0x030 refl a

  -- ended from any pair that has in service what the take left
  ends : (u : Vics) (w : Which) (x : ℕ) → u.service ≡ taken v.service (raised_rank v i) → came_from w (raised_rank v i) ≡ true
      → after u (end w x) ≡ with_service u v.service
  ends u w x e c =
      write_ends u w 0x030 x refl
      ∙ ends_last u w (raised_rank v i) (ap last_taken e ∙ mark_first v.service (raised_rank v i) below) c
      ∙ ap (with_service u)
      (ap (λ (s : List Bool). ended s (raised_rank v i)) e ∙ mark_back v.service (raised_rank v i) (not_marked v.service (raised_rank v i) below))

-- ---- any nesting

gives_back : {v : Vics} {l : List Access} → Nested v l → (after_all v l).service ≡ v.service
gives_back (none v) = refl
gives_back (other v a k e n) = gives_back n ∙ e
gives_back (served v i w x inner k a c n m) =
    ap (λ (u : Vics). u.service) (after_append (after v (take i)) inner (end w x ∷ k))
    ∙ gives_back m
    ∙ ap (λ (u : Vics). u.service)
    (ends v i a (after_all (after v (take i)) inner) w x
    (gives_back n ∙ ap (λ (u : Vics). u.service) (takes v i a))
    c)

-- ---- registers

take_leaves : (v : Vics) (i : Inputs) → ((after v (take i)).vic0 ≡ v.vic0) × ((after v (take i)).vic1 ≡ v.vic1)
take_leaves v i =
    by_bool (answered v i)
    (λ a. (ap (λ (u : Vics). u.vic0) (takes v i a), ap (λ (u : Vics). u.vic1) (takes v i a)))
    (λ a. let e = read_takes_none v i 0x030 refl a in (ap (λ (u : Vics). u.vic0) e, ap (λ (u : Vics). u.vic1) e))

end_leaves : (v : Vics) (w : Which) (x : ℕ) → ((after v (end w x)).vic0 ≡ v.vic0) × ((after v (end w x)).vic1 ≡ v.vic1)
end_leaves v w x =
    by_bool (came_from w (last_taken v.service))
    (λ c.
    let e = write_ends v w 0x030 x refl ∙ ends_last v w (last_taken v.service) refl c in
    (ap (λ (u : Vics). u.vic0) e, ap (λ (u : Vics). u.vic1) e))
    (λ c.
    let e = write_ends v w 0x030 x refl ∙ ends_nothing v w (last_taken v.service) refl c in
    (ap (λ (u : Vics). u.vic0) e, ap (λ (u : Vics). u.vic1) e))

-- ---- the whole state

-- an access of a current vector address leaves the pair but for what is in service
vector_leaves : (v : Vics) (a : Access) → AtVector a → after v a ≡ with_service v (after v a).service
vector_leaves v (reads i Vic0 o) e =
    let u = eq-eqb o 0x030 e in
    by_bool (answered v i)
    (λ a. read_takes v i o u a ∙ sym (ap (λ (x : Vics). with_service v x.service) (read_takes v i o u a)))
    (λ a. read_takes_none v i o u a ∙ sym (ap (λ (x : Vics). with_service v x.service) (read_takes_none v i o u a)))
vector_leaves v (reads i Vic1 o) e = read_looks v i o ∙ sym (ap (λ (x : Vics). with_service v x.service) (read_looks v i o))
vector_leaves v (writes w o x) e =
    let u = write_ends v w o x (eq-eqb o 0x030 e) in
    by_bool (came_from w (last_taken v.service))
    (λ c.
    let t = u ∙ ends_last v w (last_taken v.service) refl c in
    t ∙ sym (ap (λ (y : Vics). with_service v y.service) t))
    (λ c.
    let t = u ∙ ends_nothing v w (last_taken v.service) refl c in
    t ∙ sym (ap (λ (y : Vics). with_service v y.service) t))

-- the parts of a list of such accesses
only_first : (k l : List Access) → OnlyVectors (k ++ l) → OnlyVectors k
only_first [] l h = tt
only_first (a ∷ k) l h = (h.0, only_first k l h.1)

only_rest : (k l : List Access) → OnlyVectors (k ++ l) → OnlyVectors l
only_rest [] l h = h
only_rest (a ∷ k) l h = only_rest k l h.1

gives_all_back : {v : Vics} {l : List Access} → Nested v l → OnlyVectors l → after_all v l ≡ v
gives_all_back (none v) h = refl
gives_all_back (other v a k e n) h =
    gives_all_back n h.1 ∙ vector_leaves v a h.0 ∙ ap (with_service v) e
gives_all_back (served v i w x inner k a c n m) h =
    let t = takes v i a in
    let u = gives_all_back n (only_first inner (end w x ∷ k) h.1) in
    let o = only_rest inner (end w x ∷ k) h.1 in
    after_append (after v (take i)) inner (end w x ∷ k)
    ∙ gives_all_back m o.1
    ∙ ends v i a (after_all (after v (take i)) inner) w x (ap (λ (y : Vics). y.service) (u ∙ t)) c
    ∙ ap (λ (y : Vics). with_service y v.service) (u ∙ t)

pub nesting_gives_back : GivesBack
nesting_gives_back =
    record {
      nested = λ v l n. gives_back n;
      whole = λ v l n h. gives_all_back n h;
      at_once = λ v i w x a c.
          let t = takes v i a in
          ends v i a (after v (take i)) w x (ap (λ (u : Vics). u.service) t) c ∙ ap (λ (u : Vics). with_service u v.service) t;
      take_keeps = take_leaves;
      end_keeps = end_leaves;
    }
