-- "The IRQ answer is the highest raised, enabled IRQ request above those in service, or none exactly if there is none." Assumes
-- nothing.
use Prim.Native.Nat.{ℕ, ◌+◌, ◌%◌, ◌≤◌, ◌<◌}
use mathlib.Core.Path.{◌≡◌, refl, sym, ap, subst, ◌∙◌}
use mathlib.Core.Bool.{Bool, true, false}
use mathlib.Core.List.{List}
use native.Mathlib.Omega.{arith}
use native.Mathlib.Nat.{mod-eq_of_lt}
use lib.Dec.{ltb}
use lib.ListN.{length, get_or, length-set}
use lib.Seq.{get_or-set_other}
use borrow.Author.Tests.{ltb-true, ltb-false, lt-ltb, le-ltb}
use Rattle.std.specs.Prelude.{Option, Some, None}
use Rattle.rules.proofs.Choices.{by_bool}
use Rattle.first_where.proofs.Laws.{first_within, first_holds, first_least}
use Rattle.vic_controller.specs.declared.Controller.{Controller}
use Rattle.vic_controller.specs.Controller.{irq_status}
use Rattle.vic_rank.specs.Rank.{slot_of, rank_in}
use Rattle.vic_service.specs.Service.{last_taken, taken}
use Rattle.vic_pair.specs.declared.Vics.{Vics}
use Rattle.vic_pair.specs.declared.Inputs.{Inputs}
use Rattle.vic_pair.specs.declared.Which.{Which}
use Rattle.vic_pair.specs.declared.Which.TheVariants.{Vic0, Vic1}
use Rattle.vic_answer.specs.declared.Request.{Request}
use Rattle.vic_answer.specs.Answer.{request, raised_in, raised_rank, vector_at, input_at, request_at, irq}
use Rattle.vic.specs.Access.{controller_of, with_service}
use Rattle.vic_claims.specs.Requests.{Sized, Requests, rank_of, vector_in, Above}
use Rattle.vic_claims.specs.Answers.{Highest, AnswerExactly, RanksApart, Masks}
use Rattle.vic_claims.proofs.Ranks.{lowest_found, lowest_least, rank_small, slot_names}

-- ---- a rank of a controller: its input and its vector

module _ (c : Controller) (n : ℕ) (l : length c.controls ≡ 16) where
  input_back : input_at c (rank_in c.controls n) ≡ n
  unfolding input_at rank_in
  input_back =
      by_bool (ltb (slot_of c.controls n) 16)
      (λ e. rw (e, e) (slot_names c.controls n l (ltb-true (slot_of c.controls n) 16 e)))
      (λ e. rw e (let h : 16 ≤ 16 + n = omega arith in rw (le-ltb (16 + n) 16 h) (omega arith)))

vector_back : (c : Controller) (n : ℕ) → vector_at c (rank_in c.controls n) ≡ vector_in c n
unfolding vector_at rank_in
vector_back c n =
    by_bool (ltb (slot_of c.controls n) 16) (λ e. rw (e, e)) (λ e. rw e (let h : 16 ≤ 16 + n = omega arith in rw (le-ltb (16 + n) 16 h)))

-- ---- the request of a rank

pub request_back : (v : Vics) → Sized v → (w : Which) (n : ℕ) → n < 16 → request_at v (rank_of v w n) ≡ request w n (vector_in (controller_of v w) n)
request_back v s Vic0 n h =
    let r = rank_in v.vic0.controls n in
    let k : r < 32 = rank_small v.vic0.controls n h in
    rw (lt-ltb r 32 k, mod-eq_of_lt k, input_back v.vic0 n (s.controls Vic0), vector_back v.vic0 n)
request_back v s Vic1 n h =
    let r = rank_in v.vic1.controls n in
    let k : r < 32 = rank_small v.vic1.controls n h in
    let g : 32 ≤ 32 + r = omega arith in
    let m : (32 + r) % 32 ≡ r = omega arith in
    rw (le-ltb (32 + r) 32 g, m, input_back v.vic1 n (s.controls Vic1), vector_back v.vic1 n)

-- ---- the lowest rank raised in the pair

pub record Lowest (v : Vics) (i : Inputs) (r : ℕ) : Type 0 where
  pub which : Which
  pub input : ℕ
  pub requests : Requests v i which input
  pub rank : r ≡ rank_of v which input

pub raised_found : (v : Vics) (i : Inputs) → raised_rank v i < 64 → Lowest v i (raised_rank v i)
unfolding raised_rank
raised_found v i h =
    let a = raised_in v.vic0 i.vic0 in
    by_bool (ltb a 32)
    (λ e.
    let f = lowest_found v.vic0.controls (irq_status v.vic0 i.vic0) 16 (ltb-true a 32 e) in
    rw e (record { which = Vic0; input = f.input; requests = record { input = f.within; raised = f.raised }; rank = f.rank }))
    (λ e.
    let b = raised_in v.vic1 i.vic1 in
    let g : 32 + b < 64 = rw e at h in
    let k : b < 32 = omega arith in
    let f = lowest_found v.vic1.controls (irq_status v.vic1 i.vic1) 16 k in
    rw e (record { which = Vic1; input = f.input; requests = record { input = f.within; raised = f.raised }; rank = ap (λ (x : ℕ). 32 + x) f.rank }))

pub raised_least : (v : Vics) (i : Inputs) (w : Which) (n : ℕ) → Requests v i w n → raised_rank v i ≤ rank_of v w n
unfolding raised_rank
raised_least v i Vic0 n q =
    let a = raised_in v.vic0 i.vic0 in
    let g = lowest_least v.vic0.controls (irq_status v.vic0 i.vic0) 16 n q.input q.raised in
    let k = rank_small v.vic0.controls n q.input in
    let h : a < 32 = omega arith in
    rw (lt-ltb a 32 h) g
raised_least v i Vic1 n q =
    let a = raised_in v.vic0 i.vic0 in
    let g = lowest_least v.vic1.controls (irq_status v.vic1 i.vic1) 16 n q.input q.raised in
    by_bool (ltb a 32) (λ e. let h = ltb-true a 32 e in rw e (omega arith)) (λ e. rw e (omega arith))

-- ---- above those in service

above_last : (v : Vics) → Sized v → (r : ℕ) → r < last_taken v.service → Above v r
above_last v s r h k e =
    by_bool (ltb k 64)
    (λ u.
    let l = s.service in
    let b : k < length v.service = omega (arith, ltb-true k 64 u) in
    let g = first_least (λ b. b) v.service false k e b in
    omega arith)
    (λ u.
    let l = s.service in
    let w = first_within (λ b. b) v.service in
    omega (arith, ltb-false k 64 u))

last_above : (v : Vics) → Sized v → (r : ℕ) → r < 64 → Above v r → r < last_taken v.service
last_above v s r h a =
    by_bool (ltb (last_taken v.service) 64)
    (λ u.
    let l = s.service in
    let b : last_taken v.service < length v.service = omega (arith, ltb-true (last_taken v.service) 64 u) in
    a (last_taken v.service) (first_holds (λ b. b) v.service false b))
    (λ u. omega (arith, ltb-false (last_taken v.service) 64 u))

rank_of_small : (v : Vics) (w : Which) (n : ℕ) → n < 16 → rank_of v w n < 64
rank_of_small v Vic0 n h = let k = rank_small v.vic0.controls n h in omega arith
rank_of_small v Vic1 n h = let k = rank_small v.vic1.controls n h in omega arith

-- ---- the answer

-- the parts of a request
abbrev which_in : Option Request → Which
which_in None = Vic0
which_in (Some r) = r.which

abbrev input_in : Option Request → ℕ
input_in None = 0
input_in (Some r) = r.input

abbrev pub vector_at_answer : Option Request → ℕ
vector_at_answer None = 0
vector_at_answer (Some r) = r.vector

-- where there is one
pub record Given (v : Vics) (i : Inputs) : Type 0 where
  pub which : Which
  pub input : ℕ
  pub is : irq v i ≡ request which input (vector_in (controller_of v which) input)
  pub highest : Highest v i which input (vector_in (controller_of v which) input)

pub answered_is : (v : Vics) (i : Inputs) → raised_rank v i < last_taken v.service → irq v i ≡ request_at v (raised_rank v i)
unfolding irq
answered_is v i h = rw (lt-ltb (raised_rank v i) (last_taken v.service) h)

given_by : (v : Vics) → Sized v → (i : Inputs) → raised_rank v i < last_taken v.service → Lowest v i (raised_rank v i) → Given v i
given_by v s i h f =
    let e = f.rank in
    record {
      which = f.which;
      input = f.input;
      is = answered_is v i h ∙ ap (request_at v) e ∙ request_back v s f.which f.input f.requests.input;
      highest = record {
        requests = f.requests;
        above = subst (λ (r : ℕ). Above v r) e (above_last v s (raised_rank v i) h);
        highest = λ w' n' q. let g = raised_least v i w' n' q in omega arith;
        vector_is = refl;
      };
    }

given : (v : Vics) → Sized v → (i : Inputs) → raised_rank v i < last_taken v.service → Given v i
given v s i h =
    let w = first_within (λ b. b) v.service in
    let l = s.service in
    let g : raised_rank v i < 64 = omega arith in
    given_by v s i h (raised_found v i g)

pub silent : (v : Vics) (i : Inputs) → last_taken v.service ≤ raised_rank v i → irq v i ≡ None
unfolding irq
silent v i h = rw (le-ltb (raised_rank v i) (last_taken v.service) h)

-- by whether there is one
by_answer : {C : Type 0} (v : Vics) → Sized v → (i : Inputs) → (Given v i → C) → (last_taken v.service ≤ raised_rank v i → C) → C
by_answer v s i f g =
    by_bool (ltb (raised_rank v i) (last_taken v.service))
    (λ e. f (given v s i (ltb-true (raised_rank v i) (last_taken v.service) e)))
    (λ e. g (ltb-false (raised_rank v i) (last_taken v.service) e))

same : (v : Vics) (i : Inputs) (w w' : Which) (n n' a a' : ℕ) → w' ≡ w → n' ≡ n → a' ≡ a → Highest v i w' n' a' → Highest v i w n a
same v i w w' n n' a a' e f g h = rw (e, f, g) at h

pub answer_exactly : AnswerExactly
answer_exactly =
    record {
      one = λ v s i w n a e.
          by_answer v s i
          (λ g.
          let d = sym g.is ∙ e in
          same v i w g.which n g.input a (vector_in (controller_of v g.which) g.input) (ap which_in d) (ap input_in d) (ap vector_at_answer d) g.highest)
          (λ h. let d = silent v i h in let z : ◌≡◌ {A = ℕ} 0 1 = cc in absurd (omega arith));
      none = λ v s i e w n q u.
          by_answer v s i
          (λ g. let d = g.is in let z : ◌≡◌ {A = ℕ} 0 1 = cc in absurd (omega arith))
          (λ h.
          let k = last_above v s (rank_of v w n) (rank_of_small v w n q.input) u in
          let m = raised_least v i w n q in
          omega arith);
      only = λ v s i f.
          by_answer v s i
          (λ g. absurd (f g.which g.input g.highest.requests g.highest.above))
          (λ h. silent v i h);
    }

-- one rank more in service
still_below : (s : List Bool) (r rank : ℕ) → r < last_taken s → r < rank → r < last_taken (taken s rank)
still_below s r rank h k =
    by_bool (ltb r (last_taken (taken s rank)))
    (λ e. ltb-true r (last_taken (taken s rank)) e)
    (λ e.
    let l = last_taken (taken s rank) in
    let g : l ≤ r = ltb-false r (last_taken (taken s rank)) e in
    let w = first_within (λ b. b) s in
    let size : length (taken s rank) ≡ length s = simp length-set in
    let b : l < length (taken s rank) = omega arith in
    let there : get_or (taken s rank) l false ≡ true = first_holds (λ b. b) (taken s rank) false b in
    let other : get_or (taken s rank) l false ≡ get_or s l false =
    get_or-set_other s rank l true false (λ (q : l ≡ rank). absurd (omega arith)) in
    let c : l < length s = omega arith in
    let m = first_least (λ b. b) s false l (sym other ∙ there) c in
    absurd (omega arith))

same_raised : (v : Vics) (s : List Bool) (i : Inputs) → raised_rank (with_service v s) i ≡ raised_rank v i
unfolding raised_rank
same_raised v s i = refl

-- the same answer, where both pairs answer at one rank
same_answer : (v : Vics) (s : List Bool) (i : Inputs) → raised_rank v i < last_taken v.service → raised_rank v i < last_taken s
    → irq (with_service v s) i ≡ irq v i
same_answer v s i h k =
    answered_is (with_service v s) i (rw (same_raised v s i) k) ∙ ap (request_at v) (same_raised v s i) ∙ sym (answered_is v i h)

pub masks : Masks
masks =
    record {
      own_and_below = λ v s i r k w n a e. (answer_exactly.one v s i w n a e).above r k;
      none_above = λ v s i r w n a e k.
          let h = answer_exactly.one v s i w n a e in
          let m = raised_least v i w n h.requests in
          let u : raised_rank v i < last_taken v.service =
          by_bool (ltb (raised_rank v i) (last_taken v.service))
          (λ t. ltb-true (raised_rank v i) (last_taken v.service) t)
          (λ t. let d = silent v i (ltb-false (raised_rank v i) (last_taken v.service) t) in let z : ◌≡◌ {A = ℕ} 0 1 = cc in absurd (omega arith)) in
          same_answer v (taken v.service r) i u (still_below v.service (raised_rank v i) r u (omega arith)) ∙ e;
    }

-- ---- no two requests have one rank

input_of_rank : (c : Controller) (n n' : ℕ) → length c.controls ≡ 16 → rank_in c.controls n ≡ rank_in c.controls n' → n ≡ n'
input_of_rank c n n' l e = sym (input_back c n l) ∙ ap (input_at c) e ∙ input_back c n' l

pub ranks_apart : RanksApart
ranks_apart v s Vic0 Vic0 n n' h k e = (refl, input_of_rank v.vic0 n n' (s.controls Vic0) e)
ranks_apart v s Vic0 Vic1 n n' h k e = let g = rank_small v.vic0.controls n h in absurd (omega arith)
ranks_apart v s Vic1 Vic0 n n' h k e = let g = rank_small v.vic0.controls n' k in absurd (omega arith)
ranks_apart v s Vic1 Vic1 n n' h k e =
    let g : rank_in v.vic1.controls n ≡ rank_in v.vic1.controls n' = omega arith in
    (refl, input_of_rank v.vic1 n n' (s.controls Vic1) g)
