-- A string that is cut short ends with a byte that no event can have exactly if the whole one does and the byte is among those
-- kept. So a trace's events can be tested block by block, or in one walk. Assumes nothing.
use Prim.Native.Nat.{ℕ, zero, suc, ◌+◌, ◌-◌, ◌≤◌, ◌<◌}
use mathlib.Core.Path.{◌≡◌, refl, sym, ap, subst, ◌∙◌}
use mathlib.Core.Bool.{Bool, true, false, not, ◌&&◌}
use mathlib.Core.List.{List, []}
use mathlib.Core.Logic.{◌⊎◌, inl, inr, ⊎_elim}
use native.Mathlib.Omega.{arith}
use lib.Dec.{eqb, ltb}
use lib.ListN.{length, get_or, take, drop, length-take, length-drop}
use lib.Seq.{get_or-take}
use borrow.Author.Tests.{eq-eqb, ne_eqb, eqb-true, eqb-false, lt-ltb, le-ltb, ltb-true, ltb-false}
use Rattle.memory.specs.Memory.{word}
use Rattle.memory.proofs.Parts.{drop_take}
use Rattle.event.specs.Front.{front}
use Rattle.event.specs.Sizes.{size_of, begins, within, size_by}
use Rattle.event.specs.Walk.{walks, walk, counted, ending_by}
use Rattle.event.specs.declared.Walked.{Walked}
use Rattle.event.specs.declared.Ending.{Ending}
use Rattle.event.specs.declared.Ending.TheVariants.{Whole, Cut, NoEvent}
use Rattle.rules.proofs.Choices.{by_bool}
use Rattle.event.proofs.Fronts.{size_is, size_fits, begins_yes}
use Rattle.event.proofs.Laws.{turn, stop}

-- ---- the size of an event, by how many bytes it wants

-- a first byte that no event has, or one that wants so many bytes: the same number whatever the four bytes behind it are, or
-- five and more
by_want : {C : Type 0} (first : ℕ) → (((four left : ℕ) → size_by first four left ≡ 0) → C)
    → ((k : ℕ → ℕ) → ((four left : ℕ) → size_by first four left ≡ within left (k four)) → ((four : ℕ) → 0 < k four)
    → ((a b : ℕ) → (k a ≡ k b) ⊎ ((5 ≤ k a) × (5 ≤ k b))) → begins first ≡ true → C)
    → C
unfolding size_by
by_want first none some =
    by_bool (eqb first 1)
    (λ t.
    some (λ four. 9) (λ four left. by_bool (eqb left 0) (λ u. let e = eqb-true left 0 u in rw (t, e)) (λ u. rw (t, u))) (λ four. omega arith)
    (λ a b. inl refl) (known 1 t (omega arith) (omega arith)))
    (λ t.
    by_bool (eqb first 2)
    (λ v.
    some (λ four. 5) (λ four left. by_bool (eqb left 0) (λ u. let e = eqb-true left 0 u in rw (t, v, e)) (λ u. rw (t, v, u)))
    (λ four. omega arith) (λ a b. inl refl) (known 2 v (omega arith) (omega arith)))
    (λ v.
    by_bool (eqb first 3)
    (λ w.
    some (λ four. 5 + four)
    (λ four left.
    by_bool (eqb left 0) (λ u. let e = eqb-true left 0 u in rw (t, v, w, e) (sym (rw (lt-ltb 0 (5 + four) (omega arith)))))
    (λ u.
    by_bool (ltb left 5)
    (λ x.
    let l = ltb-true left 5 x in
    rw (t, v, w, u, x) (sym (rw (lt-ltb left (5 + four) (omega arith)))))
    (λ x. rw (t, v, w, u, x))))
    (λ four. omega arith) (λ a b. inr (omega arith, omega arith)) (known 3 w (omega arith) (omega arith)))
    (λ w.
    by_bool (eqb first 4)
    (λ y.
    some (λ four. 1)
    (λ four left.
    by_bool (eqb left 0) (λ u. let e = eqb-true left 0 u in rw (t, v, w, y, e))
    (λ u.
    let p = eqb-false left 0 u in
    rw (t, v, w, y, u) (sym (rw (le-ltb left 1 (omega arith))))))
    (λ four. omega arith) (λ a b. inl refl) (known 4 y (omega arith) (omega arith)))
    (λ y. none (λ four left. by_bool (eqb left 0) (λ u. rw u) (λ u. rw (t, v, w, y, u)))))))
  where
    known : (k : ℕ) → eqb first k ≡ true → 0 < k → k ≤ 4 → begins first ≡ true
    known k t a b = let e = eqb-true first k t in begins_yes first (omega arith) (omega arith)

within_some : (left n m : ℕ) → m ≡ within left n → (m ≡ 0 → ⊥) → m ≡ n
within_some left n m e h = by_bool (ltb left n) (λ t. absurd (h (rw t at e))) (λ t. rw t at e)

within_none : (left n m : ℕ) → m ≡ within left n → m ≡ 0 → 0 < n → left < n
within_none left n m e z p =
    by_bool (ltb left n) (λ t. ltb-true left n t)
    (λ t.
    let q : m ≡ n = rw t at e in
    absurd (omega arith))

module _ (first a b left less : ℕ) (fewer : less ≤ left) (alike : 5 ≤ less → a ≡ b) where
  -- a whole event of which all bytes are kept
  pub size_kept : (n : ℕ) → n ≡ size_by first a left → (n ≡ 0 → ⊥) → n ≤ less → size_by first b less ≡ n
  size_kept n e h l =
      by_want first (λ z. absurd (h (e ∙ z a left)))
      (λ k is pos same b₀.
      let q : n ≡ k a = within_some left (k a) n (e ∙ is a left) h in
      let r : k b ≡ k a = ⊎_elim (λ (s : k a ≡ k b). sym s) (λ (s : (5 ≤ k a) × (5 ≤ k b)). let u = s.0 in ap k (sym (alike (omega arith)))) (same a b) in
      is b less ∙ rw (le-ltb less (k b) (omega arith)) (r ∙ sym q))

  -- one of which bytes are missing
  pub size_lost : (n : ℕ) → n ≡ size_by first a left → (n ≡ 0) ⊎ (less < n) → size_by first b less ≡ 0
  size_lost n e h =
      by_want first (λ z. z b less)
      (λ k is pos same b₀.
      let more : less < k a = ⊎_elim (λ (z : n ≡ 0). let w = within_none left (k a) n (e ∙ is a left) z (pos a) in omega arith) (λ (z : less < n). let w = within_some left (k a) n (e ∙ is a left) (λ q. omega arith) in omega arith) h in
      let there : less < k b = ⊎_elim (λ (s : k a ≡ k b). omega arith) (λ (s : (5 ≤ k a) × (5 ≤ k b)). let u = s.1 in by_five (ltb less 5) k u more refl) (same a b) in
      is b less ∙ rw (lt-ltb less (k b) there))
    where
      by_five : (t : Bool) (k : ℕ → ℕ) → 5 ≤ k b → less < k a → ltb less 5 ≡ t → less < k b
      by_five true k u m e =
          let l = ltb-true less 5 e in
          omega arith
      by_five false k u m e = subst (λ x. less < k x) (alike (ltb-false less 5 e)) m

-- ---- the size of what stands at the front of a string that is cut short

module _ (s : List ℕ) (m : ℕ) (some : 0 < m) (n : ℕ) (e : n ≡ size_of (front s)) where
  short : length (take m s) ≤ length s
  short = rw (length-take m s) (omega arith)

  first_kept : get_or (take m s) 0 0 ≡ get_or s 0 0
  first_kept = get_or-take m s 0 0 some

  four_kept : 5 ≤ length (take m s) → word s 1 ≡ word (take m s) 1
  unfolding word
  four_kept h =
      let l : 5 ≤ m = omega (arith, rw (length-take m s) at h) in
      rw (get_or-take m s 1 0 (omega arith), get_or-take m s 2 0 (omega arith), get_or-take m s 3 0 (omega arith), get_or-take m s 4 0 (omega arith))

  pub kept : (n ≡ 0 → ⊥) → n ≤ m → size_of (front (take m s)) ≡ n
  kept h l =
      let fits = size_fits s in
      let f : n ≤ length (take m s) = rw (length-take m s) (omega arith) in
      sym (size_is (take m s)) ∙ rw first_kept (size_kept (get_or s 0 0) (word s 1) (word (take m s) 1) (length s) (length (take m s)) short four_kept n (e ∙ sym (size_is s)) h f)

  pub lost : (n ≡ 0) ⊎ (m < n) → size_of (front (take m s)) ≡ 0
  lost h =
      let f : length (take m s) ≤ m = rw (length-take m s) (omega arith) in
      let g : (n ≡ 0) ⊎ (length (take m s) < n) = ⊎_elim (λ z. inl z) (λ (z : m < n). inr (omega arith)) h in
      sym (size_is (take m s)) ∙ rw first_kept (size_lost (get_or s 0 0) (word s 1) (word (take m s) 1) (length s) (length (take m s)) short four_kept n (e ∙ sym (size_is s)) g)

-- ---- the walk along a string that is cut short

-- an ending that is a byte no event can have
abbrev pub stray : Ending → Bool
stray Whole = false
stray Cut = false
stray NoEvent = true

-- of no bytes nothing is stray
none_stray : (g : ℕ) (s : List ℕ) → length s ≡ 0 → stray (counted (walks g s)).ending ≡ false
unfolding ending_by
none_stray g s e =
    let z : size_of (front s) ≡ 0 = let f = size_fits s in omega arith in
    ap (λ (w : Walked). stray w.ending) (stop g s (omega arith) z) ∙ rw (eq-eqb (length s) 0 e)

-- a whole event has a first byte that events can have
size_begins : (s : List ℕ) → (size_of (front s) ≡ 0 → ⊥) → begins (get_or s 0 0) ≡ true
size_begins s h = by_want (get_or s 0 0) (λ z. absurd (h (sym (size_is s) ∙ z (word s 1) (length s)))) (λ k is pos same b. b)

-- what stands at the front is no whole event: it is stray by its first byte
stray_part : (g : ℕ) (s : List ℕ) → length s ≤ g → 0 < length s → size_of (front s) ≡ 0 → stray (counted (walks g s)).ending ≡ not (begins (get_or s 0 0))
unfolding ending_by
stray_part g s l p z =
    ap (λ (w : Walked). stray w.ending) (stop g s l z)
    ∙ rw (ne_eqb (length s) 0 (λ q. omega arith)) (by_bool (begins (get_or s 0 0)) (λ t. rw t) (λ t. rw t))

and_no : (t : Bool) → false ≡ (t && false)
and_no true = refl
and_no false = refl

and_yes : (t : Bool) → t ≡ (t && true)
and_yes true = refl
and_yes false = refl

-- a walk's ending and place behind an event of n bytes
module _ (f n : ℕ) (s : List ℕ) (e : n ≡ size_of (front s)) (h : n ≡ 0 → ⊥) where
  ending_behind : (counted (walks (suc f) s)).ending ≡ (counted (walks f (drop n s))).ending
  ending_behind = ap (λ (w : Walked). w.ending) (turn s f 0 0 n e h)

  place_behind : (counted (walks (suc f) s)).place ≡ n + (counted (walks f (drop n s))).place
  place_behind = let p = ap (λ (w : Walked). w.place) (turn s f 0 0 n e h) in omega arith

abbrev Prefix : ℕ → ℕ → List ℕ → ℕ → Type 0
Prefix f g s m = stray (counted (walks g (take m s))).ending ≡ (stray (counted (walks f s)).ending && ltb (counted (walks f s)).place m)

empty : (f g : ℕ) (s : List ℕ) (m : ℕ) → length s ≡ 0 → Prefix f g s m
empty f g s m e =
    let z : length (take m s) ≡ 0 = length-take m s ∙ omega arith in
    none_stray g (take m s) z ∙ rw (none_stray f s e)

module _ (f g : ℕ) (s : List ℕ) (m : ℕ) (l : length s ≤ suc f) (k : length (take m s) ≤ suc g) (p : 0 < length s) (q : 0 < m) where
  some_left : 0 < length (take m s)
  some_left = rw (length-take m s) (omega arith)

  -- no whole event at the front
  no_event_lem : size_of (front s) ≡ 0 → Prefix (suc f) (suc g) s m
  no_event_lem z =
      let at : (counted (walks (suc f) s)).place ≡ 0 = ap (λ (w : Walked). w.place) (stop (suc f) s l z) in
      stray_part (suc g) (take m s) k some_left (lost s m q 0 (sym z) (inl refl))
      ∙ rw (first_kept s m q 0 (sym z), stray_part (suc f) s l p z, at, lt-ltb 0 m q) (and_yes (not (begins (get_or s 0 0))))

  module _ (n : ℕ) (e : n ≡ size_of (front s)) (h : n ≡ 0 → ⊥) where
    -- one of which bytes are missing
    event_lost : m < n → Prefix (suc f) (suc g) s m
    event_lost d =
        let b = size_begins s (λ z. h (e ∙ z)) in
        let far : m ≤ (counted (walks (suc f) s)).place = let w = place_behind f n s e h in omega arith in
        stray_part (suc g) (take m s) k some_left (lost s m q n e (inr d))
        ∙ rw (first_kept s m q n e, b, le-ltb (counted (walks (suc f) s)).place m far) (and_no (stray (counted (walks (suc f) s)).ending))

    -- one that is kept: the rest decides
    event_kept : n ≤ m → Prefix f g (drop n s) (m - n) → Prefix (suc f) (suc g) s m
    event_kept d i =
        let w = kept s m q n e h d in
        let at = place_behind f n s e h in
        let same : ltb (counted (walks (suc f) s)).place m ≡ ltb (counted (walks f (drop n s))).place (m - n) = by_place (counted (walks f (drop n s))).place at in
        let j : stray (counted (walks g (drop n (take m s)))).ending
        ≡ (stray (counted (walks f (drop n s))).ending && ltb (counted (walks f (drop n s))).place (m - n)) = rw (drop_take n m s) i in
        let r : (stray (counted (walks (suc f) s)).ending && ltb (counted (walks (suc f) s)).place m)
        ≡ (stray (counted (walks f (drop n s))).ending && ltb (counted (walks f (drop n s))).place (m - n)) = rw (ending_behind f n s e h, same) in
        ap stray (ending_behind g n (take m s) (sym w) h) ∙ j ∙ sym r
      where
        by_place : (x : ℕ) → (counted (walks (suc f) s)).place ≡ n + x → ltb (counted (walks (suc f) s)).place m ≡ ltb x (m - n)
        by_place x at =
            by_bool (ltb x (m - n))
            (λ t. let y = ltb-true x (m - n) t in rw t (lt-ltb (counted (walks (suc f) s)).place m (omega arith)))
            (λ t. let y = ltb-false x (m - n) t in rw t (le-ltb (counted (walks (suc f) s)).place m (omega arith)))

step : (f : ℕ) → ((g : ℕ) (s : List ℕ) (m : ℕ) → length s ≤ f → length (take m s) ≤ g → Prefix f g s m) → (g : ℕ) (s : List ℕ) (m : ℕ)
    → length s ≤ suc f → length (take m s) ≤ g → Prefix (suc f) g s m
step f before g s zero l k =
    none_stray g [] refl ∙ rw (le-ltb (counted (walks (suc f) s)).place 0 (omega arith)) (and_no (stray (counted (walks (suc f) s)).ending))
step f before zero s (suc m) l k = empty (suc f) zero s (suc m) (omega (arith, rw (length-take (suc m) s) at k))
step f before (suc g) s (suc m) l k =
    by_bool (eqb (length s) 0) (λ t. empty (suc f) (suc g) s (suc m) (eqb-true (length s) 0 t))
    (λ t.
    let some = eqb-false (length s) 0 t in
    by_bool (eqb (size_of (front s)) 0) (λ u. no_event_lem f g s (suc m) l k (omega arith) (omega arith) (eqb-true (size_of (front s)) 0 u))
    (λ u.
    let h = eqb-false (size_of (front s)) 0 u in
    by_bool (ltb (suc m) (size_of (front s)))
    (λ v. event_lost f g s (suc m) l k (omega arith) (omega arith) (size_of (front s)) refl h (ltb-true (suc m) (size_of (front s)) v))
    (λ v.
    let d = ltb-false (suc m) (size_of (front s)) v in
    let a = length-drop (size_of (front s)) s in
    let b = length-take (suc m) s in
    let c = length-take (suc m - size_of (front s)) (drop (size_of (front s)) s) in
    event_kept f g s (suc m) l k (omega arith) (omega arith) (size_of (front s)) refl h d
    (before g (drop (size_of (front s)) s) (suc m - size_of (front s)) (omega arith) (omega arith)))))

pub prefix : (f g : ℕ) (s : List ℕ) (m : ℕ) → length s ≤ f → length (take m s) ≤ g → Prefix f g s m
prefix zero g s m l k = empty zero g s m (omega arith)
prefix (suc f) g s m l k = step f (prefix f) g s m l k

-- the whole walk
pub cut_short : (s : List ℕ) (m : ℕ) → stray (walk (take m s)).ending ≡ (stray (walk s).ending && ltb (counted (walk s)).place m)
cut_short s m = prefix (length s) (length (take m s)) s m (omega arith) (omega arith)
