-- What stands at the front of a string, told by its first byte, the four bytes behind it and its length. Assumes nothing.
use Prim.Native.Nat.{ℕ, ◌+◌, ◌≤◌, ◌<◌}
use mathlib.Core.Path.{◌≡◌, refl}
use mathlib.Core.Bool.{true, false}
use mathlib.Core.List.{List}
use native.Mathlib.Omega.{arith}
use lib.Dec.{eqb, ltb}
use lib.ListN.{length, get_or, take, drop, length-take, length-drop}
use borrow.Author.Tests.{eq-eqb, ne_eqb, eqb-true, eqb-false, le-leb, lt-leb, ltb-false}
use Rattle.std.specs.Prelude.{if◌then◌else◌}
use Rattle.rules.proofs.Choices.{by_bool, by_test}
use Rattle.memory.specs.Memory.{word}
use Rattle.event.specs.Event.{Event, register_write, grant, frame, send, size}
use Rattle.event.specs.Front.{Front, whole, cut, no_event, whole_or, frame_front, front}
use Rattle.event.specs.Sizes.{size_of, begins, within, size_by}

-- the size of a whole event or none
within_is : (n : ℕ) (s : List ℕ) (e : Event) → size e ≡ n → within (length s) n ≡ size_of (whole_or n s e)
within_is n s e h = by_bool (ltb (length s) n) (λ t. rw t) (λ t. rw (t, h))

frame_size : (s : List ℕ) → (if ltb (length s) 5 then 0 else within (length s) (5 + word s 1)) ≡ size_of (frame_front s)
unfolding frame_front
frame_size s =
    by_bool (ltb (length s) 5) (λ t. rw t)
    (λ t.
    by_bool (ltb (length s) (5 + word s 1)) (λ u. rw (t, u))
    (λ u.
    let l : 5 + word s 1 ≤ length s = ltb-false (length s) (5 + word s 1) u in
    let e : length (take (word s 1) (drop 5 s)) ≡ word s 1 = simp (length-take, length-drop) (omega arith) in
    rw (t, u, e)))

-- the size by bytes is that of what stands at the front
pub size_is : (s : List ℕ) → size_by (get_or s 0 0) (word s 1) (length s) ≡ size_of (front s)
unfolding size_by front
size_is s =
    by_bool (eqb (length s) 0) (λ t. rw t)
    (λ t.
    by_bool (eqb (get_or s 0 0) 1) (λ u. rw (t, u) (within_is 9 s (register_write (word s 1) (word s 5)) refl))
    (λ u.
    by_bool (eqb (get_or s 0 0) 2) (λ v. rw (t, u, v) (within_is 5 s (grant (word s 1)) refl))
    (λ v.
    by_bool (eqb (get_or s 0 0) 3) (λ w. rw (t, u, v, w) (frame_size s))
    (λ w. by_bool (eqb (get_or s 0 0) 4) (λ x. rw (t, u, v, w, x)) (λ x. rw (t, u, v, w, x))))))

-- ---- where there is no whole event

-- of no bytes
pub front_of_none : (s : List ℕ) → length s ≡ 0 → front s ≡ cut
unfolding front
front_of_none s h = rw (eq-eqb (length s) 0 h)

-- an event that is not whole, by its first byte
unfoldable pub part_of : ℕ → Front
part_of first = if begins first then cut else no_event

cut_or : (n : ℕ) (s : List ℕ) (e : Event) → 0 < size e → size_of (whole_or n s e) ≡ 0 → whole_or n s e ≡ cut
cut_or n s e p h = by_bool (ltb (length s) n) (λ t. rw t) (λ t. absurd (omega (arith, rw t at h)))

frame_cut : (s : List ℕ) → size_of (frame_front s) ≡ 0 → frame_front s ≡ cut
unfolding frame_front
frame_cut s h =
    by_bool (ltb (length s) 5) (λ t. rw t)
    (λ t. rw t (cut_or (5 + word s 1) s (frame (take (word s 1) (drop 5 s))) (omega arith) (rw t at h)))

-- a byte that none of the four is
begins_no : (x : ℕ) → (x ≡ 1 → ⊥) → (x ≡ 2 → ⊥) → (x ≡ 3 → ⊥) → (x ≡ 4 → ⊥) → begins x ≡ false
unfolding begins
begins_no x a b c d = by_bool (eqb x 0) (λ t. rw t) (λ t. rw t (lt-leb x 4 (beyond x (eqb-false x 0 t) a b c d)))
  where
    beyond : (x : ℕ) → (x ≡ 0 → ⊥) → (x ≡ 1 → ⊥) → (x ≡ 2 → ⊥) → (x ≡ 3 → ⊥) → (x ≡ 4 → ⊥) → 4 < x
    beyond x z a b c d = omega arith

pub begins_yes : (x : ℕ) → 0 < x → x ≤ 4 → begins x ≡ true
unfolding begins
begins_yes x l h = rw (ne_eqb x 0 (λ q. omega arith), le-leb x 4 h)

pub front_part : (s : List ℕ) → 0 < length s → size_of (front s) ≡ 0 → front s ≡ part_of (get_or s 0 0)
unfolding front part_of
front_part s l h =
    let t : eqb (length s) 0 ≡ false = ne_eqb (length s) 0 (λ q. omega arith) in
    by_bool (eqb (get_or s 0 0) 1)
    (λ u.
    let q = eqb-true (get_or s 0 0) 1 u in
    let b = begins_yes (get_or s 0 0) (omega arith) (omega arith) in
    rw (t, u, b) (cut_or 9 s (register_write (word s 1) (word s 5)) (omega arith) (rw (t, u) at h)))
    (λ u.
    by_bool (eqb (get_or s 0 0) 2)
    (λ v.
    let q = eqb-true (get_or s 0 0) 2 v in
    let b = begins_yes (get_or s 0 0) (omega arith) (omega arith) in
    rw (t, u, v, b) (cut_or 5 s (grant (word s 1)) (omega arith) (rw (t, u, v) at h)))
    (λ v.
    by_bool (eqb (get_or s 0 0) 3)
    (λ w.
    let q = eqb-true (get_or s 0 0) 3 w in
    let b = begins_yes (get_or s 0 0) (omega arith) (omega arith) in
    rw (t, u, v, w, b) (frame_cut s (rw (t, u, v, w) at h)))
    (λ w.
    by_bool (eqb (get_or s 0 0) 4) (λ x. absurd (omega (arith, rw (t, u, v, w, x) at h)))
    (λ x.
    let b = begins_no (get_or s 0 0) (eqb-false _ 1 u) (eqb-false _ 2 v) (eqb-false _ 3 w) (eqb-false _ 4 x) in
    rw (t, u, v, w, x, b)))))

-- ---- a whole event fits

within_fits : (left n : ℕ) → within left n ≤ left
within_fits left n =
    by_bool (ltb left n) (λ t. rw t (omega arith))
    (λ t.
    let l = ltb-false left n t in
    rw t l)

pub size_by_fits : (first four left : ℕ) → size_by first four left ≤ left
unfolding size_by
size_by_fits first four left =
    by_test (λ n. n ≤ left) (eqb left 0) _ _ (λ t. omega arith)
    (λ t.
    let some = eqb-false left 0 t in
    by_test (λ n. n ≤ left) (eqb first 1) _ _ (λ u. within_fits left 9)
    (λ u.
    by_test (λ n. n ≤ left) (eqb first 2) _ _ (λ v. within_fits left 5)
    (λ v.
    by_test (λ n. n ≤ left) (eqb first 3) _ _
    (λ w. by_test (λ n. n ≤ left) (ltb left 5) _ _ (λ x. omega arith) (λ x. within_fits left (5 + four)))
    (λ w. by_test (λ n. n ≤ left) (eqb first 4) _ _ (λ x. omega arith) (λ x. omega arith)))))

pub size_fits : (s : List ℕ) → size_of (front s) ≤ length s
size_fits s = rw (← size_is s) (size_by_fits (get_or s 0 0) (word s 1) (length s))

-- ---- a whole event, by its first byte

whole_or_lem : (n : ℕ) (s : List ℕ) (e : Event) → (size_of (whole_or n s e) ≡ 0 → ⊥) → whole_or n s e ≡ whole e
whole_or_lem n s e h = by_bool (ltb (length s) n) (λ t. absurd (h (rw t))) (λ t. rw t)

module _ (s : List ℕ) (l : 0 < length s) (h : size_of (front s) ≡ 0 → ⊥) where
  some : eqb (length s) 0 ≡ false
  some = ne_eqb (length s) 0 (λ q. omega arith)

  pub whole_write : get_or s 0 0 ≡ 1 → front s ≡ whole (register_write (word s 1) (word s 5))
  unfolding front
  whole_write e =
      let u = eq-eqb (get_or s 0 0) 1 e in
      let g : (size_of (whole_or 9 s (register_write (word s 1) (word s 5))) ≡ 0 → ⊥) = rw (some, u) at h in
      rw (some, u) (whole_or_lem 9 s (register_write (word s 1) (word s 5)) g)

  pub whole_grant : get_or s 0 0 ≡ 2 → front s ≡ whole (grant (word s 1))
  unfolding front
  whole_grant e =
      let t = ne_eqb (get_or s 0 0) 1 (λ q. omega arith) in
      let u = eq-eqb (get_or s 0 0) 2 e in
      let g : (size_of (whole_or 5 s (grant (word s 1))) ≡ 0 → ⊥) = rw (some, t, u) at h in
      rw (some, t, u) (whole_or_lem 5 s (grant (word s 1)) g)

  pub whole_frame : get_or s 0 0 ≡ 3 → (front s ≡ whole (frame (take (word s 1) (drop 5 s)))) × (5 + word s 1 ≤ length s)
  unfolding front frame_front
  whole_frame e =
      let t = ne_eqb (get_or s 0 0) 1 (λ q. omega arith) in
      let v = ne_eqb (get_or s 0 0) 2 (λ q. omega arith) in
      let u = eq-eqb (get_or s 0 0) 3 e in
      by_bool (ltb (length s) 5) (λ w. absurd (h (rw (some, t, v, u, w))))
      (λ w.
      by_bool (ltb (length s) (5 + word s 1)) (λ x. absurd (h (rw (some, t, v, u, w, x))))
      (λ x. (rw (some, t, v, u, w, x), ltb-false (length s) (5 + word s 1) x)))

  pub whole_send : (get_or s 0 0 ≡ 1 → ⊥) → (get_or s 0 0 ≡ 2 → ⊥) → (get_or s 0 0 ≡ 3 → ⊥) → front s ≡ whole send
  unfolding front
  whole_send a b c =
      let t = ne_eqb (get_or s 0 0) 1 a in
      let v = ne_eqb (get_or s 0 0) 2 b in
      let w = ne_eqb (get_or s 0 0) 3 c in
      by_bool (eqb (get_or s 0 0) 4) (λ u. rw (some, t, v, w, u)) (λ u. absurd (h (rw (some, t, v, w, u))))
