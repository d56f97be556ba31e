-- Export is refused exactly in the situations named, and a refusal changes nothing. Assumes nothing.
use Prim.Native.Nat.{ℕ}
use mathlib.Core.Path.{◌≡◌, refl, ap}
use mathlib.Core.Bool.{true}
use mathlib.Core.Logic.{◌⊎◌, inl, inr}
use mathlib.Core.List.{List, [], ◌∷◌}
use native.Mathlib.Omega.{arith}
use lib.Dec.{eqb, ltb}
use lib.ListN.{length}
use borrow.Author.Tests.{ltb-true, ltb-false, eq-eqb, ne_eqb}
use Rattle.rules.specs.Choice.{◌otherwise◌}
use Rattle.rules.proofs.Choices.{by_bool}
use Rattle.fcs.specs.CheckSequence.{check_right}
use Rattle.frame.specs.Length.{length_allowed}
use Rattle.pcap.specs.Capture.{Captured, capture_bytes}
use Rattle.pcap_list.specs.Entries.{entries_of, of_its_form}
use Rattle.pcap_export.proofs.Lengths.{length_capture}
use Rattle.pcap_export.specs.Export.{frame_fault, first_wrong, export_number, export}
use Rattle.pcap_refusals.specs.Export.{Right, AllRight, Wrong, FirstWrong, Says, Exactly, ChangesNothing}

-- ---- a frame

judged : (f : List ℕ) → (Right f × (frame_fault f ≡ 0)) ⊎ (Wrong f (frame_fault f) × (frame_fault f ≡ 0 → ⊥))
unfolding frame_fault
judged f =
    by_bool (length_allowed (length f))
    (λ t.
    by_bool (check_right f) (λ u. inl ((t, u), rw (t, u)))
    (λ u. inr (inr (t, u, rw (t, u)), λ q. let z : ◌≡◌ {A = ℕ} 5 0 = rw (t, u) at q in omega arith)))
    (λ t. inr (inl (t, rw t), λ q. let z : ◌≡◌ {A = ℕ} 4 0 = rw t at q in omega arith))

-- ---- all frames

-- what is found of frames: all are right, or the first wrong one
abbrev Searched : List Captured → ℕ → Type 0
Searched cs n = (AllRight cs × (n ≡ 0)) ⊎ (FirstWrong cs n × (n ≡ 0 → ⊥))

wrong_here : (c : Captured) (cs : List Captured) (n k : ℕ) → Wrong c.frame n → (n ≡ 0 → ⊥) → Searched (c ∷ cs) (n otherwise k)
wrong_here c cs n k w h =
    rw (ne_eqb n 0 h) (inr (record { before = []; one = c; behind = cs; there = refl; right = tt; wrong = w }, h))

right_here : (c : Captured) (cs : List Captured) (n k : ℕ) → Right c.frame → n ≡ 0 → Searched cs k → Searched (c ∷ cs) (n otherwise k)
right_here c cs n k r h (inl a) = rw (eq-eqb n 0 h) (inl ((r, a.0), a.1))
right_here c cs n k r h (inr a) =
    rw (eq-eqb n 0 h)
    (inr (
      record {
        before = c ∷ a.0.before;
        one = a.0.one;
        behind = a.0.behind;
        there = ap (λ (l : List Captured). c ∷ l) a.0.there;
        right = (r, a.0.right);
        wrong = a.0.wrong;
      },
      a.1,
    ))

searched : (cs : List Captured) → Searched cs (first_wrong cs)
unfolding first_wrong
searched [] = inl (tt, refl)
searched (c ∷ cs) = by_one (judged c.frame) (searched cs)
  where
    by_one : (Right c.frame × (frame_fault c.frame ≡ 0)) ⊎ (Wrong c.frame (frame_fault c.frame) × (frame_fault c.frame ≡ 0 → ⊥))
        → Searched cs (first_wrong cs)
        → Searched (c ∷ cs) (frame_fault c.frame otherwise first_wrong cs)
    by_one (inl a) rest = right_here c cs (frame_fault c.frame) (first_wrong cs) a.0 a.1 rest
    by_one (inr a) rest = wrong_here c cs (frame_fault c.frame) (first_wrong cs) a.0 a.1

-- ---- the number

pub export_exactly : Exactly
unfolding export_number
export_exactly list room =
    by_bool (of_its_form list)
    (λ t. by_search t (searched (entries_of list)))
    (λ t. inl (t, rw t))
  where
    by_search : of_its_form list ≡ true → Searched (entries_of list) (first_wrong (entries_of list)) → Says list room
    by_search t (inr a) = inr (inl (t, rw (t, ne_eqb (first_wrong (entries_of list)) 0 a.1) a.0))
    by_search t (inl a) =
        let z = eq-eqb (first_wrong (entries_of list)) 0 a.1 in
        let k = length_capture list t a.1 in
        by_bool (ltb room (length (capture_bytes (entries_of list))))
        (λ u. inr (inr (inl (t, a.0, (let l = ltb-true room (length (capture_bytes (entries_of list))) u in omega arith), rw (t, z, u)))))
        (λ u. inr (inr (inr (t, a.0, (let l = ltb-false room (length (capture_bytes (entries_of list))) u in omega arith), rw (t, z, u)))))

pub export_changes_nothing : ChangesNothing
unfolding export
export_changes_nothing list room =
    by_bool (eqb (export_number list (length room)) 0)
    (λ t. rw t (λ h. absurd (h refl)))
    (λ t. rw t (λ h. (refl, refl, refl)))
