-- The ways out of the number of a receive, and its values. Assumes nothing.
use mathlib.Core.Path.{◌≡◌, refl, sym}
use mathlib.Core.Bool.{Bool, true, false, not}
use mathlib.Core.List.{List}
use Prim.Native.Nat.{ℕ, ◌≤◌}
use native.Mathlib.Omega.{arith}
use borrow.Author.Tests.{eqb-true}
use lib.ListN.{length}
use Rattle.rules.proofs.Choices.{by_test, by_number, said_yes, said_no, refused_by, passed_by}
use Rattle.window.specs.Window.{lent}
use Rattle.frame.specs.Frame.{frame_number_by}
use Rattle.frame.proofs.Passed.{passed_short}
use Rattle.chain.specs.Chain.{chain_number}
use Rattle.chain.proofs.Laws.{by_chain}
use Rattle.receiving.specs.Receiving.{receive_number}

module _ (base window : ℕ) (running : Bool) (place first : ℕ) (m : List ℕ) (n : ℕ) where
  pub not_lent_11 : lent window m ≡ false → 11 ≡ receive_number base window running place first m n
  unfolding receive_number
  not_lent_11 l = rw l

  pub stopped_3 : lent window m ≡ true → not running ≡ true → 3 ≡ receive_number base window running place first m n
  unfolding receive_number
  stopped_3 l r = rw (l, r)

  pub frame_first : lent window m ≡ true → not running ≡ false → (k : ℕ) → k ≡ first → (k ≡ 0 → ⊥)
      → k ≡ receive_number base window running place first m n
  unfolding receive_number
  frame_first l r k e h = rw (l, r) (refused_by first _ k e h)

  pub chain_last : lent window m ≡ true → not running ≡ false → 0 ≡ first
      → (r : ℕ) → r ≡ chain_number base window m place n → r ≡ receive_number base window running place first m n
  unfolding receive_number
  chain_last l r e x h = rw (l, r) (passed_by first _ 0 x e refl h)

pub ruleset ways = (not_lent_11, stopped_3, frame_first, chain_last, said_yes, said_no)

-- a property of the number, by its values
pub by_receive_number : (P : ℕ → Type 0) (base window : ℕ) (running : Bool) (place first : ℕ) (m : List ℕ) (n : ℕ)
    → P 11 → P 3 → P first → P 7 → P 8 → P 0 → P (receive_number base window running place first m n)
unfolding receive_number
by_receive_number P base window running place first m n r11 r3 rf r7 r8 r0 =
    by_test P (not (lent window m)) _ _ (λ _. r11) (λ _.
    by_test P (not running) _ _ (λ _. r3) (λ _.
    by_number P first (chain_number base window m place n) (λ _. rf) (λ _. by_chain P base window m place n r7 r8 r0)))

-- a frame that is not refused is of an allowed length
pub received_short : (base window : ℕ) (running : Bool) (place reason : ℕ) (m f : List ℕ)
    → 0 ≡ receive_number base window running place (frame_number_by reason f) m (length f) → length f ≤ 1518
unfolding receive_number
received_short base window running place reason m f e =
    let short : ℕ → Type 0 = λ k. k ≡ 0 → length f ≤ 1518 in
    by_test short (not (lent window m)) _ _ (λ _ q. absurd (omega arith)) (λ _.
    by_test short (not running) _ _ (λ _ q. absurd (omega arith)) (λ _.
    by_number short (frame_number_by reason f) (chain_number base window m place (length f)) (λ _. passed_short reason f)
    (λ t _. passed_short reason f (eqb-true (frame_number_by reason f) 0 t))))
    (sym e)
