-- What a block without a fault is like. Assumes nothing.
use Prim.Native.Nat.{ℕ, ◌≤◌}
use mathlib.Core.Bool.{Bool, true, false, not, ◌&&◌, ◌||◌}
use mathlib.Core.Path.{◌≡◌, refl}
use mathlib.Core.List.{List}
use native.Mathlib.Omega.{arith}
use borrow.Author.Tests.{eqb-true, ltb-false, not-false}
use lib.Dec.{eqb, ltb}
use lib.ListN.{length, length-take, length-drop}
use Rattle.rules.proofs.Choices.{or_parts, passed}
use Rattle.block.specs.Fields.{block_number, used_length, data_of, used_data, unused_data, stored_check, check_of}
use Rattle.block.specs.Faults.{used_fault, all_zero, block_fault}
use Rattle.block.proofs.Ways.{used_in}

-- "only the last may be part-filled"
used_full : (last : Bool) (u : ℕ) → u ≤ 504 → used_fault last u ≡ false → last ≡ false → u ≡ 504
unfolding used_fault
used_full last u room e l =
    let p = or_parts (eqb u 0 || ltb 504 u) (not last && ltb u 504) e in
    let f : ltb u 504 ≡ false = rw l at p.1 in
    omega (arith, ltb-false u 504 f)

pub record Right (last : Bool) (k : ℕ) (b : List ℕ) : Type 0 where
  pub long : length b ≡ 512
  pub number : block_number b ≡ k
  pub check : stored_check b ≡ check_of b
  pub some : 1 ≤ used_length b
  pub fits : used_length b ≤ 504
  pub full : last ≡ false → used_length b ≡ 504
  pub fill : all_zero (unused_data b) ≡ true

pub right : (last : Bool) (k : ℕ) (b : List ℕ) → block_fault last k b ≡ 0 → Right last k b
unfolding block_fault
right last k b e =
    let p₁ = passed (not (eqb (length b) 512)) 17 _ (omega arith) e in
    let p₂ = passed (not (eqb (block_number b) k)) 18 _ (omega arith) p₁.1 in
    let p₃ = passed (not (eqb (stored_check b) (check_of b))) 19 _ (omega arith) p₂.1 in
    let p₄ = passed (used_fault last (used_length b)) 20 _ (omega arith) p₃.1 in
    let p₅ = passed (not (all_zero (unused_data b))) 21 0 (omega arith) p₄.1 in
    let u = used_in last (used_length b) (used_fault last (used_length b)) refl p₄.0 in
    record {
      long = eqb-true _ _ (not-false _ p₁.0);
      number = eqb-true _ _ (not-false _ p₂.0);
      check = eqb-true _ _ (not-false _ p₃.0);
      some = u.0;
      fits = u.1;
      full = used_full last (used_length b) u.1 p₄.0;
      fill = not-false _ p₅.0;
    }

-- it has as many used bytes as its used length says
pub used_long : (b : List ℕ) → length b ≡ 512 → used_length b ≤ 504 → length (used_data b) ≡ used_length b
unfolding used_data data_of
used_long b l h = simp (length-take, length-drop) (omega arith)
