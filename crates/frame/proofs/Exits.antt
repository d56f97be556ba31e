-- The ways out of the functions of this crate: one law for each, named by its fact, with the premises that the code has there. Assumes nothing.
use mathlib.Core.Path.{◌≡◌, refl, ap, ◌∙◌}
use mathlib.Core.Bool.{Bool, true, false, not}
use mathlib.Core.List.{List}
use Prim.Native.Nat.{ℕ, ◌≤◌, ◌<◌}
use borrow.Author.Tests.{le-leb, lt-leb}
use lib.Dec.{leb}
use lib.ListN.{length}
use Rattle.std.specs.Prelude.{Option}
use Rattle.std.specs.Option.{is_some}
use Rattle.rules.proofs.Choices.{if_yes, if_no, is_and, said_not}
use Rattle.fcs.specs.CheckSequence.{check_right}
use Rattle.reason.specs.declared.Reason.{Reason}
use Rattle.reason.specs.Reason.{reason_number, taken}
use Rattle.reason.proofs.Laws.{taken_is_some}
use Rattle.frame.specs.Frame.{frame_number_by}
use Rattle.frame.specs.Length.{length_allowed}

-- ---- length_allowed

pub from_64 : (n : ℕ) → 64 ≤ n → leb n 1518 ≡ length_allowed n
unfolding length_allowed
from_64 n h = is_and (leb 64 n) (leb n 1518) (leb n 1518) (le-leb 64 n h) refl

pub under_64 : (n : ℕ) → n < 64 → leb 64 n ≡ length_allowed n
unfolding length_allowed
under_64 n h = rw (lt-leb 64 n h)

-- ---- frame_number: rows 4, 5 and 6, in this order

turned_away : (reason : Option Reason) (n : Bool) → is_some reason ≡ not n → not (taken (reason_number reason)) ≡ n
turned_away reason true e = ap not (taken_is_some reason ∙ e)
turned_away reason false e = ap not (taken_is_some reason ∙ e)

module _ (reason : Option Reason) (f : List ℕ) (l : Bool) (el : l ≡ length_allowed (length f)) where
  pub length_4 : not l ≡ true → 4 ≡ frame_number_by (reason_number reason) f
  unfolding frame_number_by
  length_4 nl = if_yes _ _ _ _ (said_not (length_allowed (length f)) l true el nl) refl

  module _ (r : Bool) (yl : not l ≡ false) (er : r ≡ check_right f) where
    pub check_5 : not r ≡ true → 5 ≡ frame_number_by (reason_number reason) f
    unfolding frame_number_by
    check_5 nr =
        if_no _ _ _ _ (said_not (length_allowed (length f)) l false el yl) (
        if_yes _ _ _ _ (said_not (check_right f) r true er nr) refl)

    module _ (n : Bool) (yr : not r ≡ false) (en : is_some reason ≡ not n) where
      pub address_6 : n ≡ true → 6 ≡ frame_number_by (reason_number reason) f
      unfolding frame_number_by
      address_6 h =
          if_no _ _ _ _ (said_not (length_allowed (length f)) l false el yl) (
          if_no _ _ _ _ (said_not (check_right f) r false er yr) (
          if_yes _ _ _ _ (turned_away reason n en ∙ h) refl))

      pub none_met_0 : n ≡ false → 0 ≡ frame_number_by (reason_number reason) f
      unfolding frame_number_by
      none_met_0 h =
          if_no _ _ _ _ (said_not (length_allowed (length f)) l false el yl) (
          if_no _ _ _ _ (said_not (check_right f) r false er yr) (
          if_no _ _ _ _ (turned_away reason n en ∙ h) refl))
