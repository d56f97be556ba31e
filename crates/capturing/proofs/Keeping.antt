-- The list of frames: the ways out of the code that puts one into it. Assumes nothing.
use Prim.Native.Nat.{ℕ}
use mathlib.Core.Path.{◌≡◌, refl, sym, ◌∙◌}
use mathlib.Core.Bool.{true, false}
use mathlib.Core.List.{List}
use lib.ListN.{take, drop}
use borrow.Author.Tests.{eq-eqb, ne_eqb}
use Rattle.std.proofs.Common.{Option, None, Some}
use Rattle.rules.proofs.Choices.{if_yes, if_no}
use Rattle.appending.specs.Put.{put}
use Rattle.event.specs.declared.Found.{Found}
use Rattle.event.specs.declared.Found.TheVariants.{RegisterWrite, Grant, Frame, Send, Cut, NoEvent}
use Rattle.pieces.specs.Pieces.{unless_zero}
use Rattle.pieces.proofs.Options.{said_none, said_some, said_more}
use Rattle.pcap_list.specs.Entries.{entry_bytes}
use Rattle.capturing.specs.declared.Kept.{Kept}
use Rattle.capturing.specs.Capturing.{timed, Listing, kept, behind_put, keep, keep_found}

module _ (k : Kept) (l : List ℕ) (number i : ℕ) (f : List ℕ) where
  pub not_done : (number ≡ 0 → ⊥) → kept k l ≡ keep (kept k l) number i f
  unfolding keep
  not_done h = if_no _ _ _ _ (ne_eqb number 0 h) refl

  module _ (z : number ≡ 0) where
    pub already_full : k.full ≡ true → kept k l ≡ keep (kept k l) number i f
    unfolding keep
    already_full h = if_yes _ _ _ _ (eq-eqb number 0 z) (if_yes _ _ _ _ h refl)

    module _ (h : k.full ≡ false) (o : Option ℕ) (l' : List ℕ) (eo : o ≡ unless_zero (put l k.bytes (entry_bytes (timed i f))).end)
        (el : l' ≡ (put l k.bytes (entry_bytes (timed i f))).list) where
      after : (x : Listing) → x ≡ behind_put k.bytes (put l k.bytes (entry_bytes (timed i f))) → x ≡ keep (kept k l) number i f
      unfolding keep
      after x e = if_yes _ _ _ _ (eq-eqb number 0 z) (if_no _ _ _ _ h e)

      pub no_room : o ≡ None → kept (record { bytes = k.bytes; full = true }) l' ≡ keep (kept k l) number i f
      no_room e =
          let n = said_none _ (sym e ∙ eo) in
          after _ (if_yes _ _ _ _ (eq-eqb _ 0 n) (λ j. record { bytes = k.bytes; full = true; list = el j }))

      pub has_room : (end : ℕ) → o ≡ Some end → kept (record { bytes = end; full = false }) l' ≡ keep (kept k l) number i f
      has_room end e =
          let n = said_some end _ (sym e ∙ eo) in
          let m = said_more end _ (sym e ∙ eo) in
          after _ (if_no _ _ _ _ (ne_eqb _ 0 m) (λ j. record { bytes = n j; full = false; list = el j }))

-- ---- what was found

module _ (k r : Kept) (l l' list : List ℕ) (i number : ℕ) (sent : List ℕ) (f : Found) where
  pub no_frame_write : (offset value : ℕ) → f ≡ RegisterWrite offset value → kept k l ≡ keep_found (kept k l) i list f number sent
  no_frame_write offset value e = rw e

  pub no_frame_grant : (address : ℕ) → f ≡ Grant address → kept k l ≡ keep_found (kept k l) i list f number sent
  no_frame_grant address e = rw e

  pub no_frame_cut : f ≡ Cut → kept k l ≡ keep_found (kept k l) i list f number sent
  no_frame_cut e = rw e

  pub no_frame_other : f ≡ NoEvent → kept k l ≡ keep_found (kept k l) i list f number sent
  no_frame_other e = rw e

  pub keeps_frame : (start n : ℕ) (s : List ℕ) → f ≡ Frame start n → s ≡ take n (drop start list) → kept r l' ≡ keep (kept k l) number i s
      → kept r l' ≡ keep_found (kept k l) i list f number sent
  keeps_frame start n s e p q = q ∙ rw (e, p)

  pub keeps_sent : f ≡ Send → kept r l' ≡ keep (kept k l) number i sent → kept r l' ≡ keep_found (kept k l) i list f number sent
  keeps_sent e q = q ∙ rw e
