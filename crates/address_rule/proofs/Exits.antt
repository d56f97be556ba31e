-- The ways out of the address rule: one law for each, named by its fact, with the premises that the code has there. Assumes nothing.
use mathlib.Core.Path.{◌≡◌, refl, sym, ap, ◌∙◌}
use mathlib.Core.Bool.{Bool, true, false}
use mathlib.Core.List.{List}
use Prim.Native.Nat.{ℕ, ◌%◌, ◌≤◌, ◌<◌}
use native.Mathlib.Omega.{arith}
use borrow.Author.Tests.{lt-ltb, le-ltb, eq-eqb, ne_eqb}
use lib.Dec.{eqb, ltb}
use lib.ListN.{length, get_or}
use Rattle.std.specs.Prelude.{if◌then◌else◌, Option, Some, None}
use Rattle.std.specs.Bool.{then_some}
use Rattle.rules.proofs.Choices.{if_yes, if_no, said}
use Rattle.fcs.specs.Bytes.{same}
use Rattle.hash.specs.Hash.{hash_accepts}
use Rattle.reason.specs.declared.Reason.{Reason}
use Rattle.reason.specs.declared.Reason.TheVariants.{Own, Broadcast, Group, ReceiveAll}
use Rattle.reason.specs.Reason.{reason_number}
use Rattle.filter.specs.declared.Filter.{Filter}
use Rattle.filter.specs.Meaning.{receive_all, filter_mode, station_address}
use Rattle.address_rule.specs.AddressRule.{destination, broadcast, group_rule, first_met, address_rule}

-- a test that takes a frame for a reason
taken_if : (b : Bool) (reason : Reason) → then_some b reason ≡ (if b then Some reason else None)
taken_if true reason = refl
taken_if false reason = refl

-- ---- group: the group branch

module _ (filter : Filter) (address : List ℕ) (mode : ℕ) (e : mode ≡ filter_mode filter.mcr) where
  tested : (k : ℕ) → eqb (filter_mode filter.mcr) k ≡ eqb mode k
  tested k = ap (λ (v : ℕ). eqb v k) (sym e)

  pub hash_decides : mode ≡ 1 → (taken : Bool) → taken ≡ hash_accepts filter.mcha filter.mcla address
      → (answer : Option Reason) → answer ≡ then_some taken Group → reason_number answer ≡ reason_number (group_rule filter address)
  hash_decides hashed taken h answer g =
      ap reason_number
      (if_yes _ answer _ _ (tested 1 ∙ eq-eqb mode 1 hashed) (
      g ∙ taken_if taken Group ∙ ap (λ (b : Bool). if b then Some Group else None) h))

  pub mode_takes : mode ≡ 5 → 3 ≡ reason_number (group_rule filter address)
  mode_takes y =
      ap reason_number
      (if_no _ (Some Group) _ _ (tested 1 ∙ ne_eqb mode 1 (λ z. omega arith)) (
      if_yes _ (Some Group) _ _ (tested 5 ∙ eq-eqb mode 5 y) refl))

  pub mode_refuses : (mode ≡ 1 → ⊥) → (mode ≡ 5 → ⊥) → 0 ≡ reason_number (group_rule filter address)
  mode_refuses o n =
      ap reason_number
      (if_no _ None _ _ (tested 1 ∙ ne_eqb mode 1 o) (if_no _ None _ _ (tested 5 ∙ ne_eqb mode 5 n) refl))

-- ---- apply: "first that applies"

-- past three tests
past : (s t u : Bool) (x a b c rest : Option Reason) → s ≡ false → t ≡ false → u ≡ false → x ≡ rest
    → x ≡ (if s then a else if t then b else if u then c else rest)
past s t u x a b c rest p q r e = if_no _ _ _ _ p (if_no _ _ _ _ q (if_no _ _ _ _ r e))

module _ (filter : Filter) (f : List ℕ) where
  pub short_not_taken : length f < 6 → 0 ≡ address_rule filter f
  unfolding first_met
  short_not_taken h = ap reason_number (if_yes _ None _ _ (lt-ltb (length f) 6 h) refl)

  module _ (all : Bool) (long : 6 ≤ length f) (a : all ≡ receive_all filter.mcr) where
    pub by_receive_all : all ≡ true → 4 ≡ address_rule filter f
    unfolding first_met
    by_receive_all ya =
        ap reason_number
        (if_no _ (Some ReceiveAll) _ _ (le-ltb (length f) 6 long) (
        if_yes _ (Some ReceiveAll) _ _ (said (receive_all filter.mcr) all true a ya) refl))

    module _ (every : Bool) (na : all ≡ false) (b : every ≡ same (destination f) broadcast) where
      pub by_broadcast : every ≡ true → 2 ≡ address_rule filter f
      unfolding first_met
      by_broadcast yb =
          ap reason_number
          (if_no _ (Some Broadcast) _ _ (le-ltb (length f) 6 long) (
          if_no _ (Some Broadcast) _ _ (said (receive_all filter.mcr) all false a na) (
          if_yes _ (Some Broadcast) _ _ (said (same (destination f) broadcast) every true b yb) refl)))

      -- past the broadcast: a group, or one station
      module _ (nb : every ≡ false) where
        long_enough : ltb (length f) 6 ≡ false
        long_enough = le-ltb (length f) 6 long

        not_all : receive_all filter.mcr ≡ false
        not_all = said (receive_all filter.mcr) all false a na

        no_broadcast : same (destination f) broadcast ≡ false
        no_broadcast = said (same (destination f) broadcast) every false b nb

        pub by_group : (n : ℕ) → get_or f 0 0 % 2 ≡ 1 → n ≡ reason_number (group_rule filter (destination f)) → n ≡ address_rule filter f
        unfolding first_met
        by_group n g e =
            e
            ∙ ap reason_number
            (past _ _ _ (group_rule filter (destination f)) _ _ _ _ long_enough not_all no_broadcast (
            if_yes _ (group_rule filter (destination f)) _ _ (eq-eqb (get_or f 0 0 % 2) 1 g) refl))

        pub by_station : (get_or f 0 0 % 2 ≡ 1 → ⊥) → (station : List ℕ) → station ≡ station_address filter.mah filter.mal
            → (r : Bool) → r ≡ same (destination f) station → (answer : Option Reason) → answer ≡ then_some r Own
            → reason_number answer ≡ address_rule filter f
        unfolding first_met
        by_station g station s r e answer t =
            let address = station_address filter.mah filter.mal in
            let found : r ≡ same (destination f) address = e ∙ ap (same (destination f)) s in
            ap reason_number
            (past _ _ _ answer _ _ _ _ long_enough not_all no_broadcast (
            if_no _ answer _ _ (ne_eqb (get_or f 0 0 % 2) 1 g) (
            t ∙ taken_if r Own ∙ ap (λ (b : Bool). if b then Some Own else None) found)))
