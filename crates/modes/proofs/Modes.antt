-- The mode with the multicast hash, its registers all ones or all zero, and the modes that it then equals. Assumes nothing.
use Prim.Native.Nat.{ℕ}
use mathlib.Core.Path.{◌≡◌, refl, sym, ap, ◌∙◌}
use mathlib.Core.Bool.{Bool, false}
use mathlib.Core.List.{List}
use lib.Dec.{eqb, ltb}
use lib.ListN.{length}
use Rattle.std.specs.Prelude.{if◌then◌else◌, Option, Some, None}
use Rattle.fcs.specs.Bytes.{same}
use Rattle.hash.specs.Hash.{hash_accepts}
use Rattle.hash.proofs.Meaning.{ones_accept, zeros_refuse}
use Rattle.reason.specs.declared.Reason.{Reason}
use Rattle.reason.specs.declared.Reason.TheVariants.{Own, Broadcast, Group, ReceiveAll}
use Rattle.reason.specs.Reason.{reason_number}
use Rattle.filter.specs.Meaning.{station_address}
use Rattle.address_rule.specs.AddressRule.{destination, broadcast, to_group, group_rule, first_met}
use Rattle.modes.specs.Modes.{HashTakesAs, OnesAsAllMulticast, ZerosAsNoMulticast}

-- the group branch by its parts: filter mode, hash registers, destination
abbrev group : ℕ → ℕ → ℕ → List ℕ → Option Reason
group mode high low address =
    if eqb mode 1 then (if hash_accepts high low address then Some Group else None) else
    if eqb mode 5 then Some Group else
    None

-- the address rule by its parts: receive-all, what the group branch says, the station address
abbrev rule : Bool → Option Reason → List ℕ → List ℕ → Option Reason
rule all grouped station frame =
    if ltb (length frame) 6 then None else
    if all then Some ReceiveAll else
    if same (destination frame) broadcast then Some Broadcast else
    if to_group frame then grouped else
    if same (destination frame) station then Some Own else
    None

as_mode : (v mode : ℕ) → eqb mode 1 ≡ false → ((address : List ℕ) → hash_accepts v v address ≡ eqb mode 5) → HashTakesAs v mode
unfolding first_met
as_mode v mode other h f g one hashed high low m frame =
    let d = destination frame in
    let t : Option Reason = if eqb mode 5 then Some Group else None in
    let e : group_rule f d ≡ t = (λ j. group (hashed j) (high j) (low j) d) ∙ ap (λ (x : Bool). if x then Some Group else None) (h d) in
    let k : group_rule g d ≡ t =
    (λ j. group (m j) g.mcha g.mcla d)
    ∙ ap (λ (x : Bool). if x then (if hash_accepts g.mcha g.mcla d then Some Group else None) else t) other in
    λ j. reason_number (rule (one.all j) ((e ∙ sym k) j) (station_address (one.high j) (one.low j)) frame)

pub ones_as_all_multicast : OnesAsAllMulticast
ones_as_all_multicast = as_mode 0xffff_ffff 5 refl ones_accept

pub zeros_as_no_multicast : ZerosAsNoMulticast
zeros_as_no_multicast = as_mode 0 0 refl zeros_refuse
