-- The address rule: whether a frame is for this station, and why, by the frame's bytes and the filter registers.
-- Assumes nothing.
use Rattle.std.specs.Prelude.{ℕ, ◌%◌, Bool, List, [], ◌∷◌, eqb, ltb, length, get_or, take, Option, Some, None}
use Rattle.std.specs.Prelude.{if◌then◌else◌}
use Rattle.fcs.specs.Bytes.{same}
use Rattle.hash.specs.Hash.{hash_accepts}
use Rattle.reason.specs.declared.Reason.{Reason}
use Rattle.reason.specs.declared.Reason.TheVariants.{Own, Broadcast, Group, ReceiveAll}
use Rattle.reason.specs.Reason.{reason_number}
use Rattle.filter.specs.declared.Filter.{Filter}
use Rattle.filter.specs.Meaning.{receive_all, filter_mode, station_address}

-- the destination address: the first six bytes
abbrev pub destination : List ℕ → List ℕ
destination frame = take 6 frame

-- "destination of six bytes FF"
abbrev pub broadcast : List ℕ
broadcast = 0xff ∷ 0xff ∷ 0xff ∷ 0xff ∷ 0xff ∷ 0xff ∷ []

-- "lowest bit of the first destination byte set"
abbrev pub to_group : List ℕ → Bool
to_group frame = eqb (get_or frame 0 0 % 2) 1

-- "all-multicast is selected": mode 101b, perfect address with all multicast (RM0006 8.4.21). "any filter mode but perfect address with all multicast
-- counts as all-multicast off"
abbrev pub all_multicast : ℕ → Bool
all_multicast control = eqb (filter_mode control) 5

-- 02: "Add the mode of perfect address and multicast hash": mode 001b (RM0006 8.4.21)
abbrev pub multicast_hash : ℕ → Bool
multicast_hash control = eqb (filter_mode control) 1

-- the group branch of the address rule. 01: "accept exactly if all-multicast is selected". 02 amends it for one mode, which "replaces only the group
-- branch of the address rule": accept exactly if the destination's bit in the hash registers is 1
abbrev pub group_rule : Filter → List ℕ → Option Reason
group_rule filter address =
    if multicast_hash filter.mcr then (if hash_accepts filter.mcha filter.mcla address then Some Group else None) else
    if all_multicast filter.mcr then Some Group else
    None

-- 01: "Asked alone, .. one under 6 is not accepted. Address rule, first that applies: receive-all set, accept; destination of six bytes FF, accept; lowest
-- bit of the first destination byte set, accept exactly if all-multicast is selected; otherwise accept exactly if the six bytes equal the station address."
-- 02, of the hash: "receive-all and broadcast still come first." 02, of the answer: "own, broadcast, group or receive-all, by first rule met, and not only
-- yes"
unfoldable pub first_met : Filter → List ℕ → Option Reason
first_met filter frame =
    if ltb (length frame) 6 then None else
    if receive_all filter.mcr then Some ReceiveAll else
    if same (destination frame) broadcast then Some Broadcast else
    if to_group frame then group_rule filter (destination frame) else
    if same (destination frame) (station_address filter.mah filter.mal) then Some Own else
    None

-- its number: "1 to 4 in the order named, 0 for not taken"
abbrev pub address_rule : Filter → List ℕ → ℕ
address_rule filter frame = reason_number (first_met filter frame)
