-- 02, "Multicast by hash": the mode beside two others, where its registers are all ones or all zero. Assumes nothing.
use Rattle.std.specs.Prelude.{ℕ, ◌≡◌, List}
use Rattle.filter.specs.declared.Filter.{Filter}
use Rattle.filter.specs.Meaning.{receive_all, filter_mode}
use Rattle.address_rule.specs.AddressRule.{address_rule}

-- one station, with receive-all set or clear in both; filter mode, hash registers and all other bits of MAC control may differ
pub record OneStation (f g : Filter) : Type 0 where
  pub all : receive_all f.mcr ≡ receive_all g.mcr
  pub high : f.mah ≡ g.mah
  pub low : f.mal ≡ g.mal

-- with v in both hash registers the mode 001b takes the frames that another mode takes, each for the same reason, and no others
abbrev pub HashTakesAs : ℕ → ℕ → Type 0
HashTakesAs v mode =
    (f g : Filter) → OneStation f g
    → filter_mode f.mcr ≡ 1
    → f.mcha ≡ v
    → f.mcla ≡ v
    → filter_mode g.mcr ≡ mode
    → (frame : List ℕ)
    → address_rule f frame ≡ address_rule g frame

-- all ones: as mode 101b, all-multicast
abbrev pub OnesAsAllMulticast : Type 0
OnesAsAllMulticast = HashTakesAs 0xffff_ffff 5

-- all zero: as mode 000b, which takes no group
abbrev pub ZerosAsNoMulticast : Type 0
ZerosAsNoMulticast = HashTakesAs 0 0
