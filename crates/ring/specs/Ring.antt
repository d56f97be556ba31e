-- 01, "Sound ring", and 02, Wish 5. Each definition takes the window's base and length and the lent memory. Assumes nothing.
use Rattle.std.specs.Prelude.{ℕ, zero, suc, Bool, true, ◌&&◌, List, eqb, leb}
use Rattle.window.specs.Window.{lent}
use Rattle.address.specs.Address.{aligned}
use Rattle.descriptor.specs.Descriptor.{next}
use Rattle.ring_descriptors.specs.RingDescriptors.{sound_descriptor, regions_apart}

-- the regions of d and those of the `left` descriptors from e on share no byte
unfoldable pub apart_from_rest : ℕ → List ℕ → ℕ → ℕ → ℕ → Bool
apart_from_rest base m d zero e = true
apart_from_rest base m d (suc left) e = regions_apart base m d e && apart_from_rest base m d left (next base m e)

-- "The chain is followed recursively, one descriptor fewer to go at each call": the `left` descriptors from d on are sound
-- and apart, so distinct, "and then the first again"
unfoldable pub ring_from : ℕ → ℕ → List ℕ → ℕ → ℕ → ℕ → Bool
ring_from base window m first zero d = eqb d first
ring_from base window m first (suc left) d =
    sound_descriptor base window m d && apart_from_rest base m d left (next base m d) && ring_from base window m first left (next base m d)

-- "For a number of descriptors from 1 to 32 and a first address, the answer is yes exactly if .. Any other number, a first
-- address not a multiple of 4, or lent memory of another length gives no." Amended by 02, Wish 5: "a ring is sound only with it in
-- every descriptor", the polling bit (`sound_descriptor`)
unfoldable pub sound_ring : ℕ → ℕ → List ℕ → ℕ → ℕ → Bool
sound_ring base window m number first =
    lent window m && leb 1 number && leb number 32 && aligned first && ring_from base window m first number first
