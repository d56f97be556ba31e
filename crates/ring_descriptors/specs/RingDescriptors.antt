-- 01, "Sound ring", and 02, Wish 5: the descriptors of a sound ring, one by itself and two of them. Each definition takes the window's
-- base, its length where it matters, and the lent memory. Assumes nothing.
use Rattle.std.specs.Prelude.{ℕ, Bool, ◌&&◌, List, leb}
use Rattle.window.specs.Window.{in_window}
use Rattle.address.specs.Address.{apart, aligned, polls}
use Rattle.descriptor.specs.Descriptor.{count, next_enabled, start, next_word}

-- "every one has next-enable and a count of at least 1,518; its start word has clear low bits; descriptors and buffers (the
-- count's bytes) lie in the window", and the two regions of one descriptor share no byte. 02, Wish 5: "a ring is sound only with
-- it in every descriptor", the polling bit of the next word
unfoldable pub sound_descriptor : ℕ → ℕ → List ℕ → ℕ → Bool
sound_descriptor base window m d =
    in_window base window d 16 && next_enabled base m d && polls (next_word base m d) && leb 1518 (count base m d)
    && aligned (start base m d) && (in_window base window (start base m d) (count base m d) && apart (start base m d) (count base m d) d 16)

-- "no two of all these regions share a byte": those of two descriptors
unfoldable pub regions_apart : ℕ → List ℕ → ℕ → ℕ → Bool
regions_apart base m d e =
    apart d 16 e 16 && apart d 16 (start base m e) (count base m e)
    && (apart (start base m d) (count base m d) e 16 && apart (start base m d) (count base m d) (start base m e) (count base m e))
