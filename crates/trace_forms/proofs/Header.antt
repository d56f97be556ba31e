-- The header: what is read of one that is made, and that one that is read is the one that is made. Assumes nothing.
use Prim.Native.Nat.{ℕ, ◌+◌, ◌-◌, ◌%◌, ◌^◌, ◌≤◌, ◌<◌}
use mathlib.Core.Path.{◌≡◌, refl, sym, ap, ◌∙◌}
use mathlib.Core.Bool.{true, false, ◌&&◌}
use mathlib.Core.List.{List, [], ◌∷◌, ◌++◌}
use native.Mathlib.Omega.{arith}
use lib.Dec.{eqb, leb}
use lib.ListN.{length, drop, length-drop}
use lib.Seq.{drop-drop, get_or-drop}
use borrow.Author.Tests.{le-ltb, leb-true}
use Rattle.rules.proofs.Choices.{and_parts}
use Rattle.memory.specs.Memory.{word, word_bytes}
use Rattle.window.specs.Window.{window_allowed}
use Rattle.block.specs.Fields.{half}
use Rattle.block.specs.Made.{half_bytes}
use Rattle.block_forms.specs.Forms.{Bytes}
use Rattle.block_forms.proofs.Lists.{half_bytes_lem}
use Rattle.stream.specs.Stream.{base_of, window_of, events_of}
use Rattle.trace.specs.Judge.{header_fault}
use Rattle.trace_writing.specs.Made.{stream_of}
use Rattle.trace_writing.proofs.Putting.{length_stream}
use Rattle.trace_forms.proofs.Bytewise.{digits, bytes_drop, one_word}

-- ---- a header that is made

-- an allowed window has numbers that fit its header
pub record Fits (base window : ℕ) : Type 0 where
  pub low : base < 2 ^ 32
  pub some : 1 ≤ window
  pub most : window ≤ 65536

pub window_fits : (base window : ℕ) → window_allowed base window ≡ true → Fits base window
unfolding window_allowed
window_fits base window e =
    let p₁ = and_parts (leb 64 window && leb window 65536 && eqb (window % 4) 0 && eqb (base % 4) 0) (leb (base + window) (2 ^ 32)) e in
    let p₂ = and_parts (leb 64 window && leb window 65536 && eqb (window % 4) 0) (eqb (base % 4) 0) p₁.0 in
    let p₃ = and_parts (leb 64 window && leb window 65536) (eqb (window % 4) 0) p₂.0 in
    let p₄ = and_parts (leb 64 window) (leb window 65536) p₃.0 in
    let a = leb-true 64 window p₄.0 in
    let b = leb-true window 65536 p₄.1 in
    let c = leb-true (base + window) (2 ^ 32) p₁.1 in
    record { low = omega arith; some = omega arith; most = b }

module _ (base window : ℕ) (events : List ℕ) where
  abbrev bytes : List ℕ
  bytes = stream_of base window events

  pub events_made : events_of bytes ≡ events
  unfolding stream_of word_bytes half_bytes
  events_made = refl

  module _ (fits : Fits base window) where
    pub base_made : base_of bytes ≡ base
    unfolding base_of stream_of word word_bytes half_bytes
    base_made = digits base fits.low

    pub window_made : window_of bytes ≡ window
    unfolding window_of stream_of word_bytes half_bytes
    window_made =
        let a = fits.some in
        let b = fits.most in
        omega arith

    pub header_good : window_allowed base window ≡ true → header_fault bytes ≡ false
    unfolding header_fault
    header_good e = rw (le-ltb (length bytes) 6 (omega (arith, length_stream base window events)), base_made, window_made, e)

-- ---- a header that is read is the one that is made

one_half : (s : List ℕ) → Bytes s → 2 ≤ length s → s ≡ half_bytes (half s 0) ++ drop 2 s
one_half [] b h = absurd (omega arith)
one_half (x ∷ []) b h = absurd (omega arith)
one_half (x ∷ y ∷ r) b h = rw (half_bytes_lem x y (b 0) (b 1))

pub header_same : (s : List ℕ) → Bytes s → 6 ≤ length s → stream_of (base_of s) (window_of s) (events_of s) ≡ s
unfolding stream_of base_of window_of
header_same s b h =
    let l = length-drop 4 s in
    let w : half s 4 + 1 - 1 ≡ half s 4 = omega arith in
    let behind : drop 4 s ≡ half_bytes (half s 4) ++ drop 6 s =
    one_half (drop 4 s) (bytes_drop 4 s b) (omega arith) ∙ rw (get_or-drop 4 s 0 0, get_or-drop 4 s 1 0, drop-drop 2 4 s) in
    rw w (sym (one_word s b (omega arith) ∙ ap (λ (r : List ℕ). word_bytes (word s 0) ++ r) behind))
