-- The ways out of `take` and `more`. Assumes nothing.
use Prim.Native.Nat.{ℕ, ◌+◌, ◌-◌, ◌^◌, ◌≤◌, ◌<◌}
use mathlib.Core.Path.{◌≡◌, refl, sym, ◌∙◌}
use mathlib.Core.Bool.{Bool, true, false, true≢false}
use mathlib.Core.List.{List}
use Rattle.std.specs.Prelude.{if◌then◌else◌, Option, Some, None, is_some}
use Rattle.std.specs.Bool.{then_some}
use lib.Dec.{ltb}
use native.Mathlib.Omega.{arith}
use borrow.Author.Tests.{lt-ltb, le-ltb, ne_eqb}
use lib.ListN.{length, drop, length-take, length-drop, take as front}
use Rattle.std.specs.Prelude.{Option, unwrap_or}
use Rattle.scanning.specs.Scanning.{index_of}
use Rattle.rules.proofs.Choices.{if_yes, if_no}
use Rattle.text.specs.Text.{written, put}
use Rattle.lines.specs.declared.Input.{Input}
use Rattle.lines.specs.Taking.{left, taken, take}
use Rattle.lines.specs.Reading.{over, refilled, read, More}

-- ---- a part that is taken

-- what is left of the chunk, up to its first line feed, and the buffer behind it
module _ (i : Input) (chunk line line' s p : List ℕ) (d n kept parts : ℕ) (ed : d ≡ i.to - i.from) (es : s ≡ front d (drop i.from chunk))
    (o : Option ℕ) (feed : unwrap_or o (length s) ≡ index_of 10 s) (en : n ≡ unwrap_or o (length s)) where
  found : n ≡ index_of 10 s
  found = en ∙ feed

  here : s ≡ left i chunk
  here = rw ed at es

  -- the line feed stands in the chunk
  module _ (k : length chunk ≡ 65_536) (h : n < length s) where
    feed_within : i.from + n < 65_536
    feed_within = omega (arith, simp (length-take, length-drop) at (rw es at h))

    pub feed_at : i.from + n < 2 ^ 64
    feed_at = omega (arith, feed_within)

    pub feed_behind : i.from + n + 1 < 2 ^ 64
    feed_behind = omega (arith, feed_within)

  module _ (ep : p ≡ front n (drop 0 s)) (t : written kept line' ≡ put line i.kept p) (eq : parts ≡ i.parts - 1) where
    put_here : written kept line' ≡ put line i.kept (front n s)
    put_here = rw ep at t

    pub part_ends : n < length s
        → taken (record { from = i.from + n + 1; to = i.to; kept = 0; ended = Some kept; parts = parts }) line' ≡ take i chunk line
    unfolding take
    part_ends h = rw (← here, ← found, ← put_here, lt-ltb n (length s) h, eq)

    pub part_goes_on : length s ≤ n
        → taken (record { from = 0; to = 0; kept = kept; ended = None; parts = parts }) line' ≡ take i chunk line
    unfolding take
    part_goes_on h = rw (← here, ← found, ← put_here, le-ltb n (length s) h, eq)

-- ---- a read

module _ (i : Input) (chunk : List ℕ) (b : Bool) (q : b ≡ is_some i.ended) where
  pub more_ended : b ≡ true → More i i chunk chunk
  more_ended y =
      let h : is_some i.ended ≡ true = sym q ∙ y in record {
        next = if_yes (is_some i.ended) i i (read i i.to) h refl;
        fits = λ e. absurd (true≢false (sym h ∙ e));
        stays = λ e. refl;
      }

  module _ (o : b ≡ false) (chunk' : List ℕ) where
    h : is_some i.ended ≡ false
    h = sym q ∙ o

    read_more : (r : Input) → r ≡ read i r.to → r.to ≤ length chunk' → More i r chunk chunk'
    read_more r e l = record {
      next = if_no (is_some i.ended) r i (read i r.to) h e;
      fits = λ e. l;
      stays = λ e. absurd (true≢false (sym e ∙ h));
    }

    pub more_over : (e : Option ℕ) → e ≡ then_some (ltb 0 i.kept) i.kept
        → More i (record { from = 0; to = 0; kept = 0; ended = e; parts = 0 }) chunk chunk'
    unfolding read
    more_over e p = rw p (read_more (over i) refl (omega arith))

    pub more_refilled : (n : ℕ) → (n ≡ 0 → ⊥) → n ≤ length chunk' → More i (refilled i n) chunk chunk'
    unfolding read
    more_refilled n z l = read_more (refilled i n) (rw (ne_eqb n 0 z)) l
