-- Laws of text: the ways out of `put`, and that one text behind another is one text. Assumes nothing.
use mathlib.Core.Path.{◌≡◌, refl, sym, ap, ◌∙◌}
use mathlib.Core.Bool.{Bool, true, false}
use mathlib.Core.List.{List, [], ◌++◌}
use Prim.Native.Nat.{ℕ, zero, suc, ◌+◌, ◌-◌, ◌≤◌, ◌<◌, min}
use native.Mathlib.Omega.{arith}
use borrow.Author.Tests.{le-leb, lt-leb, leb-true, leb-false}
use lib.Dec.{leb}
use lib.ListN.{length, length-append}
use Rattle.std.specs.Prelude.{if◌then◌else◌}
use Rattle.rules.proofs.Choices.{by_bool}
use Rattle.memory.specs.Memory.{store}
use Rattle.memory.proofs.Laws.{store_out}
use Rattle.memory.proofs.Stores.{length_store, store_append}
use Rattle.text.specs.Text.{Text, written, end_of, put}

-- ---- where text ends

pub end_past : (room at n : ℕ) → room < at → room ≡ end_of room at n
unfolding end_of
end_past room at n h = rw (lt-leb (at + n) room (omega arith))

pub end_short : (room at n : ℕ) → at ≤ room → room - at < n → room ≡ end_of room at n
unfolding end_of
end_short room at n h l = rw (lt-leb (at + n) room (omega arith))

pub end_fits : (room at n : ℕ) → at ≤ room → n ≤ room - at → at + n ≡ end_of room at n
unfolding end_of
end_fits room at n h l = rw (le-leb (at + n) room (omega arith))

module _ (t s t' : List ℕ) (at : ℕ) (e : t' ≡ store t at s) where
  put_of : (end : ℕ) → end ≡ end_of (length t') at (length s) → written end t' ≡ put t at s
  unfolding put
  put_of end h =
      let l : length t' ≡ length t = ap length e ∙ length_store t at s in
      rw (h, l, e)

  pub put_past : length t' < at → written (length t') t' ≡ put t at s
  put_past h = put_of (length t') (end_past (length t') at (length s) h)

  pub put_short : at ≤ length t' → length t' - at < length s → written (length t') t' ≡ put t at s
  put_short h l = put_of (length t') (end_short (length t') at (length s) h l)

  pub put_fits : at ≤ length t' → length s ≤ length t' - at → written (at + length s) t' ≡ put t at s
  put_fits h l = put_of (at + length s) (end_fits (length t') at (length s) h l)

pub ruleset ways = (put_past, put_short, put_fits)

-- ---- one text behind another

-- where the second begins it is stored whether the first had room or not
behind : (a b t : List ℕ) (at : ℕ) → store (store t at a) (end_of (length t) at (length a)) b ≡ store t at (a ++ b)
unfolding end_of
behind a b t at =
    by_bool (leb (at + length a) (length t))
    (λ e. rw e (store_append t at (at + length a) a b refl))
    (λ e.
    let l : length t < at + length a = leb-false (at + length a) (length t) e in
    rw e
    (sym (store_out (store t at a) (length t) b (omega (arith, length_store t at a)))
    ∙ store_out (store t at a) (at + length a) b (omega (arith, length_store t at a))
    ∙ store_append t at (at + length a) a b refl))

end_room : (room k : ℕ) → (if leb (room + k) room then room + k else room) ≡ room
end_room room zero = by_bool (leb (room + 0) room) (λ e. rw e (omega arith)) (λ e. rw e)
end_room room (suc k) = rw (lt-leb (room + suc k) room (omega arith))

end_within : (room at n : ℕ) → end_of room at n ≤ room
unfolding end_of
end_within room at n =
    by_bool (leb (at + n) room) (λ e. rw e (leb-true (at + n) room e)) (λ e. rw e (omega arith))

end_more : (room at n k : ℕ) → end_of room (end_of room at n) k ≡ end_of room at (n + k)
unfolding end_of
end_more room at n k =
    by_bool (leb (at + n) room)
    (λ e.
    let s : (at + n) + k ≡ at + (n + k) = omega arith in
    rw (e, s))
    (λ e.
    let l : room < at + n = leb-false (at + n) room e in
    let f : leb (at + (n + k)) room ≡ false = lt-leb (at + (n + k)) room (omega arith) in
    rw (e, f) (end_room room k))

put_put : (a b t : List ℕ) (at : ℕ) → put (store t at a) (end_of (length t) at (length a)) b ≡ put t at (a ++ b)
unfolding put
put_put a b t at = rw (length_store t at a, behind a b t at, end_more (length t) at (length a) (length b), length-append a b)

-- what was written behind a text
pub put_more : (t t' : List ℕ) (at end : ℕ) (a b : List ℕ) → written end t' ≡ put t at a → put t' end b ≡ put t at (a ++ b)
unfolding put
put_more t t' at end a b e =
    let p : end ≡ end_of (length t) at (length a) = ap (λ (x : Text). x.end) e in
    let q : t' ≡ store t at a = ap (λ (x : Text). x.buffer) e in
    rw (p, q) (put_put a b t at)

pub put_then : (t t' : List ℕ) (at end : ℕ) (a b : List ℕ) (x : Text) → written end t' ≡ put t at a → x ≡ put t' end b → x ≡ put t at (a ++ b)
put_then t t' at end a b x e h = h ∙ put_more t t' at end a b e

-- text ends within its buffer
pub put_within : (t t' : List ℕ) (at end : ℕ) (s : List ℕ) → written end t' ≡ put t at s → end ≤ length t'
unfolding put
put_within t t' at end s e =
    let p : end ≡ end_of (length t) at (length s) = ap (λ (x : Text). x.end) e in
    let q : t' ≡ store t at s = ap (λ (x : Text). x.buffer) e in
    let l : length t' ≡ length t = ap length q ∙ length_store t at s in
    omega (arith, end_within (length t) at (length s))

-- no text: it ends where the text before it did, or with the buffer
module _ (room at end : ℕ) (e : end ≡ min at room) where
  end_nothing : (b : Bool) → leb (at + 0) room ≡ b → end ≡ (if b then at + 0 else room)
  end_nothing true h = let f : at + 0 ≤ room = leb-true (at + 0) room h in omega arith
  end_nothing false h = let f : room < at + 0 = leb-false (at + 0) room h in omega arith

pub put_nothing : (t : List ℕ) (at end : ℕ) → end ≡ min at (length t) → written end t ≡ put t at []
unfolding put end_of store
put_nothing t at end e = λ j. record { end = end_nothing (length t) at end e (leb (at + 0) (length t)) refl j; buffer = t }
