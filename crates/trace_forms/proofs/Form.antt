-- A trace without a bad block is the one that is made of its window and its events. Assumes nothing.
use Prim.Native.Nat.{ℕ, zero, suc, ◌+◌, ◌*◌, ◌-◌, ◌≤◌, ◌<◌}
use mathlib.Core.Path.{◌≡◌, refl, sym, ap, ◌∙◌}
use mathlib.Core.List.{List, ◌++◌}
use native.Mathlib.Omega.{arith}
use lib.Dec.{eqb, ltb}
use lib.ListN.{length, take, drop, length-take, length-drop}
use lib.Seq.{take_all, take-add, drop_at}
use borrow.Author.Tests.{eqb-true, ltb-true, ltb-false, le-ltb}
use Rattle.rules.proofs.Choices.{by_bool}
use Rattle.memory.proofs.Parts.{drop_take}
use Rattle.block.specs.Fields.{used_data}
use Rattle.block.specs.Made.{block_of}
use Rattle.block_forms.specs.Forms as blocks
use Rattle.block_forms.specs.Forms.{Bytes}
use Rattle.block_forms.proofs.One as one
use Rattle.stream.specs.Blocks.{block_at, block_count, is_last, fault_at, Sound}
use Rattle.stream.specs.Stream.{stream, base_of, window_of, events_of, event_bytes}
use Rattle.stream.proofs.Laws.{count_least}
use Rattle.stream.proofs.Sound.{length_full, length_last, front_of, place_of, byte_at}
use Rattle.trace.specs.Judge.{first_bad}
use Rattle.trace.proofs.Good.{look_given, sound, header_right, events_whole}
use Rattle.trace_writing.specs.Made.{blocks_for, blocks_of, trace_of}
use Rattle.trace_writing.specs.Writing.{is_whole, needed, write_number}
use Rattle.trace_writing.proofs.Putting.{blocks_more}
use Rattle.trace_writing.proofs.Ways.{Allowed}
use Rattle.trace_forms.specs.Forms.{OneForm, OneTrace}
use Rattle.trace_forms.proofs.Bytewise.{bytes_drop, bytes_take, past}
use Rattle.trace_forms.proofs.Header.{header_same}
use Rattle.trace_forms.proofs.Blockwise.{share}

-- ---- the blocks

-- no byte lies behind the last block
covers : (bytes : ℕ) → bytes ≤ 512 * block_count bytes
unfolding block_count
covers bytes = by_bool (eqb bytes 0) (λ u. let e = eqb-true bytes 0 u in rw u (omega arith)) (λ u. rw u (omega arith))

module _ (t : List ℕ) (bytes : Bytes t) (good : (first_bad t).number ≡ 0) where
  abbrev n : ℕ
  n = block_count (length t)

  abbrev s : List ℕ
  s = stream t n

  is_sound : Sound t n
  is_sound = sound t good

  some : 1 ≤ n
  some = count_least (length t)

  stream_bytes : Bytes s
  stream_bytes i =
      by_bool (ltb i (length s)) (λ u. rw (byte_at t n i is_sound (omega arith) (ltb-true i (length s) u)) (bytes (place_of t i)))
      (λ u. past s i (ltb-false i (length s) u))

  block_form : (k : ℕ) → k < n → blocks.Form (is_last t k) k (block_at t k)
  unfolding fault_at block_at
  block_form k l = one.one_form (is_last t k) k (block_at t k) (bytes_take 512 (drop (512 * k) t) (bytes_drop (512 * k) t bytes)) (is_sound k l)

  last_form : blocks.Form (is_last t (n - 1)) (n - 1) (block_at t (n - 1))
  last_form = let m = some in block_form (n - 1) (omega arith)

  length_is : length t ≡ 512 * n
  unfolding block_at
  length_is =
      let m = some in
      let c = covers (length t) in
      let w = last_form.whole in
      let a = length-take 512 (drop (512 * (n - 1)) t) in
      let b = length-drop (512 * (n - 1)) t in
      omega arith

  few : n ≤ 65536
  few = let f = last_form.number in omega arith

  -- as many blocks as their bytes need
  count_is : blocks_for (length s) ≡ n
  unfolding blocks_for
  count_is =
      let m = some in
      let z : suc (n - 1) ≡ n = omega arith in
      let l = rw z at (length_last t (n - 1) (rw z is_sound) (omega arith)) in
      let f = last_form in
      let a = f.some in
      let b = f.room in
      omega arith

  -- the used data of block k are its share of all
  used_share : (k : ℕ) → k < n → used_data (block_at t k) ≡ share s k
  unfolding stream
  used_share k l =
      let u = used_data (block_at t k) in
      let full = length_full t k (λ j m. is_sound j (omega arith)) l in
      let z : 504 * suc k - 504 * k ≡ 504 = omega arith in
      let front : stream t k ++ u ≡ take (504 * suc k) s = front_of t n k is_sound (omega arith) l in
      sym (drop_at (stream t k) u (504 * k) full) ∙ ap (drop (504 * k)) front ∙ drop_take (504 * k) (504 * suc k) s ∙ rw z

  -- the first k blocks
  front_made : (k : ℕ) → k ≤ n → take (512 * k) t ≡ blocks_of 0 k s
  unfolding blocks_of block_at
  front_made zero l = refl
  front_made (suc k) l =
      let a : 512 * k + 512 ≡ 512 * suc k = omega arith in
      let z : 0 + k ≡ k = omega arith in
      let b : take 512 (drop (512 * k) t) ≡ block_of k (share s k) = (block_form k l).same ∙ ap (block_of k) (used_share k l) in
      rw (← a) (take-add (512 * k) 512 t ∙ rw (front_made k (omega arith), b) (sym (rw z at (blocks_more k 0 s))))

  -- all of them
  pub made_of : t ≡ trace_of (base_of s) (window_of s) (events_of s)
  unfolding trace_of
  made_of =
      let m = length_is in
      rw (header_same s stream_bytes (header_right t good).0, count_is)
      (sym (take_all (512 * n) t (omega arith)) ∙ front_made n (omega arith))

  -- what writing asks for
  pub can_be : Allowed (base_of s) (window_of s) (events_of s) (length t)
  can_be =
      let h = header_right t good in
      let six = h.0 in
      let d : 6 + length (events_of s) ≡ length s = omega (arith, length-drop 6 s) in
      let e : needed (events_of s) ≡ n = ap blocks_for d ∙ count_is in
      let f = few in
      let l = length_is in
      record { whole = ap is_whole (events_whole t good); allows = h.1; few = omega arith; fits = omega arith }

-- ---- one form

not_refused : (base window : ℕ) (events : List ℕ) (room : ℕ) → Allowed base window events room → write_number base window events room ≡ 0
unfolding write_number
not_refused base window events room a =
    rw (a.whole, a.allows, le-ltb 65536 (needed events) a.few, le-ltb room (512 * needed events) a.fits)

pub one_form : OneForm
unfolding event_bytes
one_form t room bytes e =
    let g = look_given t room e in
    let s = stream t (block_count (length t)) in
    rw g.1.0
    (record {
      only = made_of t bytes g.0;
      written = not_refused (base_of s) (window_of s) (events_of s) (length t) (can_be t bytes g.0);
    })

pub one_trace : OneTrace
one_trace t u n m bt bu et eu base window events =
    (one_form t n bt et).only ∙ rw (base, window, events) (sym (one_form u m bu eu).only)
