-- What a trace says, by the ways out of the code. Assumes nothing.
use Prim.Native.Nat.{ℕ, zero, suc, ◌+◌, ◌-◌, ◌/◌, ◌%◌, ◌^◌, ◌≤◌, ◌<◌}
use mathlib.Core.Path.{◌≡◌, refl, sym, ap, ◌∙◌}
use mathlib.Core.Bool.{Bool, true, false, not, ◌&&◌}
use mathlib.Core.List.{List}
use native.Mathlib.Omega.{arith}
use lib.Dec.{eqb, ltb}
use lib.ListN.{length, get_or, length-drop}
use lib.Seq.{take-length}
use borrow.Author.Tests.{eqb-true, eqb-false, eq-eqb, ne_eqb, ltb-true, ltb-false, lt-ltb, le-ltb}
use Rattle.rules.proofs.Choices.{by_bool, or_parts}
use Rattle.memory.specs.Memory.{word, store}
use Rattle.window.specs.Window.{window_allowed}
use Rattle.block.specs.Fields.{half}
use Rattle.event.specs.Walk.{walk, counted}
use Rattle.event.specs.declared.Walked.{Walked}
use Rattle.event.specs.declared.Ending.{Ending}
use Rattle.event.specs.declared.Ending.TheVariants.{Whole, Cut, NoEvent}
use Rattle.event.proofs.Laws.{place_fits}
use Rattle.prefixes.proofs.Prefixes.{stray, cut_short}
use Rattle.stream.specs.Blocks.{Fault, block_count, fault_at, first_fault, Sound}
use Rattle.stream.specs.Stream.{stream, base_of, window_of, events_of, event_bytes}
use Rattle.stream.proofs.Sound.{length_within, byte_at}
use Rattle.stream.proofs.Laws.{count_least, count_most}
use Rattle.trace.specs.Judge.{header_fault, first_bad}
use Rattle.trace.specs.Passes.{verdict, events_fault}
use Rattle.trace.specs.Reading.{Summary, refused, look, reading_of, read}
use Rattle.trace.proofs.Good.{look_gives}
use Rattle.trace.proofs.Judged.{bad_first, bad_header, bad_byte, bad_block, bad_end, all_good}

-- ---- the first pass

-- what it found out
pub record Tested (t : List ℕ) (f : Fault) : Type 0 where
  pub sound : Sound t f.block
  pub most : f.block ≤ block_count (length t)
  pub whole : f.number ≡ 0 → f.block ≡ block_count (length t)
  pub bad : (f.number ≡ 0 → ⊥) → (f.block < block_count (length t)) × (f.number ≡ fault_at t f.block)

tests : (t : List ℕ) (n k : ℕ) → k + n ≡ block_count (length t) → Sound t k → Tested t (first_fault t k n)
unfolding first_fault
tests t zero k e s = record { sound = s; most = omega arith; whole = λ z. omega arith; bad = λ h. absurd (h refl) }
tests t (suc n) k e s =
    by_bool (eqb (fault_at t k) 0)
    (λ u. rw u (tests t n (k + 1) (omega arith) (λ j l. by_bool (eqb j k) (λ v. rw (eqb-true j k v) (eqb-true (fault_at t k) 0 u)) (λ v. let d = eqb-false j k v in s j (omega arith)))))
    (λ u. rw u (record { sound = s; most = omega arith; whole = λ z. absurd (eqb-false (fault_at t k) 0 u z); bad = λ h. (omega arith, refl) }))

pub tested : (t : List ℕ) (f : Fault) → f ≡ first_fault t 0 (block_count (length t)) → Tested t f
tested t f e = rw e (tests t (block_count (length t)) 0 (omega arith) (λ j l. absurd (omega arith)))

-- what the next pass wants
pub sound_so_far : (t : List ℕ) (f : Fault) → f ≡ first_fault t 0 (block_count (length t)) → (f.block ≡ 0 → ⊥)
    → Sound t f.block × ((0 < f.block) × (f.block ≤ block_count (length t)))
sound_so_far t f e h = let r = tested t f e in let m = r.most in (r.sound, (omega arith, m))

-- the first pass as the code has it: what it found, and how many blocks are good
pub begun : (t : List ℕ) (f : Fault) (g : ℕ) → f ≡ first_fault t 0 (block_count (length t)) → g ≡ f.block
    → verdict f.number g ≡ first_fault t 0 (block_count (length t))
begun t f g e h = ap (verdict f.number) h ∙ e

-- block 0 is right where all blocks are
pub some_whole : (t : List ℕ) (n : ℕ) → verdict 0 n ≡ first_fault t 0 (block_count (length t)) → n ≡ 0 → ⊥
some_whole t n e z =
    let w = (tested t (verdict 0 n) e).whole refl in
    let some = count_least (length t) in
    absurd (omega arith)

-- ---- the header

module _ (t : List ℕ) (g : ℕ) (sound : Sound t g) (most : g ≤ block_count (length t)) (long : 6 ≤ length (stream t g)) where
  header_byte : (p : ℕ) → p < 6 → get_or (stream t g) p 0 ≡ get_or t (4 + p) 0
  header_byte p l =
      let a : p / 504 ≡ 0 = omega arith in
      let b : p % 504 ≡ p = omega arith in
      byte_at t g p sound most (omega arith) ∙ rw (a, b)

  pub base_there : word t 4 ≡ base_of (stream t g)
  unfolding word base_of
  base_there = rw (header_byte 0 (omega arith), header_byte 1 (omega arith), header_byte 2 (omega arith), header_byte 3 (omega arith))

  pub window_there : half t 8 + 1 ≡ window_of (stream t g)
  unfolding window_of
  window_there = rw (header_byte 4 (omega arith), header_byte 5 (omega arith))

module _ (t : List ℕ) (g : ℕ) (pre : Sound t g × ((0 < g) × (g ≤ block_count (length t)))) (end : ℕ) (e : end ≡ length (stream t g)) where
  pub header_cut : end < 6 → true ≡ header_fault (stream t g)
  unfolding header_fault
  header_cut l = rw (lt-ltb (length (stream t g)) 6 (omega arith))

  pub header_whole : 6 ≤ end → (base window : ℕ) → base ≡ word t 4 → window ≡ half t 8 + 1 → (r : Bool) → r ≡ window_allowed base window → not r ≡ header_fault (stream t g)
  unfolding header_fault
  header_whole l base window b w r a =
      let long : 6 ≤ length (stream t g) = omega arith in
      rw (le-ltb (length (stream t g)) 6 long, a, b, w, base_there t g pre.0 pre.1.1 long, window_there t g pre.0 pre.1.1 long)

-- ---- the second pass

-- a byte that no event can have lies before the end
stray_inside : (s : List ℕ) → stray (walk s).ending ≡ true → (counted (walk s)).place < length s
stray_inside s h =
    let e : stray (walk s).ending ≡ (stray (walk s).ending && ltb (counted (walk s)).place (length s)) =
    rw (take-length s) at (cut_short s (length s)) in
    ltb-true (counted (walk s)).place (length s) (sym (rw h at e))

module _ (t : List ℕ) (f : Fault) (r : Tested t f) (some : 0 < f.block) (header : header_fault (stream t f.block) ≡ false) where
  abbrev events : List ℕ
  events = events_of (stream t f.block)

  -- wrong by itself, behind events without a fault
  by_block : stray (walk events).ending ≡ false → (f.number ≡ 0 → ⊥) → first_bad t ≡ f
  by_block s h = let b = r.bad h in bad_block t f.block r.sound r.most header s b.0 f.number b.1 h

  by_ending : (e : Ending) → (walk events).ending ≡ e → first_bad t ≡ events_fault e (counted (walk events)).place f
  unfolding events_fault
  by_ending NoEvent q = let s : stray (walk events).ending ≡ true = rw q in bad_byte t f.block r.sound r.most header s (stray_inside events s)
  by_ending Cut q =
      let s : stray (walk events).ending ≡ false = rw q in
      by_bool (eqb f.number 0)
      (λ u.
      let z = eqb-true f.number 0 u in
      rw u (bad_end t f.block r.sound r.most header s (f.block - 1) (omega arith) (r.whole z) q))
      (λ u. rw u (by_block s (eqb-false f.number 0 u)))
  by_ending Whole q =
      let s : stray (walk events).ending ≡ false = rw q in
      by_bool (eqb f.number 0)
      (λ u.
      let z = eqb-true f.number 0 u in
      rw u (all_good t f.block r.sound r.most header s (f.block - 1) (omega arith) (r.whole z) q))
      (λ u. rw u (by_block s (eqb-false f.number 0 u)))

-- the verdict, as the code comes by it
pub judging : (e : Ending) (place : ℕ) (f : Fault) (g : ℕ) (bad : Fault) → g ≡ f.block → bad ≡ events_fault e place f
    → bad ≡ events_fault e place (verdict f.number g)
judging e place f g bad h q = q ∙ ap (events_fault e place) (sym (ap (verdict f.number) h))

-- ---- what is said

none_left : (e : Ending) (place : ℕ) (f : Fault) → (events_fault e place f).number ≡ 0 → f.number ≡ 0
unfolding events_fault
none_left NoEvent place f z = absurd (omega arith)
none_left Cut place f z = by_bool (eqb f.number 0) (λ u. eqb-true f.number 0 u) (λ u. rw u at z)
none_left Whole place f z = by_bool (eqb f.number 0) (λ u. eqb-true f.number 0 u) (λ u. rw u at z)

header_long : (s : List ℕ) → header_fault s ≡ false → 6 ≤ length s
unfolding header_fault
header_long s h = ltb-false (length s) 6 (or_parts (ltb (length s) 6) (not (window_allowed (base_of s) (window_of s))) h).0

module _ (t : List ℕ) (room : ℕ) where
  say_bad : (n b : ℕ) → first_bad t ≡ verdict n b → (n ≡ 0 → ⊥) → refused n b ≡ look t room
  unfolding look
  say_bad n b e h = rw e (rw (ne_eqb n 0 h))

  module _ (f : Fault) (e : f ≡ first_fault t 0 (block_count (length t))) where
    pub look_first : f.block ≡ 0 → (r : Summary) → r ≡ refused f.number 0 → r ≡ look t room
    look_first z r q =
        let u = tested t f e in
        let some = count_least (length t) in
        let h : f.number ≡ 0 → ⊥ = λ y. let w = u.whole y in absurd (omega arith) in
        let b : f.number ≡ fault_at t 0 = rw z at (u.bad h).1 in
        q ∙ say_bad f.number 0 (bad_first t f.number (omega arith) b h) h

    module _ (some : f.block ≡ 0 → ⊥) where
      pub look_header : (h : Bool) → h ≡ header_fault (stream t f.block) → h ≡ true → (r : Summary) → r ≡ refused 22 0 → r ≡ look t room
      look_header h a b r q =
          let u = tested t f e in
          q ∙ say_bad 22 0 (bad_header t f.block u.sound u.most (omega arith) (sym a ∙ b)) (λ y. absurd (omega arith))

      module _ (h : Bool) (a : h ≡ header_fault (stream t f.block)) (b : h ≡ false) (w : Walked) (c : w ≡ counted (walk (events_of (stream t f.block)))) (bad : Fault)
          (d : bad ≡ events_fault w.ending w.place f) where
        judged : first_bad t ≡ bad
        judged = by_ending t f (tested t f e) (omega arith) (sym a ∙ b) (walk (events_of (stream t f.block))).ending refl ∙ sym (d ∙ rw c)

        pub look_events : (bad.number ≡ 0 → ⊥) → (r : Summary) → r ≡ refused bad.number bad.block → r ≡ look t room
        look_events n r q = q ∙ say_bad bad.number bad.block judged n

        module _ (n : bad.number ≡ 0) (end : ℕ) (l : end ≡ length (stream t f.block)) where
          -- no block is bad, so the first pass went through all
          all_tested : f.block ≡ block_count (length t)
          all_tested = (tested t f e).whole (none_left w.ending w.place f (sym (ap (λ (x : Fault). x.number) d) ∙ n))

          bytes_there : end - 6 ≡ length (event_bytes t)
          unfolding event_bytes
          bytes_there = rw (l, ← all_tested) (sym (length-drop 6 (stream t f.block)))

          none_bad : (first_bad t).number ≡ 0
          none_bad = ap (λ (x : Fault). x.number) judged ∙ n

          pub look_room : room < end - 6 → (r : Summary) → r ≡ refused 23 0 → r ≡ look t room
          unfolding look
          look_room s r q =
              let y = bytes_there in
              q ∙ rw (eq-eqb (first_bad t).number 0 none_bad, lt-ltb room (length (event_bytes t)) (omega arith))

          pub look_good : end - 6 ≤ room → (base window : ℕ) → base ≡ word t 4 → window ≡ half t 8 + 1
              → ◌≡◌ {A = Summary} (record { number = 0; block = 0; base = base; window = window; bytes = end - 6; events = w.events }) (look t room)
          unfolding event_bytes
          look_good s base window x y =
              let u = tested t f e in
              let long = header_long (stream t f.block) (sym a ∙ b) in
              let z = bytes_there in
              rw (
                look_gives t room none_bad (omega arith),
                x,
                y,
                z,
                ← all_tested,
                c,
                base_there t f.block u.sound u.most long,
                window_there t f.block u.sound u.most long,
              )

-- ---- what the code's calls want on the way

module _ (t : List ℕ) (f : Fault) (e : f ≡ first_fault t 0 (block_count (length t))) (some : f.block ≡ 0 → ⊥) (h : Bool) (a : h ≡ header_fault (stream t f.block)) (b : h ≡ false) where
  pub header_there : (Sound t f.block × ((0 < f.block) × (f.block ≤ block_count (length t)))) × (6 ≤ length (stream t f.block))
  header_there = (sound_so_far t f e some, header_long (stream t f.block) (sym a ∙ b))

  pub place_there : (w : Walked) → w ≡ counted (walk (events_of (stream t f.block))) → length t < 2 ^ 63 → (6 + w.place < 2 ^ 64) × (0 < f.block)
  place_there w c l =
      let u = tested t f e in
      let long = length_within t f.block u.sound u.most in
      let most = u.most in
      let many = count_most (length t) in
      let p : w.place ≤ length (events_of (stream t f.block)) = rw c (place_fits (length (events_of (stream t f.block))) (events_of (stream t f.block))) in
      let d = length-drop 6 (stream t f.block) in
      (omega arith, omega arith)

-- ---- reading

module _ (t room next : List ℕ) (f : Summary) (e : f ≡ look t (length room)) where
  pub read_good : f.number ≡ 0 → next ≡ store room 0 (event_bytes t) → reading_of f next ≡ read t room
  unfolding read
  read_good z q = rw (← e, eq-eqb f.number 0 z, q)

  pub read_refused : (f.number ≡ 0 → ⊥) → next ≡ room → reading_of f next ≡ read t room
  unfolding read
  read_refused h q = rw (← e, ne_eqb f.number 0 h, q)
