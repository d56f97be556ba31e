-- What the invariant says of the device, the memory and the three ways of a frame. Assumes nothing.
use Prim.Native.Nat.{ℕ, suc, ◌+◌, ◌≤◌, ◌<◌}
use mathlib.Core.Path.{◌≡◌, refl, sym, ap, ◌∙◌}
use mathlib.Core.Logic.{⊎_map, ◌≢◌}
use mathlib.Core.Bool.{true, false}
use mathlib.Core.List.{List}
use native.Mathlib.Omega.{arith}
use native.Mathlib.Nat.{add-zero}
use lib.ListN.{length}
use lib.Dec.{eqb}
use borrow.Author.Tests.{ne_eqb, eq-eqb, le-ltb}
use Rattle.rules.specs.Bit.{bit}
use Rattle.memory.specs.Memory.{word, store, store_word}
use Rattle.window.specs.Window.{lent, offset, in_window}
use Rattle.descriptor.specs.Descriptor.{count, next_enabled, start, next_word, next}
use Rattle.packet_status.specs.PacketStatus.{packet_status, granted, with_packet_status}
use Rattle.chain.specs.Buffer.{bytes_fault, buffer_fault}
use Rattle.frame.specs.Frame.{frame_number_by}
use Rattle.frame.proofs.Passed.{passed_short, by_frame}
use Rattle.reason.specs.Status.{delivered_status}
use Rattle.address_rule.specs.AddressRule.{address_rule}
use Rattle.enet.specs.declared.Enet.{Enet}
use Rattle.enet.specs.Device.{leaves, raised, with_rx, rx_not_granted, one_lost, one_delivered}
use Rattle.address.specs.Address.{polls}
use Rattle.engine.specs.declared.Engine.{Engine}
use Rattle.engine.specs.Engine.{with_place}
use Rattle.outcomes.specs.Outcomes.{rx_refused, rx_advanced}
use Rattle.receiving.specs.Receiving.{receive_number, delivered}
use Rattle.registers.specs.Registers.{rx_curr_done, packet_lost}
use Rattle.chain.specs.Chain.{chain_number}
use Rattle.receiving.specs.Receive as receiving
use Rattle.receiving.specs.Receive.{receive_at}
use Rattle.enet.specs.Frames.{of_received, receive}
use Rattle.engine.proofs.Laws.{polling_looks_again}
use Rattle.receiving.proofs.Laws.{frame_keeps}
use Rattle.calls.specs.Calls.{Bench}
use Rattle.steps.specs.Start.{in_order}
use Rattle.steps.specs.Steps.{brings}
use Rattle.rules.proofs.Choices.{by_bool}
use Rattle.window.proofs.Laws.{inside_yes}
use Rattle.address.proofs.Laws.{apart_yes}
use Rattle.links.proofs.Follow.{follow_next}
use Rattle.links.proofs.Sound.{Sound, whole, some, sound_at}
use Rattle.steps.proofs.Places.{RingSound, desc_at, buf_at}
use Rattle.steps.proofs.Invariant.{Inv}

-- what the address rule answers for a frame, by the registers of b, and the packet status word of its delivery
abbrev reason_of : Bench → List ℕ → ℕ
reason_of b f = address_rule b.device.registers.filter f

abbrev pub status_of : Bench → List ℕ → ℕ
status_of b f = delivered_status (reason_of b f) (length f)

-- what the delivery after v others leaves
unfoldable pub device_after : Bench → ℕ → Enet → ℕ → Enet
device_after b first d v =
    one_delivered (with_rx (raised d rx_curr_done) (with_place d.registers.rx (in_order b first (suc v)) true))

unfoldable pub memory_after : Bench → ℕ → List ℕ → ℕ → List ℕ → List ℕ
memory_after b first m v f = store_word (store m (buf_at b first v) f) (desc_at b first v + 12) (status_of b f)

-- a frame that is turned away is not lost
frame_not_lost : (reason : ℕ) (f : List ℕ) → eqb (frame_number_by reason f) 8 ≡ false
frame_not_lost reason f = by_frame (λ n. eqb n 8 ≡ false) reason f refl refl refl refl

module _ {b : Bench} {n first : ℕ} {sound : RingSound b n first} {d : Enet} {m gs : List ℕ} {v : ℕ} (i : Inv b n first sound d m gs v) where
  abbrev base₀ : ℕ
  base₀ = b.device.base

  abbrev m₀ : List ℕ
  m₀ = b.memory

  -- the descriptor at place t in ring order
  abbrev turn : ℕ → ℕ
  turn t = in_order b first t

  sound₀ : (t : ℕ) → Sound base₀ b.device.window m₀ (turn t)
  sound₀ t = sound_at base₀ b.device.window m₀ n first sound t

  pub some_now : 0 < n
  some_now = some base₀ b.device.window m₀ n first sound

  pub lent_now : lent d.window m ≡ true
  unfolding lent
  lent_now = eq-eqb _ _ (i.held.long ∙ whole base₀ b.device.window m₀ n first sound ∙ sym i.fixed.window)

  -- the words of a descriptor of the ring are those of the start
  word_now : (t k : ℕ) → v ≤ t → t < v + n → k ≤ 8 → word m (offset d.base (turn t) + k) ≡ word m₀ (offset base₀ (turn t) + k)
  unfolding desc_at
  word_now t k l u s = (λ j. word m (offset (i.fixed.base j) (turn t) + k)) ∙ i.held.fixed t k l u s

  control_now : (t : ℕ) → v ≤ t → t < v + n → word m (offset d.base (turn t)) ≡ word m₀ (offset base₀ (turn t))
  control_now t l u = simp add-zero at (word_now t 0 l u (omega arith))

  pub start_now : (t : ℕ) → v ≤ t → t < v + n → start d.base m (in_order b first t) ≡ start b.device.base b.memory (in_order b first t)
  unfolding start
  start_now t l u = word_now t 4 l u (omega arith)

  next_now : (t : ℕ) → v ≤ t → t < v + n → next d.base m (turn t) ≡ turn (suc t)
  unfolding next next_word
  next_now t l u = rw (word_now t 8 l u (omega arith)) (sym (follow_next base₀ m₀ t first))

  -- its polling bit too
  polled_now : (t : ℕ) → v ≤ t → t < v + n → polls (next_word d.base m (turn t)) ≡ true
  unfolding next_word
  polled_now t l u = rw (word_now t 8 l u (omega arith)) (sound₀ t).polled

  count_now : (t : ℕ) → v ≤ t → t < v + n → count d.base m (turn t) ≡ count base₀ m₀ (turn t)
  unfolding count
  count_now t l u = rw (control_now t l u)

  linked_now : (t : ℕ) → v ≤ t → t < v + n → next_enabled d.base m (turn t) ≡ true
  unfolding next_enabled
  linked_now t l u = rw (control_now t l u) (sound₀ t).linked

  pub granted_now : (t : ℕ) → granted d.base m (in_order b first t) ≡ bit 16 (word m (desc_at b first t + 12))
  unfolding granted packet_status desc_at
  granted_now t = λ j. bit 16 (word m (offset (i.fixed.base j) (turn t) + 12))

  inside_now : (t : ℕ) → in_window d.base d.window (turn t) 16 ≡ true
  inside_now t =
      (λ j. in_window (i.fixed.base j) (i.fixed.window j) (turn t) 16)
      ∙ inside_yes base₀ b.device.window (turn t) 16 (sound₀ t).low (sound₀ t).fits

  pub buffer_inside : (t k : ℕ) → k ≤ 1518 → in_window d.base d.window (start b.device.base b.memory (in_order b first t)) k ≡ true
  buffer_inside t k short =
      let s = sound₀ t in
      let r = s.room in
      let f = s.fits_buffer in
      (λ j. in_window (i.fixed.base j) (i.fixed.window j) (start base₀ m₀ (turn t)) k)
      ∙ inside_yes base₀ b.device.window (start base₀ m₀ (turn t)) k s.low_buffer (omega arith)

  no_fault : (t k : ℕ) → k ≤ 1518 → buffer_fault d.base d.window (turn t) (start base₀ m₀ (turn t)) (count base₀ m₀ (turn t)) k ≡ false
  unfolding buffer_fault bytes_fault
  no_fault t k short =
      let s = sound₀ t in
      let r = s.room in
      rw (
        s.flat,
        le-ltb (count base₀ m₀ (turn t)) k (omega arith),
        buffer_inside t k short,
        apart_yes (start base₀ m₀ (turn t)) k (turn t) 16 (⊎_map (λ a. omega arith) (λ a. a) s.own),
      )
      (by_bool (eqb k 0) (λ e. rw e) (λ e. rw e))

  -- ---- the three ways of a frame

  -- a path through the projections: `rw` by one of them would open d wherever it stands
  receive_now : (f : List ℕ)
      → receive d m f ≡ of_received d (receive_at d.base d.window d.registers true (turn v) (reason_of b f) m f)
  unfolding receive receiving.receive
  receive_now f = λ j.
      of_received d (receive_at d.base d.window d.registers (i.fixed.receiving j) (i.place j) (address_rule (i.fixed.filter j) f) m f)

  away : (f : List ℕ) → brings b f ≢ 0
      → receive_at d.base d.window d.registers true (turn v) (reason_of b f) m f ≡ receiving.leaves (brings b f) d.registers m
  unfolding receive_at receive_number
  away f ne = rw (lent_now, ne_eqb (brings b f) 0 ne, ne_eqb (brings b f) 0 ne, frame_keeps (reason_of b f) d.registers f)

  uncounted : (f : List ℕ) → brings b f ≢ 0 → of_received d (receiving.leaves (brings b f) d.registers m) ≡ leaves (brings b f) d m
  uncounted f ne = rw (ne_eqb (brings b f) 0 ne, frame_not_lost (reason_of b f) f)

  pub turned_away_lem : (f : List ℕ) → brings b f ≢ 0 → receive d m f ≡ leaves (brings b f) d m
  turned_away_lem f ne = receive_now f ∙ ap (of_received d) (away f ne) ∙ uncounted f ne

  -- with polling enabled the engine looks again
  looks_again : leaves 8 (one_lost (rx_not_granted (raised d packet_lost))) m ≡ leaves 8 (one_lost (raised d packet_lost)) m
  looks_again =
      ap (λ (e : Engine). leaves 8 (one_lost (with_rx (raised d packet_lost) e)) m) (sym (polling_looks_again d.registers.rx i.fixed.polling))

  pub lost_now : (f : List ℕ) → brings b f ≡ 0 → v ≡ length gs → receive d m f ≡ leaves 8 (one_lost (raised d packet_lost)) m
  unfolding receive_at receive_number chain_number rx_refused
  lost_now f pass used =
      let s = some_now in
      receive_now f ∙ rw (lent_now, pass, inside_now v, granted_now v, i.held.spent v (omega arith) (omega arith)) looks_again

  pub taken_now : (f : List ℕ) → brings b f ≡ 0 → v < length gs → receive d m f ≡ leaves 0 (device_after b first d v) (memory_after b first m v f)
  unfolding receive_at receive_number chain_number rx_advanced next delivered with_packet_status buf_at desc_at device_after memory_after
  taken_now f pass left =
      let s = some_now in
      receive_now f
      ∙ rw (
        lent_now,
        pass,
        inside_now v,
        granted_now v,
        i.held.ready v (omega arith) left,
        start_now v (omega arith) (omega arith),
        count_now v (omega arith) (omega arith),
        no_fault v (length f) (passed_short _ f pass),
        linked_now v (omega arith) (omega arith),
        next_now v (omega arith) (omega arith),
        polled_now v (omega arith) (omega arith),
      )
      (λ j.
      leaves 0 (one_delivered (with_rx (raised d rx_curr_done) (with_place d.registers.rx (turn (suc v)) true)))
      (store_word (store m (offset (i.fixed.base j) (start base₀ m₀ (turn v))) f) (offset (i.fixed.base j) (turn v) + 12) (status_of b f)))
