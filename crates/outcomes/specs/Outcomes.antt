-- 01, "Numbered results", "A frame in" and "A frame out", and 02, Wish 5: what a frame in and a frame out leave of the registers,
-- refused by a number or done. Assumes nothing.
use Rattle.std.specs.Prelude.{ℕ, Bool, eqb}
use Rattle.std.specs.Prelude.{if◌then◌else◌}
use Rattle.engine.specs.Engine.{stopped, led_to, not_granted}
use Rattle.registers.specs.declared.Registers.{Registers}
use Rattle.registers.specs.Registers.{raised, with_rx, with_tx, tx_curr_done, tx_done, rx_curr_done, rx_done, packet_lost}

-- ---- a frame in

-- what a refused frame leaves, by its number: row 7 "that engine stops, nothing else changed", row 8 "PACKET_LOST is set,
-- nothing else", amended by 02, Wish 5: "Without it, number 8, for sending too, also stops that engine"; the others "nothing
-- changed"
unfoldable pub rx_refused : ℕ → Registers → Registers
rx_refused n r =
    if eqb n 7 then with_rx r (stopped r.rx) else
    if eqb n 8 then with_rx (raised r packet_lost) (not_granted r.rx) else
    r

-- after a delivery: "RX_CURR_DONE is set. With next-enable the engine moves to the next address; without it RX_DONE is set
-- too and the engine stops." w is the descriptor's next word
unfoldable pub rx_advanced : Registers → Bool → ℕ → Registers
rx_advanced r linked w =
    if linked
    then with_rx (raised r rx_curr_done) (led_to r.rx w)
    else with_rx (raised (raised r rx_curr_done) rx_done) (stopped r.rx)

-- ---- a frame out

-- what a refused send leaves, by its number: row 7 "that engine stops", row 8 "send: nothing changed", amended by 02, Wish 5, as
-- above; row 12 "sending stops, nothing else changed", the others "nothing changed"
unfoldable pub tx_refused : ℕ → Registers → Registers
tx_refused n r =
    if eqb n 7 then with_tx r (stopped r.tx) else
    if eqb n 8 then with_tx r (not_granted r.tx) else
    if eqb n 12 then with_tx r (stopped r.tx) else
    r

-- after a send: "sets TX_CURR_DONE, and moves on as above, with TX_DONE at the end of a chain". w is the descriptor's next word
unfoldable pub tx_advanced : Registers → Bool → ℕ → Registers
tx_advanced r linked w =
    if linked
    then with_tx (raised r tx_curr_done) (led_to r.tx w)
    else with_tx (raised (raised r tx_curr_done) tx_done) (stopped r.tx)
