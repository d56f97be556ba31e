-- What the capture of a day has, where the list has room for it; and that the day is the day that is played. Assumes nothing.
use Rattle.std.specs.Prelude.{ℕ, ◌≤◌, ◌<◌, ◌≡◌, true, false, List, length}
use Rattle.memory.specs.Memory.{store}
use Rattle.event.specs.Event.{Event}
use Rattle.playback.specs.Playing.{bench_of, play}
use Rattle.enet.specs.Device.{new}
use Rattle.pcap_list.specs.Entries.{list_bytes}
use Rattle.captured_days.specs.Captured.{captured_from}
use Rattle.capturing.specs.Capturing.{capture_all, begun}

-- of a day on a new bench, into a list
pub record Captures (base window : ℕ) (memory output list : List ℕ) (es : List Event) : Type 0 where
  -- the day that is played
  pub same_bench : (capture_all (begun base window memory output list) 0 es).bench ≡ (play (bench_of (new base window).device memory) output es).bench
  pub same_output : (capture_all (begun base window memory output list) 0 es).output ≡ (play (bench_of (new base window).device memory) output es).output
  -- its delivered and sent frames, in their order and with their times, and nothing else
  pub frames :
      let bytes = list_bytes (captured_from 0 (bench_of (new base window).device memory) output es) in
      length bytes ≤ length list
      → (capture_all (begun base window memory output list) 0 es).listing
      ≡ record { bytes = length bytes; full = false; list = store list 0 bytes }
  -- or it is told that they have no room
  pub full :
      let bytes = list_bytes (captured_from 0 (bench_of (new base window).device memory) output es) in
      length list < length bytes
      → (capture_all (begun base window memory output list) 0 es).listing.full ≡ true

abbrev pub CapturesAll : Type 0
CapturesAll = (base window : ℕ) (memory output list : List ℕ) (es : List Event) → Captures base window memory output list es
