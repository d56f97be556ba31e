-- A recorded day as the code captures it, event by event. Assumes nothing.
use Rattle.std.specs.Prelude.{ℕ, suc, ◌/◌, ◌%◌, Bool, true, false, List, [], ◌∷◌, eqb, take, drop}
use Rattle.std.specs.Prelude.{if◌then◌else◌}
use Rattle.appending.specs.Put.{Put, put}
use Rattle.event.specs.Event.{Event, register_write, grant, frame, send}
use Rattle.event.specs.declared.Found.{Found}
use Rattle.event.specs.declared.Found.TheVariants.{RegisterWrite, Grant, Frame, Send, Cut, NoEvent}
use Rattle.enet.specs.Device.{new}
use Rattle.calls.specs.Calls.{Bench}
use Rattle.playback.specs.Playing.{Acting, bench_of, act, act_as}
use Rattle.pcap.specs.Capture.{Captured}
use Rattle.pcap_list.specs.Entries.{entry_bytes}
use Rattle.capturing.specs.declared.Kept.{Kept}
use Rattle.capturing.specs.declared.Day.{Day}

-- "The time of a frame is its event's number from 0, in microseconds; the seconds are its millions."
abbrev pub timed : ℕ → List ℕ → Captured
timed i f = record { seconds = i / 1000000; microseconds = i % 1000000; frame = f }

-- ---- the list

-- how far it is, and its bytes
pub record Listing : Type 0 where
  pub bytes : ℕ
  pub full : Bool
  pub list : List ℕ

abbrev pub kept : Kept → List ℕ → Listing
kept k l = record { bytes = k.bytes; full = k.full; list = l }

-- an entry that was put behind the others, or had no room
abbrev pub behind_put : ℕ → Put → Listing
behind_put bytes p =
    if eqb p.end 0
    then record { bytes = bytes; full = true; list = p.list }
    else record { bytes = p.end; full = false; list = p.list }

-- the frame of event i, if its call answered 0; once one had no room, none
unfoldable pub keep : Listing → ℕ → ℕ → List ℕ → Listing
keep l number i f =
    if eqb number 0
    then (if l.full then l else behind_put l.bytes (put l.list l.bytes (entry_bytes (timed i f))))
    else l

-- ---- the day

pub record Capturing : Type 0 where
  pub bench : Bench
  pub output : List ℕ
  pub listing : Listing

abbrev pub capturing : Day → List ℕ → List ℕ → List ℕ → Capturing
capturing d memory output list =
    record { bench = bench_of d.device memory; output = output; listing = kept d.kept list }

abbrev pub keep_of : Listing → ℕ → Event → Acting → Listing
keep_of l i (frame bytes) a = keep l a.number i bytes
keep_of l i send a = keep l a.number i (take a.count a.output)
keep_of l i (register_write offset value) a = l
keep_of l i (grant address) a = l

-- event i
abbrev pub step : Capturing → ℕ → Event → Capturing
step c i e =
    let a = act c.bench c.output e in
    record { bench = a.bench; output = a.output; listing = keep_of c.listing i e a }

-- all events, from number i on
unfoldable pub capture_all : Capturing → ℕ → List Event → Capturing
capture_all c i [] = c
capture_all c i (e ∷ es) = capture_all (step c i e) (suc i) es

-- what `keep_of` keeps, of an event as the code found it in a list of bytes, with its call's number and the bytes that it sent
abbrev pub keep_found : Listing → ℕ → List ℕ → Found → ℕ → List ℕ → Listing
keep_found l i list (Frame start n) number sent = keep l number i (take n (drop start list))
keep_found l i list Send number sent = keep l number i sent
keep_found l i list (RegisterWrite offset value) number sent = l
keep_found l i list (Grant address) number sent = l
keep_found l i list Cut number sent = l
keep_found l i list NoEvent number sent = l

unfoldable pub next : Capturing → ℕ → List ℕ → Found → Capturing
next c i list found =
    let a = act_as c.bench c.output list found in
    record { bench = a.bench; output = a.output; listing = keep_found c.listing i list found a.number (take a.count a.output) }

-- ---- on a new bench, with no entry in the list

abbrev pub begun : ℕ → ℕ → List ℕ → List ℕ → List ℕ → Capturing
begun base window memory output list =
    record {
      bench = bench_of (new base window).device memory;
      output = output;
      listing = record { bytes = 0; full = false; list = list };
    }
