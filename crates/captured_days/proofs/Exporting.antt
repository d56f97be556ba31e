-- The list of a day is exported. Assumes nothing.
use Prim.Native.Nat.{ℕ, suc, ◌+◌, ◌^◌, ◌≤◌, ◌<◌}
use mathlib.Core.Path.{◌≡◌, ◌∙◌}
use mathlib.Core.List.{List, [], ◌∷◌, ◌++◌}
use native.Mathlib.Omega.{arith}
use lib.Dec.{eqb}
use lib.ListN.{length, take}
use Rattle.rules.proofs.Choices.{by_bool, neither}
use Rattle.event.specs.Event.{Event, register_write, grant, frame, send}
use Rattle.calls.specs.Calls.{Bench}
use Rattle.playback.specs.Playing.{Acting, act}
use Rattle.pcap.specs.Capture.{Captured}
use Rattle.pcap_list.specs.Entries.{list_bytes}
use Rattle.pcap_export.specs.Export.{frame_fault, first_wrong}
use Rattle.pcap_forms.proofs.Back.{exports_all}
use Rattle.pcap_forms.proofs.Entries.{few_bytes, made_entries}
use Rattle.pcap_forms.proofs.Form.{room_enough}
use Rattle.pcap_forms.proofs.Records.{AllExportable}
use Rattle.captured_days.specs.Captured.{if_done, captured_of, captured_from}
use Rattle.captured_days.specs.Exported.{DaysExported}
use Rattle.captured_days.proofs.Right.{frames_right}

-- ---- times that four bytes each hold

if_done_fits : (number i : ℕ) (f : List ℕ) (cs : List Captured) → i < 2 ^ 32 → first_wrong (if_done number i f ++ cs) ≡ 0
    → (first_wrong cs ≡ 0 → AllExportable cs) → AllExportable (if_done number i f ++ cs)
unfolding first_wrong
if_done_fits number i f cs h =
    by_bool (eqb number 0)
    (λ t. rw t (λ e rest.
    let both = neither (frame_fault f) (first_wrong cs) e in
    (record { seconds = omega arith; microseconds = omega arith; right = both.0; few = few_bytes f both.0 }, rest both.1)))
    (λ t. rw t (λ e rest. rest e))

one_fits : (i : ℕ) (e : Event) (a : Acting) (cs : List Captured) → i < 2 ^ 32 → first_wrong (captured_of i e a ++ cs) ≡ 0
    → (first_wrong cs ≡ 0 → AllExportable cs) → AllExportable (captured_of i e a ++ cs)
one_fits i (register_write offset value) a cs h r rest = rest r
one_fits i (grant address) a cs h r rest = rest r
one_fits i (frame bytes) a cs h r rest = if_done_fits a.number i bytes cs h r rest
one_fits i send a cs h r rest = if_done_fits a.number i (take a.count a.output) cs h r rest

all_fit : (es : List Event) (b : Bench) (out : List ℕ) (i : ℕ) → i + length es ≤ 2 ^ 32 → first_wrong (captured_from i b out es) ≡ 0
    → AllExportable (captured_from i b out es)
unfolding captured_from
all_fit [] b out i h r = tt
all_fit (e ∷ es) b out i h r =
    let a = act b out e in
    one_fits i e a (captured_from (suc i) a.bench a.output es) (omega arith) r (all_fit es a.bench a.output (suc i) (omega arith))

-- ---- the file

pub days_exported : DaysExported
days_exported es b out room h l =
    let cs = captured_from 0 b out es in
    let fit : AllExportable cs = all_fit es b out 0 (omega arith) (frames_right es b out 0) in
    exports_all (list_bytes cs) room (room_enough cs room fit l) ∙ rw (made_entries cs fit)
