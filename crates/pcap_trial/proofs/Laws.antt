-- What each function leaves, and its numbers. Assumes nothing.
use Prim.Native.Nat.{ℕ}
use mathlib.Core.Path.{◌≡◌}
use mathlib.Core.List.{List}
use Rattle.memory.specs.Memory.{store}
use Rattle.pcap_export.specs.Export.{Answer, exporting, export}
use Rattle.pcap_import.specs.Import.{importing, import}
use Rattle.pcap_import.specs.Import as of_import
use Rattle.pcap_trial.specs.Numbers.{exported_numbers, imported_numbers}

pub export_left : (list room next found after : List ℕ) (e : Answer) → exporting e next ≡ export list room → after ≡ store found 0 (exported_numbers e)
    → (next ≡ (export list room).room) × (after ≡ store found 0 (exported_numbers (export list room).exported))
export_left list room next found after e p q = (rw (← p), rw (← p) q)

pub import_left : (file events times events₁ times₁ found after : List ℕ) (i : of_import.Answer) → importing i events₁ times₁ ≡ import file events times
    → after ≡ store found 0 (imported_numbers i)
    → (events₁ ≡ (import file events times).events)
    × ((times₁ ≡ (import file events times).times) × (after ≡ store found 0 (imported_numbers (import file events times).imported)))
import_left file events times events₁ times₁ found after i p q = (rw (← p), (rw (← p), rw (← p) q))
