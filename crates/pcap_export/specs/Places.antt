-- What the code has in hand where it puts the records. Assumes nothing.
use Rattle.std.specs.Prelude.{ℕ, ◌≡◌, List}
use Rattle.pcap_list.specs.Entries.{entries_of}
use Rattle.pcap_export.specs.Export.{first_wrong}

-- no frame of the list is wrong
abbrev pub NoneWrong : List ℕ → Type 0
NoneWrong list = first_wrong (entries_of list) ≡ 0
