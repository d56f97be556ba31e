-- What export and import answer, as lists of numbers. Assumes nothing.
use Rattle.std.specs.Prelude.{ℕ, List, [], ◌∷◌, Result}
use Rattle.answer.specs.declared.Refusal.{Refusal}
use Rattle.pcap_export.specs.declared.Exported.{Exported}
use Rattle.pcap_import.specs.declared.Imported.{Imported}
use Rattle.pcap_export.specs.Export as of_export
use Rattle.pcap_import.specs.Import as of_import

abbrev pub exported_numbers : of_export.Answer → List ℕ
exported_numbers e = e.number ∷ e.bytes ∷ e.frames ∷ []

abbrev pub imported_numbers : of_import.Answer → List ℕ
imported_numbers i = i.number ∷ i.bytes ∷ i.frames ∷ []

-- of the answers as the code has them
abbrev pub exported_answer : Result Exported Refusal → List ℕ
exported_answer answer = exported_numbers (of_export.answer_of answer)

abbrev pub imported_answer : Result Imported Refusal → List ℕ
imported_answer answer = imported_numbers (of_import.answer_of answer)
