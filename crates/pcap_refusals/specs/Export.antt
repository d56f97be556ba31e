-- 02, Wish 7: "Export takes whole frames, refuses a list not of its form in docs/, answers 4 or 5 for the first wrong one, and refuses
-- too little room." Assumes nothing.
use Rattle.std.specs.Prelude.{ℕ, ◌+◌, ◌≤◌, ◌<◌, ◌≡◌, true, false, ◌⊎◌, List, [], ◌∷◌, ◌++◌, length}
use Rattle.fcs.specs.CheckSequence.{check_right}
use Rattle.frame.specs.Length.{length_allowed}
use Rattle.pcap.specs.Capture.{Captured}
use Rattle.pcap_list.specs.Entries.{entries_of, of_its_form}
use Rattle.pcap_export.specs.Export.{export_number, export}

-- a whole frame, with a right check sequence
abbrev pub Right : List ℕ → Type 0
Right frame = (length_allowed (length frame) ≡ true) × (check_right frame ≡ true)

abbrev pub AllRight : List Captured → Type 0
AllRight [] = Unit
AllRight (c ∷ cs) = Right c.frame × AllRight cs

-- why a frame is wrong
abbrev pub Wrong : List ℕ → ℕ → Type 0
Wrong frame n =
    ((length_allowed (length frame) ≡ false) × (n ≡ 4))
    ⊎ ((length_allowed (length frame) ≡ true) × (check_right frame ≡ false) × (n ≡ 5))

-- the first one: all before it are right
pub record FirstWrong (cs : List Captured) (n : ℕ) : Type 0 where
  pub before : List Captured
  pub one : Captured
  pub behind : List Captured
  pub there : cs ≡ before ++ one ∷ behind
  pub right : AllRight before
  pub wrong : Wrong one.frame n

-- the situation of each number, in which it is given and no other. A file has 24 bytes more than its list
abbrev pub Says : List ℕ → ℕ → Type 0
Says list room =
    let n = export_number list room in
    let cs = entries_of list in
    ((of_its_form list ≡ false) × (n ≡ 29))
    ⊎ (((of_its_form list ≡ true) × FirstWrong cs n)
    ⊎ (((of_its_form list ≡ true) × AllRight cs × (room < 24 + length list) × (n ≡ 30))
    ⊎ ((of_its_form list ≡ true) × AllRight cs × (24 + length list ≤ room) × (n ≡ 0))))

abbrev pub Exactly : Type 0
Exactly = (list : List ℕ) (room : ℕ) → Says list room

-- a refusal makes no file and leaves the room as it was
abbrev pub ChangesNothing : Type 0
ChangesNothing =
    (list room : List ℕ)
    → let e = export list room in
    (e.exported.number ≡ 0 → ⊥)
    → (e.exported.bytes ≡ 0) × (e.exported.frames ≡ 0) × (e.room ≡ room)
