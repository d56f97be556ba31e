-- 02, Wish 4: "one byte string for each event". Assumes nothing.
use Rattle.std.specs.Prelude.{ℕ, ◌^◌, ◌<◌, ◌≡◌, List, [], ◌∷◌, length}
use Rattle.block_forms.specs.Forms.{Bytes}
use Rattle.event.specs.Event.{Event, register_write, grant, frame, send, list_of}
use Rattle.event.specs.Walk.{walk}
use Rattle.event.specs.declared.Ending.TheVariants.{Whole}

-- an event as docs/TRACE.md lays it out: its numbers have four bytes, and a frame is bytes
abbrev pub Storable : Event → Type 0
Storable (register_write offset value) = (offset < 2 ^ 32) × (value < 2 ^ 32)
Storable (grant address) = address < 2 ^ 32
Storable (frame bytes) = (length bytes < 2 ^ 32) × Bytes bytes
Storable send = Unit

abbrev pub AllStorable : List Event → Type 0
AllStorable [] = Unit
AllStorable (e ∷ es) = Storable e × AllStorable es

-- a list's bytes are that list, and nothing behind it
abbrev pub EventsBack : Type 0
EventsBack = (es : List Event) → AllStorable es → walk (list_of es) ≡ record { events = es; ending = Whole }

-- bytes that are whole events are the bytes of those events, which all have their layout
pub record WholeList (s : List ℕ) : Type 0 where
  pub same : list_of (walk s).events ≡ s
  pub storable : AllStorable (walk s).events

abbrev pub EventsForm : Type 0
EventsForm = (s : List ℕ) → Bytes s → (walk s).ending ≡ Whole → WholeList s

-- no other list of events has the same bytes
abbrev pub OneList : Type 0
OneList = (ds es : List Event) → AllStorable ds → AllStorable es → list_of ds ≡ list_of es → ds ≡ es
