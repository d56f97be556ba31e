-- An event list and its bytes. Assumes nothing.
use Prim.Native.Nat.{ℕ, zero, suc, ◌≤◌, ◌<◌}
use mathlib.Core.Path.{◌≡◌, refl, sym, ap, ◌∙◌}
use mathlib.Core.Bool.{false, true≢false}
use mathlib.Core.List.{List, [], ◌∷◌, ◌++◌}
use native.Mathlib.Omega.{arith}
use lib.Dec.{eqb}
use lib.ListN.{length, get_or, drop, length-append, length-drop}
use lib.Seq.{drop_at}
use borrow.Author.Tests.{ne_eqb, eqb-true, eqb-false}
use Rattle.rules.proofs.Choices.{by_bool}
use Rattle.block_forms.specs.Forms.{Bytes}
use Rattle.event.specs.Event.{Event, register_write, grant, frame, send, bytes_of, list_of, size}
use Rattle.event.specs.Front.{whole, front}
use Rattle.event.specs.Sizes.{size_of, begins}
use Rattle.event.specs.Walk.{Walk, ended, walks, walk, ending_by}
use Rattle.event.specs.declared.Ending.TheVariants.{Whole}
use Rattle.event.specs.declared.Walked.{Walked}
use Rattle.event.proofs.Laws.{stop}
use Rattle.trace_writing.specs.Writing.{is_whole}
use Rattle.trace_forms.specs.Events.{AllStorable, EventsBack, EventsForm, OneList}
use Rattle.trace_forms.proofs.Bytewise.{bytes_drop}
use Rattle.trace_forms.proofs.Fronts.{length_bytes, front_back, whole_front}

some_bytes : (e : Event) → 1 ≤ size e
some_bytes (register_write offset value) = omega arith
some_bytes (grant address) = omega arith
some_bytes (frame bytes) = omega arith
some_bytes send = omega arith

-- ---- a walk, event by event

walks_none : (f : ℕ) → walks f [] ≡ ended Whole
unfolding walks
walks_none zero = refl
walks_none (suc f) = refl

walks_some : (f : ℕ) (s : List ℕ) (e : Event) → 0 < length s → front s ≡ whole e
    → walks (suc f) s ≡ record { events = e ∷ (walks f (drop (size e) s)).events; ending = (walks f (drop (size e) s)).ending }
unfolding walks
walks_some f s e l is = rw (ne_eqb (length s) 0 (λ q. omega arith), is)

-- bytes with no whole event in front are no whole list
not_whole : (f : ℕ) (s : List ℕ) → 0 < length s → length s ≤ f → size_of (front s) ≡ 0 → (walks f s).ending ≡ Whole → ⊥
unfolding ending_by
not_whole f s l h z e =
    let w : (walks f s).ending ≡ ending_by (get_or s 0 0) (length s) = ap (λ (x : Walked). x.ending) (stop f s h z) in
    let no : is_whole (ending_by (get_or s 0 0) (length s)) ≡ false =
    rw (ne_eqb (length s) 0 (λ q. omega arith)) (by_bool (begins (get_or s 0 0)) (λ t. rw t) (λ t. rw t)) in
    true≢false (ap is_whole (sym e ∙ w) ∙ no)

-- ---- there and back

walks_back : (f : ℕ) (es : List Event) → AllStorable es → length (list_of es) ≤ f → walks f (list_of es) ≡ record { events = es; ending = Whole }
unfolding list_of
walks_back f [] s h = walks_none f
walks_back zero (e ∷ es) s h = absurd (omega (arith, length-append (bytes_of e) (list_of es), length_bytes e, some_bytes e))
walks_back (suc f) (e ∷ es) s h =
    let l = length-append (bytes_of e) (list_of es) in
    let b = length_bytes e in
    let n = some_bytes e in
    walks_some f (bytes_of e ++ list_of es) e (omega arith) (front_back e (list_of es) s.0)
    ∙ rw (drop_at (bytes_of e) (list_of es) (size e) b, walks_back f es s.1 (omega arith))

pub events_back : EventsBack
events_back es s = walks_back (length (list_of es)) es s (omega arith)

pub one_list : OneList
one_list ds es a b e = ap (λ (w : Walk). w.events) (sym (events_back ds a) ∙ ap walk e ∙ events_back es b)

walks_form : (f : ℕ) (s : List ℕ) → Bytes s → length s ≤ f → (walks f s).ending ≡ Whole
    → (list_of (walks f s).events ≡ s) × AllStorable (walks f s).events
unfolding list_of
walks_form zero [] b h e = rw (walks_none zero) (refl, tt)
walks_form zero (x ∷ r) b h e = absurd (omega arith)
walks_form (suc f) [] b h e = rw (walks_none (suc f)) (refl, tt)
walks_form (suc f) (x ∷ r) b h e =
    by_bool (eqb (size_of (front (x ∷ r))) 0) (λ t. absurd (not_whole (suc f) (x ∷ r) (omega arith) h (eqb-true _ 0 t) e))
    (λ t.
    let w = whole_front x r b (eqb-false (size_of (front (x ∷ r))) 0 t) in
    let n = some_bytes w.event in
    let l = length-drop (size w.event) (x ∷ r) in
    let step = walks_some f (x ∷ r) w.event (omega arith) w.is in
    let i = walks_form f (drop (size w.event) (x ∷ r)) (bytes_drop (size w.event) (x ∷ r) b) (omega arith) (rw step at e) in
    rw step (ap (λ (a : List ℕ). bytes_of w.event ++ a) i.0 ∙ sym w.same, (w.storable, i.1)))

pub events_form : EventsForm
events_form s b e =
    let w = walks_form (length s) s b (omega arith) e in
    record { same = w.0; storable = w.1 }
