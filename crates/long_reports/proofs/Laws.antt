-- Laws of the lines of four fields: each is its fields one behind the other. Assumes nothing.
use Prim.Native.Nat.{ℕ}
use mathlib.Core.Path.{◌≡◌}
use mathlib.Core.Bool.{Bool, true, false}
use Rattle.std.specs.Int.{from_bool}
use mathlib.Core.List.{List, ◌++◌}
use Rattle.text.specs.Text.{Text, written, put}
use Rattle.text.proofs.Laws.{put_then}
use Rattle.fields.specs.Fields.{number, value, bytes}
use Rattle.replies.specs.Replies.{newline}
use Rattle.long_reports.specs.LongReports.{counts, ran, engine, engines}

pub ran_is : (t t₁ t₂ t₃ : List ℕ) (at end₁ end₂ end₃ : ℕ) (name : List ℕ) (n steps count : ℕ) (s : List ℕ) (x : Text)
    → written end₁ t₁ ≡ put t at name → written end₂ t₂ ≡ put t₁ end₁ (counts n steps count) → written end₃ t₃ ≡ put t₂ end₂ (bytes s)
    → x ≡ put t₃ end₃ newline → x ≡ put t at (ran name n steps count s)
unfolding ran
ran_is t t₁ t₂ t₃ at end₁ end₂ end₃ name n steps count s x e₁ e₂ e₃ h =
    let f = put_then t t₁ at end₁ name (counts n steps count) (written end₂ t₂) e₁ e₂ in
    let g = put_then t t₂ at end₂ (name ++ counts n steps count) (bytes s) (written end₃ t₃) f e₃ in
    put_then t t₃ at end₃ (name ++ counts n steps count ++ bytes s) newline x g h

pub counts_is : (t t₁ t₂ : List ℕ) (at end₁ end₂ n n' steps steps' count : ℕ) (x : Text) → n' ≡ n → written end₁ t₁ ≡ put t at (number n')
    → steps' ≡ steps → written end₂ t₂ ≡ put t₁ end₁ (number steps') → x ≡ put t₂ end₂ (number count) → x ≡ put t at (counts n steps count)
unfolding counts
counts_is t t₁ t₂ at end₁ end₂ n n' steps steps' count x p e₁ q e₂ h =
    let f = put_then t t₁ at end₁ (number n) (number steps) (written end₂ t₂) (rw p at e₁) (rw q at e₂) in
    put_then t t₂ at end₂ (number n ++ number steps) (number count) x f h

pub engines_is : (t t₁ t₂ t₃ : List ℕ) (at end₁ end₂ end₃ : ℕ) (name : List ℕ) (rx tx : Bool) (p q : ℕ) (x : Text) → written end₁ t₁ ≡ put t at name
    → written end₂ t₂ ≡ put t₁ end₁ (engine rx p) → written end₃ t₃ ≡ put t₂ end₂ (engine tx q) → x ≡ put t₃ end₃ newline
    → x ≡ put t at (engines name rx p tx q)
unfolding engines
engines_is t t₁ t₂ t₃ at end₁ end₂ end₃ name rx tx p q x e₁ e₂ e₃ h =
    let f = put_then t t₁ at end₁ name (engine rx p) (written end₂ t₂) e₁ e₂ in
    let g = put_then t t₂ at end₂ (name ++ engine rx p) (engine tx q) (written end₃ t₃) f e₃ in
    put_then t t₃ at end₃ (name ++ engine rx p ++ engine tx q) newline x g h

-- whether an engine runs, as a number
pub engine_is : (t t₁ : List ℕ) (at end₁ n place : ℕ) (running : Bool) (x : Text) → n ≡ from_bool running → written end₁ t₁ ≡ put t at (number n)
    → x ≡ put t₁ end₁ (value place) → x ≡ put t at (engine running place)
unfolding engine
engine_is t t₁ at end₁ n place true x q e h = rw q at (put_then t t₁ at end₁ (number n) (value place) x e h)
engine_is t t₁ at end₁ n place false x q e h = rw q at (put_then t t₁ at end₁ (number n) (value place) x e h)
