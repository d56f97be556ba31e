-- The line is its fields one behind the other. Assumes nothing.
use Prim.Native.Nat.{ℕ}
use mathlib.Core.Path.{◌≡◌}
use mathlib.Core.List.{List, ◌++◌}
use Rattle.text.specs.Text.{Text, written, put}
use Rattle.text.proofs.Laws.{put_then}
use Rattle.fields.specs.Fields.{each, number}
use Rattle.replies.specs.Replies.{newline}
use Rattle.list_reports.specs.ListReports.{listed}

pub listed_is : (t t₁ t₂ t₃ : List ℕ) (at end₁ end₂ end₃ : ℕ) (name : List ℕ) (n : ℕ) (s : List ℕ) (x : Text) → written end₁ t₁ ≡ put t at name
    → written end₂ t₂ ≡ put t₁ end₁ (number n) → written end₃ t₃ ≡ put t₂ end₂ (each number s) → x ≡ put t₃ end₃ newline → x ≡ put t at (listed name n s)
unfolding listed
listed_is t t₁ t₂ t₃ at end₁ end₂ end₃ name n s x e₁ e₂ e₃ h =
    let f = put_then t t₁ at end₁ name (number n) (written end₂ t₂) e₁ e₂ in
    let g = put_then t t₂ at end₂ (name ++ number n) (each number s) (written end₃ t₃) f e₃ in
    put_then t t₃ at end₃ (name ++ number n ++ each number s) newline x g h
