-- Laws of the longer lines: each is its fields one behind the other. Assumes nothing.
use Prim.Native.Nat.{ℕ}
use mathlib.Core.Path.{◌≡◌}
use mathlib.Core.List.{List, ◌++◌}
use Rattle.text.specs.Text.{Text, written, put}
use Rattle.fields.specs.Fields.{number, value, bytes}
use Rattle.text.proofs.Laws.{put_then}
use Rattle.replies.specs.Replies.{newline}
use Rattle.replies.proofs.Laws.{two}
use Rattle.reports.specs.Reports.{read, held, shown}

-- the text before a line, the name that it begins with, and what the code has in the end
module _ (t t₁ : List ℕ) (at end₁ : ℕ) (name : List ℕ) (x : Text) (e₁ : written end₁ t₁ ≡ put t at name) where
  module _ (t₂ : List ℕ) (end₂ : ℕ) where
    pub held_is : (s : List ℕ) → written end₂ t₂ ≡ put t₁ end₁ (bytes s) → x ≡ put t₂ end₂ newline → x ≡ put t at (held name s)
    unfolding held
    held_is s e₂ h = put_then t t₂ at end₂ (name ++ bytes s) newline x (two t t₁ at end₁ name x e₁ t₂ end₂ (bytes s) e₂) h

    module _ (n n' : ℕ) (q : n' ≡ n) (e₂ : written end₂ t₂ ≡ put t₁ end₁ (number n')) (t₃ : List ℕ) (end₃ : ℕ) where
      three : (a : List ℕ) → written end₃ t₃ ≡ put t₂ end₂ a → written end₃ t₃ ≡ put t at (name ++ number n ++ a)
      three a e₃ = put_then t t₂ at end₂ (name ++ number n) a (written end₃ t₃) (two t t₁ at end₁ name x e₁ t₂ end₂ (number n) (rw q at e₂)) e₃

      pub read_is : (v : ℕ) → written end₃ t₃ ≡ put t₂ end₂ (value v) → x ≡ put t₃ end₃ newline → x ≡ put t at (read name n v)
      unfolding read
      read_is v e₃ h = put_then t t₃ at end₃ (name ++ number n ++ value v) newline x (three (value v) e₃) h

      pub shown_is : (s : List ℕ) → written end₃ t₃ ≡ put t₂ end₂ (bytes s) → x ≡ put t₃ end₃ newline → x ≡ put t at (shown name n s)
      unfolding shown
      shown_is s e₃ h = put_then t t₃ at end₃ (name ++ number n ++ bytes s) newline x (three (bytes s) e₃) h
