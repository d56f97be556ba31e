-- Laws of the lines: each is its fields one behind the other. Assumes nothing.
use Prim.Native.Nat.{ℕ}
use mathlib.Core.Path.{◌≡◌}
use mathlib.Core.List.{List, ◌++◌}
use Rattle.text.specs.Text.{Text, written, put}
use Rattle.fields.specs.Fields.{number, value}
use Rattle.text.proofs.Laws.{put_then}
use Rattle.replies.specs.Replies.{newline, said, numbered, valued}

-- the text before a line, the name that it begins with, and what the code has in the end
module _ (t t₁ : List ℕ) (at end₁ : ℕ) (name : List ℕ) (x : Text) (e₁ : written end₁ t₁ ≡ put t at name) where
  pub said_is : x ≡ put t₁ end₁ newline → x ≡ put t at (said name)
  unfolding said
  said_is h = put_then t t₁ at end₁ name newline x e₁ h

  module _ (t₂ : List ℕ) (end₂ : ℕ) where
    -- a name, and a field behind it
    pub two : (a : List ℕ) → written end₂ t₂ ≡ put t₁ end₁ a → written end₂ t₂ ≡ put t at (name ++ a)
    two a e₂ = put_then t t₁ at end₁ name a (written end₂ t₂) e₁ e₂

    pub numbered_is : (n : ℕ) → written end₂ t₂ ≡ put t₁ end₁ (number n) → x ≡ put t₂ end₂ newline → x ≡ put t at (numbered name n)
    unfolding numbered
    numbered_is n e₂ h = put_then t t₂ at end₂ (name ++ number n) newline x (two (number n) e₂) h

    pub valued_is : (v : ℕ) → written end₂ t₂ ≡ put t₁ end₁ (value v) → x ≡ put t₂ end₂ newline → x ≡ put t at (valued name v)
    unfolding valued
    valued_is v e₂ h = put_then t t₂ at end₂ (name ++ value v) newline x (two (value v) e₂) h
