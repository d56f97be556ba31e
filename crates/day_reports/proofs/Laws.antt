-- Laws of these lines: each is its fields one behind the other. Assumes nothing.
use Prim.Native.Nat.{ℕ, ◌≤◌, ◌<◌}
use mathlib.Core.Path.{◌≡◌}
use mathlib.Core.List.{List, ◌++◌}
use borrow.Author.Tests.{le-leb, lt-leb}
use Rattle.words.specs.Words.{characters}
use Rattle.text.specs.Text.{Text, written, put}
use Rattle.fields.specs.Fields.{number, value}
use Rattle.text.proofs.Laws.{put_then}
use Rattle.replies.specs.Replies.{newline, numbered}
use Rattle.replies.proofs.Laws.{two}
use Rattle.day_reports.specs.DayReports.{placed, counted, refusal_says}

-- a name and two fields, and what the code has in the end
module _ (t t₁ : List ℕ) (at end₁ : ℕ) (name : List ℕ) (x : Text) (e₁ : written end₁ t₁ ≡ put t at name) (t₂ t₃ : List ℕ) (end₂ end₃ : ℕ) where
  fields_is : (a b : List ℕ) → written end₂ t₂ ≡ put t₁ end₁ a → written end₃ t₃ ≡ put t₂ end₂ b → x ≡ put t₃ end₃ newline → x ≡ put t at (name ++ a ++ b ++ newline)
  fields_is a b e₂ e₃ h =
      put_then t t₃ at end₃ (name ++ a ++ b) newline x
      (put_then t t₂ at end₂ (name ++ a) b (written end₃ t₃) (two t t₁ at end₁ name x e₁ t₂ end₂ a e₂) e₃) h

  pub placed_is : (v n : ℕ) → written end₂ t₂ ≡ put t₁ end₁ (value v) → written end₃ t₃ ≡ put t₂ end₂ (number n) → x ≡ put t₃ end₃ newline → x ≡ put t at (placed name v n)
  unfolding placed
  placed_is v n e₂ e₃ h = fields_is (value v) (number n) e₂ e₃ h

  pub counted_is : (a b : ℕ) → written end₂ t₂ ≡ put t₁ end₁ (number a) → written end₃ t₃ ≡ put t₂ end₂ (number b) → x ≡ put t₃ end₃ newline → x ≡ put t at (counted name a b)
  unfolding counted
  counted_is a b e₂ e₃ h = fields_is (number a) (number b) e₂ e₃ h

-- ---- a refusal

module _ (t : List ℕ) (at n block : ℕ) (x : Text) where
  pub refused_block : n ≤ 22 → x ≡ put t at (counted (characters "refused") n block) → x ≡ put t at (refusal_says n block)
  unfolding refusal_says
  refused_block h e = rw (le-leb n 22 h) e

  pub refused_alone : 22 < n → x ≡ put t at (numbered (characters "refused") n) → x ≡ put t at (refusal_says n block)
  unfolding refusal_says
  refused_alone h e = rw (lt-leb n 22 h) e
