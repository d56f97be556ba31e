-- Laws of a burst from a line into lent memory. Assumes nothing.
use Prim.Native.Nat.{ℕ, zero, suc, ◌≤◌, min}
use mathlib.Core.Path.{◌≡◌, refl, ap, ◌∙◌}
use mathlib.Core.List.{List, ◌++◌}
use native.Mathlib.Omega.{arith}
use lib.ListN.{length, take, drop, replicate}
use Rattle.memory.specs.Memory.{store}
use Rattle.memory.proofs.Stores.{part_back}
use Rattle.enet.specs.declared.Answered.{Answered}
use Rattle.pair.specs.Turn.{bursting}
use Rattle.burst.specs.Burst.{burst_of}
use Rattle.words.specs.Words.{characters, first, rest}
use Rattle.forms.specs.Pairs.{named, decoded, decode}
use Rattle.forms.proofs.NamedLaws.{named_is}
use Rattle.pair_words.specs.PairWords.{every_other}
use Rattle.text.specs.Text.{written, put}
use Rattle.list_reports.specs.ListReports.{listed}
use Rattle.commands.specs.declared.Console.{Console}
use Rattle.commands.specs.declared.Told.{Told}
use Rattle.commands.specs.Answers.{Given, with_device, given, tells}
use Rattle.commands.specs.Commands.{answer_list, starts, lengths, burst}

-- ---- the call

module _ (c : Console) (m l' all out' s ss ns t t' : List ℕ) (at end n k room : ℕ) (r : Told) where
  pub call_made : take n m ≡ take c.lent m → drop n m ≡ drop c.lent m → all ≡ replicate 66 99 → take k all ≡ take room all → (a : Answered)
      → bursting a l' out' ≡ burst_of c.device (take n m) s ss ns (take k all)
      → written end t' ≡ put t at (listed (characters "burst") a.number out') → r ≡ record { console = with_device c a.device; end = end }
      → given r (l' ++ drop n m) t' ≡ tells (burst c m s ss ns (answer_list room)) t at
  unfolding burst
  call_made seen kept longest cut a e h q =
      let f : bursting a l' out' ≡ burst_of c.device (take c.lent m) s ss ns (answer_list room) = rw (seen, cut, longest) at e in
      rw (q, ← f) (λ j. record { console = with_device c a.device; memory = l' ++ kept j; text = h j })

-- ---- its lists

length_every_other : (n : ℕ) (s : List ℕ) → length (every_other n s) ≡ n
unfolding every_other
length_every_other zero s = refl
length_every_other (suc n) s = ap suc (length_every_other n (rest (rest s)))

pub numbers_are : (n : ℕ) (s out out' : List ℕ) → n ≤ length out → out' ≡ store out 0 (every_other n s) → take n out' ≡ every_other n s
numbers_are n s out out' h e =
    let l = length_every_other n s in
    let b : take (length (every_other n s)) (store out 0 (every_other n s)) ≡ every_other n s = part_back out 0 (every_other n s) (omega arith) in
    rw e (rw l at b)

-- START and LENGTH of each pair, with the words behind BYTES in hand
module _ (line v w : List ℕ) (count p : ℕ) (e₁ : v ≡ rest line) (e₂ : w ≡ rest v) (k : p ≡ min count 66) (behind : List ℕ) (e₃ : behind ≡ rest w) where
  starts_are : (l : List ℕ) → take p l ≡ every_other p behind → take p l ≡ starts count line
  starts_are l h = rw (← e₁, ← e₂, ← e₃, ← k) h

  lengths_are : (s l : List ℕ) → s ≡ rest behind → take p l ≡ every_other p s → take p l ≡ lengths count line
  lengths_are s l e h = rw (← e₁, ← e₂, ← e₃, ← e, ← k) h

  pub burst_made : (c : Console) (m t : List ℕ) (at room : ℕ) (x : Given) (word out out' st s ss ns : List ℕ) (n : ℕ) → 2048 ≡ length out → word ≡ first w
      → decoded n out' ≡ decode word out → st ≡ take n out' → take p ss ≡ every_other p behind → s ≡ rest behind → take p ns ≡ every_other p s
      → x ≡ tells (burst c m st (take p ss) (take p ns) (answer_list room)) t at
      → x ≡ tells (burst c m (named (first (rest (rest line)))) (starts count line) (lengths count line) (answer_list room)) t at
  burst_made c m t at room x word out out' st s ss ns n l f d q hs e hn h =
      let g : st ≡ named (first w) = q ∙ named_is word out out' n l d ∙ ap named f in
      let i : first w ≡ first (rest (rest line)) = rw (e₂, e₁) in
      rw (← i, ← g, ← starts_are ss hs, ← lengths_are s ns e hn) h
