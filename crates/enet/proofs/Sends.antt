-- A single send: what it writes into the output, and what it leaves if it is refused. Assumes nothing.
use Prim.Native.Nat.{ℕ, suc, ◌≤◌}
use mathlib.Core.Path.{◌≡◌, refl}
use mathlib.Core.Logic.{◌≢◌, inr}
use mathlib.Core.List.{List}
use native.Mathlib.Omega.{arith}
use lib.ListN.{length, get_or}
use borrow.Author.Tests.{ltb-false}
use Rattle.memory.proofs.Stores.{length_store, byte_apart}
use Rattle.sending.specs.Sending.{wire_at}
use Rattle.sending.proofs.Laws.{wire_at_bounds}
use Rattle.enet.specs.declared.Enet.{Enet}
use Rattle.enet.specs.Send.{Sending, send}
use Rattle.enet.proofs.Ways.{refused, by_send}

-- what a single send leaves of the output, and that its bytes fit
pub record Written (out : List ℕ) (s : Sending) : Type 0 where
  pub fits : s.count ≤ length out
  pub same : length s.output ≡ length out
  pub rest : (j : ℕ) → s.count ≤ j → get_or s.output j 0 ≡ get_or out j 0

pub send_written : (d : Enet) (m out : List ℕ) → Written out (send d m out)
send_written d m out =
    let same : (n : ℕ) (e : Enet) → Written out (refused n e m out) = λ n e. record { fits = omega arith; same = refl; rest = λ j h. refl } in
    by_send (Written out) d m out (same 11 _) (same 9 _) (same 3 _) (same 7 _) (same 8 _) (same 12 _)
    (λ o h.
    let w = wire_at d.base m d.registers.tx.place in
    let most = (wire_at_bounds d.base m d.registers.tx.place h).1 in
    record {
      fits = omega (arith, most, ltb-false (length out) 1518 o);
      same = length_store out 0 w;
      rest = λ j l. byte_apart out 0 w j (inr (omega arith));
    })

-- "puts 64 to 1,518 bytes .. and returns their number"
pub sent_bounds : (d : Enet) (m out : List ℕ) → (send d m out).number ≡ 0 → (64 ≤ (send d m out).count) × ((send d m out).count ≤ 1518)
sent_bounds d m out =
    let no : (n k : ℕ) → n ≡ suc k → (e : Enet) → (refused n e m out).number ≡ 0 → (64 ≤ 0) × (0 ≤ 1518) = λ n k q e z. absurd (omega arith) in
    by_send (λ s. s.number ≡ 0 → (64 ≤ s.count) × (s.count ≤ 1518)) d m out
    (no 11 10 refl d) (no 9 8 refl d) (no 3 2 refl d) (no 7 6 refl d) (no 8 7 refl d) (no 12 11 refl d)
    (λ o h _. wire_at_bounds d.base m d.registers.tx.place h)

-- a single send that is refused
pub record Unsent (m out : List ℕ) (s : Sending) : Type 0 where
  pub memory : s.memory ≡ m
  pub output : s.output ≡ out
  pub count : s.count ≡ 0

pub send_unsent : (d : Enet) (m out : List ℕ) → (send d m out).number ≢ 0 → Unsent m out (send d m out)
send_unsent d m out = by_send (λ s. s.number ≢ 0 → Unsent m out s) d m out same same same same same same (λ _ _ h. absurd (h refl))
  where
    same : {n : ℕ} {e : Enet} → n ≢ 0 → Unsent m out (refused n e m out)
    same h = record { memory = refl; output = refl; count = refl }
