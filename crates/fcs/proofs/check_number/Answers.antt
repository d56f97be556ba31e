-- `fcs::check_number` meets its contract. Assumes nothing.
use mathlib.Core.Path.{sym, ap, ◌∙◌}
use Prim.Native.Nat.{ℕ, ◌-◌}
use Rattle.std.proofs.Common.{rules}
use Rattle.fcs.specs.ShiftRegister.{all_ones}
use Rattle.fcs.proofs.ByteIn.{bytes_bits}
use Rattle.fcs.proofs.Register.{by_register}
use Rattle.fcs.proofs.check_number.Goals as goal

pub returns : goal.returns
returns c =
    let s = c.args.bytes.now in
    ap (λ (x : ℕ). all_ones - x) (c.bytes_in.ensures ∙ bytes_bits s (search rules) all_ones) ∙ sym (by_register s)
