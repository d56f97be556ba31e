use Rattle.std.proofs.Common.{length, ap}
use native.Mathlib.Omega.{arith}
use Rattle.pieces.proofs.Options.{none_next, next_fits, one_next}
use Rattle.pcap_list.specs.Entries.{entry_size}
use Rattle.pcap_list.proofs.Laws.{fits}
use Rattle.pcap_list.proofs.EntriesIterator.next.Goals as goal

pub returns-in_err-n-clause-steps : goal.returns-in_err-n-clause-steps
returns-in_err-n-clause-steps c =
    let none = none_next entry_size fits c.args.self.now.left.now c.in_err-n.ensures in
    rw c.from_residual.ensures (none, none)

pub split_at-requires : goal.split_at-requires
split_at-requires c = next_fits entry_size fits _ _ c.in_ok-n.ensures

pub returns-clause-steps : goal.returns-clause-steps
returns-clause-steps c = one_next entry_size fits _ _ c.in_ok-n.ensures _ _ c.split_at.ensures.front c.split_at.ensures.back

pub returns-clause-goes : goal.returns-clause-goes
returns-clause-goes c =
    let one = one_next entry_size fits _ _ c.in_ok-n.ensures _ _ c.split_at.ensures.front c.split_at.ensures.back in
    let l = ap length one in
    record { on = λ f. (tt, tt, omega arith); keeps = tt; rests = λ f. tt }
