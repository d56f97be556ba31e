use Rattle.std.proofs.Common.{refl}
use Rattle.pcap_import.proofs.Ways.{imports, refuses_too}
use Rattle.pcap_import.proofs.import.Goals as goal

pub returns-in_err-imported : goal.returns-in_err-imported
returns-in_err-imported c = refuses_too _ _ _ _ c.in_err-imported.ensures _ _ c.from_residual.ensures refl

pub returns : goal.returns
returns c = imports _ _ _ _ c.in_ok-imported.ensures _ _ _ refl c.records_of.ensures c.put_all.ensures
