use Rattle.std.proofs.Common.{refl}
use Rattle.pcap_export.proofs.Refused.{not_zero}
use Rattle.pcap_export.proofs.Ways.{refuses_too, not_refused, exports}
use Rattle.pcap_export.proofs.export.Goals as goal

pub returns-in_err-frames : goal.returns-in_err-frames
returns-in_err-frames c = refuses_too _ _ _ c.in_err-frames.ensures.number _ _ c.from_residual.ensures refl (not_zero _)

pub put_all-requires : goal.put_all-requires
put_all-requires c = not_refused _ _ _ c.in_ok-frames.ensures.number _ refl c.put_header.ensures

pub returns : goal.returns
returns c = exports _ _ _ c.in_ok-frames.ensures.number _ _ _ c.in_ok-frames.ensures.frames refl c.put_header.ensures c.put_all.ensures
