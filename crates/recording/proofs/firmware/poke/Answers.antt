use Rattle.recording.proofs.ByteLaws.{poke_named}
use Rattle.forms.proofs.NamedLaws.{named_short}
use Rattle.recording.proofs.firmware.poke.Goals as goal

pub stored-requires : goal.stored-requires
stored-requires c = search named_short

pub returns : goal.returns
returns c = search poke_named
