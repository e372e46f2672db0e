use Rattle.calls.proofs.CreationRecords.{no_such_kind, byte_none}
use Rattle.calls.proofs.creation.kind_of.Goals as goal

pub returns-in_err-n : goal.returns-in_err-n
returns-in_err-n c = rw c.from_residual.ensures (no_such_kind _ (byte_none _ _ _ c.try_from.ensures c.ok.ensures.value c.in_err-n.was))
