-- The change in place that a creation over a whiteout of the upper layer makes keeps what holds between calls. Assumes nothing.
use Rattle.demands.proofs.FilledInPlace.{replaced_good, replaced_sound}
use Rattle.demands.proofs.CreationKeeps.{InPlace}

pub in_place : InPlace
in_place t l s v g sound k b high walked j bj x key white e at i m hr he r good tail dir live = (
  replaced_good t l s v g k b high walked j bj x key white e at i m hr he r good tail dir live,
  replaced_sound t l s v g k b high walked j bj x key white e at i m hr he r good tail dir live sound,
)
