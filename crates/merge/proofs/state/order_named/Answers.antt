use Rattle.layers.proofs.WordLaws.{lent_bytes}
use Rattle.merge.proofs.LeadLaws.{lead_before, lead_after}
use borrow.Author.Rules.{rules}
use Rattle.merge.proofs.state.order_named.Goals as goal

pub returns-then-v-w : goal.returns-then-v-w
returns-then-v-w c = search (lead_after, lent_bytes, c.fits-b, rules)

pub returns-then-w-v : goal.returns-then-w-v
returns-then-w-v c = search (lead_before, lent_bytes, c.fits-b, rules)
