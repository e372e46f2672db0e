use Rattle.std.proofs.Common.{◌≡◌, ◌++◌, [], take_all, append-nil, sym, ◌∙◌, ap, rules}
use Rattle.text.specs.Names.{unescaped}
use Rattle.text.proofs.names.name.Goals as goal

pub returns-in-None : goal.returns-in-None
returns-in-None g c =
    let ended : unescaped c.loop-byte.byte-iterator.rest.now ≡ [] = search rules in
    let whole : c.loop-byte.name.items ≡ unescaped c.args.w.now = sym (append-nil _) ∙ ap (λ x. c.loop-byte.name.items ++ x) (sym ended) ∙ c.loop-byte.invariant.0 in
    sym (rw (sym whole) (take_all _ _ c.loop-byte.invariant.1))
