use Rattle.std.proofs.Common.{◌≡◌, ◌≢◌, ◌+◌, ◌*◌, get_or, rules}
use Rattle.std.proofs.lemmas.List.{nil_from_length, take_rest}
use Rattle.text.specs.Names.{hex_value}
use Rattle.text.proofs.NameLemmas.{unescaped-nil, unescaped_escape, unescaped_short, unescaped_plain}
use Rattle.text.proofs.names.split_byte.Goals as goal

pub returns-in-empty-clause-byte : goal.returns-in-empty-clause-byte
returns-in-empty-clause-byte c = rw (nil_from_length c.args.w.now (search rules)) unescaped-nil

pub returns-in-92-2-clause-byte : goal.returns-in-92-2-clause-byte
returns-in-92-2-clause-byte c = rw unescaped-nil (unescaped_short c.args.w.now (search rules) (search rules) (search rules))

pub returns-in-92-clause-byte : goal.returns-in-92-clause-byte
returns-in-92-clause-byte c =
    let w = c.args.w.now in
    let value : c.digit.result * 16 + c.digit-in-92.result ≡ hex_value (get_or w 1 0) * 16 + hex_value (get_or w 2 0) = search rules in
    rw (take_rest w 3, value) (unescaped_escape w (search rules) (search rules))

pub returns-in-len1-up-clause-byte : goal.returns-in-len1-up-clause-byte
returns-in-len1-up-clause-byte c =
    let w = c.args.w.now in
    let differs : get_or w 0 0 ≢ 92 = search rules in
    rw (take_rest w 1) (unescaped_plain w (search rules) differs)
