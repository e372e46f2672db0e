use Rattle.merge.proofs.TableLaws.{upper_table, lower_table, tables}
use borrow.Author.Rules.{rules}
use Rattle.merge.proofs.tables.Layers.table.Goals as goal

pub returns-then-k-eq0 : goal.returns-then-k-eq0
returns-then-k-eq0 c = upper_table c.args.self.upper.now c.args.self.lower.now c.args.k c.if-k-eq0.true c.as_array.result c.as_array.ensures.cases

pub returns-then-k-gt3 : goal.returns-then-k-gt3
returns-then-k-gt3 c = search (tables, rules)

pub returns-then-self-a : goal.returns-then-self-a
returns-then-self-a c = search (tables, rules)

pub returns : goal.returns
returns c = lower_table c.args.self.upper.now c.args.self.lower.now c.args.k c.if-k-eq0.false c.if-k-gt3.false c.if-self-a.false c.as_array-2.result c.as_array-2.ensures.cases
