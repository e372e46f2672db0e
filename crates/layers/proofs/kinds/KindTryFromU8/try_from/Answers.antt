use Rattle.layers.proofs.Cases.{at_number, cases}
use Rattle.layers.specs.Kinds.{kind_of}
use borrow.Author.Rules.{rules}
use Rattle.layers.proofs.kinds.KindTryFromU8.try_from.Goals as goal

pub returns-in-1 : goal.returns-in-1
unfolding kind_of
returns-in-1 c = search (at_number kind_of, cases, rules) depth 12

pub returns-in-2 : goal.returns-in-2
unfolding kind_of
returns-in-2 c = search (at_number kind_of, cases, rules) depth 12

pub returns-in-4 : goal.returns-in-4
unfolding kind_of
returns-in-4 c = search (at_number kind_of, cases, rules) depth 12

pub returns-in-6 : goal.returns-in-6
unfolding kind_of
returns-in-6 c = search (at_number kind_of, cases, rules) depth 12

pub returns-in-8 : goal.returns-in-8
unfolding kind_of
returns-in-8 c = search (at_number kind_of, cases, rules) depth 12

pub returns-in-10 : goal.returns-in-10
unfolding kind_of
returns-in-10 c = search (at_number kind_of, cases, rules) depth 12

pub returns-in-12 : goal.returns-in-12
unfolding kind_of
returns-in-12 c = search (at_number kind_of, cases, rules) depth 12

pub returns-in_default : goal.returns-in_default
unfolding kind_of
returns-in_default c = search (at_number kind_of, cases, rules) depth 12
