use Rattle.np_node.proofs.strings.short_text.Goals as goal

pub returns-then-string-gt-LIMIT-clause-fault : goal.returns-then-string-gt-LIMIT-clause-fault
returns-then-string-gt-LIMIT-clause-fault c v = c.if-string-gt-LIMIT.true
