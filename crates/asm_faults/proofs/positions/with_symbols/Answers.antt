use Rattle.asm_token.specs.Seen.{token_of}
use Rattle.asm_faults.proofs.NameSets.{adds_token, adds_all}
use Rattle.asm_faults.proofs.positions.with_symbols.Goals as goal

pub returns-in-End : goal.returns-in-End
returns-in-End c ns ts h l = adds_all ns ts c.loop-names.rest.now c.loop-names.names (c.loop-names.invariant ns ts h l) c.in-End.ensures

pub returns-in-Bad : goal.returns-in-Bad
returns-in-Bad c ns ts h l = let a = c.loop-names.invariant ns ts h l in absurd (c.in-Bad.ensures a.left a.line)

pub loop-names-preserved : goal.loop-names-preserved
loop-names-preserved c ns ts h l =
    adds_token ns ts c.loop-names.rest.now c.loop-names.names (token_of c.in-Token.token) _ c.in-Token.behind.now c.in_ok-names-in-Token.names (c.loop-names.invariant ns ts h l)
    c.in-Token.ensures c.symbol_in.ensures c.in_ok-names-in-Token.ensures
