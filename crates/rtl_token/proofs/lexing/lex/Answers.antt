use Rattle.std.proofs.Common.{arith}
use Rattle.rtl_token.specs.Seen.{tokens_of}
use Rattle.rtl_token.proofs.Cuts.{stuck_here, past_token, whole}
use Rattle.rtl_token.proofs.lexing.lex.Goals as goal

pub returns-in_default-clause-stuck : goal.returns-in_default-clause-stuck
returns-in_default-clause-stuck c =
    stuck_here c.args.text.now c.loop-rest.rest.now (tokens_of c.loop-rest.tokens.items) c.loop-rest.at c.loop-rest.invariant
    (grind arith) c.in_default.ensures.none

pub loop-rest-preserved : goal.loop-rest-preserved
loop-rest-preserved c =
    past_token c.args.text.now c.loop-rest.rest.now c.split_at.result.1.now c.loop-rest.tokens.items c.push.new.self.items c.in-Some.token
    c.loop-rest.at c.in-Some.length c.loop-rest.invariant c.in-Some.ensures.found c.in-Some.ensures.within c.split_at.ensures.back
    c.in_ok-push.ensures.items

pub returns-clause-lexes : goal.returns-clause-lexes
returns-clause-lexes c =
    whole c.args.text.now c.loop-rest.rest.now c.loop-rest.tokens.items c.push-2.new.self.items c.loop-rest.at c.loop-rest.invariant
    (grind arith) c.in_ok-push-2.ensures.items
