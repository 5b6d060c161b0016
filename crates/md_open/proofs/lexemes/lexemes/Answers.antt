use Rattle.std.proofs.Common.{refl}
use Rattle.rtl_spelling.proofs.Lexed.{stuck_unlexed}
use Rattle.md_open.proofs.lexemes.lexemes.Goals as goal

pub returns-in-Err-BadToken-clause-refused : goal.returns-in-Err-BadToken-clause-refused
returns-in-Err-BadToken-clause-refused c = λ e ts l.
    stuck_unlexed c.args.text.now c.args.text.now _ ts (rw c.in-Err-BadToken.field-0-is at c.in-Err-BadToken.ensures.stuck) l refl
