-- A law of the top call's contract.
use Rattle.std.specs.Prelude.{ℕ}
use Rattle.vp_io.specs.declared.answers.Outcome.TheVariants.{BadWords}
use Rattle.vpo_top.specs.Outside.{Outside}
use Rattle.vpo_top.specs.Request.{Asked}
use Rattle.vpo_top.specs.Answer.{IsAnswer}

-- each form of the words has a judge that refuses some answer, whatever lies outside: words that ask for something aren't answered as bad ones
abbrev pub EachFormIsJudged : Type 0
EachFormIsJudged = (request : Asked) (before now : Outside ℕ ℕ ℕ ℕ) → IsAnswer request before now BadWords → ⊥
