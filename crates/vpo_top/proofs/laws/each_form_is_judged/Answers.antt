use Rattle.std.proofs.Common.{ℕ, true, false}
use Rattle.vp_io.specs.declared.answers.Outcome.TheVariants.{BadWords}
use Rattle.vpo_top.specs.Outside.{Outside}
use Rattle.vpo_top.specs.Request.{Asked}
use Rattle.vpo_top.specs.Request.Asked.{Check, Show, Cc, Run}
use Rattle.vpo_top.specs.Answer.{IsAnswer}
use Rattle.vpo_top.proofs.laws.each_form_is_judged.Goals as goal

judged : (request : Asked) (before now : Outside ℕ ℕ ℕ ℕ) → IsAnswer request before now BadWords → ⊥
judged (Check desc) before now a = a.possible
judged (Show which) before now a = a
judged (Cc true plain desc src) before now a = a
judged (Cc false plain desc src) before now a = a.possible
judged (Run steps desc asm) before now a = a.possible

pub returns : goal.returns
returns c = judged
