use Rattle.rtl_machine.proofs.Texts.{texts_loadable}
use Rattle.rtl_machine.proofs.law.texts_are_loadable.Goals as goal

pub returns : goal.returns
returns c = texts_loadable c.said_is_sound.ensures c.said_is_bounded.ensures
