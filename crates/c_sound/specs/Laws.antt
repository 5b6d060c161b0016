-- What is promised of typed trees that mean something throughout.
use Rattle.std.specs.Prelude.{◌≡◌, ℕ, List, true}
use Rattle.rtl_word.specs.Words.{IsWordSize}
use Rattle.behaviour.specs.Behaviour.{Failed, Undefined}
use Rattle.behaviour.specs.Run.{AreBytes}
use Rattle.c_tree.specs.declared.syntax.Syntax.{Syntax}
use Rattle.c_tree.specs.declared.typed.Typed.{Typed}
use Rattle.c_typing.specs.Program.{IsTyped}
use Rattle.c_meaning.specs.Parts.{Setting}
use Rattle.c_meaning.specs.Run.{source_run}
use Rattle.c_sound.specs.Sound.{is_meant}

-- no bound shows act 0, which is none of C's
abbrev pub NeverActZero : Setting → Typed → List ℕ → Type 0
NeverActZero m t input = (n : ℕ) (out : List ℕ) (line column : ℕ) → source_run m t input n ≡ Failed out (Undefined 0 line column) → ⊥

abbrev pub MeantNeverActZero : Type 0
MeantNeverActZero = (m : Setting) (t : Typed) (input : List ℕ) → IsWordSize m.bits → AreBytes input → is_meant m.bits t ≡ true → NeverActZero m t input

abbrev pub TypedIsMeant : Type 0
TypedIsMeant = (w : ℕ) (s : Syntax) (t : Typed) → IsWordSize w → IsTyped w s t → is_meant w t ≡ true

abbrev pub TypedNeverActZero : Type 0
TypedNeverActZero = (m : Setting) (s : Syntax) (t : Typed) (input : List ℕ) → IsWordSize m.bits → AreBytes input → IsTyped m.bits s t → NeverActZero m t input
