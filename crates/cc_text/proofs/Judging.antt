-- How a source is judged, step by step.
use Rattle.std.proofs.Common.{◌≡◌, ℕ, ◌+◌, ◌-◌, ◌<◌, List, [], sym, subst, ap, ◌∙◌, arith}
use Rattle.md_rows.specs.declared.description.RawDescription.{RawDescription}
use Rattle.md_check.specs.Checking.{IsChecked}
use Rattle.md_layout.specs.Layout.{SaidIsLaidOut}
use Rattle.c_tree.specs.declared.fault.CFault.{CFault}
use Rattle.c_tree.specs.declared.fault.CFault.TheVariants as fault
use Rattle.c_tree.specs.declared.syntax.Syntax.{Syntax}
use Rattle.c_tree.specs.declared.typed.Typed.{Typed}
use Rattle.c_grammar.specs.Words.{lexemes}
use Rattle.c_source.specs.Source.{SpellsTree, Refuses as RefusesText}
use Rattle.c_typing.specs.Program.{IsTyped}
use Rattle.c_types.specs.Answer.{Refuses as RefusesTyping}
use Rattle.c_limits.specs.Limits.{limit_faults}
use Rattle.pass_driver.specs.Compiling.{limits_broken, MayBeCompiled}
use Rattle.cc_text.specs.Sources.{IsTypedSource, IsSource, IsRefusedFor, Refuses}

pub word_is : (w : ℕ) (d : RawDescription) → IsChecked w d → d.word ≡ w
word_is w d c = ap (λ e. e.word) c.normal ∙ c.word

pub checked : (w : ℕ) (d e : RawDescription) → d ≡ e → IsChecked w d → IsChecked w e
checked w d e is c = subst (λ x. IsChecked w x) is c

-- data and stack leave some memory
pub has_room : SaidIsLaidOut → (w : ℕ) (d : RawDescription) → IsChecked w d → d.base + d.stack < d.memory
has_room law w d c = subst (λ (e : RawDescription). e.base + e.stack < e.memory) (sym c.normal) (law c.text c.said c.accepted.says).room

pub room_of : (d : RawDescription) (memory stack base : ℕ) → memory ≡ d.memory → stack ≡ d.stack → base ≡ d.base → d.base + d.stack < d.memory
    → base + stack < memory
room_of d memory stack base em es eb h = omega (arith, em, es, eb, h)

pub limits_are : (d : RawDescription) (t : Typed) (w memory stack base : ℕ) → d.word ≡ w → memory ≡ d.memory → stack ≡ d.stack → base ≡ d.base
    → limit_faults [] w (memory - stack - base) t ≡ limits_broken d t
limits_are d t w memory stack base ew em es eb =
    ap (λ v. limit_faults [] v (memory - stack - base) t) (sym ew)
    ∙ (ap (λ n. limit_faults [] d.word (n - stack - base) t) em
    ∙ (ap (λ n. limit_faults [] d.word (d.memory - n - base) t) es ∙ ap (λ n. limit_faults [] d.word (d.memory - d.stack - n) t) eb))

-- the source spells no tree
pub text_refused : (d : RawDescription) (source : List ℕ) (f : CFault) → RefusesText source f → Refuses d source f
text_refused d source fault.NoMemory h = tt
text_refused d source (fault.Bad r) h = IsRefusedFor.by_spelling h

-- it does, but breaks a rule of typing
typing_told : (d : RawDescription) (source : List ℕ) (tree : Syntax) (f : CFault) → SpellsTree source tree → RefusesTyping d.word tree f → Refuses d source f
typing_told d source tree fault.NoMemory spells h = tt
typing_told d source tree (fault.Bad r) spells h = IsRefusedFor.by_typing tree spells (record { first = h.0; detail = h.1 })

pub typing_refused : (d : RawDescription) (w : ℕ) (source : List ℕ) (tree : Syntax) (f : CFault) → d.word ≡ w → SpellsTree source tree → RefusesTyping w tree f
    → Refuses d source f
typing_refused d w source tree f e spells h = typing_told d source tree f spells (subst (λ (v : ℕ). RefusesTyping v tree f) (sym e) h)

pub typed_source : (d : RawDescription) (w : ℕ) (source : List ℕ) (tree : Syntax) (t : Typed) → d.word ≡ w → SpellsTree source tree → IsTyped w tree t
    → IsTypedSource d.word source t
typed_source d w source tree t e spells typed = record { tree = tree; spells = spells; typed = subst (λ (v : ℕ). IsTyped v tree t) (sym e) typed }

-- an accepted source may be compiled
pub may_be_compiled : (d : RawDescription) (source : List ℕ) (t : Typed) → IsSource d source t → MayBeCompiled d t
may_be_compiled d source t s = record {
  tokens = lexemes s.typed.spells.tokens;
  tree = s.typed.tree;
  spelled = s.typed.spells.spelled;
  typed = s.typed.typed;
  within = s.within;
  operators = s.operators;
}
