-- What was read without holes can be printed.
use Rattle.std.proofs.Common.{◌≡◌, ℕ, List, [], ◌∷◌, Option, Some, None, Ok, Err, refl, ap, subst}
use Rattle.std.specs.Prelude.{Result, IfOk}
use Rattle.std.proofs.lemmas.List.Elements.{All-nil, All-cons}
use Rattle.std.proofs.lemmas.Option.{slice_get_within}
use Rattle.rtl_tree.specs.declared.cells.Cell.{Cell}
use Rattle.rtl_tree.specs.declared.cells.Cell.TheVariants.{Hard, Temp, Flag, Pc, Input, Output, Halt, Hole}
use Rattle.rtl_tree.specs.Trees.{Tree}
use Rattle.rtl_tree.specs.Moves.{Goal, ToCell, ToMemory, Move}
use Rattle.rtl_tree.specs.declared.c_names.Names.{Names}
use Rattle.rtl_spelling.specs.Holes.{Open, leaf_named}
use Rattle.rtl_spelling.specs.Spelling.{Context, Placed, Said, IsSpelledCell, Spells, number, symbol, function, block, cell, memory, unary, binary, test, hole, SpellsPlace, to_cell, to_memory, to_hole, SpellsMove, value, lost, SpellsTransfer, last, more}
use Rattle.rtl_spelling.specs.Contract.{said_of, TextSays}
use Rattle.rtl_text.specs.Seen.{printing_context, reading_context}
use Rattle.rtl_token.specs.declared.fault.TextFault.{TextFault}
use Rattle.rtl_spelling.specs.Printing.{IsPrintableCell, IsPrintableTree, IsPrintableGoal, IsPrintable}

printable_cell : (x : Cell) → IsSpelledCell x → IsPrintableCell x
printable_cell (Hard n) h = h
printable_cell (Temp n) h = tt
printable_cell (Flag n) h = h
printable_cell Pc h = tt
printable_cell Input h = tt
printable_cell Output h = tt
printable_cell Halt h = tt
printable_cell (Hole n) h = h

no_hole : (c : Context) (name : List ℕ) (leaf : Tree) → c.holes ≡ [] → leaf_named c.holes name ≡ Some leaf → ⊥
no_hole c name leaf h e = let none : leaf_named c.holes name ≡ None = ap (λ hs. leaf_named hs name) h in cc

printable_tree : (c : Context) (d : ℕ) (t : Tree) (ps : List Placed) → c.holes ≡ [] → Spells c d t ps → IsPrintableTree c t
printable_tree c _ _ _ h (number d n l) = l
printable_tree c _ _ _ h (symbol d k name e) = slice_get_within c.objects k name e
printable_tree c _ _ _ h (function d k name e) = slice_get_within c.functions k name e
printable_tree c _ _ _ h (block d k l) = tt
printable_tree c _ _ _ h (cell d x s) = printable_cell x s
printable_tree c _ _ _ h (memory d w a ps s) = printable_tree c _ a ps h s
printable_tree c _ _ _ h (unary d o a ps b s) = printable_tree c _ a ps h s
printable_tree c _ _ _ h (binary d o a b ps qs s r) = (printable_tree c _ a ps h s, printable_tree c _ b qs h r)
printable_tree c _ _ _ h (test d r n l) = l
printable_tree c _ _ _ h (hole d name leaf e) = absurd (no_hole c name leaf h e)

same_goal : (f g : Goal) → Some f ≡ Some g → f ≡ g
same_goal f g e = cc

printable_place : (c : Context) (o : Option Goal) (ps : List Placed) (g : Goal) → c.holes ≡ [] → SpellsPlace c o ps → o ≡ Some g → IsPrintableGoal c g
printable_place c _ _ g h (to_cell x s) e = subst (IsPrintableGoal c) (same_goal (ToCell x) g e) (printable_cell x s)
printable_place c _ _ g h (to_memory w a ps s) e = subst (IsPrintableGoal c) (same_goal (ToMemory w a) g e) (printable_tree c _ a ps h s)
printable_place c _ _ g h (to_hole name leaf f) e = absurd (no_hole c name leaf h f)

abbrev MayPrint : Context → Move → Type 0
MayPrint c m = IsPrintableGoal c m.to × IsPrintableTree c m.value

printable_move : (c : Context) (s : Said) (ps : List Placed) (m : Move) → c.holes ≡ [] → SpellsMove c s ps → s ≡ record { to = Some m.to; value = m.value } → MayPrint c m
printable_move c _ _ m h (value g t ps qs p v) e =
    (printable_place c g ps m.to h p (ap (λ (s : Said). s.to) e), subst (IsPrintableTree c) (ap (λ (s : Said). s.value) e) (printable_tree c _ t qs h v))
printable_move c _ _ m h (lost g ps p) e =
    (printable_place c g ps m.to h p (ap (λ (s : Said). s.to) e), subst (IsPrintableTree c) (ap (λ (s : Said). s.value) e) tt)

printable_all : (c : Context) (ss : List Said) (ps : List Placed) (ms : List Move) → c.holes ≡ [] → SpellsTransfer c ss ps → ss ≡ said_of ms → IsPrintable c ms
printable_all c _ _ [] h (last s ps p) e = cc
printable_all c _ _ (m ∷ []) h (last s ps p) e = All-cons (MayPrint c) m [] (printable_move c s ps m h p (let same : s ≡ record { to = Some m.to; value = m.value } = cc in same)) (All-nil (MayPrint c))
printable_all c _ _ (m ∷ (n ∷ ms)) h (last s ps p) e = cc
printable_all c _ _ [] h (more s ss ps qs p q) e = cc
printable_all c _ _ (m ∷ ms) h (more s ss ps qs p q) e =
    All-cons (MayPrint c) m ms (printable_move c s ps m h p (let same : s ≡ record { to = Some m.to; value = m.value } = cc in same))
    (printable_all c ss qs ms h q (let same : ss ≡ said_of ms = cc in same))

printable : (c : Context) (text : List ℕ) (ms : List Move) → c.holes ≡ [] → TextSays c text ms → IsPrintable c ms
printable c text ms h s = let p = s.spells.spelled_by in printable_all c (said_of ms) p.placed ms h p.spells refl

printable_answer : (c : Context) (text : List ℕ) (r : Result (List Move) TextFault) → c.holes ≡ [] → IfOk r (TextSays c text) → IfOk r (IsPrintable c)
printable_answer c text (Ok ms) h s = printable c text ms h s
printable_answer c text (Err f) h s = tt

pub without_holes : (w : ℕ) (n : Names) (hs : List Open) (text : List ℕ) (r : Result (List Move) TextFault) → hs ≡ [] → IfOk r (TextSays (reading_context w n hs) text)
    → IfOk r (IsPrintable (printing_context w n))
without_holes w n hs text r e s =
    let P : List Open → Type 0 = λ hs. IfOk r (TextSays (reading_context w n hs) text) in
    printable_answer (printing_context w n) text r refl (subst P e s)
